-- What holds of each instruction that can be picked holds of the one that is.
use Rattle.std.proofs.Common.{ℕ, ◌%◌, Bool, true, false, cond}
use Rattle.std.specs.Prelude.{◌==◌}
use Rattle.mb_gen.specs.Instructions.{Spelled, place_of, moveq, add, sub, eor, mulu, lsr, store, load, picked_by}

cases : (P : Spelled → Type 0) (b0 b1 b2 b3 b4 b5 b6 : Bool) (x0 x1 x2 x3 x4 x5 x6 x7 : Spelled) → P x0 → P x1 → P x2 → P x3 → P x4 → P x5 → P x6 → P x7 →
    P (cond b0 x0 (cond b1 x1 (cond b2 x2 (cond b3 x3 (cond b4 x4 (cond b5 x5 (cond b6 x6 x7)))))))
cases P true b1 b2 b3 b4 b5 b6 x0 x1 x2 x3 x4 x5 x6 x7 p0 p1 p2 p3 p4 p5 p6 p7 = p0
cases P false true b2 b3 b4 b5 b6 x0 x1 x2 x3 x4 x5 x6 x7 p0 p1 p2 p3 p4 p5 p6 p7 = p1
cases P false false true b3 b4 b5 b6 x0 x1 x2 x3 x4 x5 x6 x7 p0 p1 p2 p3 p4 p5 p6 p7 = p2
cases P false false false true b4 b5 b6 x0 x1 x2 x3 x4 x5 x6 x7 p0 p1 p2 p3 p4 p5 p6 p7 = p3
cases P false false false false true b5 b6 x0 x1 x2 x3 x4 x5 x6 x7 p0 p1 p2 p3 p4 p5 p6 p7 = p4
cases P false false false false false true b6 x0 x1 x2 x3 x4 x5 x6 x7 p0 p1 p2 p3 p4 p5 p6 p7 = p5
cases P false false false false false false true x0 x1 x2 x3 x4 x5 x6 x7 p0 p1 p2 p3 p4 p5 p6 p7 = p6
cases P false false false false false false false x0 x1 x2 x3 x4 x5 x6 x7 p0 p1 p2 p3 p4 p5 p6 p7 = p7

pub picked_is : (P : Spelled → Type 0) (kind d e h : ℕ) → P (moveq d (h % 256)) → P (add d e) → P (sub d e) → P (eor d e) → P (mulu d e) → P (lsr d e) →
    P (store d (place_of h)) → P (load d (place_of h)) → P (picked_by kind d e h)
picked_is P kind d e h p0 p1 p2 p3 p4 p5 p6 p7 =
    cases P (kind == 0) (kind == 1) (kind == 2) (kind == 3) (kind == 4) (kind == 5) (kind == 6) _ _ _ _ _ _ _ _ p0 p1 p2 p3 p4 p5 p6 p7
