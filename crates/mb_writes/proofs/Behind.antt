-- The address of a transfer by its number.
use Rattle.std.proofs.Common.{◌≡◌, ℕ, zero, suc, ◌+◌, ◌*◌, ◌%◌, ◌^◌, ◌<◌, List, [], ◌∷◌, Some, sym, ◌∙◌, arith}
use Rattle.std.specs.Prelude.{slice_get}
use Rattle.mb_instr.specs.Sizes.{bytes_of}
use Rattle.mb_writes.specs.declared.transfers.Movem.{Movem}
use Rattle.mb_writes.specs.declared.transfers.Transfer.{Transfer}
use Rattle.mb_writes.specs.Transfers.{placed, transfer_step, registers_of, transfer_at, StandsBehind}

-- each is a step further than the one before
placed_at : (step at : ℕ) (registers : List ℕ) (k : ℕ) (t : Transfer) → at < 2 ^ 32
    → slice_get (placed step at registers) k ≡ Some t → t.at ≡ (at + k * step) % 2 ^ 32
placed_at step at [] k t small h = let no : ⊥ = cc in absurd no
placed_at step at (r ∷ rs) zero t small h = let e : at ≡ t.at = cc in omega arith
placed_at step at (r ∷ rs) (suc k) t small h =
    let more = placed_at step ((at + step) % 2 ^ 32) rs k t (omega arith) h in
    omega arith

pub stands_behind : (m : Movem) (ea done at : ℕ) → ea < 2 ^ 32 → at ≡ transfer_at m ea done → StandsBehind m ea done at
stands_behind m ea done at small e t h =
    placed_at (transfer_step m.mode (bytes_of m.size)) ea (registers_of m) done t small h ∙ sym e
