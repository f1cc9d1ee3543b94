-- A frame with CT asks for the trace that was due.
use Rattle.std.proofs.Common.{◌≡◌, ℕ, ◌/◌, ◌%◌, ◌^◌, ◌<◌, Bool, true, false, refl, arith}
use Rattle.std.specs.Prelude.{◌==◌, ◌||◌, bit_or, max}
use Rattle.std.specs.Int.{bit_at}
use Rattle.std.proofs.lemmas.Bool.Decides.{nat_tests}
use Rattle.std.proofs.lemmas.Nat.Bits.{bit_at_or, bit_at-lt}
use Rattle.mb_frames.specs.declared.frame.Access.{Access}
use Rattle.mb_frames.specs.declared.status_bits.TheConstants.{CT}
use Rattle.def_processor.specs.Raise.{has_ct, with_ct}

is_one : (n : ℕ) → n ≡ 1 → (n == 1) ≡ true
is_one n h = grind (arith, nat_tests)

ct_is_set : (word : ℕ) → (bit_or word CT / 2 ^ 13 % 2 == 1) ≡ true
ct_is_set word =
    let both : bit_at (bit_or word CT) 13 ≡ max (bit_at word 13) 1 = bit_at_or word CT 13 in
    let less : bit_at word 13 < 2 = bit_at-lt word 13 in
    is_one (bit_or word CT / 2 ^ 13 % 2) (let one : bit_at (bit_or word CT) 13 ≡ 1 = omega (arith, both, less) in one)

pub ct_asks : (due : Bool) (access : Access) → has_ct (with_ct due access) ≡ (due || has_ct access)
ct_asks true access = ct_is_set access.ssw
ct_asks false access = refl
