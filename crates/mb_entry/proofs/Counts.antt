-- How many transfers a MOVEM has.
use Rattle.std.proofs.Common.{ℕ, zero, suc, ◌+◌, ◌≤◌, [], ◌∷◌, length, Bool, true, false, if◌then◌else◌, arith, length-append}
use Rattle.mb_instr.specs.Sizes.{is_set}
use Rattle.mb_writes.specs.Transfers.{count_of, set_bits}

one_or_none : (b : Bool) (k : ℕ) → length (if b then k ∷ [] else []) ≤ 1
one_or_none true k = omega arith
one_or_none false k = omega arith

set_few : (mask k n : ℕ) → length (set_bits mask k n) ≤ n
unfolding set_bits
set_few mask k zero = omega arith
set_few mask k (suc n) =
    let one = one_or_none (is_set mask k) k in
    let more = set_few mask (k + 1) n in
    omega (arith, length-append (if is_set mask k then k ∷ [] else []) (set_bits mask (k + 1) n))

pub count_few : (mask : ℕ) → count_of mask ≤ 16
count_few mask = set_few mask 0 16
