-- The fields of a record's bytes.
use Rattle.std.proofs.Common.{◌≡◌, ℕ, ◌+◌, ◌-◌, ◌≤◌, ◌<◌, List, [], ◌∷◌, length, take, drop, Bool, true, false, ◌&&◌, refl, ap, ◌∙◌, arith}
use Rattle.std.specs.Prelude.{IsTrue}
use Rattle.std.proofs.lemmas.Bool.{eqb-true, ltb-true}
use Rattle.std.proofs.lemmas.List.{drop-take}
use Rattle.mb_srec.specs.declared.kind.Kind.{Kind}
use Rattle.mb_srec.specs.Kinds.{address_len}
use Rattle.mb_srec.specs.Records.{has_its_length}

-- the elements from place a to before place b
pub between : {X : Type 0} (a b : ℕ) (xs : List X) → a ≤ b → drop a (take b xs) ≡ take (b - a) (drop a xs)
between a b xs h =
    let sum : b ≡ a + (b - a) = omega arith in
    ap (λ (n : ℕ). drop a (take n xs)) sum ∙ drop-take a (b - a) xs

pub both : (a b : Bool) → (a && b) ≡ true → (a ≡ true) × (b ≡ true)
both true true h = (refl, refl)
both true false h = absurd cc
both false b h = absurd cc

-- there is room for the count, the address and the checksum
pub long_enough : (kind : Kind) (bytes : List ℕ) → IsTrue (has_its_length kind bytes) → address_len kind + 2 ≤ length bytes
long_enough kind [] h = absurd cc
long_enough kind (count ∷ rest) h =
    let counted = both _ _ (both _ _ h).0 in
    let all : count ≡ length rest = eqb-true _ _ counted.0 in
    let room : address_len kind < count = ltb-true _ _ counted.1 in
    omega arith
