-- What operands say has as many words of its own as their length says, and each of 16 bits.
use Rattle.std.proofs.Common.{◌≡◌, ℕ, ◌+◌, ◌*◌, ◌%◌, ◌^◌, ◌<◌, Bool, true, false, List, [], ◌∷◌, Option, Some, None, subst, arith}
use Rattle.std.specs.Prelude.{ℤ, if◌then◌else◌, option_map, option_and_then}
use Rattle.mb_instr.specs.declared.size.Size.{Size}
use Rattle.mb_instr.specs.declared.size.Size.TheVariants as size
use Rattle.mb_instr.specs.Sizes.{values_of}
use Rattle.mb_syntax.specs.declared.mode.Mode.{Mode}
use Rattle.mb_syntax.specs.declared.mode.Mode.TheVariants as mode
use Rattle.mb_syntax.specs.declared.operand.Operand.{Operand}
use Rattle.mb_syntax.specs.declared.operand.Operand.TheVariants as operand
use Rattle.mb_mnemonics.specs.declared.pattern.Pattern.{Pattern}
use Rattle.mb_mnemonics.specs.declared.pattern.Pattern.TheVariants as pattern
use Rattle.mb_mnemonics.specs.declared.pattern.Place.{Place}
use Rattle.mb_mnemonics.specs.declared.pattern.Place.TheVariants as place
use Rattle.mb_mnemonics.specs.declared.range.Range.TheVariants as range
use Rattle.mb_mnemonics.specs.Ranges.{branch, displacement, immediate_range, is_reserved, number, values}
use Rattle.mb_mnemonics.specs.Modes.{extension_words, mode_words}
use Rattle.mb_mnemonics.specs.Operands.{Said, ea_said, field_bits, is_data, mode_said, operand_said, operand_words, operands_said, operands_words}
use Rattle.mb_mnemonics.specs.Operands.{reach_said, register_at, source_bits, takes_mode, takes_operand, takes_operands, together, value_of}
use Rattle.mb_mnemonics.proofs.ModeWords.{Fits, both_fit, chained, displacement_small, immediate_fits, long_fits, mapped, mode_fits, none_fits}
use Rattle.mb_mnemonics.proofs.ModeWords.{number_small}
use Rattle.mb_instr.proofs.Ranges.{and_is}

-- what an option gives
part_fits : {A : Type 0} (n : ℕ) (f : A → Said) (o : Option A) (a : Said) → ((x : A) → o ≡ Some x → Fits n (f x).own)
    → option_map f o ≡ Some a → Fits n a.own
part_fits n f o a h e = let m = mapped f o a e in subst (λ y. Fits n y.own) m.1.1 (h m.0 m.1.0)

some_fits : (n : ℕ) (x a : Said) → Fits n x.own → Some x ≡ Some a → Fits n a.own
some_fits n x a h e = let k : x ≡ a = cc in subst (λ y. Fits n y.own) k h

ea_fits : (s : Size) (here bits : ℕ) (m : Mode ℤ) (a : Said) → ea_said s here bits m ≡ Some a → Fits (mode_words s m) a.own
ea_fits s here bits m a e = part_fits (mode_words s m) _ (extension_words s here m) a (λ ws k. mode_fits s here m ws k) e

data_fits : (s : Size) (here bits : ℕ) (m : Mode ℤ) (a : Said) → is_data m ≡ true → ea_said s here bits m ≡ Some a → Fits 0 a.own
data_fits s here bits (mode.Data n) a d e = some_fits 0 _ a none_fits e
data_fits s here bits _ a d e = absurd cc

distance_fits : (r s : Size) (o : Operand ℤ) (d : ℕ) → d < values (immediate_range r) → Fits (operand_words (pattern.Distance r) s o) (reach_said r d).own
distance_fits size.Byte s o d h = none_fits
distance_fits size.Word s o d h = none_fits
distance_fits size.Long s o d h = long_fits d h

target_fits : (r s : Size) (o : Operand ℤ) (d : ℕ) → d < values_of r → Fits (operand_words (pattern.Target r) s o) (reach_said r d).own
target_fits size.Byte s o d h = none_fits
target_fits size.Word s o d h = none_fits
target_fits size.Long s o d h = long_fits d h

unreserved : (b : Bool) (x y : ℕ) → (if b then None else Some x) ≡ Some y → x ≡ y
unreserved true x y e = absurd cc
unreserved false x y e = cc

branch_small : (r : Size) (at : ℕ) (e : ℤ) (d : ℕ) → branch r at e ≡ Some d → d < values_of r
branch_small r at e d h =
    let c = chained (λ x. if is_reserved r x then None else Some x) (displacement r ((at + 2) % 2 ^ 32) e) d h in
    subst (λ y. y < values_of r) (unreserved (is_reserved r c.0) c.0 d c.1.1) (displacement_small r ((at + 2) % 2 ^ 32) e c.0 c.1.0)

by_place : (pl : Place) (n : ℕ) → Fits 0 (register_at pl n).own
by_place place.X n = none_fits
by_place place.Y n = none_fits
by_place _ n = none_fits

mode_own : (pat : Pattern) (s : Size) (at here : ℕ) (m : Mode ℤ) (a : Said) → takes_mode pat s m ≡ true → mode_said pat s at here m ≡ Some a
    → Fits (operand_words pat s (operand.Mode m)) a.own
mode_own (pattern.Mode c) s at here m a k e = ea_fits s here _ m a e
mode_own (pattern.Memory c) s at here m a k e = ea_fits s here _ m a e
mode_own (pattern.Destination c) s at here m a k e = ea_fits s here _ m a e
mode_own pattern.DataMode s at here m a k e = data_fits s here _ m a k e
mode_own (pattern.Data pl) s at here m a k e = some_fits 0 _ a (by_place pl _) e
mode_own (pattern.Address pl) s at here m a k e = some_fits 0 _ a (by_place pl _) e
mode_own (pattern.Register pl) s at here m a k e = some_fits 0 _ a (by_place pl _) e
mode_own (pattern.Indirect pl) s at here m a k e = some_fits 0 _ a (by_place pl _) e
mode_own (pattern.PostIncrement pl) s at here m a k e = some_fits 0 _ a (by_place pl _) e
mode_own (pattern.PreDecrement pl) s at here m a k e = some_fits 0 _ a (by_place pl _) e
mode_own pattern.Immediate s at here m a k e =
    part_fits _ _ (number (immediate_range s) (value_of m)) a (λ v h. immediate_fits s v (number_small (immediate_range s) (value_of m) v h)) e
mode_own (pattern.Quick r) s at here m a k e = part_fits 0 _ (number r (value_of m)) a (λ v h. none_fits) e
mode_own pattern.WordNumber s at here m a k e = part_fits 0 _ (number range.Word (value_of m)) a (λ v h. none_fits) e
mode_own (pattern.Distance r) s at here m a k e =
    part_fits _ (reach_said r) (number (immediate_range r) (value_of m)) a
    (λ d h. distance_fits r s (operand.Mode m) d (number_small (immediate_range r) (value_of m) d h)) e
mode_own (pattern.Target r) s at here m a k e =
    part_fits _ (reach_said r) (branch r at (value_of m)) a (λ d h. target_fits r s (operand.Mode m) d (branch_small r at (value_of m) d h)) e
mode_own pattern.RegisterList s at here m a k e = some_fits 0 _ a none_fits e
mode_own pattern.ReversedList s at here m a k e = some_fits 0 _ a none_fits e
mode_own pattern.Displaced s at here m a k e = part_fits 0 _ (number range.Displacement16 (value_of m)) a (λ d h. none_fits) e
mode_own pattern.Absolute s at here m a k e =
    part_fits 2 _ (number range.Long (value_of m)) a (λ v h. long_fits v (number_small range.Long (value_of m) v h)) e
mode_own (pattern.FieldMode c) s at here m a k e = absurd cc
mode_own _ s at here m a k e = absurd cc

field_own : (s : Size) (here : ℕ) (m : Mode ℤ) (bits : Option ℕ) (a : Said) → option_and_then
    (λ w. option_map (λ ws. record { first = source_bits m; second = w; third = 0; own = ws }) (extension_words s here m)) bits ≡ Some a
    → Fits (mode_words s m) a.own
field_own s here m bits a e =
    let c = chained (λ w. option_map (λ ws. record { first = source_bits m; second = w; third = 0; own = ws }) (extension_words s here m)) bits a e in
    part_fits (mode_words s m) _ (extension_words s here m) a (λ ws k. mode_fits s here m ws k) c.1.1

operand_own : (pat : Pattern) (s : Size) (at here : ℕ) (o : Operand ℤ) (a : Said) → takes_operand pat s o ≡ true
    → operand_said pat s at here o ≡ Some a → Fits (operand_words pat s o) a.own
operand_own pat s at here (operand.Mode m) a k e = mode_own pat s at here m a k e
operand_own (pattern.FieldMode c) s at here (operand.Field m f) a k e = field_own s here m (field_bits f) a e
operand_own (pattern.Mode c) s at here (operand.Field m f) a k e = absurd cc
operand_own _ s at here (operand.Field m f) a k e = absurd cc
operand_own pattern.Sr s at here operand.Sr a k e = some_fits 0 _ a none_fits e
operand_own _ s at here operand.Sr a k e = absurd cc
operand_own pattern.Ccr s at here operand.Ccr a k e = some_fits 0 _ a none_fits e
operand_own _ s at here operand.Ccr a k e = absurd cc
operand_own pattern.Control s at here (operand.Control c) a k e = some_fits 0 _ a none_fits e
operand_own pattern.Usp s at here (operand.Control c) a k e = some_fits 0 _ a none_fits e
operand_own _ s at here (operand.Control c) a k e = absurd cc
operand_own pattern.RegisterList s at here (operand.List l) a k e = some_fits 0 _ a none_fits e
operand_own pattern.ReversedList s at here (operand.List l) a k e = some_fits 0 _ a none_fits e
operand_own _ s at here (operand.List l) a k e = absurd cc
operand_own (pattern.Pair h l) s at here (operand.Pair n m) a k e = some_fits 0 _ a none_fits e
operand_own (pattern.Pairs pl) s at here (operand.Pair n m) a k e = some_fits 0 _ a none_fits e
operand_own _ s at here (operand.Pair n m) a k e = absurd cc
operand_own pattern.IndirectPairs s at here (operand.IndirectPair n m) a k e = some_fits 0 _ a none_fits e
operand_own _ s at here (operand.IndirectPair n m) a k e = absurd cc
operand_own pattern.Caches s at here (operand.Caches c) a k e = some_fits 0 _ a none_fits e
operand_own _ s at here (operand.Caches c) a k e = absurd cc
operand_own _ s at here (operand.Text x) a k e = absurd cc

-- ---- all operands

pub record AllFit (n : ℕ) (a : Said) : Type 0 where
  pub own : Fits n a.own
  pub third : a.third < 2 ^ 16

more_fit : (n m : ℕ) (q a : Said) → AllFit n q → Fits m a.own → AllFit (n + m) (together q a)
more_fit n m q a h k = record { own = both_fit n m q.own a.own h.own k; third = omega arith }

pub operands_fit : (ps : List Pattern) (s : Size) (at here n : ℕ) (os : List (Operand ℤ)) (q a : Said) → takes_operands ps s os ≡ true
    → AllFit n q → operands_said ps s at here os q ≡ Some a → AllFit (n + operands_words ps s os) a
operands_fit [] s at here n [] q a k h e =
    let x : q ≡ a = cc in
    let z : n ≡ n + 0 = omega arith in
    subst (λ y. AllFit (n + 0) y) x (subst (λ y. AllFit y q) z h)
operands_fit [] s at here n (o ∷ os) q a k h e = absurd cc
operands_fit (p ∷ ps) s at here n [] q a k h e = absurd cc
operands_fit (p ∷ ps) s at here n (o ∷ os) q a k h e =
    let both = and_is (takes_operand p s o) (takes_operands ps s os) k in
    let w = operand_words p s o in
    let there = (here + 2 * w) % 2 ^ 32 in
    let c = chained (λ more. operands_said ps s at there os (together q more)) (operand_said p s at here o) a e in
    let one = operand_own p s at here o c.0 both.0 c.1.0 in
    let rest = operands_fit ps s at there (n + w) os (together q c.0) a both.1 (more_fit n w q c.0 h one) c.1.1 in
    let z : n + w + operands_words ps s os ≡ n + (w + operands_words ps s os) = omega arith in
    subst (λ y. AllFit y a) z rest
