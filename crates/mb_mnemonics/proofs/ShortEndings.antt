-- The endings of names are short.
use Rattle.std.proofs.Common.{◌≡◌, ℕ, ◌≤◌, Bool, true, false, List, [], ◌∷◌, length, refl, arith, zero-le}
use Rattle.std.specs.Prelude.{◌==◌, nat_le, if◌then◌else◌}
use Rattle.std.specs.List.{list_all}
use Rattle.std.proofs.lemmas.Bool.Decides.{nat_tests}
use Rattle.mb_instr.specs.Kinds.{condition_bits}
use Rattle.mb_mnemonics.specs.declared.endings.NameOf.{NameOf}
use Rattle.mb_mnemonics.specs.declared.line.Ending.{Ending}
use Rattle.mb_mnemonics.specs.declared.line.Ending.TheVariants as ending
use Rattle.mb_mnemonics.specs.Code.{most_ending}
use Rattle.mb_mnemonics.specs.Lines.{ending_name, endings, stem_of}
use Rattle.mb_instr.proofs.Ranges.{and_is}

le_is : (a b : ℕ) → nat_le a b ≡ true → a ≤ b
le_is a b h = grind (arith, nat_tests)

abbrev pub is_short : ℕ → NameOf → Bool
is_short most n = nat_le (length (stem_of n.name)) most

short_among : (most : ℕ) (ns : List NameOf) (number : ℕ) → list_all (is_short most) ns ≡ true
    → length (ending_name ns number) ≤ most
short_among most [] number h = zero-le
short_among most (n ∷ ns) number h =
    let parts = and_is (is_short most n) (list_all (is_short most) ns) h in
    elim (condition_bits n.condition == number) as (λ b. length (if b then stem_of n.name else ending_name ns number) ≤ most) [
      | true ↦ le_is (length (stem_of n.name)) most parts.0
      | false ↦ short_among most ns number parts.1
    ]

pub short_ending : (e : Ending) (number : ℕ) → length (ending_name (endings e) number) ≤ most_ending e
short_ending ending.Plain number = short_among 0 (endings ending.Plain) number refl
short_ending ending.Condition number = short_among 2 (endings ending.Condition) number refl
short_ending ending.Branch number = short_among 2 (endings ending.Branch) number refl
