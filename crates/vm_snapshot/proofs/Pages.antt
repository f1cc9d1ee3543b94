-- Kept entries spell: of fewer than 256 entries one page is always left.
use Rattle.std.proofs.Common.{◌≡◌, ℕ, zero, suc, ◌+◌, ◌*◌, ◌/◌, ◌%◌, ◌^◌, ◌≤◌, ◌<◌, eqb, Bool, true, false, not, List, [], ◌∷◌, length, length-append, refl, sym, ap, subst, ◌∙◌, arith, inl, inr}
use Rattle.std.specs.Prelude.{codes, if◌then◌else◌}
use Rattle.std.specs.List.{list_any}
use Rattle.std.specs.Int.{from_bool}
use Rattle.std.proofs.lemmas.Bool.{cases_Bool, cases_eq, and_parts, or_cases, or_left, or_right, leb-true, eqb-true, eq-eqb, ne_eqb}
use Rattle.mb_port.specs.declared.types.Space.{Space}
use Rattle.mb_port.specs.declared.types.Space.TheVariants.{User, Super}
use Rattle.mb_model.specs.declared.kept.Kept.{Kept}
use Rattle.mb_model.specs.Keeping.{same_space, is_of}
use Rattle.mb_spelling.specs.Spelling.{one, behind, before}
use Rattle.mb_spelling.specs.Laws.{Spells}
use Rattle.mb_spelling.specs.Hex.{any_number, passing, number, digit}
use Rattle.mb_spelling.specs.Decimals.{ranged}
use Rattle.mb_spelling.proofs.Combined.{one_spells, over_spells, both_spells, behind_spells, before_spells}
use Rattle.mb_spelling.proofs.Hex.{number_spells, digit_spells, any_is_may, passing_is_may, above}
use Rattle.mb_spelling.proofs.Ranges.{ranged_spells}
use Rattle.mb_spelling.proofs.Lists.{listed_times}
use Rattle.vm_snapshot.specs.Pages.{is_space_letter, space_of_letter, LawfulSpace, write_space, space_letter, is_free, any_digit, fields, kept_said, fields_of, LawfulKept, write_kept, kept_line, with_kept, kept_counts, kept_lines}
use Rattle.mb_report.specs.Kept.{space_letter as letter_of}

-- ---- a page is left

abbrev taken : Space → ℕ → List Kept → Bool
taken space page kept = list_any (is_of space page) kept

-- the entries of other pages
abbrev others : ℕ → List Kept → List Kept
others page [] = []
others page (k ∷ kept) = if eqb k.page page then others page kept else k ∷ others page kept

others_short : (page : ℕ) (kept : List Kept) → length (others page kept) ≤ length kept
others_short page [] = omega arith
others_short page (k ∷ kept) =
    let h = others_short page kept in
    elim (cases_Bool (eqb k.page page)) [ inl e ↦ rw e (omega arith) | inr e ↦ rw e (omega arith) ]

others_fewer : (space : Space) (page : ℕ) (kept : List Kept) → taken space page kept ≡ true → length (others page kept) < length kept
others_fewer space page [] h = absurd (let contrary : false ≡ true = h in cc)
others_fewer space page (k ∷ kept) h =
    let short = others_short page kept in
    elim (cases_Bool (eqb k.page page)) [
      | inl e ↦ rw e (omega arith)
      | inr e ↦
          elim (or_cases (is_of space page k) (taken space page kept) h) [
            | inl here ↦ absurd (let contrary : false ≡ true = sym e ∙ (and_parts (same_space k.space space) (eqb k.page page) here).1 in cc)
            | inr later ↦ let fewer = others_fewer space page kept later in rw e (omega arith)
          ]
    ]

others_taken : (space : Space) (page other : ℕ) (kept : List Kept) → (other ≡ page → ⊥) → taken space other kept ≡ true
    → taken space other (others page kept) ≡ true
others_taken space page other [] apart h = h
others_taken space page other (k ∷ kept) apart h =
    elim (or_cases (is_of space other k) (taken space other kept) h) [
      | inl here ↦
          let same : k.page ≡ other = eqb-true k.page other (and_parts (same_space k.space space) (eqb k.page other) here).1 in
          rw (ne_eqb k.page page (λ e. apart (sym same ∙ e))) (or_left (is_of space other k) (taken space other (others page kept)) here)
      | inr later ↦
          let rest = others_taken space page other kept apart later in
          elim (cases_Bool (eqb k.page page)) [ inl e ↦ rw e rest | inr e ↦ rw e (or_right (is_of space other k) (taken space other (others page kept)) rest) ]
    ]

record Left (space : Space) (kept : List Kept) (n : ℕ) : Type 0 where
  page : ℕ
  below : page < n
  free : taken space page kept ≡ false

left_page : (n : ℕ) (space : Space) (kept : List Kept) → length kept < n → Left space kept n
left_page zero space kept few = absurd (omega arith)
left_page (suc n) space kept few =
    elim (cases_Bool (taken space n kept)) [
      | inr free ↦ record { page = n; below = omega arith; free = free }
      | inl used ↦
          let fewer = others_fewer space n kept used in
          let rest = left_page n space (others n kept) (omega arith) in
          record {
            page = rest.page;
            below = omega (arith, rest.below);
            free =
                elim (cases_Bool (taken space rest.page kept)) [
                  | inr free ↦ free
                  | inl there ↦ absurd (
                      let apart : rest.page ≡ n → ⊥ = λ e. omega (arith, rest.below) in
                      let contrary : true ≡ false = sym (others_taken space n rest.page kept apart there) ∙ rest.free in cc)
                ];
          }
    ]

page_starts : (space : Space) (kept : List Kept) → length kept < 256 → passing (is_free kept space) 5 0 ≡ true
page_starts space kept few =
    let left = left_page 256 space kept few in
    let none : left.page / 16 ^ 5 ≡ 0 = omega (arith, left.below) in
    rw none at (above (passing (is_free kept space)) (passing_is_may (is_free kept space)) 5 left.page (ap not left.free))

-- ---- a line

letter_to : (c : ℕ) → is_space_letter c ≡ true → write_space (space_of_letter c) ≡ c ∷ []
letter_to c l =
    elim (cases_Bool (eqb c 83)) [
      | inl e ↦ rw e (ap (λ (x : ℕ). x ∷ []) (sym (eqb-true c 83 e)))
      | inr e ↦
          rw e (ap (λ (x : ℕ). x ∷ [])
          (let u : c ≡ 85 = (elim (or_cases _ _ l) [ inl s ↦ absurd (let contrary : true ≡ false = sym s ∙ e in cc) | inr u ↦ eqb-true c 85 u ]) in sym u))
    ]

letter_lawful : (space : Space) → is_space_letter (letter_of space) ≡ true
letter_lawful Super = refl
letter_lawful User = refl

letter_back : (space : Space) → space_of_letter (letter_of space) ≡ space
letter_back Super = refl
letter_back User = refl

letter_spells : Spells space_letter
letter_spells =
    over_spells (one is_space_letter) space_of_letter LawfulSpace write_space (one_spells is_space_letter 83 refl) (record {
      to = λ c l. tt;
      same = letter_to;
      from = λ space l. letter_of space;
      lawful = λ space l. letter_lawful space;
      back = λ space l. letter_back space;
    })

fields_spell : (kept : List Kept) → length kept < 256 → Spells (fields kept)
fields_spell kept few =
    both_spells space_letter _ letter_spells
    (λ space l. both_spells (behind (codes " ") (number (passing (is_free kept space)) 5 0)) _
    (behind_spells (codes " ") (number (passing (is_free kept space)) 5 0)
    (number_spells (passing (is_free kept space)) (passing_is_may (is_free kept space)) 5 0 (page_starts space kept few)))
    (λ page l. both_spells (behind (codes " ") (number any_number 5 0)) _
    (behind_spells (codes " ") (number any_number 5 0) (number_spells any_number any_is_may 5 0 refl))
    (λ frame l. behind_spells (codes " ") (before (digit any_digit) (10 ∷ []))
    (before_spells (digit any_digit) (10 ∷ []) (digit_spells any_digit 0 (omega arith) refl)))))

-- ---- four flags in a digit

bit_value : (x : ℕ) → from_bool (eqb (x % 2) 1) ≡ x % 2
bit_value x =
    elim (cases_eq (x % 2) 1) [
      | inl one ↦ rw (eq-eqb (x % 2) 1 one) (sym one)
      | inr other ↦ rw (ne_eqb (x % 2) 1 other) (omega arith)
    ]

flags_said : (d : ℕ) → d < 16
    → 8 * from_bool (eqb (d / 8 % 2) 1) + (4 * from_bool (eqb (d / 4 % 2) 1) + (2 * from_bool (eqb (d / 2 % 2) 1) + from_bool (eqb (d % 2) 1))) ≡ d
flags_said d small = rw (bit_value (d / 8), bit_value (d / 4), bit_value (d / 2), bit_value d) (omega arith)

abbrev made : Space → ℕ → ℕ → Bool → Bool → Bool → Bool → Kept
made space page frame w s g m = record { space = space; page = page; frame = frame; w = w; s = s; g = g; m = m }

flags_back : (space : Space) (page frame : ℕ) (w s g m : Bool)
    → kept_said (space, (page, (frame, 8 * from_bool w + (4 * from_bool s + (2 * from_bool g + from_bool m))))) ≡ made space page frame w s g m
flags_back space page frame true true true true = refl
flags_back space page frame true true true false = refl
flags_back space page frame true true false true = refl
flags_back space page frame true true false false = refl
flags_back space page frame true false true true = refl
flags_back space page frame true false true false = refl
flags_back space page frame true false false true = refl
flags_back space page frame true false false false = refl
flags_back space page frame false true true true = refl
flags_back space page frame false true true false = refl
flags_back space page frame false true false true = refl
flags_back space page frame false true false false = refl
flags_back space page frame false false true true = refl
flags_back space page frame false false true false = refl
flags_back space page frame false false false true = refl
flags_back space page frame false false false false = refl

fields_back : (v : Space × (ℕ × (ℕ × ℕ))) → v.1.1.1 < 16 → fields_of (kept_said v) ≡ v
fields_back v small = ap (λ (d : ℕ). (v.0, (v.1.0, (v.1.1.0, d)))) (flags_said (v.1.1.1) small)

line_spells : (kept : List Kept) → length kept < 256 → Spells (kept_line kept)
line_spells kept few =
    over_spells (fields kept) kept_said (LawfulKept kept) (write_kept kept) (fields_spell kept few) (record {
      to = λ v l. subst (fields kept).IsLawful (sym (fields_back v l.1.1.1.0)) l;
      same = λ v l. ap (fields kept).write (fields_back v l.1.1.1.0);
      from = λ k l. fields_of k;
      lawful = λ k l. l;
      back = λ k l. flags_back k.space k.page k.frame k.w k.s k.g k.m;
    })

-- ---- all lines

abbrev Room : ℕ → List Kept → Type 0
Room n kept = length kept + n ≤ 256

counts_spell : Spells (ranged kept_counts 10)
counts_spell = ranged_spells kept_counts 10 0 (omega arith) (omega arith) refl refl

pub kept_spell : Spells kept_lines
kept_spell =
    behind_spells (codes "kept ") _
    (listed_times (λ left kept. kept_line kept) with_kept Room [] kept_counts 10 (λ n kept room. line_spells kept (omega arith))
    (λ n kept k room l. omega (arith, length-append kept (k ∷ []))) counts_spell
    (λ n l. let h : n ≤ 256 = leb-true n 256 (and_parts _ _ (and_parts _ _ l).0).1 in omega arith))
