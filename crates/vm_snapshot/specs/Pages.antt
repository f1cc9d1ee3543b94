-- Kept entries: so many lines, of pages that differ in space or number.
use Rattle.std.specs.Prelude.{ℕ, ◌/◌, ◌%◌, ◌==◌, not, Bool, true, ◌||◌, if◌then◌else◌, List, [], ◌∷◌, ◌++◌, codes}
use Rattle.std.specs.List.{list_any}
use Rattle.mb_port.specs.declared.types.Space.{Space}
use Rattle.mb_port.specs.declared.types.Space.TheVariants.{User, Super}
use Rattle.mb_model.specs.declared.kept.Kept.{Kept}
use Rattle.mb_model.specs.Keeping.{is_of}
use Rattle.mb_spelling.specs.Spelling.{Spelling, one, both, over, behind, before}
use Rattle.mb_spelling.specs.Hex.{any_number, passing, number, digit}
use Rattle.mb_spelling.specs.Decimals.{Range, from_to}
use Rattle.mb_spelling.specs.Lists.{times, listed}
use Rattle.mb_report.specs.Kept.{flags_of}

-- ---- S or U

abbrev pub is_space_letter : ℕ → Bool
is_space_letter c = (c == 83) || (c == 85)

abbrev pub space_of_letter : ℕ → Space
space_of_letter c = if c == 83 then Super else User

abbrev pub LawfulSpace : Space → Type 0
LawfulSpace space = Unit {0}

abbrev pub write_space : Space → List ℕ
write_space Super = 83 ∷ []
write_space User = 85 ∷ []

abbrev pub space_letter : Spelling Space
space_letter = over (one is_space_letter) space_of_letter LawfulSpace write_space

-- ---- a line

-- no entry of the space and the page came before
abbrev pub is_free : List Kept → Space → ℕ → Bool
is_free kept space page = not (list_any (is_of space page) kept)

abbrev pub any_digit : ℕ → Bool
any_digit d = true

-- space, page, frame and the digit of the four flags
abbrev pub Fields : Type 0
Fields = Space × (ℕ × (ℕ × ℕ))

abbrev pub fields : List Kept → Spelling (Space × (ℕ × (ℕ × ℕ)))
fields kept =
    both space_letter (λ space. both (behind (codes " ") (number (passing (is_free kept space)) 5 0))
    (λ page. both (behind (codes " ") (number any_number 5 0))
    (λ frame. behind (codes " ") (before (digit any_digit) (10 ∷ [])))))

abbrev pub kept_said : Space × (ℕ × (ℕ × ℕ)) → Kept
kept_said v = record {
  space = v.0;
  page = v.1.0;
  frame = v.1.1.0;
  w = v.1.1.1 / 8 % 2 == 1;
  s = v.1.1.1 / 4 % 2 == 1;
  g = v.1.1.1 / 2 % 2 == 1;
  m = v.1.1.1 % 2 == 1;
}

abbrev pub fields_of : Kept → Space × (ℕ × (ℕ × ℕ))
fields_of k = (k.space, (k.page, (k.frame, flags_of k)))

abbrev pub LawfulKept : List Kept → Kept → Type 0
LawfulKept kept k = (fields kept).IsLawful (fields_of k)

abbrev pub write_kept : List Kept → Kept → List ℕ
write_kept kept k = (fields kept).write (fields_of k)

abbrev pub kept_line : List Kept → Spelling Kept
kept_line kept = over (fields kept) kept_said (LawfulKept kept) (write_kept kept)

-- ---- all lines

abbrev pub with_kept : List Kept → Kept → List Kept
with_kept kept k = kept ++ k ∷ []

abbrev pub kept_counts : Range
kept_counts = from_to 0 256

abbrev pub kept_lines : Spelling (List Kept)
kept_lines = behind (codes "kept ") (listed kept_counts 10 (λ n. times (λ left kept. kept_line kept) with_kept n []))
