-- Entries that are kept, one behind the other.
use Rattle.std.proofs.Common.{◌≡◌, ℕ, suc, ◌+◌, ◌*◌, List, [], ◌∷◌, ◌++◌, refl, sym, ap, arith}
use Rattle.mb_model.specs.declared.kept.Kept.{Kept}
use Rattle.mb_spelling.specs.Hex.{any_number, digit, hex_value, is_digit_of, read_number}
use Rattle.mb_spelling.specs.Reads.{Place, lines_to}
use Rattle.mb_spelling.specs.Spelling.{Reading, Read, Short, Wrong, mapped, followed, read_one}
use Rattle.mb_spelling.proofs.Loops.{TimesGoing, times_begun, times_on}
use Rattle.vm_snapshot.specs.Pages.{any_digit, kept_line, with_kept}

-- ---- a digit is a number of one digit

first_digit : (r : Reading ℕ) → mapped (λ (v : ℕ × ℕ). v.1) (followed r (λ d rest. Read (16 * 0 + d) rest)) ≡ r
first_digit (Read d rest) = ap (λ (n : ℕ). Read n rest) (omega arith)
first_digit Short = refl
first_digit (Wrong rest) = refl

pub one_digit : (text : List ℕ) → (digit any_digit).read text ≡ read_number any_number 1 0 text
unfolding read_number
one_digit text = sym (first_digit (mapped hex_value (read_one (is_digit_of any_digit) text)))

-- ---- entries

abbrev pub KeptGoing : (start here : Place) (count left : ℕ) (kept : List Kept) → Type 0
KeptGoing start here count left kept = TimesGoing (λ left kept. kept_line kept) with_kept start here count [] left kept kept

pub kept_begun : (start here : Place) (count : ℕ) (kept : List Kept) → here ≡ start → kept ≡ [] → KeptGoing start here count count kept
kept_begun start here count kept at_start none =
    rw none (times_begun (λ left kept. kept_line kept) with_kept start here count [] [] at_start refl)

pub kept_on : (start here new : Place) (count left more : ℕ) (kept later : List Kept) (k : Kept) → KeptGoing start here count left kept → left ≡ suc more
    → (kept_line kept).read here.left ≡ Read k new.left → lines_to new ≡ lines_to here → later ≡ kept ++ k ∷ [] → KeptGoing start new count more later
kept_on start here new count left more kept later k going one read passed added =
    rw added (times_on (λ left kept. kept_line kept) with_kept start here new count [] left more kept kept (kept ++ k ∷ []) k going one read passed refl)
