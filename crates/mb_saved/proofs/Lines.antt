-- The lines of a memory, and the memory that they give back.
use Rattle.std.proofs.Common.{◌≡◌, ◌∙◌, ℕ, zero, suc, ◌+◌, ◌-◌, ◌*◌, ◌/◌, ◌≤◌, ◌<◌, ◌==◌, List, [], ◌∷◌, ◌++◌, length, take, drop, replicate, refl, ap, sym, subst, true, false, inl, inr, arith}
use Rattle.std.specs.Prelude.{All}
use Rattle.std.specs.List.{AllPairs}
use Rattle.std.proofs.lemmas.Bool.{cases_Bool}
use Rattle.std.proofs.lemmas.Bool.Decides.{nat_tests}
use Rattle.std.proofs.lemmas.List.{append-nil, append_assoc, take_all, take_at, drop_at, drop-drop, drop-take, take-append-drop, take-take, drop-replicate, length-take-le, length-drop, replicate-append-replicate}
use Rattle.std.proofs.lemmas.List.Elements.{All-append, All-cons, All-nil, All-weaker}
use Rattle.std.proofs.lemmas.List.Quantifiers.{all_pairs_push}
use Rattle.mb_walk.specs.Memory.{overwritten, with_contents}
use Rattle.mb_saved.specs.declared.line.RamLine.{RamLine}
use Rattle.mb_saved.specs.Saved.{IsLine, is_zero}
use Rattle.mb_saved.specs.Lines.{MemoryIsGivenBack, LinesLieInMemory, LinesAscend, contents_of, first_lines, line_at}

-- ---- memory

zero_row : (row : List ℕ) → is_zero row ≡ true → row ≡ replicate (length row) 0
zero_row [] h = refl
zero_row (byte ∷ row) h = elim (cases_Bool (byte == 0)) [
  | inl holds ↦
      let rest : is_zero row ≡ true = rw holds at h in
      let none : byte ≡ 0 = grind (arith, nat_tests) in
      ap (λ (b : ℕ). b ∷ row) none ∙ ap (λ (r : List ℕ). 0 ∷ r) (zero_row row rest)
  | inr fails ↦ absurd (let f : false ≡ true = rw fails at h in cc)
]

-- memory with lines
abbrev with_lines : List ℕ → List RamLine → List ℕ
with_lines ram lines = with_contents ram (contents_of lines)

lines_append : (ram : List ℕ) (a b : List RamLine) → with_lines ram (a ++ b) ≡ with_lines (with_lines ram a) b
lines_append ram [] b = refl
lines_append ram (line ∷ a) b = lines_append (overwritten ram line.at line.bytes) a b

-- bytes over the first of the zeros behind others
over_zeros : (front row : List ℕ) (k at : ℕ) → length front ≡ at
    → overwritten (front ++ replicate k 0) at row ≡ (front ++ row) ++ replicate (k - length row) 0
over_zeros front row k at e =
    ap (λ (f : List ℕ). f ++ row ++ drop (at + length row) (front ++ replicate k 0)) (take_at front (replicate k 0) at e)
    ∙ ap (λ (d : List ℕ). front ++ row ++ d)
    (sym (drop-drop (length row) at (front ++ replicate k 0))
    ∙ ap (drop (length row)) (drop_at front (replicate k 0) at e)
    ∙ drop-replicate (length row) k 0)

-- one line more
abbrev row_of : List ℕ → ℕ → List ℕ
row_of ram n = take 16 (drop (16 * n) ram)

row_length : (ram : List ℕ) (n : ℕ) → 16 * suc n ≤ length ram → length (row_of ram n) ≡ 16
row_length ram n h = length-take-le 16 (drop (16 * n) ram) (let e = length-drop (16 * n) ram in omega arith)

row_joined : (ram : List ℕ) (n : ℕ) → take (16 * n) ram ++ row_of ram n ≡ take (16 * suc n) ram
row_joined ram n =
    ap (λ (f : List ℕ). f ++ row_of ram n) (sym (take-take (16 * n) (16 * n + 16) ram (omega arith)))
    ∙ ap (λ (r : List ℕ). take (16 * n) (take (16 * n + 16) ram) ++ r) (sym (drop-take (16 * n) 16 ram))
    ∙ take-append-drop (16 * n) (take (16 * n + 16) ram)
    ∙ ap (λ (k : ℕ). take k ram) (let e : 16 * n + 16 ≡ 16 * suc n = omega arith in e)

line_back : (ram : List ℕ) (n : ℕ) → 16 * suc n ≤ length ram
    → with_lines (take (16 * n) ram ++ replicate (length ram - 16 * n) 0) (line_at (16 * n) (row_of ram n))
    ≡ take (16 * suc n) ram ++ replicate (length ram - 16 * suc n) 0
line_back ram n h =
    let front = take (16 * n) ram in
    let row = row_of ram n in
    let left = length ram - 16 * suc n in
    let count : length row ≡ 16 = row_length ram n h in
    let at : length front ≡ 16 * n = length-take-le (16 * n) ram (omega arith) in
    let ends : (front ++ row) ++ replicate left 0 ≡ take (16 * suc n) ram ++ replicate left 0 =
    ap (λ (f : List ℕ). f ++ replicate left 0) (row_joined ram n) in
    elim (cases_Bool (is_zero row)) [
      | inl holds ↦
          let zeros : row ≡ replicate 16 0 = zero_row row holds ∙ ap (λ (k : ℕ). replicate k 0) count in
          let line : line_at (16 * n) row ≡ [] = rw holds refl in
          ap (with_lines (front ++ replicate (length ram - 16 * n) 0)) line
          ∙ ap (λ (k : ℕ). front ++ replicate k 0) (let e : length ram - 16 * n ≡ 16 + left = omega arith in e)
          ∙ ap (λ (z : List ℕ). front ++ z) (sym (replicate-append-replicate 16 left 0))
          ∙ sym (append_assoc front (replicate 16 0) (replicate left 0))
          ∙ ap (λ (r : List ℕ). (front ++ r) ++ replicate left 0) (sym zeros)
          ∙ ends
      | inr fails ↦
          let line : line_at (16 * n) row ≡ (record { at = 16 * n; bytes = row }) ∷ [] = rw fails refl in
          ap (with_lines (front ++ replicate (length ram - 16 * n) 0)) line
          ∙ over_zeros front row (length ram - 16 * n) (16 * n) at
          ∙ ap (λ (k : ℕ). (front ++ row) ++ replicate k 0) (let e : length ram - 16 * n - length row ≡ left = omega arith in e)
          ∙ ends
    ]

lines_back : (ram : List ℕ) (n : ℕ) → 16 * n ≤ length ram
    → with_lines (replicate (length ram) 0) (first_lines ram n) ≡ take (16 * n) ram ++ replicate (length ram - 16 * n) 0
lines_back ram zero h = ap (λ (k : ℕ). replicate k 0) (let e : length ram ≡ length ram - 16 * 0 = omega arith in e)
lines_back ram (suc n) h =
    lines_append (replicate (length ram) 0) (first_lines ram n) (line_at (16 * n) (row_of ram n))
    ∙ ap (λ (m : List ℕ). with_lines m (line_at (16 * n) (row_of ram n))) (lines_back ram n (omega arith))
    ∙ line_back ram n h

pub memory_is_given_back : MemoryIsGivenBack
memory_is_given_back ram h =
    let n = length ram / 16 in
    let whole : 16 * n ≡ length ram = omega arith in
    lines_back ram n (omega arith)
    ∙ ap (λ (k : ℕ). take k ram ++ replicate (length ram - k) 0) whole
    ∙ ap (λ (k : ℕ). take (length ram) ram ++ replicate k 0) (let e : length ram - length ram ≡ 0 = omega arith in e)
    ∙ append-nil (take (length ram) ram)
    ∙ take_all (length ram) ram (omega arith)

-- ---- the lines themselves

-- those of the first so many lie below there
abbrev IsBelow : ℕ → RamLine → Type 0
IsBelow n line = line.at < 16 * n

one_is_line : (ram : List ℕ) (n : ℕ) → 16 * suc n ≤ length ram → is_zero (row_of ram n) ≡ false
    → IsLine (length ram) (record { at = 16 * n; bytes = row_of ram n })
one_is_line ram n h some =
    record { aligned = omega arith; inside = omega arith; count = row_length ram n h; some = some }

first_lie : (ram : List ℕ) (n : ℕ) → 16 * n ≤ length ram → All (IsLine (length ram)) (first_lines ram n)
first_lie ram zero h = All-nil (IsLine (length ram))
first_lie ram (suc n) h =
    let is = IsLine (length ram) in
    let before = first_lie ram n (omega arith) in
    elim (cases_Bool (is_zero (row_of ram n))) [
      | inl holds ↦ rw holds (All-append is (first_lines ram n) [] before (All-nil is))
      | inr fails ↦
          let line : RamLine = record { at = 16 * n; bytes = row_of ram n } in
          rw fails (All-append is (first_lines ram n) (line ∷ []) before (All-cons is line [] (one_is_line ram n h fails) (All-nil is)))
    ]

first_below : (ram : List ℕ) (n : ℕ) → All (IsBelow n) (first_lines ram n)
first_below ram zero = All-nil (IsBelow zero)
first_below ram (suc n) =
    let before = All-weaker (IsBelow n) (IsBelow (suc n)) (λ line below. omega (arith, below)) (first_lines ram n) (first_below ram n) in
    let is = IsBelow (suc n) in
    elim (cases_Bool (is_zero (row_of ram n))) [
      | inl holds ↦ rw holds (All-append is (first_lines ram n) [] before (All-nil is))
      | inr fails ↦
          let line : RamLine = record { at = 16 * n; bytes = row_of ram n } in
          rw fails (All-append is (first_lines ram n) (line ∷ []) before (All-cons is line [] (omega arith) (All-nil is)))
    ]

abbrev Ascend : RamLine → RamLine → Type 0
Ascend first later = first.at < later.at

first_ascend : (ram : List ℕ) (n : ℕ) → AllPairs Ascend (first_lines ram n)
first_ascend ram zero = λ i j d before within. absurd (omega arith)
first_ascend ram (suc n) = elim (cases_Bool (is_zero (row_of ram n))) [
  | inl holds ↦
      let same : first_lines ram (suc n) ≡ first_lines ram n = rw holds (append-nil (first_lines ram n)) in
      subst (AllPairs Ascend) (sym same) (first_ascend ram n)
  | inr fails ↦
      rw fails (all_pairs_push Ascend (first_lines ram n) (record { at = 16 * n; bytes = row_of ram n }) (first_ascend ram n) (first_below ram n))
]

pub lines_lie_in_memory : LinesLieInMemory
lines_lie_in_memory ram = first_lie ram (length ram / 16) (omega arith)

pub lines_ascend : LinesAscend
lines_ascend ram = first_ascend ram (length ram / 16)
