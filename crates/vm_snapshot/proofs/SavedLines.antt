-- The rows of a memory are its lines, and they are lawful.
use Rattle.std.proofs.Common.{◌≡◌, ◌∙◌, ℕ, zero, suc, ◌+◌, ◌*◌, ◌/◌, ◌^◌, ◌≤◌, ◌<◌, List, ◌++◌, length, take, drop, refl, ap, sym, inl, inr, arith}
use Rattle.std.proofs.lemmas.Bool.{cases_Bool, lt-ltb}
use Rattle.std.proofs.lemmas.List.{append-nil, append_assoc, drop-drop, length-take-le, length-drop}
use Rattle.std.proofs.lemmas.List.Elements.{All-drop, All-take, recursion_from_All}
use Rattle.mb_saved.specs.declared.line.RamLine.{RamLine}
use Rattle.mb_saved.specs.Lines.{first_lines, line_at}
use Rattle.mb_saved.specs.Saved.{is_zero}
use Rattle.mb_spelling.specs.Lists.{LawfulUntil}
use Rattle.mb_walk.specs.Memory.{AreBytes}
use Rattle.vm_snapshot.specs.Memories.{row_before, rows_of}
use Rattle.vm_snapshot.specs.Memory.{row_lines}

-- ---- rows are lines

before_is : (place : ℕ) (chunk : List ℕ) (lines : List RamLine) → row_before place chunk lines ≡ line_at (16 * place) chunk ++ lines
before_is place chunk lines = elim (cases_Bool (is_zero chunk)) [
  | inl holds ↦ rw holds refl
  | inr fails ↦ rw fails refl
]

rows_then : (count place : ℕ) (ram : List ℕ) → first_lines ram place ++ rows_of place count (drop (16 * place) ram) ≡ first_lines ram (place + count)
rows_then zero place ram =
    append-nil (first_lines ram place) ∙ ap (first_lines ram) (let e : place ≡ place + zero = omega arith in e)
rows_then (suc count) place ram =
    let rest = drop (16 * place) ram in
    let row = line_at (16 * place) (take 16 rest) in
    let next : drop 16 rest ≡ drop (16 * (place + 1)) ram =
    drop-drop 16 (16 * place) ram ∙ ap (λ (n : ℕ). drop n ram) (let e : 16 * place + 16 ≡ 16 * (place + 1) = omega arith in e) in
    let one : place + 1 ≡ suc place = omega arith in
    ap (λ (l : List RamLine). first_lines ram place ++ l) (before_is place (take 16 rest) (rows_of (place + 1) count (drop 16 rest)))
    ∙ ap (λ (l : List ℕ). first_lines ram place ++ (row ++ rows_of (place + 1) count l)) next
    ∙ sym (append_assoc (first_lines ram place) row (rows_of (place + 1) count (drop (16 * (place + 1)) ram)))
    ∙ ap (λ (n : ℕ). first_lines ram n ++ rows_of (place + 1) count (drop (16 * (place + 1)) ram)) (sym one)
    ∙ rows_then count (place + 1) ram
    ∙ ap (first_lines ram) (let e : place + 1 + count ≡ place + suc count = omega arith in e)

pub rows_are_lines : (count : ℕ) (ram : List ℕ) → rows_of 0 count ram ≡ first_lines ram count
rows_are_lines count ram = rows_then count 0 ram ∙ ap (first_lines ram) (let e : 0 + count ≡ count = omega arith in e)

-- ---- they are lawful

pub rows_lawful : (count place rows most from : ℕ) (ram : List ℕ) → place + count ≤ rows → count ≤ most → from ≤ place → length ram ≡ 16 * count → AreBytes ram
    → LawfulUntil (row_lines rows) most from (rows_of place count ram)
rows_lawful zero place rows most from ram fits few after len bytes = tt
rows_lawful (suc count) place rows zero from ram fits few after len bytes = absurd (omega arith)
rows_lawful (suc count) place rows (suc most) from ram fits few after len bytes =
    let byte = λ (b : ℕ). b < 2 ^ 8 in
    let rest : length (drop 16 ram) ≡ 16 * count = (let e = length-drop 16 ram in omega arith) in
    let later = All-drop byte 16 ram bytes in
    elim (cases_Bool (is_zero (take 16 ram))) [
      | inl holds ↦
          rw holds (rows_lawful count (place + 1) rows (suc most) from (drop 16 ram) (omega arith) (omega arith) (omega arith) rest later)
      | inr fails ↦
          let row = take 16 ram in
          let more = rows_lawful count (place + 1) rows most (16 * place / 16 + 1) (drop 16 ram) (omega arith) (omega arith) (omega arith) rest later in
          rw fails (
            lt-ltb from rows (omega arith),
            record {
              aligned = omega arith;
              after = omega arith;
              inside = omega arith;
              count = length-take-le 16 ram (omega arith);
              bytes = recursion_from_All byte row (All-take byte 16 ram bytes);
              some = fails;
            },
            more,
          )
    ]
