-- The lines of a memory are written as the outcome text has them.
use Rattle.std.proofs.Common.{◌≡◌, ℕ, zero, suc, ◌+◌, ◌*◌, ◌/◌, Bool, true, false, List, [], ◌∷◌, ◌++◌, length, take, drop, refl, sym, ap, ◌∙◌, append_assoc, arith}
use Rattle.std.specs.Prelude.{codes, if◌then◌else◌}
use Rattle.std.specs.List.{flat_map}
use Rattle.std.proofs.lemmas.List.{append-nil, length-drop, drop-drop}
use Rattle.mb_saved.specs.declared.line.RamLine.{RamLine}
use Rattle.mb_spelling.specs.Lists.{write_until}
use Rattle.vm_snapshot.specs.Memory.{write_row, row_lines}
use Rattle.mb_report.specs.Digits.{digits, hex8}
use Rattle.mb_report.specs.Text.{first_rows, word_line, is_zero, memory_line, memory_text}
use Rattle.vm_snapshot.specs.Memories.{rows_of, LinesAreMemory}

-- ---- rows from the front

rows-same : (line other : ℕ → List ℕ → List ℕ) → ((at : ℕ) (row : List ℕ) → line at row ≡ other at row) → (width : ℕ) (bytes : List ℕ) (c : ℕ)
    → first_rows line width bytes c ≡ first_rows other width bytes c
rows-same line other same width bytes zero = refl
rows-same line other same width bytes (suc c) =
    ap (λ (w : List ℕ). w ++ line (width * c) (take width (drop (width * c) bytes))) (rows-same line other same width bytes c)
    ∙ ap (λ (w : List ℕ). first_rows other width bytes c ++ w) (same (width * c) (take width (drop (width * c) bytes)))

front : (line : ℕ → List ℕ → List ℕ) (c : ℕ) (bytes : List ℕ)
    → first_rows line 16 bytes (suc c) ≡ line 0 (take 16 bytes) ++ first_rows (λ at. line (16 + at)) 16 (drop 16 bytes) c
front line zero bytes = sym (append-nil (line 0 (take 16 bytes)))
front line (suc c) bytes =
    let row = line 0 (take 16 bytes) in
    let others = first_rows (λ at. line (16 + at)) 16 (drop 16 bytes) c in
    let next : 16 * suc c ≡ 16 + 16 * c = omega arith in
    let place : drop (16 * suc c) bytes ≡ drop (16 * c) (drop 16 bytes) = ap (λ (n : ℕ). drop n bytes) next ∙ sym (drop-drop (16 * c) 16 bytes) in
    ap (λ (w : List ℕ). w ++ line (16 * suc c) (take 16 (drop (16 * suc c) bytes))) (front line c bytes)
    ∙ (ap (λ (l : List ℕ). (row ++ others) ++ line (16 * suc c) (take 16 l)) place
    ∙ (ap (λ (n : ℕ). (row ++ others) ++ line n (take 16 (drop (16 * c) (drop 16 bytes)))) next
    ∙ append_assoc row others (line (16 + 16 * c) (take 16 (drop (16 * c) (drop 16 bytes))))))

-- ---- lines

lines_text : (rows from : ℕ) (lines : List RamLine) → write_until (row_lines rows) from lines ≡ flat_map write_row lines ++ codes "end\n"
lines_text rows from [] = refl
lines_text rows from (row ∷ lines) =
    ap (λ (w : List ℕ). write_row row ++ w) (lines_text rows (row.at / 16 + 1) lines)
    ∙ sym (append_assoc (write_row row) (flat_map write_row lines) (codes "end\n"))

line_before : (place : ℕ) (chunk : List ℕ) (lines : List RamLine) (b : Bool) → is_zero chunk ≡ b
    → (if b then [] else word_line (hex8 (16 * place)) (digits chunk)) ++ flat_map write_row lines
    ≡ flat_map write_row (if b then lines else record { at = 16 * place; bytes = chunk } ∷ lines)
line_before place chunk lines true e = refl
line_before place chunk lines false e = refl

-- lines whose addresses are counted from a base
abbrev based : ℕ → ℕ → List ℕ → List ℕ
based base at row = memory_line (base + at) row

rows_text : (c place : ℕ) (ram : List ℕ) → length ram ≡ 16 * c
    → first_rows (based (16 * place)) 16 ram c ≡ flat_map write_row (rows_of place c ram)
rows_text zero place ram len = refl
rows_text (suc c) place ram len =
    let chunk = take 16 ram in
    let later = drop 16 ram in
    let left : length later ≡ 16 * c = omega (arith, length-drop 16 ram) in
    let others = rows_of (place + 1) c later in
    let first : based (16 * place) 0 chunk ≡ memory_line (16 * place) chunk = ap (λ (n : ℕ). memory_line n chunk)
    (let e : 16 * place + 0 ≡ 16 * place = omega arith in e) in
    let next : first_rows (λ at. based (16 * place) (16 + at)) 16 later c ≡ first_rows (based (16 * (place + 1))) 16 later c =
    rows-same (λ at. based (16 * place) (16 + at)) (based (16 * (place + 1)))
    (λ at row. ap (λ (n : ℕ). memory_line n row) (let e : 16 * place + (16 + at) ≡ 16 * (place + 1) + at = omega arith in e)) 16 later c in
    front (based (16 * place)) c ram
    ∙ (ap (λ (w : List ℕ). w ++ first_rows (λ at. based (16 * place) (16 + at)) 16 later c) first
    ∙ (ap (λ (w : List ℕ). memory_line (16 * place) chunk ++ w) (next ∙ rows_text c (place + 1) later left)
    ∙ line_before place chunk others (is_zero chunk) refl))

whole_text : (rows : ℕ) (ram : List ℕ) → length ram ≡ 16 * rows → flat_map write_row (rows_of 0 rows ram) ≡ memory_text ram
whole_text rows ram len =
    let count : (length ram + 15) / 16 ≡ rows = omega arith in
    let plain : first_rows (based (16 * 0)) 16 ram rows ≡ first_rows memory_line 16 ram rows =
    rows-same (based (16 * 0)) memory_line (λ at row. ap (λ (n : ℕ). memory_line n row) (let e : 16 * 0 + at ≡ at = omega arith in e)) 16 ram rows in
    sym (rows_text rows 0 ram len) ∙ (plain ∙ ap (first_rows memory_line 16 ram) (sym count))

pub lines_are_memory : LinesAreMemory
lines_are_memory rows ram len =
    lines_text rows 0 (rows_of 0 rows ram) ∙ ap (λ (w : List ℕ). w ++ codes "end\n") (whole_text rows ram len)
