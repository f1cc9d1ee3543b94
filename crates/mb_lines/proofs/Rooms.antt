-- How long the lines of a text are together.
use Rattle.std.proofs.Common.{ℕ, zero, suc, ◌-◌, ◌≤◌, Bool, true, false, cond, List, [], ◌∷◌, length, take, drop, arith}
use Rattle.std.specs.Prelude.{map, sum_by, slice_index, ◌==◌, ◌&&◌, nat_lt}
use Rattle.std.proofs.lemmas.List.{length-drop, length-take}
use Rattle.std.proofs.lemmas.List.Sums.{sum_by-cons}
use Rattle.bstr.specs.Text.{line_len, lines_from, no_cr, without_terminator}
use Rattle.mb_lines.specs.Lines.{lines_in}

shorter_if : (b : Bool) (xs ys : List ℕ) (n : ℕ) → length xs ≤ n → length ys ≤ n → length (cond b xs ys) ≤ n
shorter_if true xs ys n h k = h
shorter_if false xs ys n h k = k

taken : (n : ℕ) (line : List ℕ) → length (take n line) ≤ length line
taken n line = omega (arith, length-take n line)

without_carriage_return : (line : List ℕ) → length (no_cr line) ≤ length line
without_carriage_return line =
    shorter_if (nat_lt 0 (length line) && slice_index line (length line - 1) == 13) (take (length line - 1) line) line (length line)
    (taken (length line - 1) line) (omega arith)

without_end : (line : List ℕ) → length (without_terminator line) ≤ length line
without_end line =
    let front = take (length line - 1) line in
    shorter_if (nat_lt 0 (length line) && slice_index line (length line - 1) == 10) (no_cr front) line (length line)
    (omega (arith, without_carriage_return front, taken (length line - 1) line)) (omega arith)

lines_from_room : (n : ℕ) (text : List ℕ) → sum_by length (map without_terminator (lines_from n text)) ≤ length text
unfolding lines_from
lines_from_room zero text = omega arith
lines_from_room (suc n) [] = omega arith
lines_from_room (suc n) (character ∷ characters) =
    let text : List ℕ = character ∷ characters in
    let line = take (line_len text) text in
    let rest = drop (line_len text) text in
    rw (sum_by-cons length (without_terminator line) (map without_terminator (lines_from n rest)))
    (omega (arith, without_end line, length-take (line_len text) text, length-drop (line_len text) text, lines_from_room n rest))

-- the lines together are no longer than the text
pub lines_in_room : (text : List ℕ) → sum_by length (lines_in text) ≤ length text
lines_in_room text = lines_from_room (length text) text
