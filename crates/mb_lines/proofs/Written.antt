-- A line that was written is read first.
use Rattle.std.proofs.Common.{◌≡◌, ℕ, ◌+◌, ◌-◌, ◌<◌, Bool, true, false, cond, List, [], ◌∷◌, ◌++◌, length, take, get_or, refl, sym, ap, ◌∙◌, inr, arith}
use Rattle.std.specs.Prelude.{All, map, nat_lt, slice_index, ◌==◌, ◌&&◌}
use Rattle.std.proofs.Math.Seq.{get_or-append_seam, take-append_seam}
use Rattle.std.proofs.lemmas.Bool.{eq-eqb, lt-ltb, ne_eqb}
use Rattle.std.proofs.lemmas.List.{length-append, get_or_append_left}
use Rattle.bstr.specs.Text.{lines_of, no_cr, without_terminator}
use Rattle.bstr.proofs.lemmas.LineLemmas.{lines-append, lines-nil, lines-one}
use Rattle.mb_lines.specs.Lines.{lines_in, numbered_from}

-- characters that end no line
abbrev pub IsPlain : List ℕ → Type 0
IsPlain line = All (λ c. 13 < c) line

unchosen : (a b : Bool) (x y : List ℕ) → b ≡ false → cond (a && b) x y ≡ y
unchosen true true x y e = absurd cc
unchosen true false x y e = refl
unchosen false b x y e = refl

chosen : (a b : Bool) (x y : List ℕ) → a ≡ true → b ≡ true → cond (a && b) x y ≡ x
chosen true true x y e h = refl
chosen true false x y e h = absurd cc
chosen false b x y e h = absurd cc

no_carriage_return : (line : List ℕ) → IsPlain line → no_cr line ≡ line
no_carriage_return [] plain = refl
no_carriage_return (character ∷ characters) plain =
    let line : List ℕ = character ∷ characters in
    let last : 13 < get_or line (length line - 1) 0 = plain (length line - 1) 0 (omega arith) in
    unchosen (nat_lt 0 (length line)) (slice_index line (length line - 1) == 13) (take (length line - 1) line) line
    (ne_eqb (slice_index line (length line - 1)) 13 (λ e. omega arith))

last_of : (line : List ℕ) → slice_index (line ++ 10 ∷ []) (length (line ++ 10 ∷ []) - 1) ≡ 10
last_of line =
    let place : length (line ++ 10 ∷ []) - 1 ≡ length line = omega (arith, length-append line (10 ∷ [])) in
    ap (slice_index (line ++ 10 ∷ [])) place ∙ get_or-append_seam line 10 [] 0

without_end : (line : List ℕ) → IsPlain line → without_terminator (line ++ 10 ∷ []) ≡ line
without_end line plain =
    let whole = line ++ 10 ∷ [] in
    let place : length whole - 1 ≡ length line = omega (arith, length-append line (10 ∷ [])) in
    let front : take (length whole - 1) whole ≡ line = ap (λ (n : ℕ). take n whole) place ∙ take-append_seam line (10 ∷ []) in
    chosen (nat_lt 0 (length whole)) (slice_index whole (length whole - 1) == 10) (no_cr (take (length whole - 1) whole)) whole
    (lt-ltb 0 (length whole) (omega (arith, length-append line (10 ∷ [])))) (eq-eqb _ _ (last_of line))
    ∙ (ap no_cr front ∙ no_carriage_return line plain)

one_line : (line : List ℕ) → IsPlain line → lines_of (line ++ 10 ∷ []) ≡ (line ++ 10 ∷ []) ∷ []
one_line line plain =
    let more = length-append line (10 ∷ []) in
    lines-one (line ++ 10 ∷ []) (omega (arith, more)) (λ k lt e.
    let above : 13 < get_or line k 0 = plain k 0 (omega (arith, more)) in
    let same : slice_index (line ++ 10 ∷ []) k ≡ get_or line k 0 = get_or_append_left line (10 ∷ []) 0 k (omega (arith, more)) in
    omega (arith, above, sym same ∙ e))

cut : (line rest : List ℕ) → IsPlain line → lines_in ((line ++ 10 ∷ []) ++ rest) ≡ line ∷ lines_in rest
cut line rest plain =
    ap (map without_terminator) (lines-append (length (line ++ 10 ∷ [])) (line ++ 10 ∷ []) rest (omega arith) (inr (last_of line)))
    ∙ (ap (λ (ls : List (List ℕ)). map without_terminator (ls ++ lines_of rest)) (one_line line plain)
    ∙ ap (λ (l : List ℕ). l ∷ lines_in rest) (without_end line plain))

first : (number : ℕ) (line : List ℕ) (lines : List (List ℕ)) → 0 < length line
    → numbered_from number (line ∷ lines) ≡ record { number = number; characters = line } ∷ numbered_from (number + 1) lines
first number [] lines some = absurd (omega arith)
first number (character ∷ characters) lines some = refl

-- a line, its LF, and the lines behind it
pub first_written : (number : ℕ) (line rest : List ℕ) → 0 < length line → IsPlain line
    → numbered_from number (lines_in ((line ++ 10 ∷ []) ++ rest)) ≡ record { number = number; characters = line } ∷ numbered_from (number + 1) (lines_in rest)
first_written number line rest some plain = ap (numbered_from number) (cut line rest plain) ∙ first number line (lines_in rest) some

-- no text has no lines
pub none_written : lines_in [] ≡ []
none_written = ap (map without_terminator) lines-nil
