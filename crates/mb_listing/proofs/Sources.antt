-- The lines of a statement at an address, and how the assembler reads them.
use Rattle.std.proofs.Common.{◌≡◌, ℕ, ◌+◌, ◌<◌, ◌≤◌, true, List, [], ◌∷◌, ◌++◌, length, map, refl, sym, ap, ◌∙◌, append_assoc, append-nil, arith}
use Rattle.std.specs.Prelude.{pos, Option, Some, None, codes}
use Rattle.std.proofs.lemmas.Bool.{le-leb}
use Rattle.std.proofs.lemmas.List.Elements.{All-cons}
use Rattle.mb_lines.specs.Lines.{Line, lines_in, numbered, numbered_from}
use Rattle.mb_lines.proofs.Written.{IsPlain, first_written, none_written}
use Rattle.mb_syntax.specs.declared.statement.SizeLetter.{SizeLetter}
use Rattle.mb_syntax.specs.declared.statement.SizeLetter.TheVariants as letter
use Rattle.mb_syntax.specs.declared.mode.Mode.TheVariants as mode
use Rattle.mb_syntax.specs.declared.operand.Operand.TheVariants as operand
use Rattle.mb_syntax.specs.Spans.{bytes_at}
use Rattle.mb_syntax.specs.Statements.{Operation}
use Rattle.mb_statement.specs.Numbers.{number}
use Rattle.mb_mnemonics.specs.Values.{valued}
use Rattle.mb_statement.specs.Read.{sum_of}
use Rattle.mb_statement.specs.Statements.{Statement}
use Rattle.mb_statement.specs.Texts.{statement_text}
use Rattle.mb_statement.specs.Written.{is_written}
use Rattle.mb_statement.proofs.StatementsRead.{name_bytes, text_plain}
use Rattle.mb_listing.specs.Laws.{source_at}

-- a line that is a blank and the text of a statement
abbrev pub line_of : Statement → List ℕ
line_of s = 32 ∷ statement_text s

-- the operation that it is read as
abbrev pub operation_of : Statement → Operation
operation_of s = record {
  name = record { start = 1; end = 1 + length s.name };
  size = s.size;
  operands = map (valued sum_of) s.operands;
}

-- a statement of one number, as ORG and DC have it
abbrev pub one_number : List ℕ → Option SizeLetter → ℕ → Statement
one_number name size value = record { name = name; size = size; operands = operand.Mode (mode.Absolute (pos value) None) ∷ [] }

abbrev pub org : ℕ → Statement
org at = one_number (codes "ORG") None at

abbrev pub dc : ℕ → Statement
dc word = one_number (codes "DC") (Some letter.Word) word

pub org_written : (at : ℕ) → at ≤ 4294967295 → is_written (org at) ≡ true
unfolding is_written
org_written at small = rw (le-leb at 4294967295 small) refl

pub dc_written : (word : ℕ) → word ≤ 4294967295 → is_written (dc word) ≡ true
unfolding is_written
dc_written word small = rw (le-leb word 4294967295 small) refl

number_alone : (value : ℕ) → (number value ++ []) ++ [] ≡ number value
number_alone value = append-nil (number value ++ []) ∙ append-nil (number value)

org_text : (at : ℕ) → statement_text (org at) ≡ codes "ORG " ++ number at
unfolding statement_text
org_text at = ap (λ (t : List ℕ). codes "ORG " ++ t) (number_alone at)

pub dc_text : (word : ℕ) → statement_text (dc word) ≡ codes "DC.W " ++ number word
unfolding statement_text
dc_text word = ap (λ (t : List ℕ). codes "DC.W " ++ t) (number_alone word)

-- ---- the lines of a text at an address

-- a line with its number
abbrev pub numbered_line : ℕ → List ℕ → Line
numbered_line number characters = record { number = number; characters = characters }

plain_line : (s : Statement) → is_written s ≡ true → IsPlain (line_of s)
plain_line s h = All-cons (λ c. 13 < c) 32 (statement_text s) (omega arith) (text_plain s h)

-- the text in parts: two lines and their ends
parts_of : (front text : List ℕ)
    → front ++ 10 ∷ 32 ∷ text ++ 10 ∷ [] ≡ (front ++ 10 ∷ []) ++ (((32 ∷ text) ++ 10 ∷ []) ++ [])
parts_of front text =
    append_assoc front (10 ∷ 32 ∷ text) (10 ∷ [])
    ∙ ap (λ (t : List ℕ). front ++ 10 ∷ 32 ∷ t) (sym (append-nil (text ++ 10 ∷ [])))
    ∙ sym (append_assoc front (10 ∷ []) (32 ∷ (text ++ 10 ∷ [] ++ [])))

-- the two lines of a statement at an address
pub source_lines : (at : ℕ) (s : Statement) → at ≤ 4294967295 → is_written s ≡ true
    → numbered (source_at at (statement_text s)) ≡ numbered_line 1 (line_of (org at)) ∷ numbered_line 2 (line_of s) ∷ []
source_lines at s small h =
    let text : List ℕ = statement_text s in
    let first : List ℕ = line_of (org at) in
    ap (λ (t : List ℕ). numbered_from 1 (lines_in ((32 ∷ t) ++ 10 ∷ 32 ∷ text ++ 10 ∷ []))) (sym (org_text at))
    ∙ ap (λ (t : List ℕ). numbered_from 1 (lines_in t)) (parts_of first text)
    ∙ first_written 1 first ((line_of s ++ 10 ∷ []) ++ []) (omega arith) (plain_line (org at) (org_written at small))
    ∙ ap (λ (ls : List Line). numbered_line 1 first ∷ ls)
    (first_written 2 (line_of s) [] (omega arith) (plain_line s h)
    ∙ ap (λ (ls : List (List ℕ)). numbered_line 2 (line_of s) ∷ numbered_from 3 ls) none_written)

-- its name stands behind the blank
pub named : (s : Statement) → bytes_at (line_of s) (operation_of s).name ≡ s.name
named s = name_bytes s
