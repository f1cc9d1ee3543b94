-- The text of a written statement is read as the statement.
use Rattle.std.proofs.Common.{◌≡◌, ℕ, suc, ◌+◌, ◌-◌, ◌≤◌, ◌<◌, Bool, true, false, List, []}
use Rattle.std.proofs.Common.{◌∷◌, ◌++◌, length, map, take, drop, refl, sym, subst, ap, ◌∙◌, arith}
use Rattle.std.specs.Prelude.{Option, Some, None, Ok, All}
use Rattle.std.specs.List.{list_all, prefix_len}
use Rattle.std.specs.Prelude.{ℤ, ◌==◌}
use Rattle.std.proofs.lemmas.Bool.Decides.{nat_tests}
use Rattle.std.proofs.lemmas.List.{length-append}
use Rattle.mb_asm_text.specs.Kinds.{is_blank, is_name_part, is_name_start}
use Rattle.mb_asm_text.specs.Cut.{text_of}
use Rattle.mb_asm_text.specs.Cutting.{front_found}
use Rattle.mb_syntax.specs.Names.{cache_names, register_of, size_letters}
use Rattle.mb_syntax.specs.Tables.{found_in}
use Rattle.mb_syntax.specs.Words.{read_as}
use Rattle.mb_syntax.specs.Statements.{size_at}
use Rattle.mb_statement.proofs.Fits.{Fit}
use Rattle.std.proofs.Math.Seq.{take-append_seam}
use Rattle.std.proofs.lemmas.List.Elements.{All-append, All-head, All-nil, All-tail}
use Rattle.mb_asm_text.specs.declared.token.TokenKind.TheVariants as kind
use Rattle.mb_asm_text.specs.Cutting.{cut_of}
use Rattle.mb_syntax.specs.declared.word.Name.{Name}
use Rattle.mb_syntax.specs.declared.word.Word.{Word}
use Rattle.mb_syntax.specs.declared.word.Word.TheVariants as word
use Rattle.mb_syntax.specs.declared.register.Register.{Register}
use Rattle.mb_syntax.specs.declared.statement.SizeLetter.{SizeLetter}
use Rattle.mb_instr.specs.declared.kinds.Caches.{Caches}
use Rattle.mb_syntax.specs.declared.operand.Operand.{Operand}
use Rattle.mb_syntax.specs.Lines.{statement_in}
use Rattle.mb_syntax.specs.Modes.{Sum}
use Rattle.mb_syntax.specs.Operands.{operand_among, operand_at, operands_of}
use Rattle.mb_syntax.specs.Spans.{bytes_at}
use Rattle.mb_syntax.specs.Statements.{name_of, operands_behind, statement_of, takes_caches}
use Rattle.mb_syntax.specs.Words.{name_word, words_of, word_of}
use Rattle.mb_statement.specs.Statements.{Statement}
use Rattle.mb_statement.specs.Texts.{size_text, statement_text}
use Rattle.mb_statement.specs.Texts.{operands_behind as operands_text}
use Rattle.mb_mnemonics.specs.Values.{valued}
use Rattle.mb_statement.specs.Read.{read_of, sum_of}
use Rattle.mb_statement.specs.Written.{is_name, is_operand, is_written}
use Rattle.mb_statement.proofs.Lexemes.{ArePlain, Lexeme, IsLexeme, Stands, both, cut_on, cut_step, said, spelled, tokens_at, words_on}
use Rattle.mb_statement.proofs.Spelled.{blank, blank_is}
use Rattle.mb_statement.proofs.PartsRead.{after, said_append}
use Rattle.mb_statement.proofs.OperandsRead.{behind_operands, operand_lexemes, operand_read, operands_read}
use Rattle.mb_statement.proofs.StatementsSaid.{fit_statement, first_operands, size_lexemes, statement_lexemes, statement_parts, statement_said}
use Rattle.mb_asm_text.proofs.Cuts.{token_by}

-- any name names an operation
named_so : (r : Option Register) (l : Option SizeLetter) (c : Option Caches) (name : Name)
    → name_of (read_as word.Register r name (read_as word.Letter l name (read_as word.Cache c name (word.Name name)))) ≡ Some name
named_so (Some r) l c name = refl
named_so None (Some l) c name = refl
named_so None None (Some c) name = refl
named_so None None None name = refl

name_named : (bytes : List ℕ) (name : Name) → name_of (name_word bytes name) ≡ Some name
name_named bytes name = named_so (register_of bytes) (found_in size_letters bytes) (found_in cache_names bytes) name

-- operands behind a blank, where some stand there
some_operands : (caches : Bool) (words : List Word) (found : List (Operand Sum)) → operands_of (length words) caches words ≡ Some found
    → operands_behind caches (word.Blank ∷ words) ≡ Some found
some_operands caches [] found e = absurd cc
some_operands caches (first ∷ words) found e = e

-- a word for each lexeme
said_length : (ls : List Lexeme) (p : ℕ) (behind : List Word) → length (said ls p behind) ≡ length ls + length behind
said_length [] p behind = omega arith
said_length (l ∷ ls) p behind = let more = said_length ls (p + length l.bytes) behind in omega arith

-- each operand behind the first has a comma
said_long : (os : List (Operand ℤ)) (p : ℕ) → length os ≤ length (said (behind_operands os) p [])
said_long [] p = omega arith
said_long (o ∷ os) p =
    let q = after (p + 1) (operand_lexemes o) in
    let parts : said (operand_lexemes o ++ behind_operands os) (p + 1) [] ≡ said (operand_lexemes o) (p + 1) (said (behind_operands os) q []) =
    said_append (operand_lexemes o) (behind_operands os) (p + 1) [] in
    let more = said_long os q in
    let whole = said_length (operand_lexemes o) (p + 1) (said (behind_operands os) q []) in
    rw parts (omega arith)

-- what is read as an operand has a lexeme
some_lexemes : (caches : Bool) (ls : List Lexeme) (p : ℕ) (found : Operand Sum × List Word) → operand_among caches (said ls p []) ≡ Some found
    → 0 < length ls
unfolding operand_at
some_lexemes true [] p found e = absurd cc
some_lexemes false [] p found e = absurd cc
some_lexemes caches (l ∷ ls) p found e = omega arith

first_long : (caches : Bool) (o : Operand ℤ) (os : List (Operand ℤ)) (p : ℕ) → is_operand caches o ≡ true
    → length os < length (said (operand_lexemes o ++ behind_operands os) p [])
first_long caches o os p h =
    let q = after p (operand_lexemes o) in
    let parts = said_append (operand_lexemes o) (behind_operands os) p [] in
    let some = some_lexemes caches (operand_lexemes o) p (valued sum_of o, []) (operand_read caches o p [] h refl) in
    let more = said_long os q in
    let whole = said_length (operand_lexemes o) p (said (behind_operands os) q []) in
    rw parts (omega arith)

operands_said : (caches : Bool) (os : List (Operand ℤ)) (p : ℕ) → list_all (is_operand caches) os ≡ true
    → operands_behind caches (said (first_operands os) p []) ≡ Some (map (valued sum_of) os)
operands_said caches [] p h = refl
operands_said caches (o ∷ os) p h =
    let words : List Word = said (operand_lexemes o ++ behind_operands os) (p + 1) [] in
    some_operands caches words (map (valued sum_of) (o ∷ os))
    (operands_read caches os o (length words) (p + 1) (first_long caches o os (p + 1) (both (is_operand caches o) _ h).0) h)

size_read : (s : Option SizeLetter) (os : List (Operand ℤ)) (p : ℕ)
    → size_at (said (size_lexemes s ++ first_operands os) p []) ≡ Some (s, said (first_operands os) (after p (size_lexemes s)) [])
size_read (Some l) os p = refl
size_read None [] p = refl
size_read None (o ∷ os) p = refl

-- the bytes of the name, which stands behind the blank
pub name_bytes : (s : Statement) → bytes_at (32 ∷ statement_text s) (record { start = 1; end = 1 + length s.name }) ≡ s.name
name_bytes s =
    let count : 1 + length s.name - 1 ≡ length s.name = omega arith in
    rw count (ap (λ (bytes : List ℕ). take (length s.name) bytes) (statement_parts s)
    ∙ take-append_seam s.name (size_text s.size ++ operands_text 32 s.operands))

words_read : (s : Statement) → list_all (is_operand (takes_caches s.name)) s.operands ≡ true
    → statement_of (32 ∷ statement_text s) (said (blank ∷ statement_lexemes s) 0 []) ≡ Some (read_of s)
words_read s h =
    let q = 1 + length s.name in
    let r = after q (size_lexemes s.size) in
    rw (
      name_named s.name (record { start = 1; end = 1 + length s.name }),
      size_read s.size s.operands q,
      name_bytes s,
      operands_said (takes_caches s.name) s.operands r h,
    ) refl

-- ---- the cut of the line and its words

lexemes_few : (ls : List Lexeme) → All IsLexeme ls → length ls ≤ length (spelled ls)
lexemes_few [] h = omega arith
lexemes_few (l ∷ ls) h =
    let first : IsLexeme l = All-head IsLexeme l ls h in
    let some = first.some in
    let more = lexemes_few ls (All-tail IsLexeme l ls h) in
    let long = length-append l.bytes (spelled ls) in
    omega arith

name_start_no_blank : (byte : ℕ) → is_name_start byte ≡ true → is_blank byte ≡ false
name_start_no_blank byte h = grind (arith, nat_tests)

-- a name ends a blank
name_ends_blank : (name rest : List ℕ) → is_name name ≡ true → prefix_len is_blank (name ++ rest) ≡ 0
name_ends_blank [] rest h = absurd cc
name_ends_blank (byte ∷ bytes) rest h = rw (name_start_no_blank byte (both (is_name_start byte) (list_all is_name_part bytes) h).0) refl

blank_found : (rest : List ℕ) → prefix_len is_blank rest ≡ 0 → front_found true (32 ∷ rest) ≡ Some (kind.Blank, 1)
blank_found rest none = rw none refl

line_cut : (line : List ℕ) (rest : List ℕ) (ls : List Lexeme) → line ≡ 32 ∷ rest → rest ≡ spelled ls → prefix_len is_blank rest ≡ 0 → Fit ls
    → cut_of line ≡ Ok (token_by kind.Blank 0 1 ∷ tokens_at 1 ls)
line_cut line rest ls e spelt none fit =
    let stands : Stands line 1 ls = record { left = rw (e, spelt) refl; end = rw (e, spelt) (omega arith) } in
    let few : length ls ≤ length rest = (let n = lexemes_few ls fit.all in rw spelt n) in
    let long : length line ≡ suc (length rest) = rw e refl in
    let below : 0 < length line = omega arith in
    let found : front_found (0 == 0) (drop 0 line) ≡ Some (kind.Blank, 1) = rw e (blank_found rest none) in
    rw long (cut_step (length rest) line 0 1 [] kind.Blank 1 below found refl)
    ∙ cut_on ls (length rest) line 1 (token_by kind.Blank 0 1 ∷ []) fit.all (fit.parted [] refl) (omega arith) few stands

line_words : (line : List ℕ) (rest : List ℕ) (ls : List Lexeme) → line ≡ 32 ∷ rest → rest ≡ spelled ls → Fit ls
    → words_of line (token_by kind.Blank 0 1 ∷ tokens_at 1 ls) ≡ said (blank ∷ ls) 0 []
line_words line rest ls e spelt fit =
    let stands : Stands line 1 ls = record { left = rw (e, spelt) refl; end = rw (e, spelt) (omega arith) } in
    let text : text_of line (token_by kind.Blank 0 1) ≡ 32 ∷ [] = rw e refl in
    let first : word_of line (token_by kind.Blank 0 1) ≡ Some word.Blank = blank_is.says line (token_by kind.Blank 0 1) text refl in
    rw (first, words_on ls line 1 fit.all stands) refl

text_ends_blank : (s : Statement) → is_name s.name ≡ true → prefix_len is_blank (statement_text s) ≡ 0
text_ends_blank s h =
    ap (λ (bytes : List ℕ). prefix_len is_blank bytes) (statement_parts s) ∙ name_ends_blank s.name (size_text s.size ++ operands_text 32 s.operands) h

lexemes_plain : (ls : List Lexeme) → All IsLexeme ls → ArePlain (spelled ls)
lexemes_plain [] h = All-nil (λ c. 13 < c)
lexemes_plain (l ∷ ls) h =
    let first : IsLexeme l = All-head IsLexeme l ls h in
    All-append (λ c. 13 < c) l.bytes (spelled ls) first.plain (lexemes_plain ls (All-tail IsLexeme l ls h))

-- no byte of it ends the line
pub text_plain : (s : Statement) → is_written s ≡ true → ArePlain (statement_text s)
unfolding is_written
text_plain s h =
    let parts = both (is_name s.name) (list_all (is_operand (takes_caches s.name)) s.operands) h in
    let fit : Fit (statement_lexemes s) = fit_statement s (takes_caches s.name) parts.0 parts.1 in
    subst (λ (bytes : List ℕ). ArePlain bytes) (statement_said s) (lexemes_plain (statement_lexemes s) fit.all)

pub text_read : (s : Statement) → is_written s ≡ true → statement_in (32 ∷ statement_text s) ≡ Some (read_of s)
unfolding is_written
text_read s h =
    let parts = both (is_name s.name) (list_all (is_operand (takes_caches s.name)) s.operands) h in
    let ls = statement_lexemes s in
    let line : List ℕ = 32 ∷ statement_text s in
    let fit : Fit ls = fit_statement s (takes_caches s.name) parts.0 parts.1 in
    let spelt : statement_text s ≡ spelled ls = sym (statement_said s) in
    let none : prefix_len is_blank (statement_text s) ≡ 0 = text_ends_blank s parts.0 in
    rw (line_cut line (statement_text s) ls refl spelt none fit, line_words line (statement_text s) ls refl spelt fit) (words_read s parts.1)
