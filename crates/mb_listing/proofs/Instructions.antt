-- The statement of an instruction at an address lays the words that spell it.
use Rattle.std.proofs.Common.{◌≡◌, ℕ, ◌+◌, ◌*◌, ◌/◌, ◌%◌, ◌^◌, ◌≤◌, ◌<◌, Bool, true, false, min, List, [], ◌∷◌, length, refl, sym, ap, ◌∙◌, arith}
use Rattle.std.specs.Prelude.{ℤ, ◌==◌, ◌||◌, if◌then◌else◌, nat_lt, ok_or, option_and_then, Option, Some, None, Result, Ok, Err}
use Rattle.std.specs.List.{flat_map, list_all}
use Rattle.std.proofs.lemmas.Bool.{eq-eqb, le-ltb}
use Rattle.std.proofs.lemmas.List.Elements.{All-head, All-tail}
use Rattle.std.proofs.lemmas.Slice.Eq.{bytes_eq-Decides}
use Rattle.std.specs.Int.{bytes_high_first}
use Rattle.mb_lines.specs.Results.{◌>>=◌}
use Rattle.mb_instr.specs.declared.instruction.Instr.{Instr}
use Rattle.mb_instr.specs.Codes.{AreWords, Codes, words_of}
use Rattle.mb_instr.specs.Rows.{row}
use Rattle.mb_decode.proofs.Table.{read_back}
use Rattle.mb_syntax.specs.declared.operand.Operand.{Operand}
use Rattle.mb_syntax.specs.declared.statement.SizeLetter.{SizeLetter}
use Rattle.mb_syntax.specs.Lines.{statement_in}
use Rattle.mb_syntax.specs.Spans.{bytes_at}
use Rattle.mb_syntax.specs.Statements.{Operation}
use Rattle.mb_syntax.specs.Tables.{found_in}
use Rattle.mb_mnemonics.specs.declared.fault.MeansFault.{MeansFault}
use Rattle.mb_mnemonics.specs.declared.fault.MeansFault.TheVariants as fault
use Rattle.mb_mnemonics.specs.Lines.{lines}
use Rattle.mb_mnemonics.specs.Means.{Form, form_among, form_length, form_of, is_named, length_by, length_of_form, meaning, meaning_by, said, told, whole as all_of}
use Rattle.mb_mnemonics.specs.Means.{words_by}
use Rattle.mb_mnemonics.proofs.Length.{length_of_words}
use Rattle.mb_asm.specs.Directives.{directives}
use Rattle.mb_asm.specs.Kinds.{meant}
use Rattle.mb_asm.specs.Symbols.{Symbol}
use Rattle.mb_asm.specs.Values.{Scope, have_flaw, values_of}
use Rattle.mb_asm.specs.Extents.{address_behind, behind_instruction, onward}
use Rattle.mb_asm.specs.Bytes.{bytes_there, instr_bytes, instruction_bytes, known_address, operation_bytes}
use Rattle.mb_asm.specs.Layouts.{earlier}
use Rattle.mb_asm.specs.Judged.{is_misplaced, judged_line, reaches_past, scope_of}
use Rattle.mb_statement.specs.Statements.{Statement}
use Rattle.mb_statement.specs.Texts.{statement_text}
use Rattle.mb_statement.specs.Written.{has_text, is_written}
use Rattle.mb_statement.proofs.Lexemes.{both}
use Rattle.mb_listing.specs.Listing.{bytes_of, is_said, says}
use Rattle.mb_listing.specs.Laws.{GivesItsWords}
use Rattle.mb_listing.proofs.NoDirectives.{no_directive}
use Rattle.mb_listing.proofs.Numbers.{Flaw, no_flaw, values_again}
use Rattle.mb_listing.proofs.Sources.{line_of, named, operation_of}
use Rattle.mb_listing.proofs.Placed.{behind_by, bytes_by, directive_by, laid_by, placed, statement_judged, statement_placed}

-- ---- bytes of words

bytes_same : (words : List ℕ) → AreWords words → flat_map (bytes_high_first 2) words ≡ bytes_of words
bytes_same [] h = refl
bytes_same (word ∷ words) h =
    let small : word < 2 ^ 16 = All-head (λ w. w < 2 ^ 16) word words h in
    let high : word / 256 % 256 ≡ word / 256 = omega arith in
    let rest = bytes_same words (All-tail (λ w. w < 2 ^ 16) word words h) in
    rw (high, rest) refl

bytes_long : (words : List ℕ) → length (bytes_of words) ≡ 2 * length words
bytes_long [] = refl
bytes_long (word ∷ words) = let rest = bytes_long words in omega arith

-- ---- the length

long_by : (f : Result Form MeansFault) (os : List (Operand ℤ)) (at : ℕ) (i : Instr) → meaning_by f os at ≡ Ok i → (n : ℕ) × (length_of_form f os ≡ Ok n)
long_by (Ok f) os at i e = (form_length f os, refl)
long_by (Err x) os at i e = absurd cc

long : (name : List ℕ) (letter : Option SizeLetter) (os : List (Operand ℤ)) (at : ℕ) (i : Instr) → meaning name letter os at ≡ Ok i
    → length_by name letter os ≡ Ok (2 * length (words_of (row i)))
long name letter os at i m =
    let n = long_by (form_of name letter os) os at i m in
    n.1 ∙ ap (λ (k : ℕ). Ok k) (length_of_words name letter os at n.0 i n.1 m)

-- ---- where it ends, and what it writes

module _ (scope : Scope) (at : ℕ) (here : scope.at ≡ Some at) (op : Operation) (name : List ℕ) (named_so : bytes_at scope.line op.name ≡ name)
    (os : List (Operand ℤ)) (values : values_of scope op.operands ≡ os) where
  ends : (n : ℕ) → length_by name op.size os ≡ Ok n → at + n ≤ 4294967296 → behind_instruction scope op ≡ Ok (Some (at + n))
  ends n len inside =
      let least : min (at + n) 4294967297 ≡ at + n = omega arith in
      ap (λ (bytes : List ℕ). meant (length_by bytes op.size (values_of scope op.operands)) >>= (λ k. Ok (onward scope.at k))) named_so
      ∙ ap (λ (said : List (Operand ℤ)). meant (length_by name op.size said) >>= (λ k. Ok (onward scope.at k))) values
      ∙ ap (λ (r : Result ℕ MeansFault). meant r >>= (λ k. Ok (onward scope.at k))) len
      ∙ ap (λ (a : Option ℕ). Ok (onward a n)) here
      ∙ ap (λ (k : ℕ). Ok (Some k)) least

  there : (i : Instr) → at ≤ 4294967295 → meaning name op.size os at ≡ Ok i → bytes_there scope op at ≡ Ok (instr_bytes i)
  there i inside m =
      let same : at % 2 ^ 32 ≡ at = omega arith in
      ap (λ (bytes : List ℕ). meant (meaning bytes op.size (values_of scope op.operands) (at % 2 ^ 32)) >>= (λ k. Ok (instr_bytes k))) named_so
      ∙ ap (λ (said : List (Operand ℤ)). meant (meaning name op.size said (at % 2 ^ 32)) >>= (λ k. Ok (instr_bytes k))) values
      ∙ ap (λ (a : ℕ). meant (meaning name op.size os a) >>= (λ k. Ok (instr_bytes k))) same
      ∙ ap (λ (r : Result Instr MeansFault). meant r >>= (λ k. Ok (instr_bytes k))) m

  known : ((k : Flaw) → have_flaw k scope op.operands ≡ false) → known_address scope op ≡ Some at
  known none = rw (none, here) refl

  writes : (i : Instr) → at ≤ 4294967295 → meaning name op.size os at ≡ Ok i → ((k : Flaw) → have_flaw k scope op.operands ≡ false)
      → instruction_bytes scope op ≡ Ok (instr_bytes i)
  writes i inside m none = rw (known none, there i inside m, none) refl

-- ---- the line

module _ (at : ℕ) (word : ℕ) (words : List ℕ) (s : Statement) (i : Instr) (even : at % 2 ≡ 0) (written : is_written s ≡ true)
    (means : meaning s.name s.size s.operands at ≡ Ok i) (spelt : words_of (row i) ≡ word ∷ words) (small : AreWords (word ∷ words))
    (inside : at + 2 * length (word ∷ words) ≤ 4294967296) where
  abbrev end : ℕ
  end = at + 2 * length (word ∷ words)

  is_none : found_in directives s.name ≡ None
  is_none = no_directive s.name s.size s.operands at i means

  len : length_by s.name s.size s.operands ≡ Ok (2 * length (word ∷ words))
  len = long s.name s.size s.operands at i means ∙ ap (λ (ws : List ℕ). Ok (2 * length ws)) spelt

  next : address_behind (earlier (placed at) (line_of s)) (operation_of s) ≡ Ok (Some end)
  next =
      let scope : Scope = earlier (placed at) (line_of s) in
      behind_by scope (operation_of s) None (directive_by s None is_none)
      ∙ ends scope at refl (operation_of s) s.name (named s) s.operands (values_again scope s.operands) (2 * length (word ∷ words)) len inside

  bytes : (symbols : List Symbol) → operation_bytes (scope_of symbols (placed at) (line_of s) None) (operation_of s) ≡ Ok (bytes_of (word ∷ words))
  bytes symbols =
      let scope : Scope = scope_of symbols (placed at) (line_of s) None in
      bytes_by scope (operation_of s) None (directive_by s None is_none)
      ∙ writes scope at refl (operation_of s) s.name (named s) s.operands (values_again scope s.operands) i (omega arith) means
      (no_flaw scope s.operands)
      ∙ ap (λ (ws : List ℕ). Ok (flat_map (bytes_high_first 2) ws)) spelt
      ∙ ap (λ (bs : List ℕ). Ok bs) (bytes_same (word ∷ words) small)

  whole : at + length (bytes_of (word ∷ words)) ≡ end
  whole = ap (λ (n : ℕ). at + n) (bytes_long (word ∷ words))

  in_place : (is_misplaced at None None end || reaches_past at (bytes_of (word ∷ words))) ≡ false
  in_place =
      let none : nat_lt 4294967296 end ≡ false = le-ltb 4294967296 end inside in
      ap (λ (a : ℕ). ((a == 1) || (false || nat_lt 4294967296 end)) || nat_lt 4294967296 (at + length (bytes_of (word ∷ words)))) even
      ∙ ap (λ (b : Bool). b || nat_lt 4294967296 (at + length (bytes_of (word ∷ words)))) none
      ∙ ap (λ (n : ℕ). nat_lt 4294967296 n) whole ∙ none

  judged : (symbols : List Symbol) → judged_line symbols (placed at) (line_of s) (statement_in (line_of s))
      ≡ Ok (laid_by (bytes_of (word ∷ words)) (at + length (bytes_of (word ∷ words))))
  judged symbols =
      statement_judged symbols (placed at) s None (Some end) (bytes_of (word ∷ words)) written is_none next refl refl (bytes symbols) in_place
      ∙ ap (λ (n : ℕ). Ok (laid_by (bytes_of (word ∷ words)) n)) (sym whole)

  pub lays_words : GivesItsWords (record { at = at; words = word ∷ words; text = statement_text s })
  lays_words = statement_placed at (word / 256) (word % 256 ∷ bytes_of words) s (omega arith) written judged

-- ---- the test of a line

are_same : (words : List ℕ) (o : Option (List ℕ)) → is_said words o ≡ true → o ≡ Some words
are_same words None h = absurd cc
are_same words (Some said) h = ap (λ (x : List ℕ). Some x) ((bytes_eq-Decides said words).0 h)

-- a statement with the words of an instruction means it
means_by : (o : Option Form) (x : MeansFault) (os : List (Operand ℤ)) (at : ℕ) (words : List ℕ) (i : Instr)
    → option_and_then (λ f. said f os at) o ≡ Some words → Codes i words → meaning_by (ok_or o x) os at ≡ Ok i
means_by None x os at words i h codes = absurd cc
means_by (Some f) x os at words i h codes =
    let all : (length words == length words) ≡ true = eq-eqb _ _ refl in
    ap told h ∙ ap (all_of (length words)) (read_back i words codes) ∙ rw all refl

said_words : (at : ℕ) (words : List ℕ) (s : Statement) (i : Instr) → at % 2 ≡ 0 → is_written s ≡ true → meaning s.name s.size s.operands at ≡ Ok i
    → words_of (row i) ≡ words → AreWords words → at + 2 * length words ≤ 4294967296
    → GivesItsWords (record { at = at; words = words; text = statement_text s })
said_words at [] s i even written means spelt small inside = absurd cc
said_words at (word ∷ words) s i even written means spelt small inside = lays_words at word words s i even written means spelt small inside

-- A statement that says the words of an instruction at an even address gives them there.
pub says_gives : (at : ℕ) (words : List ℕ) (s : Statement) (i : Instr) → at % 2 ≡ 0 → is_written s ≡ true → says at words s ≡ true → Codes i words
    → AreWords words → at + 2 * length words ≤ 4294967296 → GivesItsWords (record { at = at; words = words; text = statement_text s })
says_gives at words s i even written h codes small inside =
    let o : Option Form = form_among lines s.name s.size s.operands in
    let so = are_same words (words_by s.name s.size s.operands at) (both (list_all has_text s.operands) _ h).1 in
    let x : MeansFault = if is_named lines s.name then fault.Operand else fault.Name in
    said_words at words s i even written (means_by o x s.operands at words i so codes) (sym codes.words) small inside
