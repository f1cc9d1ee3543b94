-- Each listed text gives its words.
use Rattle.std.proofs.Common.{◌≡◌, ℕ, suc, zero, ◌+◌, ◌*◌, ◌%◌, ◌<◌, ◌≤◌, ◌^◌, List, [], ◌∷◌, ◌++◌, length, take, drop, refl, sym, subst, arith, length-drop}
use Rattle.std.proofs.lemmas.List.{length-take}
use Rattle.std.specs.Prelude.{Bool, true, false, ◌==◌, if◌then◌else◌, slice_index, All, Option, Some, None, option_and_then, unwrap_or, ⊤}
use Rattle.std.specs.List.{list_all}
use Rattle.std.specs.Option.{option_or}
use Rattle.std.proofs.Math.Seq.{take-append_seam}
use Rattle.std.proofs.lemmas.Bool.{eqb-true}
use Rattle.std.proofs.lemmas.List.Elements.{All-cons, All-drop, All-nil, All-head, All-tail, All-take}
use Rattle.mb_instr.specs.declared.instruction.Instr.{Instr}
use Rattle.mb_instr.specs.Codes.{AreWords, Codes}
use Rattle.mb_decode.specs.declared.front.Decoded.{Decoded}
use Rattle.mb_decode.specs.declared.front.Decoded.TheVariants.{Whole}
use Rattle.mb_decode.specs.Decodes.{Decodes, decode_of}
use Rattle.mb_decode.proofs.Table.{decoded}
use Rattle.mb_mnemonics.specs.declared.line.Line.{Line as Mnemonic}
use Rattle.mb_mnemonics.specs.Lines.{lines}
use Rattle.mb_mnemonics.specs.Means.{words_by}
use Rattle.mb_statement.specs.Statements.{Statement, has_bits, statement_by}
use Rattle.mb_statement.specs.Texts.{statement_text}
use Rattle.mb_statement.specs.Written.{has_text, is_written}
use Rattle.mb_statement.proofs.Lexemes.{both}
use Rattle.mb_statement.proofs.LinesWritten.{all_named, is_named, statement_written}
use Rattle.mb_listing.specs.Listing.{Line, data_line, instruction_line, is_said, line_among, line_at, line_by, line_said, says}
use Rattle.mb_listing.specs.Listing.{lines_from, lines_of, words_at, words_in}
use Rattle.mb_listing.specs.Laws.{EachLineGives, GivesItsWords}
use Rattle.mb_listing.proofs.DataLines.{data_gives_its_word}
use Rattle.mb_listing.proofs.Instructions.{says_gives}

-- ---- a line is the first words and a statement that says them, or the first word as a number

module _ (P : Line → Type 0) (at : ℕ) where
  -- it holds of the line, where there is one
  abbrev Made : Option Line → Type 0
  Made None = ⊤
  Made (Some line) = P line

  module _ (words : List ℕ) (small : AreWords words)
      (listed : (s : Statement) → is_written s ≡ true → says at words s ≡ true → P (record { at = at; words = words; text = statement_text s })) where
    by_test : (l : Mnemonic) (s : Statement) (test : Bool) → is_named l ≡ true → statement_by l at words ≡ Some s → says at words s ≡ test
        → Made (if test then Some (record { at = at; words = words; text = statement_text s }) else None)
    by_test l s true named made e =
        let parts = both (list_all has_text s.operands) (is_said words (words_by s.name s.size s.operands at)) e in
        listed s (statement_written l at words s named small made parts.0) e
    by_test l s false named made e = tt

    line_by_so : (l : Mnemonic) (made : Option Statement) → is_named l ≡ true → statement_by l at words ≡ made
        → Made (option_and_then (line_said at words) made)
    line_by_so l None named e = tt
    line_by_so l (Some s) named e = by_test l s (says at words s) named e refl

    fit_so : (l : Mnemonic) (fit : Bool) → is_named l ≡ true
        → Made (if fit then option_and_then (line_said at words) (statement_by l at words) else None)
    fit_so l true named = line_by_so l (statement_by l at words) named refl
    fit_so l false named = tt

    either_so : (a b : Option Line) → Made a → Made b → Made (option_or a b)
    either_so None b h k = k
    either_so (Some line) b h k = h

    line_among_so : (ls : List Mnemonic) → list_all is_named ls ≡ true → Made (line_among ls at words)
    line_among_so [] named = tt
    line_among_so (l ∷ ls) named =
        let parts = both (is_named l) (list_all is_named ls) named in
        either_so (line_by l at words) (line_among ls at words) (fit_so l (has_bits l (slice_index words 0)) parts.0) (line_among_so ls parts.1)

    pub listed_so : Made (line_among lines at words)
    listed_so = line_among_so lines all_named

  line_so : (line : Option Line) (other : Line) → Made line → P other → P (unwrap_or line other)
  line_so None other h k = k
  line_so (Some line) other h k = h

module _ (P : Line → Type 0) (ram : List ℕ)
    (so : (at first : ℕ) (others : List ℕ) → words_at ram at ≡ first ∷ others → P (line_at at (first ∷ others))) where
  lines_from_so : (rest : ℕ → List Line) (at : ℕ) (words : List ℕ) → words_at ram at ≡ words
      → ((next : ℕ) → All P (rest next)) → All P (lines_from rest at words)
  lines_from_so rest at [] e h = All-nil P
  lines_from_so rest at (first ∷ others) e h =
      let line = line_at at (first ∷ others) in
      let next = at + 2 * length line.words in
      All-cons P line (rest next) (so at first others e) (h next)

  lines_so : (at count : ℕ) → All P (lines_of ram at count)
  unfolding lines_of
  lines_so at zero = All-nil P
  lines_so at (suc count) =
      lines_from_so (λ next. lines_of ram next count) at (words_at ram at) refl (λ next. lines_so next count)

-- ---- words of a memory

-- words that are read from bytes, which have them
record AreIn (words bytes : List ℕ) : Type 0 where
  small : AreWords words
  inside : 2 * length words ≤ length bytes

words_are_in : (most : ℕ) (bytes : List ℕ) → All (λ byte. byte < 256) bytes → AreIn (words_in most bytes) bytes
unfolding words_in
words_are_in zero bytes b = record { small = All-nil (λ w. w < 2 ^ 16); inside = omega arith }
words_are_in (suc most) [] b = record { small = All-nil (λ w. w < 2 ^ 16); inside = omega arith }
words_are_in (suc most) (high ∷ []) b = record { small = All-nil (λ w. w < 2 ^ 16); inside = omega arith }
words_are_in (suc most) (high ∷ low ∷ bytes) b =
    let high_byte : high < 256 = All-head (λ byte. byte < 256) high (low ∷ bytes) b in
    let behind = All-tail (λ byte. byte < 256) high (low ∷ bytes) b in
    let low_byte : low < 256 = All-head (λ byte. byte < 256) low bytes behind in
    let rest = words_are_in most bytes (All-tail (λ byte. byte < 256) low bytes behind) in
    let more = rest.inside in
    record { small = All-cons (λ w. w < 2 ^ 16) _ _ (omega arith) rest.small; inside = omega arith }

-- ---- each line gives its words

by_even : (at : ℕ) (words : List ℕ) (i : Instr) (even : Bool) → (at % 2 == 0) ≡ even → Codes i words → AreWords words → at + 2 * length words ≤ 2 ^ 32
    → Made GivesItsWords at (if even then line_among lines at words else None)
by_even at words i true e codes small inside =
    listed_so GivesItsWords at words small
    (λ s written yes. says_gives at words s i (eqb-true (at % 2) 0 e) written yes codes small inside)
by_even at words i false e codes small inside = tt

front_is : (n : ℕ) (words front rest : List ℕ) → words ≡ front ++ rest → n ≡ length front → take n words ≡ front
front_is n words front rest e count = rw (count, e) (take-append_seam front rest)

instruction_gives : (at : ℕ) (words : List ℕ) (d : Decoded) → decode_of words ≡ d → AreWords words → at + 2 * length words ≤ 2 ^ 32
    → Made GivesItsWords at (instruction_line at words d)
instruction_gives at words (Whole i n) e small inside =
    let b : Decodes words (Whole i n) = decoded words (Whole i n) (sym e) small in
    let front = front_is n words b.0 b.1 b.3 b.4 in
    let fewer = length-take n words in
    by_even at (take n words) i (at % 2 == 0) refl (subst (λ w. Codes i w) (sym front) b.2) (All-take (λ w. w < 2 ^ 16) n words small) (omega arith)
instruction_gives at words _ e small inside = tt

line_gives : (ram : List ℕ) (at first : ℕ) (others : List ℕ) → length ram ≤ 2 ^ 32 → All (λ byte. byte < 256) ram
    → words_at ram at ≡ first ∷ others → GivesItsWords (line_at at (first ∷ others))
line_gives ram at first others size bytes e =
    let words : List ℕ = first ∷ others in
    let read : AreIn words (drop at ram) = rw e at (words_are_in 11 (drop at ram) (All-drop (λ byte. byte < 256) at ram bytes)) in
    let fits = read.inside in
    let left = length-drop at ram in
    line_so GivesItsWords at (instruction_line at words (decode_of words)) (data_line at first)
    (instruction_gives at words (decode_of words) refl read.small (omega arith))
    (data_gives_its_word at first (omega arith) (All-head (λ w. w < 2 ^ 16) first others read.small))

pub each_line_gives : EachLineGives
each_line_gives ram at count size bytes =
    lines_so GivesItsWords ram (λ place first others e. line_gives ram place first others size bytes e) at count
