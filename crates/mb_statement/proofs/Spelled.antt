-- Each lexeme of a statement's text is one.
use Rattle.std.proofs.Common.{◌≡◌, ℕ, ◌+◌, ◌-◌, ◌%◌, ◌≤◌, ◌<◌, Bool, true, false, List, [], ◌∷◌, ◌++◌, length, refl, ap, ◌∙◌, arith}
use Rattle.std.specs.Prelude.{◌==◌, not, Some, nat_le, codes}
use Rattle.std.specs.List.{list_all, prefix_len}
use Rattle.std.proofs.lemmas.Bool.{ne_eqb, le-leb}
use Rattle.std.proofs.lemmas.Bool.Decides.{nat_tests}
use Rattle.std.proofs.lemmas.List.Elements.{All-cons, All-nil}
use Rattle.mb_asm_text.specs.declared.token.Token.{Token}
use Rattle.mb_asm_text.specs.declared.token.TokenKind.TheVariants as kind
use Rattle.mb_asm_text.specs.Kinds.{is_blank, is_digit, is_hexadecimal_digit, is_mark, is_name_part, is_name_start}
use Rattle.mb_asm_text.specs.Cut.{text_of}
use Rattle.mb_asm_text.specs.Cutting.{front_found}
use Rattle.mb_instr.specs.declared.control.ControlRegister.{ControlRegister}
use Rattle.mb_instr.specs.declared.control.ControlRegister.TheVariants as control
use Rattle.mb_port.specs.declared.types.MmuReg.TheVariants as mmu
use Rattle.mb_instr.specs.declared.kinds.Caches.{Caches}
use Rattle.mb_instr.specs.declared.kinds.Caches.TheVariants as caches
use Rattle.mb_syntax.specs.declared.word.Name.{Name}
use Rattle.mb_syntax.specs.declared.word.Word.{Word}
use Rattle.mb_syntax.specs.declared.word.Word.TheVariants as word
use Rattle.mb_syntax.specs.declared.register.Register.{Register}
use Rattle.mb_syntax.specs.declared.register.Register.TheVariants as register
use Rattle.mb_syntax.specs.declared.statement.SizeLetter.{SizeLetter}
use Rattle.mb_syntax.specs.declared.statement.SizeLetter.TheVariants as letter
use Rattle.mb_syntax.specs.Names.{register_of, register_number}
use Rattle.mb_syntax.specs.Tables.{found_in}
use Rattle.mb_syntax.specs.Words.{word_of, name_word, number_word, number_of, marks, digits_behind, place_of}
use Rattle.mb_statement.specs.Numbers.{last_digits, number}
use Rattle.mb_instr.specs.Control.{control_name}
use Rattle.mb_statement.specs.Texts.{numbered, caches_text}
use Rattle.mb_statement.specs.Written.{is_name}
use Rattle.mb_statement.proofs.Digits.{Spells, last_spells}
use Rattle.mb_statement.proofs.Lexemes.{ArePlain, Lexeme, IsLexeme, both, ends, ends_run}
use Rattle.mb_asm_text.proofs.OneKind.{apart, name_mark}

-- ---- runs

-- a run that all elements pass, and no more behind it
pub run_ends : (p : ℕ → Bool) (xs rest : List ℕ) → list_all p xs ≡ true → prefix_len p rest ≡ 0 → prefix_len p (xs ++ rest) ≡ length xs
run_ends p [] rest all none = none
run_ends p (x ∷ xs) rest all none =
    let parts = both (p x) (list_all p xs) all in
    let more = run_ends p xs rest parts.1 none in
    rw parts.0 (omega (arith, more))

pub not_true : (b : Bool) → not b ≡ true → b ≡ false
not_true true h = absurd cc
not_true false h = refl

none_more : (p : ℕ → Bool) (rest : List ℕ) → ends_run p rest ≡ true → prefix_len p rest ≡ 0
none_more p [] h = refl
none_more p (byte ∷ bytes) h = rw (not_true (p byte) h) refl

no_hex_no_digit : (byte : ℕ) → is_hexadecimal_digit byte ≡ false → is_digit byte ≡ false
no_hex_no_digit byte h = grind (arith, nat_tests)

digit_ends : (rest : List ℕ) → ends kind.Number rest ≡ true → prefix_len is_digit rest ≡ 0
digit_ends [] h = refl
digit_ends (byte ∷ bytes) h = rw (no_hex_no_digit byte (not_true (is_hexadecimal_digit byte) h)) refl

-- bytes of a class that has none that ends a line
all_plain : (p : ℕ → Bool) → ((c : ℕ) → p c ≡ true → 13 < c) → (bytes : List ℕ) → list_all p bytes ≡ true → ArePlain bytes
all_plain p h [] all = All-nil (λ c. 13 < c)
all_plain p h (byte ∷ bytes) all =
    let parts = both (p byte) (list_all p bytes) all in
    All-cons (λ c. 13 < c) byte bytes (h byte parts.0) (all_plain p h bytes parts.1)

one_plain : (byte : ℕ) → 13 < byte → ArePlain (byte ∷ [])
one_plain byte h = All-cons (λ c. 13 < c) byte [] h (All-nil (λ c. 13 < c))

-- ---- names

abbrev pub named : List ℕ → (Name → Word) → Lexeme
named bytes says = record { bytes = bytes; kind = kind.Name; word = says }

start_plain : (byte : ℕ) → is_name_start byte ≡ true → 13 < byte
start_plain byte h = grind (arith, nat_tests)

part_plain : (byte : ℕ) → is_name_part byte ≡ true → 13 < byte
part_plain byte h = grind (arith, nat_tests)

name_found : (first : ℕ) (others rest : List ℕ) → is_name_start first ≡ true → list_all is_name_part others ≡ true → ends kind.Name rest ≡ true
    → front_found false (first ∷ others ++ rest) ≡ Some (kind.Name, 1 + length others)
name_found first others rest start all h =
    let semicolon : (first == 59) ≡ false = ne_eqb first 59 (λ e. absurd (grind (arith, nat_tests))) in
    let mark : is_mark first ≡ false = apart (is_mark first) (λ m. name_mark first start m) in
    let run : prefix_len is_name_part (others ++ rest) ≡ length others = run_ends is_name_part others rest all (none_more is_name_part rest h) in
    rw (semicolon, mark, start, run) refl

name_says : (line : List ℕ) (token : Token) (bytes : List ℕ) → text_of line token ≡ bytes → token.kind ≡ kind.Name
    → word_of line token ≡ Some (name_word bytes (place_of token))
unfolding word_of
name_says line token bytes text named_so = rw (named_so, text) refl

name_is_by : (bytes : List ℕ) (says : Name → Word) → is_name bytes ≡ true → ((name : Name) → name_word bytes name ≡ says name) → IsLexeme (named bytes says)
name_is_by [] says h same = absurd cc
name_is_by (first ∷ others) says h same =
    let parts = both (is_name_start first) (list_all is_name_part others) h in
    record {
      some = omega arith;
      plain = All-cons (λ c. 13 < c) first others (start_plain first parts.0) (all_plain is_name_part part_plain others parts.1);
      found = λ rest e. name_found first others rest parts.0 parts.1 e ∙ ap (λ (n : ℕ). Some (kind.Name, n)) (omega arith);
      says = λ line token text named_so.
          name_says line token (first ∷ others) text named_so ∙ ap Some (same (place_of token));
    }

-- a name, whatever it says
pub name_is : (bytes : List ℕ) → is_name bytes ≡ true → IsLexeme (named bytes (name_word bytes))
name_is bytes h = name_is_by bytes (name_word bytes) h (λ name. refl)

-- ---- registers

abbrev pub register_bytes : Register → List ℕ
register_bytes (register.Data n) = numbered false n
register_bytes (register.Address n) = numbered true n
register_bytes register.Pc = codes "PC"
register_bytes (register.NoData n) = 90 ∷ numbered false n
register_bytes (register.NoAddress n) = 90 ∷ numbered true n
register_bytes register.NoPc = codes "ZPC"
register_bytes register.Sr = codes "SR"
register_bytes register.Ccr = codes "CCR"
register_bytes (register.Control c) = control_name c

abbrev pub is_numbered : Register → Bool
is_numbered (register.Data n) = nat_le n 7
is_numbered (register.Address n) = nat_le n 7
is_numbered (register.NoData n) = nat_le n 7
is_numbered (register.NoAddress n) = nat_le n 7
is_numbered _ = true

abbrev pub reg : Register → Lexeme
reg r = named (register_bytes r) (λ place. word.Register r place)

digit_number : (n : ℕ) → nat_le n 7 ≡ true → register_number (48 + n % 8) ≡ Some n
digit_number n h =
    let low : n ≤ 7 = grind (arith, nat_tests) in
    let same : n % 8 ≡ n = omega arith in
    let above : nat_le 48 (48 + n) ≡ true = le-leb 48 (48 + n) (omega arith) in
    let below : nat_le (48 + n) 55 ≡ true = le-leb (48 + n) 55 (omega arith) in
    let value : 48 + n - 48 ≡ n = omega arith in
    rw (same, above, below, value) refl

digit_part : (n : ℕ) → is_name_part (48 + n % 8) ≡ true
digit_part n = grind (arith, nat_tests)

pub control_is_name : (c : ControlRegister) → is_name (control_name c) ≡ true
control_is_name control.Sfc = refl
control_is_name control.Dfc = refl
control_is_name control.Cacr = refl
control_is_name (control.Mmu mmu.Tc) = refl
control_is_name (control.Mmu mmu.Itt0) = refl
control_is_name (control.Mmu mmu.Itt1) = refl
control_is_name (control.Mmu mmu.Dtt0) = refl
control_is_name (control.Mmu mmu.Dtt1) = refl
control_is_name (control.Mmu mmu.Mmusr) = refl
control_is_name (control.Mmu mmu.Urp) = refl
control_is_name (control.Mmu mmu.Srp) = refl
control_is_name control.Usp = refl
control_is_name control.Vbr = refl
control_is_name control.Msp = refl
control_is_name control.Isp = refl

control_said : (c : ControlRegister) → register_of (control_name c) ≡ Some (register.Control c)
control_said control.Sfc = refl
control_said control.Dfc = refl
control_said control.Cacr = refl
control_said (control.Mmu mmu.Tc) = refl
control_said (control.Mmu mmu.Itt0) = refl
control_said (control.Mmu mmu.Itt1) = refl
control_said (control.Mmu mmu.Dtt0) = refl
control_said (control.Mmu mmu.Dtt1) = refl
control_said (control.Mmu mmu.Mmusr) = refl
control_said (control.Mmu mmu.Urp) = refl
control_said (control.Mmu mmu.Srp) = refl
control_said control.Usp = refl
control_said control.Vbr = refl
control_said control.Msp = refl
control_said control.Isp = refl

register_name : (r : Register) → is_name (register_bytes r) ≡ true
register_name (register.Data n) = rw (digit_part n) refl
register_name (register.Address n) = rw (digit_part n) refl
register_name (register.NoData n) = rw (digit_part n) refl
register_name (register.NoAddress n) = rw (digit_part n) refl
register_name register.Pc = refl
register_name register.NoPc = refl
register_name register.Sr = refl
register_name register.Ccr = refl
register_name (register.Control c) = control_is_name c

register_said : (r : Register) → is_numbered r ≡ true → register_of (register_bytes r) ≡ Some r
register_said (register.Data n) h = rw (digit_number n h) refl
register_said (register.Address n) h = rw (digit_number n h) refl
register_said (register.NoData n) h = rw (digit_number n h) refl
register_said (register.NoAddress n) h = rw (digit_number n h) refl
register_said register.Pc h = refl
register_said register.NoPc h = refl
register_said register.Sr h = refl
register_said register.Ccr h = refl
register_said (register.Control c) h = control_said c

pub reg_is : (r : Register) → is_numbered r ≡ true → IsLexeme (reg r)
reg_is r h = name_is_by (register_bytes r) (λ place. word.Register r place) (register_name r) (λ name. rw (register_said r h) refl)

-- ---- size letters and caches

abbrev pub letter_bytes : SizeLetter → List ℕ
letter_bytes letter.Byte = codes "B"
letter_bytes letter.Short = codes "S"
letter_bytes letter.Word = codes "W"
letter_bytes letter.Long = codes "L"

abbrev pub size : SizeLetter → Lexeme
size l = named (letter_bytes l) (λ place. word.Letter l place)

pub size_is : (l : SizeLetter) → IsLexeme (size l)
size_is letter.Byte = name_is_by (codes "B") _ refl (λ name. refl)
size_is letter.Short = name_is_by (codes "S") _ refl (λ name. refl)
size_is letter.Word = name_is_by (codes "W") _ refl (λ name. refl)
size_is letter.Long = name_is_by (codes "L") _ refl (λ name. refl)

abbrev pub cache : Caches → Lexeme
cache c = named (caches_text c) (λ place. word.Cache c place)

pub cache_is : (c : Caches) → IsLexeme (cache c)
cache_is caches.Neither = name_is_by (codes "NC") _ refl (λ name. refl)
cache_is caches.Data = name_is_by (codes "DC") _ refl (λ name. refl)
cache_is caches.Instruction = name_is_by (codes "IC") _ refl (λ name. refl)
cache_is caches.Both = name_is_by (codes "BC") _ refl (λ name. refl)

-- ---- numbers

abbrev pub numeral : ℕ → Lexeme
numeral n = record { bytes = number n; kind = kind.Number; word = λ place. word.Number n }

hex_plain : (byte : ℕ) → is_hexadecimal_digit byte ≡ true → 13 < byte
hex_plain byte h = grind (arith, nat_tests)

number_found : (digits rest : List ℕ) → 0 < length digits → list_all is_hexadecimal_digit digits ≡ true → ends kind.Number rest ≡ true
    → front_found false (36 ∷ digits ++ rest) ≡ Some (kind.Number, 1 + length digits)
number_found digits rest some all h =
    let run : prefix_len is_hexadecimal_digit (digits ++ rest) ≡ length digits =
    run_ends is_hexadecimal_digit digits rest all (none_more is_hexadecimal_digit rest h) in
    let other : (length digits == 0) ≡ false = ne_eqb (length digits) 0 (λ same. omega arith) in
    rw (run, other) refl

number_says : (line : List ℕ) (token : Token) (digits : List ℕ) (n : ℕ) → text_of line token ≡ 36 ∷ digits → token.kind ≡ kind.Number
    → digits_behind 16 0 digits ≡ n → n ≤ 4294967295 → word_of line token ≡ Some (word.Number n)
unfolding word_of
number_says line token digits n text named_so value small = rw (named_so, text, value, le-leb n 4294967295 small) refl

pub numeral_is : (n : ℕ) → n ≤ 4294967295 → IsLexeme (numeral n)
numeral_is n small =
    let spells : Spells (last_digits 16 n) n = last_spells 15 n (omega arith) in
    record {
      some = omega arith;
      plain = All-cons (λ c. 13 < c) 36 (last_digits 16 n) (omega arith) (all_plain is_hexadecimal_digit hex_plain (last_digits 16 n) spells.all);
      found = λ rest e. number_found (last_digits 16 n) rest spells.some spells.all e ∙ ap (λ (k : ℕ). Some (kind.Number, k)) (omega arith);
      says = λ line token text named_so. number_says line token (last_digits 16 n) n text named_so spells.spelled small;
    }

-- ---- blanks and marks

abbrev pub blank : Lexeme
blank = record { bytes = codes " "; kind = kind.Blank; word = λ place. word.Blank }

blank_says : (line : List ℕ) (token : Token) → token.kind ≡ kind.Blank → word_of line token ≡ Some word.Blank
unfolding word_of
blank_says line token said = rw said refl

pub blank_is : IsLexeme blank
blank_is = record {
  some = omega arith;
  plain = one_plain 32 (omega arith);
  found = λ rest e. rw (none_more is_blank rest e) refl;
  says = λ line token text said. blank_says line token said;
}

abbrev pub mark : ℕ → Word → Lexeme
mark byte says = record { bytes = byte ∷ []; kind = kind.Mark; word = λ place. says }

mark_says : (line : List ℕ) (token : Token) (byte : ℕ) (says : Word) → text_of line token ≡ byte ∷ [] → token.kind ≡ kind.Mark
    → found_in marks (byte ∷ []) ≡ Some says → word_of line token ≡ Some says
unfolding word_of
mark_says line token byte says text said found = rw (said, text) found

pub mark_is : (byte : ℕ) (says : Word) → ((rest : List ℕ) → front_found false (byte ∷ rest) ≡ Some (kind.Mark, 1))
    → found_in marks (byte ∷ []) ≡ Some says → 13 < byte → IsLexeme (mark byte says)
mark_is byte says found table plain = record {
  some = omega arith;
  plain = one_plain byte plain;
  found = λ rest e. found rest;
  says = λ line token text said. mark_says line token byte says text said table;
}

abbrev pub hash : Lexeme
hash = mark 35 word.Hash

pub hash_is : IsLexeme hash
hash_is = mark_is 35 word.Hash (λ rest. refl) refl (omega arith)

abbrev pub open_mark : Lexeme
open_mark = mark 40 word.Open

pub open_is : IsLexeme open_mark
open_is = mark_is 40 word.Open (λ rest. refl) refl (omega arith)

abbrev pub close_mark : Lexeme
close_mark = mark 41 word.Close

pub close_is : IsLexeme close_mark
close_is = mark_is 41 word.Close (λ rest. refl) refl (omega arith)

abbrev pub open_square : Lexeme
open_square = mark 91 word.OpenSquare

pub open_square_is : IsLexeme open_square
open_square_is = mark_is 91 word.OpenSquare (λ rest. refl) refl (omega arith)

abbrev pub close_square : Lexeme
close_square = mark 93 word.CloseSquare

pub close_square_is : IsLexeme close_square
close_square_is = mark_is 93 word.CloseSquare (λ rest. refl) refl (omega arith)

abbrev pub open_brace : Lexeme
open_brace = mark 123 word.OpenBrace

pub open_brace_is : IsLexeme open_brace
open_brace_is = mark_is 123 word.OpenBrace (λ rest. refl) refl (omega arith)

abbrev pub close_brace : Lexeme
close_brace = mark 125 word.CloseBrace

pub close_brace_is : IsLexeme close_brace
close_brace_is = mark_is 125 word.CloseBrace (λ rest. refl) refl (omega arith)

abbrev pub comma : Lexeme
comma = mark 44 word.Comma

pub comma_is : IsLexeme comma
comma_is = mark_is 44 word.Comma (λ rest. refl) refl (omega arith)

abbrev pub dot : Lexeme
dot = mark 46 word.Dot

pub dot_is : IsLexeme dot
dot_is = mark_is 46 word.Dot (λ rest. refl) refl (omega arith)

abbrev pub colon : Lexeme
colon = mark 58 word.Colon

pub colon_is : IsLexeme colon
colon_is = mark_is 58 word.Colon (λ rest. refl) refl (omega arith)

abbrev pub plus : Lexeme
plus = mark 43 word.Plus

pub plus_is : IsLexeme plus
plus_is = mark_is 43 word.Plus (λ rest. refl) refl (omega arith)

abbrev pub minus : Lexeme
minus = mark 45 word.Minus

pub minus_is : IsLexeme minus
minus_is = mark_is 45 word.Minus (λ rest. refl) refl (omega arith)

abbrev pub star : Lexeme
star = mark 42 word.Star

pub star_is : IsLexeme star
star_is = mark_is 42 word.Star (λ rest. refl) refl (omega arith)

abbrev pub slash : Lexeme
slash = mark 47 word.Slash

pub slash_is : IsLexeme slash
slash_is = mark_is 47 word.Slash (λ rest. refl) refl (omega arith)

-- a decimal digit, as a scale is written
abbrev pub figure : ℕ → Lexeme
figure n = record { bytes = (48 + n) ∷ []; kind = kind.Number; word = λ place. word.Number n }

figure_says : (line : List ℕ) (token : Token) (n : ℕ) → text_of line token ≡ (48 + n) ∷ [] → token.kind ≡ kind.Number
    → number_word (number_of ((48 + n) ∷ [])) ≡ word.Number n → word_of line token ≡ Some (word.Number n)
unfolding word_of
figure_says line token n text said read = rw (said, text, read) refl

figure_is : (n : ℕ) → ((rest : List ℕ) → front_found false ((48 + n) ∷ rest) ≡ Some (kind.Number, 1 + prefix_len is_digit rest))
    → number_word (number_of ((48 + n) ∷ [])) ≡ word.Number n → IsLexeme (figure n)
figure_is n found read = record {
  some = omega arith;
  plain = one_plain (48 + n) (omega arith);
  found = λ rest e. found rest ∙ rw (digit_ends rest e) refl;
  says = λ line token text said. figure_says line token n text said read;
}

pub two_is : IsLexeme (figure 2)
two_is = figure_is 2 (λ rest. refl) refl

pub four_is : IsLexeme (figure 4)
four_is = figure_is 4 (λ rest. refl) refl

pub eight_is : IsLexeme (figure 8)
eight_is = figure_is 8 (λ rest. refl) refl
