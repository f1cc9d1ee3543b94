-- The bytes of a place are a token of one kind only.
use Rattle.std.proofs.Common.{◌≡◌, ◌≢◌, ℕ, Bool, true, false, cond, List, [], ◌∷◌, refl, sym, ◌∙◌, arith}
use Rattle.std.specs.Prelude.{IsTrue, ◌==◌, ◌&&◌, ◌||◌, not}
use Rattle.std.specs.List.{list_all}
use Rattle.std.proofs.lemmas.Bool.{eqb-true, ne_eqb}
use Rattle.std.proofs.lemmas.Bool.Decides.{nat_tests}
use Rattle.mb_asm_text.specs.declared.token.TokenKind.{TokenKind}
use Rattle.mb_asm_text.specs.declared.token.TokenKind.TheVariants.{Name, Number, Text, Mark, Blank, Comment}
use Rattle.mb_asm_text.specs.Kinds.{Where, is_any, is_apostrophe, is_binary_digit, is_blank, is_closed, is_digit, is_empty, is_hexadecimal_digit, is_mark, is_name_part, is_name_start, is_number, is_quoted_character, is_run, is_token, starts_comment}
use Rattle.mb_asm_text.proofs.Runs.{both}
use Rattle.mb_asm_text.proofs.Shapes.{none_empty}

pub apart : (b : Bool) → (IsTrue b → ⊥) → b ≡ false
apart true never = absurd (never refl)
apart false never = refl

abbrev starts_number : ℕ → Bool
starts_number byte = ((is_digit byte || byte == 36) || byte == 37) || is_apostrophe byte

abbrev pub kind_at : Bool → ℕ → TokenKind
kind_at first byte = cond (starts_comment first byte) Comment
    (cond (is_mark byte) Mark (cond (is_name_start byte) Name (cond (is_blank byte) Blank (cond (byte == 34) Text Number))))

firsts : (a b c d x y z w : Bool) → IsTrue ((((a && x) || (b && y)) || (c && z)) || (d && w)) → IsTrue (((a || b) || c) || d)
firsts true b c d x y z w h = refl
firsts false true c d x y z w h = refl
firsts false false true d x y z w h = refl
firsts false false false true x y z w h = refl
firsts false false false false x y z w h = absurd cc

no_comment_by : (first semicolon star : Bool) → semicolon ≡ false → star ≡ false → (semicolon || (first && star)) ≡ false
no_comment_by true false false e f = refl
no_comment_by false false star e f = refl
no_comment_by true false true e f = absurd cc
no_comment_by first true star e f = absurd cc

no_comment : (first : Bool) (byte : ℕ) → byte ≢ 59 → byte ≢ 42 → starts_comment first byte ≡ false
no_comment first byte semicolon star = no_comment_by first (byte == 59) (byte == 42) (ne_eqb byte 59 semicolon) (ne_eqb byte 42 star)

alone : (mark comment : Bool) → IsTrue (mark && not comment) → (mark ≡ true) × (comment ≡ false)
alone true false h = (refl, refl)
alone true true h = absurd cc
alone false comment h = absurd cc

pub name_mark : (byte : ℕ) → IsTrue (is_name_start byte) → IsTrue (is_mark byte) → ⊥
name_mark byte name mark = absurd (grind (arith, nat_tests))

name_kind : (first : Bool) (byte : ℕ) → IsTrue (is_name_start byte) → kind_at first byte ≡ Name
name_kind first byte name =
    let semicolon : byte ≢ 59 = λ e. absurd (grind (arith, nat_tests)) in
    let star : byte ≢ 42 = λ e. absurd (grind (arith, nat_tests)) in
    let comment : starts_comment first byte ≡ false = no_comment first byte semicolon star in
    let mark : is_mark byte ≡ false = apart (is_mark byte) (λ m. name_mark byte name m) in
    rw (comment, mark, name) refl

blank_kind : (first : Bool) (byte : ℕ) → IsTrue (is_blank byte) → kind_at first byte ≡ Blank
blank_kind first byte blank =
    let semicolon : byte ≢ 59 = λ e. absurd (grind (arith, nat_tests)) in
    let star : byte ≢ 42 = λ e. absurd (grind (arith, nat_tests)) in
    let comment : starts_comment first byte ≡ false = no_comment first byte semicolon star in
    let mark : is_mark byte ≡ false = apart (is_mark byte) (λ m. absurd (grind (arith, nat_tests))) in
    let name : is_name_start byte ≡ false = apart (is_name_start byte) (λ m. absurd (grind (arith, nat_tests))) in
    rw (comment, mark, name, blank) refl

text_kind : (first : Bool) (byte : ℕ) → byte ≡ 34 → kind_at first byte ≡ Text
text_kind first byte same =
    let comment : starts_comment first 34 ≡ false = no_comment first 34 (λ e. absurd cc) (λ e. absurd cc) in
    rw same (rw comment refl)

number_starts : (byte : ℕ) (bytes : List ℕ) → IsTrue (is_number (byte ∷ bytes)) → IsTrue (starts_number byte)
number_starts byte bytes h = firsts (is_digit byte) (byte == 36) (byte == 37) (is_apostrophe byte) (list_all is_digit bytes)
    (is_run is_hexadecimal_digit bytes) (is_run is_binary_digit bytes) (is_quoted_character bytes) h

number_kind : (first : Bool) (byte : ℕ) → IsTrue (starts_number byte) → kind_at first byte ≡ Number
number_kind first byte number =
    let semicolon : byte ≢ 59 = λ e. absurd (grind (arith, nat_tests)) in
    let star : byte ≢ 42 = λ e. absurd (grind (arith, nat_tests)) in
    let comment : starts_comment first byte ≡ false = no_comment first byte semicolon star in
    let mark : is_mark byte ≡ false = apart (is_mark byte) (λ m. absurd (grind (arith, nat_tests))) in
    let name : is_name_start byte ≡ false = apart (is_name_start byte) (λ m. absurd (grind (arith, nat_tests))) in
    let blank : is_blank byte ≡ false = apart (is_blank byte) (λ m. absurd (grind (arith, nat_tests))) in
    let quote : (byte == 34) ≡ false = apart (byte == 34) (λ m. absurd (grind (arith, nat_tests))) in
    rw (comment, mark, name, blank, quote) refl

pub kind_is : (kind : TokenKind) (place : Where) (byte : ℕ) (bytes : List ℕ) → IsTrue (is_token kind place (byte ∷ bytes)) → kind_at place.first byte ≡ kind
kind_is Name place byte bytes h =
    let name = (both (is_name_start byte) (list_all is_name_part bytes) h).0 in
    name_kind place.first byte name
kind_is Number place byte bytes h = number_kind place.first byte (number_starts byte bytes h)
kind_is Text place byte bytes h =
    let quote = (both (byte == 34) (is_closed bytes) h).0 in
    let same : byte ≡ 34 = eqb-true byte 34 quote in
    text_kind place.first byte same
kind_is Mark place byte bytes h =
    let parts = alone (is_mark byte) (starts_comment place.first byte) (both (is_mark byte && not (starts_comment place.first byte)) (is_empty bytes) h).0
    in
    rw (parts.1, parts.0) refl
kind_is Blank place byte bytes h =
    let blank = (both (is_blank byte) (list_all is_blank bytes) h).0 in
    blank_kind place.first byte blank
kind_is Comment place byte bytes h =
    let comment = (both (starts_comment place.first byte) (is_any bytes) (both (starts_comment place.first byte && is_any bytes) place.last h).0).0 in
    rw comment refl

-- bytes are a token of no second kind
pub one_kind : (one other : TokenKind) (place : Where) (bytes : List ℕ) → IsTrue (is_token one place bytes) → IsTrue (is_token other place bytes)
    → one ≡ other
one_kind one other place [] h k = absurd (none_empty one place h)
one_kind one other place (byte ∷ bytes) h k = sym (kind_is one place byte bytes h) ∙ kind_is other place byte bytes k
