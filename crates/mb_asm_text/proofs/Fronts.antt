-- The longest token at the front, by its first byte.
use Rattle.std.proofs.Common.{◌≡◌, ◌≢◌, ℕ, zero, suc, ◌+◌, ◌≤◌, ◌<◌, Bool, true, false, cond, List, [], ◌∷◌, length, take, refl, arith}
use Rattle.std.specs.Prelude.{IsTrue, Some, None, ◌==◌, ◌&&◌, ◌||◌, not, nat_lt, slice_index}
use Rattle.std.specs.List.{list_all, prefix_len}
use Rattle.std.proofs.lemmas.Bool.{eq-eqb, eqb-true, lt-ltb}
use Rattle.std.proofs.lemmas.Bool.Decides.{nat_tests}
use Rattle.mb_asm_text.specs.declared.token.TokenKind.{TokenKind}
use Rattle.mb_asm_text.specs.declared.token.TokenKind.TheVariants.{Name, Number, Text, Mark, Blank, Comment}
use Rattle.mb_asm_text.specs.Kinds.{begins, is_binary_digit, is_blank, is_digit, is_hexadecimal_digit, is_mark, is_name_part, is_name_start, is_number, is_printable, is_apostrophe, is_quotable, is_quoted_character, starts_comment, is_run, is_token}
use Rattle.mb_asm_text.specs.Front.{IsFront, IsLongestFront, HasNoFront, Finds, digits_found, character_found, text_found}
use Rattle.mb_asm_text.proofs.Runs.{both, run_longest, run_passes, run_within, run_most, run_is_run, closed_longest, closed_found, character_longest, empty_len, Closes}
use Rattle.mb_asm_text.proofs.Shapes.{Shape, shape, none_empty, Named, Decimal, Hexadecimal, Binary, Character, Quoted, Marked, Blanks, Commented}

pub joined : (a b : Bool) → IsTrue a → IsTrue b → IsTrue (a && b)
joined true b h k = k
joined false b h k = absurd cc

by_first : (a b : Bool) → IsTrue a → IsTrue (a || b)
by_first true b h = refl
by_first false b h = absurd cc

by_second : (a b : Bool) → IsTrue b → IsTrue (a || b)
by_second true b h = refl
by_second false b h = h

refused : (a b : Bool) → (a && b) ≡ false → IsTrue a → IsTrue b → ⊥
refused true true e h k = absurd cc
refused true false e h k = absurd cc
refused false b e h k = absurd cc

-- how many bytes behind the first are a token at most
abbrev pub AtMost : Bool → ℕ → List ℕ → ℕ → Type 0
AtMost first byte bytes bound = (len : ℕ) → len ≤ length bytes → Shape first byte (take len bytes) → len ≤ bound

bounded : (first : Bool) (byte : ℕ) (bytes : List ℕ) (bound : ℕ) → AtMost first byte bytes bound → (other : TokenKind) (more : ℕ)
    → IsFront first (byte ∷ bytes) other more → more ≤ suc bound
bounded first byte bytes bound most other zero front = omega arith
bounded first byte bytes bound most other (suc len) front =
    let inside : len ≤ length bytes = omega (arith, front.inside) in
    let least = most len inside (shape other (record { first = first; last = suc len == length (byte ∷ bytes) }) byte (take len bytes) front.spelled) in
    omega (arith, least)

-- a token that is found with the greatest length
longest_found : (first : Bool) (byte : ℕ) (bytes : List ℕ) (kind : TokenKind) (len : ℕ) → len ≤ length bytes
    → IsTrue (is_token kind (record { first = first; last = suc len == length (byte ∷ bytes) }) (byte ∷ take len bytes))
    → AtMost first byte bytes len → IsLongestFront first (byte ∷ bytes) kind (1 + len)
longest_found first byte bytes kind len inside spelled most =
    let more : 1 + len ≡ suc len = omega arith in
    rw more (record { front = record { inside = omega arith; spelled = spelled }; longest = bounded first byte bytes len most })

none_found : (first : Bool) (byte : ℕ) (bytes : List ℕ) → ((len : ℕ) → len ≤ length bytes → Shape first byte (take len bytes) → ⊥)
    → HasNoFront first (byte ∷ bytes)
none_found first byte bytes never kind zero front = absurd (none_empty kind (record { first = first; last = 0 == length (byte ∷ bytes) }) front.spelled)
none_found first byte bytes never kind (suc len) front =
    never len (omega (arith, front.inside)) (shape kind (record { first = first; last = suc len == length (byte ∷ bytes) }) byte (take len bytes)
    front.spelled)

name_most : (first : Bool) (byte : ℕ) (bytes : List ℕ) → starts_comment first byte ≡ false → is_mark byte ≡ false → IsTrue (is_name_start byte)
    → AtMost first byte bytes (prefix_len is_name_part bytes)
name_most first byte bytes comment mark h len inside (Named name rest) = run_longest is_name_part bytes len inside rest
name_most first byte bytes comment mark h len inside (Decimal digit rest) = absurd (grind (arith, nat_tests))
name_most first byte bytes comment mark h len inside (Hexadecimal same rest) = absurd (grind (arith, nat_tests))
name_most first byte bytes comment mark h len inside (Binary same rest) = absurd (grind (arith, nat_tests))
name_most first byte bytes comment mark h len inside (Character same rest) = absurd (grind (arith, nat_tests))
name_most first byte bytes comment mark h len inside (Quoted same rest) = absurd (grind (arith, nat_tests))
name_most first byte bytes comment mark h len inside (Marked is alone rest) = absurd cc
name_most first byte bytes comment mark h len inside (Blanks blank rest) = absurd (grind (arith, nat_tests))
name_most first byte bytes comment mark h len inside (Commented starts) = absurd cc

pub name_found : (first : Bool) (byte : ℕ) (bytes : List ℕ) → starts_comment first byte ≡ false → is_mark byte ≡ false → IsTrue (is_name_start byte)
    → Finds first (byte ∷ bytes) (Some (Name, 1 + prefix_len is_name_part bytes))
name_found first byte bytes comment mark h =
    let len = prefix_len is_name_part bytes in
    longest_found first byte bytes Name len (run_within is_name_part bytes)
    (joined (is_name_start byte) (list_all is_name_part (take len bytes)) h (run_passes is_name_part bytes)) (name_most first byte bytes comment mark h)

digit_most : (first : Bool) (byte : ℕ) (bytes : List ℕ) → starts_comment first byte ≡ false → is_mark byte ≡ false → is_name_start byte ≡ false
    → IsTrue (is_digit byte) → AtMost first byte bytes (prefix_len is_digit bytes)
digit_most first byte bytes comment mark name h len inside (Named is rest) = absurd cc
digit_most first byte bytes comment mark name h len inside (Decimal digit rest) = run_longest is_digit bytes len inside rest
digit_most first byte bytes comment mark name h len inside (Hexadecimal same rest) = absurd (grind (arith, nat_tests))
digit_most first byte bytes comment mark name h len inside (Binary same rest) = absurd (grind (arith, nat_tests))
digit_most first byte bytes comment mark name h len inside (Character same rest) = absurd (grind (arith, nat_tests))
digit_most first byte bytes comment mark name h len inside (Quoted same rest) = absurd (grind (arith, nat_tests))
digit_most first byte bytes comment mark name h len inside (Marked is alone rest) = absurd cc
digit_most first byte bytes comment mark name h len inside (Blanks blank rest) = absurd (grind (arith, nat_tests))
digit_most first byte bytes comment mark name h len inside (Commented starts) = absurd cc

abbrev is_dollar_number : List ℕ → Bool
is_dollar_number bytes = begins (λ byte. byte == 36) (is_run is_hexadecimal_digit) bytes

abbrev is_percent_number : List ℕ → Bool
is_percent_number bytes = begins (λ byte. byte == 37) (is_run is_binary_digit) bytes

decimal_is : (bytes : List ℕ) → IsTrue (is_run is_digit bytes) → IsTrue (is_number bytes)
decimal_is bytes h =
    by_first ((is_run is_digit bytes || is_dollar_number bytes) || is_percent_number bytes) (begins is_apostrophe is_quoted_character bytes)
    (by_first (is_run is_digit bytes || is_dollar_number bytes) (is_percent_number bytes) (by_first (is_run is_digit bytes) (is_dollar_number bytes) h))

hexadecimal_is : (bytes : List ℕ) → IsTrue (is_dollar_number bytes) → IsTrue (is_number bytes)
hexadecimal_is bytes h =
    by_first ((is_run is_digit bytes || is_dollar_number bytes) || is_percent_number bytes) (begins is_apostrophe is_quoted_character bytes)
    (by_first (is_run is_digit bytes || is_dollar_number bytes) (is_percent_number bytes) (by_second (is_run is_digit bytes) (is_dollar_number bytes) h))

binary_is : (bytes : List ℕ) → IsTrue (is_percent_number bytes) → IsTrue (is_number bytes)
binary_is bytes h =
    by_first ((is_run is_digit bytes || is_dollar_number bytes) || is_percent_number bytes) (begins is_apostrophe is_quoted_character bytes)
    (by_second (is_run is_digit bytes || is_dollar_number bytes) (is_percent_number bytes) h)

character_is : (bytes : List ℕ) → IsTrue (begins is_apostrophe is_quoted_character bytes) → IsTrue (is_number bytes)
character_is bytes h = by_second ((is_run is_digit bytes || is_dollar_number bytes) || is_percent_number bytes)
    (begins is_apostrophe is_quoted_character bytes) h

pub digit_found : (first : Bool) (byte : ℕ) (bytes : List ℕ) → starts_comment first byte ≡ false → is_mark byte ≡ false → is_name_start byte ≡ false
    → IsTrue (is_digit byte) → Finds first (byte ∷ bytes) (Some (Number, 1 + prefix_len is_digit bytes))
digit_found first byte bytes comment mark name h =
    let len = prefix_len is_digit bytes in
    longest_found first byte bytes Number len (run_within is_digit bytes)
    (decimal_is (byte ∷ take len bytes) (joined (is_digit byte) (list_all is_digit (take len bytes)) h (run_passes is_digit bytes)))
    (digit_most first byte bytes comment mark name h)

blank_most : (first : Bool) (byte : ℕ) (bytes : List ℕ) → starts_comment first byte ≡ false → is_mark byte ≡ false → is_name_start byte ≡ false
    → is_digit byte ≡ false → IsTrue (is_blank byte) → AtMost first byte bytes (prefix_len is_blank bytes)
blank_most first byte bytes comment mark name digit h len inside (Named is rest) = absurd cc
blank_most first byte bytes comment mark name digit h len inside (Decimal is rest) = absurd cc
blank_most first byte bytes comment mark name digit h len inside (Hexadecimal same rest) = absurd (grind (arith, nat_tests))
blank_most first byte bytes comment mark name digit h len inside (Binary same rest) = absurd (grind (arith, nat_tests))
blank_most first byte bytes comment mark name digit h len inside (Character same rest) = absurd (grind (arith, nat_tests))
blank_most first byte bytes comment mark name digit h len inside (Quoted same rest) = absurd (grind (arith, nat_tests))
blank_most first byte bytes comment mark name digit h len inside (Marked is alone rest) = absurd cc
blank_most first byte bytes comment mark name digit h len inside (Blanks is rest) = run_longest is_blank bytes len inside rest
blank_most first byte bytes comment mark name digit h len inside (Commented starts) = absurd cc

pub blank_found : (first : Bool) (byte : ℕ) (bytes : List ℕ) → starts_comment first byte ≡ false → is_mark byte ≡ false → is_name_start byte ≡ false
    → is_digit byte ≡ false → IsTrue (is_blank byte) → Finds first (byte ∷ bytes) (Some (Blank, 1 + prefix_len is_blank bytes))
blank_found first byte bytes comment mark name digit h =
    let len = prefix_len is_blank bytes in
    longest_found first byte bytes Blank len (run_within is_blank bytes)
    (joined (is_blank byte) (list_all is_blank (take len bytes)) h (run_passes is_blank bytes)) (blank_most first byte bytes comment mark name digit h)

mark_most : (first : Bool) (byte : ℕ) (bytes : List ℕ) → starts_comment first byte ≡ false → IsTrue (is_mark byte) → AtMost first byte bytes 0
mark_most first byte bytes comment h len inside (Named is rest) = absurd (grind (arith, nat_tests))
mark_most first byte bytes comment h len inside (Decimal is rest) = absurd (grind (arith, nat_tests))
mark_most first byte bytes comment h len inside (Hexadecimal same rest) = absurd (grind (arith, nat_tests))
mark_most first byte bytes comment h len inside (Binary same rest) = absurd (grind (arith, nat_tests))
mark_most first byte bytes comment h len inside (Character same rest) = absurd (grind (arith, nat_tests))
mark_most first byte bytes comment h len inside (Quoted same rest) = absurd (grind (arith, nat_tests))
mark_most first byte bytes comment h len inside (Marked is alone rest) = let none : len ≡ 0 = empty_len bytes len inside rest in omega arith
mark_most first byte bytes comment h len inside (Blanks is rest) = absurd (grind (arith, nat_tests))
mark_most first byte bytes comment h len inside (Commented starts) = absurd cc

alone : (mark comment : Bool) → mark ≡ true → comment ≡ false → IsTrue ((mark && not comment) && true)
alone true false h e = refl
alone true true h e = absurd cc
alone false comment h e = absurd cc

pub mark_found : (first : Bool) (byte : ℕ) (bytes : List ℕ) → starts_comment first byte ≡ false → IsTrue (is_mark byte)
    → Finds first (byte ∷ bytes) (Some (Mark, 1))
mark_found first byte bytes comment h =
    longest_found first byte bytes Mark 0 (omega arith) (alone (is_mark byte) (starts_comment first byte) h comment) (mark_most first byte bytes comment h)

hexadecimal_most : (first : Bool) (bytes : List ℕ) → starts_comment first 36 ≡ false → (len : ℕ) → len ≤ length bytes → Shape first 36 (take len bytes)
    → (1 ≤ len) × (len ≤ prefix_len is_hexadecimal_digit bytes)
hexadecimal_most first bytes comment len inside (Named is rest) = absurd cc
hexadecimal_most first bytes comment len inside (Decimal is rest) = absurd cc
hexadecimal_most first bytes comment len inside (Hexadecimal same rest) = run_most is_hexadecimal_digit bytes len inside rest
hexadecimal_most first bytes comment len inside (Binary same rest) = absurd cc
hexadecimal_most first bytes comment len inside (Character same rest) = absurd cc
hexadecimal_most first bytes comment len inside (Quoted same rest) = absurd cc
hexadecimal_most first bytes comment len inside (Marked is alone rest) = absurd cc
hexadecimal_most first bytes comment len inside (Blanks is rest) = absurd cc
hexadecimal_most first bytes comment len inside (Commented starts) = absurd cc

hexadecimal_by : (first : Bool) (bytes : List ℕ) → starts_comment first 36 ≡ false → (none : Bool) → (prefix_len is_hexadecimal_digit bytes == 0) ≡ none
    → Finds first (36 ∷ bytes) (cond none None (Some (Number, 1 + prefix_len is_hexadecimal_digit bytes)))
hexadecimal_by first bytes comment true e =
    let zero_len : prefix_len is_hexadecimal_digit bytes ≡ 0 = grind (arith, nat_tests) in
    none_found first 36 bytes (λ len inside s. let most = hexadecimal_most first bytes comment len inside s in omega (arith, most.0, most.1))
hexadecimal_by first bytes comment false e =
    let len = prefix_len is_hexadecimal_digit bytes in
    let some : 1 ≤ prefix_len is_hexadecimal_digit bytes = grind (arith, nat_tests) in
    longest_found first 36 bytes Number len (run_within is_hexadecimal_digit bytes)
    (hexadecimal_is (36 ∷ take len bytes) (run_is_run is_hexadecimal_digit bytes len some (run_within is_hexadecimal_digit bytes)
    (run_passes is_hexadecimal_digit bytes)))
    (λ m inside s. (hexadecimal_most first bytes comment m inside s).1)

pub hexadecimal_found : (first : Bool) (bytes : List ℕ) → starts_comment first 36 ≡ false
    → Finds first (36 ∷ bytes) (digits_found (prefix_len is_hexadecimal_digit bytes))
hexadecimal_found first bytes comment = hexadecimal_by first bytes comment (prefix_len is_hexadecimal_digit bytes == 0) refl

binary_most : (first : Bool) (bytes : List ℕ) → starts_comment first 37 ≡ false → (len : ℕ) → len ≤ length bytes → Shape first 37 (take len bytes)
    → (1 ≤ len) × (len ≤ prefix_len is_binary_digit bytes)
binary_most first bytes comment len inside (Named is rest) = absurd cc
binary_most first bytes comment len inside (Decimal is rest) = absurd cc
binary_most first bytes comment len inside (Hexadecimal same rest) = absurd cc
binary_most first bytes comment len inside (Binary same rest) = run_most is_binary_digit bytes len inside rest
binary_most first bytes comment len inside (Character same rest) = absurd cc
binary_most first bytes comment len inside (Quoted same rest) = absurd cc
binary_most first bytes comment len inside (Marked is alone rest) = absurd cc
binary_most first bytes comment len inside (Blanks is rest) = absurd cc
binary_most first bytes comment len inside (Commented starts) = absurd cc

binary_by : (first : Bool) (bytes : List ℕ) → starts_comment first 37 ≡ false → (none : Bool) → (prefix_len is_binary_digit bytes == 0) ≡ none
    → Finds first (37 ∷ bytes) (cond none None (Some (Number, 1 + prefix_len is_binary_digit bytes)))
binary_by first bytes comment true e =
    let zero_len : prefix_len is_binary_digit bytes ≡ 0 = grind (arith, nat_tests) in
    none_found first 37 bytes (λ len inside s. let most = binary_most first bytes comment len inside s in omega (arith, most.0, most.1))
binary_by first bytes comment false e =
    let len = prefix_len is_binary_digit bytes in
    let some : 1 ≤ prefix_len is_binary_digit bytes = grind (arith, nat_tests) in
    longest_found first 37 bytes Number len (run_within is_binary_digit bytes)
    (binary_is (37 ∷ take len bytes) (run_is_run is_binary_digit bytes len some (run_within is_binary_digit bytes) (run_passes is_binary_digit bytes)))
    (λ m inside s. (binary_most first bytes comment m inside s).1)

pub binary_found : (first : Bool) (bytes : List ℕ) → starts_comment first 37 ≡ false
    → Finds first (37 ∷ bytes) (digits_found (prefix_len is_binary_digit bytes))
binary_found first bytes comment = binary_by first bytes comment (prefix_len is_binary_digit bytes == 0) refl

character_most : (first : Bool) (bytes : List ℕ) → starts_comment first 39 ≡ false → (len : ℕ) → len ≤ length bytes → Shape first 39 (take len bytes)
    → (len ≡ 2) × IsTrue (is_quoted_character (take len bytes))
character_most first bytes comment len inside (Named is rest) = absurd cc
character_most first bytes comment len inside (Decimal is rest) = absurd cc
character_most first bytes comment len inside (Hexadecimal same rest) = absurd cc
character_most first bytes comment len inside (Binary same rest) = absurd cc
character_most first bytes comment len inside (Character same rest) = (character_longest bytes len inside rest, rest)
character_most first bytes comment len inside (Quoted same rest) = absurd cc
character_most first bytes comment len inside (Marked is alone rest) = absurd cc
character_most first bytes comment len inside (Blanks is rest) = absurd cc
character_most first bytes comment len inside (Commented starts) = absurd cc

no_character : (bytes : List ℕ) (len : ℕ) → length bytes < 2 → len ≤ length bytes → len ≡ 2 → ⊥
no_character bytes len short inside two = omega arith

refused_character : (byte next : ℕ) (bytes : List ℕ) (len : ℕ) → (is_printable byte && next == 39) ≡ false → len ≡ 2
    → IsTrue (is_quoted_character (take len (byte ∷ next ∷ bytes))) → ⊥
refused_character byte next bytes len e two h =
    let parts = both (is_printable byte) (next == 39 && true) (rw two at h) in
    refused (is_printable byte) (next == 39) e parts.0 (both (next == 39) true parts.1).0

character_by : (first : Bool) (byte next : ℕ) (bytes : List ℕ) → starts_comment first 39 ≡ false → (is : Bool) → (is_printable byte && next == 39) ≡ is
    → Finds first (39 ∷ byte ∷ next ∷ bytes) (cond is (Some (Number, 3)) None)
character_by first byte next bytes comment true e =
    let parts = both (is_printable byte) (next == 39) e in
    longest_found first 39 (byte ∷ next ∷ bytes) Number 2 (omega arith)
    (character_is (39 ∷ byte ∷ next ∷ []) (joined (is_printable byte) (next == 39 && true) parts.0 (joined (next == 39) true parts.1 refl)))
    (λ len inside s. let two = (character_most first (byte ∷ next ∷ bytes) comment len inside s).0 in omega (arith, two))
character_by first byte next bytes comment false e =
    none_found first 39 (byte ∷ next ∷ bytes) (λ len inside s. let most = character_most first (byte ∷ next ∷ bytes) comment len inside s in
    refused_character byte next bytes len e most.0 most.1)

pub character_at : (first : Bool) (bytes : List ℕ) → starts_comment first 39 ≡ false → Finds first (39 ∷ bytes) (character_found bytes)
character_at first [] comment = none_found first 39 [] (λ len inside s. no_character [] len (omega arith) inside
    (character_most first [] comment len inside s).0)
character_at first (byte ∷ []) comment = none_found first 39 (byte ∷ [])
    (λ len inside s. no_character (byte ∷ []) len (omega arith) inside (character_most first (byte ∷ []) comment len inside s).0)
character_at first (byte ∷ next ∷ bytes) comment = character_by first byte next bytes comment (is_printable byte && next == 39) refl

text_most : (first : Bool) (bytes : List ℕ) → starts_comment first 34 ≡ false → (len : ℕ) → len ≤ length bytes → Shape first 34 (take len bytes)
    → Closes bytes len
text_most first bytes comment len inside (Named is rest) = absurd cc
text_most first bytes comment len inside (Decimal is rest) = absurd cc
text_most first bytes comment len inside (Hexadecimal same rest) = absurd cc
text_most first bytes comment len inside (Binary same rest) = absurd cc
text_most first bytes comment len inside (Character same rest) = absurd cc
text_most first bytes comment len inside (Quoted same rest) = closed_longest bytes len inside rest
text_most first bytes comment len inside (Marked is alone rest) = absurd cc
text_most first bytes comment len inside (Blanks is rest) = absurd cc
text_most first bytes comment len inside (Commented starts) = absurd cc

text_by : (first : Bool) (bytes : List ℕ) → starts_comment first 34 ≡ false
    → (is : Bool) → (nat_lt (prefix_len is_quotable bytes) (length bytes) && slice_index bytes (prefix_len is_quotable bytes) == 34) ≡ is
    → Finds first (34 ∷ bytes) (cond is (Some (Text, 2 + prefix_len is_quotable bytes)) None)
text_by first bytes comment true e =
    let len = prefix_len is_quotable bytes in
    let parts = both (nat_lt (prefix_len is_quotable bytes) (length bytes)) (slice_index bytes (prefix_len is_quotable bytes) == 34) e in
    let inside : prefix_len is_quotable bytes < length bytes = grind (arith, nat_tests, parts.0) in
    let quote : slice_index bytes (prefix_len is_quotable bytes) ≡ 34 = grind (arith, nat_tests, parts.1) in
    let more : 2 + prefix_len is_quotable bytes ≡ 1 + (1 + prefix_len is_quotable bytes) = omega arith in
    rw more (longest_found first 34 bytes Text (1 + prefix_len is_quotable bytes) (omega arith) (closed_found bytes inside quote)
    (λ m within s. let closes = text_most first bytes comment m within s in omega (arith, closes.more)))
text_by first bytes comment false e =
    none_found first 34 bytes (λ len inside s. let closes = text_most first bytes comment len inside s in
    refused (nat_lt (prefix_len is_quotable bytes) (length bytes)) (slice_index bytes (prefix_len is_quotable bytes) == 34) e
    (lt-ltb _ _ (omega (arith, closes.more))) (eq-eqb _ _ closes.end))

pub text_at : (first : Bool) (bytes : List ℕ) → starts_comment first 34 ≡ false → Finds first (34 ∷ bytes) (text_found bytes)
text_at first bytes comment = text_by first bytes comment (nat_lt (prefix_len is_quotable bytes) (length bytes) && slice_index bytes
    (prefix_len is_quotable bytes) == 34) refl

none_shape : (first : Bool) (byte : ℕ) (bytes : List ℕ) → starts_comment first byte ≡ false → is_mark byte ≡ false → is_name_start byte ≡ false
    → is_digit byte ≡ false → is_blank byte ≡ false
    → byte ≢ 36 → byte ≢ 37 → byte ≢ 39 → byte ≢ 34 → (len : ℕ) → len ≤ length bytes → Shape first byte (take len bytes) → ⊥
none_shape first byte bytes comment mark name digit blank a b d e len inside (Named is rest) = absurd cc
none_shape first byte bytes comment mark name digit blank a b d e len inside (Decimal is rest) = absurd cc
none_shape first byte bytes comment mark name digit blank a b d e len inside (Hexadecimal same rest) = a (eqb-true _ _ same)
none_shape first byte bytes comment mark name digit blank a b d e len inside (Binary same rest) = b (eqb-true _ _ same)
none_shape first byte bytes comment mark name digit blank a b d e len inside (Character same rest) = d (eqb-true _ _ same)
none_shape first byte bytes comment mark name digit blank a b d e len inside (Quoted same rest) = e (eqb-true _ _ same)
none_shape first byte bytes comment mark name digit blank a b d e len inside (Marked is alone rest) = absurd cc
none_shape first byte bytes comment mark name digit blank a b d e len inside (Blanks is rest) = absurd cc
none_shape first byte bytes comment mark name digit blank a b d e len inside (Commented starts) = absurd cc

pub none_at : (first : Bool) (byte : ℕ) (bytes : List ℕ) → starts_comment first byte ≡ false → is_mark byte ≡ false → is_name_start byte ≡ false
    → is_digit byte ≡ false → is_blank byte ≡ false
    → byte ≢ 36 → byte ≢ 37 → byte ≢ 39 → byte ≢ 34 → HasNoFront first (byte ∷ bytes)
none_at first byte bytes comment mark name digit blank a b d e = none_found first byte bytes
    (none_shape first byte bytes comment mark name digit blank a b d e)

pub comment_found : (first : Bool) (byte : ℕ) (bytes : List ℕ) → starts_comment first byte ≡ true
    → Finds first (byte ∷ bytes) (Some (Comment, 1 + length bytes))
comment_found first byte bytes starts =
    let more : 1 + length bytes ≡ suc (length bytes) = omega arith in
    let last : IsTrue (suc (length bytes) == length (byte ∷ bytes)) = eq-eqb _ _ (omega arith) in
    record {
      front = record {
        inside = omega arith;
        spelled = rw more (joined (starts_comment first byte && true) (suc (length bytes) == length (byte ∷ bytes))
            (joined (starts_comment first byte) true starts refl) last);
      };
      longest = λ other len front. omega (arith, front.inside);
    }
