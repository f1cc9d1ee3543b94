-- The table read from words: each answer comes exactly where its fact holds.
use Rattle.std.proofs.Common.{◌≡◌, ◌≢◌, ℕ, ◌+◌, ◌-◌, ◌/◌, ◌^◌, ◌<◌, ◌≤◌, Bool, true, false, cond, List, [], ◌∷◌, ◌++◌, length, get_or, Result, Ok, Err, refl}
use Rattle.std.proofs.Common.{sym, ap, subst, ◌∙◌, append_assoc, arith, length-append}
use Rattle.std.specs.Prelude.{◌==◌}
use Rattle.std.proofs.lemmas.List.{append-nil}
use Rattle.std.proofs.lemmas.List.Elements.{All-from_get_or}
use Rattle.mb_instr.specs.declared.instruction.Instr.{Instr}
use Rattle.mb_instr.specs.declared.instruction.Instr.TheVariants.{Flow}
use Rattle.mb_instr.specs.declared.instruction.Flow.TheVariants.{Nop}
use Rattle.mb_instr.specs.declared.opcode.Opcode.{Opcode}
use Rattle.mb_instr.specs.Opcodes.{opcode_of, word_of}
use Rattle.mb_instr.specs.Rows.{row}
use Rattle.mb_instr.specs.Codes.{IsInstr, Codes, AreWords}
use Rattle.mb_instr.proofs.Opcodes.{word_again, opcode_again, IsOpcode-of}
use Rattle.mb_instr.proofs.Words.{IsWord, AreWords-nil, AreWords-head, AreWords-tail, AreWords-left, AreWords-append, Codes-length}
use Rattle.mb_instr.specs.Shapes.{further}
use Rattle.mb_decode.specs.declared.reading.Stop.{Stop}
use Rattle.mb_decode.specs.declared.reading.Stop.TheVariants as stop
use Rattle.mb_decode.specs.declared.front.Decoded.{Decoded}
use Rattle.mb_decode.specs.declared.front.Decoded.TheVariants.{Whole, More, Illegal, LineA, LineF}
use Rattle.mb_decode.specs.RowReading.{row_at}
use Rattle.mb_decode.specs.Decodes.{at_stop, decode_from, decode_of, IfWhole, OnMore, BeginsWith, IsUnfinished, IsOther, HasLine, Decodes, OneAnswer, ReadAgain}
use Rattle.mb_decode.specs.Decodes.{OneSpelling, NoneBegins, AllDecoded}
use Rattle.mb_decode.proofs.Found.{eq_true, eq_false}
use Rattle.mb_decode.proofs.Shapes.{Fits, Found}
use Rattle.mb_decode.proofs.EachRow.{row_read, row_shape}

-- the words of a slice are words
pub words_from_type : (ws : List ℕ) → ((i : ℕ) → get_or ws i 0 < 2 ^ 16) → AreWords ws
words_from_type ws h = All-from_get_or IsWord ws 0 (λ i lt. h i)

abbrev read : Instr → List ℕ → Result (Instr × List ℕ) Stop
read i rest = Ok (i, rest)

spells_at : (first : ℕ) (ws : List ℕ) (i : Instr) (rest : List ℕ) → first < 2 ^ 16 → AreWords ws → row_at (opcode_of first) ws ≡ read i rest →
    Fits (row i) (opcode_of first) ws rest
spells_at first ws i rest lt h e = subst (Found row (opcode_of first) ws) e ((row_shape (opcode_of first) (IsOpcode-of first lt)).found ws h)

codes_at : (first : ℕ) (ws : List ℕ) (i : Instr) (rest : List ℕ) → first < 2 ^ 16 → AreWords ws → Fits (row i) (opcode_of first) ws rest →
    Codes i (first ∷ further (row i))
codes_at first ws i rest lt h s = record {
  has = record {
    legal = s.legal;
    fields = rw s.opcode (IsOpcode-of first lt);
    are_words = AreWords-left (further (row i)) rest (subst AreWords s.taken.parts h);
  };
  words = ap (λ (w : ℕ). w ∷ further (row i)) (sym (ap word_of s.opcode ∙ word_again first));
}

whole : (first : ℕ) (ws : List ℕ) (i : Instr) (rest : List ℕ) → first < 2 ^ 16 → AreWords ws → row_at (opcode_of first) ws ≡ read i rest →
    BeginsWith (first ∷ ws) i (1 + (length ws - length rest))
whole first ws i rest lt h e =
    let s = spells_at first ws i rest lt h e in
    let parts = s.taken.parts in
    let text = codes_at first ws i rest lt h s in
    let split = ap (λ (t : List ℕ). first ∷ t) parts in
    (first ∷ further (row i), rest, text, split, omega (arith, ap length parts, length-append (further (row i)) rest))

unfinished : (first : ℕ) (ws : List ℕ) → first < 2 ^ 16 → AreWords ws → row_at (opcode_of first) ws ≡ Err stop.More → IsUnfinished (first ∷ ws)
unfinished first ws lt h e =
    let c = (row_shape (opcode_of first) (IsOpcode-of first lt)).steady.completes ws e in
    let all = AreWords-append ws (c.word ∷ c.others) h c.are_words in
    let s = spells_at first (ws ++ c.word ∷ c.others) c.value [] lt all c.reads in
    let parts = ap (λ (t : List ℕ). first ∷ t) (sym (s.taken.parts ∙ append-nil (further (row c.value)))) in
    (c.value, c.word, c.others, subst (Codes c.value) parts (codes_at first _ c.value [] lt all s))

-- no words: an instruction of one word is still to come
empty_unfinished : IsUnfinished []
empty_unfinished = (
  Flow Nop,
  20081,
  [],
  record {
    has = record {
      legal = refl;
      fields = record { line = omega arith; upper = omega arith; bit = omega arith; size = omega arith; mode = omega arith; lower = omega arith };
      are_words = AreWords-nil;
    };
    words = refl;
  },
)

heads : (a b : ℕ) (x y : List ℕ) → a ∷ x ≡ b ∷ y → (a ≡ b) × (x ≡ y)
heads a b x y e = (cc, cc)

-- a spelling at the front is read
spelled_read : (first : ℕ) (ws : List ℕ) (i : Instr) (w rest : List ℕ) → Codes i w → first ∷ ws ≡ w ++ rest → row_at (opcode_of first) ws ≡ read i rest
spelled_read first ws i w rest c e =
    let h = heads first (word_of (row i).opcode) ws (further (row i) ++ rest) (e ∙ ap (λ (t : List ℕ). t ++ rest) c.words) in
    rw (h.0, h.1, opcode_again (row i).opcode c.has.fields) (row_read i rest c.has.legal)

not_both : (x : Instr × List ℕ) → read x.0 x.1 ≡ Err stop.Illegal → ⊥
not_both x e = cc

other : (first : ℕ) (ws : List ℕ) → first < 2 ^ 16 → row_at (opcode_of first) ws ≡ Err stop.Illegal → IsOther (first ∷ ws)
other first ws lt e = (
  λ i n b. absurd (not_both (i, b.1) (sym (spelled_read first ws i b.0 b.1 b.2 b.3) ∙ e)),
  λ u. absurd
      (not_both (u.0, []) (
      sym (spelled_read first (ws ++ u.1 ∷ u.2) u.0 (first ∷ ws ++ u.1 ∷ u.2) [] u.3 (sym (append-nil _))) ∙
      (row_shape (opcode_of first) (IsOpcode-of first lt)).steady.stays ws (u.1 ∷ u.2) e)),
)

-- ---- decode_of

no_row_cases : (first : ℕ) (ws : List ℕ) (a f : Bool) → (first / 2 ^ 12 == 10) ≡ a → (first / 2 ^ 12 == 15) ≡ f → IsOther (first ∷ ws) →
    Decodes (first ∷ ws) (cond a LineA (cond f LineF Illegal))
no_row_cases first ws true f ea ef o = (o, eq_true (first / 2 ^ 12) 10 ea)
no_row_cases first ws false true ea ef o = (o, eq_true (first / 2 ^ 12) 15 ef)
no_row_cases first ws false false ea ef o = (o, (eq_false (first / 2 ^ 12) 10 ea, eq_false (first / 2 ^ 12) 15 ef))

from_cases : (first : ℕ) (ws : List ℕ) (r : Result (Instr × List ℕ) Stop) → row_at (opcode_of first) ws ≡ r → first < 2 ^ 16 → AreWords ws →
    Decodes (first ∷ ws) (elim r [ Ok x ↦ Whole x.0 (1 + (length ws - length x.1)) | Err d ↦ at_stop first d ])
from_cases first ws (Ok x) e lt h = whole first ws x.0 x.1 lt h e
from_cases first ws (Err stop.More) e lt h = unfinished first ws lt h e
from_cases first ws (Err stop.Illegal) e lt h = no_row_cases first ws (first / 2 ^ 12 == 10) (first / 2 ^ 12 == 15) refl refl (other first ws lt e)

decodes_from : (first : ℕ) (ws : List ℕ) → first < 2 ^ 16 → AreWords ws → Decodes (first ∷ ws) (decode_from first ws)
decodes_from first ws lt h = from_cases first ws (row_at (opcode_of first) ws) refl lt h

pub decodes_of : (ws : List ℕ) → AreWords ws → Decodes ws (decode_of ws)
unfolding decode_of
decodes_of [] h = empty_unfinished
decodes_of (first ∷ ws) h = decodes_from first ws (AreWords-head first ws h) (AreWords-tail first ws h)

pub decoded : (ws : List ℕ) (r : Decoded) → r ≡ decode_of ws → AreWords ws → Decodes ws r
decoded ws r e h = subst (Decodes ws) (sym e) (decodes_of ws h)

pub no_words : (ws : List ℕ) → length ws < 1 → IsUnfinished ws
no_words [] h = empty_unfinished
no_words (w ∷ ws) h = absurd (omega arith)

-- a whole instruction has 1 to 11 words
pub length_of : (ws : List ℕ) (r : Decoded) → Decodes ws r → IfWhole r (λ i n. (1 ≤ n) × (n ≤ 11))
length_of ws (Whole i n) b = let c = Codes-length i b.0 b.2 in let n-is = b.4 in (omega (arith, c.0), omega (arith, c.1))
length_of ws More d = tt
length_of ws Illegal d = tt
length_of ws LineA d = tt
length_of ws LineF d = tt

-- words that want more are at most 10
pub unfinished_length : (ws : List ℕ) (r : Decoded) → Decodes ws r → OnMore r (length ws ≤ 10)
unfinished_length ws (Whole i n) d = tt
unfinished_length ws More u = let c = Codes-length u.0 (ws ++ u.1 ∷ u.2) u.3 in omega (arith, c.1, length-append ws (u.1 ∷ u.2))
unfinished_length ws Illegal d = tt
unfinished_length ws LineA d = tt
unfinished_length ws LineF d = tt

-- a whole instruction is in range
pub valid_of : (ws : List ℕ) (r : Decoded) → Decodes ws r → IfWhole r (λ i n. IsInstr i)
valid_of ws (Whole i n) b = b.2.has
valid_of ws More d = tt
valid_of ws Illegal d = tt
valid_of ws LineA d = tt
valid_of ws LineF d = tt

-- what a reader left is no longer than what it was given
pub after_shorter : (first : ℕ) (ws : List ℕ) (i : Instr) (rest : List ℕ) → first < 2 ^ 16 → AreWords ws → row_at (opcode_of first) ws ≡ read i rest →
    length rest ≤ length ws
after_shorter first ws i rest lt h e =
    let parts = (spells_at first ws i rest lt h e).taken.parts in
    omega (arith, ap length parts, length-append (further (row i)) rest)

pub taken_length : (first : ℕ) (ws : List ℕ) (i : Instr) (rest : List ℕ) → first < 2 ^ 16 → AreWords ws → row_at (opcode_of first) ws ≡ read i rest →
    1 + (length ws - length rest) ≤ 11
taken_length first ws i rest lt h e = (length_of (first ∷ ws) (Whole i (1 + (length ws - length rest))) (whole first ws i rest lt h e)).1

pub at_opcode : (p : Opcode) (first : ℕ) (ws : List ℕ) (r : Result (Instr × List ℕ) Stop) → p ≡ opcode_of first → row_at p ws ≡ r →
    row_at (opcode_of first) ws ≡ r
at_opcode p first ws r e h = subst (λ (q : Opcode). row_at q ws ≡ r) e h

-- ---- laws of the table

from_read : (first : ℕ) (ws : List ℕ) (i : Instr) (rest : List ℕ) → row_at (opcode_of first) ws ≡ read i rest →
    decode_from first ws ≡ Whole i (1 + (length ws - length rest))
from_read first ws i rest e = ap (λ (r : Result (Instr × List ℕ) Stop). elim r [ Ok x ↦ Whole x.0 (1 + (length ws - length x.1)) | Err d ↦ at_stop first d ]) e

again : (i : Instr) (first : ℕ) (others rest : List ℕ) → Codes i (first ∷ others) → decode_of (first ∷ others ++ rest) ≡ Whole i (length (first ∷ others))
unfolding decode_of
again i first others rest c =
    let n-is : 1 + (length (others ++ rest) - length rest) ≡ length (first ∷ others) = omega (arith, length-append others rest) in
    from_read first (others ++ rest) i rest (spelled_read first (others ++ rest) i (first ∷ others) rest c refl) ∙ ap (λ (n : ℕ). Whole i n) n-is

pub read_again : ReadAgain
read_again i [] rest c = absurd (omega (arith, (Codes-length i [] c).0))
read_again i (first ∷ others) rest c = again i first others rest c

-- an instruction's words alone are read as it
pub read_back : (i : Instr) (w : List ℕ) → Codes i w → decode_of w ≡ Whole i (length w)
read_back i w c = ap decode_of (sym (append-nil w)) ∙ read_again i w [] c

pub one_spelling : OneSpelling
one_spelling i w v c d = c.words ∙ sym d.words

pub none_begins : NoneBegins
none_begins i j w v a b c d e =
    let first = word_of (row i).opcode in
    let ws = further (row i) ++ a in
    let at_i = spelled_read first ws i w a c (ap (λ (t : List ℕ). t ++ a) (sym c.words)) in
    let at_j = spelled_read first ws j v b d (ap (λ (t : List ℕ). t ++ a) (sym c.words) ∙ e) in
    let same : i ≡ j = ap (λ r. elim r [ Ok x ↦ x.0 | Err d ↦ i ]) (sym at_i ∙ at_j) in
    (same, c.words ∙ sym (subst (λ (k : Instr). v ≡ word_of (row k).opcode ∷ further (row k)) (sym same) d.words))

one_whole : (ws : List ℕ) (i j : Instr) (n m : ℕ) → BeginsWith ws i n → BeginsWith ws j m → Whole i n ≡ Whole j m
one_whole ws i j n m x y =
    let same = none_begins i j x.0 y.0 x.1 y.1 x.2 y.2 (sym x.3 ∙ y.3) in
    let i-is = same.0 in
    let n-is : n ≡ m = x.4 ∙ ap length same.1 ∙ sym y.4 in
    rw (i-is, n-is) refl

whole_unfinished : (ws : List ℕ) (i : Instr) (n : ℕ) → BeginsWith ws i n → IsUnfinished ws → ⊥
whole_unfinished ws i n x y =
    let longer = ws ++ y.1 ∷ y.2 in
    let parts : x.0 ++ (x.1 ++ y.1 ∷ y.2) ≡ longer ++ [] = sym (append_assoc x.0 x.1 (y.1 ∷ y.2)) ∙ ap (λ (t : List ℕ). t ++ y.1 ∷ y.2) (sym x.3) ∙ sym
    (append-nil longer) in
    let same = none_begins i y.0 x.0 longer (x.1 ++ y.1 ∷ y.2) [] x.2 y.3 parts in
    omega (arith, ap length same.1, ap length x.3, length-append x.0 x.1, length-append ws (y.1 ∷ y.2))

lines_differ : (ws : List ℕ) (P Q : ℕ → Type 0) → ((n : ℕ) → P n → Q n → ⊥) → HasLine ws P → HasLine ws Q → ⊥
lines_differ [] P Q differ p q = p
lines_differ (w ∷ ws) P Q differ p q = differ (w / 2 ^ 12) p q

abbrev IsA : ℕ → Type 0
IsA n = n ≡ 10

abbrev IsF : ℕ → Type 0
IsF n = n ≡ 15

abbrev IsNeither : ℕ → Type 0
IsNeither n = (n ≢ 10) × (n ≢ 15)

a_not_f : (n : ℕ) → IsA n → IsF n → ⊥
a_not_f n a f = omega arith

pub one_answer : OneAnswer
one_answer ws (Whole i n) (Whole j m) x y = one_whole ws i j n m x y
one_answer ws (Whole i n) More x y = absurd (whole_unfinished ws i n x y)
one_answer ws (Whole i n) Illegal x y = absurd (y.0.0 i n x)
one_answer ws (Whole i n) LineA x y = absurd (y.0.0 i n x)
one_answer ws (Whole i n) LineF x y = absurd (y.0.0 i n x)
one_answer ws More (Whole j m) x y = absurd (whole_unfinished ws j m y x)
one_answer ws More More x y = refl
one_answer ws More Illegal x y = absurd (y.0.1 x)
one_answer ws More LineA x y = absurd (y.0.1 x)
one_answer ws More LineF x y = absurd (y.0.1 x)
one_answer ws Illegal (Whole j m) x y = absurd (x.0.0 j m y)
one_answer ws Illegal More x y = absurd (x.0.1 y)
one_answer ws Illegal Illegal x y = refl
one_answer ws Illegal LineA x y = absurd (lines_differ ws IsNeither IsA (λ n p q. p.0 q) x.1 y.1)
one_answer ws Illegal LineF x y = absurd (lines_differ ws IsNeither IsF (λ n p q. p.1 q) x.1 y.1)
one_answer ws LineA (Whole j m) x y = absurd (x.0.0 j m y)
one_answer ws LineA More x y = absurd (x.0.1 y)
one_answer ws LineA Illegal x y = absurd (lines_differ ws IsA IsNeither (λ n p q. q.0 p) x.1 y.1)
one_answer ws LineA LineA x y = refl
one_answer ws LineA LineF x y = absurd (lines_differ ws IsA IsF a_not_f x.1 y.1)
one_answer ws LineF (Whole j m) x y = absurd (x.0.0 j m y)
one_answer ws LineF More x y = absurd (x.0.1 y)
one_answer ws LineF Illegal x y = absurd (lines_differ ws IsF IsNeither (λ n p q. q.1 p) x.1 y.1)
one_answer ws LineF LineA x y = absurd (lines_differ ws IsA IsF a_not_f y.1 x.1)
one_answer ws LineF LineF x y = refl

pub all_decoded : AllDecoded
all_decoded ws h = decodes_of ws h
