-- The short form of a word that came.
use Rattle.std.proofs.Common.{◌≡◌, ◌∙◌, ℕ, ◌<◌, ◌^◌, List, [], ◌∷◌, ◌++◌, length, refl, ap, sym, subst, Option, Some, None, IfSome, inl, inr, arith}
use Rattle.std.proofs.lemmas.Bool.{cases_eq}
use Rattle.std.proofs.lemmas.List.{get_or-set_same, get_or-set_other, get_or_read, length-replicate, length-set}
use Rattle.std.specs.Prelude.{⊤, zero, suc, ◌/◌, ◌%◌, true, nat_lt, replicate, slice_index_or, slice_set, Bool, false}
use Rattle.std.proofs.lemmas.Bool.Decides.{nat_tests}
use Rattle.mb_instr.specs.declared.instruction.Instr.{Instr}
use Rattle.mb_instr.specs.declared.instruction.Instr.TheVariants as instr
use Rattle.mb_instr.specs.declared.instruction.Move.TheVariants as move
use Rattle.mb_instr.specs.declared.instruction.Flow.TheVariants as flow
use Rattle.mb_instr.specs.declared.instruction.Arith.TheVariants as arithmetic
use Rattle.mb_instr.specs.declared.kinds.BitKind.TheVariants as bit
use Rattle.mb_instr.specs.declared.size.Size.{Size}
use Rattle.mb_instr.specs.declared.kinds.Branch.TheVariants as branch
use Rattle.mb_instr.specs.declared.kinds.Condition.{Condition}
use Rattle.mb_instr.specs.declared.kinds.Condition.TheVariants as condition
use Rattle.mb_instr.specs.declared.size.Size.TheVariants.{Byte, Word, Long}
use Rattle.mb_instr.specs.declared.operand.Ea.TheVariants.{Dn, Ind, Disp, Index, AbsL, PcDisp}
use Rattle.mb_instr.specs.declared.operand.Ext.TheVariants.{Brief}
use Rattle.mb_instr.specs.Operands.{long_words}
use Rattle.mb_instr.specs.Opcodes.{word_of, IsOpcode}
use Rattle.mb_instr.specs.Shapes.{further}
use Rattle.mb_instr.specs.Rows.{row}
use Rattle.mb_instr.specs.Codes.{Codes, IsInstr, AreWords}
use Rattle.mb_instr.proofs.Words.{AreWords-cons, AreWords-nil}
use Rattle.mb_decode.specs.declared.front.Decoded.{Decoded}
use Rattle.mb_decode.specs.declared.front.Decoded.TheVariants.{Whole, More}
use Rattle.mb_decode.specs.Decodes.{decode_of, Decodes, BeginsWith, IfWhole, AllDecoded, OneAnswer, ReadAgain}
use Rattle.mb_table.specs.declared.forms.Place.{Place}
use Rattle.mb_table.specs.declared.forms.Place.TheVariants as place
use Rattle.mb_table.specs.declared.forms.Taking.{Taking}
use Rattle.mb_table.specs.declared.forms.Taking.TheVariants as taking
use Rattle.mb_table.specs.declared.forms.Putting.{Putting}
use Rattle.mb_table.specs.declared.forms.Putting.TheVariants as putting
use Rattle.mb_table.specs.declared.forms.Update.{Update}
use Rattle.mb_table.specs.declared.forms.Update.TheVariants as update
use Rattle.mb_table.specs.declared.short.Short.{Short}
use Rattle.mb_table.specs.declared.short.Short.TheVariants as short
use Rattle.mb_table.specs.FirstWords.{alone}
use Rattle.mb_table.specs.Forms.{place_ea, taking_of, immediate_of, putting_of, update_of, copy_of}
use Rattle.mb_table.specs.Short.{meaning, meaning_with, meaning_with_long, IsAlone, IsWith, IsWithLong, IsShort}
use Rattle.mb_table.specs.Short.{IsOfOneWord, IsOfTwoWords, IsOfThreeWords, is_brief, is_pair, only_if, IsOfKind}

-- ---- a word by itself

alone_is : (first : ℕ) (d : Decoded) (m : Option Instr) → d ≡ alone first → IfWhole d (λ i n. IsInstr i)
    → IfSome m (λ i. d ≡ Whole i 1) → IfSome m (IsAlone first)
alone_is first d None e valid h = h
alone_is first d (Some i) e valid h = (sym e ∙ h, subst (λ (x : Decoded). IfWhole x (λ j n. IsInstr j)) h valid)

if_none : (P : Instr → Type 0) (m : Option Instr) → m ≡ None → IfSome m P
if_none P m e = subst (λ (x : Option Instr). IfSome x P) (sym e) tt

pub learnt : (first : ℕ) (d : Decoded) (s : Short) → d ≡ alone first → IfWhole d (λ i n. IsInstr i)
    → IfSome (meaning s) (λ i. d ≡ Whole i 1) → IsOfOneWord s → IsShort first s
learnt first d s e valid h none = (
  alone_is first d (meaning s) e valid h,
  λ second range. if_none (IsWith first second) (meaning_with second s) (none.0 second),
  λ value range. if_none (IsWithLong first value) (meaning_with_long value s) (none.1 value),
)

-- ---- a word with any others behind it

-- Instructions that are alike but for a number of such ones, which their words behind the first spell.
pub record IsAlike (Fits : ℕ → Type 0) (spelled : ℕ → List ℕ) (f : ℕ → Instr) : Type 0 where
  pub legal : (d e : ℕ) → Fits d → Fits e → (row (f d)).legal ≡ (row (f e)).legal
  pub opcode : (d e : ℕ) → (row (f d)).opcode ≡ (row (f e)).opcode
  pub words : (d : ℕ) → further (row (f d)) ≡ spelled d

abbrev first_of : List ℕ → ℕ
first_of [] = 0
first_of (w ∷ ws) = w

first_word : (i : Instr) (first : ℕ) (others w rest : List ℕ) → Codes i w → first ∷ others ≡ w ++ rest → first ≡ word_of (row i).opcode
first_word i first others w rest codes e = ap first_of e ∙ ap (λ (ws : List ℕ). first_of (ws ++ rest)) codes.words

codes_with : (Fits : ℕ → Type 0) (spelled : ℕ → List ℕ) (f : ℕ → Instr) (first given d : ℕ) (others w rest : List ℕ) → IsAlike Fits spelled f
    → Fits given → Fits d → AreWords (spelled d) → Codes (f given) w → first ∷ others ≡ w ++ rest → Codes (f d) (first ∷ spelled d)
codes_with Fits spelled f first given d others w rest same range range_d are codes e = record {
  has = record {
    legal = same.legal d given range_d range ∙ codes.has.legal;
    fields = subst IsOpcode (same.opcode given d) codes.has.fields;
    are_words = subst AreWords (sym (same.words d)) are;
  };
  words =
      ap (λ (x : ℕ). x ∷ spelled d) (first_word (f given) first others w rest codes e ∙ ap word_of (same.opcode given d))
      ∙ ap (λ (ws : List ℕ). word_of (row (f d)).opcode ∷ ws) (sym (same.words d));
}

begins : (words : List ℕ) (i : Instr) (n : ℕ) → AllDecoded → AreWords words → decode_of words ≡ Whole i n → BeginsWith words i n
begins words i n all range e = subst (λ (d : Decoded). Decodes words d) e (all words range)

abbrev FitsWord : ℕ → Type 0
FitsWord d = d < 2 ^ 16

abbrev one_word : ℕ → List ℕ
one_word d = d ∷ []

abbrev IsDisplaced : (ℕ → Instr) → Type 0
IsDisplaced f = IsAlike FitsWord one_word f

any_fitting : (Fits : ℕ → Type 0) (f : ℕ → Instr) (first second : ℕ) → ((d : ℕ) → Fits d → d < 2 ^ 16) → IsAlike Fits one_word f → AllDecoded
    → ReadAgain → first < 2 ^ 16 → Fits second → alone first ≡ More → decode_of (first ∷ second ∷ []) ≡ Whole (f second) 2
    → (d : ℕ) → Fits d → IsWith first d (f d)
any_fitting Fits f first second words_fit same all again range fits more e d fits_d =
    let words = AreWords-cons first (second ∷ []) range (AreWords-cons second [] (words_fit second fits) AreWords-nil) in
    let (w, rest, codes, is, n) = begins (first ∷ second ∷ []) (f second) 2 all words e in
    let are = AreWords-cons d [] (words_fit d fits_d) AreWords-nil in
    let mine = codes_with Fits one_word f first second d (second ∷ []) w rest same fits fits_d are codes is in
    (more, again (f d) (first ∷ d ∷ []) [] mine, mine.has)

pub any_second : (f : ℕ → Instr) (first second : ℕ) → IsDisplaced f → AllDecoded → ReadAgain → first < 2 ^ 16 → second < 2 ^ 16
    → alone first ≡ More → decode_of (first ∷ second ∷ []) ≡ Whole (f second) 2
    → (d : ℕ) → d < 2 ^ 16 → IsWith first d (f d)
any_second f first second = any_fitting FitsWord f first second (λ d h. h)

-- with any word of a kind
abbrev FitsKind : (ℕ → Bool) → ℕ → Type 0
FitsKind is d = (d < 2 ^ 16) × (is d ≡ true)

-- a brief extension word
abbrev IsIndexed : (ℕ → Instr) → Type 0
IsIndexed f = IsAlike (FitsKind is_brief) one_word f

-- the registers of a product or a quotient of longs
abbrev IsPaired : (ℕ → Instr) → Type 0
IsPaired f = IsAlike (FitsKind is_pair) one_word f

if_of_kind : (P : Instr → Type 0) (i : Instr) (b : Bool) → (b ≡ true → P i) → IfSome (only_if b i) P
if_of_kind P i true h = h refl
if_of_kind P i false h = tt

kind_is : (i j : Instr) (b : Bool) → b ≡ true → IfSome (only_if b j) (λ k. i ≡ k) → i ≡ j
kind_is i j b e h = rw e at h

any_of_kind : (is : ℕ → Bool) (f : ℕ → Instr) (first second : ℕ) (i : Instr) → IsAlike (FitsKind is) one_word f → AllDecoded → ReadAgain
    → first < 2 ^ 16 → second < 2 ^ 16
    → alone first ≡ More → decode_of (first ∷ second ∷ []) ≡ Whole i 2 → IfSome (only_if (is second) (f second)) (λ j. i ≡ j)
    → is second ≡ true → (d : ℕ) → d < 2 ^ 16 → IfSome (only_if (is d) (f d)) (IsWith first d)
any_of_kind is f first second i same all again range range' more e h it_is d range_d =
    if_of_kind (IsWith first d) (f d) (is d) (λ mine.
    any_fitting (FitsKind is) f first second (λ d h. h.0) same all again range (range', it_is) more
    (e ∙ ap (λ (j : Instr). Whole j 2) (kind_is i (f second) (is second) it_is h)) d (range_d, mine))

load_displaced : (n m : ℕ) → IsDisplaced (λ d. instr.Move (move.Move Long (Dn n) (Disp m d)))
load_displaced n m = record { legal = λ d e h k. refl; opcode = λ d e. refl; words = λ d. refl }

store_displaced : (n m : ℕ) → IsDisplaced (λ d. instr.Move (move.Move Long (Disp m d) (Dn n)))
store_displaced n m = record { legal = λ d e h k. refl; opcode = λ d e. refl; words = λ d. refl }

branch_displaced : (c : Condition) → IsDisplaced (λ d. instr.Flow (flow.Bcc c (branch.Word d)))
branch_displaced c = record { legal = λ d e h k. refl; opcode = λ d e. refl; words = λ d. refl }

loop_displaced : (c : Condition) (n : ℕ) → IsDisplaced (λ d. instr.Flow (flow.Dbcc c n d))
loop_displaced c n = record { legal = λ d e h k. refl; opcode = λ d e. refl; words = λ d. refl }

take_displaced : (t : Taking) (size : Size) (m : ℕ) → IsDisplaced (λ d. taking_of t size (Disp m d))
take_displaced (taking.Move n) size m = record { legal = λ d e h k. refl; opcode = λ d e. refl; words = λ d. refl }
take_displaced (taking.MoveAddress n) size m = record { legal = λ d e h k. refl; opcode = λ d e. refl; words = λ d. refl }
take_displaced (taking.Add n) size m = record { legal = λ d e h k. refl; opcode = λ d e. refl; words = λ d. refl }
take_displaced (taking.Subtract n) size m = record { legal = λ d e h k. refl; opcode = λ d e. refl; words = λ d. refl }
take_displaced (taking.And n) size m = record { legal = λ d e h k. refl; opcode = λ d e. refl; words = λ d. refl }
take_displaced (taking.Or n) size m = record { legal = λ d e h k. refl; opcode = λ d e. refl; words = λ d. refl }
take_displaced (taking.Compare n) size m = record { legal = λ d e h k. refl; opcode = λ d e. refl; words = λ d. refl }
take_displaced (taking.AddAddress n) size m = record { legal = λ d e h k. refl; opcode = λ d e. refl; words = λ d. refl }
take_displaced (taking.SubtractAddress n) size m = record { legal = λ d e h k. refl; opcode = λ d e. refl; words = λ d. refl }
take_displaced (taking.CompareAddress n) size m = record { legal = λ d e h k. refl; opcode = λ d e. refl; words = λ d. refl }
take_displaced taking.Test size m = record { legal = λ d e h k. refl; opcode = λ d e. refl; words = λ d. refl }

put_displaced : (t : Putting) (size : Size) (m : ℕ) → IsDisplaced (λ d. putting_of t size (Disp m d))
put_displaced (putting.Data n) size m = record { legal = λ d e h k. refl; opcode = λ d e. refl; words = λ d. refl }
put_displaced (putting.Address n) size m = record { legal = λ d e h k. refl; opcode = λ d e. refl; words = λ d. refl }
put_displaced putting.Zero size m = record { legal = λ d e h k. refl; opcode = λ d e. refl; words = λ d. refl }

update_displaced : (t : Update) (size : Size) (m : ℕ) → IsDisplaced (λ d. update_of t size (Disp m d))
update_displaced (update.Add n) size m = record { legal = λ d e h k. refl; opcode = λ d e. refl; words = λ d. refl }
update_displaced (update.Subtract n) size m = record { legal = λ d e h k. refl; opcode = λ d e. refl; words = λ d. refl }
update_displaced (update.And n) size m = record { legal = λ d e h k. refl; opcode = λ d e. refl; words = λ d. refl }
update_displaced (update.Or n) size m = record { legal = λ d e h k. refl; opcode = λ d e. refl; words = λ d. refl }
update_displaced (update.ExclusiveOr n) size m = record { legal = λ d e h k. refl; opcode = λ d e. refl; words = λ d. refl }
update_displaced (update.AddQuick n) size m = record { legal = λ d e h k. refl; opcode = λ d e. refl; words = λ d. refl }
update_displaced (update.SubtractQuick n) size m = record { legal = λ d e h k. refl; opcode = λ d e. refl; words = λ d. refl }
update_displaced update.Negate size m = record { legal = λ d e h k. refl; opcode = λ d e. refl; words = λ d. refl }
update_displaced update.Complement size m = record { legal = λ d e h k. refl; opcode = λ d e. refl; words = λ d. refl }

copy_displaced : (size : Size) (m : ℕ) (place : Place) → IsDisplaced (λ d. copy_of size (place_ea place) (Disp m d))
copy_displaced size m (place.At n) = record { legal = λ d e h k. refl; opcode = λ d e. refl; words = λ d. refl }
copy_displaced size m (place.Up n) = record { legal = λ d e h k. refl; opcode = λ d e. refl; words = λ d. refl }
copy_displaced size m (place.Down n) = record { legal = λ d e h k. refl; opcode = λ d e. refl; words = λ d. refl }

address_displaced : (n m : ℕ) → IsDisplaced (λ d. instr.Move (move.Lea n (Disp m d)))
address_displaced n m = record { legal = λ d e h k. refl; opcode = λ d e. refl; words = λ d. refl }

copy_to_displaced : (size : Size) (n m : ℕ) → IsDisplaced (λ d. copy_of size (Disp m d) (Ind n))
copy_to_displaced size n m = record { legal = λ d e h k. refl; opcode = λ d e. refl; words = λ d. refl }

counter_displaced : (n : ℕ) → IsDisplaced (λ d. instr.Move (move.Lea n (PcDisp d)))
counter_displaced n = record { legal = λ d e h k. refl; opcode = λ d e. refl; words = λ d. refl }

bit_displaced : (n : ℕ) → IsDisplaced (λ d. instr.Arith (arithmetic.BitImm bit.Test (Dn n) d))
bit_displaced n = record { legal = λ d e h k. refl; opcode = λ d e. refl; words = λ d. refl }

link_displaced : (n : ℕ) → IsDisplaced (λ d. instr.Move (move.LinkW n d))
link_displaced n = record { legal = λ d e h k. refl; opcode = λ d e. refl; words = λ d. refl }

is_word : (d : ℕ) → d < 2 ^ 16 → nat_lt d 65536 ≡ true
is_word d h = grind (arith, nat_tests)

-- immediates of one word
byte_displaced : (t : Taking) → IsDisplaced (λ d. immediate_of t Byte d)
byte_displaced (taking.Move n) = record { legal = λ d e h k. rw (is_word d h, is_word e k) refl; opcode = λ d e. refl; words = λ d. refl }
byte_displaced (taking.MoveAddress n) = record { legal = λ d e h k. refl; opcode = λ d e. refl; words = λ d. refl }
byte_displaced (taking.Add n) = record { legal = λ d e h k. rw (is_word d h, is_word e k) refl; opcode = λ d e. refl; words = λ d. refl }
byte_displaced (taking.Subtract n) = record { legal = λ d e h k. rw (is_word d h, is_word e k) refl; opcode = λ d e. refl; words = λ d. refl }
byte_displaced (taking.And n) = record { legal = λ d e h k. rw (is_word d h, is_word e k) refl; opcode = λ d e. refl; words = λ d. refl }
byte_displaced (taking.Or n) = record { legal = λ d e h k. rw (is_word d h, is_word e k) refl; opcode = λ d e. refl; words = λ d. refl }
byte_displaced (taking.Compare n) = record { legal = λ d e h k. rw (is_word d h, is_word e k) refl; opcode = λ d e. refl; words = λ d. refl }
byte_displaced (taking.AddAddress n) = record { legal = λ d e h k. refl; opcode = λ d e. refl; words = λ d. refl }
byte_displaced (taking.SubtractAddress n) = record { legal = λ d e h k. refl; opcode = λ d e. refl; words = λ d. refl }
byte_displaced (taking.CompareAddress n) = record { legal = λ d e h k. refl; opcode = λ d e. refl; words = λ d. refl }
byte_displaced taking.Test = record { legal = λ d e h k. rw (is_word d h, is_word e k) refl; opcode = λ d e. refl; words = λ d. refl }

word_displaced : (t : Taking) → IsDisplaced (λ d. immediate_of t Word d)
word_displaced (taking.Move n) = record { legal = λ d e h k. rw (is_word d h, is_word e k) refl; opcode = λ d e. refl; words = λ d. refl }
word_displaced (taking.MoveAddress n) = record { legal = λ d e h k. rw (is_word d h, is_word e k) refl; opcode = λ d e. refl; words = λ d. refl }
word_displaced (taking.Add n) = record { legal = λ d e h k. rw (is_word d h, is_word e k) refl; opcode = λ d e. refl; words = λ d. refl }
word_displaced (taking.Subtract n) = record { legal = λ d e h k. rw (is_word d h, is_word e k) refl; opcode = λ d e. refl; words = λ d. refl }
word_displaced (taking.And n) = record { legal = λ d e h k. rw (is_word d h, is_word e k) refl; opcode = λ d e. refl; words = λ d. refl }
word_displaced (taking.Or n) = record { legal = λ d e h k. rw (is_word d h, is_word e k) refl; opcode = λ d e. refl; words = λ d. refl }
word_displaced (taking.Compare n) = record { legal = λ d e h k. rw (is_word d h, is_word e k) refl; opcode = λ d e. refl; words = λ d. refl }
word_displaced (taking.AddAddress n) = record { legal = λ d e h k. rw (is_word d h, is_word e k) refl; opcode = λ d e. refl; words = λ d. refl }
word_displaced (taking.SubtractAddress n) = record { legal = λ d e h k. rw (is_word d h, is_word e k) refl; opcode = λ d e. refl; words = λ d. refl }
word_displaced (taking.CompareAddress n) = record { legal = λ d e h k. rw (is_word d h, is_word e k) refl; opcode = λ d e. refl; words = λ d. refl }
word_displaced taking.Test = record { legal = λ d e h k. rw (is_word d h, is_word e k) refl; opcode = λ d e. refl; words = λ d. refl }

-- operands with a brief extension word
take_indexed : (t : Taking) (size : Size) (m : ℕ) → IsIndexed (λ d. taking_of t size (Index m (Brief d)))
take_indexed (taking.Move n) size m = record { legal = λ d e h k. rw (h.1, k.1) refl; opcode = λ d e. refl; words = λ d. refl }
take_indexed (taking.MoveAddress n) size m = record { legal = λ d e h k. rw (h.1, k.1) refl; opcode = λ d e. refl; words = λ d. refl }
take_indexed (taking.Add n) size m = record { legal = λ d e h k. rw (h.1, k.1) refl; opcode = λ d e. refl; words = λ d. refl }
take_indexed (taking.Subtract n) size m = record { legal = λ d e h k. rw (h.1, k.1) refl; opcode = λ d e. refl; words = λ d. refl }
take_indexed (taking.And n) size m = record { legal = λ d e h k. rw (h.1, k.1) refl; opcode = λ d e. refl; words = λ d. refl }
take_indexed (taking.Or n) size m = record { legal = λ d e h k. rw (h.1, k.1) refl; opcode = λ d e. refl; words = λ d. refl }
take_indexed (taking.Compare n) size m = record { legal = λ d e h k. rw (h.1, k.1) refl; opcode = λ d e. refl; words = λ d. refl }
take_indexed (taking.AddAddress n) size m = record { legal = λ d e h k. rw (h.1, k.1) refl; opcode = λ d e. refl; words = λ d. refl }
take_indexed (taking.SubtractAddress n) size m = record { legal = λ d e h k. rw (h.1, k.1) refl; opcode = λ d e. refl; words = λ d. refl }
take_indexed (taking.CompareAddress n) size m = record { legal = λ d e h k. rw (h.1, k.1) refl; opcode = λ d e. refl; words = λ d. refl }
take_indexed taking.Test size m = record { legal = λ d e h k. rw (h.1, k.1) refl; opcode = λ d e. refl; words = λ d. refl }

put_indexed : (t : Putting) (size : Size) (m : ℕ) → IsIndexed (λ d. putting_of t size (Index m (Brief d)))
put_indexed (putting.Data n) size m = record { legal = λ d e h k. rw (h.1, k.1) refl; opcode = λ d e. refl; words = λ d. refl }
put_indexed (putting.Address n) size m = record { legal = λ d e h k. rw (h.1, k.1) refl; opcode = λ d e. refl; words = λ d. refl }
put_indexed putting.Zero size m = record { legal = λ d e h k. rw (h.1, k.1) refl; opcode = λ d e. refl; words = λ d. refl }

address_indexed : (n m : ℕ) → IsIndexed (λ d. instr.Move (move.Lea n (Index m (Brief d))))
address_indexed n m = record { legal = λ d e h k. rw (h.1, k.1) refl; opcode = λ d e. refl; words = λ d. refl }

-- products and quotients of longs
divide_paired : (n : ℕ) → IsPaired (λ d. instr.Arith (arithmetic.DivL (Dn n) d))
divide_paired n = record { legal = λ d e h k. rw (h.1, k.1) refl; opcode = λ d e. refl; words = λ d. refl }

multiply_paired : (n : ℕ) → IsPaired (λ d. instr.Arith (arithmetic.MulL (Dn n) d))
multiply_paired n = record { legal = λ d e h k. rw (h.1, k.1) refl; opcode = λ d e. refl; words = λ d. refl }

-- by a form that has a meaning with each second word, or with none
with_any : (first second : ℕ) (i : Instr) (s : Short) → AllDecoded → ReadAgain → first < 2 ^ 16 → second < 2 ^ 16
    → alone first ≡ More → decode_of (first ∷ second ∷ []) ≡ Whole i 2 → IfSome (meaning_with second s) (λ j. i ≡ j)
    → IsOfKind second s → (d : ℕ) → d < 2 ^ 16 → IfSome (meaning_with d s) (IsWith first d)
with_any first second i (short.LoadLong n m) all again r r' more e h kind d k =
    any_second (λ d. instr.Move (move.Move Long (Dn n) (Disp m d))) first second (load_displaced n m) all again r r' more
    (e ∙ ap (λ (j : Instr). Whole j 2) h) d k
with_any first second i (short.StoreLong n m) all again r r' more e h kind d k =
    any_second (λ d. instr.Move (move.Move Long (Disp m d) (Dn n))) first second (store_displaced n m) all again r r' more
    (e ∙ ap (λ (j : Instr). Whole j 2) h) d k
with_any first second i (short.BranchFar c) all again r r' more e h kind d k =
    any_second (λ d. instr.Flow (flow.Bcc c (branch.Word d))) first second (branch_displaced c) all again r r' more
    (e ∙ ap (λ (j : Instr). Whole j 2) h) d k
with_any first second i (short.Loop c n) all again r r' more e h kind d k =
    any_second (λ d. instr.Flow (flow.Dbcc c n d)) first second (loop_displaced c n) all again r r' more
    (e ∙ ap (λ (j : Instr). Whole j 2) h) d k
with_any first second i (short.TakeNear t size m) all again r r' more e h kind d k =
    any_second (λ d. taking_of t size (Disp m d)) first second (take_displaced t size m) all again r r' more
    (e ∙ ap (λ (j : Instr). Whole j 2) h) d k
with_any first second i (short.TakeImmediate t Byte) all again r r' more e h kind d k =
    any_second (λ d. immediate_of t Byte d) first second (byte_displaced t) all again r r' more (e ∙ ap (λ (j : Instr). Whole j 2) h) d k
with_any first second i (short.TakeImmediate t Word) all again r r' more e h kind d k =
    any_second (λ d. immediate_of t Word d) first second (word_displaced t) all again r r' more (e ∙ ap (λ (j : Instr). Whole j 2) h) d k
with_any first second i (short.PutNear t size m) all again r r' more e h kind d k =
    any_second (λ d. putting_of t size (Disp m d)) first second (put_displaced t size m) all again r r' more
    (e ∙ ap (λ (j : Instr). Whole j 2) h) d k
with_any first second i (short.UpdateNear t size m) all again r r' more e h kind d k =
    any_second (λ d. update_of t size (Disp m d)) first second (update_displaced t size m) all again r r' more
    (e ∙ ap (λ (j : Instr). Whole j 2) h) d k
with_any first second i (short.CopyNear size m place) all again r r' more e h kind d k =
    any_second (λ d. copy_of size (place_ea place) (Disp m d)) first second (copy_displaced size m place) all again r r' more
    (e ∙ ap (λ (j : Instr). Whole j 2) h) d k
with_any first second i (short.AddressNear n m) all again r r' more e h kind d k =
    any_second (λ d. instr.Move (move.Lea n (Disp m d))) first second (address_displaced n m) all again r r' more
    (e ∙ ap (λ (j : Instr). Whole j 2) h) d k
with_any first second i (short.CopyToNear size n m) all again r r' more e h kind d k =
    any_second (λ d. copy_of size (Disp m d) (Ind n)) first second (copy_to_displaced size n m) all again r r' more
    (e ∙ ap (λ (j : Instr). Whole j 2) h) d k
with_any first second i (short.AddressFromCounter n) all again r r' more e h kind d k =
    any_second (λ d. instr.Move (move.Lea n (PcDisp d))) first second (counter_displaced n) all again r r' more
    (e ∙ ap (λ (j : Instr). Whole j 2) h) d k
with_any first second i (short.TestBit n) all again r r' more e h kind d k =
    any_second (λ d. instr.Arith (arithmetic.BitImm bit.Test (Dn n) d)) first second (bit_displaced n) all again r r' more
    (e ∙ ap (λ (j : Instr). Whole j 2) h) d k
with_any first second i short.CallFar all again r r' more e h kind d k =
    any_second (λ d. instr.Flow (flow.Bcc condition.False (branch.Word d))) first second (branch_displaced condition.False) all again r r' more
    (e ∙ ap (λ (j : Instr). Whole j 2) h) d k
with_any first second i (short.Link n) all again r r' more e h kind d k =
    any_second (λ d. instr.Move (move.LinkW n d)) first second (link_displaced n) all again r r' more
    (e ∙ ap (λ (j : Instr). Whole j 2) h) d k
with_any first second i (short.TakeIndexed t size m) all again r r' more e h kind d k =
    any_of_kind is_brief (λ d. taking_of t size (Index m (Brief d))) first second i (take_indexed t size m) all again r r' more e h kind d k
with_any first second i (short.PutIndexed t size m) all again r r' more e h kind d k =
    any_of_kind is_brief (λ d. putting_of t size (Index m (Brief d))) first second i (put_indexed t size m) all again r r' more e h kind d k
with_any first second i (short.AddressIndexed n m) all again r r' more e h kind d k =
    any_of_kind is_brief (λ d. instr.Move (move.Lea n (Index m (Brief d)))) first second i (address_indexed n m) all again r r' more e h kind d k
with_any first second i (short.DivideLong n) all again r r' more e h kind d k =
    any_of_kind is_pair (λ d. instr.Arith (arithmetic.DivL (Dn n) d)) first second i (divide_paired n) all again r r' more e h kind d k
with_any first second i (short.MultiplyLong n) all again r r' more e h kind d k =
    any_of_kind is_pair (λ d. instr.Arith (arithmetic.MulL (Dn n) d)) first second i (multiply_paired n) all again r r' more e h kind d k
with_any first second i _ all again r r' more e h kind d k = tt

pub learnt_with : (first second : ℕ) (i : Instr) (s : Short) → AllDecoded → ReadAgain → first < 2 ^ 16 → second < 2 ^ 16
    → alone first ≡ More → decode_of (first ∷ second ∷ []) ≡ Whole i 2 → IfSome (meaning_with second s) (λ j. i ≡ j)
    → IsOfTwoWords second s → IsShort first s
learnt_with first second i s all again r r' more e h none = (
  if_none (IsAlone first) (meaning s) none.0,
  with_any first second i s all again r r' more e h none.2,
  λ value range. if_none (IsWithLong first value) (meaning_with_long value s) (none.1 value),
)

-- ---- a word with any long

-- two words spell a long, and no number is refused
abbrev Every : ℕ → Type 0
Every v = ⊤

abbrev IsLong : (ℕ → Instr) → Type 0
IsLong f = IsAlike Every long_words f

long_are_words : (v : ℕ) → v < 2 ^ 32 → AreWords (long_words v)
long_are_words v h =
    AreWords-cons (v / 65536) (v % 65536 ∷ []) (omega (arith, h)) (AreWords-cons (v % 65536) [] (omega arith) AreWords-nil)

pub any_long : (f : ℕ → Instr) (first second third given : ℕ) → IsLong f → AllDecoded → OneAnswer → ReadAgain → first < 2 ^ 16 → second < 2 ^ 16
    → third < 2 ^ 16 → decode_of (first ∷ second ∷ third ∷ []) ≡ Whole (f given) 3
    → (v : ℕ) → v < 2 ^ 32 → IsWithLong first v (f v)
any_long f first second third given same all one again r r' r'' e v range_v =
    let words = AreWords-cons first (second ∷ third ∷ []) r (AreWords-cons second (third ∷ []) r' (AreWords-cons third [] r'' AreWords-nil)) in
    let (w, rest, codes, is, n) = begins (first ∷ second ∷ third ∷ []) (f given) 3 all words e in
    let mine = codes_with Every long_words f first given v (second ∷ third ∷ []) w rest same tt tt (long_are_words v range_v) codes is in
    let high : v / 65536 < 2 ^ 16 = omega (arith, range_v) in
    let alone_words = AreWords-cons first [] r AreWords-nil in
    let two_words = AreWords-cons first (v / 65536 ∷ []) r (AreWords-cons (v / 65536) [] high AreWords-nil) in (
      one (first ∷ []) (decode_of (first ∷ [])) More (all (first ∷ []) alone_words) (f v, v / 65536, v % 65536 ∷ [], mine),
      one (first ∷ v / 65536 ∷ []) (decode_of (first ∷ v / 65536 ∷ [])) More (all (first ∷ v / 65536 ∷ []) two_words) (f v, v % 65536, [], mine),
      again (f v) (first ∷ long_words v) [] mine,
      mine.has,
    )

immediate_long : (t : Taking) → IsLong (λ v. immediate_of t Long v)
immediate_long (taking.Move n) = record { legal = λ d e h k. refl; opcode = λ d e. refl; words = λ d. refl }
immediate_long (taking.MoveAddress n) = record { legal = λ d e h k. refl; opcode = λ d e. refl; words = λ d. refl }
immediate_long (taking.Add n) = record { legal = λ d e h k. refl; opcode = λ d e. refl; words = λ d. refl }
immediate_long (taking.Subtract n) = record { legal = λ d e h k. refl; opcode = λ d e. refl; words = λ d. refl }
immediate_long (taking.And n) = record { legal = λ d e h k. refl; opcode = λ d e. refl; words = λ d. refl }
immediate_long (taking.Or n) = record { legal = λ d e h k. refl; opcode = λ d e. refl; words = λ d. refl }
immediate_long (taking.Compare n) = record { legal = λ d e h k. refl; opcode = λ d e. refl; words = λ d. refl }
immediate_long (taking.AddAddress n) = record { legal = λ d e h k. refl; opcode = λ d e. refl; words = λ d. refl }
immediate_long (taking.SubtractAddress n) = record { legal = λ d e h k. refl; opcode = λ d e. refl; words = λ d. refl }
immediate_long (taking.CompareAddress n) = record { legal = λ d e h k. refl; opcode = λ d e. refl; words = λ d. refl }
immediate_long taking.Test = record { legal = λ d e h k. refl; opcode = λ d e. refl; words = λ d. refl }

take_long : (t : Taking) (size : Size) → IsLong (λ v. taking_of t size (AbsL v))
take_long (taking.Move n) size = record { legal = λ d e h k. refl; opcode = λ d e. refl; words = λ d. refl }
take_long (taking.MoveAddress n) size = record { legal = λ d e h k. refl; opcode = λ d e. refl; words = λ d. refl }
take_long (taking.Add n) size = record { legal = λ d e h k. refl; opcode = λ d e. refl; words = λ d. refl }
take_long (taking.Subtract n) size = record { legal = λ d e h k. refl; opcode = λ d e. refl; words = λ d. refl }
take_long (taking.And n) size = record { legal = λ d e h k. refl; opcode = λ d e. refl; words = λ d. refl }
take_long (taking.Or n) size = record { legal = λ d e h k. refl; opcode = λ d e. refl; words = λ d. refl }
take_long (taking.Compare n) size = record { legal = λ d e h k. refl; opcode = λ d e. refl; words = λ d. refl }
take_long (taking.AddAddress n) size = record { legal = λ d e h k. refl; opcode = λ d e. refl; words = λ d. refl }
take_long (taking.SubtractAddress n) size = record { legal = λ d e h k. refl; opcode = λ d e. refl; words = λ d. refl }
take_long (taking.CompareAddress n) size = record { legal = λ d e h k. refl; opcode = λ d e. refl; words = λ d. refl }
take_long taking.Test size = record { legal = λ d e h k. refl; opcode = λ d e. refl; words = λ d. refl }

put_long : (t : Putting) (size : Size) → IsLong (λ v. putting_of t size (AbsL v))
put_long (putting.Data n) size = record { legal = λ d e h k. refl; opcode = λ d e. refl; words = λ d. refl }
put_long (putting.Address n) size = record { legal = λ d e h k. refl; opcode = λ d e. refl; words = λ d. refl }
put_long putting.Zero size = record { legal = λ d e h k. refl; opcode = λ d e. refl; words = λ d. refl }

address_long : (n : ℕ) → IsLong (λ v. instr.Move (move.Lea n (AbsL v)))
address_long n = record { legal = λ d e h k. refl; opcode = λ d e. refl; words = λ d. refl }

-- by a form that has a meaning with each long, or with none
with_any_long : (first second third given : ℕ) (i : Instr) (s : Short) → AllDecoded → OneAnswer → ReadAgain → first < 2 ^ 16 → second < 2 ^ 16
    → third < 2 ^ 16 → decode_of (first ∷ second ∷ third ∷ []) ≡ Whole i 3 → IfSome (meaning_with_long given s) (λ j. i ≡ j)
    → (v : ℕ) → v < 2 ^ 32 → IfSome (meaning_with_long v s) (IsWithLong first v)
with_any_long first second third given i (short.TakeImmediate t Long) all one again r r' r'' e h v k =
    any_long (λ v. immediate_of t Long v) first second third given (immediate_long t) all one again r r' r''
    (e ∙ ap (λ (j : Instr). Whole j 3) h) v k
with_any_long first second third given i (short.TakeAbsolute t size) all one again r r' r'' e h v k =
    any_long (λ v. taking_of t size (AbsL v)) first second third given (take_long t size) all one again r r' r''
    (e ∙ ap (λ (j : Instr). Whole j 3) h) v k
with_any_long first second third given i (short.PutAbsolute t size) all one again r r' r'' e h v k =
    any_long (λ v. putting_of t size (AbsL v)) first second third given (put_long t size) all one again r r' r''
    (e ∙ ap (λ (j : Instr). Whole j 3) h) v k
with_any_long first second third given i (short.AddressAbsolute n) all one again r r' r'' e h v k =
    any_long (λ v. instr.Move (move.Lea n (AbsL v))) first second third given (address_long n) all one again r r' r''
    (e ∙ ap (λ (j : Instr). Whole j 3) h) v k
with_any_long first second third given i _ all one again r r' r'' e h v k = tt

pub learnt_with_long : (first second third given : ℕ) (i : Instr) (s : Short) → AllDecoded → OneAnswer → ReadAgain → first < 2 ^ 16
    → second < 2 ^ 16 → third < 2 ^ 16 → decode_of (first ∷ second ∷ third ∷ []) ≡ Whole i 3
    → IfSome (meaning_with_long given s) (λ j. i ≡ j) → IsOfThreeWords s → IsShort first s
learnt_with_long first second third given i s all one again r r' r'' e h none = (
  if_none (IsAlone first) (meaning s) none.0,
  λ second range. if_none (IsWith first second) (meaning_with second s) (none.1 second),
  with_any_long first second third given i s all one again r r' r'' e h,
)

-- ---- the table

pub kept : (forms : List Short) (at : ℕ) (s : Short) → at < length forms → IsShort at s
    → ((first : ℕ) → IsShort first (slice_index_or forms first short.Unknown))
    → (first : ℕ) → IsShort first (slice_index_or (slice_set forms at s) first short.Unknown)
kept forms at s range right all first =
    elim (cases_eq first at) [
      | inl e ↦
          subst (λ (n : ℕ). IsShort n (slice_index_or (slice_set forms at s) n short.Unknown)) (sym e)
          (subst (IsShort at) (sym (get_or-set_same forms at s short.Unknown range)) right)
      | inr n ↦ subst (IsShort first) (sym (get_or-set_other forms at first s short.Unknown n)) (all first)
    ]

pub unknown : (first : ℕ) → IsShort first short.Unknown
unknown first = (tt, λ second range. tt, λ value range. tt)

all_unknown : (first n : ℕ) → slice_index_or (replicate n short.Unknown) first short.Unknown ≡ short.Unknown
all_unknown first zero = refl
all_unknown zero (suc n) = refl
all_unknown (suc first) (suc n) = all_unknown first n

abbrev pub AreShort : List Short → Type 0
AreShort forms = (length forms ≡ 65536) × ((first : ℕ) → IsShort first (slice_index_or forms first short.Unknown))

pub fresh : (forms : List Short) → forms ≡ replicate 65536 short.Unknown → AreShort forms
fresh forms e = (
  ap (λ (all : List Short). length all) e ∙ length-replicate 65536 short.Unknown,
  λ first. subst (λ (all : List Short). IsShort first (slice_index_or all first short.Unknown)) (sym e)
      (subst (IsShort first) (sym (all_unknown first 65536)) (unknown first)),
)

pub put : (forms : List Short) (place at : ℕ) (s : Short) → place ≡ at → at < 2 ^ 16 → AreShort forms → IsShort at s → AreShort (slice_set forms place s)
put forms place at s e range are right =
    subst (λ (n : ℕ). AreShort (slice_set forms n s)) (sym e)
    (length-set forms at s ∙ are.0, kept forms at s (let n = are.0 in omega (arith, n, range)) right are.1)

pub read : (forms : List Short) (at : ℕ) (s : Short) → at < 2 ^ 16 → AreShort forms → s ≡ slice_index_or forms at s → IsShort at s
read forms at s range are e =
    subst (IsShort at) (sym (get_or_read forms at s (let n = are.0 in omega (arith, n, range)) e short.Unknown)) (are.1 at)
