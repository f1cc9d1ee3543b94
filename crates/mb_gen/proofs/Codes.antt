-- The words of each instruction spell it.
use Rattle.std.proofs.Common.{◌≡◌, ℕ, ◌+◌, ◌-◌, ◌*◌, ◌/◌, ◌%◌, ◌^◌, ◌<◌, ◌≤◌, Bool, true, false, cond, [], ◌∷◌, refl, sym, arith, lit<}
use Rattle.std.specs.Prelude.{◌&&◌, ◌==◌}
use Rattle.std.proofs.lemmas.Bool.Decides.{nat_tests}
use Rattle.mb_decode.proofs.Found.{eq_true, eq_false}
use Rattle.mb_instr.specs.declared.size.Size.TheVariants.{Long}
use Rattle.mb_instr.specs.declared.kinds.ShiftKind.TheVariants.{Logical}
use Rattle.mb_instr.specs.declared.instruction.Instr.{Instr}
use Rattle.mb_instr.specs.declared.instruction.Instr.TheVariants.{Arith}
use Rattle.mb_instr.specs.declared.instruction.Arith.TheVariants as sums
use Rattle.mb_instr.specs.Opcodes.{word_of, IsOpcode}
use Rattle.mb_instr.specs.Shapes.{op, further, is_quick}
use Rattle.mb_instr.specs.Rows.{row}
use Rattle.mb_instr.specs.Codes.{AreWords, Codes}
use Rattle.mb_instr.proofs.Words.{AreWords-nil, AreWords-cons, AreWords-append}
use Rattle.mb_decode.specs.RowReading.{quick_value}
use Rattle.mb_gen.specs.Instructions.{Spelled, place_of, moveq, add, sub, eor, mulu, lsr, store, load, picked, enter, send, count_down, repeat, switch_off}
use Rattle.mb_gen.proofs.Picked.{picked_is}

-- the words spell the instruction
abbrev pub IsSpelled : Spelled → Type 0
IsSpelled it = Codes it.instruction it.words

fields : (a b c s m r : ℕ) → a < 16 → b < 8 → c < 2 → s < 4 → m < 8 → r < 8 → IsOpcode (op a b c s m r)
fields a b c s m r la lb lc ls lm lr = record { line = la; upper = lb; bit = lc; size = ls; mode = lm; lower = lr }

-- an instruction of one word
one_word : (i : Instr) (first : ℕ) → (row i).legal ≡ true → IsOpcode (row i).opcode → further (row i) ≡ [] → first ≡ word_of (row i).opcode →
    Codes i (first ∷ [])
one_word i first legal is none e = record {
  has = record { legal = legal; fields = is; are_words = rw none AreWords-nil };
  words = rw (e, none) refl;
}

-- an instruction of two words
two_words : (i : Instr) (first k : ℕ) → (row i).legal ≡ true → IsOpcode (row i).opcode → further (row i) ≡ k ∷ [] → k < 2 ^ 16 →
    first ≡ word_of (row i).opcode → Codes i (first ∷ k ∷ [])
two_words i first k legal is one lt e = record {
  has = record { legal = legal; fields = is; are_words = rw one (AreWords-cons k [] lt AreWords-nil) };
  words = rw (e, one) refl;
}

-- ---- what is picked

moveq-spelled : (d n : ℕ) → d < 8 → n < 256 → IsSpelled (moveq d n)
moveq-spelled d n ld ln =
    one_word (moveq d n).instruction (0x7000 + 512 * d + n)
    refl (fields 7 d 0 (n / 64) (n / 8 % 8) (n % 8) (lit< tt) ld (lit< tt) (omega arith) (omega arith) (omega arith)) refl (omega arith)

add-spelled : (d e : ℕ) → d < 8 → e < 8 → IsSpelled (add d e)
add-spelled d e ld le =
    one_word (add d e).instruction (0xD080 + 512 * d + e)
    refl (fields 13 d 0 2 0 e (lit< tt) ld (lit< tt) (lit< tt) (lit< tt) le) refl (omega arith)

sub-spelled : (d e : ℕ) → d < 8 → e < 8 → IsSpelled (sub d e)
sub-spelled d e ld le =
    one_word (sub d e).instruction (0x9080 + 512 * d + e)
    refl (fields 9 d 0 2 0 e (lit< tt) ld (lit< tt) (lit< tt) (lit< tt) le) refl (omega arith)

eor-spelled : (d e : ℕ) → d < 8 → e < 8 → IsSpelled (eor d e)
eor-spelled d e ld le =
    one_word (eor d e).instruction (0xB180 + 512 * d + e)
    refl (fields 11 d 1 2 0 e (lit< tt) ld (lit< tt) (lit< tt) (lit< tt) le) refl (omega arith)

mulu-spelled : (d e : ℕ) → d < 8 → e < 8 → IsSpelled (mulu d e)
mulu-spelled d e ld le =
    one_word (mulu d e).instruction (0xC0C0 + 512 * d + e)
    refl (fields 12 d 0 3 0 e (lit< tt) ld (lit< tt) (lit< tt) (lit< tt) le) refl (omega arith)

store-spelled : (d k : ℕ) → d < 8 → k < 2 ^ 16 → IsSpelled (store d k)
store-spelled d k ld lk =
    two_words (store d k).instruction (0x2B40 + d) k
    refl (fields 2 5 1 1 0 d (lit< tt) (lit< tt) (lit< tt) (lit< tt) (lit< tt) ld) refl lk (omega arith)

load-spelled : (d k : ℕ) → d < 8 → k < 2 ^ 16 → IsSpelled (load d k)
load-spelled d k ld lk =
    two_words (load d k).instruction (0x202D + 512 * d) k
    refl (fields 2 d 0 0 5 5 (lit< tt) ld (lit< tt) (lit< tt) (lit< tt) (lit< tt)) refl lk (omega arith)

quick : (q : ℕ) → 0 < q → q < 9 → (is_quick q && true) ≡ true
quick q some few = grind (arith, nat_tests)

-- a count from 1 to 8, whose field is its last three bits
lsr_by : (d e count : ℕ) → d < 8 → e < 8 → 0 < count → count < 9 → count % 8 ≡ e →
    Codes (Arith (sums.ShiftReg count false Long false Logical d)) ((0xE088 + 512 * e + d) ∷ [])
lsr_by d e count ld le some few same =
    one_word (Arith (sums.ShiftReg count false Long false Logical d)) (0xE088 + 512 * e + d) (quick count some few)
    (fields 14 (count % 8) 0 2 1 d (lit< tt) (omega arith) (lit< tt) (lit< tt) (lit< tt) ld) refl (omega arith)

record IsCount (e count : ℕ) : Type 0 where
  some : 0 < count
  few : count < 9
  same : count % 8 ≡ e

counted : (e : ℕ) (b : Bool) → (e == 0) ≡ b → e < 8 → IsCount e (cond b 8 e)
counted e true is le = let none = eq_true e 0 is in record { some = lit< tt; few = lit< tt; same = sym none }
counted e false is le =
    let not_none = eq_false e 0 is in
    let some : 0 < e = omega arith in
    record { some = some; few = omega arith; same = omega arith }

lsr-spelled : (d e : ℕ) → d < 8 → e < 8 → IsSpelled (lsr d e)
lsr-spelled d e ld le = let count = counted e (e == 0) refl le in lsr_by d e (quick_value e) ld le count.some count.few count.same

pub picked-spelled : (draw : ℕ) → draw < 2 ^ 32 → IsSpelled (picked draw)
picked-spelled draw lt =
    let d = draw / 8 % 8 in
    let e = draw / 64 % 8 in
    let h = draw / 65536 in
    let ld : d < 8 = omega arith in
    let le : e < 8 = omega arith in
    let lk : place_of h < 2 ^ 16 = omega arith in
    picked_is IsSpelled (draw % 8) d e h
    (moveq-spelled d (h % 256) ld (omega arith)) (add-spelled d e ld le) (sub-spelled d e ld le) (eor-spelled d e ld le) (mulu-spelled d e ld le)
    (lsr-spelled d e ld le) (store-spelled d (place_of h) ld lk) (load-spelled d (place_of h) ld lk)

-- ---- what stands in each program

pair_of : (a b : ℕ) → a < 2 ^ 16 → b < 2 ^ 16 → AreWords (a ∷ b ∷ [])
pair_of a b la lb = AreWords-cons a (b ∷ []) la (AreWords-cons b [] lb AreWords-nil)

pub enter-spelled : IsSpelled enter
enter-spelled = record {
  has = record {
    legal = refl;
    fields = fields 4 5 1 3 7 1 (lit< tt) (lit< tt) (lit< tt) (lit< tt) (lit< tt) (lit< tt);
    are_words = pair_of 0x0000 0x8000 (lit< tt) (lit< tt);
  };
  words = refl;
}

pub send-spelled : IsSpelled send
send-spelled = record {
  has = record {
    legal = refl;
    fields = fields 1 1 1 3 0 0 (lit< tt) (lit< tt) (lit< tt) (lit< tt) (lit< tt) (lit< tt);
    are_words = pair_of 0xFFF0 0x0000 (lit< tt) (lit< tt);
  };
  words = refl;
}

pub count_down-spelled : IsSpelled count_down
count_down-spelled =
    two_words count_down.instruction 0x53B8 0x7F00 refl (fields 5 1 1 2 7 0 (lit< tt) (lit< tt) (lit< tt) (lit< tt) (lit< tt) (lit< tt)) refl (lit< tt) refl

pub repeat-spelled : (bytes : ℕ) → 0 < bytes → bytes ≤ 2 ^ 16 → IsSpelled (repeat bytes)
repeat-spelled bytes some few =
    two_words (repeat bytes).instruction 0x6600 (2 ^ 16 - bytes) refl (fields 6 3 0 0 0 0 (lit< tt) (lit< tt) (lit< tt) (lit< tt) (lit< tt) (lit< tt))
    refl (omega arith) refl

pub switch_off-spelled : IsSpelled switch_off
switch_off-spelled = record {
  has = record {
    legal = refl;
    fields = fields 2 1 1 3 7 4 (lit< tt) (lit< tt) (lit< tt) (lit< tt) (lit< tt) (lit< tt);
    are_words = AreWords-append (0x0000 ∷ 0x0001 ∷ []) (0xFFF0 ∷ 0x0020 ∷ []) (pair_of 0x0000 0x0001 (lit< tt) (lit< tt))
        (pair_of 0xFFF0 0x0020 (lit< tt) (lit< tt));
  };
  words = refl;
}
