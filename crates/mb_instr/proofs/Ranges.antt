-- What has a spelling is in range.
use Rattle.std.proofs.Common.{◌≡◌, ℕ, ◌<◌, ◌/◌, ◌%◌, ◌^◌, Bool, true, false, cond, [], ◌∷◌, refl, subst, arith}
use Rattle.std.specs.Prelude.{◌&&◌, ◌==◌, not, nat_lt}
use Rattle.std.proofs.lemmas.Bool.Decides.{nat_tests}
use Rattle.mb_instr.specs.declared.size.Size.{Size}
use Rattle.mb_instr.specs.declared.size.Size.TheVariants as size
use Rattle.mb_instr.specs.declared.operand.Ea.{Ea}
use Rattle.mb_instr.specs.declared.operand.Ea.TheVariants.{Dn, An, Ind, Post, Pre, Disp, Index, AbsW, AbsL, PcDisp, PcIndex, Imm}
use Rattle.mb_instr.specs.declared.operand.OperandClass.{OperandClass}
use Rattle.mb_instr.specs.declared.operand.OperandClass.TheVariants.{All, DataAlterable, MemoryAlterable, Control, StoreList, LoadList}
use Rattle.mb_instr.specs.declared.operand.Ext.{Ext}
use Rattle.mb_instr.specs.declared.operand.Ext.TheVariants.{Brief, Full}
use Rattle.mb_instr.specs.declared.rule.WordRule.{WordRule}
use Rattle.mb_instr.specs.declared.kinds.FieldKind.{FieldKind}
use Rattle.mb_instr.specs.declared.kinds.FieldKind.TheVariants as field
use Rattle.mb_instr.specs.Kinds.{field_class}
use Rattle.mb_instr.specs.declared.instruction.Move.TheVariants as move
use Rattle.mb_instr.specs.declared.instruction.Instr.TheVariants as instr
use Rattle.mb_instr.specs.Operands.{allows, mode, lower, more, long_words, wide, fits_width, is_full, is_ext, ext, immediate, is_immediate}
use Rattle.mb_instr.specs.Operands.{is_spelled, takes, IsExt, IsImmediate, IsEa, IsDestination, IsInMemory, IsData}
use Rattle.mb_instr.specs.Rules.{holds}
use Rattle.mb_instr.specs.Shapes.{Row, at_ea, word_ea, immediate_ea, when}
use Rattle.mb_instr.specs.Codes.{Has, IsInstr, AreWords}
use Rattle.mb_instr.proofs.Words.{AreWords-head, AreWords-tail, AreWords-left, AreWords-right}

pub and_is : (a b : Bool) → (a && b) ≡ true → (a ≡ true) × (b ≡ true)
and_is true true e = (refl, refl)
and_is true false e = absurd cc
and_is false b e = absurd cc

pub long_range : (v : ℕ) → AreWords (long_words v) → v < 2 ^ 32
long_range v h = let high = AreWords-head (v / 65536) (v % 65536 ∷ []) h in omega arith

wide_cases : (two three : Bool) (v : ℕ) → cond two (nat_lt v 65536) (cond three true (v == 0)) ≡ true →
    AreWords (cond two (v ∷ []) (cond three (long_words v) [])) → v < 2 ^ 32
wide_cases true three v h w = let lt = AreWords-head v [] w in omega arith
wide_cases false true v h w = long_range v w
wide_cases false false v h w = grind (arith, nat_tests)

wide_range : (width v : ℕ) → fits_width width v ≡ true → AreWords (wide width v) → v < 2 ^ 32
wide_range width v h w = wide_cases (width == 2) (width == 3) v h w

pub ext_range : (e : Ext) → is_ext e ≡ true → AreWords (ext e) → IsExt e
ext_range (Brief w) h ws = AreWords-head w [] ws
ext_range (Full w bd od) h ws =
    let a = and_is (not (w / 2 ^ 8 % 2 == 0) && is_full w && fits_width (w / 2 ^ 4 % 4) bd) (fits_width (w % 4) od) h in
    let b = and_is (not (w / 2 ^ 8 % 2 == 0) && is_full w) (fits_width (w / 2 ^ 4 % 4) bd) a.0 in
    let behind = AreWords-tail w _ ws in (
      AreWords-head w _ ws,
      wide_range (w / 2 ^ 4 % 4) bd b.1 (AreWords-left _ _ behind),
      wide_range (w % 4) od a.1 (AreWords-right (wide (w / 2 ^ 4 % 4) bd) _ behind),
    )

pub immediate_range : (s : Size) (v : ℕ) → AreWords (immediate s v) → IsImmediate s v
immediate_range size.Byte v h = AreWords-head v [] h
immediate_range size.Word v h = AreWords-head v [] h
immediate_range size.Long v h = long_range v h

pub ea_range : (s : Size) (ea : Ea) → is_spelled s ea ≡ true → lower ea < 8 → AreWords (more s ea) → IsEa s ea
ea_range s (Dn n) h r w = r
ea_range s (An n) h r w = r
ea_range s (Ind n) h r w = r
ea_range s (Post n) h r w = r
ea_range s (Pre n) h r w = r
ea_range s (Disp n d) h r w = (r, AreWords-head d [] w)
ea_range s (Index n e) h r w = (r, ext_range e h w)
ea_range s (AbsW a) h r w = AreWords-head a [] w
ea_range s (AbsL a) h r w = long_range a w
ea_range s (PcDisp d) h r w = AreWords-head d [] w
ea_range s (PcIndex e) h r w = ext_range e h w
ea_range s (Imm v) h r w = immediate_range s v w

pub takes_range : (class : OperandClass) (s : Size) (ea : Ea) → takes class s ea ≡ true → lower ea < 8 → AreWords (more s ea) → IsEa s ea
takes_range class s ea h r w = ea_range s ea (and_is (allows class s (mode ea) (lower ea)) (is_spelled s ea) h).1 r w

-- ---- the parts of a value that is in its row

-- a row for some values alone
pub when_has : (test : Bool) (r : Row) → Has (when test r) → (test ≡ true) × Has r
when_has test r h =
    let both = and_is test r.legal h.legal in
    (both.0, record { legal = both.1; fields = h.fields; are_words = h.are_words })

pub at_ea_range : (class : OperandClass) (s : Size) (a b c f : ℕ) (ea : Ea) → Has (at_ea class s a b c f ea) → IsEa s ea
at_ea_range class s a b c f ea h = let fields = h.fields in takes_range class s ea h.legal fields.lower h.are_words

pub word_ea_range : (rule : WordRule) (class : OperandClass) (s : Size) (a b c f w : ℕ) (ea : Ea) → Has (word_ea rule class s a b c f w ea) →
    (w < 2 ^ 16) × (holds rule w ≡ true) × IsEa s ea
word_ea_range rule class s a b c f w ea h =
    let fields = h.fields in
    let both = and_is (holds rule w) (takes class s ea) h.legal in
    (AreWords-head w (more s ea) h.are_words, both.0, takes_range class s ea both.1 fields.lower (AreWords-tail w (more s ea) h.are_words))

pub immediate_ea_range : (class : OperandClass) (a b c : ℕ) (s : Size) (v : ℕ) (ea : Ea) → Has (immediate_ea class a b c s v ea) →
    IsImmediate s v × IsEa s ea
immediate_ea_range class a b c s v ea h =
    let fields = h.fields in
    let both = and_is (is_immediate s v) (takes class s ea) h.legal in (
      immediate_range s v (AreWords-left (immediate s v) (more s ea) h.are_words),
      takes_range class s ea both.1 fields.lower (AreWords-right (immediate s v) (more s ea) h.are_words),
    )

pub move_range : (s : Size) (d e : Ea) → IsInstr (instr.Move (move.Move s d e)) → IsEa s d × IsEa s e
move_range s d e h =
    let fields = h.fields in
    let both = and_is (takes All s e) (takes DataAlterable s d) h.legal in (
      takes_range DataAlterable s d both.1 fields.upper (AreWords-right (more s e) (more s d) h.are_words),
      takes_range All s e both.0 fields.lower (AreWords-left (more s e) (more s d) h.are_words),
    )

-- ---- operands of classes that leave registers or immediates out

refused : (b c : Bool) → b ≡ false → (b && c) ≡ true → ⊥
refused true c e h = cc
refused false c e h = cc

-- no address register and no immediate is of the class
pub record IsDataClass (class : OperandClass) (s : Size) : Type 0 where
  pub address : (n : ℕ) → allows class s 1 n ≡ false
  pub immediate : allows class s 7 4 ≡ false

-- nor is a data register
pub record IsMemoryClass (class : OperandClass) (s : Size) : Type 0 where
  pub registers : (n : ℕ) → allows class s 0 n ≡ false
  pub others : IsDataClass class s

data_taken : (class : OperandClass) (s : Size) (ea : Ea) → IsDataClass class s → takes class s ea ≡ true → IsData ea
data_taken class s (Dn n) is h = tt
data_taken class s (An n) is h = refused (allows class s 1 n) true (is.address n) h
data_taken class s (Ind n) is h = tt
data_taken class s (Post n) is h = tt
data_taken class s (Pre n) is h = tt
data_taken class s (Disp n d) is h = tt
data_taken class s (Index n e) is h = tt
data_taken class s (AbsW a) is h = tt
data_taken class s (AbsL a) is h = tt
data_taken class s (PcDisp d) is h = tt
data_taken class s (PcIndex e) is h = tt
data_taken class s (Imm v) is h = refused (allows class s 7 4) (is_immediate s v) is.immediate h

pub in_memory : (ea : Ea) → IsData ea → ((n : ℕ) → ea ≡ Dn n → ⊥) → IsInMemory ea
in_memory (Dn n) h none_is = none_is n refl
in_memory (An n) h none_is = h
in_memory (Ind n) h none_is = tt
in_memory (Post n) h none_is = tt
in_memory (Pre n) h none_is = tt
in_memory (Disp n d) h none_is = tt
in_memory (Index n e) h none_is = tt
in_memory (AbsW a) h none_is = tt
in_memory (AbsL a) h none_is = tt
in_memory (PcDisp d) h none_is = tt
in_memory (PcIndex e) h none_is = tt
in_memory (Imm v) h none_is = h

memory_taken : (class : OperandClass) (s : Size) (ea : Ea) → IsMemoryClass class s → takes class s ea ≡ true → IsInMemory ea
memory_taken class s ea is h =
    in_memory ea (data_taken class s ea is.others h)
    (λ n e. refused (allows class s 0 n) true (is.registers n) (subst (λ (x : Ea). takes class s x ≡ true) e h))

pub at_ea_data : (class : OperandClass) (s : Size) (a b c f : ℕ) (ea : Ea) → IsDataClass class s → Has (at_ea class s a b c f ea) → IsData ea
at_ea_data class s a b c f ea is h = data_taken class s ea is h.legal

pub word_ea_data : (rule : WordRule) (class : OperandClass) (s : Size) (a b c f w : ℕ) (ea : Ea) → IsDataClass class s →
    Has (word_ea rule class s a b c f w ea) → IsData ea
word_ea_data rule class s a b c f w ea is h = data_taken class s ea is (and_is (holds rule w) (takes class s ea) h.legal).1

pub at_ea_memory : (class : OperandClass) (s : Size) (a b c f : ℕ) (ea : Ea) → IsMemoryClass class s → Has (at_ea class s a b c f ea) →
    IsInMemory ea
at_ea_memory class s a b c f ea is h = memory_taken class s ea is h.legal

pub word_ea_memory : (rule : WordRule) (class : OperandClass) (s : Size) (a b c f w : ℕ) (ea : Ea) → IsMemoryClass class s →
    Has (word_ea rule class s a b c f w ea) → IsInMemory ea
word_ea_memory rule class s a b c f w ea is h = memory_taken class s ea is (and_is (holds rule w) (takes class s ea) h.legal).1

-- ---- the classes that do

pub control_memory : (s : Size) → IsMemoryClass Control s
control_memory s = record { registers = λ n. refl; others = record { address = λ n. refl; immediate = refl } }

pub alterable_memory : (s : Size) → IsMemoryClass MemoryAlterable s
alterable_memory s = record { registers = λ n. refl; others = record { address = λ n. refl; immediate = refl } }

pub store_memory : (s : Size) → IsMemoryClass StoreList s
store_memory s = record { registers = λ n. refl; others = record { address = λ n. refl; immediate = refl } }

pub load_memory : (s : Size) → IsMemoryClass LoadList s
load_memory s = record { registers = λ n. refl; others = record { address = λ n. refl; immediate = refl } }

pub alterable_data : (s : Size) → IsDataClass DataAlterable s
alterable_data s = record { address = λ n. refl; immediate = refl }

pub field_data : (k : FieldKind) (s : Size) → IsDataClass (field_class k) s
field_data field.Test s = record { address = λ n. refl; immediate = refl }
field_data field.ExtractUnsigned s = record { address = λ n. refl; immediate = refl }
field_data field.Change s = record { address = λ n. refl; immediate = refl }
field_data field.ExtractSigned s = record { address = λ n. refl; immediate = refl }
field_data field.Clear s = record { address = λ n. refl; immediate = refl }
field_data field.FindFirst s = record { address = λ n. refl; immediate = refl }
field_data field.Set s = record { address = λ n. refl; immediate = refl }
field_data field.Insert s = record { address = λ n. refl; immediate = refl }

-- ---- destinations

destination_taken : (class : OperandClass) (s : Size) (ea : Ea) → allows class s 7 4 ≡ false → takes class s ea ≡ true → IsDestination ea
destination_taken class s (Dn n) none_is h = tt
destination_taken class s (An n) none_is h = tt
destination_taken class s (Ind n) none_is h = tt
destination_taken class s (Post n) none_is h = tt
destination_taken class s (Pre n) none_is h = tt
destination_taken class s (Disp n d) none_is h = tt
destination_taken class s (Index n e) none_is h = tt
destination_taken class s (AbsW a) none_is h = tt
destination_taken class s (AbsL a) none_is h = tt
destination_taken class s (PcDisp d) none_is h = tt
destination_taken class s (PcIndex e) none_is h = tt
destination_taken class s (Imm v) none_is h = refused (allows class s 7 4) (is_immediate s v) none_is h

pub at_ea_destination : (class : OperandClass) (s : Size) (a b c f : ℕ) (ea : Ea) → allows class s 7 4 ≡ false →
    Has (at_ea class s a b c f ea) → IsDestination ea
at_ea_destination class s a b c f ea none_is h = destination_taken class s ea none_is h.legal

pub word_ea_destination : (rule : WordRule) (class : OperandClass) (s : Size) (a b c f w : ℕ) (ea : Ea) → allows class s 7 4 ≡ false →
    Has (word_ea rule class s a b c f w ea) → IsDestination ea
word_ea_destination rule class s a b c f w ea none_is h = destination_taken class s ea none_is (and_is (holds rule w) (takes class s ea) h.legal).1

pub immediate_ea_destination : (class : OperandClass) (a b c : ℕ) (s : Size) (v : ℕ) (ea : Ea) → allows class s 7 4 ≡ false →
    Has (immediate_ea class a b c s v ea) → IsDestination ea
immediate_ea_destination class a b c s v ea none_is h = destination_taken class s ea none_is (and_is (is_immediate s v) (takes class s ea) h.legal).1

pub move_destination : (s : Size) (d e : Ea) → IsInstr (instr.Move (move.Move s d e)) → IsDestination d
move_destination s d e h = destination_taken DataAlterable s d refl (and_is (takes All s e) (takes DataAlterable s d) h.legal).1
