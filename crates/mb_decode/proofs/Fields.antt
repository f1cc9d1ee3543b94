-- Fields and what they say, both ways.
use Rattle.std.proofs.Common.{◌≡◌, ℕ, suc, zero, ◌+◌, ◌/◌, ◌%◌, ◌<◌, ◌≤◌, Bool, true, false, cond, refl, arith}
use Rattle.std.specs.Prelude.{◌&&◌, ◌==◌, nat_lt}
use Rattle.std.proofs.lemmas.Bool.Decides.{nat_tests}
use Rattle.mb_instr.specs.declared.size.Size.{Size}
use Rattle.mb_instr.specs.declared.size.Size.TheVariants as size
use Rattle.mb_instr.specs.declared.operand.OperandClass.TheVariants.{Data, DataAlterable, MemoryAlterable, Control, StoreList}
use Rattle.mb_instr.specs.declared.kinds.BitKind.{BitKind}
use Rattle.mb_instr.specs.declared.kinds.BitKind.TheVariants as bit_of
use Rattle.mb_instr.specs.declared.kinds.ShiftKind.{ShiftKind}
use Rattle.mb_instr.specs.declared.kinds.ShiftKind.TheVariants as shift
use Rattle.mb_instr.specs.Sizes.{size_bits, move_bits, move_size, long_bit, size_of_bit, not_byte}
use Rattle.mb_instr.specs.declared.kinds.LineMove.{LineMove}
use Rattle.mb_instr.specs.declared.kinds.LineMove.TheVariants as line
use Rattle.mb_instr.specs.declared.kinds.Caches.{Caches}
use Rattle.mb_instr.specs.declared.kinds.Caches.TheVariants as caches
use Rattle.mb_instr.specs.declared.kinds.FlushKind.{FlushKind}
use Rattle.mb_instr.specs.declared.kinds.FlushKind.TheVariants as flush
use Rattle.mb_instr.specs.declared.kinds.Condition.{Condition}
use Rattle.mb_instr.specs.declared.kinds.Condition.TheVariants as condition
use Rattle.mb_instr.specs.Kinds.{flag, bit_bits, bit_kind, shift_bits, shift_kind, line_bits, line_kind, caches_bits, caches_kind, flush_bits, flush_kind}
use Rattle.mb_instr.specs.Kinds.{condition_bits, condition_of}
use Rattle.mb_instr.specs.Operands.{allows}
use Rattle.mb_instr.specs.Shapes.{is_quick}

-- ---- numbers below 2, 4 and 8

pub under_2 : (P : ℕ → Type 0) → P 0 → P 1 → (n : ℕ) → n < 2 → P n
under_2 P a b zero h = a
under_2 P a b (suc zero) h = b
under_2 P a b (suc (suc n)) h = absurd (omega arith)

pub under_4 : (P : ℕ → Type 0) → P 0 → P 1 → P 2 → P 3 → (n : ℕ) → n < 4 → P n
under_4 P a b c d zero h = a
under_4 P a b c d (suc zero) h = b
under_4 P a b c d (suc (suc zero)) h = c
under_4 P a b c d (suc (suc (suc zero))) h = d
under_4 P a b c d (suc (suc (suc (suc n)))) h = absurd (omega arith)

pub under_8 : (P : ℕ → Type 0) → P 0 → P 1 → P 2 → P 3 → P 4 → P 5 → P 6 → P 7 → (n : ℕ) → n < 8 → P n
under_8 P a b c d e f g i zero h = a
under_8 P a b c d e f g i (suc zero) h = b
under_8 P a b c d e f g i (suc (suc zero)) h = c
under_8 P a b c d e f g i (suc (suc (suc zero))) h = d
under_8 P a b c d e f g i (suc (suc (suc (suc zero)))) h = e
under_8 P a b c d e f g i (suc (suc (suc (suc (suc zero))))) h = f
under_8 P a b c d e f g i (suc (suc (suc (suc (suc (suc zero)))))) h = g
under_8 P a b c d e f g i (suc (suc (suc (suc (suc (suc (suc zero))))))) h = i
under_8 P a b c d e f g i (suc (suc (suc (suc (suc (suc (suc (suc n)))))))) h = absurd (omega arith)

-- ---- sizes

pub not_three : (s : Size) → (size_bits s == 3) ≡ false
not_three size.Byte = refl
not_three size.Word = refl
not_three size.Long = refl

pub move_bits_of : (n : ℕ) → n < 4 → 1 ≤ n → move_bits (move_size n) ≡ n
move_bits_of n h = under_4 (λ n. 1 ≤ n → move_bits (move_size n) ≡ n) (λ z. absurd (omega arith)) (λ z. refl) (λ z. refl) (λ z. refl) n h

pub not_byte_of_bit : (n : ℕ) → n < 2 → not_byte (size_of_bit n) ≡ true
not_byte_of_bit n h = under_2 (λ n. not_byte (size_of_bit n) ≡ true) refl refl n h

pub high_size : (n : ℕ) → n < 4 → 2 ≤ n → n ≡ 2 + long_bit (size_of_bit (n % 2))
high_size n h =
    under_4 (λ n. 2 ≤ n → n ≡ 2 + long_bit (size_of_bit (n % 2))) (λ z. absurd (omega arith)) (λ z. absurd (omega arith)) (λ z. refl) (λ z. refl) n h

-- ---- kinds

pub flag_is : (b : Bool) → (flag b == 1) ≡ b
flag_is true = refl
flag_is false = refl

pub flag_of : (n : ℕ) → n < 2 → n ≡ flag (n == 1)
flag_of n h = under_2 (λ n. n ≡ flag (n == 1)) refl refl n h

pub bit_kind_is : (k : BitKind) → bit_kind (bit_bits k) ≡ k
bit_kind_is bit_of.Test = refl
bit_kind_is bit_of.Change = refl
bit_kind_is bit_of.Clear = refl
bit_kind_is bit_of.Set = refl

pub bit_kind_of : (n : ℕ) → n < 4 → n ≡ bit_bits (bit_kind n)
bit_kind_of n h = under_4 (λ n. n ≡ bit_bits (bit_kind n)) refl refl refl refl n h

pub shift_kind_is : (k : ShiftKind) → shift_kind (shift_bits k) ≡ k
shift_kind_is shift.Arithmetic = refl
shift_kind_is shift.Logical = refl
shift_kind_is shift.RotateExtended = refl
shift_kind_is shift.Rotate = refl

pub shift_kind_of : (n : ℕ) → n < 4 → n ≡ shift_bits (shift_kind n)
shift_kind_of n h = under_4 (λ n. n ≡ shift_bits (shift_kind n)) refl refl refl refl n h

pub shift_low : (k : ShiftKind) → nat_lt (shift_bits k) 4 ≡ true
shift_low shift.Arithmetic = refl
shift_low shift.Logical = refl
shift_low shift.RotateExtended = refl
shift_low shift.Rotate = refl

pub line_kind_is : (k : LineMove) → line_kind (line_bits k) ≡ k
line_kind_is line.PostToAbsolute = refl
line_kind_is line.AbsoluteToPost = refl
line_kind_is line.IndirectToAbsolute = refl
line_kind_is line.AbsoluteToIndirect = refl

pub line_kind_of : (n : ℕ) → n < 4 → n ≡ line_bits (line_kind n)
line_kind_of n h = under_4 (λ n. n ≡ line_bits (line_kind n)) refl refl refl refl n h

pub line_low : (k : LineMove) → nat_lt (line_bits k) 4 ≡ true
line_low line.PostToAbsolute = refl
line_low line.AbsoluteToPost = refl
line_low line.IndirectToAbsolute = refl
line_low line.AbsoluteToIndirect = refl

pub caches_kind_is : (k : Caches) → caches_kind (caches_bits k) ≡ k
caches_kind_is caches.Neither = refl
caches_kind_is caches.Data = refl
caches_kind_is caches.Instruction = refl
caches_kind_is caches.Both = refl

pub caches_kind_of : (n : ℕ) → n < 4 → n ≡ caches_bits (caches_kind n)
caches_kind_of n h = under_4 (λ n. n ≡ caches_bits (caches_kind n)) refl refl refl refl n h

pub flush_kind_is : (k : FlushKind) → flush_kind (flush_bits k) ≡ k
flush_kind_is flush.LocalPage = refl
flush_kind_is flush.Page = refl
flush_kind_is flush.AllLocal = refl
flush_kind_is flush.All = refl

pub flush_kind_of : (n : ℕ) → n < 4 → n ≡ flush_bits (flush_kind n)
flush_kind_of n h = under_4 (λ n. n ≡ flush_bits (flush_kind n)) refl refl refl refl n h

pub flush_low : (k : FlushKind) → nat_lt (flush_bits k) 4 ≡ true
flush_low flush.LocalPage = refl
flush_low flush.Page = refl
flush_low flush.AllLocal = refl
flush_low flush.All = refl

-- ---- conditions

pub condition_is : (c : Condition) → condition_of (condition_bits c / 2) (condition_bits c % 2) ≡ c
condition_is condition.True = refl
condition_is condition.False = refl
condition_is condition.High = refl
condition_is condition.LowOrSame = refl
condition_is condition.CarryClear = refl
condition_is condition.CarrySet = refl
condition_is condition.NotEqual = refl
condition_is condition.Equal = refl
condition_is condition.OverflowClear = refl
condition_is condition.OverflowSet = refl
condition_is condition.Plus = refl
condition_is condition.Minus = refl
condition_is condition.GreaterOrEqual = refl
condition_is condition.LessThan = refl
condition_is condition.GreaterThan = refl
condition_is condition.LessOrEqual = refl

-- the two fields that say the condition
abbrev pub IsCondition : ℕ → ℕ → Condition → Type 0
IsCondition upper bit c = (upper ≡ condition_bits c / 2) × (bit ≡ condition_bits c % 2)

abbrev HasCondition : ℕ → ℕ → Type 0
HasCondition bit upper = IsCondition upper bit (condition_of upper bit)

even_fields : (upper : ℕ) → upper < 8 → HasCondition 0 upper
even_fields upper h =
    under_8 (HasCondition 0) (refl, refl) (refl, refl) (refl, refl) (refl, refl) (refl, refl) (refl, refl) (refl, refl) (refl, refl) upper h

odd_fields : (upper : ℕ) → upper < 8 → HasCondition 1 upper
odd_fields upper h =
    under_8 (HasCondition 1) (refl, refl) (refl, refl) (refl, refl) (refl, refl) (refl, refl) (refl, refl) (refl, refl) (refl, refl) upper h

pub condition_fields : (upper bit : ℕ) → upper < 8 → bit < 2 → IsCondition upper bit (condition_of upper bit)
condition_fields upper bit h b = under_2 (λ n. HasCondition n upper) (even_fields upper h) (odd_fields upper h) bit b

-- ---- quick values

pub quick_again : (q : ℕ) → is_quick q ≡ true → cond (q % 8 == 0) 8 (q % 8) ≡ q
quick_again q h = grind (arith, nat_tests)

pub is_quick_of : (n : ℕ) → n < 8 → is_quick (cond (n == 0) 8 n) ≡ true
is_quick_of n h = under_8 (λ n. is_quick (cond (n == 0) 8 n) ≡ true) refl refl refl refl refl refl refl refl n h

pub quick_field : (n : ℕ) → n < 8 → n ≡ cond (n == 0) 8 n % 8
quick_field n h = under_8 (λ n. n ≡ cond (n == 0) 8 n % 8) refl refl refl refl refl refl refl refl n h

-- ---- what a class leaves to other rows

pub not_address : (s : Size) (m r : ℕ) → allows DataAlterable s m r ≡ true → (m == 1) ≡ false
not_address s m r h = grind (arith, nat_tests)

pub not_address_data : (s : Size) (m r : ℕ) → allows Data s m r ≡ true → (m == 1) ≡ false
not_address_data s m r h = grind (arith, nat_tests)

pub not_immediate : (s : Size) (m r : ℕ) → allows DataAlterable s m r ≡ true → ((m == 7) && (r == 4)) ≡ false
not_immediate s m r h = grind (arith, nat_tests)

pub not_immediate_memory : (s : Size) (m r : ℕ) → allows MemoryAlterable s m r ≡ true → ((m == 7) && (r == 4)) ≡ false
not_immediate_memory s m r h = grind (arith, nat_tests)

pub not_trap : (s : Size) (m r : ℕ) → allows DataAlterable s m r ≡ true → ((m == 7) && nat_lt 1 r) ≡ false
not_trap s m r h = grind (arith, nat_tests)

pub not_register : (s : Size) (m r : ℕ) → allows MemoryAlterable s m r ≡ true → nat_lt m 2 ≡ false
not_register s m r h = grind (arith, nat_tests)

pub not_register_control : (s : Size) (m r : ℕ) → allows Control s m r ≡ true → (m == 0) ≡ false
not_register_control s m r h = grind (arith, nat_tests)

pub not_register_store : (s : Size) (m r : ℕ) → allows StoreList s m r ≡ true → (m == 0) ≡ false
not_register_store s m r h = grind (arith, nat_tests)

pub and_false : (a b : Bool) → b ≡ false → (a && b) ≡ false
and_false true b h = h
and_false false b h = refl

pub test_holds : (b : Bool) → (b && true) ≡ true → b ≡ true
test_holds true h = refl
test_holds false h = absurd cc
