-- Addresses: steps, displacements and indices.
use Rattle.std.specs.Prelude.{ℕ, ⊤, ◌+◌, ◌-◌, ◌*◌, ◌%◌, ◌^◌, ◌<◌, ◌&&◌, ◌==◌, if◌then◌else◌}
use Rattle.mb_instr.specs.declared.size.Size.{Size}
use Rattle.mb_instr.specs.declared.size.Size.TheVariants.{Word}
use Rattle.mb_instr.specs.declared.registers.Plain.{Plain}
use Rattle.mb_instr.specs.Sizes.{bytes_of, values_of, sign_extended}
use Rattle.mb_instr.specs.Operands.{is_byte}
use Rattle.mb_instr.specs.Registers.{data_register, address_register}
use Rattle.mb_instr.specs.FurtherWords.{extension_word}
use Rattle.mb_ea.specs.declared.addresses.Target.{Target}
use Rattle.mb_ea.specs.declared.addresses.Target.TheVariants.{Reg, Memory, Value}

-- addresses are modulo 2^32
abbrev pub sum : ℕ → ℕ → ℕ
sum a b = (a + b) % 2 ^ 32

abbrev pub difference : ℕ → ℕ → ℕ
difference a b = (a + (2 ^ 32 - b)) % 2 ^ 32

-- the step of (An)+ and -(An): the operand's bytes, but two for a byte at A7
abbrev pub increment_of : Size → ℕ → ℕ
increment_of size n = if is_byte size && (n == 7) then 2 else bytes_of size

-- the index register of an extension word
abbrev pub index_register : ℕ → Plain → ℕ
index_register w p =
    let e = extension_word w in
    if e.is_address == 1 then address_register p e.register else data_register p e.register

-- the whole register, or its low word with its sign
abbrev pub index_value : ℕ → Plain → ℕ
index_value w p =
    if (extension_word w).is_long == 1 then index_register w p else sign_extended Word (index_register w p)

-- 1, 2, 4 or 8 times
abbrev pub index_of : ℕ → Plain → ℕ
index_of w p = (index_value w p * 2 ^ (extension_word w).scale) % 2 ^ 32

-- a full word's displacement as it counts: of width 2 a word, of width 3 a long; 0 where there is none
abbrev pub displacement_of : ℕ → ℕ → ℕ
displacement_of width v = if width == 2 then sign_extended Word v else v

-- the registers 0 to 7 are the data registers, 8 to 15 the address registers; a value fits the size
abbrev pub IsTarget : Size → Target → Type 0
IsTarget size (Reg n) = n < 16
IsTarget size (Memory at) = Unit {0}
IsTarget size (Value v) = v < values_of size

-- a target that a value can go to
abbrev pub IsPlace : Target → Type 0
IsPlace (Value v) = ⊥
IsPlace _ = ⊤

-- a target in memory
abbrev pub IsMemory : Target → Type 0
IsMemory (Memory at) = ⊤
IsMemory _ = ⊥
