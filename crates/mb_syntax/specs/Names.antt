-- What names are read as: registers, size letters, caches.
use Rattle.std.specs.Prelude.{ℕ, ◌==◌, ◌+◌, ◌-◌, Bool, ◌||◌, if◌then◌else◌, List, [], ◌∷◌, Option, Some, None}
use Rattle.std.specs.Prelude.{option_map, codes}
use Rattle.std.specs.Option.{option_or}
use Rattle.mb_instr.specs.Control.{control_named}
use Rattle.mb_instr.specs.declared.kinds.Caches.{Caches}
use Rattle.mb_instr.specs.declared.kinds.Caches.TheVariants as caches
use Rattle.mb_asm_text.specs.Kinds.{is_between}
use Rattle.mb_syntax.specs.declared.register.Register.{Register}
use Rattle.mb_syntax.specs.declared.register.Register.TheVariants.{Data, Address, Pc, NoData, NoAddress, NoPc, Sr}
use Rattle.mb_syntax.specs.declared.register.Register.TheVariants.{Ccr, Control}
use Rattle.mb_syntax.specs.declared.statement.SizeLetter.{SizeLetter}
use Rattle.mb_syntax.specs.declared.statement.SizeLetter.TheVariants as letter
use Rattle.mb_syntax.specs.Tables.{found_in}

-- the registers that have names without a number
abbrev pub named_registers : List (List ℕ × Register)
named_registers =
    (codes "SP", Address 7)
    ∷ (codes "PC", Pc)
    ∷ (codes "ZPC", NoPc)
    ∷ (codes "SR", Sr)
    ∷ (codes "CCR", Ccr)
    ∷ []

-- 0 to 7
abbrev pub register_number : ℕ → Option ℕ
register_number digit = if is_between 48 55 digit then Some (digit - 48) else None

abbrev pub is_letter : ℕ → ℕ → Bool
is_letter upper byte = byte == upper || byte == upper + 32

-- `Dn` and `An`
abbrev pub general : ℕ → ℕ → Option Register
general letter digit =
    if is_letter 68 letter then option_map Data (register_number digit)
    else if is_letter 65 letter then option_map Address (register_number digit)
    else None

-- `ZDn` and `ZAn`
abbrev pub dropped : ℕ → ℕ → Option Register
dropped letter digit =
    if is_letter 68 letter then option_map NoData (register_number digit)
    else if is_letter 65 letter then option_map NoAddress (register_number digit)
    else None

abbrev pub numbered_register : List ℕ → Option Register
numbered_register (letter ∷ digit ∷ []) = general letter digit
numbered_register (first ∷ letter ∷ digit ∷ []) = if is_letter 90 first then dropped letter digit else None
numbered_register _ = None

-- the register that a name says, in either case
abbrev pub register_of : List ℕ → Option Register
register_of name =
    option_or (numbered_register name)
    (option_or (found_in named_registers name) (option_map Control (control_named name)))

abbrev pub size_letters : List (List ℕ × SizeLetter)
size_letters =
    (codes "B", letter.Byte)
    ∷ (codes "S", letter.Short)
    ∷ (codes "W", letter.Word)
    ∷ (codes "L", letter.Long)
    ∷ []

abbrev pub cache_names : List (List ℕ × Caches)
cache_names =
    (codes "NC", caches.Neither)
    ∷ (codes "DC", caches.Data)
    ∷ (codes "IC", caches.Instruction)
    ∷ (codes "BC", caches.Both)
    ∷ []

-- the operations whose first operand is a cache's name
abbrev pub cache_operations : List (List ℕ × Unit {0})
cache_operations =
    (codes "CINVL", tt)
    ∷ (codes "CINVP", tt)
    ∷ (codes "CINVA", tt)
    ∷ (codes "CPUSHL", tt)
    ∷ (codes "CPUSHP", tt)
    ∷ (codes "CPUSHA", tt)
    ∷ []
