-- The words that a row is written as.
use Rattle.std.specs.Prelude.{◌≡◌, ℕ, ◌&&◌, List, Option, Some, None, Result, Ok, Err, if◌then◌else◌}
use Rattle.mb_instr.specs.Opcodes.{is_opcode}
use Rattle.mb_instr.specs.Shapes.{Row}
use Rattle.mb_instr.specs.Codes.{words_of}
use Rattle.mb_encode.specs.declared.writing.Unencodable.{Unencodable}

-- what a function returned, seen by view, is what a row is written as
abbrev pub Gives : {X Y : Type 0} → (X → Y) → Result X Unencodable → Option Y → Type 0
Gives view (Ok x) words = words ≡ Some (view x)
Gives view (Err e) words = words ≡ None

-- the words of a row that has the value
abbrev pub written : Row → Option (List ℕ)
written r = if r.legal && is_opcode r.opcode then Some (words_of r) else None
