-- The table of control registers, as the code has it.
use Rattle.mb_instr.specs.Control as table
use Rattle.mb_instr.specs.declared.control.ControlRow.{ControlRow}

abbrev pub row_said : ControlRow → table.ControlRow
row_said r = record { code = r.code; name = r.name.now; kept = r.kept }
