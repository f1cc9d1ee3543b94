-- What computes steps of an image whose instructions move, set registers of the memory management unit and flush.
use Rattle.std.specs.Prelude.{⊤}
use Rattle.mb_walk.specs.Search.{descended, pointed, ended}
use Rattle.mb_devices.specs.Devices.{ticked}
use Rattle.mb_decode.specs.Decodes.{decode_of}
use Rattle.mb_decode.specs.Reading.{reads_then, word_at, long_at, operand_at, ruled_at, ea_at, sized_at}
use Rattle.mb_decode.specs.RowReading.{low_line, high_line, row_at}
use Rattle.mb_alu.specs.Conditions.{conditions_of}
use Rattle.mb_ea.specs.Reading.{read_operand_of}
use Rattle.mb_ea.specs.Resolve.{resolve_of}
use Rattle.mb_writes.specs.Writing.{write_operand_of}
use Rattle.def_instructions.specs.Attempt.{found_of}
use Rattle.def_machine.specs.Access.{translated}
use Rattle.def_machine.specs.Machine.{reset_with, run_of}
use Rattle.law_tidy.specs.Deciding.{is_tidy_run}

-- what such runs unfold: searches and the machine, the words and rows of moves, MOVEC and flushes, and their operands
unfoldable pub runs_on_images : ⊤
unfolding descended pointed ended translated ticked reset_with run_of decode_of reads_then word_at long_at operand_at
    ruled_at ea_at sized_at low_line high_line row_at conditions_of read_operand_of resolve_of write_operand_of
    found_of is_tidy_run
runs_on_images = tt
