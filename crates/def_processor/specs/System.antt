-- What only a supervisor does.
use Rattle.std.specs.Prelude.{ℕ, Ok}
use Rattle.mb_port.specs.Routine.{Routine, Return, Then, reset_devices}
use Rattle.mb_instr.specs.declared.instruction.System.{System}
use Rattle.mb_instr.specs.declared.instruction.System.TheVariants as system
use Rattle.mb_alu.specs.declared.bitwise.LogicKind.TheVariants as logic
use Rattle.mb_writes.specs.declared.ends.Ended.{Ended}
use Rattle.mb_writes.specs.declared.ends.Ended.TheVariants as ended
use Rattle.mb_model.specs.declared.processor.Cpu.{Cpu}
use Rattle.def_processor.specs.SystemEnds.{SystemRowed, completed, redirected, system_ended_otherwise, completing}
use Rattle.def_processor.specs.Status.{change_status_of, move_to_status_of, move_from_status_of, stop_of, move_usp_of}
use Rattle.def_processor.specs.Control.{movec_of}
use Rattle.def_processor.specs.Spaces.{moves_of, pflush_of, ptest_of}
use Rattle.def_processor.specs.Return.{Returned, return_from_of}

-- RESET: the devices are reset, and the processor goes on
abbrev pub reset_of : Cpu → Routine Cpu
reset_of cpu = Then reset_devices (λ done. Return cpu)

-- how RTE ended, as a row's routine answers it
abbrev pub gone_by : Ended → Cpu → SystemRowed
gone_by (ended.Done flow) cpu = Ok (record { flow = flow; cpu = cpu })
gone_by end cpu = system_ended_otherwise end cpu

-- RTE. What it tells of the frame that it took is for its finish.
abbrev pub gone_back : Routine Returned → Routine SystemRowed
gone_back m = Then m (λ returned. Return (gone_by returned.ended returned.cpu))

-- What a privileged instruction does in supervisor mode. The words of its operand begin at `word_at`; PC is past it.
-- CINV and CPUSH do nothing more.
abbrev pub perform_system_of : System → ℕ → Cpu → Routine SystemRowed
perform_system_of (system.AndiSr word) word_at cpu = Return (redirected (change_status_of logic.And word cpu))
perform_system_of (system.OriSr word) word_at cpu = Return (redirected (change_status_of logic.Or word cpu))
perform_system_of (system.EoriSr word) word_at cpu = Return (redirected (change_status_of logic.Eor word cpu))
perform_system_of (system.ToSr ea) word_at cpu = move_to_status_of ea word_at cpu
perform_system_of (system.FromSr ea) word_at cpu = move_from_status_of ea word_at cpu
perform_system_of (system.Stop word) word_at cpu = Return (redirected (stop_of word cpu))
perform_system_of (system.MoveUsp from_usp register) word_at cpu =
    Return (completed (move_usp_of from_usp register cpu))
perform_system_of (system.Movec to_control word) word_at cpu = movec_of to_control word cpu
perform_system_of (system.Moves size ea word) word_at cpu = moves_of size ea word word_at cpu
perform_system_of system.Reset word_at cpu = completing (reset_of cpu)
perform_system_of (system.Cinv caches scope register) word_at cpu = Return (completed cpu)
perform_system_of (system.Cpush caches scope register) word_at cpu = Return (completed cpu)
perform_system_of (system.Pflush kind register) word_at cpu = completing (pflush_of kind register cpu)
perform_system_of (system.Ptest is_read register) word_at cpu = completing (ptest_of is_read register cpu)
perform_system_of system.Rte word_at cpu = gone_back (return_from_of cpu)
