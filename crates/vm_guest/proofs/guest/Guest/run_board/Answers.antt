use Rattle.std.proofs.Common.{◌≡◌, ◌∙◌, length, ap, subst}
use Rattle.mb_instr.specs.Registers.{is_supervisor}
use Rattle.mb_model.specs.declared.processor.Cpu.{Cpu}
use Rattle.mb_board.specs.State.{BoardState, ran_to, run_from}
use Rattle.def_runs.specs.Native.{EndsBy}
use Rattle.law_turns.proofs.Registers.{same_user}
use Rattle.vm_guest.specs.Native.{native_cpu}
use Rattle.vm_guest.proofs.guest.Guest.run_board.Goals as goal

pub run-end-requires-clause-user : goal.run-end-requires-clause-user
run-end-requires-clause-user c =
    ap (λ (b : BoardState). is_supervisor b.cpu.regs.sr) c.set_registers.ensures ∙ same_user c.plain.result native_cpu

pub returns-clause-wide : goal.returns-clause-wide
returns-clause-wide c = subst (λ (p : Cpu). length p.regs.a ≡ 7) c.cpu.ensures c.seven.ensures

pub returns-clause-goes : goal.returns-clause-goes
returns-clause-goes c = λ counted.
    (subst (EndsBy c.args.steps (run_from c.set_registers.new.board c.args.native.now) (ran_to c.run-end.result c.run-end.new.self c.run-end.new.native))
    counted c.run-end.ensures.cause).going
