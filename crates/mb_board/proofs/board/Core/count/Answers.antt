use Rattle.std.proofs.Common.{◌∙◌, ap, sym, inl, inr}
use Rattle.mb_instr.specs.declared.registers.Plain.{Plain}
use Rattle.mb_instr.specs.Registers.{plain_of}
use Rattle.def_machine.specs.Machine.{Machine}
use Rattle.def_processor.specs.declared.Finish.{Finish}
use Rattle.def_runs.specs.Native.{with_retired, with_step}
use Rattle.mb_board.proofs.board.Core.count.Goals as goal

pub returns-in-Went : goal.returns-in-Went
returns-in-Went c =
    let retired = c.retire.ensures c.args.before.now c.plain.result.now c.requires.spelled c.spelling.ensures in
    let after = c.plain.ensures ∙ ap (λ (m : Machine). plain_of m.cpu.regs) c.self.view_is in
    let so_far = retired ∙ ap (λ (q : Plain). with_retired c.args.before.now q c.args.native.now) after in
    elim c.in-Went.is [
      | inl went ↦ so_far ∙ sym (ap (λ (f : Finish). with_step f c.args.before.now c.args.self.now c.args.native.now) went)
      | inr idle ↦ so_far ∙ sym (ap (λ (f : Finish). with_step f c.args.before.now c.args.self.now c.args.native.now) idle)
    ]
