use Rattle.std.proofs.Common.{◌∙◌, ap, sym}
use Rattle.mb_port.specs.Routine.{run}
use Rattle.mb_instr.specs.declared.registers.Plain.{Plain}
use Rattle.mb_instr.specs.declared.registers.Regs.{Regs}
use Rattle.mb_instr.specs.Registers.{with_plain}
use Rattle.mb_model.specs.declared.processor.Cpu.{Cpu}
use Rattle.def_processor.specs.Raise.{by_its_end, cause_at}
use Rattle.def_runs.specs.Finishes.{finish_trap_of}
use Rattle.vm_guest.specs.declared.rest.Rest.{Rest}
use Rattle.vm_guest.specs.Rests.{rest_in}
use Rattle.vm_guest.proofs.rest.Rest.carry_out.Goals as goal

pub returns-in-Trap-clause-means : goal.returns-in-Trap-clause-means
returns-in-Trap-clause-means g c =
    let cpu = c.args.cpu.now in
    let w = g.P.Port.world c.args.port.now in
    let holding : Regs → Cpu = λ r. record cpu { regs = r } in
    let of = λ (p : Plain) (r : Regs). by_its_end (run g.P.Port.bus
    (finish_trap_of (cause_at c.in-Trap.vector c.in-Trap.after.pc p.pc) p (holding r)) w) in
    ap (λ (s : Rest). by_its_end (run g.P.Port.bus (rest_in s c.args.level cpu) w)) c.in-Trap.is
    ∙ ap (λ (p : Plain). of p (with_plain cpu.regs c.in-Trap.after)) (sym c.plain-before.ensures)
    ∙ ap (λ (r : Regs). of c.plain-before.result r) (sym c.set_plain.ensures)
    ∙ c.finish_trap.ensures.means
