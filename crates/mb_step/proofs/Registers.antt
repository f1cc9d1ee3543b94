-- The registers that user mode sees, apart from the processor and put into it.
use Rattle.std.proofs.Common.{◌≡◌, ◌∙◌, ◌<◌, ℕ, ◌/◌, ◌%◌, ◌^◌, ◌==◌, Bool, cond, [], ◌∷◌}
use Rattle.std.proofs.Common.{length, length-append, arith, refl, ap, subst, sym}
use Rattle.std.specs.Prelude.{◌||◌, ◌&&◌}
use Rattle.mb_port.specs.declared.types.Space.TheVariants.{User, Super}
use Rattle.mb_instr.specs.declared.registers.Plain.{Plain}
use Rattle.mb_instr.specs.declared.registers.Regs.{Regs}
use Rattle.mb_instr.specs.Registers.{active_stack, plain_of, with_ccr}
use Rattle.mb_instr.proofs.PlainRegisters.{high14, high15, plain_found, plain_over, plain_same, same_mask, same_supervisor}
use Rattle.mb_model.specs.declared.processor.Cpu.{Cpu}
use Rattle.mb_model.specs.Status.{space_of}
use Rattle.def_processor.specs.Raise.{is_due}
use Rattle.def_processor.specs.SystemEnds.{with_registers}
use Rattle.def_processor.specs.Step.{interrupt_mask}
use Rattle.mb_step.specs.Modes.{KeepsMode}

pub same_space : (p : Plain) (cpu : Cpu) → space_of cpu ≡ space_of (with_registers p cpu)
same_space p cpu = ap (λ (s : Bool). cond s Super User) (sym (same_supervisor cpu.regs.sr p.ccr))

pub mask_same : (p : Plain) (cpu : Cpu) → interrupt_mask cpu ≡ interrupt_mask (with_registers p cpu)
mask_same p cpu = sym (same_mask cpu.regs.sr p.ccr)

pub same_due : (p : Plain) (cpu : Cpu) (flow : Bool) → is_due cpu.regs.sr flow ≡ is_due (with_registers p cpu).regs.sr flow
same_due p cpu flow =
    ap (λ (n : ℕ). (n % 2 == 1) || ((cpu.regs.sr / 2 ^ 14 % 2 == 1) && flow)) (sym (high15 cpu.regs.sr p.ccr))
    ∙ ap (λ (n : ℕ). (with_ccr cpu.regs.sr p.ccr / 2 ^ 15 % 2 == 1) || ((n % 2 == 1) && flow)) (sym (high14 cpu.regs.sr p.ccr))

mode_by : (p q : Plain) (cpu : Cpu) → KeepsMode (with_registers p cpu) (with_registers q cpu)
mode_by p q cpu = record {
  stopped = refl;
  due = λ flow. sym (same_due q cpu flow) ∙ same_due p cpu flow;
  space = sym (same_space q cpu) ∙ same_space p cpu;
}

pub same_mode : (p q : Plain) (cpu before after : Cpu) → with_registers p cpu ≡ before → with_registers q cpu ≡ after → KeepsMode before after
same_mode p q cpu before after k j =
    subst (λ (x : Cpu). KeepsMode x after) k (subst (λ (y : Cpu). KeepsMode (with_registers p cpu) y) j (mode_by p q cpu))

pub same_counter : (p : Plain) (cpu : Cpu) → p.pc ≡ (with_registers p cpu).regs.pc
same_counter p cpu = refl

-- ---- what was put in is read back

pub plain_again : (p : Plain) (cpu : Cpu) → length p.a ≡ 8 → p.ccr < 32 → plain_of (with_registers p cpu).regs ≡ p
plain_again p cpu n less = plain_found cpu.regs p n less

-- ---- registers put in over others

abbrev pub holding : Cpu → Regs → Cpu
holding cpu r = record cpu { regs = r }

pub registers_over : (q p : Plain) (cpu : Cpu) → with_registers p (with_registers q cpu) ≡ with_registers p cpu
registers_over q p cpu = ap (holding cpu) (plain_over cpu.regs q p)

-- ---- what was read is put back

seven_of : (r : Regs) → length (plain_of r).a ≡ 8 → length r.a ≡ 7
seven_of r h = let e = length-append r.a (active_stack r ∷ []) in omega (arith, e, h)

pub registers_same : (p : Plain) (cpu : Cpu) → p ≡ plain_of cpu.regs → length p.a ≡ 8 → with_registers p cpu ≡ cpu
registers_same p cpu e h =
    ap (λ (q : Plain). with_registers q cpu) e
    ∙ ap (holding cpu) (plain_same cpu.regs (seven_of cpu.regs (sym (ap (λ (q : Plain). length q.a) e) ∙ h)))

pub five_bits : (p : Plain) (r : Regs) → p ≡ plain_of r → p.ccr < 32
five_bits p r e = subst (λ (q : Plain). q.ccr < 32) (sym e) (omega arith)
