-- The registers once those that user mode sees are set.
use Rattle.std.proofs.Common.{◌<◌, ◌≡◌, ◌∙◌, ℕ, ◌/◌, ◌%◌, ◌^◌, ◌==◌, Bool, true, false, cond, take, length, arith, refl, ap, sym}
use Rattle.std.specs.Prelude.{slice_index}
use Rattle.mb_port.specs.declared.types.Space.TheVariants.{User, Super}
use Rattle.mb_instr.specs.declared.registers.Plain.{Plain}
use Rattle.mb_instr.specs.declared.registers.Regs.{Regs}
use Rattle.mb_instr.specs.Registers.{is_supervisor, is_master, plain_of, with_ccr}
use Rattle.mb_instr.proofs.PlainRegisters.{high14, high15, plain_again, plain_over, plain_same, plain_tidy, same_master, same_supervisor, tidy}
use Rattle.mb_instr.proofs.PlainRegisters as plain
use Rattle.mb_model.specs.declared.processor.Cpu.{Cpu}
use Rattle.mb_model.specs.Status.{space_of}
use Rattle.def_processor.specs.SystemEnds.{with_registers}
use Rattle.def_processor.specs.Step.{interrupt_mask}
use Rattle.law_attempts.specs.Attempts.{IsUntraced}
use Rattle.law_turns.specs.Registers.{IsFrom}

-- eight address registers, and five condition codes
abbrev pub IsTidy : Plain → Type 0
IsTidy p = tidy p ≡ p

pub same_registers : (p : Plain) (board guest : Cpu) → plain_of (with_registers p board).regs ≡ plain_of (with_registers p guest).regs
same_registers p board guest = plain_again board.regs p ∙ sym (plain_again guest.regs p)

pub same_user : (p : Plain) (cpu : Cpu) → is_supervisor (with_registers p cpu).regs.sr ≡ is_supervisor cpu.regs.sr
same_user p cpu = same_supervisor cpu.regs.sr p.ccr

pub same_space : (p : Plain) (cpu : Cpu) → space_of (with_registers p cpu) ≡ space_of cpu
same_space p cpu = ap (λ (s : Bool). cond s Super User) (same_user p cpu)

pub same_mask : (p : Plain) (cpu : Cpu) → interrupt_mask (with_registers p cpu) ≡ interrupt_mask cpu
same_mask p cpu = plain.same_mask cpu.regs.sr p.ccr

pub stays_plain : (p : Plain) (cpu : Cpu) → IsUntraced cpu → IsUntraced (with_registers p cpu)
stays_plain p cpu h = record {
  going = h.going;
  all = ap (λ (n : ℕ). n % 2 == 1) (high15 cpu.regs.sr p.ccr) ∙ h.all;
  flow = ap (λ (n : ℕ). n % 2 == 1) (high14 cpu.regs.sr p.ccr) ∙ h.flow;
}

isp_by : (s m : Bool) (r : Regs) (top : ℕ) → s ≡ false → (cond s (cond m (record r { msp = top }) (record r { isp = top })) (record r { usp = top })).isp
    ≡ r.isp
isp_by false m r top h = refl
isp_by true m r top h = absurd (let z : true ≡ false = h in let y : ⊥ = cc in y)

same_upper : (sr ccr : ℕ) → with_ccr sr ccr / 2 ^ 5 ≡ sr / 2 ^ 5
same_upper sr ccr = omega arith

pub is_set : (p : Plain) (cpu : Cpu) → is_supervisor cpu.regs.sr ≡ false → IsFrom cpu (with_registers p cpu)
is_set p cpu user = record {
  isp = isp_by (is_supervisor cpu.regs.sr) (is_master cpu.regs.sr) cpu.regs (slice_index p.a 7) user;
  master = same_master cpu.regs.sr p.ccr;
  vbr = refl;
  user = same_user p cpu ∙ user;
  upper = same_upper cpu.regs.sr p.ccr;
}

-- a word stays one where its condition codes change
pub same_word : (sr before : ℕ) → sr / 2 ^ 5 ≡ before / 2 ^ 5 → before < 2 ^ 16 → sr < 2 ^ 16
same_word sr before e h = omega arith

-- ---- set twice

pub registers_over : (q p : Plain) (cpu : Cpu) → with_registers p (with_registers q cpu) ≡ with_registers p cpu
registers_over q p cpu = ap (λ (r : Regs). (let c : Cpu = record cpu { regs = r } in c)) (plain_over cpu.regs q p)

-- ---- set as they were

-- a processor with the registers that it had before
pub registers_back : (q : Plain) (cpu : Cpu) → length cpu.regs.a ≡ 7 → with_registers (plain_of cpu.regs) (with_registers q cpu) ≡ cpu
registers_back q cpu h =
    registers_over q (plain_of cpu.regs) cpu ∙ ap (λ (r : Regs). (let c : Cpu = record cpu { regs = r } in c)) (plain_same cpu.regs h)

-- ---- what is read back is set the same

pub registers_tidy : (p : Plain) (cpu : Cpu) → length (take 7 p.a) ≡ 7 → with_registers (tidy p) cpu ≡ with_registers p cpu
registers_tidy p cpu h = ap (λ (r : Regs). (let c : Cpu = record cpu { regs = r } in c)) (plain_tidy cpu.regs p h)

-- a processor whose registers were set has seven address registers beside its stacks, where they were as many
pub seven_set : (p : Plain) (cpu : Cpu) → length (with_registers p cpu).regs.a ≡ 7 → length (take 7 p.a) ≡ 7
seven_set p cpu h = h
