-- The test of two outcomes decides whether they are equal.
use Rattle.std.proofs.Common.{◌≡◌, refl}
use Rattle.std.specs.Bool.{Decides}
use Rattle.std.specs.Cmp.{booleans_Decides}
use Rattle.std.proofs.lemmas.Bool.Decides.{Decides-and, Decides-eqb, Decides-like}
use Rattle.std.proofs.lemmas.Slice.Eq.{bytes_eq-Decides}
use Rattle.mb_port.specs.declared.types.Mmu.{Mmu}
use Rattle.mb_instr.specs.declared.registers.Regs.{Regs}
use Rattle.mb_model.specs.declared.processor.Cpu.{Cpu}
use Rattle.mb_model.specs.declared.outcome.RunState.{RunState}
use Rattle.mb_model.specs.declared.outcome.RunState.TheVariants.{Running, Stopped, Halted, Off}
use Rattle.mb_model.specs.Seen.{Seen}
use Rattle.mb_report.specs.Same.{same_cpu, same_mmu, same_registers, same_seen, same_state}

registers_decides : (a b : Regs) → Decides (same_registers a b) (a ≡ b)
registers_decides a b =
    Decides-like _ (λ h. let x : Regs = record { d = a.d; a = a.a; usp = a.usp; isp = a.isp; msp = a.msp; pc = a.pc; sr = a.sr } in let y : Regs =
    record { d = b.d; a = b.a; usp = b.usp; isp = b.isp; msp = b.msp; pc = b.pc; sr = b.sr } in let e : x ≡ y = cc in e) (λ e. rw e (
      (
        (
          (
            (
              (refl, refl),
              refl,
            ),
            refl,
          ),
          refl,
        ),
        refl,
      ),
      refl,
    )) (Decides-and _ _ (Decides-and _ _ (Decides-and _ _ (Decides-and _ _ (Decides-and _ _ (Decides-and _ _
    (bytes_eq-Decides a.d b.d) (bytes_eq-Decides a.a b.a)) (Decides-eqb a.usp b.usp)) (Decides-eqb a.isp b.isp)) (Decides-eqb a.msp b.msp))
    (Decides-eqb a.pc b.pc)) (Decides-eqb a.sr b.sr))

mmu_decides : (a b : Mmu) → Decides (same_mmu a b) (a ≡ b)
mmu_decides a b =
    Decides-like _ (λ h. let x : Mmu = record {
      tc = a.tc;
      itt0 = a.itt0;
      itt1 = a.itt1;
      dtt0 = a.dtt0;
      dtt1 = a.dtt1;
      mmusr = a.mmusr;
      urp = a.urp;
      srp = a.srp;
    } in let y : Mmu = record {
      tc = b.tc;
      itt0 = b.itt0;
      itt1 = b.itt1;
      dtt0 = b.dtt0;
      dtt1 = b.dtt1;
      mmusr = b.mmusr;
      urp = b.urp;
      srp =
          b.srp;
    } in let e : x ≡ y = cc in e) (λ e. rw e (((((((refl, refl), refl), refl), refl), refl), refl), refl)) (Decides-and _ _ (Decides-and _ _
    (Decides-and _ _ (Decides-and _ _ (Decides-and _ _ (Decides-and _ _ (Decides-and _ _ (Decides-eqb a.tc b.tc) (Decides-eqb a.itt0 b.itt0))
    (Decides-eqb a.itt1 b.itt1)) (Decides-eqb a.dtt0 b.dtt0)) (Decides-eqb a.dtt1 b.dtt1)) (Decides-eqb a.mmusr b.mmusr)) (Decides-eqb a.urp b.urp))
    (Decides-eqb a.srp b.srp))

cpu_decides : (a b : Cpu) → Decides (same_cpu a b) (a ≡ b)
cpu_decides a b =
    Decides-like _ (λ h. let x : Cpu = record { regs = a.regs; vbr = a.vbr; sfc = a.sfc; dfc = a.dfc; cacr = a.cacr; stopped = a.stopped } in let y :
    Cpu = record { regs = b.regs; vbr = b.vbr; sfc = b.sfc; dfc = b.dfc; cacr = b.cacr; stopped = b.stopped } in let e : x ≡ y = cc in e) (λ e. rw e
    (((((refl, refl), refl), refl), refl), refl)) (Decides-and _ _ (Decides-and _ _ (Decides-and _ _ (Decides-and _ _ (Decides-and _ _
    (registers_decides a.regs b.regs) (Decides-eqb a.vbr b.vbr)) (Decides-eqb a.sfc b.sfc)) (Decides-eqb a.dfc b.dfc)) (Decides-eqb a.cacr b.cacr))
    (booleans_Decides a.stopped b.stopped))

state_decides : (a b : RunState) → Decides (same_state a b) (a ≡ b)
state_decides Running Running = (λ h. refl, λ e. refl)
state_decides Stopped Stopped = (λ h. refl, λ e. refl)
state_decides Halted Halted = (λ h. refl, λ e. refl)
state_decides Off Off = (λ h. refl, λ e. refl)
state_decides Running Stopped = (λ h. cc, λ e. cc)
state_decides Running Halted = (λ h. cc, λ e. cc)
state_decides Running Off = (λ h. cc, λ e. cc)
state_decides Stopped Running = (λ h. cc, λ e. cc)
state_decides Stopped Halted = (λ h. cc, λ e. cc)
state_decides Stopped Off = (λ h. cc, λ e. cc)
state_decides Halted Running = (λ h. cc, λ e. cc)
state_decides Halted Stopped = (λ h. cc, λ e. cc)
state_decides Halted Off = (λ h. cc, λ e. cc)
state_decides Off Running = (λ h. cc, λ e. cc)
state_decides Off Stopped = (λ h. cc, λ e. cc)
state_decides Off Halted = (λ h. cc, λ e. cc)

pub seen_decides : (a b : Seen) → Decides (same_seen a b) (a ≡ b)
seen_decides a b =
    Decides-like _ (λ h. let x : Seen = record {
      cpu = a.cpu;
      mmu = a.mmu;
      console = a.console;
      lost = a.lost;
      queue = a.queue;
      ctrl = a.ctrl;
      status
          = a.status;
      period = a.period;
      count = a.count;
      pending = a.pending;
      steps = a.steps;
      state = a.state;
      ram = a.ram;
    } in let y : Seen = record {
      cpu = b.cpu;
      mmu = b.mmu;
      console = b.console;
      lost = b.lost;
      queue = b.queue;
      ctrl = b.ctrl;
      status = b.status;
      period = b.period;
      count =
          b.count;
      pending = b.pending;
      steps = b.steps;
      state = b.state;
      ram = b.ram;
    } in let e : x ≡ y = cc in e) (λ e. rw e (
      (
        (
          (
            (
              (
                (
                  (
                    (
                      (
                        (
                          (refl, refl),
                          refl,
                        ),
                        refl,
                      ),
                      refl,
                    ),
                    refl,
                  ),
                  refl,
                ),
                refl,
              ),
              refl,
            ),
            refl,
          ),
          refl,
        ),
        refl,
      ),
      refl,
    )) (Decides-and _ _ (Decides-and _ _ (Decides-and _ _ (Decides-and _ _
    (Decides-and _ _ (Decides-and _ _ (Decides-and _ _ (Decides-and _ _ (Decides-and _ _ (Decides-and _ _ (Decides-and _ _ (Decides-and _ _
    (cpu_decides a.cpu b.cpu) (mmu_decides a.mmu b.mmu)) (bytes_eq-Decides a.console b.console)) (Decides-eqb a.lost b.lost)) (bytes_eq-Decides
    a.queue b.queue)) (Decides-eqb a.ctrl b.ctrl)) (Decides-eqb a.status b.status)) (Decides-eqb a.period b.period)) (Decides-eqb a.count b.count))
    (Decides-eqb a.pending b.pending)) (Decides-eqb a.steps b.steps)) (state_decides a.state b.state)) (bytes_eq-Decides a.ram b.ram))
