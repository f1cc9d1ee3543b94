use Rattle.std.proofs.Common.{ℕ, List, [], ◌∷◌, subst}
use Rattle.mb_walk.specs.Memory.{AreBytes}
use Rattle.vm_snapshot.specs.Shown.{AreLongs}
use Rattle.vm_snapshot.proofs.widths.outcome_widths.Goals as goal

pub returns : goal.returns
returns c =
    let cpu = c.args.o.now.cpu.now in
    let control : AreLongs (cpu.regs.usp ∷ cpu.regs.isp ∷ cpu.regs.msp ∷ cpu.regs.pc ∷ c.from.result ∷ cpu.vbr ∷ c.from-2.result ∷ c.from-3.result
    ∷ cpu.cacr ∷ []) = c.longs.ensures in
    record {
      data_count = c.eight_longs.ensures.count;
      address_count = c.seven_longs.ensures.count;
      data_registers = c.eight_longs.ensures.longs;
      address_registers = c.seven_longs.ensures.longs;
      control_registers = rw (c.from.ensures, c.from-2.ensures, c.from-3.ensures) at control;
      translation_registers = c.longs-2.ensures;
      steps = c.long.ensures;
      lost = c.count.ensures;
      period = c.long-2.ensures;
      console = c.bytes.ensures;
      queue = subst (λ (l : List ℕ). AreBytes l) c.as_slice.ensures.value c.bytes-2.ensures;
      ram = c.bytes-3.ensures;
    }
