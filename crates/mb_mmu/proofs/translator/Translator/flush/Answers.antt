use Rattle.mb_mmu.proofs.SoundTlb.{nothing_sound}
use Rattle.mb_mmu.proofs.translator.Translator.flush.Goals as goal

pub invariant_of-self : goal.invariant_of-self
invariant_of-self c = (c.self.invariant.0, c.self.invariant.1, λ is. c.forget.ensures.empty, rw c.forget.ensures.empty (nothing_sound _))
