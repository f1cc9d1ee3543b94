use Rattle.std.proofs.Common.{refl}
use Rattle.mb_mmu.proofs.SoundTlb.{nothing_sound}
use Rattle.mb_mmu.proofs.translator.Translator.reset.Goals as goal

pub invariant_of-self : goal.invariant_of-self
invariant_of-self c = (refl, refl, λ is. c.forget.ensures.empty, rw c.forget.ensures.empty (nothing_sound _))
