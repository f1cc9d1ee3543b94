use Rattle.std.proofs.Common.{refl}
use Rattle.mb_mmu.proofs.SoundTlb.{nothing_sound}
use Rattle.mb_mmu.proofs.translator.Translator.new.Goals as goal

pub invariant_of-result : goal.invariant_of-result
invariant_of-result c = (refl, refl, λ is. c.new-recent.ensures, rw c.new-recent.ensures (nothing_sound _))
