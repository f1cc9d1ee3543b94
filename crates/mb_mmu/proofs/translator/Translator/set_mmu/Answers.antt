use Rattle.mb_mmu.proofs.SoundTlb.{nothing_sound}
use Rattle.mb_mmu.proofs.translator.Translator.set_mmu.Goals as goal

pub invariant_of-self : goal.invariant_of-self
invariant_of-self c =
    (c.mode_of-self-inside.ensures, c.direct_bytes-self-inside.ensures, λ is. c.forget.ensures.empty, rw c.forget.ensures.empty (nothing_sound _))
