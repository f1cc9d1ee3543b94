use Rattle.std.proofs.Common.{◌≡◌, ◌∙◌, sym, true, false}
use Rattle.mb_mmu.specs.State.{Translation}
use Rattle.mb_mmu.proofs.SoundTlb.{nothing_sound, without_class-sound}
use Rattle.mb_mmu.proofs.translator.Translator.fill.Goals as goal

pub invariant_of-self : goal.invariant_of-self
invariant_of-self c =
    let t : Translation = record { mmu = c.self.inside.mmu; kept = c.self.inside.kept; ram = c.self.inside.ram } in (
      c.self.invariant.0,
      c.self.invariant.1,
      λ is. absurd (let e : true ≡ false = sym c.if-self.true ∙ is in let z : ⊥ = cc in z),
      rw (c.fill.ensures, c.drop_class.ensures) (without_class-sound t c.self.inside.recent c.args.code c.args.k c.self.invariant.3),
    )

-- where nothing is remembered nothing is to be dropped
pub invariant_of-self-else-self : goal.invariant_of-self-else-self
invariant_of-self-else-self c =
    (c.self.invariant.0, c.self.invariant.1, c.self.invariant.2, rw (c.self.invariant.2 c.if-self.false) (nothing_sound _))
