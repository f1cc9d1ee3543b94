use Rattle.std.proofs.Common.{◌≡◌, ◌/◌, ◌<◌, ◌^◌, ◌∙◌, ap, sym, subst, arith}
use Rattle.mb_model.specs.Pages.{page_of}
use Rattle.mb_model.specs.declared.pages.TheConstants.{PAGE_SIZE}
use Rattle.def_machine.specs.declared.reference.Settled.TheVariants.{To}
use Rattle.mb_mmu.specs.State.{Translation, settled_by}
use Rattle.mb_mmu.specs.MicroTlb.{entry_to}
use Rattle.mb_mmu.proofs.ByPage.{page_true}
use Rattle.mb_mmu.proofs.SoundTlb.{with_entry-sound}
use Rattle.mb_mmu.proofs.translator.Translator.remember_page.Goals as goal

pub invariant_of-self : goal.invariant_of-self
invariant_of-self c =
    let t : Translation = record { mmu = c.self.inside.mmu; kept = c.self.inside.kept; ram = c.self.inside.ram } in
    let leads : settled_by t c.args.r ≡ To c.args.place =
    ap (λ (x : Translation). settled_by x c.args.r) c.self.view_is ∙ c.requires.leads in
    let inside : page_of c.args.place < t.ram / PAGE_SIZE =
    subst (λ (x : Translation). page_of c.args.place < x.ram / PAGE_SIZE) (sym c.self.view_is) c.requires.inside in
    let there : c.args.place < 2 ^ 32 = omega arith in
    let here : c.args.r.at < 2 ^ 32 = omega arith in
    let true_of = page_true t c.args.r c.args.place there here leads inside in
    let entry = entry_to c.args.r.at c.args.place in (
      c.self.invariant.0,
      c.self.invariant.1,
      λ is. absurd (let z : ⊥ = cc in z),
      rw c.set.ensures (with_entry-sound t c.self.inside.recent c.args.r entry c.self.invariant.3 c.requires.access true_of),
    )
