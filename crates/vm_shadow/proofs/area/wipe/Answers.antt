use Rattle.std.proofs.Common.{arith, ap, ◌∙◌, ℕ, inl, inr}
use Rattle.std.proofs.lemmas.Bool.{cases_eq}
use Rattle.vm_shadow.specs.Area.{longs}
use Rattle.law_links.specs.Paths.{updated}
use Rattle.vm_shadow.proofs.Longs.{outside_on}
use Rattle.law_links.proofs.Paths.{updated_same, updated_other}
use Rattle.vm_shadow.proofs.area.wipe.Goals as goal

pub loop-index-preserved : goal.loop-index-preserved
loop-index-preserved g c =
    let t = longs (g.R.Ram.bytes c.loop-index.ram) c.args.area in
    record {
      longs = λ at h. ap (λ (f : ℕ → ℕ). f at) c.set_in.ensures.longs ∙ elim (cases_eq at c.loop-index.index) [
        | inl e ↦ ap (updated t c.loop-index.index 0) e ∙ updated_same t c.loop-index.index 0
        | inr n ↦ updated_other t c.loop-index.index 0 at n ∙ c.loop-index.invariant.longs at (omega arith)
      ];
      outside = outside_on c.args.area c.loop-index.invariant.outside c.set_in.ensures.outside;
      rest = c.set_in.ensures.rest ∙ c.loop-index.invariant.rest;
    }
