use Rattle.std.proofs.Common.{◌≡◌, ◌∙◌, ◌<◌, List, length, ap, sym, arith}
use Rattle.std.specs.Prelude.{slice_get, Some, None}
use Rattle.std.proofs.lemmas.Option.{slice_get_within}
use Rattle.mb_model.specs.declared.kept.Kept.{Kept}
use Rattle.mb_model.specs.Keeping.{list_of}
use Rattle.def_machine.specs.World.{World}
use Rattle.vm_port.specs.Parts.{tables_of}
use Rattle.vm_port.proofs.Covered.{next_dropped, all_dropped}
use Rattle.vm_port.proofs.port.GuestPort.leave_all.Goals as goal

pub loop-k-preserved : goal.loop-k-preserved
loop-k-preserved g c =
    let ks = c.args.self.now.tlb.now in
    let place = c.loop-k.place in
    let i = c.loop-k.invariant in
    let e = c.leave_covered.ensures in
    let got : slice_get ks place ≡ Some c.in-Some.k = ap (λ (list : List Kept). slice_get list place) (sym i.kept) ∙ sym c.in-Some.ensures.entry in
    let within : place < length ks = slice_get_within ks place c.in-Some.k got in
    record {
      kept = ap (λ (w : World). list_of 0 w.kept) e.world ∙ i.kept;
      shadow =
          next_dropped c.args.what ks place c.in-Some.k (tables_of c.loop-k.self) (tables_of c.leave_covered.new.self) got e.shadow
          ∙ i.shadow;
      world = e.world ∙ i.world;
      beyond = e.beyond ∙ i.beyond;
      low = omega (arith, within);
    }

pub returns-clause-shadow : goal.returns-clause-shadow
returns-clause-shadow g c =
    let ks = c.args.self.now.tlb.now in
    let place = c.loop-k.place in
    let i = c.loop-k.invariant in
    let none : slice_get ks place ≡ None = ap (λ (list : List Kept). slice_get list place) (sym i.kept) ∙ sym c.in_default.ensures.entry in
    sym (all_dropped c.args.what ks place (tables_of c.loop-k.self) none) ∙ i.shadow
