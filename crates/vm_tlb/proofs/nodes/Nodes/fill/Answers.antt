use Rattle.std.proofs.Common.{◌∙◌, List, [], ◌∷◌, ◌++◌, ap, map}
use Rattle.mb_model.specs.declared.kept.Kept.{Kept}
use Rattle.vm_tlb.specs.Links.{links_of}
use Rattle.vm_tlb.proofs.Fills.{room, entries_put}
use Rattle.vm_tlb.proofs.nodes.Nodes.fill.Goals as goal

pub push-requires-clause-room : goal.push-requires-clause-room
push-requires-clause-room c = room (links_of c.make_room-gone.new.self) c.make_room-gone.ensures.sound.1 c.make_room-gone.ensures.few

pub returns-clause-entries : goal.returns-clause-entries
returns-clause-entries c =
    let l = links_of c.make_room-gone.new.self in
    let r = room l c.make_room-gone.ensures.sound.1 c.make_room-gone.ensures.few in
    (λ i. map (c.push.ensures.kept r.0 r.1 r.2 i) (c.push.ensures.order r.0 r.1 r.2 i))
    ∙ entries_put l c.make_room-gone.ensures.sound.1 r.0 r.1 c.args.kept r.2
    ∙ ap (λ (ks : List Kept). ks ++ c.args.kept ∷ []) c.make_room-gone.ensures.entries
