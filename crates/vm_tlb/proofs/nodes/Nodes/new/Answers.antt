use Rattle.std.proofs.Common.{refl}
use Rattle.vm_tlb.proofs.Starts.{all_free}
use Rattle.vm_tlb.proofs.nodes.Nodes.new.Goals as goal

pub returns-clause-sound : goal.returns-clause-sound
returns-clause-sound c =
    let nodes = c.in_ok-free_nodes.ensures in
    let heads = c.in_ok-empty_heads.ensures in
    (all_free (record { nodes = c.in_ok-free_nodes.field-0; heads = c.in_ok-empty_heads.field-0; oldest = 256; newest = 256 }) (nodes.count, heads.count)
    nodes.chain heads.chains heads.free refl refl).0

pub returns-clause-entries : goal.returns-clause-entries
returns-clause-entries c =
    let nodes = c.in_ok-free_nodes.ensures in
    let heads = c.in_ok-empty_heads.ensures in
    (all_free (record { nodes = c.in_ok-free_nodes.field-0; heads = c.in_ok-empty_heads.field-0; oldest = 256; newest = 256 }) (nodes.count, heads.count)
    nodes.chain heads.chains heads.free refl refl).1
