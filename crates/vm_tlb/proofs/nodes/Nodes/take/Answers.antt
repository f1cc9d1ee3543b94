use Rattle.std.proofs.Common.{sym, arith}
use Rattle.vm_tlb.specs.Links.{links_of}
use Rattle.vm_tlb.proofs.Moves.{live_inside}
use Rattle.vm_tlb.proofs.NodeReads.{node_read}
use Rattle.vm_tlb.proofs.nodes.Nodes.take.Goals as goal

pub index-requires : goal.index-requires
index-requires c =
    let low = live_inside (links_of c.args.self.now) c.args.at c.requires.live.0 c.requires.live.1 c.requires.live.2 c.requires.sound.1 in
    omega (arith, low, c.requires.sound.0.0)

pub returns-clause-gone : goal.returns-clause-gone
returns-clause-gone c =
    let low = live_inside (links_of c.args.self.now) c.args.at c.requires.live.0 c.requires.live.1 c.requires.live.2 c.requires.sound.1 in
    sym (node_read c.args.self.now c.args.at c.index.result.now c.requires.sound.0 low c.index.ensures).kept
