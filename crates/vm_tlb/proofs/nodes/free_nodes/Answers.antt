use Rattle.std.proofs.Common.{◌+◌, arith, refl}
use Rattle.vm_tlb.proofs.Starts.{free_more}
use Rattle.vm_tlb.proofs.nodes.free_nodes.Goals as goal

pub loop-at-preserved : goal.loop-at-preserved
loop-at-preserved c = record {
  count = c.loop-at.invariant.count;
  chain = free_more c.loop-at.nodes.items c.loop-at.at (record c.index_mut.result.now { next = c.loop-at.at + 1 })
      (omega (arith, c.loop-at.invariant.count, c.loop-at-test.true)) refl c.loop-at.invariant.chain;
}
