use Rattle.std.proofs.Common.{◌≡◌, vec_len}
use Rattle.vm_tlb.specs.Links.{IsFreeBelow}
use Rattle.vm_tlb.proofs.nodes.free_nodes.Given as goal

abbrev pub invariant-loop-at : goal.invariant-loop-at
invariant-loop-at l = record { count : vec_len l.nodes ≡ 256; chain : IsFreeBelow l.at l.nodes.items }
