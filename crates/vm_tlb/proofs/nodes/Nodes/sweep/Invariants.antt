use Rattle.std.proofs.Common.{length}
use Rattle.law_links.specs.Paths.{walk}
use Rattle.vm_tlb.specs.Links.{links_of, Sound}
use Rattle.vm_tlb.proofs.Flushes.{Sweeping}
use Rattle.vm_tlb.proofs.nodes.Nodes.sweep.Given as goal

abbrev pub invariant-loop-at : goal.invariant-loop-at
invariant-loop-at l = record { sound : Sound l.self; swept : Sweeping l.what (links_of l.fn.self) (links_of l.self) l.at }

abbrev pub decreases-loop-at : goal.decreases-loop-at
decreases-loop-at l = length (walk 256 (links_of l.fn.self).newer 256 l.at)
