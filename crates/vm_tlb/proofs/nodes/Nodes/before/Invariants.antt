use Rattle.std.proofs.Common.{◌+◌, length}
use Rattle.vm_tlb.specs.Chains.{chain}
use Rattle.law_links.specs.Paths.{walk}
use Rattle.vm_tlb.specs.Links.{links_of, number_of, order}
use Rattle.vm_tlb.proofs.Walks.{Toward}
use Rattle.vm_tlb.proofs.nodes.Nodes.before.Given as goal

abbrev pub invariant-loop-next : goal.invariant-loop-next
invariant-loop-next l =
    Toward (links_of l.self).next l.at (256 + number_of (links_of l.self).kept l.at)
    (chain (number_of (links_of l.self).kept) (number_of (links_of l.self).kept l.at) (order (links_of l.self))) l.before l.next

abbrev pub decreases-loop-next : goal.decreases-loop-next
decreases-loop-next l = length (walk 256 (links_of l.self).next 256 l.next)
