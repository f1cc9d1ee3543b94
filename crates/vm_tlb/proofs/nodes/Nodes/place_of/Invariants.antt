use Rattle.mb_model.specs.Keeping.{is_of}
use Rattle.std.proofs.Common.{length}
use Rattle.vm_tlb.specs.Chains.{chain}
use Rattle.law_links.specs.Paths.{walk}
use Rattle.vm_tlb.specs.Links.{links_of, chain_of, number_of, order}
use Rattle.vm_tlb.proofs.Walks.{Along}
use Rattle.vm_tlb.proofs.nodes.Nodes.place_of.Given as goal

abbrev pub invariant-loop-at : goal.invariant-loop-at
invariant-loop-at l =
    Along (links_of l.self).next (λ at. is_of l.space l.page ((links_of l.self).kept at))
    (chain (number_of (links_of l.self).kept) (chain_of l.space l.page) (order (links_of l.self))) l.at

abbrev pub decreases-loop-at : goal.decreases-loop-at
decreases-loop-at l = length (walk 256 (links_of l.self).next 256 l.at)
