use Rattle.std.proofs.Common.{◌≡◌, [], ◌<◌, ◌+◌, ◌==◌, ℕ, false, ap, sym, refl, arith, length}
use Rattle.std.proofs.lemmas.Bool.Decides.{nat_tests}
use Rattle.vm_shadow.specs.Links.{links_of, node}
use Rattle.vm_shadow.specs.declared.nodes.Nodes.{Nodes}
use Rattle.vm_shadow.proofs.Moves.{Left, empty_left}
use Rattle.vm_shadow.proofs.nodes.Nodes.reset.Goals as goal

empty : (t : Nodes) → t.oldest ≡ 126 → t.newest ≡ 126 → t.free ≡ 0 → ((k : ℕ) → k < 126 → (node t k).newer ≡ k + 1) → Left (links_of t) []
empty t a b c d = empty_left (links_of t) a b c (λ k h.
    let e : (k == 126) ≡ false = grind (arith, nat_tests) in
    let f : (k == 127) ≡ false = grind (arith, nat_tests) in
    rw (e, f) (d k h))

whole : (c : goal.After-self-5-1) → Left (links_of record { nodes = c.loop-at.self.nodes; oldest = 126; newest = 126; free = 0; used = 0 }) []
whole c = empty (record { nodes = c.loop-at.self.nodes; oldest = 126; newest = 126; free = 0; used = 0 }) refl refl refl
    (λ k h. c.loop-at.invariant.newer k (omega (arith, h, c.loop-at-test.false)))

pub returns-clause-order : goal.returns-clause-order
returns-clause-order c = (whole c).order

pub returns-clause-sound : goal.returns-clause-sound
returns-clause-sound c =
    let w = whole c in
    record { sized = c.loop-at.invariant.sized; linked = w.linked; many = sym (ap length w.order) }
