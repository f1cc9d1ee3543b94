-- A node, and what the links say of it.
use Rattle.std.proofs.Common.{◌≡◌, ℕ, ◌<◌, ◌==◌, true, false, get_or, ap, sym, arith}
use Rattle.std.specs.Prelude.{nat_lt}
use Rattle.std.proofs.lemmas.List.{get_or_read}
use Rattle.std.proofs.lemmas.Bool.Decides.{nat_tests}
use Rattle.vm_tlb.specs.declared.nodes.Node.{Node}
use Rattle.vm_tlb.specs.declared.nodes.Nodes.{Nodes}
use Rattle.vm_tlb.specs.Links.{links_of, node, no_node, Sized}

pub record Reads (t : Nodes) (at : ℕ) (n : Node) : Type 0 where
  pub newer : (links_of t).newer at ≡ n.newer
  pub older : (links_of t).older at ≡ n.older
  pub next : (links_of t).next at ≡ n.next
  pub kept : (links_of t).kept at ≡ n.kept

pub node_read : (t : Nodes) (at : ℕ) (n : Node) → Sized t → at < 256 → n ≡ get_or t.nodes.items at n → Reads t at n
node_read t at n sized h read =
    let is : n ≡ node t at = get_or_read t.nodes.items at n (omega (arith, sized.0, h)) read no_node in
    let a : (at == 256) ≡ false = grind (arith, nat_tests) in
    let b : nat_lt at 256 ≡ true = grind (arith, nat_tests) in
    record {
      newer = rw a (ap (λ (m : Node). m.newer) (sym is));
      older = rw a (ap (λ (m : Node). m.older) (sym is));
      next = rw b (ap (λ (m : Node). m.next) (sym is));
      kept = ap (λ (m : Node). m.kept) (sym is);
    }
