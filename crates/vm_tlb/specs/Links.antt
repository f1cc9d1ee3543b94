-- Kept entries as nodes that are linked by number.
use Rattle.std.specs.Prelude.{◌≡◌, ℕ, ◌+◌, ◌-◌, ◌/◌, ◌%◌, ◌<◌, ◌==◌, false, nat_lt, if◌then◌else◌}
use Rattle.std.specs.Prelude.{List, ◌∷◌, ◌++◌, map, slice_index_or, vec_len}
use Rattle.mb_port.specs.declared.types.Space.{Space}
use Rattle.mb_port.specs.declared.types.Space.TheVariants.{User, Super}
use Rattle.mb_model.specs.declared.kept.Kept.{Kept}
use Rattle.vm_tlb.specs.declared.nodes.TheConstants.{CHAINS, END, FREE, NODES}
use Rattle.vm_tlb.specs.Chains.{Linked}
use Rattle.law_links.specs.Paths.{walk}
use Rattle.vm_tlb.specs.declared.nodes.Node.{Node}
use Rattle.vm_tlb.specs.declared.nodes.Nodes.{Nodes}

-- The links and the entries, as functions of numbers.
pub record Links : Type 0 where
  pub newer : ℕ → ℕ
  pub older : ℕ → ℕ
  pub next : ℕ → ℕ
  pub kept : ℕ → Kept

-- what stands for a node that there is not
abbrev pub no_node : Node
no_node = record {
  kept = record { space = User; page = 0; frame = 0; w = false; s = false; g = false; m = false };
  older = END;
  newer = END;
  next = END;
}

abbrev pub node : Nodes → ℕ → Node
node t at = slice_index_or t.nodes.items at no_node

-- The links of the nodes and of the roots.
abbrev pub links_of : Nodes → Links
links_of t = record {
  newer = λ at. if at == END then t.oldest else (node t at).newer;
  older = λ at. if at == END then t.newest else (node t at).older;
  next = λ at. if nat_lt at NODES then (node t at).next else slice_index_or t.heads.items (at - NODES) END;
  kept = λ at. (node t at).kept;
}

-- the chain of a page of a space
abbrev pub chain_of : Space → ℕ → ℕ
chain_of User page = page % CHAINS
chain_of Super page = (page + CHAINS / 2) % CHAINS

-- the chain of a node's entry
abbrev pub number_of : (ℕ → Kept) → ℕ → ℕ
number_of kept at = chain_of (kept at).space (kept at).page

-- the nodes with entries, from the oldest on by "newer"
abbrev pub order : Links → List ℕ
order l = walk NODES l.newer NODES (l.newer END)

-- a node has an entry
abbrev pub IsLive : Links → ℕ → Type 0
IsLive l at = (xs : List ℕ) × (ys : List ℕ) × (order l ≡ xs ++ at ∷ ys)

-- the entries, the oldest first
abbrev pub entries : Links → List Kept
entries l = map l.kept (order l)

-- the free nodes
abbrev pub vacant : Links → List ℕ
vacant l = walk NODES l.next NODES (l.next FREE)

-- each of the first nodes is before the next in the chain of free ones
abbrev pub IsFreeBelow : ℕ → List Node → Type 0
IsFreeBelow n nodes = (at : ℕ) → at < n → (slice_index_or nodes at no_node).next ≡ at + 1

-- There are all nodes, and a root of each chain and of the free nodes.
abbrev pub Sized : Nodes → Type 0
Sized t = (vec_len t.nodes ≡ NODES) × (vec_len t.heads ≡ CHAINS + 1)

-- The nodes on the way by "newer" have the entries, and those from the root of the free ones have none.
abbrev pub IsLinked : Links → Type 0
IsLinked l = Linked l.newer l.older l.next (number_of l.kept) (order l) (vacant l)

abbrev pub Sound : Nodes → Type 0
Sound t = Sized t × IsLinked (links_of t)
