-- The slots of an area as nodes.
use Rattle.std.specs.Prelude.{◌≡◌, ℕ, ◌==◌, if◌then◌else◌, List, map, slice_index_or, length, vec_len}
use Rattle.mb_port.specs.declared.types.Space.TheVariants.{User}
use Rattle.vm_shadow.specs.declared.table.Table.{Table}
use Rattle.vm_shadow.specs.declared.table.Table.TheVariants.{Pointers}
use Rattle.vm_shadow.specs.declared.nodes.Node.{Node}
use Rattle.vm_shadow.specs.declared.nodes.Nodes.{Nodes}
use Rattle.vm_shadow.specs.Chains.{Linked}
use Rattle.law_links.specs.Paths.{walk}
use Rattle.vm_shadow.specs.declared.nodes.TheConstants.{SLOTS, FREE}

-- The links, the tables and the counts, as functions of numbers.
pub record Links : Type 0 where
  pub newer : ℕ → ℕ
  pub older : ℕ → ℕ
  pub table : ℕ → Table
  pub count : ℕ → ℕ
  pub used : ℕ

abbrev pub no_node : Node
no_node = record { table = Pointers User 0; count = 0; older = SLOTS; newer = SLOTS }

abbrev pub node : Nodes → ℕ → Node
node t at = slice_index_or t.nodes.items at no_node

abbrev pub links_of : Nodes → Links
links_of t = record {
  newer = λ at. if at == SLOTS then t.oldest else if at == FREE then t.free else (node t at).newer;
  older = λ at. if at == SLOTS then t.newest else (node t at).older;
  table = λ at. (node t at).table;
  count = λ at. (node t at).count;
  used = t.used;
}

-- the slots in use, from that of the oldest table on
abbrev pub order : Links → List ℕ
order l = walk SLOTS l.newer SLOTS (l.newer SLOTS)

-- the free slots
abbrev pub vacant : Links → List ℕ
vacant l = walk SLOTS l.newer SLOTS (l.newer FREE)

-- the tables in use
abbrev pub tables : Links → List Table
tables l = map l.table (order l)

-- the counts of all slots
abbrev pub counts : Nodes → List ℕ
counts t = map (λ n. n.count) t.nodes.items

abbrev pub Sized : Nodes → Type 0
Sized t = vec_len t.nodes ≡ SLOTS

pub record Sound (t : Nodes) : Type 0 where
  pub sized : Sized t
  pub linked : Linked (links_of t).newer (links_of t).older (order (links_of t)) (vacant (links_of t))
  pub many : (links_of t).used ≡ length (order (links_of t))
