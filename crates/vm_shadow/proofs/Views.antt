-- What a shadow's contracts see of its links, when a slot is taken, freed or counted.
use Rattle.std.proofs.Common.{◌≡◌, ◌∙◌, ℕ, zero, suc, ◌≤◌, ◌<◌, not, List, [], ◌∷◌, ◌++◌, length, map, filter, get_or}
use Rattle.std.proofs.Common.{ap, sym, subst, refl, arith}
use Rattle.std.proofs.Math.Path.{fun_ext}
use Rattle.vm_shadow.specs.declared.table.Table.{Table}
use Rattle.vm_shadow.specs.declared.nodes.Node.{Node}
use Rattle.vm_shadow.specs.declared.nodes.Nodes.{Nodes}
use Rattle.vm_shadow.specs.Slots.{Slots, placed, same_table, number_of, Has, Once}
use Rattle.vm_shadow.specs.Area.{Pushed, Removed}
use Rattle.law_links.specs.Paths.{updated, times}
use Rattle.vm_shadow.specs.Links.{Links, links_of, order, tables, counts, no_node}
use Rattle.law_links.proofs.Paths.{updated_same, updated_other}
use Rattle.vm_shadow.proofs.Kept.{gone_had}
use Rattle.vm_shadow.proofs.Slotted.{at_first, slot_read, split, table_at, listed_at, map_joined, joined_old, joined_new, map_left, left_slot}

abbrev pub view : ℕ → Links → List ℕ → Slots
view area l counts = record { area = area; tables = tables l; places = order l; counts = counts }

-- the counts, as the links have them
read_count : (nodes : List Node) (n : ℕ) → get_or (map (λ (m : Node). m.count) nodes) n 0 ≡ (get_or nodes n no_node).count
read_count [] n = refl
read_count (m ∷ nodes) zero = refl
read_count (m ∷ nodes) (suc n) = read_count nodes n

pub counts_are : (t : Nodes) → (λ (n : ℕ). get_or (counts t) n 0) ≡ (links_of t).count
counts_are t = fun_ext (λ n. read_count t.nodes.items n)

-- a long is counted
pub counted_view : (area : ℕ) (l l' : Links) (before after : List ℕ) (count : ℕ → ℕ) → l' ≡ record l { count = count }
    → view area l' after ≡ record (view area l before) { counts = after }
counted_view area l l' before after count e = ap (λ (m : Links). view area m after) e

length_map : (f : ℕ → Table) (xs : List ℕ) → length (map f xs) ≡ length xs
length_map f [] = refl
length_map f (x ∷ xs) = let e = length_map f xs in omega (arith, e)

pub how_many : (l : Links) → length (tables l) ≡ length (order l)
how_many l = length_map l.table (order l)

-- no slot is in use
pub empty_view : (l : Links) → order l ≡ [] → tables l ≡ []
empty_view l e = ap (map l.table) e

slot_is : (area : ℕ) (l : Links) (counts : List ℕ) (a : Table) → (placed (view area l counts)).slot a ≡ at_first l.table a (order l)
slot_is area l counts a = slot_read l.table a (order l)

-- a slot is taken
module _ (area : ℕ) (l l' : Links) (before after : List ℕ) (n : ℕ) (y : Table) (joins : order l' ≡ order l ++ n ∷ []) (is : l'.table ≡ updated l.table n y)
    (count : (placed (view area l' after)).count ≡ (placed (view area l before)).count) (free : times n (order l) ≡ 0)
    (new : length (tables l) ≤ number_of y (tables l)) where
  same : (k : ℕ) → 0 < times k (order l) → updated l.table n y k ≡ l.table k
  same k h = updated_other l.table n y k (λ e. absurd (omega (arith, subst (λ (m : ℕ). 0 < times m (order l)) e h, free)))

  slots_are : (a : Table) → (placed (view area l' after)).slot a ≡ at_first (updated l.table n y) a (order l ++ n ∷ [])
  slots_are a =
      slot_is area l' after a ∙ ap (λ (f : ℕ → Table). at_first f a (order l')) is ∙ ap (at_first (updated l.table n y) a) joins

  pub pushed_view : Pushed (placed (view area l before)) (placed (view area l' after)) y n
  pushed_view = record {
    area = refl;
    tables = ap (λ (f : ℕ → Table). map f (order l')) is ∙ ap (map (updated l.table n y)) joins
        ∙ map_joined l.table (updated l.table n y) n y (updated_same l.table n y) (order l) same;
    slot = slots_are y ∙ joined_new l.table (updated l.table n y) n y (updated_same l.table n y) (order l) same new;
    others = λ a h. slots_are a ∙ joined_old l.table (updated l.table n y) n y (updated_same l.table n y) a (order l) same h
        ∙ sym (slot_is area l before a);
    was_free = λ a h e. absurd (omega (
      arith,
      subst (λ (m : ℕ). 0 < times m (order l)) (sym (slot_is area l before a) ∙ e)
          (listed_at l.table a (order l) h),
      free,
    ));
    count = count;
  }

-- the slot of a table that stands is in use
pub live_slot : (area : ℕ) (l : Links) (counts : List ℕ) (n : ℕ) (y : Table) → Has (tables l) y → n ≡ (placed (view area l counts)).slot y
    → (xs : List ℕ) × ((ys : List ℕ) × (order l ≡ xs ++ n ∷ ys))
live_slot area l counts n y has is =
    let r = split l.table y (order l) has in
    (r.0, (r.1.0, subst (λ (m : ℕ). order l ≡ r.0 ++ m ∷ r.1.0) (sym (is ∙ slot_is area l counts y)) r.1.1))

-- a slot is freed
module _ (area : ℕ) (l l' : Links) (before after : List ℕ) (n : ℕ) (y : Table) (has : Has (tables l) y) (once : Once (tables l))
    (is : n ≡ (placed (view area l before)).slot y) (leaves : (xs ys : List ℕ) → order l ≡ xs ++ n ∷ ys → order l' ≡ xs ++ ys)
    (table : l'.table ≡ l.table) (count : (placed (view area l' after)).count ≡ (placed (view area l before)).count) where
  abbrev parts : (xs : List ℕ) × ((ys : List ℕ) × (order l ≡ xs ++ n ∷ ys))
  parts = live_slot area l before n y has is

  here : l.table n ≡ y
  here = ap l.table (is ∙ slot_is area l before y) ∙ table_at l.table y (order l) has

  order_left : order l' ≡ parts.0 ++ parts.1.0
  order_left = leaves parts.0 parts.1.0 parts.1.1

  tables_left : tables l' ≡ filter (λ b. not (same_table y b)) (tables l)
  tables_left =
      ap (λ (f : ℕ → Table). map f (order l')) table ∙ ap (map l.table) order_left
      ∙ map_left l.table n parts.1.0 parts.0 (subst (λ (zs : List ℕ). Once (map l.table zs)) parts.1.1 once)
      ∙ ap (λ (b : Table). filter (λ c. not (same_table b c)) (map l.table (parts.0 ++ n ∷ parts.1.0))) here
      ∙ ap (λ (zs : List ℕ). filter (λ b. not (same_table y b)) (map l.table zs)) (sym parts.1.1)

  pub removed_view : Removed (placed (view area l before)) (placed (view area l' after)) y
  removed_view = record {
    area = refl;
    tables = tables_left;
    others = λ a h.
        let was = gone_had y a (tables l) (subst (λ (ts : List Table). Has ts a) tables_left h) in
        slot_is area l' after a
        ∙ ap (λ (f : ℕ → Table). at_first f a (order l')) table ∙ ap (at_first l.table a) order_left
        ∙ left_slot l.table n parts.1.0 a parts.0 (λ e. was.1 (e ∙ here))
        ∙ ap (at_first l.table a) (sym parts.1.1)
        ∙ sym (slot_is area l before a);
    count = count;
  }
