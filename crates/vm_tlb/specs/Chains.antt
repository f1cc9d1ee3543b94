-- Nodes that are linked by number: live ones, which have an entry, and free ones. A link is a function of numbers. 0 to
-- 255 are the nodes; 256 is the root of the ring of all live nodes, and the end of a chain; 256 to 319 are the roots of
-- the chains, and 320 is that of the free nodes.
use Rattle.std.specs.Prelude.{◌≡◌, ℕ, ◌+◌, ◌<◌, ◌==◌, Bool, nat_lt, if◌then◌else◌}
use Rattle.std.specs.Prelude.{List, [], ◌∷◌, ◌++◌, length}
use Rattle.vm_tlb.specs.declared.nodes.TheConstants.{CHAINS, END, FREE, NODES}
use Rattle.law_links.specs.Paths.{IsPath, times}

-- the nodes of a chain among some nodes, the last one first
abbrev pub chain : (ℕ → ℕ) → ℕ → List ℕ → List ℕ
chain of number [] = []
chain of number (x ∷ xs) = chain of number xs ++ (if of x == number then x ∷ [] else [])

-- the first node that passes, or the end
abbrev pub first_of : (ℕ → Bool) → List ℕ → ℕ
first_of p [] = END
first_of p (x ∷ xs) = if p x then x else first_of p xs

-- what comes before a node in a list that begins with a root
abbrev pub before : ℕ → ℕ → List ℕ → ℕ
before at from [] = from
before at from (x ∷ xs) = if x == at then from else before at x xs

-- The links are those of live nodes, the oldest first, each in the chain of its number, and of free nodes.
pub record Linked (newer older next of : ℕ → ℕ) (live free : List ℕ) : Type 0 where
  -- "newer" leads from the oldest through each live node
  pub ring : IsPath newer END live END
  -- "older" undoes "newer"
  pub back : (at : ℕ) → 0 < times at (END ∷ live) → older (newer at) ≡ at
  -- a chain has the live nodes of its number alone
  pub chains : (number : ℕ) → number < CHAINS → IsPath next (NODES + number) (chain of number live) END
  -- the free nodes are one more chain
  pub rest : IsPath next FREE free END
  -- each node is live or free, and once
  pub each : (at : ℕ) → times at live + times at free ≡ (if nat_lt at NODES then 1 else 0)
  -- and together they are all
  pub all : length live + length free ≡ NODES
