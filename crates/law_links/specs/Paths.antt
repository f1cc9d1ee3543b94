-- Links as functions from numbers.
use Rattle.std.specs.Prelude.{◌≡◌, ℕ, zero, suc, ◌+◌, ◌==◌, nat_lt, if◌then◌else◌, List, [], ◌∷◌}

-- a function with another value at a number
abbrev pub updated : {T : Type 0} → (ℕ → T) → ℕ → T → ℕ → T
updated f at to n = if n == at then to else f n

-- a link leads from a place through these nodes, in order, and then to the end
abbrev pub IsPath : (ℕ → ℕ) → ℕ → List ℕ → ℕ → Type 0
IsPath f from [] to = f from ≡ to
IsPath f from (x ∷ xs) to = (f from ≡ x) × IsPath f x xs to

-- the nodes below the end that a link leads through, from a node on, at most so many
unfoldable pub walk : ℕ → (ℕ → ℕ) → ℕ → ℕ → List ℕ
walk end f zero at = []
walk end f (suc n) at = if nat_lt at end then at ∷ walk end f n (f at) else []

-- how often a number is in a list
abbrev pub times : ℕ → List ℕ → ℕ
times n [] = 0
times n (x ∷ xs) = (if x == n then 1 else 0) + times n xs
