-- Values that may be missing.
use Rattle.std.specs.Prelude.{Bool, false, Option, Some, None}

-- the second step, if the first gave a value
infixl 10 ◌>>=◌
abbrev pub ◌>>=◌ : {A B : Type 0} → Option A → (A → Option B) → Option B
(Some x) >>= f = f x
None >>= f = None

-- there is a value, and it passes a test
abbrev pub has : {A : Type 0} → (A → Bool) → Option A → Bool
has test (Some x) = test x
has test None = false
