-- When other values can stand for those of a spelling, and when a first character tells two spellings apart.
use Rattle.std.specs.Prelude.{◌≡◌, ℕ, Bool, List, ◌∷◌}
use Rattle.mb_spelling.specs.Spelling.{Spelling}

-- Each lawful value of the one stands for a lawful value of the other, with the same text, and each is one of these.
pub record Presents {A B : Type 0} (s : Spelling A) (f : A → B) (IsLawful : B → Type 0) (write : B → List ℕ)
    : Type 0 where
  pub to : (a : A) → s.IsLawful a → IsLawful (f a)
  pub same : (a : A) → s.IsLawful a → write (f a) ≡ s.write a
  pub from : (b : B) → IsLawful b → A
  pub lawful : (b : B) (l : IsLawful b) → s.IsLawful (from b l)
  pub back : (b : B) (l : IsLawful b) → f (from b l) ≡ b

-- Each text of a spelling has a first character at which a test answers so.
pub record Heads {A : Type 0} (test : ℕ → Bool) (answer : Bool) (s : Spelling A) : Type 0 where
  pub head : (a : A) → s.IsLawful a → ℕ
  pub tail : (a : A) → s.IsLawful a → List ℕ
  pub written : (a : A) (l : s.IsLawful a) → s.write a ≡ head a l ∷ tail a l
  pub tested : (a : A) (l : s.IsLawful a) → test (head a l) ≡ answer
