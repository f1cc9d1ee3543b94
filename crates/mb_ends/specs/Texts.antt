-- Texts of many, one behind the other.
use Rattle.std.specs.Prelude.{ℕ, ◌+◌, List, [], ◌∷◌, ◌++◌}
use Rattle.mb_words.specs.Words.{Text}

-- a text for each, numbered from i
abbrev pub texts_from : {A : Type 0} → (ℕ → A → Text) → ℕ → List A → Text
texts_from text i [] = []
texts_from text i (x ∷ xs) = text i x ++ texts_from text (i + 1) xs
