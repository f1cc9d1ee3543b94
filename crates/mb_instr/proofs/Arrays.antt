-- Arrays by their elements.
use Rattle.std.proofs.Common.{◌≡◌, ℕ, List, [], ◌∷◌, ◌++◌, length, get_or, take, refl, arith}

pub seven_and_one : (xs : List ℕ) (x : ℕ) → length xs ≡ 7
    → get_or xs 0 0 ∷ get_or xs 1 0 ∷ get_or xs 2 0 ∷ get_or xs 3 0 ∷ get_or xs 4 0 ∷ get_or xs 5 0 ∷ get_or xs 6 0 ∷ x ∷ [] ≡ xs ++ x ∷ []
seven_and_one (a ∷ b ∷ c ∷ d ∷ e ∷ f ∷ g ∷ []) x h = refl
seven_and_one _ x h = absurd (omega arith)

pub seven_of_eight : (xs : List ℕ) → length xs ≡ 8
    → get_or xs 0 0 ∷ get_or xs 1 0 ∷ get_or xs 2 0 ∷ get_or xs 3 0 ∷ get_or xs 4 0 ∷ get_or xs 5 0 ∷ get_or xs 6 0 ∷ [] ≡ take 7 xs
seven_of_eight (a ∷ b ∷ c ∷ d ∷ e ∷ f ∷ g ∷ h ∷ []) e' = refl
seven_of_eight _ e' = absurd (omega arith)
