-- Texts made of one part for each element.
use Rattle.std.proofs.Common.{◌≡◌, ◌∙◌, ◌<◌, ℕ, ◌+◌, ◌++◌, List, [], ◌∷◌, ap, sym, refl, take, length, get_or, map}
use Rattle.std.specs.List.{flat_map}
use Rattle.std.proofs.lemmas.List.{take_more, flat_map_more}

pub flat_map-take : {X : Type 0} (f : X → List ℕ) (xs : List X) (i : ℕ) (d : X) → i < length xs
    → flat_map f (take (i + 1) xs) ≡ flat_map f (take i xs) ++ f (get_or xs i d)
flat_map-take f xs i d h = ap (flat_map f) (take_more xs i d h) ∙ sym (flat_map_more f [] (take i xs) (get_or xs i d))

pub flat_map-map : {X Y : Type 0} (f : Y → List ℕ) (g : X → Y) (xs : List X)
    → flat_map f (map g xs) ≡ flat_map (λ x. f (g x)) xs
flat_map-map f g [] = refl
flat_map-map f g (x ∷ xs) = ap (λ (rest : List ℕ). f (g x) ++ rest) (flat_map-map f g xs)
