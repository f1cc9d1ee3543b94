-- The first elements of a list changed, one after the other.
use Rattle.std.proofs.Common.{◌≡◌, ℕ, zero, suc, ◌+◌, ◌<◌, List, [], ◌∷◌, length, map, get_or, set, refl, ap, ◌∙◌, sym, arith, add-one}
use Rattle.mb_model.specs.declared.kept.Kept.{Kept}
use Rattle.mb_model.specs.Keeping.{KeptLists}

abbrev pub firsts : (List Kept → List Kept) → ℕ → KeptLists → KeptLists
firsts f zero xs = xs
firsts f (suc n) [] = []
firsts f (suc n) (x ∷ xs) = f x ∷ firsts f n xs

one_more : (f : List Kept → List Kept) (n : ℕ) (xs : KeptLists) (d : List Kept) → n < length xs
    → set (firsts f n xs) n (f (get_or (firsts f n xs) n d)) ≡ firsts f (suc n) xs
one_more f zero [] d h = absurd (omega arith)
one_more f zero (x ∷ xs) d h = refl
one_more f (suc n) [] d h = absurd (omega arith)
one_more f (suc n) (x ∷ xs) d h = ap (λ (ys : KeptLists). f x ∷ ys) (one_more f n xs d (omega arith))

pub firsts-one_more : (f : List Kept → List Kept) (n : ℕ) (xs : KeptLists) (d : List Kept) → n < length xs
    → set (firsts f n xs) n (f (get_or (firsts f n xs) n d)) ≡ firsts f (n + 1) xs
firsts-one_more f n xs d h = one_more f n xs d h ∙ ap (λ (m : ℕ). firsts f m xs) (sym (add-one n))

pub firsts-all : (f : List Kept → List Kept) (xs : KeptLists) → firsts f (length xs) xs ≡ map f xs
firsts-all f [] = refl
firsts-all f (x ∷ xs) = ap (λ (ys : KeptLists). f x ∷ ys) (firsts-all f xs)
