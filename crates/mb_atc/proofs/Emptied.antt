-- A flush of all leaves nothing kept.
use Rattle.std.proofs.Common.{◌≡◌, ℕ, zero, suc, List, [], ◌∷◌, length, refl}
use Rattle.std.specs.Prelude.{replicate}
use Rattle.mb_port.specs.declared.types.Flush.TheVariants.{All}
use Rattle.mb_model.specs.declared.kept.Kept.{Kept}
use Rattle.mb_model.specs.Keeping.{KeptLists, flushed, flushed_in}

pub none_in : (kept : List Kept) → flushed_in All kept ≡ []
none_in [] = refl
none_in (k ∷ kept) = none_in kept

-- one empty list for each class
pub flushed_all : (classes : ℕ) (kept : KeptLists) → length kept ≡ classes → flushed All kept ≡ replicate classes []
flushed_all zero [] h = refl
flushed_all (suc n) [] h = absurd (cc)
flushed_all zero (list ∷ kept) h = absurd (cc)
flushed_all (suc n) (list ∷ kept) h = let rest = flushed_all n kept (cc) in rw (none_in list, rest) refl
