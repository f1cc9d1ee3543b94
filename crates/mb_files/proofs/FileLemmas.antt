-- Files that may be named, and files that may be too long.
use Rattle.std.proofs.Common.{◌≡◌, ◌<◌, ℕ, suc, length, refl, sym, ap, subst, arith, Option, Some, None, Result, Ok}
use Rattle.std.specs.Prelude.{IfSome, replicate}
use Rattle.std.proofs.lemmas.List.{length-replicate}
use Rattle.mb_words.specs.Words.{Text}
use Rattle.mb_files.specs.Reading.{Told, file, if_named}
use Rattle.mb_files.specs.Comes.{MayHave}
use Rattle.mb_files.specs.Shelves.{ShelfSeen}
use Rattle.mb_files.specs.Reads.{IsRead, IsTooLong}
use Rattle.mb_files.specs.declared.fault.FileWhy.{FileWhy}
use Rattle.mb_files.specs.declared.fault.FileWhy.TheVariants.{TooLong}
use Rattle.mb_files.specs.declared.fault.FileFault.{FileFault}

-- a file that is named, and one that is not
pub named_read : {A X : Type 0} (kind : Text → Result A FileWhy) (otherwise : A) (named : Option Text) (name : Text) (view : X → A) (s t : ShelfSeen)
    (r : Result X FileFault) → named ≡ Some name → IsRead (file kind name) view s t r → IsRead (if_named (file kind) otherwise named) view s t r
named_read kind otherwise named name view s t r is h =
    subst (λ (n : Option Text). IsRead (if_named (file kind) otherwise n) view s t r) (sym is) h

pub unnamed_read : {A X : Type 0} (kind : Text → Result A FileWhy) (otherwise : A) (named : Option Text) (view : X → A) (s : ShelfSeen) (x : X)
    → named ≡ None → view x ≡ otherwise → IsRead (if_named (file kind) otherwise named) view s s (Ok x)
unnamed_read kind otherwise named view s x is same =
    subst (λ (n : Option Text). IsRead (if_named (file kind) otherwise n) view s s (Ok x)) (sym is) (refl, ap (λ held. Ok held) same)

-- ---- a file that is too long

long_bytes : (o : Option Text) (most : ℕ) → IfSome o (λ bytes. most < length bytes)
    → (bytes : Text) × IfSome o (λ content. bytes ≡ content) × IsTooLong most TooLong bytes
long_bytes None most h = let bytes = replicate (suc most) 0 in (bytes, tt, (refl, omega (arith, length-replicate {A = ℕ} (suc most) 0)))
long_bytes (Some content) most h = (content, refl, (refl, h))

-- it may have so many bytes
pub may_be_long : (told : Told) (name : Text) (most : ℕ) → IfSome (told name) (λ bytes. most < length bytes)
    → (bytes : Text) × MayHave told name bytes × IsTooLong most TooLong bytes
may_be_long told name most h = long_bytes (told name) most h
