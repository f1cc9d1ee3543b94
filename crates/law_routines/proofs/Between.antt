-- Calls in two spaces are twins, and what is put together of twins whose answers are equal.
use Rattle.std.specs.Prelude.{refl, ℕ, List, Result, Ok, Err}
use Rattle.std.proofs.Common.{sym, subst}
use Rattle.mb_port.specs.Routine.{Routine, Fetch, Read, Write, ReadLine, WriteLine, Probe, Get, Put, Then, tried, ◌>>=◌}
use Rattle.mb_port.specs.Routine.{fetch, read, write, read_line, write_line, probe, get, put}
use Rattle.mb_port.specs.declared.types.Piece.{Piece}
use Rattle.mb_port.specs.declared.types.Place.{Place}
use Rattle.mb_port.specs.declared.types.Fault.{Fault}
use Rattle.law_routines.specs.Twin.{Kin, Twin, returned, asked, followed, Results}
use Rattle.law_routines.specs.Between.{Setting, raised, Equal, SameWord, SameFault, IsRaised, between}

-- an access in two spaces
abbrev pub Accesses : (x : Setting) → {A B : Type 0} → (A → B → Type 0) → Routine (Result A Fault) → Routine (Result B Fault) → Type 1
Accesses x {A} {B} Well m n = Twin (between x) (Result A Fault) (Result B Fault) (Results Well (SameFault x)) m n

pub twin_fetch : (x : Setting) (at : ℕ) → Accesses x SameWord (fetch x.here at) (fetch x.there at)
twin_fetch x at = asked (Fetch x.there at) refl

pub twin_read : (x : Setting) (piece : Piece) → Accesses x Equal (read x.here piece) (read x.there piece)
twin_read x piece = asked (Read x.there piece) refl

pub twin_write : (x : Setting) (piece : Piece) (value : ℕ) → Accesses x Equal (write x.here piece value) (write x.there piece value)
twin_write x piece value = asked (Write x.there piece value) refl

pub twin_read_line : (x : Setting) (at : ℕ) → Accesses x Equal (read_line x.here at) (read_line x.there at)
twin_read_line x at = asked (ReadLine x.there at) refl

pub twin_write_line : (x : Setting) (at : ℕ) (line : List ℕ) → Accesses x Equal (write_line x.here at line) (write_line x.there at line)
twin_write_line x at line = asked (WriteLine x.there at line) refl

pub twin_probe : (x : Setting) (piece : Piece) → Accesses x (IsRaised x) (probe x.here piece) (probe x.there piece)
twin_probe x piece = asked (Probe x.there piece) refl

pub twin_get : (x : Setting) (place : Place) → Twin (between x) ℕ ℕ Equal (get (raised x.base place)) (get place)
twin_get x place = asked (Get place) tt

pub twin_put : (x : Setting) (place : Place) (value : ℕ)
    → Twin (between x) (Unit {0}) (Unit {0}) Equal (put (raised x.base place) value) (put place value)
twin_put x place value = asked (Put place value) tt

-- both go on with one answer
pub twins_then_same : {A C D : Type 0} (k : Kin) (Next : C → D → Type 0) (m n : Routine A) (f : A → Routine C) (g : A → Routine D)
    → Twin k A A Equal m n → ((a : A) → Twin k C D Next (f a) (g a)) → Twin k C D Next (Then m f) (Then n g)
twins_then_same {C = C} {D = D} k Next m n f g w more = followed w (λ a b e. subst (λ v. Twin k C D Next (f v) (g b)) (sym e) (more b))

tried_same : {A C D E F : Type 0} (k : Kin) (Ill : E → F → Type 0) (Next : C → D → Type 0) (r : Result A E) (q : Result A F)
    (f : A → Routine (Result C E)) (g : A → Routine (Result D F)) → Results Equal Ill r q
    → ((a : A) → Twin k (Result C E) (Result D F) (Results Next Ill) (f a) (g a))
    → Twin k (Result C E) (Result D F) (Results Next Ill) (tried r f) (tried q g)
tried_same {C = C} {D = D} {E = E} {F = F} k Ill Next (Ok a) (Ok b) f g e more =
    subst (λ v. Twin k (Result C E) (Result D F) (Results Next Ill) (f v) (g b)) (sym e) (more b)
tried_same k Ill Next (Ok a) (Err y) f g e more = absurd e
tried_same k Ill Next (Err x) (Ok b) f g e more = absurd e
tried_same k Ill Next (Err x) (Err y) f g e more = returned e

pub twins_bind_same : {A C D E F : Type 0} (k : Kin) (Ill : E → F → Type 0) (Next : C → D → Type 0) (m : Routine (Result A E)) (n : Routine (Result A F))
    (f : A → Routine (Result C E)) (g : A → Routine (Result D F)) → Twin k (Result A E) (Result A F) (Results Equal Ill) m n
    → ((a : A) → Twin k (Result C E) (Result D F) (Results Next Ill) (f a) (g a))
    → Twin k (Result C E) (Result D F) (Results Next Ill) (m >>= f) (n >>= g)
twins_bind_same k Ill Next m n f g w more = followed w (λ r q e. tried_same k Ill Next r q f g e more)
