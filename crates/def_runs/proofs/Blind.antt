-- What neither reads nor changes what is kept.
use Rattle.std.proofs.Common.{◌≡◌, ℕ, Bool, true, false, List, length, refl, ◌∙◌, ap}
use Rattle.std.specs.Prelude.{Option, Some, None, unwrap_or, if◌then◌else◌, take}
use Rattle.mb_port.specs.declared.types.Place.{Place}
use Rattle.mb_model.specs.Keeping.{KeptLists}
use Rattle.def_machine.specs.declared.reference.Reference.{Reference}
use Rattle.def_machine.specs.World.{World}
use Rattle.def_machine.specs.Places.{Stand, memory, register, nowhere, taken, taken_at, stored, stored_at, stand_of, in_ram}
use Rattle.def_machine.specs.Places.{checked, taken_line, stored_line, with_longs}
use Rattle.def_machine.specs.Bus.{fault_of, place_at, faulting, read_at, written_at, wrote}

-- what neither reads nor changes what is kept
abbrev pub IsBlind : {A : Type 0} → (World → A × World) → Type 0
IsBlind f = (w : World) (kept : KeptLists) → f (record w { kept = kept }) ≡ ((f w).0, record (f w).1 { kept = kept })

pub blind-kept : {A : Type 0} (f : World → A × World) → IsBlind f → (w : World) → (f w).1.kept ≡ w.kept
blind-kept {A} f blind w = ap (λ (x : A × World). x.1.kept) (blind w w.kept)

-- ---- places

taken_at_blind : (s : Stand) (place : Place) → IsBlind (taken_at s place)
taken_at_blind memory place w kept = refl
taken_at_blind (register r) place w kept = refl
taken_at_blind nowhere place w kept = refl

pub taken-blind : (place : Place) → IsBlind (taken place)
taken-blind place w kept = taken_at_blind (stand_of w place) place w kept

pub taken_line-blind : (place : Place) → IsBlind (taken_line place)
taken_line-blind place w kept = refl

pub checked-blind : (place : Place) → IsBlind (checked place)
checked-blind place w kept = refl

pub read-blind : {A : Type 0} (r : Reference) (len : ℕ) (take : Place → World → Option A × World) → ((place : Place) → IsBlind (take place))
    → (o : Option ℕ) → IsBlind (read_at r len take o)
read-blind {A} r len take blind (Some at) w kept =
    ap (λ (x : Option A × World). faulting x (fault_of r len false)) (blind (place_at at len) w kept)
read-blind r len take blind None w kept = refl

-- a world, or none, with other entries kept
abbrev keeping : KeptLists → Option World → Option World
keeping kept (Some w) = Some (record w { kept = kept })
keeping kept None = None

abbrev pub IsBlindStore : (World → Option World) → Type 0
IsBlindStore store = (w : World) (kept : KeptLists) → store (record w { kept = kept }) ≡ keeping kept (store w)

stored_at_blind : (s : Stand) (place : Place) (value : ℕ) → IsBlindStore (stored_at s place value)
stored_at_blind memory place value w kept = refl
stored_at_blind (register r) place value w kept = refl
stored_at_blind nowhere place value w kept = refl

pub stored-blind : (place : Place) (value : ℕ) → IsBlindStore (stored place value)
stored-blind place value w kept = stored_at_blind (stand_of w place) place value w kept

if_keeping : (b : Bool) (w : World) (kept : KeptLists) → (if b then Some (record w { kept = kept }) else None) ≡ keeping kept (if b then Some w else None)
if_keeping true w kept = refl
if_keeping false w kept = refl

pub stored_line-blind : (place : Place) (line : List ℕ) → IsBlindStore (stored_line place line)
stored_line-blind place line w kept =
    if_keeping (in_ram (length w.ram) place.at place.len) (record w { ram = with_longs w.ram place.at (take 4 line) }) kept

wrote_blind : (w : World) (o : Option World) (fault : _) (kept : KeptLists)
    → wrote (record w { kept = kept }) (keeping kept o) fault ≡ ((wrote w o fault).0, record (wrote w o fault).1 { kept = kept })
wrote_blind w (Some after) fault kept = refl
wrote_blind w None fault kept = refl

pub write-blind : (r : Reference) (len : ℕ) (store : Place → World → Option World) → ((place : Place) → IsBlindStore (store place))
    → (o : Option ℕ) → IsBlind (written_at r len store o)
write-blind r len store blind (Some at) w kept =
    let fault = fault_of r len false in
    ap (λ (o : Option World). wrote (record w { kept = kept }) o fault) (blind (place_at at len) w kept)
    ∙ wrote_blind w (store (place_at at len) w) fault kept
write-blind r len store blind None w kept = refl

or_stay_blind : (o : Option World) (w : World) (kept : KeptLists)
    → unwrap_or (keeping kept o) (record w { kept = kept }) ≡ record (unwrap_or o w) { kept = kept }
or_stay_blind (Some after) w kept = refl
or_stay_blind None w kept = refl

pub get-blind : (place : Place) → IsBlind (λ u. (unwrap_or (taken place u).0 0, (taken place u).1))
get-blind place w kept = ap (λ (x : Option ℕ × World). (unwrap_or x.0 0, x.1)) (taken-blind place w kept)

pub put-blind : (place : Place) (value : ℕ) → IsBlind {A = Unit {0}} (λ u. (tt, unwrap_or (stored place value u) u))
put-blind place value w kept =
    ap (λ (v : World). (tt, v)) (ap (λ (o : Option World). unwrap_or o (record w { kept = kept })) (stored-blind place value w kept)
    ∙ or_stay_blind (stored place value w) w kept)
