-- An access that the shadow allows.
use Rattle.std.proofs.Common.{◌≡◌, ℕ, ◌<◌, ◌^◌, Bool, true, false, List, refl, ap, ◌∙◌, arith, Option, Some, Result, Err, drop}
use Rattle.std.proofs.lemmas.List.Elements.{All-drop}
use Rattle.mb_port.specs.declared.types.Space.{Space}
use Rattle.mb_model.specs.Keeping.{rule_k}
use Rattle.mb_walk.specs.Memory.{number_at, with_number, AreBytes}
use Rattle.def_machine.specs.World.{World}
use Rattle.mb_model.specs.Pages.{page_of}
use Rattle.def_machine.specs.Access.{translated}
use Rattle.def_machine.specs.declared.reference.Settled.TheVariants.{To}
use Rattle.mb_port.specs.declared.types.Fault.{Fault}
use Rattle.def_machine.specs.declared.reference.Reference.{Reference}
use Rattle.def_machine.specs.Places.{with_longs}
use Rattle.def_machine.specs.Bus.{fault_of}
use Rattle.def_guests.specs.Guests.{Guest, Truthful, ref, lets, placed_at}
use Rattle.law_held.proofs.Stages.{translated_by}
use Rattle.def_guests.specs.Held.{or_refused}
use Rattle.mb_walk.proofs.LongLemmas.{byte_inside}

-- an entry that allows a write is writable
pub writable_is : (frame : ℕ) (writable : Bool) → lets (Some (frame, writable)) true ≡ true → writable ≡ true
writable_is frame true h = refl
writable_is frame false h = cc

pub guest_access : (size : ℕ) (g : Guest) (code : Bool) (space : Space) (at : ℕ) (write : Bool) (frame : ℕ) (writable : Bool) → Truthful size g
    → (write ≡ true → code ≡ false) → g.shadow.entries space (page_of at) ≡ Some (frame, writable) → lets (Some (frame, writable)) write ≡ true
    → translated rule_k (ref code space at write) g.world ≡ (Some (placed_at frame at), g.world)
guest_access size g code space at true frame writable t side s h =
    let e : g.shadow.entries space (page_of at) ≡ Some (frame, true) = s
    ∙ ap (λ (w : Bool). (let p : Option (ℕ × Bool) = Some (frame, w) in p)) (writable_is frame writable h) in
    rw (side refl) (translated_by rule_k g.world (ref false space at true) (To (placed_at frame at)) (t.writes space at frame e))
guest_access size g code space at false frame writable t side s h =
    translated_by rule_k g.world (ref code space at false) (To (placed_at frame at)) (t.reads code space at frame writable s)

abbrev pub wrote_guest : Guest → ℕ → ℕ → ℕ → Guest
wrote_guest g p len v = record g { world = record g.world { ram = with_number g.world.ram p len v } }

abbrev pub line_guest : Guest → ℕ → List ℕ → Guest
line_guest g p line = record g { world = record g.world { ram = with_longs g.world.ram p line } }

-- the guest's answer with its state
abbrev pub of_guest : {A : Type 0} → Guest → A × World → A × Guest
of_guest g q = (q.0, record g { world = q.1 })

pub held_is : {A : Type 0} (b : Bool) (q : Result A Fault × Guest) (r : Reference) (len : ℕ) (g : Guest) → b ≡ true → or_refused b q r len g ≡ q
held_is b q r len g h = ap (λ b. or_refused b q r len g) h

pub held_not : {A : Type 0} (b : Bool) (q : Result A Fault × Guest) (r : Reference) (len : ℕ) (g : Guest) → b ≡ false
    → or_refused b q r len g ≡ (Err (fault_of r len true), g)
held_not b q r len g h = ap (λ b. or_refused b q r len g) h

pub word_small : (ram : List ℕ) (at : ℕ) → AreBytes ram → number_at ram at 2 < 2 ^ 16
word_small ram at bytes =
    let rest = All-drop (λ byte. byte < 2 ^ 8) at ram bytes in
    let a = byte_inside (drop at ram) 0 rest in
    let b = byte_inside (drop at ram) 1 rest in
    omega arith
