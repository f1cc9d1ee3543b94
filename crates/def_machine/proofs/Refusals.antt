-- What a refused access tells and leaves.
use Rattle.std.proofs.Common.{◌≡◌, ℕ, refl}
use Rattle.std.specs.Prelude.{Option, Some, None, is_none, ok_or, Err}
use Rattle.mb_port.specs.declared.types.Place.{Place}
use Rattle.mb_port.specs.declared.types.Fault.{Fault}
use Rattle.mb_port.specs.Routine.{Call, Fetch, Read, Write, ReadLine, WriteLine, Probe, Get, Put, ReadMmu, SetMmu, FlushKept, Test, ResetDevices}
use Rattle.mb_model.specs.Keeping.{Rule}
use Rattle.mb_walk.specs.declared.found.Found.{Found}
use Rattle.mb_walk.specs.declared.found.Found.TheVariants.{Entry, Invalid, BusError}
use Rattle.law_routines.specs.Refusal.{IsFault}
use Rattle.def_machine.specs.declared.reference.Reference.{Reference}
use Rattle.def_machine.specs.declared.reference.Settled.{Settled}
use Rattle.def_machine.specs.declared.reference.Settled.TheVariants.{To, Refused, Unsettled}
use Rattle.def_machine.specs.World.{World}
use Rattle.def_machine.specs.Places.{Stand, memory, register, nowhere, taken, taken_at, stored, stored_line, checked, taken_line}
use Rattle.def_machine.specs.Access.{search_for, searched, translated, by_settled, by_found}
use Rattle.def_machine.specs.Bus.{bus_of, read_at, written_at, wrote, fault_of}
use Rattle.def_machine.specs.Laws.{WasRefused, CallWasRefused, IsBeside}

-- ---- reads

-- what answers nothing leaves the world
abbrev pub IsQuiet : {A : Type 0} → (Place → World → Option A × World) → Type 0
IsQuiet {A} take = (place : Place) (w : World) → (take place w).0 ≡ None → (take place w).1 ≡ w

pub record Refusal (r : Reference) (len : ℕ) (o : Option ℕ) (w : World) (fault : Fault) (after : World) : Type 0 where
  pub told : fault ≡ fault_of r len (is_none o)
  pub left : after ≡ w

nothing_answered : {A : Type 0} → (o : Option A) (f fault : Fault) → ok_or o f ≡ Err fault → o ≡ None
nothing_answered (Some a) f fault h = absurd (cc)
nothing_answered None f fault h = refl

told_answered : {A : Type 0} → (o : Option A) (f fault : Fault) → ok_or o f ≡ Err fault → fault ≡ f
told_answered (Some a) f fault h = absurd (cc)
told_answered None f fault h = cc

read_refused : {A : Type 0} → (r : Reference) (len : ℕ) (take : Place → World → Option A × World) (o : Option ℕ) (w : World)
    (fault : Fault) → IsQuiet take → (read_at r len take o w).0 ≡ Err fault → Refusal r len o w fault (read_at r len take o w).1
read_refused r len take (Some at) w fault quiet h =
    record { told = told_answered (take _ w).0 _ fault h; left = quiet _ w (nothing_answered (take _ w).0 _ fault h) }
read_refused r len take None w fault quiet h = record { told = cc; left = refl }

refused : (rule : Rule) (r : Reference) (len : ℕ) (w u : World) (fault : Fault)
    → Refusal r len (translated rule r w).0 (translated rule r w).1 fault u → WasRefused rule r len w fault u
refused rule r len w u fault h = record { told = h.told; left = h.left }

taken_at-quiet : (s : Stand) (place : Place) (w : World) → (taken_at s place w).0 ≡ None → (taken_at s place w).1 ≡ w
taken_at-quiet memory place w h = refl
taken_at-quiet (register r) place w h = absurd (cc)
taken_at-quiet nowhere place w h = refl

taken-quiet : (place : Place) (w : World) → (taken place w).0 ≡ None → (taken place w).1 ≡ w
taken-quiet place w h = taken_at-quiet _ place w h

taken_line-quiet : (place : Place) (w : World) → (taken_line place w).0 ≡ None → (taken_line place w).1 ≡ w
taken_line-quiet place w h = refl

-- ---- writes

wrote_refused : (w : World) (o : Option World) (f fault : Fault) → (wrote w o f).0 ≡ Err fault → fault ≡ f
wrote_refused w (Some after) f fault h = absurd (cc)
wrote_refused w None f fault h = cc

wrote_leaves : (w : World) (o : Option World) (f fault : Fault) → (wrote w o f).0 ≡ Err fault → (wrote w o f).1 ≡ w
wrote_leaves w (Some after) f fault h = absurd (cc)
wrote_leaves w None f fault h = refl

write_refused : (r : Reference) (len : ℕ) (store : Place → World → Option World) (o : Option ℕ) (w : World)
    (fault : Fault) → (written_at r len store o w).0 ≡ Err fault → Refusal r len o w fault (written_at r len store o w).1
write_refused r len store (Some at) w fault h =
    record { told = wrote_refused w (store _ w) _ fault h; left = wrote_leaves w (store _ w) _ fault h }
write_refused r len store None w fault h = record { told = cc; left = refl }

-- ---- the calls

pub faults-tell : (rule : Rule) (c : Call) (w : World) (fault : Fault) → IsFault c (bus_of rule c w).0 fault
    → CallWasRefused rule c w fault (bus_of rule c w).1
faults-tell rule (Fetch space at) w fault h = refused rule _ _ w _ fault (read_refused _ _ taken _ _ fault taken-quiet h)
faults-tell rule (Read space p) w fault h = refused rule _ _ w _ fault (read_refused _ _ taken _ _ fault taken-quiet h)
faults-tell rule (Write space p value) w fault h =
    refused rule _ _ w _ fault (write_refused _ _ (λ place. stored place value) _ _ fault h)
faults-tell rule (ReadLine space at) w fault h = refused rule _ _ w _ fault (read_refused _ _ taken_line _ _ fault taken_line-quiet h)
faults-tell rule (WriteLine space at line) w fault h =
    refused rule _ _ w _ fault (write_refused _ _ (λ place. stored_line place line) _ _ fault h)
faults-tell rule (Probe space p) w fault h = refused rule _ _ w _ fault (read_refused _ _ checked _ _ fault (λ place u g. refl) h)
faults-tell rule (Get place) w fault h = h
faults-tell rule (Put place value) w fault h = h
faults-tell rule ReadMmu w fault h = h
faults-tell rule (SetMmu which value) w fault h = h
faults-tell rule (FlushKept what) w fault h = h
faults-tell rule (Test space at write) w fault h = h
faults-tell rule ResetDevices w fault h = h

-- ---- translations

found_beside : (rule : Rule) (w u : World) (r : Reference) (found : Found) → IsBeside w u → IsBeside w (by_found rule u r found).1
found_beside rule w u r (Entry k mmusr) h = record { mmu = h.mmu; devices = h.devices }
found_beside rule w u r Invalid h = h
found_beside rule w u r BusError h = h

searched_beside : (rule : Rule) (w : World) (r : Reference) → IsBeside w (searched rule w r).1
searched_beside rule w r =
    let s = search_for w r in
    found_beside rule w (record w { ram = s.ram }) r s.found (record { mmu = refl; devices = refl })

settled_beside : (rule : Rule) (w : World) (r : Reference) (s : Settled) → IsBeside w (by_settled rule w r s).1
settled_beside rule w r (To at) = record { mmu = refl; devices = refl }
settled_beside rule w r Refused = record { mmu = refl; devices = refl }
settled_beside rule w r Unsettled = searched_beside rule w r

pub translated-beside : (rule : Rule) (r : Reference) (w : World) → IsBeside w (translated rule r w).1
unfolding translated
translated-beside rule r w = settled_beside rule w r _
