-- What a held guest's call changes.
use Rattle.std.proofs.Common.{◌≡◌, ℕ, ◌+◌, ◌%◌, ◌^◌, ◌≤◌, ◌<◌, true, false, refl, sym, subst, arith, inl, inr, Option, Some, Result}
use Rattle.std.specs.Prelude.{unwrap_or, take}
use Rattle.std.proofs.lemmas.Bool.{cases_Bool}
use Rattle.mb_port.specs.Routine.{Fetch, Read, Write, ReadLine, WriteLine, Probe, Get, Put, ReadMmu, SetMmu, FlushKept, Test, ResetDevices}
use Rattle.mb_port.specs.declared.types.Space.{Space}
use Rattle.mb_port.specs.declared.types.Fault.{Fault}
use Rattle.def_machine.specs.World.{World}
use Rattle.def_machine.specs.Places.{stored, stored_line}
use Rattle.def_machine.specs.Bus.{place_at, Store, written_by}
use Rattle.def_machine.proofs.BusLemmas.{taken_memory, stored_memory}
use Rattle.mb_model.specs.Keeping.{rule_k}
use Rattle.def_guests.specs.Guests.{Guest, ref, allows, placed_at}
use Rattle.law_held.specs.Sound.{Sound, OnlyRam, HeldKeeps}
use Rattle.law_held.proofs.Allowed.{wrote_guest, line_guest, held_not, of_guest}
use Rattle.law_held.proofs.Stages.{piece_fits, line_fits}
use Rattle.law_held.proofs.Holding.{led, holds, held_leaves, held_write, write_held, stored_writes, line_writes}

only_same : (g h : Guest) → h ≡ g → OnlyRam g h
only_same g h e = subst (OnlyRam g) (sym e) refl

write_only : (size : ℕ) (g : Guest) (space : Space) (at len : ℕ) (store : Store) → Sound size g → at < 2 ^ 32 → at % 4096 + len ≤ 4096
    → (after : ℕ → World) → ((p : ℕ) → p + len ≤ size → store (place_at p len) g.world ≡ Some (after p))
    → ((p : ℕ) → OnlyRam g (record g { world = after p })) → OnlyRam g (held_write g (ref false space at true) len store).1
write_only size g space at len store s l fits after side only =
    let r = ref false space at true in
    elim (cases_Bool (allows g.shadow r)) [
      | inl may ↦
          subst (λ (q : Result (Unit {0}) Fault × Guest). OnlyRam g q.1) (sym (write_held size g space at len store s.truthful l fits after side may))
          (only (placed_at (led size g false space at true s.truthful (λ z. refl) may).frame at))
      | inr may_not ↦
          subst (λ (q : Result (Unit {0}) Fault × Guest). OnlyRam g q.1)
          (sym (held_not (allows g.shadow r) (of_guest g (written_by rule_k r len store g.world)) r len g may_not)) refl
    ]

pub held_keeps : HeldKeeps
held_keeps space size (Fetch of at) g s l = only_same g _ (held_leaves size space (Fetch of at) g s l tt)
held_keeps space size (Read of p) g s l = only_same g _ (held_leaves size space (Read of p) g s l tt)
held_keeps space size (Write of p value) g s l =
    write_only size g of p.at p.len (λ place. stored place value) s l.1 (piece_fits p l.2) (λ at. (wrote_guest g at p.len value).world)
    (stored_writes size g p.len value s) (λ at. refl)
held_keeps space size (ReadLine of at) g s l = only_same g _ (held_leaves size space (ReadLine of at) g s l tt)
held_keeps space size (WriteLine of at line) g s l =
    write_only size g of at 16 (λ place. stored_line place line) s l.1 (line_fits at l.2) (λ at. (line_guest g at (take 4 line)).world)
    (line_writes size g line s) (λ at. refl)
held_keeps space size (Probe of p) g s l = only_same g _ (held_leaves size space (Probe of p) g s l tt)
held_keeps space size (Get place) g s l =
    subst (λ (q : Option ℕ × World). OnlyRam g (record g { world = q.1 }))
    (sym (taken_memory g.world place (holds size g place.at place.len s (let h = l.1 in omega arith)))) refl
held_keeps space size (Put place value) g s l =
    let fits : place.at + place.len ≤ size = (let h = l.1 in omega arith) in
    subst (λ (q : Option World). OnlyRam g (record g { world = unwrap_or q g.world }))
    (sym (stored_memory g.world place value (holds size g place.at place.len s fits))) refl
held_keeps space size ReadMmu g s l = absurd l
held_keeps space size (SetMmu which value) g s l = absurd l
held_keeps space size (FlushKept what) g s l = absurd l
held_keeps space size (Test of at write) g s l = absurd l
held_keeps space size ResetDevices g s l = absurd l
