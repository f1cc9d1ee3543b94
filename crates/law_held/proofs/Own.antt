-- The guest's own bus, where the shadow allows a call.
use Rattle.std.proofs.Common.{◌≡◌, ℕ, Bool, true, false, refl, ap, sym, ◌∙◌}
use Rattle.mb_port.specs.Routine.{Call, Answer, Routine, Bus, run, Fetch, Read, Write, ReadLine, WriteLine, Probe, Get, Put, ReadMmu, SetMmu, FlushKept, Test}
use Rattle.mb_port.specs.Routine.{ResetDevices}
use Rattle.mb_port.specs.declared.types.Space.{Space}
use Rattle.law_routines.specs.Tree.{Tree, tree_of, routine_of}
use Rattle.law_routines.specs.Alike.{Alike}
use Rattle.law_routines.proofs.Trees.{run_tree}
use Rattle.mb_model.specs.Keeping.{rule_k}
use Rattle.def_machine.specs.Bus.{bus_of, fetching_of, reading_of, writing_of}
use Rattle.law_tells.specs.Left.{Resumes, here, later, SameCalls}
use Rattle.law_tells.proofs.Over.{resumed_over}
use Rattle.vm_shadow.specs.Shadows.{Shadowed}
use Rattle.def_guests.specs.Guests.{Guest, Truthful, ref, allows, allows_call}
use Rattle.def_guests.specs.Held.{plain_bus, held_bus}
use Rattle.law_held.specs.Lawful.{IsAttemptCall}
use Rattle.def_guests.specs.Bus.{accessed, shadow_after, guest_bus}
use Rattle.def_guests.proofs.Judged.{allowed_accesses_are_still}
use Rattle.law_held.specs.Sound.{Sound, held_guard, GuestIsHeld}
use Rattle.law_held.proofs.Allowed.{held_is}
use Rattle.law_held.proofs.Holding.{held_sound}

-- ---- an allowed access leaves the shadow

shadow_same : (size : ℕ) (g : Guest) (code : Bool) (space : Space) (at : ℕ) (write : Bool) → Truthful size g → (write ≡ true → code ≡ false)
    → allows g.shadow (ref code space at write) ≡ true → accessed (ref code space at write) g.world g.shadow ≡ g.shadow
shadow_same size g code space at write t side allowed =
    (allowed_accesses_are_still size g (ref code space at write) t side allowed).shadow

-- the guest's bus where the shadow stays
left_alone : (c : Call) (g : Guest) → shadow_after c g.world g.shadow ≡ g.shadow → guest_bus c g ≡ plain_bus c g
left_alone c g e =
    ap (λ (s : Shadowed). (let q : Answer c × Guest = ((bus_of rule_k c g.world).0, record { world = (bus_of rule_k c g.world).1; shadow = s }) in q)) e

pub guest_is_held : GuestIsHeld
guest_is_held space size (Fetch of at) g s l may =
    left_alone (Fetch of at) g (shadow_same size g true of at false s.truthful (λ z. cc) may)
    ∙ sym (held_is (allows g.shadow (fetching_of of at)) (plain_bus (Fetch of at) g) (fetching_of of at) 2 g may)
guest_is_held space size (Read of p) g s l may =
    left_alone (Read of p) g (shadow_same size g false of p.at false s.truthful (λ z. refl) may)
    ∙ sym (held_is (allows g.shadow (reading_of of p.at)) (plain_bus (Read of p) g) (reading_of of p.at) p.len g may)
guest_is_held space size (Write of p value) g s l may =
    left_alone (Write of p value) g (shadow_same size g false of p.at true s.truthful (λ z. refl) may)
    ∙ sym (held_is (allows g.shadow (writing_of of p.at)) (plain_bus (Write of p value) g) (writing_of of p.at) p.len g may)
guest_is_held space size (ReadLine of at) g s l may =
    left_alone (ReadLine of at) g (shadow_same size g false of at false s.truthful (λ z. refl) may)
    ∙ sym (held_is (allows g.shadow (reading_of of at)) (plain_bus (ReadLine of at) g) (reading_of of at) 16 g may)
guest_is_held space size (WriteLine of at line) g s l may =
    left_alone (WriteLine of at line) g (shadow_same size g false of at true s.truthful (λ z. refl) may)
    ∙ sym (held_is (allows g.shadow (writing_of of at)) (plain_bus (WriteLine of at line) g) (writing_of of at) 16 g may)
guest_is_held space size (Probe of p) g s l may =
    left_alone (Probe of p) g (shadow_same size g false of p.at true s.truthful (λ z. refl) may)
    ∙ sym (held_is (allows g.shadow (writing_of of p.at)) (plain_bus (Probe of p) g) (writing_of of p.at) p.len g may)
guest_is_held space size (Get place) g s l may = refl
guest_is_held space size (Put place value) g s l may = refl
guest_is_held space size ReadMmu g s l may = absurd l
guest_is_held space size (SetMmu which value) g s l may = absurd l
guest_is_held space size (FlushKept what) g s l may = absurd l
guest_is_held space size (Test of at write) g s l may = absurd l
guest_is_held space size ResetDevices g s l may = absurd l

-- ---- routines

abbrev pub Beside : ℕ → Guest → Guest → Type 0
Beside size g h = (g ≡ h) × Sound size g

pub held_alike : (space : Space) (size : ℕ) → Alike (Beside size) (λ c (g : Guest). IsAttemptCall space 0 size c) (λ c (g : Guest). allows_call c g.shadow)
    (λ c (g : Guest). allows_call c g.shadow) held_bus guest_bus
held_alike space size = record {
  leave = λ c g h r l. ap (λ (k : Guest). allows_call c k.shadow) r.0;
  answer = λ c g h r l may.
      ap (λ (q : Answer c × Guest). q.0) (sym (guest_is_held space size c g r.1 l may)) ∙ ap (λ (k : Guest). (guest_bus c k).0) r.0;
  kept = λ c g h r l may. (
    ap (λ (q : Answer c × Guest). q.1) (sym (guest_is_held space size c g r.1 l may)) ∙ ap (λ (k : Guest). (guest_bus c k).1) r.0,
    held_sound size space c g r.1 l,
  );
}

-- what makes the same calls does the same
pub same_over : {A : Type 0} (bus : Bus Guest) (m n : Routine A) (g : Guest) → SameCalls m n → run bus m g ≡ run bus n g
same_over {A} bus m n g e = sym (run_tree bus m g) ∙ ap (λ (t : Tree A). run bus (routine_of t) g) e ∙ run_tree bus n g

resumes_as : {A : Type 0} {P Q : (c : Call) → Answer c → Type 0} → ((c : Call) (answer : Answer c) → P c answer → Q c answer) → {whole rest : Tree A}
    → Resumes P whole rest → Resumes Q whole rest
resumes_as f here = here
resumes_as f (later c answer p more) = later c answer (f c answer p) (resumes_as f more)

-- what resumes a part where what was done before stands, does what the part does
pub resumed : {A : Type 0} (space : Space) (size : ℕ) (begun g : Guest) (m rest : Routine A) → Sound size g
    → Resumes (λ c answer. (held_guard space size begun).stands c answer g) (tree_of m) (tree_of rest) → run guest_bus rest g ≡ run guest_bus m g
resumed space size begun g m rest s r =
    sym (run_tree guest_bus rest g)
    ∙ sym (resumed_over guest_bus g (resumes_as (λ c answer p. guest_is_held space size c g s p.0 p.1 ∙ p.2) r))
    ∙ run_tree guest_bus m g
