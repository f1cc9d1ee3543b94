-- What never sets TC translates nothing.
use Rattle.std.proofs.Common.{◌≡◌, ℕ, zero, suc, ◌/◌, ◌%◌, ◌^◌, ◌==◌, Bool, false, refl, ◌∙◌, ap}
use Rattle.std.specs.Prelude.{Option, Some, None}
use Rattle.mb_port.specs.Routine.{Call, Routine, Return, Ask, Then, run}
use Rattle.mb_port.specs.Routine.{Fetch, Read, Write, ReadLine, WriteLine, Probe, Get, Put, ReadMmu, SetMmu, FlushKept, Test, ResetDevices}
use Rattle.mb_port.specs.declared.types.Space.{Space}
use Rattle.mb_port.specs.declared.types.Mmu.{Mmu}
use Rattle.mb_port.specs.declared.types.MmuReg.{MmuReg}
use Rattle.mb_port.specs.declared.types.MmuReg.TheVariants.{Tc, Itt0, Itt1, Dtt0, Dtt1, Mmusr, Urp, Srp}
use Rattle.mb_model.specs.Pages.{page_of}
use Rattle.law_routines.specs.Relations.{Along}
use Rattle.def_processor.specs.Step.{step_of}
use Rattle.def_machine.specs.declared.reference.Reference.{Reference}
use Rattle.def_machine.specs.World.{World}
use Rattle.def_machine.specs.Access.{matched, is_translating, or_off, translated}
use Rattle.def_machine.specs.Bus.{reference_of, fetching_of, reading_of, writing_of, tested, tested_by, after_set_mmu}
use Rattle.def_machine.specs.Machine.{Entries, Machine, begun, start, reset_with, asked_of}
use Rattle.def_machine.specs.Laws.{IsBeneath}
use Rattle.def_machine.proofs.Refusals.{translated-beside}
use Rattle.def_machine.proofs.Beneath.{calls_stand_beneath, places_stand_beneath}
use Rattle.def_runs.specs.Free.{rule_free, with_class_entry}
use Rattle.def_runs.specs.Tidy.{searching_bus, searching_step, IsTidyReference, IsTidyCall}
use Rattle.law_tidy.specs.Off.{is_tc, sets_tc, OffRunsAreTidy, OffIsTidy}

-- ---- a call leaves TC

accessed : (r : Reference) (w after : World) → IsBeneath (translated rule_free r (with_class_entry None w)).1 after → after.mmu.tc ≡ w.mmu.tc
accessed r w after h =
    ap (λ (mmu : Mmu). mmu.tc) h.mmu ∙ ap (λ (mmu : Mmu). mmu.tc) (translated-beside rule_free r (with_class_entry None w)).mmu

set_leaves : (which : MmuReg) (value : ℕ) (w : World) → is_tc which ≡ false → (after_set_mmu rule_free which value w).mmu.tc ≡ w.mmu.tc
set_leaves Tc value w h = absurd (cc)
set_leaves Itt0 value w h = refl
set_leaves Itt1 value w h = refl
set_leaves Dtt0 value w h = refl
set_leaves Dtt1 value w h = refl
set_leaves Mmusr value w h = refl
set_leaves Urp value w h = refl
set_leaves Srp value w h = refl

tested_by_leaves : (w : World) (space : Space) (page : ℕ) (write : Bool) (o : Option Bool) → (tested_by w space page write o).1.mmu.tc ≡ w.mmu.tc
tested_by_leaves w space page write (Some protected) = refl
tested_by_leaves w space page write None = refl

tested_leaves : (w : World) (space : Space) (page : ℕ) (write : Bool) → (tested space page write w).1.mmu.tc ≡ w.mmu.tc
tested_leaves w space page write = tested_by_leaves w space page write (matched false w.mmu space page)

placed : (w after : World) → IsBeneath (with_class_entry None w) after → after.mmu.tc ≡ w.mmu.tc
placed w after h = ap (λ (mmu : Mmu). mmu.tc) h.mmu

call_leaves : (c : Call) (w : World) → sets_tc c ≡ false → (searching_bus c w).1.mmu.tc ≡ w.mmu.tc
call_leaves (Fetch space at) w h = accessed (fetching_of space at) w _ (calls_stand_beneath rule_free (Fetch space at) (with_class_entry None w))
call_leaves (Read space p) w h = accessed (reading_of space p.at) w _ (calls_stand_beneath rule_free (Read space p) (with_class_entry None w))
call_leaves (Write space p value) w h =
    accessed (writing_of space p.at) w _ (calls_stand_beneath rule_free (Write space p value) (with_class_entry None w))
call_leaves (ReadLine space at) w h = accessed (reading_of space at) w _ (calls_stand_beneath rule_free (ReadLine space at) (with_class_entry None w))
call_leaves (WriteLine space at line) w h =
    accessed (writing_of space at) w _ (calls_stand_beneath rule_free (WriteLine space at line) (with_class_entry None w))
call_leaves (Probe space p) w h = accessed (writing_of space p.at) w _ (calls_stand_beneath rule_free (Probe space p) (with_class_entry None w))
call_leaves (Get place) w h = placed w _ (places_stand_beneath rule_free place 0 (with_class_entry None w)).0
call_leaves (Put place value) w h = placed w _ (places_stand_beneath rule_free place value (with_class_entry None w)).1
call_leaves ReadMmu w h = refl
call_leaves (SetMmu which value) w h = set_leaves which value (with_class_entry None w) h
call_leaves (FlushKept what) w h = refl
call_leaves (Test space at write) w h = tested_leaves (with_class_entry None w) space (page_of at) write
call_leaves ResetDevices w h = refl

abbrev IsOff : World → Type 0
IsOff w = is_translating w.mmu ≡ false

off_after : (c : Call) (w : World) → IsOff w → sets_tc c ≡ false → IsOff (searching_bus c w).1
off_after c w off h = ap (λ (tc : ℕ). tc / 2 ^ 15 % 2 == 1) (call_leaves c w h) ∙ off

-- ---- and is tidy

never_tables : (mmu : Mmu) (o : Option Bool) → is_translating mmu ≡ false → or_off mmu o ≡ None → ⊥
never_tables mmu (Some protected) off e = absurd (cc)
never_tables mmu None off e =
    let same : Some false ≡ None = rw off at e in
    absurd (cc)

reference_tidy : (o : Option Reference) (w : World) → IsOff w → IsTidyReference o w
reference_tidy None w off = tt
reference_tidy (Some r) w off = λ e k c. absurd (never_tables w.mmu (matched r.code w.mmu r.space (page_of r.at)) off e)

-- ---- a run

-- a routine whose calls do not set TC
record StaysOff {A : Type 0} (m : Routine A) (w : World) : Type 0 where
  tidy : Along IsTidyCall searching_bus m w
  off : IsOff (run searching_bus m w).1

stays_off : {A : Type 0} (m : Routine A) (w : World) → IsOff w → Along (λ c u. sets_tc c ≡ false) searching_bus m w → StaysOff m w
stays_off (Return a) w off h = record { tidy = tt; off = off }
stays_off (Ask c) w off h = record { tidy = reference_tidy (reference_of c) w off; off = off_after c w off h }
stays_off (Then m f) w off h =
    let first = stays_off m w off h.0 in
    let rest = stays_off (f ((run searching_bus m w).0)) ((run searching_bus m w).1) first.off h.1 in
    record { tidy = (first.tidy, rest.tidy); off = rest.off }

begun_off : (script : Entries) (m : Machine) → IsOff m.world → IsOff (begun script m).world
begun_off script m off = off

pub off-runs_are_tidy : OffRunsAreTidy
off-runs_are_tidy script zero m off h = tt
off-runs_are_tidy script (suc n) m off h = λ going.
    let b = begun script m in
    let parts = h going in
    let s = stays_off (step_of (asked_of script b) b.cpu) b.world (begun_off script m off) parts.0 in
    (s.tidy, off-runs_are_tidy script n (searching_step script m) s.off parts.1)

pub off-is_tidy : OffIsTidy
unfolding reset_with
off-is_tidy opening script size n h = off-runs_are_tidy script n (start rule_free opening size) refl h
