-- Every run is a free run, and what a free board does at a call.
use Rattle.std.specs.Prelude.{◌≡◌, ◌⊎◌, ℕ, Bool, true, false, ◌&&◌, List, Option, Some, None, IfSome, IsSomeAnd, is_none}
use Rattle.mb_port.specs.Routine.{Call, Answer, FlushKept, Test}
use Rattle.mb_model.specs.declared.kept.Kept.{Kept}
use Rattle.mb_model.specs.Keeping.{Rule, covers, is_of, is_half_of}
use Rattle.mb_walk.specs.declared.found.Found.TheVariants.{Entry}
use Rattle.mb_devices.specs.Devices.{DeviceState}
use Rattle.law_routines.specs.Relations.{MayFollow}
use Rattle.law_routines.specs.Refusal.{any_call}
use Rattle.def_machine.specs.declared.reference.Reference.{Reference}
use Rattle.def_machine.specs.declared.reference.Settled.TheVariants.{Unsettled}
use Rattle.def_machine.specs.World.{World}
use Rattle.mb_model.specs.Pages.{page_of, has_big_pages}
use Rattle.def_machine.specs.Access.{matched, marks, search_for, searched, settled, through, translated, untranslated}
use Rattle.def_machine.specs.Bus.{bus_of, reference_of}
use Rattle.def_machine.specs.Machine.{Entries, Machine, reset_with, run_of}
use Rattle.def_runs.specs.Free.{IsKept, rule_free, with_class_entry, FreeCall, FreeRun, WorldWithin, Within, IsFreeRun}

-- ---- every run is free

-- Whatever the bus by a rule does at a call, the free bus may do too.
abbrev pub CallsAreFree : Type 0
CallsAreFree = (rule : Rule) → MayFollow WorldWithin any_call (bus_of rule) FreeCall

-- A run by a rule is a free run.
abbrev pub RunsAreFree : Type 0
RunsAreFree = (rule : Rule) (script : Entries) (n : ℕ) (m : Machine) → IsFreeRun script n m (run_of rule script n m)

-- So the machine after a run from reset is, but for what is kept, that of a free run from reset with the same memory,
-- devices, script and steps, and each of its kept entries stands in that run's.
abbrev pub RunsFromResetAreFree : Type 0
RunsFromResetAreFree = (rule : Rule) (script : Entries) (n : ℕ) (devices : DeviceState) (ram : List ℕ)
    → (end : Machine) × FreeRun script n (reset_with rule_free devices ram) end
    × Within (run_of rule script n (reset_with rule devices ram)) end

-- ---- an access

-- Where an access through the tables leads, with the entry that is taken into the class. One of its page and space is
-- used, but for a write that marks the page; else the tables are searched.
pub record UsesOrSearches (r : Reference) (w : World) : Type 0 where
  pub uses : (k : Kept) → is_of r.space (page_of r.at) k ≡ true → marks k r ≡ false
      → translated rule_free r (with_class_entry (Some k) w) ≡ (through k r, with_class_entry (Some k) w)
  pub marked : (k : Kept) → is_of r.space (page_of r.at) k ≡ true → marks k r ≡ true
      → translated rule_free r (with_class_entry (Some k) w) ≡ searched rule_free (with_class_entry (Some k) w) r
  pub other : (k : Kept) → is_of r.space (page_of r.at) k ≡ false
      → translated rule_free r (with_class_entry (Some k) w) ≡ searched rule_free (with_class_entry (Some k) w) r
  pub none : translated rule_free r (with_class_entry None w) ≡ searched rule_free (with_class_entry None w) r

abbrev pub AccessesUseOrSearch : Type 0
AccessesUseOrSearch = (r : Reference) (w : World) → untranslated w.mmu r ≡ None → UsesOrSearches r w

-- ---- what is kept

-- does a call drop an entry: a flush that covers it, or a PTEST of its page where no transparent register matches, or
-- of the other half of it where pages have 8 KiB
abbrev pub drops : Call → World → Kept → Bool
drops (FlushKept what) w k = covers what k
drops (Test space at write) w k =
    let page = page_of at in
    is_none (matched false w.mmu space page) && is_half_of (has_big_pages w.mmu) space page k
drops other w k = false

-- A search for the reference finds the entry.
abbrev pub IsFound : World → Kept → Reference → Type 0
IsFound w k r = (status : ℕ) × ((search_for w r).found ≡ Entry k status)

-- An entry that was kept stays, where the call does not drop it. Only such entries are kept then, and one that the call
-- searched out.
pub record KeepsFound (c : Call) (w after : World) (k : Kept) : Type 0 where
  pub stays : IsKept k w.kept → drops c w k ≡ false → IsKept k after.kept
  pub only : IsKept k after.kept → (IsKept k w.kept × (drops c w k ≡ false)) ⊎ IsSomeAnd (reference_of c) (IsFound w k)

abbrev pub FreeBoardsKeep : Type 0
FreeBoardsKeep = (c : Call) (w after : World) (answer : Answer c) → FreeCall c w answer after → (k : Kept)
    → KeepsFound c w after k

-- The reference is searched for, with this entry taken into the class: nothing that is known settles where it leads.
abbrev pub Searches : Option Kept → World → Reference → Type 0
Searches entry w r = settled rule_free w.mmu (with_class_entry entry w).kept r ≡ Unsettled

-- What a call searched out is kept after it.
abbrev pub FreeBoardsFill : Type 0
FreeBoardsFill = (c : Call) (w : World) (entry : Option Kept) (k : Kept)
    → IfSome (reference_of c) (λ r. Searches entry w r → IsFound w k r
    → let (_, after) = bus_of rule_free c (with_class_entry entry w) in IsKept k after.kept)
