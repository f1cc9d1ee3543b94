-- The least that leaves a free board no choice, and that tidy runs have it.
use Rattle.std.specs.Prelude.{◌≡◌, ◌↔◌, ℕ, Option, Some, None, IfSome}
use Rattle.mb_port.specs.Routine.{Call}
use Rattle.mb_model.specs.declared.kept.Kept.{Kept}
use Rattle.law_routines.specs.Relations.{NoChoice}
use Rattle.def_machine.specs.declared.reference.Reference.{Reference}
use Rattle.def_machine.specs.World.{World}
use Rattle.def_machine.specs.Access.{untranslated, search_for, searched, through, translated}
use Rattle.def_machine.specs.Bus.{reference_of}
use Rattle.def_machine.specs.Machine.{Entries, Machine}
use Rattle.def_runs.specs.Free.{IsKept, rule_free, with_class_entry, FreeCall, FreeRun, WorldWithin, Within}
use Rattle.def_runs.specs.Tidy.{searching_bus, searching_run, Counts, IsTidyCall, IsTidyRun}
use Rattle.law_tidy.specs.Runs.{AlongRun}

-- ---- an access

-- The entry leads where a search leads, or refuses where it does, and the search changes no byte.
pub record LeadsThere (r : Reference) (w : World) (k : Kept) : Type 0 where
  pub place : let (found, _) = searched rule_free (with_class_entry None w) r in through k r ≡ found
  pub still : (search_for w r).ram ≡ w.ram

-- Where the tables decide, each entry that counts leads there.
abbrev pub OneWayReference : Option Reference → World → Type 0
OneWayReference None w = Unit {0}
OneWayReference (Some r) w = untranslated w.mmu r ≡ None → (k : Kept) → Counts r w k → LeadsThere r w k

abbrev pub IsOneWayCall : Call → World → Type 0
IsOneWayCall c w = OneWayReference (reference_of c) w

-- The same place and the same memory with this entry taken into the class, or none, as where none is.
pub record SameByAny (r : Reference) (w : World) (entry : Option Kept) : Type 0 where
  pub place : let (used, _) = translated rule_free r (with_class_entry entry w) in
      let (found, _) = translated rule_free r (with_class_entry None w) in used ≡ found
  pub memory : let (_, after) = translated rule_free r (with_class_entry entry w) in
      let (_, alone) = translated rule_free r (with_class_entry None w) in after.ram ≡ alone.ram

-- ---- a run

abbrev pub IsOneWayRun : Entries → ℕ → Machine → Type 0
IsOneWayRun script n m = AlongRun IsOneWayCall script n m

-- ---- laws

-- A reference has one way just where all its free translations agree.
abbrev pub OneWayIsLeast : Type 0
OneWayIsLeast = (r : Reference) (w : World) → OneWayReference (Some r) w
    ↔ ((entry : Option Kept) → IfSome entry (λ k. IsKept k w.kept) → SameByAny r w entry)

-- One way is enough: a free board has no choice, and each free run is, but for what is kept, the run that searches.
abbrev pub OneWayCallsHaveNoChoice : Type 0
OneWayCallsHaveNoChoice = NoChoice (λ s t. WorldWithin t s) IsOneWayCall searching_bus FreeCall

abbrev pub OneWayRunsSearch : Type 0
OneWayRunsSearch = (script : Entries) (n : ℕ) (m free end : Machine) → Within free m → IsOneWayRun script n m
    → FreeRun script n free end → Within end (searching_run script n m)

-- And tidy runs have it.
abbrev pub TidyCallsAreOneWay : Type 0
TidyCallsAreOneWay = (c : Call) (w : World) → IsTidyCall c w → IsOneWayCall c w

abbrev pub TidyRunsAreOneWay : Type 0
TidyRunsAreOneWay = (script : Entries) (n : ℕ) (m : Machine) → IsTidyRun script n m → IsOneWayRun script n m
