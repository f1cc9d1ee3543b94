-- Tidy runs: those in which no translation that was kept is ever used stale.
use Rattle.std.specs.Prelude.{◌≡◌, ◌⊎◌, ◌↔◌, ℕ, zero, suc, true, false, Option, Some, None, IsSomeAnd, if◌then◌else◌}
use Rattle.mb_port.specs.Routine.{Call, Bus, run}
use Rattle.mb_model.specs.declared.kept.Kept.{Kept}
use Rattle.mb_model.specs.Keeping.{is_of}
use Rattle.mb_model.specs.Pages.{page_of}
use Rattle.mb_walk.specs.declared.found.Found.TheVariants.{Entry}
use Rattle.law_routines.specs.Relations.{Along}
use Rattle.def_processor.specs.Step.{step_of}
use Rattle.def_machine.specs.declared.reference.Reference.{Reference}
use Rattle.def_machine.specs.World.{World}
use Rattle.def_machine.specs.Access.{untranslated, marks, search_for, searched, translated}
use Rattle.def_machine.specs.Bus.{bus_of, reference_of}
use Rattle.def_machine.specs.Machine.{Machine, Opening, Entries, begun, one_later, takes_steps, start, asked_of}
use Rattle.def_runs.specs.Free.{IsKept, rule_free, with_class_entry}
use Rattle.def_runs.specs.Laws.{drops, IsFound}

-- ---- the run that searches at each access

-- What is searched out is kept beside all others, and never used. So what is kept is the past: what searches have found
-- since the last flush or PTEST that covers it.
abbrev pub searching_bus : Bus World
searching_bus c w = bus_of rule_free c (with_class_entry None w)

-- a step over that bus
abbrev pub searching_step : Entries → Machine → Machine
searching_step script m =
    let b = begun script m in
    let (stepped, after) = run searching_bus (step_of (asked_of script b) b.cpu) b.world in
    let (ended, cpu) = stepped in one_later b ended cpu after

-- The machine after so many steps, or fewer where it is halted or off.
unfoldable pub searching_run : Entries → ℕ → Machine → Machine
searching_run script zero m = m
searching_run script (suc n) m =
    if takes_steps m.state then searching_run script n (searching_step script m) else m

-- ---- a tidy access

-- An entry of the page and space counts, unless the reference is a write that marks its page.
pub record Counts (r : Reference) (w : World) (k : Kept) : Type 0 where
  pub kept : IsKept k w.kept
  pub of : is_of r.space (page_of r.at) k ≡ true
  pub used : marks k r ≡ false

-- The search finds an entry with the frame, W and S of this one, and changes no byte of RAM.
pub record Agrees (r : Reference) (w : World) (k : Kept) : Type 0 where
  pub entry : Kept
  pub status : ℕ
  pub found : (search_for w r).found ≡ Entry entry status
  pub frame : entry.frame ≡ k.frame
  pub same_w : entry.w ≡ k.w
  pub same_s : entry.s ≡ k.s
  pub still : (search_for w r).ram ≡ w.ram

-- Where the tables decide, each entry that counts agrees with what the search finds.
abbrev pub IsTidyReference : Option Reference → World → Type 0
IsTidyReference None w = Unit {0}
IsTidyReference (Some r) w = untranslated w.mmu r ≡ None → (k : Kept) → Counts r w k → Agrees r w k

abbrev pub IsTidyCall : Call → World → Type 0
IsTidyCall c w = IsTidyReference (reference_of c) w

-- ---- a tidy run

-- each access of a step is tidy
abbrev pub IsTidyStep : Entries → Machine → Type 0
IsTidyStep script m =
    let b = begun script m in Along IsTidyCall searching_bus (step_of (asked_of script b) b.cpu) b.world

-- and each of so many steps
abbrev pub IsTidyRun : Entries → ℕ → Machine → Type 0
IsTidyRun script zero m = Unit {0}
IsTidyRun script (suc n) m =
    takes_steps m.state ≡ true → IsTidyStep script m × IsTidyRun script n (searching_step script m)

-- An opening is tidy with a script, so much RAM and so many steps.
abbrev pub Tidy : Opening → Entries → (size n : ℕ) → Type 0
Tidy opening script size n = IsTidyRun script n (start rule_free opening size)

-- ---- what has been searched out

-- Each access that no transparent register and no clear bit E decides searches.
abbrev pub EachAccessSearches : Type 0
EachAccessSearches = (r : Reference) (w : World) → untranslated w.mmu r ≡ None
    → translated rule_free r (with_class_entry None w) ≡ searched rule_free (with_class_entry None w) r

-- A reference searches the entry out.
pub record SearchesOut (w : World) (k : Kept) (r : Reference) : Type 0 where
  pub searches : untranslated w.mmu r ≡ None
  pub found : IsFound w k r

-- After a call that has been searched out which was before, unless a flush or PTEST has covered it, and what the call
-- itself searches out.
abbrev pub PastIsWhatWasSearchedOut : Type 0
PastIsWhatWasSearchedOut = (c : Call) (w : World) (k : Kept) → let (_, after) = searching_bus c w in
    IsKept k after.kept
    ↔ ((IsKept k w.kept × (drops c w k ≡ false)) ⊎ IsSomeAnd (reference_of c) (SearchesOut w k))
