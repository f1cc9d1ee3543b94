-- Whether a run is tidy, as a test that computes.
use Rattle.std.specs.Prelude.{◌≡◌, ◌↔◌, ℕ, zero, suc, ◌==◌, Bool, true, false, not, ◌&&◌, ◌||◌, if◌then◌else◌}
use Rattle.std.specs.Prelude.{Option, Some, None, is_some}
use Rattle.std.specs.List.{list_all}
use Rattle.std.specs.Str.{bytes_eq}
use Rattle.mb_port.specs.Routine.{Call, Routine, Return, Ask, Then, Bus, run}
use Rattle.mb_model.specs.declared.kept.Kept.{Kept}
use Rattle.mb_model.specs.Keeping.{is_of}
use Rattle.mb_model.specs.Pages.{page_of}
use Rattle.mb_walk.specs.declared.found.Found.{Found}
use Rattle.mb_walk.specs.declared.found.Found.TheVariants.{Entry, Invalid, BusError}
use Rattle.def_processor.specs.Step.{step_of}
use Rattle.def_machine.specs.declared.reference.Reference.{Reference}
use Rattle.def_machine.specs.World.{World}
use Rattle.def_machine.specs.Access.{untranslated, marks, search_for}
use Rattle.def_machine.specs.Bus.{reference_of}
use Rattle.def_machine.specs.Machine.{Machine, Opening, Entries, begun, takes_steps, start, asked_of}
use Rattle.def_runs.specs.Free.{rule_free}
use Rattle.def_runs.specs.Tidy.{searching_bus, searching_step, IsTidyRun, Tidy}

-- ---- an access

abbrev pub same_bit : Bool → Bool → Bool
same_bit true b = b
same_bit false b = not b

-- an entry that is kept counts
abbrev pub counts : Reference → Kept → Bool
counts r k = is_of r.space (page_of r.at) k && not (marks k r)

-- what was found has the frame, W and S of an entry
abbrev pub is_found_as : Found → Kept → Bool
is_found_as (Entry found status) k = (found.frame == k.frame) && (same_bit found.w k.w && same_bit found.s k.s)
is_found_as Invalid k = false
is_found_as BusError k = false

abbrev pub agrees : Reference → World → Kept → Bool
agrees r w k = is_found_as (search_for w r).found k && bytes_eq (search_for w r).ram w.ram

abbrev pub is_tidy_entry : Reference → World → Kept → Bool
is_tidy_entry r w k = if counts r k then agrees r w k else true

abbrev pub is_tidy_reference : Option Reference → World → Bool
is_tidy_reference None w = true
is_tidy_reference (Some r) w = is_some (untranslated w.mmu r) || list_all (list_all (is_tidy_entry r w)) w.kept

abbrev pub is_tidy_call : Call → World → Bool
is_tidy_call c w = is_tidy_reference (reference_of c) w

-- ---- a run

-- a test passes at each call of the run
abbrev pub passes_along : {S A : Type 0} → (Call → S → Bool) → Bus S → Routine A → S → Bool
passes_along test bus (Return a) s = true
passes_along test bus (Ask c) s = test c s
passes_along test bus (Then m f) s =
    passes_along test bus m s && (let (answer, after) = run bus m s in passes_along test bus (f answer) after)

abbrev pub is_tidy_step : Entries → Machine → Bool
is_tidy_step script m =
    let b = begun script m in passes_along is_tidy_call searching_bus (step_of (asked_of script b) b.cpu) b.world

unfoldable pub is_tidy_run : Entries → ℕ → Machine → Bool
is_tidy_run script zero m = true
is_tidy_run script (suc n) m =
    if takes_steps m.state then is_tidy_step script m && is_tidy_run script n (searching_step script m) else true

abbrev pub is_tidy : Opening → Entries → (size n : ℕ) → Bool
is_tidy opening script size n = is_tidy_run script n (start rule_free opening size)

-- ---- laws

-- The test passes just where the run is tidy, and just where the opening is.
abbrev pub TidyRunsAreTold : Type 0
TidyRunsAreTold = (script : Entries) (n : ℕ) (m : Machine) → (is_tidy_run script n m ≡ true) ↔ IsTidyRun script n m

abbrev pub TidyIsTold : Type 0
TidyIsTold = (opening : Opening) (script : Entries) (size n : ℕ)
    → (is_tidy opening script size n ≡ true) ↔ Tidy opening script size n
