-- A place in a script.
use Rattle.std.specs.Prelude.{◌≤◌, ◌<◌, ℕ, length, slice_index_or}
use Rattle.mb_script.specs.declared.entry.Entry.{Entry}
use Rattle.mb_script.specs.declared.input.Input.TheVariants.{Abort}
use Rattle.def_machine.specs.Machine.{Entries}

-- what is read where no entry stands
abbrev pub no_entry : Entry
no_entry = record { step = 0; input = Abort }

-- the step of the entry at a place
abbrev pub due_at : Entries → ℕ → ℕ
due_at script place = (slice_index_or script place no_entry).step

-- Before the place stand the entries of the steps up to this one, and from it on those of later steps.
pub record IsNext (script : Entries) (step : ℕ) (next : ℕ) : Type 0 where
  pub within : next ≤ length script
  pub past : (place : ℕ) → place < next → due_at script place ≤ step
  pub later : (place : ℕ) → next ≤ place → place < length script → step < due_at script place
