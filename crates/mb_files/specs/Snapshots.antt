-- A snapshot, as a kind of file.
use Rattle.std.specs.Prelude.{◌≡◌, ⊤, ℕ, Result, Err}
use Rattle.std.specs.Result.{result_map_both}
use Rattle.mb_spelling.specs.Places.{read_whole}
use Rattle.vm_snapshot.specs.Guests.{snapshot}
use Rattle.vm_snapshot.specs.Plans.{IsRead, Plan, plan_of}
use Rattle.vm_snapshot.specs.declared.plan.SnapFault.{SnapFault}
use Rattle.vm_snapshot.specs.declared.plan.SnapFault.TheVariants as snap_fault
use Rattle.mb_words.specs.Words.{Text}
use Rattle.mb_files.specs.Reading.{at_most}
use Rattle.mb_files.specs.declared.fault.FileWhy.{FileWhy}
use Rattle.mb_files.specs.declared.fault.FileWhy.TheVariants.{Line}
use Rattle.mb_files.specs.declared.fault.Reason.TheVariants.{Snapshot}
use Rattle.mb_files.specs.declared.files.TheConstants.{MOST_SNAPSHOT_BYTES}

-- the first line up to which a text begins no snapshot
abbrev pub snapshot_why : ℕ → FileWhy
snapshot_why number = Line number Snapshot

-- what a text says, or why it is none
abbrev pub plan_in : Text → Result Plan FileWhy
plan_in bytes = result_map_both plan_of snapshot_why (read_whole snapshot bytes)

abbrev pub snapshots : Text → Result Plan FileWhy
snapshots = at_most MOST_SNAPSHOT_BYTES plan_in

-- a fault of reading a text is what the text comes to, but for want of memory
abbrev pub FaultsAs : Result Plan FileWhy → SnapFault → Type 0
FaultsAs known snap_fault.Memory = ⊤
FaultsAs known (snap_fault.Line number) = known ≡ Err (snapshot_why number)

-- a plan of which there is a text
abbrev pub IsSaid : Plan → Type 0
IsSaid plan = (text : Text) × IsRead text plan
