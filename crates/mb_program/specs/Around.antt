-- What stands around a run.
use Rattle.std.specs.Prelude.{◌⊎◌, ℕ, Option}
use Rattle.mb_outside.specs.declared.shelf.Shelf as shelves
use Rattle.mb_outside.specs.declared.sink.Sink as sinks
use Rattle.mb_outside.specs.Prints.{Printed, PrintedPart}
use Rattle.mb_words.specs.Words.{Text}
use Rattle.def_runs.specs.Native.{NativeState}
use Rattle.mb_files.specs.Shelves.{ShelfSeen, shelf_seen}

-- A sink: what it took, where it tells that, and its count of faults.
pub record SinkSeen : Type 0 where
  pub taken : Option Text
  pub faults : ℕ

-- by what a sink's type shows: a clause has that as O.Sink
abbrev pub sink_seen : {S : Type 0} → sinks.Ghosts S → S → SinkSeen
sink_seen ghosts s = record { taken = ghosts.taken s; faults = ghosts.faults s }

-- The shelf, out, and what is counted of boards in user mode, before a run and after it.
pub record Around : Type 0 where
  pub shelf : ShelfSeen
  pub shelf_after : ShelfSeen
  pub out : SinkSeen
  pub out_after : SinkSeen
  pub native : NativeState
  pub native_after : NativeState

-- around a call, by what a shelf and a sink show
abbrev pub around_of : {S O : Type 0} → shelves.Ghosts S → sinks.Ghosts O
    → (shelf shelf_after : S) → (out out_after : O) → (native native_after : NativeState) → Around
around_of shelf_ghosts sink_ghosts shelf shelf_after out out_after native native_after = record {
  shelf = shelf_seen shelf_ghosts shelf;
  shelf_after = shelf_seen shelf_ghosts shelf_after;
  out = sink_seen sink_ghosts out;
  out_after = sink_seen sink_ghosts out_after;
  native = native;
  native_after = native_after;
}

-- Diag, before a run and after it.
pub record Diag : Type 0 where
  pub before : SinkSeen
  pub after : SinkSeen

abbrev pub diag_of : {E : Type 0} → sinks.Ghosts E → (diag diag_after : E) → Diag
diag_of ghosts diag diag_after = record { before = sink_seen ghosts diag; after = sink_seen ghosts diag_after }

-- A sink has gained exactly this text, or a first part of it before it failed.
abbrev pub Gains : SinkSeen → SinkSeen → Text → Type 0
Gains sink after text = Printed sink.taken after.taken sink.faults after.faults text

abbrev pub GainsPart : SinkSeen → SinkSeen → Text → Type 0
GainsPart sink after text = PrintedPart sink.taken after.taken sink.faults after.faults text

-- the line was put on diag, or a first part of it before diag failed, and nothing more
abbrev pub IsPut : Diag → Text → Type 0
IsPut diag line = Gains diag.before diag.after line ⊎ GainsPart diag.before diag.after line
