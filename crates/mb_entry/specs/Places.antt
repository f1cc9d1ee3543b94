-- What the checks of frames answer.
use Rattle.std.specs.Prelude.{List, length, Option, Some, None, Result, Ok, Err}
use Rattle.mb_port.specs.declared.types.Place.{Place}
use Rattle.mb_port.specs.declared.types.Fault.{Fault}
use Rattle.mb_writes.specs.Checked.{AreOpen}
use Rattle.def_processor.specs.Entry as entry
use Rattle.mb_entry.specs.declared.stacking.Stacked.{Stacked}
use Rattle.mb_entry.specs.declared.places.Places.{Places}

-- the places of a second frame, where there is one, exist and have its bytes
abbrev pub Covers : (Place → Type 0) → Option Stacked → List Place → Type 0
Covers Exists None places = Unit {0}
Covers Exists (Some s) places = AreOpen Exists (length s.bytes.items) places

abbrev pub places_seen : Places → entry.Places
places_seen p = record { first = p.first.items; second = p.second.items }

-- a check of all frames, with the places after it
abbrev pub placed : Result (Unit {0}) Fault → Places → Result entry.Places Fault
placed (Ok done) places = Ok (places_seen places)
placed (Err fault) places = Err fault
