-- What is stacked, as the definitions see it.
use Rattle.std.specs.Prelude.{Option, Some, None}
use Rattle.def_processor.specs.Entry as entry
use Rattle.mb_entry.specs.declared.stacking.Stacked.{Stacked}
use Rattle.mb_entry.specs.declared.stacking.Frames.{Frames}

abbrev pub seen : Stacked → entry.Stacked
seen s = record { at = s.at; bytes = s.bytes.items }

abbrev pub seen_second : Option Stacked → Option entry.Stacked
seen_second None = None
seen_second (Some s) = Some (seen s)

abbrev pub frames_seen : Frames → entry.Frames
frames_seen f = record { first = seen f.first; second = seen_second f.second }
