-- How an answer of the code stands to what the definition gives.
use Rattle.std.specs.Prelude.{◌≡◌, Result, Ok, Err}
use Rattle.mb_srec.specs.declared.fault.ImageFault.{ImageFault}
use Rattle.mb_srec.specs.declared.fault.ImageFault.TheVariants.{Memory, Line, Outside, NoEnd}
use Rattle.mb_srec.specs.declared.fault.RecordWhy.{RecordWhy}
use Rattle.mb_srec.specs.declared.record.RecordFault.{RecordFault}
use Rattle.mb_srec.specs.declared.record.RecordFault.TheVariants as line_fault
use Rattle.mb_srec.specs.declared.record.Record.{Record}
use Rattle.mb_srec.specs.declared.record.Record.TheVariants.{Header, Data, Count, End}
use Rattle.mb_srec.specs.declared.reading.Reading.{Reading}
use Rattle.mb_srec.specs.Faults.{Fault}
use Rattle.mb_srec.specs.Faults as fault
use Rattle.mb_srec.specs.Image.{all_contents}
use Rattle.mb_srec.specs.Records as records

-- a fault is the one that is given, unless memory ran out
abbrev pub Faults : {Y : Type 0} → ImageFault → Result Y Fault → Type 0
Faults Memory given = Unit {0}
Faults (Line number why) given = given ≡ Err (fault.Line number why)
Faults (Outside at) given = given ≡ Err (fault.Outside at)
Faults NoEnd given = given ≡ Err fault.NoEnd

-- the answer, seen by view, is what is given, unless memory ran out
abbrev pub Gives : {X Y : Type 0} → (X → Y) → Result X ImageFault → Result Y Fault → Type 0
Gives view (Ok x) given = given ≡ Ok (view x)
Gives view (Err e) given = Faults e given

-- the same for what one line says by itself
abbrev pub FaultsAlone : {Y : Type 0} → RecordFault → Result Y RecordWhy → Type 0
FaultsAlone line_fault.Memory given = Unit {0}
FaultsAlone (line_fault.Why why) given = given ≡ Err why

abbrev pub GivesAlone : {X Y : Type 0} → (X → Y) → Result X RecordFault → Result Y RecordWhy → Type 0
GivesAlone view (Ok x) given = given ≡ Ok (view x)
GivesAlone view (Err e) given = FaultsAlone e given

abbrev pub said : Record → records.Record
said Header = records.Header
said (Data chunk) = records.Data chunk.at chunk.bytes.items
said (Count number) = records.Count number
said End = records.End

abbrev pub so_far : Reading → records.Reading
so_far reading = record { contents = all_contents reading.chunks.items; ended = reading.ended }
