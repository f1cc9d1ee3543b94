-- Entries behind others.
use Rattle.std.proofs.Common.{List, ◌++◌, Result, Ok}
use Rattle.mb_lines.specs.Lines.{Line}
use Rattle.mb_lines.specs.Results.{◌>>=◌}
use Rattle.mb_script.specs.Faults.{Fault}
use Rattle.mb_script.specs.Plan.{Guest}

-- what was read, and then what is read
abbrev pub with_front : {A : Type 0} → List A → Result (List A) Fault → Result (List A) Fault
with_front front read = read >>= λ later. Ok (front ++ later)

-- guests that were read, and then those that are read, with the lines behind them
abbrev pub with_guests : List Guest → Result (List Guest × List Line) Fault → Result (List Guest × List Line) Fault
with_guests front read = read >>= λ later. Ok (front ++ later.0, later.1)
