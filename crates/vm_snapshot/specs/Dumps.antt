-- The rows of a dump are those of the outcome text.
use Rattle.std.specs.Prelude.{◌≡◌, ℕ, List, length}
use Rattle.mb_report.specs.Text.{all_rows, dump_line}
use Rattle.vm_snapshot.specs.Memory.{AreBytes, dump}

abbrev pub DumpsAreRows : Type 0
DumpsAreRows = (bytes : List ℕ) → AreBytes bytes → (dump (length bytes)).write bytes ≡ all_rows dump_line 32 bytes
