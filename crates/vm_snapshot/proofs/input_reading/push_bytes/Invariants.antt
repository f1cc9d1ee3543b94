use Rattle.std.proofs.Common.{◌≡◌, ◌++◌, drop}
use Rattle.std.specs.Prelude.{map}
use Rattle.vm_snapshot.specs.Runs.{entry_of}
use Rattle.vm_snapshot.proofs.input_reading.push_bytes.Given as goal

abbrev pub invariant-loop-byte : goal.invariant-loop-byte
invariant-loop-byte l =
    l.entries.items ++ map (entry_of l.step) (drop l.byte-index l.bytes) ≡ l.initial.entries.items ++ map (entry_of l.step) l.bytes
