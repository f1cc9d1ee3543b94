-- What the bits that are left do to memory is what all do to it as it was.
use Rattle.std.proofs.Common.{◌≡◌, drop, length}
use Rattle.try_runs.specs.Cases.{settled_in}
use Rattle.try_runs.specs.declared.cases.chunk.TheConstants.{RAM_SIZE}
use Rattle.try_runs.proofs.cases.machine.settle.Given as goal

abbrev pub invariant-loop-byte : goal.invariant-loop-byte
invariant-loop-byte l = record {
  settles : settled_in (drop l.byte-index l.unsaid) l.said l.got ≡ settled_in l.unsaid l.initial.said l.got;
  size : length l.said ≡ RAM_SIZE;
}
