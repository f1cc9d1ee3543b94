use Rattle.std.proofs.Common.{◌≡◌, ◌+◌, ◌≤◌, drop, take}
use Rattle.std.specs.Prelude.{All, None}
use Rattle.vm_snapshot.specs.Shown.{IsEntry}
use Rattle.vm_snapshot.specs.Writing.{count_from}
use Rattle.vm_snapshot.proofs.input_writing.line_count.Given as goal

abbrev pub invariant-loop-place : goal.invariant-loop-place
invariant-loop-place l = record {
  counted : l.lines + count_from l.steps l.begun (drop l.place l.script) ≡ count_from l.steps None l.script;
  few : l.lines ≤ l.place;
  entries : All IsEntry (take l.place l.script);
}
