use Rattle.std.proofs.Common.{◌≡◌, ℕ, ◌+◌, ◌≤◌, ◌<◌, ◌||◌, length, drop}
use Rattle.def_machine.specs.Machine.{aborts, arrived}
use Rattle.mb_board.specs.Arrivals.{due_at}
use Rattle.mb_board.proofs.receiving.receive_due.Given as goal

abbrev pub invariant-loop-place : goal.invariant-loop-place
invariant-loop-place l = record {
  rest : arrived (l.taken + 1) (drop l.place l.script) l.devices ≡ arrived (l.taken + 1) l.script l.initial.devices;
  so_far : (l.aborted || aborts (l.taken + 1) (drop l.place l.script)) ≡ aborts (l.taken + 1) l.script;
  past : (place : ℕ) → place < l.place → due_at l.script place ≤ l.taken + 1;
  later : (place : ℕ) → l.place ≤ place → place < length l.script → l.taken < due_at l.script place;
}
