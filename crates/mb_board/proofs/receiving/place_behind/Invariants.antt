use Rattle.std.proofs.Common.{ℕ, ◌-◌, ◌≤◌, ◌<◌, length}
use Rattle.mb_board.specs.Arrivals.{due_at}
use Rattle.mb_board.proofs.receiving.place_behind.Given as goal

abbrev pub invariant-loop-low : goal.invariant-loop-low
invariant-loop-low l = record {
  apart : l.low ≤ l.high;
  within : l.high ≤ length l.script;
  past : (place : ℕ) → place < l.low → due_at l.script place ≤ l.step;
  later : (place : ℕ) → l.high ≤ place → place < length l.script → l.step < due_at l.script place;
}

abbrev pub decreases-loop-low : goal.decreases-loop-low
decreases-loop-low l = l.high - l.low
