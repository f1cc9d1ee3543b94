use Rattle.std.proofs.Common.{◌≡◌, take}
use Rattle.mb_program.specs.Saves.{turn_each}
use Rattle.mb_program.proofs.saved.turns_of.Given as goal

abbrev pub invariant-loop-index : goal.invariant-loop-index
invariant-loop-index l = l.turns.items ≡ turn_each 1 l.steps (take l.index l.guests)
