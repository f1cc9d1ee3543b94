use Rattle.std.proofs.Common.{◌≡◌, map, take}
use Rattle.mb_program.specs.Compares.{ahead_of, at_start}
use Rattle.mb_program.proofs.compared.bare_machines.Given as goal

abbrev pub invariant-loop-guest : goal.invariant-loop-guest
invariant-loop-guest l = map ahead_of l.machines.items ≡ map at_start (take l.guest-index l.guests)
