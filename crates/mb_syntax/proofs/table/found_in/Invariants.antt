use Rattle.std.proofs.Common.{◌≡◌, map, drop}
use Rattle.mb_syntax.specs.Tables.{found_in, row_said}
use Rattle.mb_syntax.proofs.table.found_in.Given as goal

-- what is found in the rest is what is found in all
abbrev pub invariant-loop-name : goal.invariant-loop-name
invariant-loop-name g l = found_in (map row_said (drop l.name-index l.table)) l.word ≡ found_in (map row_said l.table) l.word
