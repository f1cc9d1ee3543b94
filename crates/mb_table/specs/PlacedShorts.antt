-- Short forms by where their words stand.
use Rattle.mb_table.specs.Short.{IsShort}
use Rattle.mb_table.specs.declared.placed_shorts.Placed.{Placed}

-- what is kept is the short form of its word
abbrev pub IsPlaced : Placed → Type 0
IsPlaced p = IsShort p.first p.form
