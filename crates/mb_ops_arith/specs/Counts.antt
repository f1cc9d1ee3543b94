-- The numbers that say by how many bits a register is shifted.
use Rattle.std.specs.Prelude.{ℕ, ◌<◌, Bool, true, false}

-- the number of a data register, or the count
abbrev pub IsCount : Bool → ℕ → Type 0
IsCount true number = number < 8
IsCount false number = number < 64
