-- What registers spell, as far as a sum modulo 2^64 knows it.
use Rattle.std.specs.Prelude.{◌≡◌, ℕ, ◌+◌, ◌-◌, ◌*◌, ◌%◌, ◌^◌, ◌<◌, List}
use Rattle.mb_instr.specs.declared.registers.Plain.{Plain}
use Rattle.mb_instr.specs.Registers.{plain_of}
use Rattle.def_machine.specs.Machine.{Machine}
use Rattle.def_runs.specs.Marks.{numbers_of, spelled, with_spelled, HasNumbers}
use Rattle.def_runs.specs.Native.{NativeState, about_to_run, with_retired}
use Rattle.mb_board.specs.Fits.{Continues, IsFit}

-- The eighteen numbers of registers, which a processor may have, spell this, modulo 2^64.
pub record Spell (p : Plain) (sum : ℕ) : Type 0 where
  pub numbers : HasNumbers p
  pub fit : IsFit p
  pub remainder : sum ≡ spelled (numbers_of p) % 2 ^ 64

-- what eight data registers and eight address registers spell with what stands behind them
abbrev pub spelled_in_parts : (d a : List ℕ) (behind : ℕ) → ℕ
spelled_in_parts d a behind = (spelled d * 31 ^ 10 + spelled a * 31 ^ 2 + behind) % 2 ^ 64

-- what PC and the condition codes spell
abbrev pub flow_of : Plain → ℕ
flow_of p = p.pc * 31 + p.ccr

-- what the registers before PC spell, with two zeros behind them
abbrev pub without_flow : Plain → ℕ
without_flow p = spelled_in_parts p.d p.a 0

-- A step was carried out, whose registers spell these at its beginning and at its end.
abbrev pub IsRetired : (beginning end : ℕ) (native after : NativeState) → Type 0
IsRetired beginning end native after =
    (p q : Plain) → Spell p beginning → Spell q end → after ≡ with_retired p q native

-- what a trail is multiplied by for a step's two spellings, modulo 2^64
abbrev pub step_places : ℕ
step_places = 31 ^ 36 % 2 ^ 64

-- The trail behind so many steps, which began with this one. What their ends spell is summed by itself, in the same
-- places.
abbrev pub gathered : (begun steps ends : ℕ) → ℕ
gathered begun steps ends = (begun * step_places ^ steps + ends * (31 ^ 18 + 1)) % 2 ^ 64

-- Registers, at which a step begins, have come to the trail of what is counted before it, which became this.
pub record Begins (p : Plain) (native : NativeState) (trail : ℕ) : Type 0 where
  pub numbers : HasNumbers p
  pub fit : IsFit p
  pub small : native.trail < 2 ^ 64
  pub entered : trail ≡ with_spelled native.trail (spelled (numbers_of p))

-- So many steps, of at most so many, led from one machine to another, and the trail has all their registers.
pub record Leads (limit taken : ℕ) (from m : Machine) (native : NativeState) (trail : ℕ) : Type 0 where
  -- what is counted behind them
  pub counted : NativeState
  pub begins : Begins (plain_of m.cpu.regs) counted trail
  pub retired : counted.retired ≡ native.retired + taken
  pub exceptions : counted.exceptions ≡ native.exceptions
  pub continues : (n : ℕ) → limit < n → Continues n (about_to_run from native (plain_of from.cpu.regs))
      (n - taken) (about_to_run m counted (plain_of m.cpu.regs))
