-- Registers as a processor has them, at each step of a run in user mode.
use Rattle.std.specs.Prelude.{◌≡◌, ℕ, zero, suc, ◌^◌, ◌<◌, true, length, All}
use Rattle.mb_instr.specs.declared.registers.Plain.{Plain}
use Rattle.mb_instr.specs.Registers.{plain_of}
use Rattle.def_runs.specs.Native.{Ran, goes_on, ran_by, user_run, user_step}

-- D0 to D7 and A0 to A7 are longs, and so is PC.
pub record IsFit (p : Plain) : Type 0 where
  pub longs : All (λ v. v < 2 ^ 32) p.d × All (λ v. v < 2 ^ 32) p.a
  pub eight : length p.a ≡ 8
  pub counter : p.pc < 2 ^ 32

-- Each of so many steps, as far as the run goes on, begins with such registers.
abbrev pub FitsAlong : ℕ → Ran → Type 0
FitsAlong zero r = Unit {0}
FitsAlong (suc n) r = IsFit (plain_of r.machine.cpu.regs)
    × (let after = ran_by (user_step r.machine) r in goes_on after.end ≡ true → FitsAlong n after)

-- So many steps from here end as so many do from there, where they have such registers if those have.
pub record Continues (n : ℕ) (from : Ran) (k : ℕ) (at : Ran) : Type 0 where
  pub run : user_run k at ≡ user_run n from
  pub fit : FitsAlong k at → FitsAlong n from
