-- What never sets TC is tidy, since it translates nothing.
use Rattle.std.specs.Prelude.{◌≡◌, ℕ, Bool, true, false}
use Rattle.mb_port.specs.Routine.{Call, SetMmu}
use Rattle.mb_port.specs.declared.types.MmuReg.{MmuReg}
use Rattle.mb_port.specs.declared.types.MmuReg.TheVariants.{Tc}
use Rattle.def_machine.specs.Access.{is_translating}
use Rattle.def_machine.specs.Machine.{Opening, Entries, Machine, start}
use Rattle.def_runs.specs.Free.{rule_free}
use Rattle.def_runs.specs.Tidy.{IsTidyRun, Tidy}
use Rattle.law_tidy.specs.Runs.{AlongRun}

abbrev pub is_tc : MmuReg → Bool
is_tc Tc = true
is_tc register = false

-- a call that sets TC, as a MOVEC to it makes
abbrev pub sets_tc : Call → Bool
sets_tc (SetMmu which value) = is_tc which
sets_tc other = false

-- No call of so many steps does.
abbrev pub NeverSetsTc : Entries → ℕ → Machine → Type 0
NeverSetsTc script n m = AlongRun (λ c w. sets_tc c ≡ false) script n m

-- Where translation is off and no call sets TC, a run is tidy.
abbrev pub OffRunsAreTidy : Type 0
OffRunsAreTidy = (script : Entries) (n : ℕ) (m : Machine) → is_translating m.world.mmu ≡ false → NeverSetsTc script n m
    → IsTidyRun script n m

-- It is off at the start, so an opening whose run never sets TC is tidy.
abbrev pub OffIsTidy : Type 0
OffIsTidy = (opening : Opening) (script : Entries) (size n : ℕ)
    → NeverSetsTc script n (start rule_free opening size) → Tidy opening script size n
