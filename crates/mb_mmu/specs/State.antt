-- A memory management unit, as its contracts see it.
use Rattle.std.specs.Prelude.{ℕ}
use Rattle.mb_port.specs.declared.types.Mmu.{Mmu}
use Rattle.mb_model.specs.Keeping.{KeptLists, nothing_kept, rule_a}
use Rattle.mb_model.specs.Reset.{mmu_at_reset}
use Rattle.def_machine.specs.declared.reference.Reference.{Reference}
use Rattle.def_machine.specs.declared.reference.Settled.{Settled}
use Rattle.def_machine.specs.Access.{settled}

-- its registers, and the translations that it keeps by the board's rule
pub record Translation : Type 0 where
  pub mmu : Mmu
  pub kept : KeptLists
  -- the bytes of RAM
  pub ram : ℕ

-- what it is after reset
abbrev pub at_reset : ℕ → Translation
at_reset ram = record { mmu = mmu_at_reset; kept = nothing_kept rule_a; ram = ram }

-- what it knows of a reference without a search
abbrev pub settled_by : Translation → Reference → Settled
settled_by t r = settled rule_a t.mmu t.kept r
