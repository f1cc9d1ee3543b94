-- Free runs: those of a board whose caches may hold any translation that was searched out since the last flush that
-- covers it.
use Rattle.std.specs.Prelude.{◌≡◌, ◌⊎◌, ℕ, zero, suc, true, false, ◌∷◌, Contains, Option, IfSome, option_to_list}
use Rattle.mb_model.specs.declared.kept.Kept.{Kept}
use Rattle.mb_model.specs.Keeping.{KeptLists, Rule, list_of, rule_k}
use Rattle.law_routines.specs.Relations.{Steps, Runs}
use Rattle.def_processor.specs.Raise.{Stepped}
use Rattle.def_processor.specs.Step.{step_of}
use Rattle.def_machine.specs.World.{World}
use Rattle.def_machine.specs.Bus.{bus_of}
use Rattle.def_machine.specs.Machine.{Entries, Machine, begun, one_later, takes_steps, asked_of}

-- ---- what is kept

-- An entry stands in the list of some class.
abbrev pub IsKept : Kept → KeptLists → Type 0
IsKept k kept = (class : ℕ) × Contains (list_of class kept) k

-- Each entry of the first stands in the second, wherever.
abbrev pub StandIn : KeptLists → KeptLists → Type 0
StandIn kept held = (k : Kept) → IsKept k kept → IsKept k held

-- ---- the free bus

-- the rule of a free board: one class for both sides, and a MOVEC forgets nothing
abbrev pub rule_free : Rule
rule_free = record rule_k { forgets = λ register. false }

-- a world with this entry alone in the class, or with none; all that was kept stands behind it
abbrev pub with_class_entry : Option Kept → World → World
with_class_entry entry w = record w { kept = option_to_list entry ∷ w.kept }

-- What a call may answer and leave. Before it, any entry that is kept may be taken into the class, or none. So an
-- access may use any kept entry of its page and space, or search; what it searches out is kept beside all others, and
-- only a flush or PTEST that covers an entry drops it.
abbrev pub FreeCall : Steps World
FreeCall c w answer after =
    (entry : Option Kept) × IfSome entry (λ k. IsKept k w.kept)
    × (bus_of rule_free c (with_class_entry entry w) ≡ (answer, after))

-- ---- free runs

-- a step: as by a rule, with the processor's part over the free bus
abbrev pub FreeStep : Entries → Machine → Machine → Type 0
FreeStep script m after =
    let b = begun script m in
    (r : Stepped) × (w : World) × Runs FreeCall (step_of (asked_of script b) b.cpu) b.world r w
    × (let (ended, cpu) = r in after ≡ one_later b ended cpu w)

-- so many steps, or fewer where the machine is halted or off
abbrev pub FreeRun : Entries → ℕ → Machine → Machine → Type 0
FreeRun script zero m after = after ≡ m
FreeRun script (suc n) m after =
    ((takes_steps m.state ≡ false) × (after ≡ m))
    ⊎ ((takes_steps m.state ≡ true) × ((later : Machine) × FreeStep script m later × FreeRun script n later after))

-- ---- a machine within a free one

-- They are the same but for what is kept, and each entry that is kept stands in the free one too.
pub record WorldWithin (w free : World) : Type 0 where
  pub same : free ≡ record w { kept = free.kept }
  pub kept : StandIn w.kept free.kept

pub record Within (m free : Machine) : Type 0 where
  pub same : free ≡ record m { world = record m.world { kept = free.world.kept } }
  pub kept : StandIn m.world.kept free.world.kept

-- Between these machines lies a free run, but for what is kept: from each free machine that the first is within, some
-- free run of so many steps comes to one that the second is within.
unfoldable pub IsFreeRun : Entries → ℕ → Machine → Machine → Type 0
IsFreeRun script n m after =
    (free : Machine) → Within m free → (end : Machine) × FreeRun script n free end × Within after end
