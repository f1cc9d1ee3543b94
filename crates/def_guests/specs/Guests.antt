-- A guest: its machine's world by the rule of guests, beside its shadow; and what the shadow allows.
use Rattle.std.specs.Prelude.{◌≡◌, ℕ, ◌+◌, ◌*◌, ◌≤◌, ◌||◌, not, Bool, true, false, Option, Some, None}
use Rattle.mb_port.specs.Routine.{Call}
use Rattle.mb_port.specs.declared.types.Space.{Space}
use Rattle.mb_model.specs.Keeping.{rule_k}
use Rattle.mb_model.specs.Pages.{page_of, offset_of}
use Rattle.mb_model.specs.declared.pages.TheConstants.{PAGE_SIZE}
use Rattle.def_machine.specs.declared.reference.Reference.{Reference}
use Rattle.def_machine.specs.declared.reference.Settled.TheVariants.{To}
use Rattle.def_machine.specs.World.{World}
use Rattle.def_machine.specs.Access.{settled}
use Rattle.def_machine.specs.Bus.{reference_of}
use Rattle.vm_shadow.specs.Shadows.{Shadowed}

-- What the bus of a guest reads and changes: the world of its machine, and its shadow, with the guest's own frames.
pub record Guest : Type 0 where
  pub world : World
  pub shadow : Shadowed

-- ---- what is allowed

-- an entry lets an access through: each read, and a write where it is writable
abbrev pub lets : Option (ℕ × Bool) → Bool → Bool
lets None write = false
lets (Some (frame, writable)) write = not write || writable

-- The shadow allows a reference: it has an entry of its space and page, which is writable where the reference writes or
-- checks for writing.
abbrev pub allows : Shadowed → Reference → Bool
allows shadow r = lets (shadow.entries r.space (page_of r.at)) r.write

-- where there is a reference
abbrev pub allows_any : Shadowed → Option Reference → Bool
allows_any shadow (Some r) = allows shadow r
allows_any shadow None = true

-- It allows a call: the reference that the call translates, if there is one.
abbrev pub allows_call : Call → Shadowed → Bool
allows_call c shadow = allows_any shadow (reference_of c)

-- a guest may make a call now
abbrev pub may : Call → Guest → Bool
may c g = allows_call c g.shadow

-- ---- what a shadow says

-- a reference by its side, space and address, and whether it writes
abbrev pub ref : Bool → Space → ℕ → Bool → Reference
ref code space at write = record { code = code; space = space; at = at; write = write }

-- a reference that a call may make: what writes is an operand
abbrev pub IsReference : Reference → Type 0
IsReference r = r.write ≡ true → r.code ≡ false

-- where an address of a page with this frame leads
abbrev pub placed_at : ℕ → ℕ → ℕ
placed_at frame at = PAGE_SIZE * frame + offset_of at

-- The shadow says what the guest's translation does now, without a search and for both sides, and names pages of RAM
-- alone.
pub record Truthful (size : ℕ) (g : Guest) : Type 0 where
  pub reads : (code : Bool) (space : Space) (at frame : ℕ) (writable : Bool)
      → g.shadow.entries space (page_of at) ≡ Some (frame, writable)
      → settled rule_k g.world.mmu g.world.kept (ref code space at false) ≡ To (placed_at frame at)
  pub writes : (space : Space) (at frame : ℕ) → g.shadow.entries space (page_of at) ≡ Some (frame, true)
      → settled rule_k g.world.mmu g.world.kept (ref false space at true) ≡ To (placed_at frame at)
  pub inside : (space : Space) (page frame : ℕ) (writable : Bool) → g.shadow.entries space page ≡ Some (frame, writable)
      → PAGE_SIZE * frame + PAGE_SIZE ≤ size
