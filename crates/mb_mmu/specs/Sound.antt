-- What a micro-TLB says is so.
use Rattle.std.specs.Prelude.{◌≡◌, ℕ, ◌+◌, ◌*◌, ◌^◌, ◌<◌, ◌≤◌, ◌&&◌, false, IfSome}
use Rattle.mb_model.specs.Pages.{page_of, offset_of}
use Rattle.mb_model.specs.declared.pages.TheConstants.{PAGE_SIZE}
use Rattle.def_machine.specs.declared.reference.Reference.{Reference}
use Rattle.def_machine.specs.declared.reference.Settled.TheVariants.{To}
use Rattle.mb_mmu.specs.declared.micro_tlb.MicroTlb.{MicroTlb}
use Rattle.mb_mmu.specs.State.{Translation, settled_by}
use Rattle.mb_mmu.specs.MicroTlb.{place_by, entry_for}

-- A reference leads to a place, whose page lies whole in RAM.
pub record LeadsIntoRam (t : Translation) (r : Reference) (place : ℕ) : Type 0 where
  pub settled : settled_by t r ≡ To place
  pub offset : offset_of place ≡ offset_of r.at
  pub inside : PAGE_SIZE * page_of place + PAGE_SIZE ≤ t.ram

-- A word that is fetched is not written.
abbrev pub IsAccess : Reference → Type 0
IsAccess r = (r.code && r.write) ≡ false

-- By the entry that stands for its page an access leads there.
pub record IsSound (t : Translation) (m : MicroTlb) : Type 0 where
  pub leads : (r : Reference) → IsAccess r → r.at < 2 ^ 32 → IfSome (place_by (entry_for m r) r.at) (LeadsIntoRam t r)
