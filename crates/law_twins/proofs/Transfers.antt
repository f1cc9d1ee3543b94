-- MOVEM: its transfers, and the instruction.
use Rattle.std.specs.Prelude.{refl, ℕ, ◌+◌, ◌≡◌, Bool, List, [], ◌∷◌, drop}
use Rattle.law_routines.specs.Twin.{returned, Results}
use Rattle.law_routines.specs.Between.{Setting, Equal, between}
use Rattle.law_routines.proofs.Twinned.{twins_choose}
use Rattle.mb_instr.specs.declared.size.Size.{Size}
use Rattle.mb_instr.specs.declared.operand.Ea.{Ea}
use Rattle.mb_instr.specs.declared.registers.Plain.{Plain}
use Rattle.mb_instr.specs.Sizes.{bytes_of}
use Rattle.mb_writes.specs.declared.transfers.Movem.{Movem}
use Rattle.mb_writes.specs.declared.transfers.Transfer.{Transfer}
use Rattle.mb_writes.specs.Transfers.{transfers_of}
use Rattle.mb_writes.specs.Moving.{Halfway, stored_of, store_all_of, loaded_of, load_all_of, storing, transfer_of}
use Rattle.def_instructions.specs.Moves.{movem_by, movem_of}
use Rattle.law_twins.specs.Twins.{SameRead, SameWrite, SameTransfer}
use Rattle.law_twins.proofs.Parts.{SameCut, Rows, TwinParts, then_twins, failing_twins, reading_twins}
use Rattle.law_twins.proofs.Operands.{read_twins, address_twins, put_twins}

-- both came equally far, with the same registers
abbrev SameHalfway : Setting → Halfway → Halfway → Type 0
SameHalfway x a b = SameTransfer x a.fault b.fault × (a.plain ≡ b.plain)

store_all_twins : (x : Setting) (m : Movem) (p : Plain) (first done : ℕ) (ts : List Transfer)
    → TwinParts x (SameTransfer x) (store_all_of m x.here p first done ts) (store_all_of m x.there p first done ts)
store_all_twins x m p first done [] = returned refl
store_all_twins x m p first done (t ∷ ts) =
    then_twins x (SameTransfer x)
    (failing_twins x (SameWrite x) (SameTransfer x) (λ e f h. record { fault = h.fault; first = refl; done = refl })
    (put_twins x t.at (bytes_of m.size) (stored_of m.mode m.size p t.register)))
    (λ stored. store_all_twins x m p first (done + 1) ts)

load_all_twins : (x : Setting) (m : Movem) (first done : ℕ) (ts : List Transfer) (p : Plain)
    → TwinParts x (SameHalfway x) (load_all_of m x.here first done ts p) (load_all_of m x.there first done ts p)
load_all_twins x m first done [] p = returned refl
load_all_twins x m first done (t ∷ ts) p =
    then_twins x (SameHalfway x)
    (failing_twins x (SameRead x) (SameHalfway x) (λ e f h. (record { fault = h.fault; first = refl; done = refl }, refl))
    (read_twins x t.at (bytes_of m.size)))
    (λ value. load_all_twins x m first (done + 1) ts (loaded_of m.mode m.size p t.register value))

stores_twins : (x : Setting) (m : Movem) (ea done : ℕ) (p : Plain) → TwinParts x (SameHalfway x) (storing m ea done x.here p) (storing m ea done x.there p)
stores_twins x m ea done p =
    then_twins x (SameHalfway x)
    (failing_twins x (SameTransfer x) (SameHalfway x) (λ e f h. (h, refl)) (store_all_twins x m p ea done (drop done (transfers_of m ea))))
    (λ stored. returned refl)

transfer_twins : (x : Setting) (m : Movem) (ea done : ℕ) (p : Plain)
    → TwinParts x (SameHalfway x) (transfer_of m ea done x.here p) (transfer_of m ea done x.there p)
transfer_twins x m ea done p =
    then_twins x (SameHalfway x)
    (twins_choose (between x) (Results Equal (SameHalfway x)) m.is_load _ _ _ _
    (load_all_twins x m ea done (drop done (transfers_of m ea)) p) (stores_twins x m ea done p))
    (λ moved. returned refl)

pub movem_twins : (x : Setting) (is_load : Bool) (size : Size) (ea : Ea) (mask word_at : ℕ) (p : Plain)
    → Rows x (movem_of is_load size ea mask word_at x.here p) (movem_of is_load size ea mask word_at x.there p)
movem_twins x is_load size ea mask word_at p =
    then_twins x (SameCut x) (reading_twins x (address_twins x size ea word_at p)) (λ place.
    then_twins x (SameCut x)
    (failing_twins x (SameHalfway x) (SameCut x) (λ e f h. h) (transfer_twins x (movem_by is_load size ea mask) place 0 p))
    (λ moved. returned refl))
