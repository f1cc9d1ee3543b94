-- Rows of two operands, of one, and of operands that are only read.
use Rattle.std.specs.Prelude.{refl, ℕ, Bool, Option, Some, None}
use Rattle.law_routines.specs.Twin.{returned}
use Rattle.law_routines.specs.Between.{Setting, between}
use Rattle.law_routines.proofs.Twinned.{twins_choose}
use Rattle.mb_instr.specs.declared.size.Size.{Size}
use Rattle.mb_instr.specs.declared.operand.Ea.{Ea}
use Rattle.mb_instr.specs.declared.operand.Ea.TheVariants.{Dn, Pre}
use Rattle.mb_instr.specs.declared.registers.Plain.{Plain}
use Rattle.mb_instr.specs.Operands.{address_number}
use Rattle.mb_alu.specs.declared.conditions.Flagged.{Flagged}
use Rattle.def_instructions.specs.Ends.{Rowed}
use Rattle.def_instructions.specs.Operands.{behind_of}
use Rattle.def_instructions.specs.Moves.{move_flags}
use Rattle.def_instructions.specs.Arithmetic.{fetch_pair_of, combine_of, compare_pair_of, combine_either_way_of, chain_of, quick_to, combine_quick_of, take_of}
use Rattle.def_instructions.specs.Unary.{clr_of}
use Rattle.law_twins.specs.Twins.{SameRead}
use Rattle.law_twins.proofs.Parts.{SameCut, SameRowed, Rows, Reads, then_twins, reading_twins}
use Rattle.law_twins.proofs.Operands.{operand_twins, resolve_twins, storing_twins}
use Rattle.law_twins.proofs.Modifying.{modifying_twins}

-- ---- two operands

pair_twins : (x : Setting) (size : Size) (source destination : Ea) (word_at : ℕ) (p : Plain)
    → Reads x (fetch_pair_of size source destination word_at x.here p) (fetch_pair_of size source destination word_at x.there p)
pair_twins x size source destination word_at p =
    then_twins x (SameRead x) (operand_twins x size source word_at p) (λ from.
    then_twins x (SameRead x) (operand_twins x size destination (behind_of size source word_at) from.plain) (λ to. returned refl))

pub combining_twins : (x : Setting) (operation : ℕ → ℕ → ℕ → Flagged) (size : Size) (source destination : Ea) (word_at : ℕ) (p : Plain)
    → Rows x (combine_of operation size source destination word_at x.here p) (combine_of operation size source destination word_at x.there p)
combining_twins x operation size source destination word_at p =
    then_twins x (SameCut x) (reading_twins x (pair_twins x size source destination word_at p)) (λ pair.
    let to = pair.destination in
    let result = operation pair.source to.value to.plain.ccr in
    storing_twins x to.target size result.value (record to.plain { ccr = result.ccr }))

pub comparing_twins : (x : Setting) (size : Size) (source destination : Ea) (word_at : ℕ) (p : Plain)
    → Rows x (compare_pair_of size source destination word_at x.here p) (compare_pair_of size source destination word_at x.there p)
comparing_twins x size source destination word_at p =
    then_twins x (SameCut x) (reading_twins x (pair_twins x size source destination word_at p)) (λ pair. returned refl)

pub either_way_twins : (x : Setting) (operation : ℕ → ℕ → ℕ → Flagged) (register : ℕ) (to_memory : Bool) (size : Size) (ea : Ea) (word_at : ℕ) (p : Plain)
    → Rows x (combine_either_way_of operation register to_memory size ea word_at x.here p)
    (combine_either_way_of operation register to_memory size ea word_at x.there p)
unfolding combine_either_way_of
either_way_twins x operation register to_memory size ea word_at p =
    twins_choose (between x) (SameRowed x) to_memory _ _ _ _
    (combining_twins x operation size (Dn register) ea word_at p) (combining_twins x operation size ea (Dn register) word_at p)

pub chaining_twins : (x : Setting) (operation : ℕ → ℕ → ℕ → Flagged) (size : Size) (in_memory : Bool) (source destination word_at : ℕ) (p : Plain)
    → Rows x (chain_of operation size in_memory source destination word_at x.here p) (chain_of operation size in_memory source destination word_at x.there p)
unfolding chain_of
chaining_twins x operation size in_memory source destination word_at p =
    twins_choose (between x) (SameRowed x) in_memory _ _ _ _
    (combining_twins x operation size (Pre source) (Pre destination) word_at p) (combining_twins x operation size (Dn source) (Dn destination) word_at p)

-- ---- quick values

quick_to_twins : (x : Setting) (o : Option ℕ) (change : ℕ → ℕ → Flagged) (moved : ℕ → ℕ) (size : Size) (ea : Ea) (word_at : ℕ) (p : Plain)
    → Rows x (quick_to o change moved size ea word_at x.here p) (quick_to o change moved size ea word_at x.there p)
quick_to_twins x (Some n) change moved size ea word_at p = returned refl
quick_to_twins x None change moved size ea word_at p = modifying_twins x change size ea word_at p

pub quick_twins : (x : Setting) (change : ℕ → ℕ → Flagged) (moved : ℕ → ℕ) (size : Size) (ea : Ea) (word_at : ℕ) (p : Plain)
    → Rows x (combine_quick_of change moved size ea word_at x.here p) (combine_quick_of change moved size ea word_at x.there p)
unfolding combine_quick_of
quick_twins x change moved size ea word_at p = quick_to_twins x (address_number ea) change moved size ea word_at p

-- ---- operands that are only read, or only written

-- the same registers end both alike, where the end tells of no fault
pub taking_twins : (x : Setting) (effect : ℕ → Plain → Rowed) (size : Size) (ea : Ea) (word_at : ℕ) (p : Plain)
    → ((value : ℕ) (q : Plain) → SameRowed x (effect value q) (effect value q))
    → Rows x (take_of effect size ea word_at x.here p) (take_of effect size ea word_at x.there p)
taking_twins x effect size ea word_at p same =
    then_twins x (SameCut x) (reading_twins x (operand_twins x size ea word_at p)) (λ operand.
    returned (same operand.value operand.plain))

pub clr_twins : (x : Setting) (size : Size) (ea : Ea) (word_at : ℕ) (p : Plain) → Rows x (clr_of size ea word_at x.here p) (clr_of size ea word_at x.there p)
clr_twins x size ea word_at p =
    then_twins x (SameCut x) (reading_twins x (resolve_twins x ea size word_at p)) (λ to.
    storing_twins x to.target size 0 (move_flags size 0 to.plain))
