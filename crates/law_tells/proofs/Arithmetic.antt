-- Rows of two operands, of one, and of operands that are only read.
use Rattle.std.specs.Prelude.{ℕ, Bool, Option, Some, None}
use Rattle.mb_port.specs.declared.types.Space.{Space}
use Rattle.law_routines.proofs.Told.{tells_choose}
use Rattle.mb_instr.specs.declared.size.Size.{Size}
use Rattle.mb_instr.specs.declared.operand.Ea.{Ea}
use Rattle.mb_instr.specs.declared.operand.Ea.TheVariants.{Dn, Pre}
use Rattle.mb_instr.specs.declared.registers.Plain.{Plain}
use Rattle.mb_instr.specs.Operands.{address_number}
use Rattle.mb_alu.specs.declared.conditions.Flagged.{Flagged}
use Rattle.mb_writes.specs.declared.transfers.Movem.{Movem}
use Rattle.def_instructions.specs.Ends.{Rowed}
use Rattle.def_instructions.specs.Operands.{behind_of}
use Rattle.def_instructions.specs.Moves.{move_flags}
use Rattle.def_instructions.specs.Arithmetic.{Pair, fetch_pair_of, combine_of, compare_pair_of, combine_either_way_of, chain_of, quick_to, combine_quick_of, take_of}
use Rattle.def_instructions.specs.Unary.{clr_of}
use Rattle.law_tells.specs.Guarded.{Guarded, Guards}
use Rattle.law_tells.specs.Laws.{AreLongs}
use Rattle.law_tells.proofs.Ranges.{IsFormed}
use Rattle.law_tells.proofs.Parts.{RowTells, Reads, reads_then, reads_none, row_reading, row_done, row_ends}
use Rattle.law_tells.proofs.Operands.{IsFetched, resolve_tells, fetched_tells, storing_tells}
use Rattle.law_tells.proofs.Modifying.{modifying_tells}

module _ {S : Type 0} (x : Guarded S) (space : Space) (g : Guards x space) where
  -- ---- two operands

  pair_tells : (size : Size) (source destination : Ea) (word_at : ℕ) (p : Plain) → IsFormed source → IsFormed destination → AreLongs p.a
      → Reads x (λ (pair : Pair). IsFetched pair.destination) (fetch_pair_of size source destination word_at space p)
  pair_tells size source destination word_at p comes goes longs =
      reads_then x space (fetched_tells x space g size source word_at p comes longs) (λ from read.
      reads_then x space (fetched_tells x space g size destination (behind_of size source word_at) from.plain goes read.1) (λ to found.
      reads_none x space _ found))

module _ {S : Type 0} (x : Guarded S) (space : Space) (g : Guards x space) {moves : Movem → Type 0} where
  pub combining_tells : (operation : ℕ → ℕ → ℕ → Flagged) (size : Size) (source destination : Ea) (word_at : ℕ) (p : Plain)
      → IsFormed source → IsFormed destination → AreLongs p.a → RowTells x space p moves (combine_of operation size source destination word_at space p)
  combining_tells operation size source destination word_at p comes goes longs =
      row_reading x space (pair_tells x space g size source destination word_at p comes goes longs) (λ pair found.
      let to = pair.destination in
      let result = operation pair.source to.value to.plain.ccr in
      storing_tells x space g to.target size result.value (record to.plain { ccr = result.ccr }) found.0)

  pub comparing_tells : (size : Size) (source destination : Ea) (word_at : ℕ) (p : Plain) → IsFormed source → IsFormed destination → AreLongs p.a
      → RowTells x space p moves (compare_pair_of size source destination word_at space p)
  comparing_tells size source destination word_at p comes goes longs =
      row_reading x space (pair_tells x space g size source destination word_at p comes goes longs) (λ pair found. row_done x space _)

  pub either_way_tells : (operation : ℕ → ℕ → ℕ → Flagged) (register : ℕ) (to_memory : Bool) (size : Size) (ea : Ea) (word_at : ℕ) (p : Plain)
      → IsFormed ea → AreLongs p.a → RowTells x space p moves (combine_either_way_of operation register to_memory size ea word_at space p)
  unfolding combine_either_way_of
  either_way_tells operation register to_memory size ea word_at p is longs =
      tells_choose to_memory _ _ (λ e. combining_tells operation size (Dn register) ea word_at p tt is longs)
      (λ e. combining_tells operation size ea (Dn register) word_at p is tt longs)

  pub chaining_tells : (operation : ℕ → ℕ → ℕ → Flagged) (size : Size) (in_memory : Bool) (source destination word_at : ℕ) (p : Plain)
      → AreLongs p.a → RowTells x space p moves (chain_of operation size in_memory source destination word_at space p)
  unfolding chain_of
  chaining_tells operation size in_memory source destination word_at p longs =
      tells_choose in_memory _ _ (λ e. combining_tells operation size (Pre source) (Pre destination) word_at p tt tt longs)
      (λ e. combining_tells operation size (Dn source) (Dn destination) word_at p tt tt longs)

  -- ---- quick values

  quick_to_tells : (o : Option ℕ) (change : ℕ → ℕ → Flagged) (moved : ℕ → ℕ) (size : Size) (ea : Ea) (word_at : ℕ) (p : Plain)
      → IsFormed ea → AreLongs p.a → RowTells x space p moves (quick_to o change moved size ea word_at space p)
  quick_to_tells (Some n) change moved size ea word_at p is longs = row_done x space _
  quick_to_tells None change moved size ea word_at p is longs = modifying_tells x space g change size ea word_at p is longs

  pub quick_tells : (change : ℕ → ℕ → Flagged) (moved : ℕ → ℕ) (size : Size) (ea : Ea) (word_at : ℕ) (p : Plain)
      → IsFormed ea → AreLongs p.a → RowTells x space p moves (combine_quick_of change moved size ea word_at space p)
  unfolding combine_quick_of
  quick_tells change moved size ea word_at p is longs = quick_to_tells (address_number ea) change moved size ea word_at p is longs

  -- ---- operands that are only read, or only written

  pub taking_tells : (effect : ℕ → Plain → Rowed) (size : Size) (ea : Ea) (word_at : ℕ) (p : Plain) → IsFormed ea → AreLongs p.a
      → RowTells x space p moves (take_of effect size ea word_at space p)
  taking_tells effect size ea word_at p is longs =
      row_reading x space (fetched_tells x space g size ea word_at p is longs) (λ operand read. row_ends x space (effect operand.value operand.plain))

  pub clr_tells : (size : Size) (ea : Ea) (word_at : ℕ) (p : Plain) → IsFormed ea → AreLongs p.a → RowTells x space p moves (clr_of size ea word_at space p)
  clr_tells size ea word_at p is longs =
      row_reading x space (resolve_tells x space g ea size word_at p is longs) (λ to found.
      storing_tells x space g to.target size 0 (move_flags size 0 to.plain) found.0)
