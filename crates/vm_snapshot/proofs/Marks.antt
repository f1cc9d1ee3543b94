-- The marks that end lists.
use Rattle.std.proofs.Common.{ℕ, refl}
use Rattle.mb_spelling.specs.Hex.{read_number}
use Rattle.mb_spelling.proofs.Loops.{IsMarked}
use Rattle.vm_snapshot.specs.Inputs.{pairs}
use Rattle.vm_snapshot.specs.Memory.{row_lines}

pub row_marked : (rows : ℕ) → IsMarked (row_lines rows) 101
unfolding read_number
row_marked rows = record { told = λ c. refl; ends = λ s. refl }

pub pair_marked : IsMarked pairs 10
unfolding read_number
pair_marked = record { told = λ c. refl; ends = λ s. refl }
