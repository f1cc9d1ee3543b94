-- What a call of a shelf gives.
use Rattle.std.specs.Prelude.{◌≡◌, ℕ, ◌-◌, ◌<◌, ◌≤◌, List, length, take, drop, Option, Result, Ok, Err, IfOk, IfSome}
use Rattle.mb_outside.specs.Counts.{Rose}
use Rattle.mb_outside.specs.declared.shelf.ShelfFault.{ShelfFault}
use Rattle.mb_outside.specs.declared.shelf.ShelfFault.TheVariants.{Memory, Failed}

-- The first `count` bytes of the buffer are the file's from `at` on; none come only at its end.
pub record PieceOf (bytes : List ℕ) (at : ℕ) (buf : List ℕ) (count : ℕ) : Type 0 where
  pub given : take count buf ≡ take count (drop at bytes)
  pub within : count ≤ length bytes - at
  pub ends : count ≡ 0 → 0 < length buf → length bytes ≤ at

-- The buffer is not overrun, and where the file is told the bytes are its own.
abbrev pub GivesPiece : Option (List ℕ) → ℕ → List ℕ → Result ℕ ShelfFault → Type 0
GivesPiece told at buf result =
    IfOk result (λ n. (n ≤ length buf) × IfSome told (λ bytes. PieceOf bytes at buf n))

-- The count stays, but at `Failed`, where it has risen.
abbrev pub FaultCause : ℕ → ℕ → ShelfFault → Type 0
FaultCause before now Memory = now ≡ before
FaultCause before now Failed = Rose before now

abbrev pub ShelfCause : {T : Type 0} → ℕ → ℕ → Result T ShelfFault → Type 0
ShelfCause before now (Ok _) = now ≡ before
ShelfCause before now (Err fault) = FaultCause before now fault
