-- What holds of every row of the table.
use Rattle.std.specs.Prelude.{◌≡◌, ℕ, ◌+◌, ◌*◌, ◌%◌, ◌^◌, drop}
use Rattle.mb_instr.specs.Shapes.{Row, operands_at}
use Rattle.mb_instr.specs.Codes.{words_of}

-- In an instruction at this address, whose words stand one behind the other, the operands' words begin with the word
-- that has the address of `operands_at`.
pub record WordsStand (r : Row) (at : ℕ) : Type 0 where
  pub number : ℕ
  pub address : operands_at r at ≡ (at + 2 * number) % 2 ^ 32
  pub words : drop number (words_of r) ≡ r.operands

abbrev pub OperandsStand : Type 0
OperandsStand = (r : Row) (at : ℕ) → WordsStand r at
