-- Why a text is no image.
use Rattle.std.specs.Prelude.{ℕ}
use Rattle.mb_srec.specs.declared.fault.RecordWhy.{RecordWhy}

-- A line of this number and why it does not stand, the first address of data that is not in RAM, or that no record
-- ends the image.
pub data Fault : Type 0 where
  Line : ℕ → RecordWhy → Fault
  Outside : ℕ → Fault
  NoEnd : Fault
