-- What no call of a guest's bus changes, and what no change of its memory does.
use Rattle.std.specs.Prelude.{ℕ, Bool, List}
use Rattle.std.specs.Borrow.{GName}
use Rattle.vm_shadow.specs.Shadows.{Shadowed}

-- What a guest's memory is made of and where it lies, and all of the board that is not the guest's RAM and area.
pub record Around (B : Type 0) : Type 0 where
  -- the references that it holds
  pub ram : GName
  pub shadow : GName
  pub base : ℕ
  pub size : ℕ
  -- what the board has beside its memory, how many bytes this has, and those below and above the guest's
  pub board : B
  pub count : ℕ
  pub below : List ℕ
  pub above : List ℕ

-- with the other references of the bus
pub record Beyond (B : Type 0) : Type 0 where
  pub around : Around B
  pub registers : GName
  pub devices : GName
  pub tlb : GName

-- and with all of the guest's memory but its RAM, and whether its shadow may have changed
pub record Beside (B : Type 0) : Type 0 where
  pub around : Around B
  pub shadow : Shadowed
  pub changed : Bool
