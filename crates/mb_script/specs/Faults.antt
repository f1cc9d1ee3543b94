-- Why a text is no script or no session.
use Rattle.std.specs.Prelude.{ℕ}
use Rattle.mb_script.specs.declared.fault.LineWhy.{LineWhy}

-- The number of a line, and why it does not stand.
pub record Fault : Type 0 where
  pub number : ℕ
  pub why : LineWhy
