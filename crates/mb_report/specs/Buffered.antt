-- What a buffered text does to its sink.
use Rattle.std.specs.Prelude.{◌≡◌, ℕ, ◌++◌, List, Option}
use Rattle.mb_outside.specs.Prints.{PrintsMore}
use Rattle.mb_report.specs.declared.buffered.Buffered.{Buffered}

-- Of what was held and of the text after it a first part was put, and the rest is held.
pub record Buffers (from to : Buffered) (old new : Option (List ℕ)) (before now : ℕ) (text : List ℕ) : Type 0 where
  pub put : List ℕ
  pub whole : from.held.items ++ text ≡ put ++ to.held.items
  pub prints : PrintsMore from.so_far old new before now put to.so_far
