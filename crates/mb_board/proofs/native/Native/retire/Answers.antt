use Rattle.std.proofs.Common.{◌∙◌, ◌+◌, ℕ, ap}
use Rattle.def_runs.specs.Marks.{with_spelled}
use Rattle.def_runs.specs.Native.{NativeState, with_retired}
use Rattle.mb_board.proofs.Spellings.{trail-by_spellings}
use Rattle.mb_board.proofs.native.Native.retire.Goals as goal

abbrev state : ℕ → ℕ → ℕ → NativeState
state retired exceptions trail = record { retired = retired; exceptions = exceptions; trail = trail }

pub returns : goal.returns
returns c = λ p q beginning end.
    let t = c.self.inside.trail in
    let sum = c.with_spelled-self-inside.ensures ∙ ap (λ (x : ℕ). with_spelled x c.args.end) c.with_spelled.ensures in
    ap (λ (x : ℕ). state (c.self.inside.retired + 1) c.self.inside.exceptions x)
    (sum ∙ trail-by_spellings t c.args.beginning c.args.end p q beginning end (assumption c.self.ranges))
    ∙ ap (λ (n : NativeState). with_retired p q n) c.self.view_is
