use Rattle.std.proofs.Common.{◌∙◌, ◌<◌, ◌^◌, ap, subst}
use Rattle.def_runs.specs.Marks.{with_spelled}
use Rattle.def_runs.specs.Native.{NativeState}
use Rattle.mb_board.proofs.Spellings.{begins}
use Rattle.mb_board.proofs.native.Native.begun.Goals as goal

pub returns : goal.returns
returns c = λ p spells. begins p c.args.self.now c.args.beginning _ spells
    (subst (λ (n : NativeState). n.trail < 2 ^ 64) c.self.view_is (assumption c.self))
    (c.with_spelled.ensures ∙ ap (λ (n : NativeState). with_spelled n.trail c.args.beginning) c.self.view_is)
