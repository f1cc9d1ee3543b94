use Rattle.std.proofs.Common.{◌∙◌, sym, arith}
use Rattle.mb_board.proofs.Stretches.{before-next, before-none}
use Rattle.mb_board.proofs.bare.before_entry.Goals as goal

pub returns-in-Some-clause-next : goal.returns-in-Some-clause-next
returns-in-Some-clause-next c =
    let few = c.min.ensures in
    before-next c.args.script.now c.args.taken c.args.next c.min.result c.in-Some.entry c.count.ensures.lawful c.requires
    (sym c.entry.ensures ∙ c.in-Some.is) (omega arith)

pub returns-in-None-clause-next : goal.returns-in-None-clause-next
returns-in-None-clause-next c =
    before-none c.args.script.now c.args.taken c.args.next c.args.limit c.requires (sym c.entry.ensures ∙ c.in-None.is)
