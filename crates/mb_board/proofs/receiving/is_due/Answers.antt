use Rattle.std.proofs.Common.{◌∙◌, sym}
use Rattle.mb_board.proofs.Due.{later-behind, later-outside, quiet-at, stays-next}
use Rattle.mb_board.proofs.receiving.is_due.Goals as goal

pub returns-in_default-clause-quiet : goal.returns-in_default-clause-quiet
returns-in_default-clause-quiet c = λ none.
    quiet-at c.args.script.now c.args.next c.args.taken c.requires.next
    (later-behind c.args.script.now c.args.next c.args.taken c.in-Some.entry c.count.ensures.lawful
    (sym c.entry.ensures ∙ c.in-Some.is) c.if-entry-taken.false c.requires.next.later)

pub returns-in_default-clause-stays : goal.returns-in_default-clause-stays
returns-in_default-clause-stays c = λ none.
    stays-next c.args.script.now c.args.next c.args.taken c.requires.next
    (later-behind c.args.script.now c.args.next c.args.taken c.in-Some.entry c.count.ensures.lawful
    (sym c.entry.ensures ∙ c.in-Some.is) c.if-entry-taken.false c.requires.next.later)

pub returns-in_default-2-clause-quiet : goal.returns-in_default-2-clause-quiet
returns-in_default-2-clause-quiet c = λ none.
    quiet-at c.args.script.now c.args.next c.args.taken c.requires.next
    (later-outside c.args.script.now c.args.next c.args.taken (sym c.entry.ensures ∙ c.in_default.is))

pub returns-in_default-2-clause-stays : goal.returns-in_default-2-clause-stays
returns-in_default-2-clause-stays c = λ none.
    stays-next c.args.script.now c.args.next c.args.taken c.requires.next
    (later-outside c.args.script.now c.args.next c.args.taken (sym c.entry.ensures ∙ c.in_default.is))
