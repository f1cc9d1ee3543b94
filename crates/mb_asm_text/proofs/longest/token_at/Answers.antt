use Rattle.mb_asm_text.proofs.Places.{left_at, token_found, none_begins}
use Rattle.mb_asm_text.proofs.longest.token_at.Goals as goal

pub returns-clause-found : goal.returns-clause-found
returns-clause-found c = token_found c.args.line.now c.in-Some.kind c.args.start c.in-Some.len c.requires.inside
    (rw (left_at c.args.line.now c.args.start c.requires.inside) at c.in-Some.ensures)

pub returns-in_default-clause-none : goal.returns-in_default-clause-none
returns-in_default-clause-none c = none_begins c.args.line.now c.args.start
    (rw (left_at c.args.line.now c.args.start c.requires.inside) at c.in_default.ensures)
