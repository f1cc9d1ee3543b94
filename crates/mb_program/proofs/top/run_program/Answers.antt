use Rattle.std.proofs.Common.{map, string_bytes}
use Rattle.mb_program.specs.Around.{around_of, diag_of}
use Rattle.mb_program.proofs.CauseLemmas.{causes_so, headline_so, put_so}
use Rattle.mb_program.proofs.top.run_program.Goals as goal

pub returns-clause-causes : goal.returns-clause-causes
returns-clause-causes g c =
    let diag = diag_of g.E.Sink c.args.diag.now c.tell.new.diag in
    rw c.status.ensures (causes_so _ _ diag c.run_words-end.result c.run_words-end.ensures.ends
    (put_so c.tell.result diag _ c.tell.ensures) c.run_words-end.ensures.saved c.run_words-end.ensures.unhosted)

pub returns-clause-headline : goal.returns-clause-headline
returns-clause-headline g c =
    headline_so (map string_bytes c.args.words.now) (around_of g.F.Shelf g.O.Sink c.args.shelf.now c.run_words-end.new.shelf c.args.out.now
    c.run_words-end.new.out c.args.native.now c.run_words-end.new.native) (diag_of g.E.Sink c.args.diag.now c.tell.new.diag) _
    (returns-clause-causes g c)
