use Rattle.mb_instr.specs.Rows.{row}
use Rattle.mb_instr.specs.Codes.{AreWords}
use Rattle.std.proofs.Common.{subst}
use Rattle.mb_encode.proofs.Spelled.{spelled, not_spelled}
use Rattle.mb_encode.proofs.front.encode.Goals as goal

pub returns-in-Ok-clause-codes : goal.returns-in-Ok-clause-codes
returns-in-Ok-clause-codes c =
    spelled (row c.args.i.now) c.in-Ok.words.items c.in-Ok.ensures (subst AreWords c.as_slice.ensures.value c.words_fit.ensures)

pub returns-in-Ok-clause-row : goal.returns-in-Ok-clause-row
returns-in-Ok-clause-row c =
    (spelled (row c.args.i.now) c.in-Ok.words.items c.in-Ok.ensures (subst AreWords c.as_slice.ensures.value c.words_fit.ensures)).has

pub returns-in-Err-clause-none : goal.returns-in-Err-clause-none
returns-in-Err-clause-none c = not_spelled (row c.args.i.now) c.in-Err.ensures
