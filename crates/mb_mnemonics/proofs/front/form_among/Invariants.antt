-- What is found in the rest is what is found in all, and the rest is short.
use Rattle.std.proofs.Common.{◌≡◌, drop}
use Rattle.std.specs.Prelude.{IsTrue}
use Rattle.std.specs.List.{list_all}
use Rattle.mb_mnemonics.specs.Code.{is_short}
use Rattle.mb_mnemonics.specs.Means.{form_among}
use Rattle.mb_mnemonics.proofs.front.form_among.Given as goal

abbrev pub invariant-loop-line : goal.invariant-loop-line
invariant-loop-line l =
    (form_among (drop l.line-index l.lines) l.name l.letter l.operands ≡ form_among l.lines l.name l.letter l.operands)
    × IsTrue (list_all is_short (drop l.line-index l.lines))
