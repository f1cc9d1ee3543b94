-- Expressions behind references.
use denote.Ref.{Bor}
use Rattle.mb_syntax.specs.Modes.{Sum}

abbrev pub sum_said : Bor Sum → Sum
sum_said terms = terms.now
