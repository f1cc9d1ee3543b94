use Rattle.mb_words.proofs.WordLemmas.{too_short}
use Rattle.mb_words.proofs.reading.read_words.Goals as goal

pub returns-in_default : goal.returns-in_default
returns-in_default c = too_short c.args.words.now c.in_default.len_below
