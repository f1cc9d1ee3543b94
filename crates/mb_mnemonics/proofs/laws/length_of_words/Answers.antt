use Rattle.mb_mnemonics.proofs.Length.{length_of_words}
use Rattle.mb_mnemonics.proofs.laws.length_of_words.Goals as goal

pub returns : goal.returns
returns c name letter os at n i l m = length_of_words name letter os at n i l m
