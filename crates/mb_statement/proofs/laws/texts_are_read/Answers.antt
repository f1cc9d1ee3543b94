use Rattle.mb_statement.proofs.StatementsRead.{text_read}
use Rattle.mb_statement.proofs.laws.texts_are_read.Goals as goal

pub returns : goal.returns
returns c = text_read
