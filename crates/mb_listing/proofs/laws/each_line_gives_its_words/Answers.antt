use Rattle.mb_listing.proofs.Gives.{each_line_gives}
use Rattle.mb_listing.proofs.laws.each_line_gives_its_words.Goals as goal

pub returns : goal.returns
returns c = each_line_gives
