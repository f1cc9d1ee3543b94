use Rattle.mb_walk.proofs.Named.{search_names}
use Rattle.mb_walk.proofs.laws.searches_name_their_page.Goals as goal

pub returns : goal.returns
returns c = λ ram root space page write big. search_names space page ram root write big
