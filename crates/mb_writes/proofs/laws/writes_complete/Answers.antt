use Rattle.mb_writes.proofs.Completed.{put_is_complete, front_then_back}
use Rattle.mb_writes.proofs.laws.writes_complete.Goals as goal

pub returns-clause-whole : goal.returns-clause-whole
returns-clause-whole g c = λ bus space at len value s h. put_is_complete bus space at len value s h

pub returns-clause-parts : goal.returns-clause-parts
returns-clause-parts g c = λ bus space first front back s. front_then_back bus space first front back s
