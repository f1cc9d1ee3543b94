use Rattle.mb_files.proofs.ReadingLemmas.{known, named_is_told, comes_then, refused_then}
use Rattle.mb_files.proofs.laws.readings_follow.Goals as goal

pub returns-clause-known : goal.returns-clause-known
returns-clause-known g c = known

pub returns-clause-named : goal.returns-clause-named
returns-clause-named g c = named_is_told

pub returns-clause-then : goal.returns-clause-then
returns-clause-then g c = comes_then

pub returns-clause-refused : goal.returns-clause-refused
returns-clause-refused g c = refused_then
