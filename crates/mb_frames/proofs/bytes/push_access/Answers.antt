use Rattle.std.proofs.Common.{rules}
use Rattle.std.proofs.lemmas.List.Elements.{All-from_recursion}
use Rattle.mb_frames.specs.Layout.{Fits, fields_of_access}
use Rattle.mb_frames.proofs.Fields.{one_by_one}
use Rattle.mb_frames.proofs.bytes.push_access.Goals as goal

pub returns-clause-bytes : goal.returns-clause-bytes
returns-clause-bytes c = let whole = one_by_one c.args.bytes.now.items (fields_of_access c.args.access) in cc

pub returns-clause-fits : goal.returns-clause-fits
returns-clause-fits c = All-from_recursion Fits (fields_of_access c.args.access) (search rules)
