use Rattle.mb_files.proofs.FileLemmas.{may_be_long}
use Rattle.mb_files.proofs.files.load_file.Goals as goal

pub returns-in-Err-TooLong-clause-loads : goal.returns-in-Err-TooLong-clause-loads
returns-in-Err-TooLong-clause-loads g c =
    let loads = rw c.in-Err-TooLong.field-0-is at c.in-Err-TooLong.ensures.loads in
    (c.in-Ok.ensures.ok, loads.0, may_be_long (g.F.Shelf.told c.args.shelf.now) c.args.name.now c.args.most loads.1)
