use Rattle.std.proofs.Common.{[], ap}
use Rattle.mb_srec.specs.Image.{contents_of}
use Rattle.mb_words.specs.Values.{file_said}
use Rattle.mb_files.specs.Reading.{images}
use Rattle.mb_files.proofs.FileLemmas.{named_read, unnamed_read}
use Rattle.mb_files.proofs.files.image_if_named.Goals as goal

pub returns-in-Some-clause-read : goal.returns-in-Some-clause-read
returns-in-Some-clause-read g c =
    named_read (images c.args.size) [] (file_said c.args.name) c.in-Some.name.now contents_of _ _ c.image_file.result (ap file_said c.in-Some.is)
    c.image_file.ensures.read

pub returns-in-None-clause-read : goal.returns-in-None-clause-read
returns-in-None-clause-read g c =
    unnamed_read (images c.args.size) [] (file_said c.args.name) contents_of _ c.new-in-None.result (ap file_said c.in-None.is) (cc)
