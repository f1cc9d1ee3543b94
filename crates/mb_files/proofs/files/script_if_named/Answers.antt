use Rattle.std.proofs.Common.{[], ap}
use Rattle.mb_script.specs.Script.{Entries}
use Rattle.mb_words.specs.Values.{file_said}
use Rattle.mb_files.specs.Reading.{scripts}
use Rattle.mb_files.proofs.FileLemmas.{named_read, unnamed_read}
use Rattle.mb_files.proofs.files.script_if_named.Goals as goal

pub returns-in-Some : goal.returns-in-Some
returns-in-Some g c =
    named_read scripts [] (file_said c.args.name) c.in-Some.name.now (λ (script : Entries). script) _ _ c.script_file.result (ap file_said c.in-Some.is)
    c.script_file.ensures

pub returns-in-None : goal.returns-in-None
returns-in-None g c =
    unnamed_read scripts [] (file_said c.args.name) (λ (script : Entries). script) _ c.new-in-None.result (ap file_said c.in-None.is) (cc)
