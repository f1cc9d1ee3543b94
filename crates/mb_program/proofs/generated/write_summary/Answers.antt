use Rattle.std.specs.Prelude.{codes}
use Rattle.mb_outside.proofs.PrintLemmas.{prints_more}
use Rattle.vm_slices.specs.Members.{shown_of}
use Rattle.vm_slices.specs.Places.{members_in}
use Rattle.mb_program.specs.Answers.{summary_line}
use Rattle.mb_ends.specs.Texts.{texts_from}
use Rattle.mb_program.proofs.generated.write_summary.Goals as goal

pub returns : goal.returns
returns g c =
    prints_more c.write_lines-told.result c.put_more.result _ _ _ _ _ _ (texts_from summary_line 1 (shown_of (members_in c.args.host.now))) (codes "end\n")
    c.write_lines-told.ensures c.put_more.ensures
