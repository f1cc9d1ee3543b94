use Rattle.std.proofs.lemmas.Result.{err_from_is_err_and}
use Rattle.mb_script.specs.Answers.{plan_said}
use Rattle.mb_files.specs.Reading.{file, sessions}
use Rattle.mb_program.specs.Files.{plan_files}
use Rattle.mb_program.specs.Said.{ordered_said}
use Rattle.mb_files.proofs.ReadingLemmas.{read_ends, read_then}
use Rattle.mb_program.proofs.guest_reading.read_session.Goals as goal

pub returns-in_err-plan-clause-read : goal.returns-in_err-plan-clause-read
returns-in_err-plan-clause-read g c =
    let p = err_from_is_err_and c.from_residual.result c.from_residual.ensures.1 in
    rw (p.1, p.2) (read_ends (file sessions c.args.name.now) plan_files plan_said ordered_said _ _ c.in_err-plan.field-0.0
    c.in_err-plan.ensures.read)

pub returns-clause-read : goal.returns-clause-read
returns-clause-read g c =
    read_then (file sessions c.args.name.now) plan_files plan_said ordered_said _ _ _ c.in_ok-plan.plan c.read_planned.result
    c.in_ok-plan.ensures.read c.read_planned.ensures.read
