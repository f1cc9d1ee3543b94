use Rattle.std.proofs.Common.{Err, Ok, List, refl}
use Rattle.std.proofs.lemmas.Result.{err_from_is_err_and}
use Rattle.mb_script.specs.Answers.{plan_said}
use Rattle.mb_script.specs.Plan.{Plan}
use Rattle.vm_guest.specs.Session.{SessionAtStart}
use Rattle.vm_debug.specs.declared.command.Command.{Command}
use Rattle.mb_words.specs.Words.{Debugged, debugged_said}
use Rattle.mb_files.specs.Reading.{Reading, gives, ◌>>=◌, file}
use Rattle.mb_files.specs.Debugged.{commands, sessions_with}
use Rattle.mb_program.specs.Files.{Ordered, plan_files}
use Rattle.mb_program.specs.Said.{debugged_by, ordered_said}
use Rattle.mb_program.specs.declared.debugged.DebuggedSession.{DebuggedSession}
use Rattle.mb_files.proofs.ReadingLemmas.{read_ends, read_made, read_then}
use Rattle.mb_program.proofs.guest_reading.read_debugged.Goals as goal

abbrev with_orders : Ordered → List Command → SessionAtStart × List Command
with_orders s orders = (s.session, orders)

-- what is read behind the session's files, and behind the session file
abbrev behind_session : Debugged → Ordered → Reading (SessionAtStart × List Command)
behind_session d s = file commands d.commands >>= λ orders. gives (with_orders s orders)

abbrev behind_plan : Debugged → Plan → Reading (SessionAtStart × List Command)
behind_plan d plan = plan_files plan >>= behind_session d

pub returns-in_err-plan-clause-read : goal.returns-in_err-plan-clause-read
returns-in_err-plan-clause-read g c =
    let d = debugged_said c.args.debug.now in
    let p = err_from_is_err_and c.from_residual.result c.from_residual.ensures.1 in
    rw (p.1, p.2) (read_ends (file (sessions_with d.guest) d.session) (behind_plan d) plan_said debugged_by _ _ c.in_err-plan.field-0.0
    c.in_err-plan.ensures.read)

pub returns-in_err-ordered-clause-read : goal.returns-in_err-ordered-clause-read
returns-in_err-ordered-clause-read g c =
    let d = debugged_said c.args.debug.now in
    let plan = c.in_ok-plan.plan in
    let end = c.in_err-ordered.field-0.0 in
    let p = err_from_is_err_and c.from_residual-in_err-ordered.result c.from_residual-in_err-ordered.ensures.1 in
    rw (p.1, p.2) (read_then (file (sessions_with d.guest) d.session) (behind_plan d) plan_said debugged_by _ _ _ plan (Err end)
    c.in_ok-plan.ensures.read
    (read_ends (plan_files (plan_said plan)) (behind_session d) ordered_said debugged_by _ _ end c.in_err-ordered.ensures.read))

pub returns-in_err-commands-clause-read : goal.returns-in_err-commands-clause-read
returns-in_err-commands-clause-read g c =
    let d = debugged_said c.args.debug.now in
    let plan = c.in_ok-plan.plan in
    let ordered = c.in_ok-ordered.ordered in
    let end = c.in_err-commands.field-0.0 in
    let p = err_from_is_err_and c.from_residual-in_err-commands.result c.from_residual-in_err-commands.ensures.1 in
    rw (p.1, p.2) (read_then (file (sessions_with d.guest) d.session) (behind_plan d) plan_said debugged_by _ _ _ plan (Err end)
    c.in_ok-plan.ensures.read
    (read_then (plan_files (plan_said plan)) (behind_session d) ordered_said debugged_by _ _ _ ordered (Err end) c.in_ok-ordered.ensures.read
    (read_ends (file commands d.commands) (λ orders. gives (with_orders (ordered_said ordered) orders)) (λ (orders : List Command). orders) debugged_by _ _ end
    c.in_err-commands.ensures)))

pub returns-clause-read : goal.returns-clause-read
returns-clause-read g c =
    let d = debugged_said c.args.debug.now in
    let plan = c.in_ok-plan.plan in
    let ordered = c.in_ok-ordered.ordered in
    let orders = c.in_ok-commands.commands in
    let debugged : DebuggedSession = record { session = ordered.session; commands = orders } in
    read_then (file (sessions_with d.guest) d.session) (behind_plan d) plan_said debugged_by _ _ _ plan (Ok debugged)
    c.in_ok-plan.ensures.read
    (read_then (plan_files (plan_said plan)) (behind_session d) ordered_said debugged_by _ _ _ ordered (Ok debugged) c.in_ok-ordered.ensures.read
    (read_made (file commands d.commands) (with_orders (ordered_said ordered)) (λ (orders : List Command). orders) debugged_by _ _ orders debugged refl
    c.in_ok-commands.ensures))
