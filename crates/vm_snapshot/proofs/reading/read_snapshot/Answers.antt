use Rattle.std.proofs.Common.{ℕ, sym, subst}
use Rattle.mb_spelling.specs.Places.{IsFirstFault}
use Rattle.vm_snapshot.specs.Guests.{snapshot}
use Rattle.vm_snapshot.specs.Plans.{plan_seen}
use Rattle.vm_snapshot.proofs.Answered.{ends_early, goes_wrong, was_whole}
use Rattle.vm_snapshot.proofs.Lawful.{plan_lawful}
use Rattle.vm_snapshot.proofs.reading.read_snapshot.Goals as goal

pub returns-in-Ok-clause-answer : goal.returns-in-Ok-clause-answer
returns-in-Ok-clause-answer c =
    was_whole c.args.text.now c.plan.new.reader.left (plan_seen c.in-Ok.plan) (rw c.new-reader.ensures.left at c.in-Ok.ensures.reads)

pub returns-in-Ok-clause-lawful : goal.returns-in-Ok-clause-lawful
returns-in-Ok-clause-lawful c =
    plan_lawful c.args.text.now (plan_seen c.in-Ok.plan)
    (was_whole c.args.text.now c.plan.new.reader.left (plan_seen c.in-Ok.plan) (rw c.new-reader.ensures.left at c.in-Ok.ensures.reads))

pub returns-in-Err-Stopped-Wrong-clause-answer : goal.returns-in-Err-Stopped-Wrong-clause-answer
returns-in-Err-Stopped-Wrong-clause-answer c =
    let arm = c.in-Err-Stopped-Wrong in
    subst (λ (n : ℕ). IsFirstFault snapshot n c.args.text.now) (sym c.line.ensures)
    (goes_wrong c.args.text.now c.new-reader.result c.plan.new.reader c.new-reader.ensures.line c.new-reader.ensures.left
    (rw (arm.field-0-is, arm.field-0-0-is) at arm.ensures.reads) c.plan.ensures.lines)

pub returns-in-Err-Stopped-Short-clause-answer : goal.returns-in-Err-Stopped-Short-clause-answer
returns-in-Err-Stopped-Short-clause-answer c =
    let arm = c.in-Err-Stopped-Short in
    ends_early c.args.text.now c.line_count.result
    (rw c.new-reader.ensures.left at (rw (arm.field-0-is, arm.field-0-0-is) at arm.ensures.reads)) c.line_count.ensures.value
