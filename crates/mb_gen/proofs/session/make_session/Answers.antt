use Rattle.std.proofs.Common.{◌+◌, ◌*◌, ◌≤◌, ℕ, sym, ap, subst, arith}
use Rattle.vm_guest.specs.Session.{IsSession}
use Rattle.mb_gen.specs.Seen.{generator_seen}
use Rattle.mb_gen.specs.Sessions.{IsJustFilled}
use Rattle.mb_gen.proofs.Images.{one_more_guest, all_guests, session_made, session-is, session-filled}
use Rattle.mb_gen.proofs.session.make_session.Goals as goal

pub loop-preserved : goal.loop-preserved
loop-preserved c =
    one_more_guest c.args.guests c.loop.counter (generator_seen c.loop.generator) (generator_seen c.guest.new.generator) c.in_ok-guest.field-0
    c.loop.all.items c.push.new.self.items _ c.loop-test.true c.in_ok-guest.ensures.guest c.in_ok-guest.ensures.after
    c.in_ok-push.ensures.items c.loop.invariant

pub returns-clause-generated : goal.returns-clause-generated
returns-clause-generated c =
    let over : c.args.guests ≤ c.loop.counter = omega arith in
    session_made c.args.seed c.args.guests (65536 + 131072 * c.from.result) c.loop.all.items c.new.result c.new.ensures
    (ap (λ (n : ℕ). 65536 + 131072 * n) c.from.ensures)
    (all_guests c.args.guests c.loop.counter (generator_seen c.loop.generator) c.loop.all.items _ over c.loop.invariant)

pub returns-clause-lawful : goal.returns-clause-lawful
returns-clause-lawful c =
    subst IsSession (sym (returns-clause-generated c)) (session-is c.args.seed c.args.guests c.requires.0 c.requires.1)

pub returns-clause-filled : goal.returns-clause-filled
returns-clause-filled c = subst IsJustFilled (sym (returns-clause-generated c)) (session-filled c.args.seed c.args.guests)
