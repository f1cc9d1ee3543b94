use Rattle.std.proofs.Common.{◌∙◌, Ok, List, map, refl, ap, sym, subst, arith}
use Rattle.std.proofs.lemmas.Result.{err_from_is_err_and}
use Rattle.def_guests.specs.Rounds.{Member}
use Rattle.vm_guest.specs.Session.{IsSession, SessionAtStart}
use Rattle.vm_slices.specs.Fit.{Fits}
use Rattle.vm_slices.specs.Members.{machine_at_end, member_at_start, tally_at_end}
use Rattle.vm_slices.specs.Places.{members_in}
use Rattle.vm_snapshot.specs.Plans.{plan_seen}
use Rattle.mb_program.specs.Runs.{IsUnopened}
use Rattle.mb_program.specs.Saved.{left_said}
use Rattle.mb_program.proofs.ResumeLemmas.{all_can, board_small, counted_on_so, resumed_so, session_ok, session_so}
use Rattle.mb_program.proofs.RunLemmas.{fits_so, not_prepared}
use Rattle.mb_program.proofs.resumed.run_on.Goals as goal

pub overflow_mul-size : goal.overflow_mul-size
overflow_mul-size c = let small = board_small (plan_seen c.args.plan) c.requires.said in omega (arith, small)

pub returns-in_err-parted : goal.returns-in_err-parted
returns-in_err-parted c =
    let p = err_from_is_err_and c.from_residual.result c.from_residual.ensures.1 in
    rw (p.1, p.2) (tt, refl)

pub prepare-requires : goal.prepare-requires
prepare-requires c =
    let plan = plan_seen c.args.plan in
    let parted = c.in_ok-parted.ensures in
    let is = session_so c.args.more plan c.in_ok-parted.parted.seats.items c.new-session.result parted.seats c.new-session.ensures in
    subst IsSession (sym is) (session_ok c.args.more plan c.requires.said c.requires.lawful)

pub returns-in_err-host : goal.returns-in_err-host
returns-in_err-host c =
    let plan = plan_seen c.args.plan in
    let parted = c.in_ok-parted.ensures in
    let is = session_so c.args.more plan c.in_ok-parted.parted.seats.items c.new-session.result parted.seats c.new-session.ensures in
    let p = err_from_is_err_and c.from_residual-in_err-host.result c.from_residual-in_err-host.ensures.1 in
    rw (p.1, p.2) (
      subst (λ (s : SessionAtStart). IsUnopened s c.in_err-host.field-0.0) is
          (not_prepared c.new-session.result c.in_err-host.field-0.0 c.in_err-host.ensures.fits c.in_err-host.ensures.oversize),
      refl,
    )

pub adopt_all-requires : goal.adopt_all-requires
adopt_all-requires c =
    let plan = plan_seen c.args.plan in
    let parted = c.in_ok-parted.ensures in
    let is = session_so c.args.more plan c.in_ok-parted.parted.seats.items c.new-session.result parted.seats c.new-session.ensures in
    all_can c.args.more plan (map left_said c.in_ok-parted.parted.machines.items) c.new-session.result (members_in c.in_ok-host.host) parted.machines is
    c.in_ok-host.ensures.members c.requires.lawful

pub returns : goal.returns
returns c =
    let more = c.args.more in
    let plan = plan_seen c.args.plan in
    let parted = c.in_ok-parted.ensures in
    let is = session_so more plan c.in_ok-parted.parted.seats.items c.new-session.result parted.seats c.new-session.ensures in
    let begun = members_in c.in_ok-host.host in
    let adopted = members_in c.adopt_all.new.host in
    let after = members_in c.run.new.self in
    let resumed = resumed_so more plan (map left_said c.in_ok-parted.parted.machines.items) begun adopted parted.machines
    (c.in_ok-host.ensures.members ∙ ap (λ (s : SessionAtStart). map member_at_start s.guests) is) c.adopt_all.ensures.members in
    record {
      fits = subst Fits is (fits_so c.new-session.result (Ok c.in_ok-host.host) c.in_ok-host.host _ refl c.in_ok-host.ensures.oversize);
      machines = c.run.ensures.machines ∙ ap (λ (ms : List Member). map machine_at_end ms) resumed;
      tallies = c.run.ensures.tallies ∙ ap (λ (ms : List Member). map tally_at_end ms) resumed;
      counted = counted_on_so more plan c.adopt_all.new.host.slice adopted after _ _ resumed
          (c.adopt_all.ensures.slice ∙ c.in_ok-host.ensures.slice ∙ ap (λ (s : SessionAtStart). s.slice) is)
          c.run.ensures.machines c.run.ensures.tallies c.run.ensures.counts;
    }
