use Rattle.std.proofs.Common.{◌∙◌, Ok, List, refl, ap, sym, subst, length}
use Rattle.std.specs.Prelude.{All}
use Rattle.std.proofs.lemmas.List.{length-map}
use Rattle.std.proofs.lemmas.Result.{err_from_is_err_and}
use Rattle.mb_script.specs.Plan.{IsTurnOf}
use Rattle.def_guests.specs.Rounds.{Member}
use Rattle.vm_slices.specs.Places.{members_in}
use Rattle.vm_slices.specs.Members.{member_at_start}
use Rattle.mb_program.proofs.RunLemmas.{carried_so, fits_so, machines_so, not_prepared, scripts_so, tallied_so}
use Rattle.mb_program.proofs.hosted.run_session.Goals as goal

-- there are as many members as guests
pub run_order-requires-clause-turns : goal.run_order-requires-clause-turns
run_order-requires-clause-turns c =
    let guests = c.args.session.guests in
    let count = ap (λ (ms : List Member). length ms) c.in_ok-host.ensures.members ∙ length-map guests member_at_start in
    subst (λ n. All (IsTurnOf n) c.args.order.now) (sym count) c.requires.turns

pub returns-in_err-host : goal.returns-in_err-host
returns-in_err-host c =
    let p = err_from_is_err_and c.from_residual.result c.from_residual.ensures.1 in
    rw (p.1, p.2) (not_prepared c.args.session c.in_err-host.field-0.0 c.in_err-host.ensures.fits c.in_err-host.ensures.oversize, refl)

pub returns : goal.returns
returns c =
    let s = c.args.session in
    let begun = members_in c.in_ok-host.host in
    let turned = members_in c.run_order.new.self in
    let after = members_in c.run.new.self in
    let tallies = c.run.ensures.tallies ∙ c.run_order.ensures.tally_ends in (
      record {
        fits = fits_so s (Ok c.in_ok-host.host) c.in_ok-host.host _ refl c.in_ok-host.ensures.oversize;
        machines = machines_so s.guests begun after c.in_ok-host.ensures.members (c.run.ensures.machines ∙ c.run_order.ensures.machine_ends);
        tallies = tallied_so s.guests begun after c.in_ok-host.ensures.members tallies;
        scripts = scripts_so s.guests c.args.order.now c.run_order.new.self.slice begun turned after c.in_ok-host.ensures.members
            c.run_order.ensures.each c.run.ensures.rounds;
      },
      carried_so (record { session = s; order = c.args.order.now }) c.run_order.new.self.slice begun turned after _ _ _
          c.in_ok-host.ensures.members (c.run_order.ensures.slice ∙ c.in_ok-host.ensures.slice)
          tallies (c.run.ensures.machines ∙ c.run_order.ensures.machine_ends) c.run_order.ensures.order c.run_order.ensures.counts c.run.ensures.counts,
    )
