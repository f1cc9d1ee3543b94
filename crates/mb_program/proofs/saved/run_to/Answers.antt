use Rattle.std.proofs.Common.{◌∙◌, Ok, List, refl, ap, length}
use Rattle.std.proofs.lemmas.List.{length-map}
use Rattle.std.proofs.lemmas.Result.{err_from_is_err_and}
use Rattle.def_guests.specs.Rounds.{Member}
use Rattle.vm_slices.specs.Members.{member_at_start}
use Rattle.vm_slices.specs.Places.{members_in}
use Rattle.mb_program.proofs.RunLemmas.{fits_so, not_prepared}
use Rattle.mb_program.proofs.SaveLemmas.{counted_so, guests_so, shown_so, stopped_so, turns_so}
use Rattle.mb_program.proofs.saved.run_to.Goals as goal

-- there are as many members as guests
pub run_order-requires-clause-turns : goal.run_order-requires-clause-turns
run_order-requires-clause-turns c =
    let guests = c.args.session.guests in
    let count = ap (λ (ms : List Member). length ms) c.in_ok-host.ensures.members ∙ length-map guests member_at_start in
    rw (c.deref.ensures.value, c.in_ok-turns.ensures, c.guests.ensures) (turns_so c.args.steps guests _ count)

pub returns-in_err-host : goal.returns-in_err-host
returns-in_err-host c =
    let p = err_from_is_err_and c.from_residual-in_err-host.result c.from_residual-in_err-host.ensures.1 in
    rw (p.1, p.2) (not_prepared c.args.session c.in_err-host.field-0.0 c.in_err-host.ensures.fits c.in_err-host.ensures.oversize, refl)

pub returns : goal.returns
returns c =
    let s = c.args.session in
    let before = members_in c.in_ok-host.host in
    let after = members_in c.run_order.new.self in
    let is = stopped_so c.args.steps s.guests before after c.in_ok-host.ensures.members
    (rw (c.deref.ensures.value, c.in_ok-turns.ensures, c.guests.ensures) at c.run_order.ensures.each) in
    record {
      fits = fits_so s (Ok c.in_ok-host.host) c.in_ok-host.host _ refl c.in_ok-host.ensures.oversize;
      shown = shown_so c.args.steps s.guests after is;
      guests = guests_so c.args.steps s.guests after c.requires.session.guests is;
      counted = counted_so c.args.steps s.guests before after _ _ c.in_ok-host.ensures.members is
          (rw (c.deref.ensures.value, c.in_ok-turns.ensures, c.guests.ensures) at c.run_order.ensures.counts);
    }
