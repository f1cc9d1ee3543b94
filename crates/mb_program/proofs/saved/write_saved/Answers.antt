use Rattle.std.proofs.Common.{List, length, refl, subst, arith, ℕ}
use Rattle.std.specs.Prelude.{◌-◌}
use Rattle.mb_model.specs.Seen.{seen_of}
use Rattle.mb_outside.specs.Prints.{Prints}
use Rattle.vm_slices.specs.Places.{members_in}
use Rattle.vm_snapshot.specs.Shown.{CanBeTold, ShownGuest}
use Rattle.mb_program.specs.Saved.{shown_text}
use Rattle.mb_program.proofs.SaveLemmas.{lawful_at, text_is, whole_at, written_at}
use Rattle.mb_program.proofs.saved.write_saved.Goals as goal

pub overflow_cast-outcome : goal.overflow_cast-outcome
overflow_cast-outcome g c =
    let few = (whole_at (members_in c.args.host.now) (c.args.guest - 1) (seen_of c.outcome-outcome.result) c.requires.guests
    c.outcome-outcome.ensures.shown).1 in
    omega (arith, few)

pub write_guest-requires-clause-whole : goal.write_guest-requires-clause-whole
write_guest-requires-clause-whole g c =
    (whole_at (members_in c.args.host.now) (c.args.guest - 1) (seen_of c.outcome-outcome.result) c.requires.guests
    c.outcome-outcome.ensures.shown).0

pub returns-clause-prints : goal.returns-clause-prints
returns-clause-prints g c =
    let members = members_in c.args.host.now in
    let kept = c.kept_of.result.items in
    let script = c.script.result.now in
    let seen = seen_of c.outcome-outcome.result in
    let devices = c.devices.result.now in
    let printing = λ (text : List ℕ). Prints (g.O.Sink.taken c.args.out.now) (g.O.Sink.taken c.write_guest.new.out) (g.O.Sink.faults c.args.out.now)
    (g.O.Sink.faults c.write_guest.new.out) text c.write_guest.result in
    written_at members (c.args.guest - 1) kept script seen devices (λ (shown : ShownGuest). printing (shown_text c.args.guest shown))
    c.kept_of.ensures.kept c.script.ensures c.outcome-outcome.ensures.shown c.devices.ensures
    (subst printing (text_is c.args.guest (length seen.ram) kept c.deref.result.now script seen devices _ refl c.deref.ensures.0 c.disk.ensures)
    c.write_guest.ensures.prints)

pub returns-clause-told : goal.returns-clause-told
returns-clause-told g c =
    let members = members_in c.args.host.now in
    let kept = c.kept_of.result.items in
    let seen = seen_of c.outcome-outcome.result in
    written_at members (c.args.guest - 1) kept c.script.result.now seen c.devices.result.now CanBeTold
    c.kept_of.ensures.kept c.script.ensures c.outcome-outcome.ensures.shown c.devices.ensures
    ((rw (c.deref.ensures.0, c.disk.ensures) at c.write_guest.ensures.told)
    (lawful_at members (c.args.guest - 1) kept seen c.requires.guests c.kept_of.ensures.lawful c.kept_of.ensures.kept c.outcome-outcome.ensures.shown))
