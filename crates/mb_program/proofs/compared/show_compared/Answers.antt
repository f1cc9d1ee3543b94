use Rattle.std.proofs.Common.{◌∙◌, List, map, ap, sym, subst, arith}
use Rattle.mb_script.specs.declared.turn.Turn.{Turn}
use Rattle.vm_guest.specs.Session.{GuestAtStart}
use Rattle.vm_slices.specs.Places.{members_in}
use Rattle.mb_program.specs.Answers.{compare_shown, if_it_fits}
use Rattle.mb_program.specs.Around.{sink_seen}
use Rattle.mb_program.specs.Compares.{ahead_of, at_start, same_each}
use Rattle.mb_program.specs.Direct.{CarriedOut}
use Rattle.mb_program.specs.Ends.{IsGiven}
use Rattle.mb_program.specs.Said.{ordered_said}
use Rattle.mb_program.proofs.CompareLemmas.{compared_cut, compared_other, compared_same, found_so, machine_for_each, member_for_each}
use Rattle.mb_program.proofs.ShowLemmas.{not_opened}
use Rattle.mb_ends.specs.declared.end.End.{End}
use Rattle.mb_program.proofs.compared.show_compared.Goals as goal

pub returns-in-Err-run_session : goal.returns-in-Err-run_session
returns-in-Err-run_session g c =
    let out = sink_seen g.O.Sink c.args.out.now in
    let s = ordered_said c.args.ordered in
    subst (λ (end : End). IsGiven (if_it_fits s.session (compare_shown s)) out out c.args.native.now c.run_session.new.native end)
    (sym c.from-in-Err-run_session.ensures)
    (not_opened s.session (compare_shown s) out _ _ c.in-Err-run_session.fault c.in-Err-run_session.ensures.0 c.in-Err-run_session.ensures.1)

pub write_comparison-requires-clause-count : goal.write_comparison-requires-clause-count
write_comparison-requires-clause-count g c =
    let guests = c.args.ordered.session.guests in
    let bare = c.in-Ok.ensures ∙ ap (λ (gs : List GuestAtStart). map at_start gs) c.guests.ensures in
    machine_for_each guests c.in-Ok.machines.items bare
    ∙ sym (member_for_each guests c.in-Ok-run_session.host c.in-Ok-run_session.ensures.0.machines)

pub write_comparison-requires-clause-few : goal.write_comparison-requires-clause-few
write_comparison-requires-clause-few g c =
    let bare = c.in-Ok.ensures ∙ ap (λ (gs : List GuestAtStart). map at_start gs) c.guests.ensures in
    let count = machine_for_each c.args.ordered.session.guests c.in-Ok.machines.items bare in
    omega (arith, c.requires.session.few)

pub returns-in-Ok-true : goal.returns-in-Ok-true
returns-in-Ok-true g c =
    let s = ordered_said c.args.ordered in
    let machines = c.in-Ok.machines.items in
    let host = c.in-Ok-run_session.host in
    let runs = c.in-Ok-run_session.ensures in
    let bare = c.in-Ok.ensures ∙ ap (λ (gs : List GuestAtStart). map at_start gs) c.guests.ensures in
    compared_same s host (same_each (map ahead_of machines) (members_in host)) (sink_seen g.O.Sink c.args.out.now)
    (sink_seen g.O.Sink c.write_comparison.new.out) _ _ runs.0
    (subst (λ (turns : List Turn). CarriedOut (record { session = s.session; order = turns }) c.args.native.now c.run_session.new.native)
    c.deref.ensures.value runs.1) (found_so s machines host bare runs.0)
    (sym c.in-Ok-true.field-0-test ∙ c.in-Ok-true.ensures.all) c.in-Ok-true.ensures.printed

pub returns-in-Ok-false : goal.returns-in-Ok-false
returns-in-Ok-false g c =
    let s = ordered_said c.args.ordered in
    let machines = c.in-Ok.machines.items in
    let host = c.in-Ok-run_session.host in
    let runs = c.in-Ok-run_session.ensures in
    let bare = c.in-Ok.ensures ∙ ap (λ (gs : List GuestAtStart). map at_start gs) c.guests.ensures in
    compared_other s host (same_each (map ahead_of machines) (members_in host)) (sink_seen g.O.Sink c.args.out.now)
    (sink_seen g.O.Sink c.write_comparison.new.out) _ _ runs.0
    (subst (λ (turns : List Turn). CarriedOut (record { session = s.session; order = turns }) c.args.native.now c.run_session.new.native)
    c.deref.ensures.value runs.1) (found_so s machines host bare runs.0)
    (sym c.in-Ok-false.field-0-test ∙ c.in-Ok-false.ensures.all) c.in-Ok-false.ensures.printed

pub returns : goal.returns
returns g c =
    let s = ordered_said c.args.ordered in
    let machines = c.in-Ok.machines.items in
    let host = c.in-Ok-run_session.host in
    let runs = c.in-Ok-run_session.ensures in
    let bare = c.in-Ok.ensures ∙ ap (λ (gs : List GuestAtStart). map at_start gs) c.guests.ensures in
    compared_cut s host (same_each (map ahead_of machines) (members_in host)) (sink_seen g.O.Sink c.args.out.now)
    (sink_seen g.O.Sink c.write_comparison.new.out) _ _ runs.0 (found_so s machines host bare runs.0) c.in-Err-write_comparison.ensures.printed
