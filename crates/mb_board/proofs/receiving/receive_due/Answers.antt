use Rattle.std.proofs.Common.{◌∙◌, ◌+◌, drop, sym, ap, arith}
use Rattle.mb_devices.specs.Devices.{DeviceState}
use Rattle.def_machine.specs.Machine.{aborts, arrived}
use Rattle.mb_board.proofs.Due.{past-through, later-behind, none-outside, arrived-past, arrived-next, arrived-none}
use Rattle.mb_board.proofs.Due.{aborts-past, aborts-none, so_far-next, so_far-none}
use Rattle.mb_board.proofs.receiving.receive_due.Goals as goal

pub loop-place-init : goal.loop-place-init
loop-place-init c =
    let next = c.requires.next in
    record {
      rest = arrived-past c.args.next (c.args.taken + 1) c.args.script.now c.args.devices.now
          (λ k lt e. let past = next.past k lt in absurd (omega (arith, past, e)));
      so_far = aborts-past c.args.next (c.args.taken + 1) c.args.script.now
          (λ k lt e. let past = next.past k lt in absurd (omega (arith, past, e)));
      past = λ k lt. let past = next.past k lt in omega (arith, past);
      later = next.later;
    }

pub returns-in_default-clause-means : goal.returns-in_default-clause-means
returns-in_default-clause-means c =
    let kept = c.loop-place.invariant in
    let later = later-behind c.args.script.now c.loop-place.place c.args.taken c.in-Some.entry
    c.count-place-end.ensures.lawful (sym c.entry.ensures ∙ c.in-Some.is) c.if-entry-taken.false kept.later in
    sym (arrived-none c.args.script.now c.loop-place.place (c.args.taken + 1) c.loop-place.devices later) ∙ kept.rest

pub returns-in_default-clause-aborted : goal.returns-in_default-clause-aborted
returns-in_default-clause-aborted c =
    let kept = c.loop-place.invariant in
    let later = later-behind c.args.script.now c.loop-place.place c.args.taken c.in-Some.entry
    c.count-place-end.ensures.lawful (sym c.entry.ensures ∙ c.in-Some.is) c.if-entry-taken.false kept.later in
    let left = aborts-none c.args.script.now c.loop-place.place (c.args.taken + 1) later in
    sym (so_far-none c.loop-place.aborted (aborts (c.args.taken + 1) (drop c.loop-place.place c.args.script.now)) left) ∙ kept.so_far

pub returns-in_default-clause-next : goal.returns-in_default-clause-next
returns-in_default-clause-next c =
    let kept = c.loop-place.invariant in
    record {
      within = omega arith;
      past = kept.past;
      later = later-behind c.args.script.now c.loop-place.place c.args.taken c.in-Some.entry
          c.count-place-end.ensures.lawful (sym c.entry.ensures ∙ c.in-Some.is) c.if-entry-taken.false kept.later;
    }

pub returns-in_default-2-clause-means : goal.returns-in_default-2-clause-means
returns-in_default-2-clause-means c =
    absurd (none-outside c.args.script.now c.loop-place.place (sym c.entry.ensures ∙ c.in_default.is) (omega arith))

pub returns-in_default-2-clause-aborted : goal.returns-in_default-2-clause-aborted
returns-in_default-2-clause-aborted c =
    absurd (none-outside c.args.script.now c.loop-place.place (sym c.entry.ensures ∙ c.in_default.is) (omega arith))

pub returns-in_default-2-clause-next : goal.returns-in_default-2-clause-next
returns-in_default-2-clause-next c =
    absurd (none-outside c.args.script.now c.loop-place.place (sym c.entry.ensures ∙ c.in_default.is) (omega arith))

pub loop-place-preserved : goal.loop-place-preserved
loop-place-preserved c =
    let kept = c.loop-place.invariant in
    let got = sym c.entry.ensures ∙ c.in-Some.is in
    let now = c.if-entry-taken.true in
    record {
      rest = ap (λ (d : DeviceState). arrived (c.args.taken + 1) (drop (c.loop-place.place + 1) c.args.script.now) d) c.take_in-aborted.ensures.devices
          ∙ sym (arrived-next c.args.script.now c.loop-place.place (c.args.taken + 1) c.in-Some.entry c.loop-place.devices got now)
          ∙ kept.rest;
      so_far = so_far-next c.args.script.now c.loop-place.place (c.args.taken + 1) c.in-Some.entry c.loop-place.aborted
          c.take_in-aborted.result got now c.take_in-aborted.ensures.aborted
          ∙ kept.so_far;
      past = past-through c.args.script.now c.loop-place.place (c.args.taken + 1) c.in-Some.entry
          c.count-place-end.ensures.lawful got (omega arith);
      later = λ k le lt. kept.later k (omega arith) lt;
    }
