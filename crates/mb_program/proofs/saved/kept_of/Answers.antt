use Rattle.std.proofs.Common.{◌+◌, ◌-◌, List, sym, subst, arith}
use Rattle.mb_model.specs.declared.kept.Kept.{Kept}
use Rattle.vm_slices.specs.Places.{members_in}
use Rattle.mb_program.proofs.KeptLemmas.{FirstKept, all_full, can_be_kept, first_more}
use Rattle.mb_program.proofs.saved.kept_of.Goals as goal

pub loop-place-preserved : goal.loop-place-preserved
loop-place-preserved c =
    let members = members_in c.args.host.now in
    let place = c.loop-place.place in
    let count = c.loop-place.invariant.len in
    let pushed = c.push.ensures.len in
    record {
      first = subst (λ (items : List Kept). FirstKept members (c.args.guest - 1) (place + 1) items) (sym c.push.ensures.items)
          (first_more members (c.args.guest - 1) place c.in-Some.kept c.loop-place.all.items c.in-Some.ensures.entry c.loop-place.invariant.first);
      len = omega (arith, count, pushed);
    }

pub returns-clause-kept : goal.returns-clause-kept
returns-clause-kept c =
    all_full (members_in c.args.host.now) (c.args.guest - 1) c.loop-place.place c.loop-place.all.items (omega arith) (omega arith) c.kept.ensures.kept
    c.loop-place.invariant.first

pub returns-clause-lawful : goal.returns-clause-lawful
returns-clause-lawful c =
    can_be_kept (members_in c.args.host.now) (c.args.guest - 1) c.loop-place.all.items c.kept.ensures.kept (returns-clause-kept c)
