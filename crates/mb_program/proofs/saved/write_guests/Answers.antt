use Rattle.std.proofs.Common.{◌<◌, ◌+◌, ◌-◌, length, arith}
use Rattle.std.specs.Prelude.{slice_get}
use Rattle.std.proofs.lemmas.Result.{err_from_is_err_and}
use Rattle.vm_slices.specs.Places.{members_in}
use Rattle.vm_snapshot.specs.Shown.{CanBeTold}
use Rattle.mb_program.specs.Saved.{shown_by, shown_text}
use Rattle.mb_program.proofs.SaveLemmas.{shown_there, some_holds, told_all, told_more}
use Rattle.mb_ends.proofs.TextLemmas.{cut_more, printed_more}
use Rattle.mb_program.proofs.saved.write_guests.Goals as goal

pub loop-index-preserved : goal.loop-index-preserved
loop-index-preserved g c =
    let k = c.loop-index.index in
    let members = members_in c.args.host.now in
    let count = c.guest_count-index-end.ensures.count in
    let less : k < length members = omega (arith, count) in
    let (shown, there) = shown_there members k less in
    record {
      printed = printed_more shown_text k (shown_by members) shown there c.loop-index.invariant.printed
          (some_holds _ shown _ there c.in_ok-write_saved.ensures.prints);
      told = told_more k (shown_by members) shown there c.loop-index.invariant.told
          (some_holds (slice_get (shown_by members) (k + 1 - 1)) shown CanBeTold there c.in_ok-write_saved.ensures.told);
    }

pub returns-in_err-write_saved-clause-prints : goal.returns-in_err-write_saved-clause-prints
returns-in_err-write_saved-clause-prints g c =
    let k = c.loop-index.index in
    let members = members_in c.args.host.now in
    let count = c.guest_count-index-end.ensures.count in
    let less : k < length members = omega (arith, count) in
    let (shown, there) = shown_there members k less in
    let p = err_from_is_err_and c.from_residual.result c.from_residual.ensures.1 in
    rw p.1 (cut_more shown_text k (shown_by members) shown there c.loop-index.invariant.printed
    (some_holds _ shown _ there c.in_err-write_saved.ensures.prints))

pub returns-clause-told : goal.returns-clause-told
returns-clause-told g c =
    let count = c.guest_count-index-end.ensures.count in
    told_all c.loop-index.index (members_in c.args.host.now) (omega (arith, count)) c.loop-index.invariant.told
