use Rattle.std.proofs.Common.{◌≡◌, ◌∙◌, get_or, sym, arith}
use Rattle.std.specs.Prelude.{Some, slice_get}
use Rattle.std.proofs.lemmas.Option.{get_or_from_slice_get, slice_get_within}
use Rattle.mb_report.specs.Kept.{kept_line}
use Rattle.mb_report.proofs.BufferLemmas.{buffers_nothing, buffers_then}
use Rattle.mb_report.proofs.FlatMapLemmas.{flat_map-take}
use Rattle.vm_debug.proofs.printing.write_all_kept.Goals as goal

pub loop-kept-init : goal.loop-kept-init
loop-kept-init g c = record { few = omega arith; text = buffers_nothing _ _ _ }

pub loop-kept-preserved : goal.loop-kept-preserved
loop-kept-preserved g c =
    let entries = c.args.guest.now.kept in
    let i = c.loop-kept.place in
    let entry = c.in-Some.kept in
    let is : slice_get entries i ≡ Some entry = sym c.kept.ensures.entry ∙ c.in-Some.is in
    let less = slice_get_within entries i entry is in
    let here : get_or entries i entry ≡ entry = get_or_from_slice_get entries i entry entry is in record {
      few = omega (arith, less);
      text = rw (flat_map-take kept_line entries i entry less, here) (buffers_then c.loop-kept.invariant.text c.write_kept.ensures);
    }
