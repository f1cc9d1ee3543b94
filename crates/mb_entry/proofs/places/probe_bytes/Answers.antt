use Rattle.std.proofs.Common.{◌∙◌, sym, arith}
use Rattle.std.proofs.lemmas.Grind.{common_steps}
use Rattle.std.proofs.lemmas.List.Elements.{All-push}
use Rattle.mb_port.specs.declared.types.Space.TheVariants.{Super}
use Rattle.mb_writes.specs.Checked.{IsOpen}
use Rattle.mb_entry.proofs.Bytes.{bytes_with, probed_on}
use Rattle.mb_entry.proofs.places.probe_bytes.Goals as goal

pub loop-left-preserved : goal.loop-left-preserved
loop-left-preserved g c =
    let items = c.loop-left.places.items in
    let place = c.in_ok-probe.field-0 in
    let cut = c.first_piece-piece.ensures.cut in
    let room = rw cut at c.loop-left.invariant.room in
    let aligned = c.first_piece-piece.ensures.aligned in
    let pushed = bytes_with items place in
    let so_far = c.loop-left.invariant.bytes in
    let found = c.in_ok-probe.ensures.found.1 in
    let fits = c.first_piece-piece.ensures.fits in
    record {
      run = rw (c.from.ensures, c.push.ensures.items)
          (sym (probed_on g.P.Port.bus Super _ _ c.first_piece-piece.result items place _ _ cut c.in_ok-probe.ensures.means) ∙ c.loop-left.invariant.run);
      room = rw (c.from.ensures, c.push.ensures.items) (grind (arith, common_steps, room));
      stand = rw (c.push.ensures.items, c.in_ok-probe.ensures.rest)
          (All-push (IsOpen (g.P.Port.exists (g.P.Port.rest c.loop-left.port))) items place c.loop-left.invariant.stand
          (c.in_ok-probe.ensures.found.0, rw found (aligned.0, aligned.1, aligned.2)));
      bytes = rw c.push.ensures.items (grind (arith, common_steps, pushed, so_far, found, fits));
      rest = c.in_ok-probe.ensures.rest ∙ c.loop-left.invariant.rest;
    }
