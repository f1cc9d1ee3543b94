use Rattle.std.proofs.Common.{◌≡◌, ◌∙◌, arith, length}
use Rattle.mb_outside.proofs.LoadLemmas.{length-append-take, IfSome-IsFront-append}
use Rattle.mb_outside.proofs.loads.load_by.Goals as goal

pub loop-count-preserved : goal.loop-count-preserved
loop-count-preserved g c =
    let loop = c.loop-count in
    let held = loop.invariant in
    let piece = c.in-Ok.ensures.piece in
    let appended = c.in_ok-append.ensures.appended in
    let at : c.len-at.result ≡ length loop.bytes.items = grind arith in
    let size = length-append-take loop.bytes.items c.piece.new.buf c.in-Ok.count piece.0 in
    record {
      told = c.piece.ensures.told ∙ held.told;
      same = c.piece.ensures.same ∙ held.same;
      faults = c.in-Ok.ensures.cause ∙ held.faults;
      short = rw appended (omega (arith, size, at, c.if-count-most.false, held.short));
      front = rw appended (IfSome-IsFront-append _ loop.bytes.items c.piece.new.buf c.in-Ok.count piece.0 held.front (rw (held.told, at) at piece.1));
    }
