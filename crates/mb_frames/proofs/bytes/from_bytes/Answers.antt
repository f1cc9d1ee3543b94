use Rattle.std.proofs.Common.{◌≡◌, ◌∙◌, sym}
use Rattle.std.proofs.Math.Facts.{Fits-lt-pow}
use Rattle.mb_frames.specs.Reading.{frame_in}
use Rattle.mb_frames.proofs.RoundTrip.{frame_bytes-frame_in, frame_in-begins, frame_in-short, frame_in-word}
use Rattle.mb_frames.proofs.bytes.from_bytes.Goals as goal

pub returns-then-b-lt8-clause-whole : goal.returns-then-b-lt8-clause-whole
returns-then-b-lt8-clause-whole c f rest lawful e =
    sym (frame_in-short c.args.b.now c.if-b-lt8.true) ∙ frame_in-begins c.args.b.now f rest lawful e

pub returns-clause-begins : goal.returns-clause-begins
returns-clause-begins c =
    let read : c.frame_of_format.result ≡ frame_in c.args.b.now =
    c.frame_of_format.ensures ∙ sym (frame_in-word c.args.b.now c.word_at.result c.word_at.ensures) in
    rw read (frame_bytes-frame_in c.args.b.now (λ i. Fits-lt-pow (c.type_inv.b i)))

pub returns-clause-whole : goal.returns-clause-whole
returns-clause-whole c f rest lawful e =
    c.frame_of_format.ensures
    ∙ sym (frame_in-word c.args.b.now c.word_at.result c.word_at.ensures)
    ∙ frame_in-begins c.args.b.now f rest lawful e
