use Rattle.std.proofs.Common.{refl}
use Rattle.mb_frames.proofs.RoundTrip.{frame_bytes-stand_alone, frame_in-bytes, length-frame_bytes}
use Rattle.mb_frames.proofs.bytes.to_bytes.Goals as goal

pub returns-clause-len : goal.returns-clause-len
returns-clause-len c =
    rw (c.push_frame.ensures.bytes, c.new-bytes.ensures) (length-frame_bytes c.args.f.now)

pub returns-clause-fields : goal.returns-clause-fields
returns-clause-fields c =
    frame_bytes-stand_alone c.push_frame.new.bytes.items c.args.f.now (rw (c.push_frame.ensures.bytes, c.new-bytes.ensures) refl)

pub returns-clause-read_back : goal.returns-clause-read_back
returns-clause-read_back c =
    frame_in-bytes c.push_frame.new.bytes.items c.args.f.now (rw (c.push_frame.ensures.bytes, c.new-bytes.ensures) refl) c.requires c.push_frame.ensures.fits
