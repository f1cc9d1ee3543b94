use Rattle.std.proofs.Common.{ℕ, List, ◌++◌, refl, ap, ◌∙◌, append_assoc}
use Rattle.std.proofs.lemmas.List.Elements.{All-append}
use Rattle.mb_frames.specs.Layout.{Fits, bytes_of_fields, fields_of_access, frame_bytes, head}
use Rattle.mb_frames.proofs.Fields.{bytes_of_both}
use Rattle.mb_frames.proofs.bytes.push_frame.Goals as goal

pub returns-in-Access-clause-fits : goal.returns-in-Access-clause-fits
returns-in-Access-clause-fits c =
    let first = head c.in-Access.sr c.in-Access.pc 7 c.in-Access.offset in
    let others = fields_of_access c.in-Access.access in
    rw (c.in-Access.is) (All-append Fits first others c.push_head-in-Access.ensures.fits c.push_access.ensures.fits)

pub returns-in-Access-clause-bytes : goal.returns-in-Access-clause-bytes
unfolding frame_bytes
returns-in-Access-clause-bytes c =
    let first = head c.in-Access.sr c.in-Access.pc 7 c.in-Access.offset in
    let others = fields_of_access c.in-Access.access in
    c.push_access.ensures.bytes
    ∙ ap (λ (b : List ℕ). b ++ bytes_of_fields others) c.push_head-in-Access.ensures.bytes
    ∙ append_assoc c.args.bytes.now.items (bytes_of_fields first) (bytes_of_fields others)
    ∙ rw (c.in-Access.is, bytes_of_both first others) refl
