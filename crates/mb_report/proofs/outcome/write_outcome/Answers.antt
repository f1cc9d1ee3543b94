use Rattle.std.proofs.Common.{◌≡◌, ◌∙◌, ◌++◌, ap, sym}
use Rattle.std.proofs.lemmas.Grind.{flat_map-append}
use Rattle.std.specs.List.{flat_map}
use Rattle.mb_model.specs.Seen.{seen_of}
use Rattle.mb_report.specs.Text.{head_lines, register_lines, device_lines, lines_of, line_text}
use Rattle.mb_report.proofs.BufferLemmas.{buffers_then, buffers_printed}
use Rattle.mb_report.proofs.outcome.write_outcome.Goals as goal

pub returns : goal.returns
returns g c =
    let seen = seen_of c.args.o.now in
    let guest = c.args.guest in
    let joined :
    flat_map line_text (head_lines guest seen) ++ flat_map line_text (register_lines seen)
    ++ flat_map line_text (device_lines seen)
    ≡ flat_map line_text (lines_of guest seen) =
    ap (λ text. text ++ flat_map line_text (device_lines seen))
    (sym (flat_map-append line_text (head_lines guest seen) (register_lines seen)))
    ∙ sym (flat_map-append line_text (head_lines guest seen ++ register_lines seen) (device_lines seen)) in
    let parts = buffers_then
    {x = flat_map line_text (head_lines guest seen) ++ flat_map line_text (register_lines seen)}
    {y = flat_map line_text (device_lines seen)}
    (buffers_then c.write_head.ensures c.write_registers.ensures) c.write_devices.ensures in
    let lines = rw joined at parts in
    buffers_printed _ _ _ _ _ _ _ _ _ _ c.new-text.ensures.held c.new-text.ensures.so_far
    (buffers_then (buffers_then lines c.write_memory.ensures) c.add.ensures) c.finish.ensures
