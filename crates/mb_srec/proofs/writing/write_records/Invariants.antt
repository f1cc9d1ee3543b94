-- The text so far, with the records of the chunks that are left, is the header with the records of all.
use Rattle.std.proofs.Common.{◌≡◌, ◌++◌, drop}
use Rattle.std.specs.List.{flat_map}
use Rattle.mb_srec.specs.Image.{all_contents, contents_of}
use Rattle.mb_srec.specs.Written.{chunk_lines, header_line}
use Rattle.mb_srec.proofs.writing.write_records.Given as goal

abbrev pub invariant-chunks : goal.invariant-chunks
invariant-chunks l =
    l.text.items ++ flat_map chunk_lines (all_contents (drop l.chunk-index l.chunk-items))
    ≡ header_line ++ flat_map chunk_lines (contents_of l.image)
