-- The text so far, with the records of what is left, is the text with all records of the chunk.
use Rattle.std.proofs.Common.{◌≡◌, ◌^◌, ◌++◌, length}
use Rattle.mb_srec.specs.Image.{LiesBelow, content_of}
use Rattle.mb_srec.specs.Written.{chunk_lines}
use Rattle.mb_srec.proofs.writing.push_chunk.Given as goal

abbrev pub invariant-records : goal.invariant-records
invariant-records l = record {
  written : l.text.items ++ chunk_lines (l.at, l.rest) ≡ l.fn.text.items ++ chunk_lines (content_of l.chunk);
  addressed : LiesBelow (2 ^ 32) (l.at, l.rest);
}

abbrev pub decreases-records : goal.decreases-records
decreases-records l = length l.rest
