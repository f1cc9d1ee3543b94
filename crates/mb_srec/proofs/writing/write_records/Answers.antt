use Rattle.std.proofs.Common.{refl, sym, ◌∙◌, subst}
use Rattle.std.specs.Prelude.{All}
use Rattle.mb_srec.specs.Image.{IsAddressed, contents_of}
use Rattle.mb_srec.specs.Written.{header_line, end_line}
use Rattle.mb_srec.proofs.Pieces.{of_chunk, chunk_pushed, all_written}
use Rattle.mb_srec.proofs.writing.write_records.Goals as goal

pub push_chunk-requires : goal.push_chunk-requires
push_chunk-requires c =
    of_chunk IsAddressed c.chunks-chunk-items.result.now c.chunks.chunk-index c.chunk-item.result c.chunks-test.true c.chunk-item.is
    (subst (All IsAddressed) (sym c.chunks-chunk-items.ensures) c.requires)

pub chunks-init : goal.chunks-init
chunks-init c = rw (c.in_ok-text.ensures.items, c.chunks-chunk-items.ensures) refl

pub chunks-preserved : goal.chunks-preserved
chunks-preserved c =
    chunk_pushed c.chunks.text.items c.push_chunk.new.text.items c.chunks-chunk-items.result.now c.chunks.chunk-index c.chunk-item.result c.chunks-test.true
    c.chunk-item.is c.in_ok-push_chunk.ensures
    ∙ c.chunks.invariant

pub returns : goal.returns
returns c =
    all_written header_line c.chunks.text.items _ end_line c.chunks-chunk-items.result.now c.chunks.chunk-index
    (contents_of c.args.image.now) c.chunks-test.false c.chunks.invariant c.in_ok-extend_from_slice.ensures.items
