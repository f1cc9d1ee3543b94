use Rattle.mb_report.proofs.BufferLemmas.{buffers_printed}
use Rattle.mb_listing.proofs.listing.list_memory.Goals as goal

pub returns : goal.returns
returns g c = buffers_printed _ _ _ _ _ _ _ _ _ _ c.new-text.ensures.held c.new-text.ensures.so_far c.write_lines.ensures c.finish.ensures
