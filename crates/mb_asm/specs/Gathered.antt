-- What the code's chunks stand for.
use Rattle.mb_srec.specs.Image.{all_contents}
use Rattle.mb_asm.specs.declared.chunks.Chunks.{Chunks}
use Rattle.mb_asm.specs.Texts as texts

abbrev pub chunks_said : Chunks → texts.Chunks
chunks_said chunks = record { whole = all_contents chunks.whole.items; at = chunks.at; bytes = chunks.bytes.items }
