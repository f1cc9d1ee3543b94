-- The chunks so far, with those of the lines that are left, are those of all lines. The last chunk ends at the address that is reached.
use Rattle.std.proofs.Common.{◌≡◌, ◌+◌, ◌≤◌, length}
use Rattle.mb_lines.specs.Lines.{left, numbered, room}
use Rattle.mb_asm.specs.Gathered.{chunks_said}
use Rattle.mb_asm.specs.Laying.{layout_said}
use Rattle.mb_asm.specs.Layouts.{beginning}
use Rattle.mb_asm.specs.Judged.{address_or_zero}
use Rattle.mb_asm.specs.Said.{symbols_said}
use Rattle.mb_asm.specs.Texts.{chunks_from, no_chunks}
use Rattle.mb_asm.proofs.assembling.chunks_of.Given as goal

abbrev pub invariant-loop-line : goal.invariant-loop-line
invariant-loop-line l = record {
  given : chunks_from (symbols_said l.symbols) (layout_said l.layout) (chunks_said l.chunks) (left l.lines)
      ≡ chunks_from (symbols_said l.symbols) beginning no_chunks (numbered l.text);
  end : l.chunks.at + length l.chunks.bytes.items ≡ address_or_zero l.layout.at;
  most : address_or_zero l.layout.at ≤ 4294967296;
  room : room l.lines ≤ length l.text;
}

abbrev pub decreases-loop-line : goal.decreases-loop-line
decreases-loop-line l = length (left l.lines)
