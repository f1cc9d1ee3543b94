use Rattle.mb_report.specs.Buffered.{Buffers}
use Rattle.mb_listing.specs.Listing.{listing}
use Rattle.mb_listing.proofs.Lines.{GoesOn}
use Rattle.mb_listing.proofs.listing.write_lines.Given as goal

-- the lines so far were added, and the others begin at the place
abbrev pub invariant-loop-line : goal.invariant-loop-line
invariant-loop-line g l = record {
  made : Buffers l.initial.text l.text (g.O.Sink.taken l.initial.out) (g.O.Sink.taken l.out)
      (g.O.Sink.faults l.initial.out) (g.O.Sink.faults l.out) (listing l.ram (l.fn.at) l._line);
  goes_on : GoesOn l.ram (l.fn.at) l._line l.place;
}
