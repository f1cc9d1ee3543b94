use Rattle.vm_snapshot.proofs.LineCounts.{Counted}
use Rattle.vm_snapshot.proofs.reading.line_count.Given as goal

abbrev pub invariant-loop-character : goal.invariant-loop-character
invariant-loop-character l = Counted l.text l.character-index l.lines l.begun
