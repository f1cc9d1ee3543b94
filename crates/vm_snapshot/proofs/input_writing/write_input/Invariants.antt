use Rattle.vm_snapshot.proofs.Writings.{Written}
use Rattle.vm_snapshot.proofs.input_writing.write_input.Given as goal

abbrev pub invariant-loop-place : goal.invariant-loop-place
invariant-loop-place g l = Written l.steps l.script l.initial.text l.text (g.O.Sink.taken l.initial.out) (g.O.Sink.taken l.out)
    (g.O.Sink.faults l.initial.out) (g.O.Sink.faults l.out) l.begun l.place
