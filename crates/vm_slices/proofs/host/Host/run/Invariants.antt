use Rattle.std.proofs.Common.{◌≡◌, true}
use Rattle.def_guests.specs.Rounds.{all_done, left_of_all}
use Rattle.vm_slices.specs.Places.{members_in}
use Rattle.vm_slices.proofs.RoundLaws.{SoFar}
use Rattle.vm_slices.proofs.host.Host.run.Given as goal

abbrev pub invariant-loop-self : goal.invariant-loop-self
invariant-loop-self l = record {
  far : SoFar l.initial.self.slice (members_in l.initial.self) (members_in l.self) l.initial.native l.native;
  slice : l.self.slice ≡ l.initial.self.slice;
  again : all_done (members_in l.initial.self) ≡ true → (l.self ≡ l.initial.self) × (l.native ≡ l.initial.native);
}

abbrev pub decreases-loop-self : goal.decreases-loop-self
decreases-loop-self l = left_of_all (members_in l.self)
