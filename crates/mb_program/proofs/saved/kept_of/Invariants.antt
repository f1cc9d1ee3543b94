use Rattle.std.proofs.Common.{◌≡◌}
use Rattle.std.specs.Prelude.{◌-◌}
use Rattle.arrayvec.specs.ArrayVec.{array_vec_len}
use Rattle.vm_slices.specs.Places.{members_in}
use Rattle.mb_program.proofs.KeptLemmas.{FirstKept}
use Rattle.mb_program.proofs.saved.kept_of.Given as goal

abbrev pub invariant-loop-place : goal.invariant-loop-place
invariant-loop-place l = record {
  first : FirstKept (members_in l.host) (l.guest - 1) l.place l.all.items;
  len : array_vec_len l.all ≡ l.place;
}
