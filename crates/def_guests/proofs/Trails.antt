-- The trail over marks that are put together.
use Rattle.std.proofs.Common.{[], ◌∷◌, refl}
use Rattle.def_runs.specs.Marks.{numbers_of, sum_with_all, trail}
use Rattle.def_guests.specs.Laws.{TrailsAppend}

pub trail_append : TrailsAppend
unfolding trail
trail_append t [] more = refl
trail_append t (p ∷ marks) more = trail_append (sum_with_all t (numbers_of p)) marks more
