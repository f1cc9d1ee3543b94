-- What the fields of an access error leave of a MOVEM.
use Rattle.std.proofs.Common.{◌≡◌, ◌≤◌, Bool, true, false, cond}
use Rattle.mb_frames.specs.declared.frame.Access.{Access}
use Rattle.def_processor.specs.Return.{continues}
use Rattle.mb_writes.specs.Transfers.{count_of, mask_in}
use Rattle.def_runs.specs.declared.left.LeftOver.{LeftOver}
use Rattle.def_runs.specs.declared.left.LeftOver.TheVariants.{Movem}
use Rattle.def_runs.specs.Frames.{left_in}
use Rattle.law_turns.specs.Lawful.{IsLawfulLeftOver}

by_case : (b : Bool) (l m : LeftOver) → b ≡ true → IsLawfulLeftOver (cond b l m) → IsLawfulLeftOver l
by_case true l m is h = h
by_case false l m is h = absurd (let z : ⊥ = cc in z)

pub few_done : (a : Access) → continues a ≡ true → IsLawfulLeftOver (left_in a) → a.pd3 ≤ count_of (mask_in a.pd2)
few_done a goes h = by_case (continues a) (Movem a.pd2 a.ea a.pd3 a.pd1) _ goes h
