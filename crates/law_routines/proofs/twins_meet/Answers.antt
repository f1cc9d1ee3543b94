use Rattle.std.proofs.Common.{inl, inr, ◌∙◌, sym}
use Rattle.law_routines.specs.Until.{run_until}
use Rattle.law_routines.specs.Tree.{routine_of, tree_of}
use Rattle.law_routines.specs.Twin.{together_on, refused_on}
use Rattle.law_routines.specs.Laws.{Related, PassesCall, Passes, Says, After, kin_of}
use Rattle.law_routines.proofs.Trees.{run_tree}
use Rattle.law_routines.proofs.Twinned as twinned
use Rattle.law_routines.proofs.TwinTrees.{tree_twins, routine_twins, met_meets_on}
use Rattle.law_routines.proofs.twins_meet.Goals as goal

pub returns-clause-until : goal.returns-clause-until
returns-clause-until g c = λ k r lawful allowed permitted bus peer h same m n w s t q l.
    met_meets_on (kin_of k) (Related r) (Related same) (run_until allowed bus (routine_of m) s) (run_until permitted peer (routine_of n) t)
    (twinned.twins_meet (kin_of k) (Related r) (PassesCall lawful) allowed permitted bus peer h _ _ (Related same) (routine_of m) (routine_of n)
    (routine_twins (kin_of k) (Related same) m n w) s t q l)

pub returns-clause-followed : goal.returns-clause-followed
returns-clause-followed g c = λ k r x permitted peer before p after h same m n w tells s t q b.
    elim (twinned.twins_follow (kin_of k) (Related r) (Related x.same) (PassesCall x.lawful) x.allowed permitted x.bus peer h _ _ _ (Passes before) (Says p)
    (After after) (Related same) (routine_of m) (routine_of n) (routine_twins (kin_of k) (Related same) m n w) tells s t q b) [
      | together_on rel kept ↦ inl (rel, kept)
      | refused_on rest twin now later there call e z rel first denied says ends stays goes ↦
          inr (
            tree_of rest,
            tree_of twin,
            now,
            later,
            there,
            e,
            tree_twins (kin_of k) _ _ (Related same) rest twin z,
            rel,
            stays,
            says,
            ends,
            goes ∙ sym (run_tree peer twin there),
          )
    ]
