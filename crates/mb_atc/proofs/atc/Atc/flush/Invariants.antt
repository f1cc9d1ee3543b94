use Rattle.std.proofs.Common.{◌≡◌, map}
use Rattle.std.specs.List.{All}
use Rattle.mb_model.specs.Keeping.{NamesPages, flushed_in}
use Rattle.mb_atc.proofs.Firsts.{firsts}
use Rattle.mb_atc.proofs.atc.Atc.flush.Given as goal

abbrev pub invariant-loop-set : goal.invariant-loop-set
invariant-loop-set l = record {
  lists : map (λ set. set.items) l.set-items ≡ firsts (flushed_in l.what) l.set-index (map (λ set. set.items) l.initial.set-items);
  names : All (λ set. All NamesPages set.items) l.set-items;
}
