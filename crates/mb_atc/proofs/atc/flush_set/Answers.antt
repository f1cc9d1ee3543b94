use Rattle.std.proofs.Common.{rules, not}
use Rattle.arrayvec.proofs.ArrayVecLemmas.{filter-from_retain}
use Rattle.mb_model.specs.Keeping.{covers}
use Rattle.mb_atc.proofs.atc.flush_set.Goals as goal

pub returns-in-AllLocal : goal.returns-in-AllLocal
returns-in-AllLocal c = filter-from_retain _ (λ k. not (covers c.args.what k)) _ (λ k b f y t. search rules) _ _ c.retain.ensures.filtered
