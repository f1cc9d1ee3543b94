use Rattle.std.proofs.Common.{◌∙◌, ◌-◌, ◌+◌, sym, arith, rules}
use Rattle.mb_entry.proofs.Longs.{longs_on, longs_without, longs_done}
use Rattle.mb_entry.proofs.taking.read_longs.Goals as goal
use Rattle.mb_frames.specs.declared.places.TheConstants.{LONGS}

pub returns-in-Err-clause-means : goal.returns-in-Err-clause-means
returns-in-Err-clause-means g c =
    sym c.loop-i.invariant.told
    ∙ longs_without g.P.Port.bus _ (LONGS - (c.loop-i.i + 1)) c.loop-i.at c.loop-i.longs.items _ _ _ (omega arith) c.in-Err.ensures.means

pub loop-i-preserved : goal.loop-i-preserved
loop-i-preserved g c = record {
  told = sym (longs_on g.P.Port.bus _ (LONGS - (c.loop-i.i + 1)) c.loop-i.at c.loop-i.longs.items c.push.new.self.items c.in-Ok.long _ _
      (omega arith) c.in-Ok.ensures.means c.push.ensures.items) ∙ c.loop-i.invariant.told;
  all = search rules;
  rest = search rules;
}

pub returns-clause-means : goal.returns-clause-means
returns-clause-means g c =
    sym c.loop-i.invariant.told ∙ longs_done g.P.Port.bus _ c.loop-i.at c.loop-i.longs.items _ (omega arith)
