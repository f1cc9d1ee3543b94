use Rattle.std.proofs.Common.{◌+◌, ◌-◌, ◌≤◌, sym, ap, ◌∙◌, arith}
use Rattle.mb_gen.specs.Draws.{after, draws}
use Rattle.mb_gen.specs.Seen.{generator_seen}
use Rattle.mb_gen.proofs.Laps.{picks, one_more, after_left, lap_done, none_left, at_end, closed}
use Rattle.mb_gen.proofs.program.push_lap.Goals as goal

pub loop-preserved : goal.loop-preserved
loop-preserved c = record {
  bytes = one_more c.loop.counter c.draw.result (generator_seen c.loop.generator) _ c.loop.bytes.items _ _
      c.loop-test.true c.draw.ensures.drawn c.draw.ensures.next c.in_ok-push_pick.ensures c.loop.invariant.bytes;
  after = ap (after (2000 - (c.loop.counter + 1))) c.draw.ensures.next
      ∙ sym (after_left c.loop.counter (generator_seen c.loop.generator) c.loop-test.true) ∙ c.loop.invariant.after;
}

pub returns-clause-lap : goal.returns-clause-lap
returns-clause-lap c =
    let over : 2000 ≤ c.loop.counter = omega arith in
    let taken = draws 2000 (generator_seen c.args.generator.now) in
    closed c.args.bytes.now.items _ (picks taken) c.loop.bytes.items _ _ _ c.in_ok-push_words-2.ensures c.in_ok-push_words.ensures
    (ap picks (none_left c.loop.counter (generator_seen c.loop.generator) over)) c.loop.invariant.bytes (lap_done taken)

pub returns-clause-after : goal.returns-clause-after
returns-clause-after c =
    let over : 2000 ≤ c.loop.counter = omega arith in
    sym (at_end c.loop.counter (generator_seen c.loop.generator) over) ∙ c.loop.invariant.after
