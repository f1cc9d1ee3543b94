use Rattle.std.proofs.Common.{◌≡◌, ◌-◌, ◌+◌, ◌%◌, ◌^◌, [], ◌∷◌, length}
use Rattle.mb_model.specs.Status.{space_of}
use Rattle.mb_instr.specs.declared.counts.TheConstants.{MOST_WORDS}
use Rattle.mb_step.proofs.Fetches.{seeking}
use Rattle.mb_step.proofs.fetching.fetch_more.Given as goal

abbrev pub invariant-loop : goal.invariant-loop
invariant-loop g l = record {
  means : seeking g.P.Port.bus l.fn.processor l.space (MOST_WORDS - (l.counter + 1)) l.at (l.first ∷ l.behind.items) (g.P.Port.world l.port)
      ≡ seeking g.P.Port.bus l.fn.processor (space_of l.fn.processor) (MOST_WORDS - 3) ((l.third_at + 2) % 2 ^ 32)
      (l.first ∷ l.second ∷ l.third ∷ []) (g.P.Port.world l.fn.port);
  even : l.at % 2 ≡ 0;
  count : length l.behind.items ≡ l.counter;
  processor : l.processor ≡ l.fn.processor;
  rest : g.P.Port.rest l.port ≡ g.P.Port.rest l.fn.port;
}
