use Rattle.std.proofs.Common.{◌∙◌, ◌-◌, ◌+◌, ℕ, ◌∷◌, ap, sym, arith}
use Rattle.mb_decode.specs.Decodes.{decode_of, told}
use Rattle.mb_instr.specs.declared.counts.TheConstants.{MOST_WORDS}
use Rattle.mb_step.proofs.Fetches.{seeking_on, seeking_without, seeking_no_more, seeking_whole, seeking_none}
use Rattle.mb_step.proofs.fetching.fetch_more.Goals as goal

pub returns-in-Err-clause-means : goal.returns-in-Err-clause-means
returns-in-Err-clause-means g c =
    sym c.loop.invariant.means
    ∙ seeking_without g.P.Port.bus _ c.loop.processor _ (MOST_WORDS - (c.loop.counter + 2)) _ c.loop.at (c.args.first ∷ c.loop.behind.items) _ _ _ _
    (omega arith) c.in-Err.ensures.means c.loop.invariant.processor
    c.finish_unfetched.ensures.means

pub returns-in-Whole-clause-means : goal.returns-in-Whole-clause-means
returns-in-Whole-clause-means g c =
    sym c.loop.invariant.means
    ∙ seeking_on g.P.Port.bus _ _ (MOST_WORDS - (c.loop.counter + 2)) _ c.loop.at (c.args.first ∷ c.loop.behind.items) c.in-Ok.word _ _
    (c.args.first ∷ c.push-in-Ok.new.self.items) _ (omega arith) c.in-Ok.ensures.means
    (ap (λ words. c.args.first ∷ words) c.push-in-Ok.ensures.items)
    (c.decode_into.ensures.means ∙ ap (λ words. decode_of (c.args.first ∷ words)) c.as_slice.ensures.value)
    ∙ seeking_whole g.P.Port.bus _ c.loop.processor _ _ _ c.decode_into.new.instruction c.in-Whole.length
    (ap (λ answer. told answer c.decode_into.new.instruction) c.in-Whole.is) c.loop.invariant.processor

pub returns-in-Illegal-clause-means : goal.returns-in-Illegal-clause-means
returns-in-Illegal-clause-means g c =
    sym c.loop.invariant.means
    ∙ seeking_on g.P.Port.bus _ _ (MOST_WORDS - (c.loop.counter + 2)) _ c.loop.at (c.args.first ∷ c.loop.behind.items) c.in-Ok.word _ _
    (c.args.first ∷ c.push-in-Ok.new.self.items) _ (omega arith) c.in-Ok.ensures.means
    (ap (λ words. c.args.first ∷ words) c.push-in-Ok.ensures.items)
    (ap (λ answer. told answer c.decode_into.new.instruction) (sym c.in-Illegal.is) ∙ c.decode_into.ensures.means
    ∙ ap (λ words. decode_of (c.args.first ∷ words)) c.as_slice.ensures.value)
    ∙ seeking_none g.P.Port.bus _ c.loop.processor 4 _ _ c.loop.invariant.processor c.refuse.ensures.means

pub returns-in-LineA-clause-means : goal.returns-in-LineA-clause-means
returns-in-LineA-clause-means g c =
    sym c.loop.invariant.means
    ∙ seeking_on g.P.Port.bus _ _ (MOST_WORDS - (c.loop.counter + 2)) _ c.loop.at (c.args.first ∷ c.loop.behind.items) c.in-Ok.word _ _
    (c.args.first ∷ c.push-in-Ok.new.self.items) _ (omega arith) c.in-Ok.ensures.means
    (ap (λ words. c.args.first ∷ words) c.push-in-Ok.ensures.items)
    (ap (λ answer. told answer c.decode_into.new.instruction) (sym c.in-LineA.is) ∙ c.decode_into.ensures.means
    ∙ ap (λ words. decode_of (c.args.first ∷ words)) c.as_slice.ensures.value)
    ∙ seeking_none g.P.Port.bus _ c.loop.processor 10 _ _ c.loop.invariant.processor c.refuse-in-LineA.ensures.means

pub returns-in-LineF-clause-means : goal.returns-in-LineF-clause-means
returns-in-LineF-clause-means g c =
    sym c.loop.invariant.means
    ∙ seeking_on g.P.Port.bus _ _ (MOST_WORDS - (c.loop.counter + 2)) _ c.loop.at (c.args.first ∷ c.loop.behind.items) c.in-Ok.word _ _
    (c.args.first ∷ c.push-in-Ok.new.self.items) _ (omega arith) c.in-Ok.ensures.means
    (ap (λ words. c.args.first ∷ words) c.push-in-Ok.ensures.items)
    (ap (λ answer. told answer c.decode_into.new.instruction) (sym c.in-LineF.is) ∙ c.decode_into.ensures.means
    ∙ ap (λ words. decode_of (c.args.first ∷ words)) c.as_slice.ensures.value)
    ∙ seeking_none g.P.Port.bus _ c.loop.processor 11 _ _ c.loop.invariant.processor c.refuse-in-LineF.ensures.means

pub loop-preserved : goal.loop-preserved
loop-preserved g c =
    let even = c.loop.invariant.even in
    let count = c.loop.invariant.count in record {
      means = sym (seeking_on g.P.Port.bus _ _ (MOST_WORDS - (c.loop.counter + 1 + 1)) _ c.loop.at (c.args.first ∷ c.loop.behind.items) c.in-Ok.word _ _
          (c.args.first ∷ c.push-in-Ok.new.self.items) _ (omega arith) c.in-Ok.ensures.means
          (ap (λ words. c.args.first ∷ words) c.push-in-Ok.ensures.items)
          (ap (λ answer. told answer c.decode_into.new.instruction) (sym c.in-More.is) ∙ c.decode_into.ensures.means
          ∙ ap (λ words. decode_of (c.args.first ∷ words)) c.as_slice.ensures.value))
          ∙ c.loop.invariant.means;
      even = omega arith;
      count = c.push-in-Ok.ensures.len ∙ ap (λ (n : ℕ). n + 1) count;
      processor = c.loop.invariant.processor;
      rest = c.in-Ok.ensures.rest ∙ c.loop.invariant.rest;
    }

pub returns-clause-means : goal.returns-clause-means
returns-clause-means g c =
    sym c.loop.invariant.means
    ∙ seeking_no_more g.P.Port.bus _ c.loop.processor _ _ c.loop.at (c.args.first ∷ c.loop.behind.items) _ _ (omega arith) c.loop.invariant.processor
    c.refuse-2.ensures.means
