-- The terms so far, with those that are left, are those before the loop with all.
use Rattle.std.proofs.Common.{◌≡◌, length}
use Rattle.mb_syntax.specs.Sums.{terms_at, with_front}
use Rattle.mb_syntax.proofs.sum.push_terms.Given as goal

abbrev pub invariant-terms : goal.invariant-terms
invariant-terms l = with_front l.terms.items (terms_at l.words) ≡ with_front l.fn.terms.items (terms_at l.fn.words)

abbrev pub decreases-terms : goal.decreases-terms
decreases-terms l = length l.words
