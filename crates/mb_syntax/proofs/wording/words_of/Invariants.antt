-- The words so far, with those of the tokens that are left, are those of all tokens.
use Rattle.std.proofs.Common.{◌≡◌, ◌++◌, drop}
use Rattle.mb_syntax.specs.Words.{words_of}
use Rattle.mb_syntax.proofs.wording.words_of.Given as goal

abbrev pub invariant-loop-token : goal.invariant-loop-token
invariant-loop-token l = l.words.items ++ words_of l.line (drop l.token-index l.tokens) ≡ words_of l.line l.tokens
