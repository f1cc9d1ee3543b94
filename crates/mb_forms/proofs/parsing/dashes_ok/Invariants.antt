use Rattle.std.proofs.Common.{◌≡◌, drop, map, string_bytes}
use Rattle.mb_forms.specs.Forms.{dashes_ok}
use Rattle.mb_forms.proofs.parsing.dashes_ok.Given as goal

abbrev pub invariant-loop-word : goal.invariant-loop-word
invariant-loop-word l = dashes_ok (map string_bytes (drop l.word-index l.words)) ≡ dashes_ok (map string_bytes l.words)
