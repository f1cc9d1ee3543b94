-- What is found in the rest is what is found in all, and the rest is short.
use Rattle.std.proofs.Common.{◌≡◌, drop}
use Rattle.std.specs.Prelude.{IsTrue}
use Rattle.std.specs.List.{list_all}
use Rattle.mb_mnemonics.specs.Code.{is_short}
use Rattle.mb_listing.specs.Listing.{line_among}
use Rattle.mb_listing.proofs.line.line_among.Given as goal

abbrev pub invariant-loop-mnemonic : goal.invariant-loop-mnemonic
invariant-loop-mnemonic l =
    (line_among (drop l.mnemonic-index l.mnemonics) l.at l.words ≡ line_among l.mnemonics l.at l.words)
    × IsTrue (list_all is_short (drop l.mnemonic-index l.mnemonics))
