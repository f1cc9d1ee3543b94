-- What two words begin with that were decoded before.
use Rattle.std.specs.Prelude.{◌≡◌, [], ◌∷◌}
use Rattle.mb_instr.specs.Codes.{IsInstr}
use Rattle.mb_decode.specs.Decodes.{decode_of, IfWhole}
use Rattle.mb_table.specs.declared.longer_words.Longer.{Longer}

-- what is kept is what its words decode to
abbrev pub IsRight : Longer → Type 0
IsRight e = (e.decoded ≡ decode_of (e.first ∷ e.second ∷ [])) × IfWhole e.decoded (λ i n. IsInstr i)
