-- Instructions of three words that were decoded before.
use Rattle.std.specs.Prelude.{◌≡◌, [], ◌∷◌, IfSome}
use Rattle.mb_instr.specs.Codes.{IsInstr}
use Rattle.mb_decode.specs.declared.front.Decoded.TheVariants.{Whole}
use Rattle.mb_decode.specs.Decodes.{decode_of}
use Rattle.mb_table.specs.declared.three_words.Three.{Three}

-- what is kept is what its words decode to, where it is known
abbrev pub IsRight : Three → Type 0
IsRight e = IfSome e.instruction (λ i. (decode_of (e.first ∷ e.second ∷ e.third ∷ []) ≡ Whole i 3) × IsInstr i)
