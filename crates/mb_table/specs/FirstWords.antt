-- What each first word alone begins with.
use Rattle.std.specs.Prelude.{◌≡◌, ℕ, [], ◌∷◌}
use Rattle.mb_instr.specs.Codes.{IsInstr}
use Rattle.mb_decode.specs.declared.front.Decoded.{Decoded}
use Rattle.mb_decode.specs.Decodes.{decode_of, IfWhole}
use Rattle.mb_table.specs.declared.first_words.Known.{Known}

-- what a word alone begins with
abbrev pub alone : ℕ → Decoded
alone first = decode_of (first ∷ [])

-- what is known of a word is right
abbrev pub IsKnown : Known → Type 0
IsKnown k = (k.decoded ≡ alone k.first) × IfWhole k.decoded (λ i n. IsInstr i)
