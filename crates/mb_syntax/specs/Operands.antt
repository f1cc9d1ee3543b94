-- Operands.
use Rattle.std.specs.Prelude.{ℕ, zero, suc, ◌+◌, ◌-◌, ◌^◌, Bool, true, false, nat_le, nat_lt, ◌&&◌, ◌||◌}
use Rattle.std.specs.Prelude.{if◌then◌else◌, List, [], ◌∷◌, Option, Some, None, option_map, bit_or}
use Rattle.std.specs.Option.{option_or}
use Rattle.mb_syntax.specs.declared.word.Word.{Word}
use Rattle.mb_syntax.specs.declared.word.Word.TheVariants as word
use Rattle.mb_syntax.specs.declared.register.Register.{Register}
use Rattle.mb_syntax.specs.declared.register.Register.TheVariants as register
use Rattle.mb_syntax.specs.declared.mode.Mode.{Mode}
use Rattle.mb_syntax.specs.declared.operand.BitField.{BitField}
use Rattle.mb_syntax.specs.declared.operand.FieldNumber.{FieldNumber}
use Rattle.mb_syntax.specs.declared.operand.FieldNumber.TheVariants as number
use Rattle.mb_syntax.specs.declared.operand.Operand.{Operand}
use Rattle.mb_syntax.specs.declared.operand.Operand.TheVariants as operand
use Rattle.mb_syntax.specs.Options.{◌>>=◌}
use Rattle.mb_syntax.specs.Sums.{comma_at, expression_at}
use Rattle.mb_syntax.specs.Modes.{Sum, mode_at, with_rest}

-- Register lists.

-- D0 to D7 as 0 to 7, A0 to A7 as 8 to 15
abbrev pub general_of : Register → Option ℕ
general_of (register.Data n) = if nat_lt n 8 then Some n else None
general_of (register.Address n) = if nat_lt n 8 then Some (8 + n) else None
general_of _ = None

-- ascending, and data or address registers alone
abbrev pub is_range : ℕ → ℕ → Bool
is_range from to = nat_le from to && (nat_lt to 8 || nat_le 8 from && nat_lt to 16)

-- a bit for each register of a range
abbrev pub mask_of : ℕ → ℕ → Option ℕ
mask_of from to = if is_range from to then Some (2 ^ (to + 1) - 2 ^ from) else None

-- `Xn-Xm`
abbrev pub range : Register → Register → Option ℕ
range first last = do
  from ← general_of first
  to ← general_of last
  mask_of from to

-- registers and ranges of registers, parted by `/`, with those before them
abbrev pub list_behind : ℕ → List Word → Option (ℕ × List Word)
list_behind mask (word.Register first _ ∷ word.Minus ∷ word.Register last _ ∷ word.Slash ∷ words) =
    range first last >>= λ more. list_behind (bit_or mask more) words
list_behind mask (word.Register first _ ∷ word.Minus ∷ word.Register last _ ∷ words) =
    range first last >>= λ more. Some (bit_or mask more, words)
list_behind mask (word.Register only _ ∷ word.Slash ∷ words) = range only only >>=
    λ more. list_behind (bit_or mask more) words
list_behind mask (word.Register only _ ∷ words) = range only only >>= λ more. Some (bit_or mask more, words)
list_behind _ _ = None

abbrev pub list_at : List Word → Option (ℕ × List Word)
list_at words = list_behind 0 words

abbrev pub as_list : ℕ × List Word → Operand Sum × List Word
as_list (mask, words) = (operand.List mask, words)

-- Bit fields.

abbrev pub as_number : Sum × List Word → FieldNumber Sum × List Word
as_number (value, words) = (number.Number value, words)

-- `Dn` or a number
abbrev pub field_number_at : List Word → Option (FieldNumber Sum × List Word)
field_number_at (word.Register (register.Data n) _ ∷ words) = Some (number.Data n, words)
field_number_at words = option_map as_number (expression_at words)

abbrev pub colon_at : List Word → Option (List Word)
colon_at (word.Colon ∷ words) = Some words
colon_at _ = None

abbrev pub close_brace_at : List Word → Option (List Word)
close_brace_at (word.CloseBrace ∷ words) = Some words
close_brace_at _ = None

-- what stands behind `{`: `o:w}`
abbrev pub field_at : List Word → Option (BitField Sum × List Word)
field_at words = do
  (offset, behind_offset) ← field_number_at words
  behind_colon ← colon_at behind_offset
  (width, behind_width) ← field_number_at behind_colon
  rest ← close_brace_at behind_width
  Some (record { offset = offset; width = width }, rest)

-- Pairs.

-- `Dh:Dl`
abbrev pub pair : Register → Register → Option (Operand Sum)
pair (register.Data first) (register.Data second) = Some (operand.Pair first second)
pair _ _ = None

-- what stands behind `Dh:`
abbrev pub pair_behind : Register → List Word → Option (Operand Sum × List Word)
pair_behind first (word.Register second _ ∷ words) = option_map (with_rest words) (pair first second)
pair_behind first _ = None

-- a register and `)`
abbrev pub closed_register_at : List Word → Option (ℕ × List Word)
closed_register_at (word.Register given _ ∷ word.Close ∷ words) = option_map (with_rest words) (general_of given)
closed_register_at _ = None

abbrev pub colon_open_at : List Word → Option (List Word)
colon_open_at (word.Colon ∷ word.Open ∷ words) = Some words
colon_open_at _ = None

-- what stands behind `(` in `(Rn):(Rn)`
abbrev pub indirect_pair_at : List Word → Option (Operand Sum × List Word)
indirect_pair_at words = do
  (first, behind_first) ← closed_register_at words
  behind_colon ← colon_open_at behind_first
  (second, rest) ← closed_register_at behind_colon
  Some (operand.IndirectPair first second, rest)

-- Operands.

abbrev pub with_field : Mode Sum → BitField Sum × List Word → Operand Sum × List Word
with_field of (field, words) = (operand.Field of field, words)

-- a mode, and the bit field where one stands behind it
abbrev pub behind_mode : Mode Sum × List Word → Option (Operand Sum × List Word)
behind_mode (found, word.OpenBrace ∷ words) = option_map (with_field found) (field_at words)
behind_mode (found, words) = Some (operand.Mode found, words)

-- an addressing mode, or one with a bit field
abbrev pub place_at : List Word → Option (Operand Sum × List Word)
place_at words = mode_at words >>= behind_mode

-- SR, CCR and the control registers
abbrev pub special_of : Register → Option (Operand Sum)
special_of register.Sr = Some operand.Sr
special_of register.Ccr = Some operand.Ccr
special_of (register.Control control) = Some (operand.Control control)
special_of _ = None

-- all words, the register that is the first of them, and what stands behind it: a pair, a register list or a mode
abbrev pub behind_register : List Word → Register → List Word → Option (Operand Sum × List Word)
behind_register all first (word.Colon ∷ words) = pair_behind first words
behind_register all first (word.Minus ∷ _) = option_map as_list (list_at all)
behind_register all first (word.Slash ∷ _) = option_map as_list (list_at all)
behind_register all first _ = place_at all

abbrev pub special_or : Option (Operand Sum) → List Word → Register → List Word → Option (Operand Sum × List Word)
special_or (Some special) all first words = Some (special, words)
special_or None all first words = behind_register all first words

-- an operand by all words, and the same words by the first
abbrev pub operand_by : List Word → List Word → Option (Operand Sum × List Word)
operand_by all (word.Text text ∷ words) = Some (operand.Text text, words)
operand_by all (word.Register first _ ∷ words) = special_or (special_of first) all first words
operand_by all (word.Open ∷ words) = option_or (indirect_pair_at words) (place_at all)
operand_by all _ = place_at all

-- An operand, and what stands behind it.
unfoldable pub operand_at : List Word → Option (Operand Sum × List Word)
operand_at words = operand_by words words

-- Lists of operands.

-- In CINV and CPUSH an operand may be the name of caches.
abbrev pub operand_among : Bool → List Word → Option (Operand Sum × List Word)
operand_among true (word.Cache caches _ ∷ words) = Some (operand.Caches caches, words)
operand_among _ words = operand_at words

-- nothing but a blank is left
abbrev pub is_end : List Word → Bool
is_end [] = true
is_end (word.Blank ∷ []) = true
is_end _ = false

abbrev pub with_operand : Operand Sum → Option (List (Operand Sum)) → Option (List (Operand Sum))
with_operand first later = option_map (λ others. first ∷ others) later

-- At most so many operands, parted by commas, up to the line's end. A line has no more operands than words.
abbrev pub operands_of : ℕ → Bool → List Word → Option (List (Operand Sum))
operands_of zero caches words = None
operands_of (suc most) caches words = operand_among caches words >>= λ (first, behind).
    if is_end behind then Some (first ∷ [])
    else comma_at behind >>= λ rest. with_operand first (operands_of most caches rest)
