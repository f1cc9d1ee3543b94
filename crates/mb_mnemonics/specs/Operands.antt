-- The operands that a line takes, and what they say.
use Rattle.std.specs.Prelude.{ℕ, ◌+◌, ◌*◌, ◌%◌, ◌^◌, ℤ, pos, Bool, true, false, ◌&&◌, ◌||◌, not}
use Rattle.std.specs.Prelude.{List, [], ◌∷◌, ◌++◌, Option, Some, None, if◌then◌else◌, option_map, option_and_then}
use Rattle.std.specs.Int.{reverse_bits, w16}
use Rattle.mb_instr.specs.declared.control.ControlRegister.{ControlRegister}
use Rattle.mb_instr.specs.declared.control.ControlRegister.TheVariants as control
use Rattle.mb_instr.specs.declared.size.Size.{Size}
use Rattle.mb_instr.specs.declared.size.Size.TheVariants as size
use Rattle.mb_instr.specs.Kinds.{caches_bits}
use Rattle.mb_instr.specs.Operands.{immediate, long_words}
use Rattle.mb_instr.specs.Control.{code_of}
use Rattle.mb_syntax.specs.declared.mode.Mode.{Mode}
use Rattle.mb_syntax.specs.declared.mode.Mode.TheVariants as mode
use Rattle.mb_syntax.specs.declared.operand.Operand.{Operand}
use Rattle.mb_syntax.specs.declared.operand.Operand.TheVariants as operand
use Rattle.mb_syntax.specs.declared.operand.BitField.{BitField}
use Rattle.mb_syntax.specs.declared.operand.FieldNumber.{FieldNumber}
use Rattle.mb_syntax.specs.declared.operand.FieldNumber.TheVariants as field_number
use Rattle.mb_mnemonics.specs.declared.range.Range.{Range}
use Rattle.mb_mnemonics.specs.declared.range.Range.TheVariants as range
use Rattle.mb_mnemonics.specs.declared.pattern.Place.{Place}
use Rattle.mb_mnemonics.specs.declared.pattern.Place.TheVariants.{X, Y, Upper, Middle, Both}
use Rattle.mb_mnemonics.specs.declared.pattern.Pattern.{Pattern}
use Rattle.mb_mnemonics.specs.declared.pattern.Pattern.TheVariants as pattern
use Rattle.mb_mnemonics.specs.Ranges.{number, immediate_range, branch}
use Rattle.mb_mnemonics.specs.Modes.{in_class, is_word, mode_of, lower_of, mode_words, immediate_words}
use Rattle.mb_mnemonics.specs.Modes.{extension_words}

-- ---- forms

abbrev pub is_data : Mode ℤ → Bool
is_data (mode.Data n) = true
is_data _ = false

abbrev pub is_address : Mode ℤ → Bool
is_address (mode.Address n) = true
is_address _ = false

abbrev pub is_indirect : Mode ℤ → Bool
is_indirect (mode.Indirect n) = true
is_indirect _ = false

abbrev pub is_post_increment : Mode ℤ → Bool
is_post_increment (mode.PostIncrement n) = true
is_post_increment _ = false

abbrev pub is_pre_decrement : Mode ℤ → Bool
is_pre_decrement (mode.PreDecrement n) = true
is_pre_decrement _ = false

abbrev pub is_immediate_form : Mode ℤ → Bool
is_immediate_form (mode.Immediate e) = true
is_immediate_form _ = false

abbrev pub is_displaced : Mode ℤ → Bool
is_displaced (mode.Displaced n e) = true
is_displaced _ = false

-- an address that has no width
abbrev pub is_target : Mode ℤ → Bool
is_target (mode.Absolute e None) = true
is_target _ = false

-- an address that is a long
abbrev pub is_long_address : Mode ℤ → Bool
is_long_address (mode.Absolute e w) = not (is_word w)
is_long_address _ = false

-- whether a mode is of the pattern's form at the size
abbrev pub takes_mode : Pattern → Size → Mode ℤ → Bool
takes_mode (pattern.Mode class) s m = in_class class s m
takes_mode (pattern.Destination class) s m = in_class class s m
takes_mode (pattern.Memory class) s m = in_class class s m && not (is_data m)
takes_mode pattern.DataMode s m = is_data m
takes_mode (pattern.Data place) s m = is_data m
takes_mode (pattern.Address place) s m = is_address m
takes_mode (pattern.Register place) s m = is_data m || is_address m
takes_mode (pattern.Indirect place) s m = is_indirect m
takes_mode (pattern.PostIncrement place) s m = is_post_increment m
takes_mode (pattern.PreDecrement place) s m = is_pre_decrement m
takes_mode pattern.Immediate s m = is_immediate_form m
takes_mode (pattern.Quick r) s m = is_immediate_form m
takes_mode pattern.WordNumber s m = is_immediate_form m
takes_mode (pattern.Distance reach) s m = is_immediate_form m
takes_mode (pattern.Target reach) s m = is_target m
takes_mode pattern.RegisterList s m = is_data m || is_address m
takes_mode pattern.ReversedList s m = is_data m || is_address m
takes_mode pattern.Displaced s m = is_displaced m
takes_mode pattern.Absolute s m = is_long_address m
takes_mode _ s m = false

abbrev pub takes_field : Pattern → Size → Mode ℤ → Bool
takes_field (pattern.FieldMode class) s m = in_class class s m
takes_field _ s m = false

abbrev pub is_usp : ControlRegister → Bool
is_usp control.Usp = true
is_usp _ = false

abbrev pub takes_control : Pattern → ControlRegister → Bool
takes_control pattern.Control c = true
takes_control pattern.Usp c = is_usp c
takes_control _ c = false

abbrev pub takes_pair : Pattern → Bool
takes_pair (pattern.Pair h l) = true
takes_pair (pattern.Pairs place) = true
takes_pair _ = false

-- Whether an operand is of the pattern's form at the size. Numbers have no part in it.
abbrev pub takes_operand : Pattern → Size → Operand ℤ → Bool
takes_operand p s (operand.Mode m) = takes_mode p s m
takes_operand p s (operand.Field m f) = takes_field p s m
takes_operand p s operand.Sr = elim p [ pattern.Sr ↦ true | _ ↦ false ]
takes_operand p s operand.Ccr = elim p [ pattern.Ccr ↦ true | _ ↦ false ]
takes_operand p s (operand.Control c) = takes_control p c
takes_operand p s (operand.List l) = elim p [ pattern.RegisterList ↦ true | pattern.ReversedList ↦ true | _ ↦ false ]
takes_operand p s (operand.Pair h l) = takes_pair p
takes_operand p s (operand.IndirectPair n m) = elim p [ pattern.IndirectPairs ↦ true | _ ↦ false ]
takes_operand p s (operand.Caches c) = elim p [ pattern.Caches ↦ true | _ ↦ false ]
takes_operand p s (operand.Text t) = false

-- operands of a line's forms, as many as it has
abbrev pub takes_operands : List Pattern → Size → List (Operand ℤ) → Bool
takes_operands [] s [] = true
takes_operands (p ∷ ps) s (o ∷ os) = takes_operand p s o && takes_operands ps s os
takes_operands _ s _ = false

-- how many words an operand of the pattern's form has of its own
abbrev pub operand_words : Pattern → Size → Operand ℤ → ℕ
operand_words (pattern.Mode class) s (operand.Mode m) = mode_words s m
operand_words (pattern.Destination class) s (operand.Mode m) = mode_words s m
operand_words (pattern.Memory class) s (operand.Mode m) = mode_words s m
operand_words (pattern.FieldMode class) s (operand.Field m f) = mode_words s m
operand_words pattern.Immediate s o = immediate_words s
operand_words (pattern.Distance size.Long) s o = 2
operand_words (pattern.Target size.Long) s o = 2
operand_words pattern.Absolute s o = 2
operand_words _ s o = 0

abbrev pub operands_words : List Pattern → Size → List (Operand ℤ) → ℕ
operands_words (p ∷ ps) s (o ∷ os) = operand_words p s o + operands_words ps s os
operands_words _ s _ = 0

-- ---- what operands say

-- what operands say: bits of the first word and of the two behind it, and words of their own
pub record Said : Type 0 where
  pub first : ℕ
  pub second : ℕ
  pub third : ℕ
  pub own : List ℕ

abbrev pub in_first : ℕ → Said
in_first bits = record { first = bits; second = 0; third = 0; own = [] }

abbrev pub in_second : ℕ → Said
in_second bits = record { first = 0; second = bits; third = 0; own = [] }

abbrev pub in_both : ℕ → ℕ → Said
in_both bits more = record { first = 0; second = bits; third = more; own = [] }

abbrev pub in_own : List ℕ → Said
in_own words = record { first = 0; second = 0; third = 0; own = words }

-- what is said before, and what an operand says
abbrev pub together : Said → Said → Said
together a b = record {
  first = (a.first + b.first) % 2 ^ 16;
  second = (a.second + b.second) % 2 ^ 16;
  third = (a.third + b.third) % 2 ^ 16;
  own = a.own ++ b.own;
}

-- a register's number at its place in a word behind the first
abbrev pub place_bits : Place → ℕ → ℕ
place_bits Upper n = n % 16 * 2 ^ 12
place_bits Middle n = n % 8 * 2 ^ 6
place_bits Both n = n % 8 * 2 ^ 12 + n % 8
place_bits _ n = n % 8

-- a register's number at its place
abbrev pub register_at : Place → ℕ → Said
register_at X n = in_first (n % 8 * 2 ^ 9)
register_at Y n = in_first (n % 8)
register_at place n = in_second (place_bits place n)

-- the number of the register that a mode names, where an address register has 8 added
abbrev pub general : Mode ℤ → ℕ
general m = (if is_data m then 0 else 8) + lower_of m % 8

-- a bit field's offset or width: a register with a bit that says so, or a number
abbrev pub field_part : Range → FieldNumber ℤ → Option ℕ
field_part r (field_number.Data n) = Some (2 ^ 5 + n % 8)
field_part r (field_number.Number e) = number r e

-- `0000 Oooo ooWw wwww`
abbrev pub field_bits : BitField ℤ → Option ℕ
field_bits f = option_and_then
    (λ o. option_map (λ w. o * 2 ^ 6 + w) (field_part range.Width f.width)) (field_part range.Offset f.offset)

-- a number in the first word: 8 is spelled 0
abbrev pub quick_bits : Range → ℕ → ℕ
quick_bits range.Count v = v % 8 * 2 ^ 9
quick_bits _ v = v % 2 ^ 8

-- a displacement of the size, where the length of its displacement has it
abbrev pub reach_said : Size → ℕ → Said
reach_said size.Byte d = in_first (d % 2 ^ 8)
reach_said size.Word d = in_second (d % 2 ^ 16)
reach_said size.Long d = in_own (long_words d)

-- the number that a mode has
abbrev pub value_of : Mode ℤ → ℤ
value_of (mode.Immediate e) = e
value_of (mode.Absolute e w) = e
value_of (mode.Displaced n e) = e
value_of _ = pos 0

-- bits 5 to 0 of the first word, and those of MOVE's destination, 11 to 6
abbrev pub source_bits : Mode ℤ → ℕ
source_bits m = mode_of m * 2 ^ 3 + lower_of m % 8

abbrev pub destination_bits : Mode ℤ → ℕ
destination_bits m = lower_of m % 8 * 2 ^ 9 + mode_of m * 2 ^ 6

-- what an operand of the size says with these bits, whose words stand here
abbrev pub ea_said : Size → ℕ → ℕ → Mode ℤ → Option Said
ea_said s here bits m =
    option_map (λ ws. record { first = bits; second = 0; third = 0; own = ws }) (extension_words s here m)

-- a list of registers
abbrev pub list_said : Pattern → ℕ → Said
list_said pattern.ReversedList l = in_second (reverse_bits w16 l)
list_said _ l = in_second l

-- what a mode says by its pattern, in a statement at the address, whose own words stand here
abbrev pub mode_said : Pattern → Size → ℕ → ℕ → Mode ℤ → Option Said
mode_said (pattern.Mode class) s at here m = ea_said s here (source_bits m) m
mode_said (pattern.Memory class) s at here m = ea_said s here (source_bits m) m
mode_said pattern.DataMode s at here m = ea_said s here (source_bits m) m
mode_said (pattern.Destination class) s at here m = ea_said s here (destination_bits m) m
mode_said (pattern.Data place) s at here m = Some (register_at place (general m))
mode_said (pattern.Address place) s at here m = Some (register_at place (general m))
mode_said (pattern.Register place) s at here m = Some (register_at place (general m))
mode_said (pattern.Indirect place) s at here m = Some (register_at place (general m))
mode_said (pattern.PostIncrement place) s at here m = Some (register_at place (general m))
mode_said (pattern.PreDecrement place) s at here m = Some (register_at place (general m))
mode_said pattern.Immediate s at here m =
    option_map (λ v. in_own (immediate s v)) (number (immediate_range s) (value_of m))
mode_said (pattern.Quick r) s at here m = option_map (λ v. in_first (quick_bits r v)) (number r (value_of m))
mode_said pattern.WordNumber s at here m = option_map in_second (number range.Word (value_of m))
mode_said (pattern.Distance reach) s at here m =
    option_map (reach_said reach) (number (immediate_range reach) (value_of m))
mode_said (pattern.Target reach) s at here m = option_map (reach_said reach) (branch reach at (value_of m))
mode_said pattern.RegisterList s at here m = Some (list_said pattern.RegisterList (2 ^ general m))
mode_said pattern.ReversedList s at here m = Some (list_said pattern.ReversedList (2 ^ general m))
mode_said pattern.Displaced s at here m =
    option_map (λ d. record { first = lower_of m % 8; second = d; third = 0; own = [] })
    (number range.Displacement16 (value_of m))
mode_said pattern.Absolute s at here m = option_map (λ a. in_own (long_words a)) (number range.Long (value_of m))
mode_said _ s at here m = Some (in_first 0)

abbrev pub pair_said : Pattern → ℕ → ℕ → Said
pair_said (pattern.Pairs place) n m = in_both (place_bits place n) (place_bits place m)
pair_said (pattern.Pair h l) n m = in_second ((place_bits h n + place_bits l m) % 2 ^ 16)
pair_said _ n m = in_first 0

-- What an operand of the pattern's form says in a statement at the address, where its own words stand here; none where
-- a number is out of its range.
abbrev pub operand_said : Pattern → Size → ℕ → ℕ → Operand ℤ → Option Said
operand_said p s at here (operand.Mode m) = mode_said p s at here m
operand_said p s at here (operand.Field m f) = option_and_then (λ w.
    option_map (λ ws. record { first = source_bits m; second = w; third = 0; own = ws }) (extension_words s here m))
    (field_bits f)
operand_said p s at here (operand.Control c) = Some (in_second (code_of c))
operand_said p s at here (operand.List l) = Some (list_said p l)
operand_said p s at here (operand.Pair n m) = Some (pair_said p n m)
operand_said p s at here (operand.IndirectPair n m) = Some (in_both (place_bits Upper n) (place_bits Upper m))
operand_said p s at here (operand.Caches c) = Some (in_first (caches_bits c * 2 ^ 6))
operand_said p s at here _ = Some (in_first 0)

-- what the operands say beside what was said before, of which the first has its words here
abbrev pub operands_said : List Pattern → Size → ℕ → ℕ → List (Operand ℤ) → Said → Option Said
operands_said (p ∷ ps) s at here (o ∷ os) said = option_and_then
    (λ more. operands_said ps s at ((here + 2 * operand_words p s o) % 2 ^ 32) os (together said more))
    (operand_said p s at here o)
operands_said _ s at here _ said = Some said
