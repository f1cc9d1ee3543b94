-- Addressing modes.
use Rattle.std.specs.Prelude.{ℕ, ◌==◌, Bool, true, false, ◌||◌, if◌then◌else◌, List, ◌∷◌, Option, Some, None}
use Rattle.std.specs.Prelude.{option_map, option_and_then, not, ◌&&◌}
use Rattle.std.specs.Option.{option_or, unwrap_or, is_some}
use Rattle.mb_syntax.specs.declared.word.Word.{Word}
use Rattle.mb_syntax.specs.declared.word.Word.TheVariants as word
use Rattle.mb_syntax.specs.declared.statement.SizeLetter.TheVariants as letter
use Rattle.mb_syntax.specs.declared.expression.SignedTerm.{SignedTerm}
use Rattle.mb_syntax.specs.declared.register.Register.{Register}
use Rattle.mb_syntax.specs.declared.register.Register.TheVariants as register
use Rattle.mb_syntax.specs.declared.mode.Width.{Width}
use Rattle.mb_syntax.specs.declared.mode.Width.TheVariants as width
use Rattle.mb_syntax.specs.declared.mode.Scale.{Scale}
use Rattle.mb_syntax.specs.declared.mode.Scale.TheVariants as scale
use Rattle.mb_syntax.specs.declared.mode.Index.{Index}
use Rattle.mb_syntax.specs.declared.mode.Base.{Base}
use Rattle.mb_syntax.specs.declared.mode.Base.TheVariants as base
use Rattle.mb_syntax.specs.declared.mode.Displacement.{Displacement}
use Rattle.mb_syntax.specs.declared.mode.Indirection.{Indirection}
use Rattle.mb_syntax.specs.declared.mode.Indirection.TheVariants as indirection
use Rattle.mb_syntax.specs.declared.mode.FullForm.{FullForm}
use Rattle.mb_syntax.specs.declared.mode.Mode.{Mode}
use Rattle.mb_syntax.specs.declared.mode.Mode.TheVariants as mode
use Rattle.mb_syntax.specs.declared.mode_reading.SizedSum.{SizedSum}
use Rattle.mb_syntax.specs.declared.mode_reading.IndexRegister.{IndexRegister}
use Rattle.mb_syntax.specs.declared.mode_reading.Group.{Group}
use Rattle.mb_syntax.specs.Options.{◌>>=◌, has}
use Rattle.mb_syntax.specs.Sums.{comma_at, expression_at}

-- What stands for an expression here: its terms.
abbrev pub Sum : Type 0
Sum = List SignedTerm

-- `.W` or `.L`
abbrev pub width_at : List Word → Option (Width × List Word)
width_at (word.Dot ∷ word.Letter letter.Word _ ∷ words) = Some (width.Word, words)
width_at (word.Dot ∷ word.Letter letter.Long _ ∷ words) = Some (width.Long, words)
width_at _ = None

-- what may be left out
abbrev pub optional : {A : Type 0} → Option (A × List Word) → List Word → Option A × List Word
optional (Some (part, rest)) words = (Some part, rest)
optional None words = (None, words)

-- Expressions with a width of their own.

abbrev pub with_width : Sum × List Word → SizedSum × List Word
with_width (value, words) =
    let (width, behind) = optional (width_at words) words in
    (record { value = value; width = width }, behind)

-- `e`, `e.W` or `e.L`
abbrev pub sized_at : List Word → Option (SizedSum × List Word)
sized_at words = option_map with_width (expression_at words)

-- a long where it has no width of its own
abbrev pub displacement_of : SizedSum → Displacement Sum
displacement_of sized = record { value = sized.value; width = unwrap_or sized.width width.Long }

-- Index registers.

abbrev pub scale_of : ℕ → Option Scale
scale_of n =
    if n == 1 then Some scale.One
    else if n == 2 then Some scale.Two
    else if n == 4 then Some scale.Four
    else if n == 8 then Some scale.Eight
    else None

abbrev pub with_rest : {A : Type 0} → List Word → A → A × List Word
with_rest words part = (part, words)

-- `*k`, which may be left out
abbrev pub scale_at : List Word → Option (Scale × List Word)
scale_at (word.Star ∷ word.Number n ∷ words) = option_map (with_rest words) (scale_of n)
scale_at (word.Star ∷ _) = None
scale_at words = Some (scale.One, words)

abbrev pub index_register : Register → Option IndexRegister
index_register (register.Data n) = Some (record { is_address = false; register = n; is_dropped = false })
index_register (register.Address n) = Some (record { is_address = true; register = n; is_dropped = false })
index_register (register.NoData n) = Some (record { is_address = false; register = n; is_dropped = true })
index_register (register.NoAddress n) = Some (record { is_address = true; register = n; is_dropped = true })
index_register _ = None

-- a register that is dropped may go without a width
abbrev pub index_width : Bool → List Word → Option (Width × List Word)
index_width is_dropped words = option_or (width_at words) (if is_dropped then Some (width.Word, words) else None)

abbrev pub index_of : IndexRegister → Width → Scale → Index
index_of x given_width given_scale = record {
  is_address = x.is_address;
  register = x.register;
  is_dropped = x.is_dropped;
  width = given_width;
  scale = given_scale;
}

-- an index whose register stands before the words
abbrev pub index_behind : Register → List Word → Option (Index × List Word)
index_behind given words = do
  x ← index_register given
  (width, behind_width) ← index_width x.is_dropped words
  (scale, behind_scale) ← scale_at behind_width
  Some (index_of x width scale, behind_scale)

-- `Xn.W*k` or `Xn.L*k`
abbrev pub index_at : List Word → Option (Index × List Word)
index_at (word.Register given _ ∷ words) = index_behind given words
index_at _ = None

-- a dropped register of number 0
abbrev pub no_index : Index
no_index = record { is_address = false; register = 0; is_dropped = true; width = width.Word; scale = scale.One }

-- Base registers.

abbrev pub base_of : Register → Option Base
base_of (register.Address n) = Some (base.Address n)
base_of register.Pc = Some base.Pc
base_of (register.NoAddress n) = Some (base.NoAddress n)
base_of register.NoPc = Some base.NoPc
base_of _ = None

-- a register without width and scale
abbrev pub base_at : List Word → Option (Base × List Word)
base_at (word.Register given _ ∷ word.Dot ∷ words) = None
base_at (word.Register given _ ∷ word.Star ∷ words) = None
base_at (word.Register given _ ∷ words) = option_map (with_rest words) (base_of given)
base_at _ = None

-- The parts of a form in parentheses or brackets: a displacement, a base and an index in this order, with commas
-- between them. Each may be left out.

-- where a part may stand: behind a comma, unless it is the first one
abbrev pub part_place : Bool → List Word → Option (List Word)
part_place true words = Some words
part_place false words = comma_at words

abbrev pub base_part : Bool → List Word → Option Base × List Word
base_part is_first words = optional (part_place is_first words >>= base_at) words

abbrev pub index_part : Bool → List Word → Option Index × List Word
index_part is_first words = optional (part_place is_first words >>= index_at) words

-- the parts, and what stands behind them
abbrev pub group_at : List Word → Group × List Word
group_at words =
    let (displacement, behind_displacement) = optional (sized_at words) words in
    let none = not (is_some displacement) in
    let (base, behind_base) = base_part none behind_displacement in
    let (index, behind_index) = index_part (none && not (is_some base)) behind_base in
    (record { displacement = displacement; base = base; index = index }, behind_index)

-- Modes in parentheses.

abbrev pub is_dropped_base : Base → Bool
is_dropped_base (base.NoAddress _) = true
is_dropped_base base.NoPc = true
is_dropped_base _ = false

-- A displacement with a width of its own and a dropped register ask for the full form.
abbrev pub asks_full : Group → Bool
asks_full parts =
    is_some (option_and_then (λ (sized : SizedSum). sized.width) parts.displacement)
    || has is_dropped_base parts.base
    || has (λ (index : Index). index.is_dropped) parts.index

abbrev pub full : Group → Indirection → Option SizedSum → FullForm Sum
full parts read outer = record {
  displacement = option_map displacement_of parts.displacement;
  base = unwrap_or parts.base (base.NoAddress 0);
  index = unwrap_or parts.index no_index;
  indirection = read;
  outer = option_map displacement_of outer;
}

-- the forms that have no brackets and ask for no full form
abbrev pub brief_of : Option SizedSum → Option Base → Option Index → Option (Mode Sum)
brief_of None (Some (base.Address n)) None = Some (mode.Indirect n)
brief_of (Some e) (Some (base.Address n)) None = Some (mode.Displaced n e.value)
brief_of (Some e) (Some (base.Address n)) (Some x) = Some (mode.Indexed n e.value x)
brief_of (Some e) (Some base.Pc) None = Some (mode.PcDisplaced e.value)
brief_of (Some e) (Some base.Pc) (Some x) = Some (mode.PcIndexed e.value x)
brief_of _ _ _ = None

-- what a form in parentheses says
abbrev pub direct_mode : Group → Option (Mode Sum)
direct_mode parts =
    if asks_full parts then Some (mode.Full (full parts indirection.Direct None))
    else brief_of parts.displacement parts.base parts.index

abbrev pub close_at : List Word → Option (List Word)
close_at (word.Close ∷ words) = Some words
close_at _ = None

abbrev pub close_square_at : List Word → Option (List Word)
close_square_at (word.CloseSquare ∷ words) = Some words
close_square_at _ = None

-- `(An)+`, where a `+` stands behind the form
abbrev pub stepped : Mode Sum → List Word → Mode Sum × List Word
stepped (mode.Indirect n) (word.Plus ∷ words) = (mode.PostIncrement n, words)
stepped direct words = (direct, words)

-- what stands behind `(`, where no bracket follows
abbrev pub direct_at : List Word → Option (Mode Sum × List Word)
direct_at words = do
  let (group, behind) = group_at words
  rest ← close_at behind
  direct ← direct_mode group
  Some (stepped direct rest)

-- a group of brackets with the index that stands behind it, if it has none itself
abbrev pub post_indexed : Group → Option Index → Group
post_indexed parts index = record {
  displacement = parts.displacement;
  base = parts.base;
  index =
      option_or parts.index index;
}

-- An index in the brackets is added before the address is read; one behind them, afterwards. Without an index there is
-- no difference.
abbrev pub read_at : Option Index → Indirection
read_at (Some x) = indirection.PostIndexed
read_at None = indirection.PreIndexed

abbrev pub index_behind_brackets : Group → List Word → Option Index × List Word
index_behind_brackets parts words =
    if is_some parts.index then (None, words) else index_part false words

abbrev pub outer_at : List Word → Option SizedSum × List Word
outer_at words = optional (comma_at words >>= sized_at) words

-- what stands behind `([`
abbrev pub indirect_at : List Word → Option (Mode Sum × List Word)
indirect_at words = do
  let (parts, behind_parts) = group_at words
  rest ← close_square_at behind_parts
  let (index, behind_index) = index_behind_brackets parts rest
  let (outer, behind_outer) = outer_at behind_index
  option_map (λ behind. (mode.Full (full (post_indexed parts index) (read_at index) outer), behind))
      (close_at behind_outer)

-- Modes.

abbrev pub immediate : Sum × List Word → Mode Sum × List Word
immediate (value, words) = (mode.Immediate value, words)

abbrev pub absolute : SizedSum × List Word → Mode Sum × List Word
absolute (sized, words) = (mode.Absolute sized.value sized.width, words)

-- an addressing mode, and what stands behind it
abbrev pub mode_at : List Word → Option (Mode Sum × List Word)
mode_at (word.Register (register.Data n) _ ∷ words) = Some (mode.Data n, words)
mode_at (word.Register (register.Address n) _ ∷ words) = Some (mode.Address n, words)
mode_at (word.Hash ∷ words) = option_map immediate (expression_at words)
mode_at (word.Open ∷ word.OpenSquare ∷ words) = indirect_at words
mode_at (word.Open ∷ words) = direct_at words
mode_at (word.Minus ∷ word.Open ∷ word.Register (register.Address n) _ ∷ word.Close ∷ words) =
    Some (mode.PreDecrement n, words)
mode_at words = option_map absolute (sized_at words)
