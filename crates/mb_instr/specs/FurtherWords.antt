-- The further words of instructions, field by field.
use Rattle.std.specs.Prelude.{ℕ, ◌/◌, ◌%◌, ◌^◌, ◌==◌, Bool}

-- 0lll sw00 0000 0hhh of MULU, MULS, DIVU and DIVS of longs: whether they are signed, whether the product or dividend
-- is wide, and the registers of its low and high long
pub record PairWord : Type 0 where
  pub low : ℕ
  pub is_signed : Bool
  pub is_wide : Bool
  pub high : ℕ

abbrev pub pair_word : ℕ → PairWord
pair_word w = record {
  low = w / 2 ^ 12 % 8;
  is_signed = w / 2 ^ 11 % 2 == 1;
  is_wide = w / 2 ^ 10 % 2 == 1;
  high = w % 8;
}

-- nnnn 000u uu00 0ccc of CAS and CAS2: Dc is compared, Du is the update, and the register of the operand's address, of
-- all sixteen, is CAS2's alone
pub record SwapWord : Type 0 where
  pub pointer : ℕ
  pub update : ℕ
  pub compared : ℕ

abbrev pub swap_word : ℕ → SwapWord
swap_word w = record { pointer = w / 2 ^ 12; update = w / 2 ^ 6 % 8; compared = w % 8 }

-- nnnn k000 0000 0000 of CMP2, CHK2 and MOVES: a register, of all sixteen, and of MOVES whether it goes to memory
pub record RegisterWord : Type 0 where
  pub register : ℕ
  pub is_store : Bool

abbrev pub register_word : ℕ → RegisterWord
register_word w = record { register = w / 2 ^ 12; is_store = w / 2 ^ 11 % 2 == 1 }

-- 0nnn iooo oojw wwww of the bit field instructions: a data register, and offset and width, which a data register has
-- where its bit is 1
pub record FieldWord : Type 0 where
  pub register : ℕ
  pub offset_is_register : Bool
  pub offset_register : ℕ
  pub offset : ℕ
  pub width_is_register : Bool
  pub width_register : ℕ
  pub width : ℕ

abbrev pub field_word : ℕ → FieldWord
field_word w = record {
  register = w / 2 ^ 12 % 8;
  offset_is_register = w / 2 ^ 11 % 2 == 1;
  offset_register = w / 2 ^ 6 % 8;
  offset = w / 2 ^ 6 % 32;
  width_is_register = w / 2 ^ 5 % 2 == 1;
  width_register = w % 8;
  width = w % 32;
}

-- nnnn cccc cccc cccc of MOVEC: a register, of all sixteen, and the code of a control register
pub record ControlWord : Type 0 where
  pub register : ℕ
  pub code : ℕ

abbrev pub control_word : ℕ → ControlWord
control_word w = record { register = w / 2 ^ 12; code = w % 2 ^ 12 }

-- 1yyy 0000 0000 0000 of MOVE16: the register of the destination
pub record LineWord : Type 0 where
  pub destination : ℕ

abbrev pub line_word : ℕ → LineWord
line_word w = record { destination = w / 2 ^ 12 % 8 }

-- rnnn lss0 dddd dddd, the brief extension word of an address with an index, and rnnn lss1 bidd 0kkk, the full one: the
-- index is an address register where r is 1, and a long where l is 1; it counts 2 ^ s times; b and i leave out the base
-- and the index; d is the width of the base displacement; k is the kind of indirection, whose lower two bits are the
-- width of the outer displacement. A width is 1 for none, 2 for a word and 3 for a long.
pub record ExtensionWord : Type 0 where
  pub is_address : ℕ
  pub register : ℕ
  pub is_long : ℕ
  pub scale : ℕ
  pub is_full : ℕ
  pub leaves_base : ℕ
  pub leaves_index : ℕ
  pub base_width : ℕ
  pub indirection : ℕ
  pub outer_width : ℕ

abbrev pub extension_word : ℕ → ExtensionWord
extension_word w = record {
  is_address = w / 2 ^ 15;
  register = w / 2 ^ 12 % 8;
  is_long = w / 2 ^ 11 % 2;
  scale = w / 2 ^ 9 % 4;
  is_full = w / 2 ^ 8 % 2;
  leaves_base = w / 2 ^ 7 % 2;
  leaves_index = w / 2 ^ 6 % 2;
  base_width = w / 2 ^ 4 % 4;
  indirection = w % 8;
  outer_width = w % 4;
}
