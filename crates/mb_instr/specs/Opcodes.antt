-- A first word and its six fields.
use Rattle.std.specs.Prelude.{ℕ, ◌+◌, ◌*◌, ◌/◌, ◌%◌, ◌^◌, ◌<◌, Bool, ◌&&◌, nat_lt}
use Rattle.mb_instr.specs.declared.opcode.Opcode.{Opcode}

-- the fields of a word
abbrev pub opcode_of : ℕ → Opcode
opcode_of w = record {
  line = w / 2 ^ 12;
  upper = w / 2 ^ 9 % 8;
  bit = w / 2 ^ 8 % 2;
  size = w / 2 ^ 6 % 4;
  mode = w / 2 ^ 3 % 8;
  lower = w % 8;
}

-- the word that the fields make
abbrev pub word_of : Opcode → ℕ
word_of p = p.line * 4096 + p.upper * 512 + p.bit * 256 + p.size * 64 + p.mode * 8 + p.lower

-- the fields fit their bits
pub record IsOpcode (p : Opcode) : Type 0 where
  pub line : p.line < 16
  pub upper : p.upper < 8
  pub bit : p.bit < 2
  pub size : p.size < 4
  pub mode : p.mode < 8
  pub lower : p.lower < 8

abbrev pub is_opcode : Opcode → Bool
is_opcode p =
    nat_lt p.line 16 && nat_lt p.upper 8 && nat_lt p.bit 2 && nat_lt p.size 4 && nat_lt p.mode 8 && nat_lt p.lower 8
