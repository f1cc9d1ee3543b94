-- Division, which can end by a trap.
use Rattle.std.specs.Prelude.{refl, ℕ, Bool}
use Rattle.std.proofs.Common.{inl}
use Rattle.law_routines.specs.Between.{Setting}
use Rattle.mb_instr.specs.Registers.{data_register}
use Rattle.mb_instr.specs.declared.registers.Plain.{Plain}
use Rattle.mb_instr.specs.FurtherWords.{pair_word}
use Rattle.mb_alu.specs.declared.width.Width.TheVariants.{Word}
use Rattle.mb_alu.specs.declared.quotients.Divided.{Divided}
use Rattle.mb_alu.specs.declared.quotients.Divided.TheVariants.{Done, ZeroDivide, Overflow}
use Rattle.mb_alu.specs.Products.{div_of}
use Rattle.def_instructions.specs.Products.{divided_by_word, divide_word_of, width_in, dividend_of, divided_by_long, divide_long_of}
use Rattle.law_twins.proofs.Parts.{SameRowed}

by_word_same : (x : Setting) (n : ℕ) (d : Divided) (p : Plain) → SameRowed x (divided_by_word n d p) (divided_by_word n d p)
by_word_same x n (Done quotient remainder ccr) p = refl
by_word_same x n (Overflow ccr) p = refl
by_word_same x n (ZeroDivide ccr) p = ((refl, inl refl), refl)

pub word_divided_same : (x : Setting) (signed : Bool) (n value : ℕ) (p : Plain)
    → SameRowed x (divide_word_of signed n value p) (divide_word_of signed n value p)
word_divided_same x signed n value p = by_word_same x n (div_of signed Word value (data_register p n) p.ccr) p

by_long_same : (x : Setting) (word : ℕ) (d : Divided) (p : Plain) → SameRowed x (divided_by_long word d p) (divided_by_long word d p)
by_long_same x word (Done quotient remainder ccr) p = refl
by_long_same x word (Overflow ccr) p = refl
by_long_same x word (ZeroDivide ccr) p = ((refl, inl refl), refl)

pub long_divided_same : (x : Setting) (word value : ℕ) (p : Plain) → SameRowed x (divide_long_of word value p) (divide_long_of word value p)
long_divided_same x word value p =
    by_long_same x word (div_of (pair_word word).is_signed (width_in word) value (dividend_of word p) p.ccr) p
