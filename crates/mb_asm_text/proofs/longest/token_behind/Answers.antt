use Rattle.std.proofs.Common.{◌∙◌, sym, arith}
use Rattle.mb_asm_text.proofs.Fronts.{name_found, digit_found, blank_found, mark_found, hexadecimal_found, binary_found, character_at, text_at, none_at}
use Rattle.mb_asm_text.proofs.longest.token_behind.Goals as goal

pub returns-then-is_mark : goal.returns-then-is_mark
returns-then-is_mark c = mark_found c.args.first c.args.byte c.args.behind.now (cc) (cc)

pub returns-then-is_name_start : goal.returns-then-is_name_start
returns-then-is_name_start c = rw c.name_parts.ensures.run (name_found c.args.first c.args.byte c.args.behind.now (cc) (cc) (cc))

pub returns-then-is_digit : goal.returns-then-is_digit
returns-then-is_digit c = rw c.digits.ensures.run (digit_found c.args.first c.args.byte c.args.behind.now (cc) (cc) (cc) (cc))

pub returns-then-is_blank : goal.returns-then-is_blank
returns-then-is_blank c = rw c.blanks.ensures.run (blank_found c.args.first c.args.byte c.args.behind.now (cc) (cc) (cc) (cc) (cc))

pub returns-in-36 : goal.returns-in-36
returns-in-36 c = rw (c.number.ensures, c.hexadecimal_digits.ensures.run, c.in-36.is)
    (hexadecimal_found c.args.first c.args.behind.now (rw c.in-36.is at (sym c.starts_comment.ensures ∙ c.if-starts_comment.false)))

pub returns-in-37 : goal.returns-in-37
returns-in-37 c = rw (c.number-in-37.ensures, c.binary_digits.ensures.run, c.in-37.is)
    (binary_found c.args.first c.args.behind.now (rw c.in-37.is at (sym c.starts_comment.ensures ∙ c.if-starts_comment.false)))

pub returns-in-39 : goal.returns-in-39
returns-in-39 c = rw (c.character.ensures, c.in-39.is) (character_at c.args.first c.args.behind.now
    (rw c.in-39.is at (sym c.starts_comment.ensures ∙ c.if-starts_comment.false)))

pub returns-in-34 : goal.returns-in-34
returns-in-34 c = rw (c.text.ensures, c.in-34.is) (text_at c.args.first c.args.behind.now
    (rw c.in-34.is at (sym c.starts_comment.ensures ∙ c.if-starts_comment.false)))

pub returns-in_default-6 : goal.returns-in_default-6
returns-in_default-6 c = none_at c.args.first c.args.byte c.args.behind.now (cc) (cc) (cc) (cc) (cc) (omega arith) (omega arith) (omega arith) (omega arith)
