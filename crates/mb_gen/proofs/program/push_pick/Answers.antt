use Rattle.std.proofs.Common.{◌≡◌, ◌%◌, arith}
use Rattle.mb_gen.proofs.program.push_pick.Goals as goal

pub returns-in-0 : goal.returns-in-0
returns-in-0 c = rw c.in-0.is c.push_words.ensures

pub returns-in-1 : goal.returns-in-1
returns-in-1 c = rw c.in-1.is c.push_words-in-1.ensures

pub returns-in-2 : goal.returns-in-2
returns-in-2 c = rw c.in-2.is c.push_words-in-2.ensures

pub returns-in-3 : goal.returns-in-3
returns-in-3 c = rw c.in-3.is c.push_words-in-3.ensures

pub returns-in-4 : goal.returns-in-4
returns-in-4 c = rw c.in-4.is c.push_words-in-4.ensures

pub returns-in-5 : goal.returns-in-5
returns-in-5 c = rw c.in-5.is c.push_words-in-5.ensures

pub returns-in-6 : goal.returns-in-6
returns-in-6 c = rw (c.in-6.is, ← c.place_of.ensures) c.push_words-in-6.ensures

pub returns-in_default : goal.returns-in_default
returns-in_default c =
    let last : c.args.draw % 8 ≡ 7 = omega arith in
    rw (last, ← c.place_of-in_default.ensures) c.push_words-in_default.ensures
