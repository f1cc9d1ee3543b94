use Rattle.std.proofs.Common.{ap, ◌∙◌, ℕ}
use Rattle.std.specs.Prelude.{bit_and, bit_or, bit_xor}
use Rattle.std.specs.Int.{w32, bit_not}
use Rattle.mb_ops_arith.proofs.OneBit.{changed_is, cleared_is, set_is}
use Rattle.mb_ops_arith.proofs.bits.bit_after.Goals as goal

pub returns-in-Change : goal.returns-in-Change
returns-in-Change c = rw c.in-Change.is (ap (bit_xor c.args.value) c.alone-bit.ensures ∙ changed_is c.args.value c.args.place)

pub returns-in-Clear : goal.returns-in-Clear
returns-in-Clear c =
    rw c.in-Clear.is (ap (λ (n : ℕ). bit_and c.args.value (bit_not w32 n)) c.alone-bit.ensures
    ∙ cleared_is c.args.value c.args.place c.ranges.value.fits c.requires)

pub returns-in-Set : goal.returns-in-Set
returns-in-Set c = rw c.in-Set.is (ap (bit_or c.args.value) c.alone-bit.ensures ∙ set_is c.args.value c.args.place)
