use Rattle.std.proofs.Common.{ℕ, ◌∙◌}
use Rattle.mb_spelling.specs.Hex.{any_number, read_number}
use Rattle.vm_snapshot.proofs.Handed.{handed_stop, stops_as, stops_same}
use Rattle.vm_snapshot.proofs.KeptSteps.{one_digit}
use Rattle.vm_snapshot.proofs.kept_reading.one_digit.Goals as goal

pub returns-in_err-digit-clause-reads : goal.returns-in_err-digit-clause-reads
returns-in_err-digit-clause-reads c =
    let read = read_number any_number 1 0 c.args.reader.now.left in
    handed_stop _ (λ (n : ℕ). n) c.from_residual.result c.in_err-digit.field-0.0 _ read _ c.from_residual.ensures.0 c.from_residual.ensures.1
    c.in_err-digit.ensures.reads (stops_as (one_digit c.args.reader.now.left) (stops_same read))

pub returns-clause-reads : goal.returns-clause-reads
returns-clause-reads c = one_digit c.args.reader.now.left ∙ c.in_ok-digit.ensures.reads
