use Rattle.mb_asm_text.proofs.Cuts.{one_cut}
use Rattle.mb_asm_text.proofs.OneKind.{one_kind}
use Rattle.mb_asm_text.proofs.SomeCut.{some_cut}
use Rattle.mb_asm_text.proofs.laws.one_cut.Goals as goal

pub returns : goal.returns
returns c = record { some = some_cut; one = one_cut; one_kind = one_kind }
