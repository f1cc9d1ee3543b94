use Rattle.mb_asm.proofs.Known.{image_known}
use Rattle.mb_asm.proofs.laws.image_leaves_nothing_unknown.Goals as goal

pub returns : goal.returns
returns c = image_known
