use Rattle.mb_asm_text.proofs.Whole.{all_longest, all_ascend, all_joined}
use Rattle.mb_asm_text.proofs.laws.tokens_of_a_line.Goals as goal

pub returns : goal.returns
returns c = record { longest = all_longest; ascending = all_ascend; joined = all_joined }
