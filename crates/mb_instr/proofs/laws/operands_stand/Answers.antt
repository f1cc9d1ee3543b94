use Rattle.std.proofs.Common.{◌≡◌, ◌+◌, [], ◌∷◌, length, drop, refl, ◌∙◌}
use Rattle.std.proofs.Math.Seq.{drop-append_seam, drop-append-add}
use Rattle.mb_instr.specs.Opcodes.{word_of}
use Rattle.mb_instr.specs.Shapes.{Row, further}
use Rattle.mb_instr.specs.Codes.{words_of}
use Rattle.mb_instr.proofs.laws.operands_stand.Goals as goal

behind_the_others : (r : Row) → drop (1 + length r.before) (words_of r) ≡ r.operands
behind_the_others r =
    drop-append-add (word_of r.opcode ∷ []) (further r) (length r.before) ∙ drop-append_seam r.before r.operands

pub returns : goal.returns
returns c = λ r at. record { number = 1 + length r.before; address = refl; words = behind_the_others r }
