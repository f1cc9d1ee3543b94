use Rattle.std.proofs.Common.{ap, sym, ◌∙◌, subst, List, IfErr}
use Rattle.mb_port.specs.Routine.{run}
use Rattle.mb_port.specs.declared.types.Piece.{Piece}
use Rattle.mb_writes.specs.Writing.{parts_of, write_pieces_of, write_operand_of, IsLeftOf}
use Rattle.mb_writes.proofs.writing.write_operand.Goals as goal

pub returns-clause-means : goal.returns-clause-means
unfolding write_operand_of
returns-clause-means g c =
    let e = c.as_slice.ensures.value ∙ c.split-pieces.ensures.pieces in
    ap (λ (ps : List Piece). run g.P.Port.bus (write_pieces_of c.args.space c.args.at (parts_of ps c.args.len c.args.value)) (g.P.Port.world c.args.port.now))
    (sym e) ∙ c.put_parts.ensures.means

pub returns-clause-left : goal.returns-clause-left
returns-clause-left g c =
    let e = c.as_slice.ensures.value ∙ c.split-pieces.ensures.pieces in
    subst (λ (ps : List Piece). IfErr c.put_parts.result (λ refused. IsLeftOf refused.rest.items (parts_of ps c.args.len c.args.value))) e
    c.put_parts.ensures.left
