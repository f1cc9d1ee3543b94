use Rattle.std.proofs.Common.{ap, sym, ◌∙◌, List}
use Rattle.mb_port.specs.Routine.{run}
use Rattle.mb_port.specs.declared.types.Piece.{Piece}
use Rattle.mb_ea.specs.Reading.{read_pieces_of}
use Rattle.mb_ea.proofs.reading.read_cut.Goals as goal

pub returns-clause-means : goal.returns-clause-means
returns-clause-means g c =
    ap (λ (ps : List Piece). run g.P.Port.bus (read_pieces_of c.args.space ps 0) (g.P.Port.world c.args.port.now))
    (sym c.split-pieces.ensures.pieces ∙ sym c.as_slice.ensures.value)
    ∙ c.read_pieces.ensures.means
