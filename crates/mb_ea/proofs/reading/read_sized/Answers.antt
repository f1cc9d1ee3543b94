use Rattle.std.proofs.Common.{ap, sym, ◌∙◌, ℕ, ◌%◌}
use Rattle.mb_port.specs.Routine.{run, read}
use Rattle.mb_ea.proofs.Single.{single_read}
use Rattle.mb_ea.proofs.reading.read_sized.Goals as goal

pub returns-then-at-from-eq0-clause-means : goal.returns-then-at-from-eq0-clause-means
returns-then-at-from-eq0-clause-means g c =
    let aligned = ap (λ (n : ℕ). c.args.at % n) (sym c.bytes-len.ensures) ∙ ap (λ (n : ℕ). c.args.at % n) (sym c.from.ensures) ∙ c.if-at-from-eq0.true in
    single_read g.P.Port.bus c.args.space c.args.at c.args.size _ aligned
    ∙ ap (λ (n : ℕ). run g.P.Port.bus (read c.args.space (record { at = c.args.at; len = n })) (g.P.Port.world c.args.port.now)) (sym c.bytes-len.ensures)
    ∙ c.read.ensures.means
