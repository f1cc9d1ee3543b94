use Rattle.std.proofs.Common.{◌≡◌, ℕ, ◌%◌, List, [], ◌∷◌, IfErr, ap, sym, subst, ◌∙◌}
use Rattle.mb_port.specs.Routine.{run}
use Rattle.mb_instr.specs.declared.size.Size.{Size}
use Rattle.mb_instr.specs.Sizes.{bytes_of, low_of}
use Rattle.mb_frames.specs.declared.pend.Pend.{Pend}
use Rattle.mb_writes.specs.Writing.{write_pieces_of, write_operand_of, pending_of, IsLeftOf}
use Rattle.mb_writes.proofs.Single.{one_pending}
use Rattle.mb_writes.proofs.writing.write_value.Goals as goal

-- the one piece, with its length and value as they are computed
alone : (size : Size) (at value len low : ℕ) → at % len ≡ 0 → len ≡ bytes_of size → low ≡ low_of size value →
    pending_of at (bytes_of size) value ≡ record { at = at; len = len; value = low } ∷ []
alone size at value len low h e k =
    one_pending size at value (ap (λ (n : ℕ). at % n) (sym e) ∙ h)
    ∙ ap (λ (n : ℕ). record { at = at; len = n; value = low_of size value } ∷ []) (sym e)
    ∙ ap (λ (v : ℕ). record { at = at; len = len; value = v } ∷ []) (sym k)

pub returns-then-at-from-eq0-clause-means : goal.returns-then-at-from-eq0-clause-means
unfolding write_operand_of
returns-then-at-from-eq0-clause-means g c =
    let aligned = ap (λ (n : ℕ). c.args.at % n) (sym c.from.ensures) ∙ c.if-at-from-eq0.true in
    ap (λ (ps : List Pend). run g.P.Port.bus (write_pieces_of c.args.space c.args.at ps) (g.P.Port.world c.args.port.now))
    (alone c.args.size c.args.at c.args.value c.bytes-len.result c.low-value.result aligned c.bytes-len.ensures c.low-value.ensures.value)
    ∙ c.write_alone.ensures.means

pub returns-then-at-from-eq0-clause-left : goal.returns-then-at-from-eq0-clause-left
returns-then-at-from-eq0-clause-left g c =
    let aligned = ap (λ (n : ℕ). c.args.at % n) (sym c.from.ensures) ∙ c.if-at-from-eq0.true in
    subst (λ (ps : List Pend). IfErr c.write_alone.result (λ refused. IsLeftOf refused.rest.items ps))
    (sym (alone c.args.size c.args.at c.args.value c.bytes-len.result c.low-value.result aligned c.bytes-len.ensures c.low-value.ensures.value))
    c.write_alone.ensures.left
