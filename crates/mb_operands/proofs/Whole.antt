-- An operand that is one piece: one call of the bus is all of it.
use Rattle.std.proofs.Common.{◌≡◌, ◌∙◌, ap, sym, ℕ, ◌%◌, Ok, [], ◌∷◌}
use Rattle.mb_port.specs.Routine.{Bus, Call, Return, run, tried, other_fault}
use Rattle.mb_port.specs.declared.types.Space.{Space}
use Rattle.mb_port.specs.declared.types.Piece.{Piece}
use Rattle.mb_instr.specs.declared.size.Size.{Size}
use Rattle.mb_instr.specs.Sizes.{bytes_of, low_of}
use Rattle.mb_ea.specs.Reading.{read_operand_of, refused_in}
use Rattle.mb_ea.proofs.Single.{single_read}
use Rattle.mb_writes.specs.Writing.{write_operand_of, write_pieces_of, write_fault_at}
use Rattle.mb_writes.proofs.Single.{one_pending}

pub read_whole : {S : Type 0} (bus : Bus S) (space : Space) (at : ℕ) (size : Size) (value : ℕ) (s : S) (piece : Piece)
    → piece ≡ record { at = at; len = bytes_of size } → at % bytes_of size ≡ 0
    → bus (Call.Read space piece) s ≡ (Ok value, s) → run bus (read_operand_of space at (bytes_of size)) s ≡ (Ok value, s)
unfolding read_operand_of
read_whole bus space at size value s piece whole aligned e =
    ap (λ x. (other_fault (refused_in at) x.0, x.1))
    (single_read bus space at size s aligned ∙ ap (λ (p : Piece). bus (Call.Read space p) s) (sym whole) ∙ e)

pub written_whole : {S : Type 0} (bus : Bus S) (space : Space) (at : ℕ) (size : Size) (value low : ℕ) (s t : S) (piece : Piece)
    → piece ≡ record { at = at; len = bytes_of size } → low ≡ low_of size value → at % bytes_of size ≡ 0
    → bus (Call.Write space piece low) s ≡ (Ok tt, t) → run bus (write_operand_of space at (bytes_of size) value) s ≡ (Ok tt, t)
unfolding write_operand_of
written_whole bus space at size value low s t piece whole is_low aligned e =
    ap (λ pending. run bus (write_pieces_of space at pending) s) (one_pending size at value aligned)
    ∙ ap (λ x. run bus (tried (other_fault (write_fault_at at (record { at = at; len = bytes_of size; value = low_of size value } ∷ [])) x.0)
    (λ _. Return (Ok tt))) x.1)
    (ap (λ (p : Piece). bus (Call.Write space p (low_of size value)) s) (sym whole) ∙ ap (λ (n : ℕ). bus (Call.Write space piece n) s) (sym is_low) ∙ e)
