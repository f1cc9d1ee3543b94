-- What is written of an operand at a multiple of its size: one piece.
use Rattle.std.proofs.Common.{◌≡◌, ℕ, ◌%◌, [], ◌∷◌, ap, ◌∙◌, arith, List}
use Rattle.mb_port.specs.declared.types.Piece.{Piece}
use Rattle.mb_instr.specs.declared.size.Size.{Size}
use Rattle.mb_instr.specs.declared.size.Size.TheVariants.{Byte, Word, Long}
use Rattle.mb_instr.specs.Sizes.{bytes_of, low_of}
use Rattle.mb_ea.proofs.Single.{one_piece}
use Rattle.mb_writes.specs.Writing.{part_of, parts_of, pending_of}

-- the part of a number that is as long as the operand
whole_part : (size : Size) (value : ℕ) → part_of value (bytes_of size) (bytes_of size) ≡ low_of size value
whole_part Byte value = omega arith
whole_part Word value = omega arith
whole_part Long value = omega arith

pub one_pending : (size : Size) (at value : ℕ) → at % bytes_of size ≡ 0 →
    pending_of at (bytes_of size) value ≡ record { at = at; len = bytes_of size; value = low_of size value } ∷ []
one_pending size at value h =
    ap (λ (ps : List Piece). parts_of ps (bytes_of size) value) (one_piece size at h)
    ∙ ap (λ (v : ℕ). record { at = at; len = bytes_of size; value = v } ∷ []) (whole_part size value)
