-- An operand at a multiple of its size is one piece.
use Rattle.std.proofs.Common.{◌≡◌, ℕ, suc, ◌+◌, ◌*◌, ◌-◌, ◌%◌, ◌^◌, List, [], ◌∷◌, Result, Ok, Err, refl, ap, ◌∙◌, arith}
use Rattle.std.proofs.lemmas.Bool.Decides.{nat_tests}
use Rattle.mb_port.specs.Routine.{Bus, run, read, tried, Return}
use Rattle.mb_port.specs.Pieces.{piece_len, cut, split_of}
use Rattle.mb_port.specs.declared.types.Space.{Space}
use Rattle.mb_port.specs.declared.types.Piece.{Piece}
use Rattle.mb_port.specs.declared.types.Fault.{Fault}
use Rattle.mb_instr.specs.declared.size.Size.{Size}
use Rattle.mb_instr.specs.declared.size.Size.TheVariants.{Byte, Word, Long}
use Rattle.mb_instr.specs.Sizes.{bytes_of}
use Rattle.mb_ea.specs.Reading.{read_pieces_of, read_cut_of}

piece_of_byte : (at : ℕ) → piece_len at 1 ≡ 1
piece_of_byte at = grind (arith, nat_tests)

piece_of_word : (at : ℕ) → at % 2 ≡ 0 → piece_len at 2 ≡ 2
piece_of_word at h = grind (arith, nat_tests)

piece_of_long : (at : ℕ) → at % 4 ≡ 0 → piece_len at 4 ≡ 4
piece_of_long at h = grind (arith, nat_tests)

-- the cut of an operand whose first piece is all of it
one_cut : (at n : ℕ) → piece_len at (suc n) ≡ suc n → cut 3 at (suc n) ≡ record { at = at; len = suc n } ∷ []
one_cut at n e =
    let none : suc n - suc n ≡ 0 = omega arith in
    ap (λ k. record { at = at; len = k } ∷ cut 2 ((at + k) % 2 ^ 32) (suc n - k)) e
    ∙ ap (λ k. record { at = at; len = suc n } ∷ cut 2 ((at + suc n) % 2 ^ 32) k) none

pub one_piece : (size : Size) (at : ℕ) → at % bytes_of size ≡ 0 → split_of at (bytes_of size) ≡ record { at = at; len = bytes_of size } ∷ []
one_piece Byte at h = one_cut at 0 (piece_of_byte at)
one_piece Word at h = one_cut at 1 (piece_of_word at h)
one_piece Long at h = one_cut at 3 (piece_of_long at h)

same_answer : {S : Type 0} (bus : Bus S) (k : ℕ) (r : Result ℕ Fault) (s : S) →
    run bus (tried r (λ x. Return (Ok (0 * k + x)))) s ≡ (r, s)
same_answer bus k (Ok x) s = ap (λ n. (Ok n, s)) (omega arith)
same_answer bus k (Err e) s = refl

pub single_read : {S : Type 0} (bus : Bus S) (space : Space) (at : ℕ) (size : Size) (s : S) → at % bytes_of size ≡ 0 →
    run bus (read_cut_of space at (bytes_of size)) s ≡ run bus (read space (record { at = at; len = bytes_of size })) s
single_read bus space at size s h =
    ap (λ (ps : List Piece). run bus (read_pieces_of space ps 0) s) (one_piece size at h)
    ∙ same_answer bus (256 ^ bytes_of size) _ _
