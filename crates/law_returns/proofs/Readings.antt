-- What is seen is read, whatever the pieces are.
use Rattle.std.proofs.Common.{◌≡◌, ℕ, ◌+◌, ◌-◌, ◌*◌, ◌%◌, ◌^◌, ◌<◌, ◌≤◌, List, [], ◌∷◌, drop, slice_index, refl, ap, sym, ◌∙◌, subst, arith, Option, Some, Result, Ok}
use Rattle.std.proofs.lemmas.List.{get_or-drop}
use Rattle.byteorder.specs.Endian.{big_number}
use Rattle.mb_port.specs.Routine.{Bus, Routine, Return, Then, run, tried, read}
use Rattle.mb_port.specs.Pieces.{IsAddressedPiece, IsGreedy, piece_len, cut}
use Rattle.mb_port.specs.declared.types.Space.TheVariants.{Super}
use Rattle.mb_port.specs.declared.types.Piece.{Piece}
use Rattle.mb_port.specs.declared.types.Fault.{Fault}
use Rattle.mb_port.proofs.Cuts.{cut_greedy, none_left}
use Rattle.mb_ea.specs.Addresses.{sum}
use Rattle.mb_ea.specs.Reading.{read_pieces_of, read_operand_of}
use Rattle.law_returns.specs.Keeping.{Placing, Viewing, Shows, IsKept, Keeps}
use Rattle.law_returns.proofs.Numbers.{behind}

-- a routine that answers so, and keeps what is seen
pub record Gives {S A : Type 0} (bus : Bus S) (place : Placing S) (view : Viewing S) (r : Routine A) (s : S) (a : A) : Type 0 where
  pub answers : (run bus r s).0 ≡ a
  pub keeps : IsKept place view s (run bus r s).1

pub kept_still : {S : Type 0} (place : Placing S) (view : Viewing S) (s t u : S) → IsKept place view s t → IsKept place view t u → IsKept place view s u
kept_still place view s t u first later = record {
  stands = λ p q h. later.stands p q (first.stands p q h);
  shows = λ at byte h. later.shows at byte (first.shows at byte h);
}

pub shown_still : {S : Type 0} (place : Placing S) (view : Viewing S) (s t : S) (at n : ℕ) (bytes : List ℕ)
    → IsKept place view s t → Shows (view s) at n bytes → Shows (view t) at n bytes
shown_still place view s t at n bytes kept h k l = kept.shows (sum at k) (slice_index bytes k) (h k l)

-- one routine, and what follows from its answer
pub followed : {S A B : Type 0} (bus : Bus S) (place : Placing S) (view : Viewing S) (m : Routine A) (f : A → Routine B) (s : S) (a : A) (b : B)
    → Gives bus place view m s a → Gives bus place view (f a) (run bus m s).1 b → Gives bus place view (Then m f) s b
followed {A = A} bus place view m f s a b first later =
    let t = (run bus m s).1 in record {
      answers = ap (λ (x : A). (run bus (f x) t).0) first.answers ∙ later.answers;
      keeps = kept_still place view s t _ first.keeps
          (subst (λ (x : A). IsKept place view t (run bus (f x) t).1) (sym first.answers) later.keeps);
    }

pub at_once : {S A : Type 0} (bus : Bus S) (place : Placing S) (view : Viewing S) (s : S) (a : A) → Gives bus place view (Return a) s a
at_once bus place view s a = record { answers = refl; keeps = record { stands = λ p q h. h; shows = λ at byte h. h } }

-- the bytes behind the first ones
pub shown_behind : (view : ℕ → Option ℕ) (at n m : ℕ) (bytes : List ℕ) → m ≤ n → Shows view at n bytes → Shows view (sum at m) (n - m) (drop m bytes)
shown_behind view at n m bytes few h k l =
    ap view (let e : ((at + m) % 2 ^ 32 + k) % 2 ^ 32 ≡ (at + (m + k)) % 2 ^ 32 = omega arith in e)
    ∙ h (m + k) (omega arith) ∙ ap (λ (x : ℕ). Some x) (sym (get_or-drop m bytes k 0))

pub piece_fits : (at left : ℕ) → 0 < left → (0 < piece_len at left) × (piece_len at left ≤ left)
piece_fits at left h = grind arith

module _ (S : Type 0) (bus : Bus S) (place : Placing S) (view : Viewing S) (keeps : Keeps bus place view) where
  -- one piece
  reads_piece : (s : S) (p : Piece) (bytes : List ℕ) → IsAddressedPiece p → Shows (view s) p.at p.len bytes
      → Gives bus place view (read Super p) s (Ok (big_number p.len bytes))
  reads_piece s p bytes lawful h = record { answers = keeps.read s p bytes lawful h; keeps = keeps.read_keeps s p lawful }

  -- pieces that are a greedy cut
  reads_pieces : (ps : List Piece) (at left value : ℕ) (bytes : List ℕ) (s : S) → IsGreedy at left ps → at < 2 ^ 32 → Shows (view s) at left bytes
      → Gives bus place view (read_pieces_of Super ps value) s (Ok (value * 256 ^ left + big_number left bytes))
  unfolding IsGreedy
  reads_pieces [] at left value bytes s none small h =
      let e : value ≡ value * 256 ^ left + big_number left bytes = rw none (omega arith) in
      subst (λ (x : ℕ). Gives bus place view (read_pieces_of Super [] value) s (Ok x)) e (at_once bus place view s (let r : Result ℕ Fault = Ok value in r))
  reads_pieces (p ∷ ps) at left value bytes s greedy small h =
      let here = greedy.0.here in
      let fits = greedy.0.fits in
      let x = big_number p.len bytes in
      let first : Shows (view s) p.at p.len bytes = subst (λ (a : ℕ). Shows (view s) a p.len bytes) (sym here) (λ k l. h k (omega arith)) in
      let one = reads_piece s p bytes (greedy.0.aligned, (let low : p.at < 2 ^ 32 = omega arith in low)) first in
      let t = (run bus (read Super p) s).1 in
      let later = reads_pieces ps (sum at p.len) (left - p.len) (value * 256 ^ p.len + x) (drop p.len bytes) t greedy.1 (omega arith)
      (shown_still place view s t (sum at p.len) (left - p.len) (drop p.len bytes) one.keeps (shown_behind (view s) at left p.len bytes fits h)) in
      let all : (value * 256 ^ p.len + x) * 256 ^ (left - p.len) + big_number (left - p.len) (drop p.len bytes) ≡ value * 256 ^ left + big_number left bytes =
      behind bytes value p.len (left - p.len)
      ∙ ap (λ (m : ℕ). value * 256 ^ m + big_number m bytes) (let e : p.len + (left - p.len) ≡ left = omega arith in e) in
      followed bus place view (read Super p) (λ (r : Result ℕ Fault). tried r (λ x. read_pieces_of Super ps (value * 256 ^ p.len + x))) s (Ok x) _ one
      (subst (λ (y : ℕ). Gives bus place view (read_pieces_of Super ps (value * 256 ^ p.len + x)) t (Ok y)) all later)

  -- an operand
  pub reads : (at n : ℕ) (bytes : List ℕ) (s : S) → n ≤ 5 → at < 2 ^ 32 → Shows (view s) at n bytes
      → Gives bus place view (read_operand_of Super at n) s (Ok (big_number n bytes))
  unfolding read_operand_of
  reads at n bytes s few small h =
      let whole = reads_pieces (cut 3 at n) at n 0 bytes s (cut_greedy 3 at n (none_left at n few)) small h in
      let value : 0 * 256 ^ n + big_number n bytes ≡ big_number n bytes = omega arith in
      followed bus place view (read_pieces_of Super (cut 3 at n) 0) _ s (Ok (big_number n bytes)) _
      (subst (λ (x : ℕ). Gives bus place view (read_pieces_of Super (cut 3 at n) 0) s (Ok x)) value whole)
      (at_once bus place view _ (Ok (big_number n bytes)))
