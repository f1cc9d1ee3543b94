-- A plain memory keeps what is put.
use Rattle.std.proofs.Common.{◌≡◌, ◌≢◌, ℕ, zero, suc, ◌+◌, ◌-◌, ◌<◌, ◌≤◌, ◌&&◌, nat_le, nat_lt, true, List, slice_index, refl, ap, sym, ◌∙◌, subst, arith, inl, inr, Some, Ok}
use Rattle.std.proofs.lemmas.Bool.{cases_Bool}
use Rattle.std.proofs.lemmas.Bool.Decides.{nat_tests}
use Rattle.std.proofs.lemmas.List.{get_or-take}
use Rattle.byteorder.specs.Endian.{big_bytes, big_number}
use Rattle.mb_frames.proofs.Numbers.{bytes-number}
use Rattle.mb_port.specs.Pieces.{IsAddressedPiece}
use Rattle.mb_port.specs.Routine.{Put}
use Rattle.mb_port.specs.declared.types.Piece.{Piece}
use Rattle.mb_port.specs.declared.types.Place.{Place}
use Rattle.mb_ea.specs.Addresses.{sum}
use Rattle.law_returns.specs.Plain.{Memory, bytes_at, with_number, plain_bus, own_place, own_byte, PlainMemoryKeeps}
use Rattle.law_returns.proofs.Numbers.{same_from}

-- no piece goes past the last address
no_wrap : (p : Piece) (k : ℕ) → IsAddressedPiece p → k < p.len → sum p.at k ≡ p.at + k
no_wrap p k h l =
    let small = h.1 in
    let some = h.0.0 in
    let few = h.0.1 in
    let three = h.0.2 in
    let even = h.0.3 in
    let four = h.0.4 in
    grind arith

byte_at : (m : Memory) (at n k : ℕ) → k < n → slice_index (bytes_at m at n) k ≡ m (at + k)
byte_at m at zero k l = absurd (omega arith)
byte_at m at (suc n) zero l = ap m (let e : at ≡ at + 0 = omega arith in e)
byte_at m at (suc n) (suc k) l = byte_at m (at + 1) n k (omega arith) ∙ ap m (let e : at + 1 + k ≡ at + suc k = omega arith in e)

inside : (m : Memory) (at len value k : ℕ) → k < len → with_number m at len value (at + k) ≡ slice_index (big_bytes len value) k
inside m at len value k l =
    let a : nat_le at (at + k) ≡ true = grind (arith, nat_tests) in
    let b : nat_lt (at + k) (at + len) ≡ true = grind (arith, nat_tests) in
    rw (a, b) (ap (slice_index (big_bytes len value)) (let e : at + k - at ≡ k = omega arith in e))

within : (at len x : ℕ) → (nat_le at x && nat_lt x (at + len)) ≡ true → (at ≤ x) × (x < at + len)
within at len x h = grind (arith, nat_tests)

outside : (m : Memory) (p : Piece) (value x : ℕ) → IsAddressedPiece p → ((k : ℕ) → k < p.len → x ≢ sum p.at k) → with_number m p.at p.len value x ≡ m x
outside m p value x lawful far = elim (cases_Bool (nat_le p.at x && nat_lt x (p.at + p.len))) [
  | inl h ↦
      let in_it = within p.at p.len x h in
      let low = in_it.0 in
      let high = in_it.1 in
      let k = x - p.at in
      let there : x ≡ sum p.at k = (let e : x ≡ p.at + k = omega arith in e) ∙ sym (no_wrap p k lawful (omega arith)) in
      absurd (far k (omega arith) there)
  | inr h ↦ rw h refl
]

same_place : (p : Piece) (q : Place) → own_place (λ at. 0) p ≡ Some q → q ≡ record { at = p.at; len = p.len }
same_place p q h = cc

pub plain_memory_keeps : PlainMemoryKeeps
plain_memory_keeps = record {
  checked = λ m p q lawful h. cc;
  check_keeps = λ m p lawful. record { stands = λ other there h. h; shows = λ at byte h. h };
  whole = λ m p q h. ap (λ (place : Place). place.len) (same_place p q h);
  put = λ m p q bytes lawful h small enough k l.
      subst (λ (place : Place). own_byte (plain_bus (Put place (big_number p.len bytes)) m).1 (sum p.at k) ≡ Some (slice_index bytes k))
      (sym (same_place p q h))
      (ap (λ (x : ℕ). Some (with_number m p.at p.len (big_number p.len bytes) x)) (no_wrap p k lawful l)
      ∙ ap (λ (b : ℕ). Some b) (inside m p.at p.len (big_number p.len bytes) k l
      ∙ ap (λ (bs : List ℕ). slice_index bs k) (bytes-number p.len bytes enough small) ∙ get_or-take p.len bytes k 0 l));
  put_stands = λ m p q value lawful h other there k. k;
  put_shows = λ m p q value lawful h at byte far k.
      subst (λ (place : Place). own_byte (plain_bus (Put place value) m).1 at ≡ Some byte) (sym (same_place p q h))
      (ap (λ (b : ℕ). Some b) (outside m p value at lawful far) ∙ k);
  read = λ m p bytes lawful h. ap (λ (n : ℕ). Ok n) (same_from (bytes_at m p.at p.len) bytes 0 0 p.len (λ k l.
      ap (slice_index (bytes_at m p.at p.len)) (let e : 0 + k ≡ k = omega arith in e) ∙ byte_at m p.at p.len k l
      ∙ (let seen : own_byte m (sum p.at k) ≡ Some (slice_index bytes k) = h k l in
      let at : sum p.at k ≡ p.at + k = no_wrap p k lawful l in
      ap m (sym at) ∙ (let e : m (sum p.at k) ≡ slice_index bytes k = cc in e))
      ∙ ap (slice_index bytes) (let e : k ≡ 0 + k = omega arith in e)));
  read_keeps = λ m p lawful. record { stands = λ other there h. h; shows = λ at byte h. h };
}
