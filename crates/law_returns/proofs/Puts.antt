-- The pieces of a frame are checked and put.
use Rattle.std.proofs.Common.{◌≡◌, ◌≢◌, ℕ, zero, suc, ◌+◌, ◌-◌, ◌*◌, ◌%◌, ◌^◌, ◌<◌, ◌≤◌, List, [], ◌∷◌, ◌++◌, length, drop, slice_index, refl, ap, sym, ◌∙◌, subst, arith, inl, inr, append_assoc, append-nil, Option, Some, Result, Ok, Err, length-drop}
use Rattle.std.proofs.lemmas.Bool.{cases_lt}
use Rattle.std.proofs.lemmas.List.{get_or-drop}
use Rattle.byteorder.specs.Endian.{big_number}
use Rattle.mb_port.specs.Routine.{Bus, Probe, Put, run, tried, read}
use Rattle.mb_port.specs.Pieces.{IsAddressedPiece, piece_len, cut}
use Rattle.mb_port.specs.declared.types.Space.TheVariants.{Super}
use Rattle.mb_port.specs.declared.types.Piece.{Piece}
use Rattle.mb_port.specs.declared.types.Place.{Place}
use Rattle.mb_port.specs.declared.types.Fault.{Fault}
use Rattle.mb_port.proofs.Cuts.{cut_are}
use Rattle.mb_ea.specs.Addresses.{sum}
use Rattle.mb_ea.specs.Reading.{read_pieces_of, read_operand_of}
use Rattle.mb_writes.specs.Checked.{probe_pieces_of}
use Rattle.def_processor.specs.Entry.{put_bytes_of}
use Rattle.law_returns.specs.Keeping.{Placing, Viewing, Shows, IsKept, Keeps}
use Rattle.law_returns.proofs.Readings.{kept_still, piece_fits}

-- each piece is at its place
abbrev pub AreAt : (Piece → Option Place) → List Piece → List Place → Type 0
AreAt place [] [] = Unit {0}
AreAt place [] (q ∷ qs) = ⊥
AreAt place (p ∷ ps) [] = ⊥
AreAt place (p ∷ ps) (q ∷ qs) = (place p ≡ Some q) × AreAt place ps qs

abbrev pub AreAddressed : List Piece → Type 0
AreAddressed [] = Unit {0}
AreAddressed (p ∷ ps) = IsAddressedPiece p × AreAddressed ps

pub cut_addressed : (n at left : ℕ) → at < 2 ^ 32 → AreAddressed (cut n at left)
cut_addressed zero at left small = tt
cut_addressed (suc n) at zero small = tt
cut_addressed (suc n) at (suc left) small = (((cut_are (suc n) at (suc left)).0, small), cut_addressed n (sum at (piece_len at (suc left))) _ (omega arith))

pub still_at : {S : Type 0} (place : Placing S) (s t : S) (ps : List Piece) (qs : List Place)
    → ((p : Piece) (q : Place) → place s p ≡ Some q → place t p ≡ Some q) → AreAt (place s) ps qs → AreAt (place t) ps qs
still_at place s t [] [] stands h = tt
still_at place s t [] (q ∷ qs) stands h = absurd h
still_at place s t (p ∷ ps) [] stands h = absurd h
still_at place s t (p ∷ ps) (q ∷ qs) stands h = (stands p q h.0, still_at place s t ps qs stands h.1)

-- ---- checks

-- the places so far, and behind them those of the pieces
pub record AreFound {S : Type 0} (place : Placing S) (view : Viewing S) (s t : S) (ps : List Piece) (so_far all : List Place) : Type 0 where
  pub places : List Place
  pub all_are : all ≡ so_far ++ places
  pub at : AreAt (place t) ps places
  pub kept : IsKept place view s t

pub itself : {S : Type 0} (place : Placing S) (view : Viewing S) (s : S) → IsKept place view s s
itself place view s = record { stands = λ p q h. h; shows = λ at byte h. h }

-- so many bytes from an address on are put
pub record ArePut {S : Type 0} (place : Placing S) (view : Viewing S) (s t : S) (at n : ℕ) (bytes : List ℕ) : Type 0 where
  pub shown : Shows (view t) at n bytes
  pub stands : (p : Piece) (q : Place) → place s p ≡ Some q → place t p ≡ Some q
  pub others : (x byte : ℕ) → ((k : ℕ) → k < n → x ≢ sum at k) → view s x ≡ Some byte → view t x ≡ Some byte

module _ (S : Type 0) (bus : Bus S) (place : Placing S) (view : Viewing S) (keeps : Keeps bus place view) where
  after_probe : (p : Piece) (ps : List Piece) (so_far all : List Place) (s : S) (r : Result Place Fault)
      → (bus (Probe Super p) s).0 ≡ r → IsAddressedPiece p
      → ((more : List Place) (t : S) → (run bus (probe_pieces_of Super ps more) t).0 ≡ Ok all
      → AreFound place view t (run bus (probe_pieces_of Super ps more) t).1 ps more all)
      → (run bus (tried r (λ place. probe_pieces_of Super ps (so_far ++ place ∷ []))) (bus (Probe Super p) s).1).0 ≡ Ok all
      → AreFound place view s (run bus (tried r (λ place. probe_pieces_of Super ps (so_far ++ place ∷ []))) (bus (Probe Super p) s).1).1 (p ∷ ps) so_far all
  after_probe p ps so_far all s (Err fault) is one rest h = let no : ⊥ = cc in absurd no
  after_probe p ps so_far all s (Ok q) is one rest h =
      let t = (bus (Probe Super p) s).1 in
      let u = (run bus (probe_pieces_of Super ps (so_far ++ q ∷ [])) t).1 in
      let later : AreFound place view t u ps (so_far ++ q ∷ []) all = rest (so_far ++ q ∷ []) t h in record {
        places = q ∷ later.places;
        all_are = later.all_are ∙ append_assoc so_far (q ∷ []) later.places;
        at = (later.kept.stands p q (keeps.checked s p q one is), later.at);
        kept = kept_still place view s t u (keeps.check_keeps s p one) later.kept;
      }

  pub probes : (ps : List Piece) (so_far all : List Place) (s : S) → AreAddressed ps
      → (run bus (probe_pieces_of Super ps so_far) s).0 ≡ Ok all
      → AreFound place view s (run bus (probe_pieces_of Super ps so_far) s).1 ps so_far all
  probes [] so_far all s lawful h =
      record { places = []; all_are = (let e : so_far ≡ all = cc in sym e) ∙ sym (append-nil so_far); at = tt; kept = itself place view s }
  probes (p ∷ ps) so_far all s lawful h =
      after_probe p ps so_far all s (bus (Probe Super p) s).0 refl lawful.0 (λ more t. probes ps more all t lawful.1) h

  -- ---- reads, refused or not

  after_read : (ps : List Piece) (value len : ℕ) (s : S) (r : Result ℕ Fault)
      → ((more : ℕ) (t : S) → IsKept place view t (run bus (read_pieces_of Super ps more) t).1)
      → IsKept place view s (run bus (tried r (λ x. read_pieces_of Super ps (value * 256 ^ len + x))) s).1
  after_read ps value len s (Err fault) rest = itself place view s
  after_read ps value len s (Ok x) rest = rest (value * 256 ^ len + x) s

  reads_keep : (ps : List Piece) (value : ℕ) (s : S) → AreAddressed ps → IsKept place view s (run bus (read_pieces_of Super ps value) s).1
  reads_keep [] value s lawful = itself place view s
  reads_keep (p ∷ ps) value s lawful =
      let t = (run bus (read Super p) s).1 in
      kept_still place view s t _ (keeps.read_keeps s p lawful.0)
      (after_read ps value p.len t (run bus (read Super p) s).0 (λ more u. reads_keep ps more u lawful.1))

  pub read_keeps : (at n : ℕ) (s : S) → at < 2 ^ 32 → IsKept place view s (run bus (read_operand_of Super at n) s).1
  unfolding read_operand_of
  read_keeps at n s small = reads_keep (cut 3 at n) 0 s (cut_addressed 3 at n small)

  -- ---- writes

  nothing_put : (s : S) (at : ℕ) (bytes : List ℕ) → ArePut place view s s at 0 bytes
  nothing_put s at bytes = record { shown = λ k l. absurd (omega arith); stands = λ p q h. h; others = λ x byte far h. h }

  -- a piece, and the bytes behind it
  joined : (s t u : S) (p : Piece) (q : Place) (n : ℕ) (bytes : List ℕ) → IsAddressedPiece p → place s p ≡ Some q
      → ((k : ℕ) → slice_index bytes k < 2 ^ 8) → p.len ≤ n → n ≤ length bytes → n ≤ 2 ^ 32
      → t ≡ (bus (Put q (big_number p.len bytes)) s).1
      → ArePut place view t u (sum p.at p.len) (n - p.len) (drop p.len bytes)
      → ArePut place view s u p.at n bytes
  joined s t u p q n bytes lawful at_place small fits enough few is later = record {
    shown = λ k l. elim (cases_lt k p.len) [
      | inl front ↦ later.others (sum p.at k) (slice_index bytes k)
          (λ j m same. let e : (p.at + k) % 2 ^ 32 ≡ ((p.at + p.len) % 2 ^ 32 + j) % 2 ^ 32 = same in let low = lawful.1 in omega arith)
          (subst (λ (w : S). view w (sum p.at k) ≡ Some (slice_index bytes k)) (sym is) (keeps.put s p q bytes lawful at_place small (omega arith) k front))
      | inr behind ↦
          ap (view u) (let e : (p.at + k) % 2 ^ 32 ≡ ((p.at + p.len) % 2 ^ 32 + (k - p.len)) % 2 ^ 32 = omega arith in e)
          ∙ later.shown (k - p.len) (omega arith)
          ∙ ap (λ (x : ℕ). Some x) (get_or-drop p.len bytes (k - p.len) 0 ∙ ap (slice_index bytes) (let e : p.len + (k - p.len) ≡ k = omega arith in e))
    ];
    stands = λ other there h. later.stands other there
        (subst (λ (w : S). place w other ≡ Some there) (sym is) (keeps.put_stands s p q (big_number p.len bytes) lawful at_place other there h));
    others = λ x byte far h. later.others x byte
        (λ k l same. far (p.len + k) (omega arith) (same
        ∙ (let e : ((p.at + p.len) % 2 ^ 32 + k) % 2 ^ 32 ≡ (p.at + (p.len + k)) % 2 ^ 32 = omega arith in e)))
        (subst (λ (w : S). view w x ≡ Some byte) (sym is)
        (keeps.put_shows s p q (big_number p.len bytes) lawful at_place x byte (λ k l. far k (omega arith)) h));
  }

  pub puts : (n at left : ℕ) (qs : List Place) (bytes : List ℕ) (s : S) → left ≤ n → at < 2 ^ 32
      → ((k : ℕ) → slice_index bytes k < 2 ^ 8) → left ≤ length bytes → left ≤ 2 ^ 32 → AreAt (place s) (cut n at left) qs
      → ArePut place view s (run bus (put_bytes_of qs bytes) s).1 at left bytes
  puts zero at left [] bytes s few small byte enough limit h =
      subst (λ (m : ℕ). ArePut place view s s at m bytes) (let e : 0 ≡ left = omega arith in e) (nothing_put s at bytes)
  puts zero at left (q ∷ qs) bytes s few small byte enough limit h = absurd h
  puts (suc n) at zero [] bytes s few small byte enough limit h = nothing_put s at bytes
  puts (suc n) at zero (q ∷ qs) bytes s few small byte enough limit h = absurd h
  puts (suc n) at (suc left) [] bytes s few small byte enough limit h = absurd h
  puts (suc n) at (suc left) (q ∷ qs) bytes s few small byte enough limit h =
      let len = piece_len at (suc left) in
      let p : Piece = record { at = at; len = len } in
      let fits = piece_fits at (suc left) (omega arith) in
      let lawful : IsAddressedPiece p = ((cut_are (suc n) at (suc left)).0, small) in
      let same : q.len ≡ len = keeps.whole s p q h.0 in
      let then_state : ℕ → S = λ m. (run bus (put_bytes_of qs (drop m bytes)) (bus (Put q (big_number m bytes)) s).1).1 in
      let t = (bus (Put q (big_number len bytes)) s).1 in
      let dropped : length (drop len bytes) ≡ length bytes - len = length-drop len bytes in
      let rest = still_at place s t (cut n (sum at len) (suc left - len)) qs (keeps.put_stands s p q (big_number len bytes) lawful h.0) h.1 in
      let later : ArePut place view t (then_state len) (sum at len) (suc left - len) (drop len bytes) =
      puts n (sum at len) (suc left - len) qs (drop len bytes) t (omega arith) (omega arith)
      (λ k. rw (get_or-drop len bytes k 0) (byte (len + k))) (omega arith) (omega arith) rest in
      subst (λ (m : ℕ). ArePut place view s (then_state m) at (suc left) bytes) (sym same)
      (joined s t (then_state len) p q (suc left) bytes lawful h.0 byte fits.1 enough limit refl later)
