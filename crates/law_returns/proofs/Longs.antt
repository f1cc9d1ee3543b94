-- The fields of an access error in the longs that RTE reads.
use Rattle.std.proofs.Common.{◌≡◌, ℕ, zero, suc, ◌+◌, ◌*◌, ◌^◌, ◌<◌, List, [], ◌∷◌, ◌++◌, drop, slice_index, refl, ap, sym, ◌∙◌, subst, arith, append_assoc, append-nil, Result, Ok}
use Rattle.std.proofs.lemmas.List.{drop-drop, get_or-drop}
use Rattle.byteorder.specs.Endian.{big_from, big_number}
use Rattle.byteorder.specs.Numbers.{big_from-lt}
use Rattle.mb_port.specs.Routine.{Bus, run, tried}
use Rattle.mb_port.specs.declared.types.Space.TheVariants.{Super}
use Rattle.mb_frames.specs.Reading.{word_at, long_at, access_in}
use Rattle.mb_ea.specs.Addresses.{sum}
use Rattle.mb_ea.specs.Reading.{read_operand_of}
use Rattle.mb_ea.specs.declared.reading.ReadFault.{ReadFault}
use Rattle.def_processor.specs.Return.{read_longs_of, access_of_longs, high, low}
use Rattle.law_returns.specs.Keeping.{Placing, Viewing, Shows, Keeps}
use Rattle.law_returns.proofs.Numbers.{two_parts, from_place}
use Rattle.law_returns.proofs.Readings.{Gives, followed, at_once, shown_still, shown_behind, reads}
use Rattle.mb_frames.specs.declared.places.TheConstants.{LONGS}

-- so many longs, one after the other
pub longs_in : ℕ → List ℕ → List ℕ
longs_in zero bytes = []
longs_in (suc n) bytes = big_number 4 bytes ∷ longs_in n (drop 4 bytes)

pub long_in : (n : ℕ) (bytes : List ℕ) (i : ℕ) → i < n → slice_index (longs_in n bytes) i ≡ big_number 4 (drop (4 * i) bytes)
unfolding longs_in
long_in zero bytes i l = absurd (omega arith)
long_in (suc n) bytes zero l = refl
long_in (suc n) bytes (suc i) l =
    long_in n (drop 4 bytes) i (omega arith)
    ∙ ap (big_number 4) (drop-drop (4 * i) 4 bytes ∙ ap (λ (k : ℕ). drop k bytes) (let e : 4 + 4 * i ≡ 4 * suc i = omega arith in e))

module _ (S : Type 0) (bus : Bus S) (place : Placing S) (view : Viewing S) (keeps : Keeps bus place view) where
  pub reads_longs : (n at : ℕ) (so_far bytes : List ℕ) (s : S) → at < 2 ^ 32 → Shows (view s) at (4 * n) bytes
      → Gives bus place view (read_longs_of n at so_far) s (Ok (so_far ++ longs_in n bytes))
  unfolding read_longs_of longs_in
  reads_longs zero at so_far bytes s small h =
      subst (λ (l : List ℕ). Gives bus place view (read_longs_of zero at so_far) s (Ok l)) (sym (append-nil so_far)) (at_once bus place view s (Ok so_far))
  reads_longs (suc n) at so_far bytes s small h =
      let x = big_number 4 bytes in
      let one = reads S bus place view keeps at 4 bytes s (omega arith) small (λ k l. h k (omega arith)) in
      let t = (run bus (read_operand_of Super at 4) s).1 in
      let rest : Shows (view s) (sum at 4) (4 * n) (drop 4 bytes) = λ k l. shown_behind (view s) at (4 * suc n) 4 bytes (omega arith) h k (omega arith) in
      let later = reads_longs n (sum at 4) (so_far ++ x ∷ []) (drop 4 bytes) t (omega arith)
      (shown_still place view s t (sum at 4) (4 * n) (drop 4 bytes) one.keeps rest) in
      followed bus place view (read_operand_of Super at 4) (λ (r : Result ℕ ReadFault). tried r (λ long. read_longs_of n (sum at 4) (so_far
      ++ long ∷ []))) s (Ok x) _ one
      (subst (λ (l : List ℕ). Gives bus place view (read_longs_of n (sum at 4) (so_far ++ x ∷ [])) t (Ok l))
      (append_assoc so_far (x ∷ []) (longs_in n (drop 4 bytes))) later)

-- the halves of a long are words
halves : (b : List ℕ) (k : ℕ) → ((i : ℕ) → slice_index b i < 256) → (high (long_at b k) ≡ word_at b k) × (low (long_at b k) ≡ word_at b (k + 2))
unfolding long_at word_at
halves b k bytes =
    let xs = drop k b in
    let small : (i : ℕ) → slice_index xs i < 256 = λ i. rw (get_or-drop k b i 0) (bytes (k + i)) in
    let parts : big_from 0 4 xs ≡ big_from 0 2 xs * 65536 + big_from 2 2 xs = two_parts xs 0 2 2 in
    let second : big_from 2 2 xs ≡ big_number 2 (drop (k + 2) b) =
    from_place xs 2 2 ∙ ap (big_number 2) (drop-drop 2 k b) in
    let below : big_from 2 2 xs < 65536 = big_from-lt 2 2 xs small in
    (omega arith, omega arith)

-- longs that stand where the frame has them hold its fields
among : (b longs : List ℕ) → ((i : ℕ) → slice_index b i < 256) → ((i : ℕ) → i < LONGS → slice_index longs i ≡ long_at b (8 + 4 * i))
    → access_of_longs longs ≡ access_in b
unfolding access_of_longs
among b longs bytes h =
    let ea : slice_index longs 0 ≡ long_at b 0x08 = h 0 (omega arith) in
    let l1 : slice_index longs 1 ≡ long_at b 0x0C = h 1 (omega arith) in
    let ssw : high (slice_index longs 1) ≡ word_at b 0x0C = ap (λ (x : ℕ). high x) l1 ∙ (halves b 0x0C bytes).0 in
    let wb3s : low (slice_index longs 1) ≡ word_at b 0x0E = ap (λ (x : ℕ). low x) l1 ∙ (halves b 0x0C bytes).1 in
    let l2 : slice_index longs 2 ≡ long_at b 0x10 = h 2 (omega arith) in
    let wb2s : high (slice_index longs 2) ≡ word_at b 0x10 = ap (λ (x : ℕ). high x) l2 ∙ (halves b 0x10 bytes).0 in
    let wb1s : low (slice_index longs 2) ≡ word_at b 0x12 = ap (λ (x : ℕ). low x) l2 ∙ (halves b 0x10 bytes).1 in
    let fa : slice_index longs 3 ≡ long_at b 0x14 = h 3 (omega arith) in
    let wb3a : slice_index longs 4 ≡ long_at b 0x18 = h 4 (omega arith) in
    let wb3d : slice_index longs 5 ≡ long_at b 0x1C = h 5 (omega arith) in
    let wb2a : slice_index longs 6 ≡ long_at b 0x20 = h 6 (omega arith) in
    let wb2d : slice_index longs 7 ≡ long_at b 0x24 = h 7 (omega arith) in
    let wb1a : slice_index longs 8 ≡ long_at b 0x28 = h 8 (omega arith) in
    let wb1d : slice_index longs 9 ≡ long_at b 0x2C = h 9 (omega arith) in
    let pd1 : slice_index longs 10 ≡ long_at b 0x30 = h 10 (omega arith) in
    let pd2 : slice_index longs 11 ≡ long_at b 0x34 = h 11 (omega arith) in
    let pd3 : slice_index longs 12 ≡ long_at b 0x38 = h 12 (omega arith) in
    cc

pub fields_among : (b : List ℕ) → ((i : ℕ) → slice_index b i < 256) → access_of_longs (longs_in LONGS (drop 8 b)) ≡ access_in b
unfolding long_at
fields_among b bytes =
    among b (longs_in LONGS (drop 8 b)) bytes (λ i l. long_in LONGS (drop 8 b) i l ∙ ap (big_number 4) (drop-drop (4 * i) 8 b))
