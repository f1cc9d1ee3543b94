-- Parts of memory, and what a write leaves of them.
use Rattle.std.proofs.Common.{◌≡◌, ◌≢◌, ℕ, ◌+◌, ◌-◌, ◌^◌, ◌≤◌, ◌<◌, List, length, take, drop, get_or, ap, sym, ◌∙◌, arith, inl, inr}
use Rattle.std.proofs.Common.{length-take, length-drop}
use Rattle.std.proofs.lemmas.Bool.{cases_lt}
use Rattle.std.proofs.lemmas.List.{get_or-take, get_or-drop, drop-drop, ext_get_or}
use Rattle.std.proofs.lemmas.List.Elements.{All-drop, All-take}
use Rattle.byteorder.specs.Endian.{big_number, big_bytes}
use Rattle.byteorder.specs.Numbers.{length-bytes_high_first}
use Rattle.mb_walk.specs.Memory.{number_at, overwritten, with_number, part, AreBytes}
use Rattle.mb_walk.proofs.MemoryLemmas.{length-overwritten}
use Rattle.mb_walk.proofs.Written.{over_in, over_out}
use Rattle.mb_walk.proofs.LongLemmas.{same_from, number_back}

-- ---- a part

pub length-part : (ram : List ℕ) (base size : ℕ) → base + size ≤ length ram → length (part ram base size) ≡ size
length-part ram base size h = length-take size (drop base ram) ∙ (let e = length-drop base ram in omega arith)

pub byte_of_part : (ram : List ℕ) (base size k : ℕ) → k < size → get_or (part ram base size) k 0 ≡ get_or ram (base + k) 0
byte_of_part ram base size k h = get_or-take size (drop base ram) k 0 h ∙ get_or-drop base ram k 0

-- a number in a part
pub number-part : (ram : List ℕ) (base size at len : ℕ) → at + len ≤ size → number_at (part ram base size) at len ≡ number_at ram (base + at) len
number-part ram base size at len h =
    same_from (part ram base size) (drop base ram) at 0 len (λ j l. get_or-take size (drop base ram) (at + j) 0 (omega arith))
    ∙ ap (big_number len) (drop-drop at base ram)

-- bytes that are written into a part
pub part-over : (ram bytes : List ℕ) (base size at : ℕ) → at + length bytes ≤ size → base + size ≤ length ram
    → part (overwritten ram (base + at) bytes) base size ≡ overwritten (part ram base size) at bytes
part-over ram bytes base size at h room =
    let whole : length (overwritten ram (base + at) bytes) ≡ length ram = length-overwritten ram (base + at) bytes (omega arith) in
    let small : length (part (overwritten ram (base + at) bytes) base size) ≡ size = length-part _ base size (omega arith) in
    let own : length (part ram base size) ≡ size = length-part ram base size room in
    let other : length (overwritten (part ram base size) at bytes) ≡ length (part ram base size) =
    length-overwritten (part ram base size) at bytes (omega arith) in
    ext_get_or 0 _ _ (small ∙ sym own ∙ sym other) (λ i l.
    let i_small : i < size = omega arith in
    byte_of_part (overwritten ram (base + at) bytes) base size i i_small
    ∙ elim (cases_lt i at) [
      | inl low ↦
          over_out ram bytes (base + at) (base + i) (omega arith) (λ z. absurd (omega arith)) ∙ sym (byte_of_part ram base size i i_small)
          ∙ sym (over_out (part ram base size) bytes at i (omega arith) (λ z. absurd (omega arith)))
      | inr high ↦ elim (cases_lt i (at + length bytes)) [
        | inl in_it ↦
            over_in ram bytes (base + at) (base + i) (omega arith) (omega arith) (omega arith)
            ∙ ap (λ (n : ℕ). get_or bytes n 0) (let e : base + i - (base + at) ≡ i - at = omega arith in e)
            ∙ sym (over_in (part ram base size) bytes at i (omega arith) high in_it)
        | inr past ↦
            over_out ram bytes (base + at) (base + i) (omega arith) (λ z. omega arith) ∙ sym (byte_of_part ram base size i i_small)
            ∙ sym (over_out (part ram base size) bytes at i (omega arith) (λ z. past))
      ]
    ])

-- a write that ends at or below a place leaves all from there on
pub drop-over : (ram bytes : List ℕ) (n at : ℕ) → at + length bytes ≤ n → n ≤ length ram → drop n (overwritten ram at bytes) ≡ drop n ram
drop-over ram bytes n at h room =
    let whole : length (overwritten ram at bytes) ≡ length ram = length-overwritten ram at bytes (omega arith) in
    ext_get_or 0 _ _ (length-drop n (overwritten ram at bytes) ∙ ap (λ (k : ℕ). k - n) whole ∙ sym (length-drop n ram)) (λ i l.
    get_or-drop n (overwritten ram at bytes) i 0 ∙ over_out ram bytes at (n + i) (omega arith) (λ z. omega arith) ∙ sym (get_or-drop n ram i 0))

-- and one at or above it all below it
pub take-over : (ram bytes : List ℕ) (n at : ℕ) → n ≤ at → at + length bytes ≤ length ram → take n (overwritten ram at bytes) ≡ take n ram
take-over ram bytes n at h room =
    let whole : length (overwritten ram at bytes) ≡ length ram = length-overwritten ram at bytes room in
    ext_get_or 0 _ _ (length-take n (overwritten ram at bytes) ∙ (let e = length-take n ram in omega arith)) (λ i l.
    let small : i < n = (let e = length-take n (overwritten ram at bytes) in omega arith) in
    get_or-take n (overwritten ram at bytes) i 0 small ∙ over_out ram bytes at i room (λ z. absurd (omega arith)) ∙ sym (get_or-take n ram i 0 small))

-- ---- numbers that are written

pub part-with_number : (ram : List ℕ) (base size at len v : ℕ) → at + len ≤ size → base + size ≤ length ram
    → part (with_number ram (base + at) len v) base size ≡ with_number (part ram base size) at len v
part-with_number ram base size at len v h room =
    let count = length-bytes_high_first len v in
    part-over ram (big_bytes len v) base size at (omega arith) room

pub take-with_number : (ram : List ℕ) (n at len v : ℕ) → n ≤ at → at + len ≤ length ram → take n (with_number ram at len v) ≡ take n ram
take-with_number ram n at len v h room =
    let count = length-bytes_high_first len v in
    take-over ram (big_bytes len v) n at h (omega arith)

pub drop-with_number : (ram : List ℕ) (n at len v : ℕ) → at + len ≤ n → n ≤ length ram → drop n (with_number ram at len v) ≡ drop n ram
drop-with_number ram n at len v h room =
    let count = length-bytes_high_first len v in
    drop-over ram (big_bytes len v) n at (omega arith) room

pub bytes-part : (ram : List ℕ) (base size : ℕ) → AreBytes ram → AreBytes (part ram base size)
bytes-part ram base size h = All-take (λ byte. byte < 2 ^ 8) size (drop base ram) (All-drop (λ byte. byte < 2 ^ 8) base ram h)

-- ---- the same bytes again, and bytes elsewhere

pub over-again : (ram bytes : List ℕ) (at : ℕ) → at + length bytes ≤ length ram → overwritten (overwritten ram at bytes) at bytes ≡ overwritten ram at bytes
over-again ram bytes at h =
    let once = overwritten ram at bytes in
    let whole : length once ≡ length ram = length-overwritten ram at bytes h in
    let twice : length (overwritten once at bytes) ≡ length once = length-overwritten once at bytes (omega arith) in
    ext_get_or 0 _ _ twice (λ i l. elim (cases_lt i at) [
      | inl low ↦ over_out once bytes at i (omega arith) (λ z. absurd (omega arith))
      | inr high ↦ elim (cases_lt i (at + length bytes)) [
        | inl in_it ↦ over_in once bytes at i (omega arith) high in_it ∙ sym (over_in ram bytes at i h high in_it)
        | inr past ↦ over_out once bytes at i (omega arith) (λ z. past)
      ]
    ])

-- bytes that stand in memory stand there after other bytes are written elsewhere
pub over-stands : (ram bytes more : List ℕ) (at to : ℕ) → at + length bytes ≤ length ram → to + length more ≤ length ram
    → (at ≤ to → at + length bytes ≤ to) → (to ≤ at → to + length more ≤ at)
    → overwritten ram at bytes ≡ ram → overwritten (overwritten ram to more) at bytes ≡ overwritten ram to more
over-stands ram bytes more at to h k above below is =
    let once = overwritten ram to more in
    let whole : length once ≡ length ram = length-overwritten ram to more k in
    let twice : length (overwritten once at bytes) ≡ length once = length-overwritten once at bytes (omega arith) in
    ext_get_or 0 _ _ twice (λ i l. elim (cases_lt i at) [
      | inl low ↦ over_out once bytes at i (omega arith) (λ z. absurd (omega arith))
      | inr high ↦ elim (cases_lt i (at + length bytes)) [
        | inl in_it ↦
            over_in once bytes at i (omega arith) high in_it ∙ sym (over_in ram bytes at i h high in_it)
            ∙ ap (λ (m : List ℕ). get_or m i 0) is ∙ sym (over_out ram more to i k (grind arith))
        | inr past ↦ over_out once bytes at i (omega arith) (λ z. past)
      ]
    ])

-- ---- bytes that are written in two parts

pub over-split : (ram bytes : List ℕ) (at n : ℕ) → n ≤ length bytes → at + length bytes ≤ length ram
    → overwritten (overwritten ram at (take n bytes)) (at + n) (drop n bytes) ≡ overwritten ram at bytes
over-split ram bytes at n h room =
    let count : length (take n bytes) ≡ n = length-take n bytes ∙ omega arith in
    let rest : length (drop n bytes) ≡ length bytes - n = length-drop n bytes in
    let once = overwritten ram at (take n bytes) in
    let a : length once ≡ length ram = length-overwritten ram at (take n bytes) (omega arith) in
    let b : length (overwritten once (at + n) (drop n bytes)) ≡ length once = length-overwritten once (at + n) (drop n bytes) (omega arith) in
    let c : length (overwritten ram at bytes) ≡ length ram = length-overwritten ram at bytes room in
    ext_get_or 0 _ _ (b ∙ a ∙ sym c) (λ i l. elim (cases_lt i at) [
      | inl low ↦
          over_out once (drop n bytes) (at + n) i (omega arith) (λ z. absurd (omega arith))
          ∙ over_out ram (take n bytes) at i (omega arith) (λ z. absurd (omega arith))
          ∙ sym (over_out ram bytes at i room (λ z. absurd (omega arith)))
      | inr high ↦ elim (cases_lt i (at + n)) [
        | inl front ↦
            over_out once (drop n bytes) (at + n) i (omega arith) (λ z. absurd (omega arith))
            ∙ over_in ram (take n bytes) at i (omega arith) high (omega arith)
            ∙ get_or-take n bytes (i - at) 0 (omega arith) ∙ sym (over_in ram bytes at i room high (omega arith))
        | inr behind ↦ elim (cases_lt i (at + length bytes)) [
          | inl back ↦
              over_in once (drop n bytes) (at + n) i (omega arith) behind (omega arith) ∙ get_or-drop n bytes (i - (at + n)) 0
              ∙ ap (λ (k : ℕ). get_or bytes k 0) (let e : n + (i - (at + n)) ≡ i - at = omega arith in e) ∙ sym (over_in ram bytes at i room high back)
          | inr past ↦
              over_out once (drop n bytes) (at + n) i (omega arith) (λ z. omega arith) ∙ over_out ram (take n bytes) at i (omega arith) (λ z. omega arith)
              ∙ sym (over_out ram bytes at i room (λ z. past))
        ]
      ]
    ])

-- ---- the bytes of a number that was read

pub numbers_have_their_bytes : (ram : List ℕ) (at len : ℕ) → 0 < len → len ≤ 4 → len ≢ 3 → at + len ≤ length ram → AreBytes ram
    → big_bytes len (number_at ram at len) ≡ part ram at len
numbers_have_their_bytes ram at len some few odd room bytes =
    number_back len (drop at ram) some few odd (omega (arith, length-drop at ram)) (All-drop (λ byte. byte < 2 ^ 8) at ram bytes)
