-- Longs that are written and read again.
use Rattle.std.proofs.Common.{◌≡◌, ◌≢◌, ◌∙◌, ℕ, zero, suc, ◌+◌, ◌*◌, ◌/◌, ◌%◌, ◌^◌, ◌≤◌, ◌<◌, List, [], ◌∷◌, ◌++◌, length, take, drop, get_or, refl, ap}
use Rattle.std.proofs.Common.{sym, arith, append_assoc, inl, inr, length-take, length-drop}
use Rattle.std.specs.Int.{byte_at, bytes_high_first}
use Rattle.std.proofs.lemmas.Bool.{cases_lt}
use Rattle.std.proofs.lemmas.List.{take-append-drop, drop-drop, get_or-drop, get_or_past}
use Rattle.std.proofs.lemmas.List.Elements.{All-append, All-take, All-drop, All-cons, All-nil}
use Rattle.std.proofs.Math.Seq.{drop-append_seam}
use Rattle.byteorder.specs.Endian.{big_from, big_number, big_bytes}
use Rattle.byteorder.specs.Numbers.{length-bytes_high_first, big_number-reads_back}
use Rattle.mb_walk.specs.Memory.{number_at, with_number, AreBytes}
use Rattle.mb_walk.proofs.Written.{over_out}

-- the long that was written
pub long_same : (ram : List ℕ) (at v : ℕ) → at + 4 ≤ length ram → v < 2 ^ 32 → number_at (with_number ram at 4 v) at 4 ≡ v
long_same ram at v h small =
    let front : length (take at ram) ≡ at = length-take at ram ∙ omega arith in
    let rest : drop at (take at ram ++ (big_bytes 4 v ++ drop (at + 4) ram)) ≡ big_bytes 4 v ++ drop (at + 4) ram =
    ap (λ (n : ℕ). drop n (take at ram ++ (big_bytes 4 v ++ drop (at + 4) ram))) (sym front)
    ∙ drop-append_seam (take at ram) (big_bytes 4 v ++ drop (at + 4) ram) in
    let count : length (big_bytes 4 v) ≡ 4 = length-bytes_high_first 4 v in
    let whole : with_number ram at 4 v ≡ take at ram ++ (big_bytes 4 v ++ drop (at + 4) ram) =
    append_assoc (take at ram) (big_bytes 4 v) (drop (at + 4) ram) in
    ap (λ (xs : List ℕ). big_number 4 (drop at xs)) whole ∙ ap (big_number 4) rest ∙ big_number-reads_back 4 v (drop (at + 4) ram) small

-- two lists that have the same bytes there spell the same number
pub same_from : (xs ys : List ℕ) (q i n : ℕ) → ((j : ℕ) → j < i + n → get_or xs (q + j) 0 ≡ get_or ys (q + j) 0)
    → big_from i n (drop q xs) ≡ big_from i n (drop q ys)
same_from xs ys q i zero same = refl
same_from xs ys q i (suc n) same =
    let byte : get_or (drop q xs) i 0 ≡ get_or (drop q ys) i 0 = get_or-drop q xs i 0 ∙ same i (omega arith) ∙ sym (get_or-drop q ys i 0) in
    rw (byte, same_from xs ys q (suc i) n (λ j h. same j (omega arith))) refl

pub long_other : (ram : List ℕ) (at v q : ℕ) → at + 4 ≤ length ram → at % 4 ≡ 0 → q % 4 ≡ 0 → q ≢ at
    → number_at (with_number ram at 4 v) q 4 ≡ number_at ram q 4
long_other ram at v q h a b differ = same_from (with_number ram at 4 v) ram q 0 4 (λ j l. over_out ram (big_bytes 4 v) at (q + j) h (grind arith))

-- ---- the bytes of a number that was read

pub one_back : (xs : List ℕ) → 1 ≤ length xs → AreBytes xs → bytes_high_first 1 (big_from 0 1 xs) ≡ take 1 xs
one_back [] h bytes = absurd (omega arith)
one_back (a ∷ xs) h bytes =
    let l = bytes 0 0 (omega arith) in
    let first : (a * 1 + 0) % 256 ≡ a = omega arith in
    rw first refl

two_digits : (a b : ℕ) → a < 256 → b < 256 → bytes_high_first 2 (a * 256 + (b * 1 + 0)) ≡ a ∷ b ∷ []
two_digits a b ha hb =
    let n = a * 256 + (b * 1 + 0) in
    let first : n / 256 % 256 ≡ a = omega arith in
    let second : n % 256 ≡ b = omega arith in
    rw (first, second) refl

pub two_back : (xs : List ℕ) → 2 ≤ length xs → AreBytes xs → bytes_high_first 2 (big_from 0 2 xs) ≡ take 2 xs
two_back [] h bytes = absurd (omega arith)
two_back (a ∷ []) h bytes = absurd (omega arith)
two_back (a ∷ b ∷ xs) h bytes = two_digits a b (bytes 0 0 (omega arith)) (bytes 1 0 (omega arith))

four_digits : (a b c d : ℕ) → a < 256 → b < 256 → c < 256 → d < 256
    → bytes_high_first 4 (a * 16777216 + (b * 65536 + (c * 256 + (d * 1 + 0)))) ≡ a ∷ b ∷ c ∷ d ∷ []
four_digits a b c d ha hb hc hd =
    let n = a * 16777216 + (b * 65536 + (c * 256 + (d * 1 + 0))) in
    let first : n / 16777216 % 256 ≡ a = omega arith in
    let second : n / 65536 % 256 ≡ b = omega arith in
    let third : n / 256 % 256 ≡ c = omega arith in
    let fourth : n % 256 ≡ d = omega arith in
    rw (first, second, third, fourth) refl

pub four_back : (xs : List ℕ) → 4 ≤ length xs → AreBytes xs → bytes_high_first 4 (big_from 0 4 xs) ≡ take 4 xs
four_back [] h bytes = absurd (omega arith)
four_back (a ∷ []) h bytes = absurd (omega arith)
four_back (a ∷ b ∷ []) h bytes = absurd (omega arith)
four_back (a ∷ b ∷ c ∷ []) h bytes = absurd (omega arith)
four_back (a ∷ b ∷ c ∷ d ∷ xs) h bytes =
    four_digits a b c d (bytes 0 0 (omega arith)) (bytes 1 0 (omega arith)) (bytes 2 0 (omega arith)) (bytes 3 0 (omega arith))

pub number_back : (len : ℕ) (xs : List ℕ) → 0 < len → len ≤ 4 → len ≢ 3 → len ≤ length xs → AreBytes xs → big_bytes len (big_number len xs) ≡ take len xs
number_back zero xs some few odd enough bytes = absurd (omega arith)
number_back (suc zero) xs some few odd enough bytes = one_back xs enough bytes
number_back (suc (suc zero)) xs some few odd enough bytes = two_back xs enough bytes
number_back (suc (suc (suc zero))) xs some few odd enough bytes = absurd (odd refl)
number_back (suc (suc (suc (suc zero)))) xs some few odd enough bytes = four_back xs enough bytes
number_back (suc (suc (suc (suc (suc len))))) xs some few odd enough bytes = absurd (omega arith)

-- a long is written that stood there
pub long_back : (ram : List ℕ) (at : ℕ) → at + 4 ≤ length ram → AreBytes ram → with_number ram at 4 (number_at ram at 4) ≡ ram
long_back ram at h bytes =
    let long = four_back (drop at ram) (omega (arith, length-drop at ram)) (All-drop (λ byte. byte < 2 ^ 8) at ram bytes) in
    ap (λ (xs : List ℕ). take at ram ++ xs ++ drop (at + 4) ram) long
    ∙ append_assoc (take at ram) (take 4 (drop at ram)) (drop (at + 4) ram)
    ∙ ap (λ (xs : List ℕ). take at ram ++ (take 4 (drop at ram) ++ xs)) (sym (drop-drop 4 at ram))
    ∙ ap (λ (xs : List ℕ). take at ram ++ xs) (take-append-drop 4 (drop at ram)) ∙ take-append-drop at ram

pub byte_small : (k n : ℕ) → byte_at k n < 2 ^ 8
byte_small zero n = omega arith
byte_small (suc k) n = omega arith

pub number_bytes : (n v : ℕ) → AreBytes (bytes_high_first n v)
number_bytes zero v = All-nil (λ byte. byte < 2 ^ 8)
number_bytes (suc n) v = All-cons (λ byte. byte < 2 ^ 8) (byte_at n v) (bytes_high_first n v) (byte_small n v) (number_bytes n v)

pub written_bytes : (ram : List ℕ) (at n v : ℕ) → AreBytes ram → AreBytes (with_number ram at n v)
written_bytes ram at n v bytes =
    All-append (λ byte. byte < 2 ^ 8) (take at ram ++ big_bytes n v) (drop (at + length (big_bytes n v)) ram)
    (All-append (λ byte. byte < 2 ^ 8) (take at ram) (big_bytes n v) (All-take (λ byte. byte < 2 ^ 8) at ram bytes) (number_bytes n v))
    (All-drop (λ byte. byte < 2 ^ 8) (at + length (big_bytes n v)) ram bytes)

pub byte_inside : (ram : List ℕ) (k : ℕ) → AreBytes ram → get_or ram k 0 < 2 ^ 8
byte_inside ram k bytes = elim (cases_lt k (length ram)) [
  | inl l ↦ bytes k 0 l
  | inr g ↦ rw (get_or_past ram k 0 g) (omega arith)
]

pub long_small : (ram : List ℕ) (at : ℕ) → AreBytes ram → number_at ram at 4 < 2 ^ 32
long_small ram at bytes =
    let rest = All-drop (λ byte. byte < 2 ^ 8) at ram bytes in
    let a = byte_inside (drop at ram) 0 rest in
    let b = byte_inside (drop at ram) 1 rest in
    let c = byte_inside (drop at ram) 2 rest in
    let d = byte_inside (drop at ram) 3 rest in
    omega arith
