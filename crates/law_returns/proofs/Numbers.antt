-- Numbers of bytes that are read in two parts.
use Rattle.std.proofs.Common.{◌≡◌, ℕ, zero, suc, ◌+◌, ◌*◌, ◌^◌, ◌<◌, List, drop, slice_index, refl, ap, sym, ◌∙◌, arith}
use Rattle.std.proofs.Math.Nat.{add-mul, mul_assoc}
use Rattle.std.proofs.lemmas.Nat.{pow-add}
use Rattle.std.proofs.lemmas.List.{get_or-drop}
use Rattle.byteorder.specs.Endian.{big_from, big_number}

-- the same bytes spell the same number
pub same_from : (xs ys : List ℕ) (i j n : ℕ) → ((k : ℕ) → k < n → slice_index xs (i + k) ≡ slice_index ys (j + k))
    → big_from i n xs ≡ big_from j n ys
same_from xs ys i j zero h = refl
same_from xs ys i j (suc n) h =
    let first : slice_index xs i ≡ slice_index ys j =
    ap (slice_index xs) (let e : i ≡ i + 0 = omega arith in e) ∙ h 0 (omega arith) ∙ ap (slice_index ys) (let e : j + 0 ≡ j = omega arith in e) in
    let later : big_from (suc i) n xs ≡ big_from (suc j) n ys =
    same_from xs ys (suc i) (suc j) n (λ k l.
    ap (slice_index xs) (let e : suc i + k ≡ i + suc k = omega arith in e) ∙ h (suc k) (omega arith)
    ∙ ap (slice_index ys) (let e : j + suc k ≡ suc j + k = omega arith in e)) in
    rw (first, later) refl

-- from a place on
pub from_place : (xs : List ℕ) (i n : ℕ) → big_from i n xs ≡ big_number n (drop i xs)
from_place xs i n = same_from xs (drop i xs) i 0 n (λ k l. sym (get_or-drop i xs (0 + k) 0
    ∙ ap (λ (m : ℕ). slice_index xs (i + m)) (let e : 0 + k ≡ k = omega arith in e)))

scaled : (x y b n : ℕ) → (x * 256 ^ n + y) * 256 ^ b ≡ x * 256 ^ (n + b) + y * 256 ^ b
scaled x y b n =
    add-mul (x * 256 ^ n) y (256 ^ b)
    ∙ ap (λ (z : ℕ). z + y * 256 ^ b) (mul_assoc x (256 ^ n) (256 ^ b) ∙ ap (λ (z : ℕ). x * z) (sym (pow-add 256 n b)))

-- a number in two parts
pub two_parts : (xs : List ℕ) (i a b : ℕ) → big_from i (a + b) xs ≡ big_from i a xs * 256 ^ b + big_from (i + a) b xs
two_parts xs i zero b =
    ap (λ (n : ℕ). big_from i n xs) (let e : 0 + b ≡ b = omega arith in e)
    ∙ ap (λ (m : ℕ). big_from m b xs) (let e : i ≡ i + 0 = omega arith in e)
    ∙ (let e : (x : ℕ) → x ≡ 0 * 256 ^ b + x = λ x. omega arith in e (big_from (i + 0) b xs))
two_parts xs i (suc a) b =
    let x = slice_index xs i in
    let later : big_from (suc i) (a + b) xs ≡ big_from (suc i) a xs * 256 ^ b + big_from (suc i + a) b xs = two_parts xs (suc i) a b in
    let moved : big_from (suc i + a) b xs ≡ big_from (i + suc a) b xs = ap (λ (m : ℕ). big_from m b xs) (let e : suc i + a ≡ i + suc a = omega arith in e) in
    let count : big_from i (suc a + b) xs ≡ big_from i (suc (a + b)) xs = ap
    (λ (n : ℕ). big_from i n xs) (let e : suc a + b ≡ suc (a + b) = omega arith in e) in
    let joined = scaled x (big_from (suc i) a xs) b a in
    count ∙ (let e : x * 256 ^ (a + b) + big_from (suc i) (a + b) xs ≡ (x * 256 ^ a + big_from (suc i) a xs) * 256 ^ b + big_from (i + suc a) b xs =
    omega (arith, later, moved, joined) in e)

-- a value, and behind it a number in two parts
pub behind : (xs : List ℕ) (value a b : ℕ) → (value * 256 ^ a + big_number a xs) * 256 ^ b + big_number b (drop a xs)
    ≡ value * 256 ^ (a + b) + big_number (a + b) xs
behind xs value a b =
    let parts : big_from 0 (a + b) xs ≡ big_from 0 a xs * 256 ^ b + big_from (0 + a) b xs = two_parts xs 0 a b in
    let moved : big_from (0 + a) b xs ≡ big_number b (drop a xs) =
    ap (λ (m : ℕ). big_from m b xs) (let e : 0 + a ≡ a = omega arith in e) ∙ from_place xs a b in
    let joined = scaled value (big_number a xs) b a in
    omega (arith, parts, moved, joined)
