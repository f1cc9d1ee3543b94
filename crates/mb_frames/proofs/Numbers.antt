-- The bytes of the number that bytes spell are these bytes.
use Rattle.std.proofs.Common.{◌/◌, ◌%◌, ◌≡◌, ℕ, zero, suc, ◌+◌, ◌*◌, ◌^◌, ◌<◌, ◌≤◌, List, [], ◌∷◌, length, take, slice_index, refl, sym, ap, ◌∙◌, arith}
use Rattle.std.proofs.Math.Nat.{div-one, mod-eq_of_lt, mul-add-mod_self_right, mul-add-div_right, mul_assoc, one-le-pow, pow-succ'}
use Rattle.std.proofs.lemmas.Nat.{div-mul-add}
use Rattle.std.specs.Int.{byte_at, bytes_high_first}
use Rattle.byteorder.specs.Endian.{big_from}
use Rattle.byteorder.specs.Numbers.{big_from-cons, big_from-lt}

-- a byte of a number, by its place
byte_at-pow : (k x : ℕ) → byte_at k x ≡ x / 256 ^ k % 256
byte_at-pow zero x = ap (λ (y : ℕ). y % 256) (sym (div-one x))
byte_at-pow (suc k) x = refl

-- a power of 256 is above zero
pow_pos : (n : ℕ) → zero < 256 ^ n
pow_pos n = let h = one-le-pow n 256 (omega arith) in omega arith

-- a byte is not changed by what stands above it
byte_at-above : (n z y : ℕ) → byte_at n (z * 256 ^ suc n + y) ≡ byte_at n y
byte_at-above n z y =
    let split : z * 256 ^ suc n ≡ z * 256 * 256 ^ n = ap (λ (p : ℕ). z * p) (pow-succ' 256 n) ∙ sym (mul_assoc z 256 (256 ^ n)) in
    byte_at-pow n (z * 256 ^ suc n + y)
    ∙ ap (λ (x : ℕ). (x + y) / 256 ^ n % 256) split
    ∙ ap (λ (x : ℕ). x % 256) (mul-add-div_right (pow_pos n) (z * 256) y)
    ∙ mul-add-mod_self_right z 256 (y / 256 ^ n)
    ∙ sym (byte_at-pow n y)

-- nor are the low bytes
bytes-above : (n z y : ℕ) → bytes_high_first n (z * 256 ^ n + y) ≡ bytes_high_first n y
bytes-above zero z y = refl
bytes-above (suc n) z y =
    let split : z * 256 ^ suc n ≡ z * 256 * 256 ^ n = ap (λ (p : ℕ). z * p) (pow-succ' 256 n) ∙ sym (mul_assoc z 256 (256 ^ n)) in
    let first = byte_at-above n z y in
    let moved : bytes_high_first n (z * 256 ^ suc n + y) ≡ bytes_high_first n (z * 256 * 256 ^ n + y) = ap (λ (x : ℕ). bytes_high_first n (x + y)) split in
    let rest = bytes-above n (z * 256) y in
    cc

-- the bytes of the number that the first n bytes spell
pub bytes-number : (n : ℕ) (xs : List ℕ) → n ≤ length xs → ((i : ℕ) → slice_index xs i < 256)
    → bytes_high_first n (big_from 0 n xs) ≡ take n xs
bytes-number zero xs h bytes = refl
bytes-number (suc n) [] h bytes = absurd (omega arith)
bytes-number (suc n) (x ∷ xs) h bytes =
    let y = big_from 0 n xs in
    let moved : big_from 0 (suc n) (x ∷ xs) ≡ x * 256 ^ n + y = ap (λ (r : ℕ). x * 256 ^ n + r) (big_from-cons 0 n x xs) in
    let low : y < 256 ^ n = big_from-lt 0 n xs (λ i. bytes (suc i)) in
    let byte : x < 256 = bytes 0 in
    let first : byte_at n (x * 256 ^ n + y) ≡ x =
    byte_at-pow n (x * 256 ^ n + y) ∙ ap (λ (q : ℕ). q % 256) (div-mul-add x (256 ^ n) y low) ∙ mod-eq_of_lt byte in
    let rest : bytes_high_first n (x * 256 ^ n + y) ≡ take n xs =
    bytes-above n x y ∙ bytes-number n xs (omega arith) (λ i. bytes (suc i)) in
    ap (bytes_high_first (suc n)) moved ∙ cc
