-- The value of a piece in a long, whatever its length.
use Rattle.std.proofs.Common.{◌≡◌, ℕ, zero, suc, ◌-◌, ◌*◌, ◌%◌, ◌^◌, ◌<◌, ◌≤◌, arith, ap}
use Rattle.std.proofs.Math.Nat.{pow-le-pow_right, mod-eq_of_lt, mod-le}
use Rattle.mb_port.proofs.Laid.{shifted_fits}

-- of four bytes and more a long is all
pub value_whole : (value len : ℕ) → value < 2 ^ 32 → 4 ≤ len → value % 2 ^ (8 * len) ≡ value
value_whole value len h enough =
    let some : 0 < 2 = omega arith in
    let more : 32 ≤ 8 * len = omega arith in
    let wide : 2 ^ 32 ≤ 2 ^ (8 * len) = pow-le-pow_right some more in
    mod-eq_of_lt (omega arith)

-- a value of so many bytes, with the bytes behind it
pub value_fits : (x value at len behind : ℕ) → x < 2 ^ 32 → x ≡ value % 2 ^ (8 * len) → behind ≡ 4 - at % 4 - len
    → x * 2 ^ (8 * behind) % 2 ^ 64 < 2 ^ 32
value_fits x value at len zero h is e = omega arith
value_fits x value at len (suc n) h is e =
    let small : value % 2 ^ (8 * len) * 2 ^ (8 * suc n) < 2 ^ 32 = shifted_fits value (8 * len) (8 * suc n) (omega arith) in
    let same : x * 2 ^ (8 * suc n) ≡ value % 2 ^ (8 * len) * 2 ^ (8 * suc n) = ap (λ n1. n1 * 2 ^ (8 * suc n)) is in
    let less : x * 2 ^ (8 * suc n) % 2 ^ 64 ≤ x * 2 ^ (8 * suc n) = mod-le (x * 2 ^ (8 * suc n)) (2 ^ 64) in
    omega arith
