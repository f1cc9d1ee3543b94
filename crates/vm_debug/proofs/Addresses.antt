-- How large the numbers of hexadecimal digits are.
use Rattle.std.proofs.Common.{ℕ, ◌<◌, ◌≤◌, ◌^◌, arith}
use Rattle.std.proofs.Math.Nat.{pow-le-pow_right}

-- seven digits have 28 bits
pub seven_digits : (i n : ℕ) → i < 8 → n < 16 ^ i → n < 2 ^ 28
seven_digits i n few small =
    let at_most : i ≤ 7 = omega arith in
    let most : 16 ^ i ≤ 16 ^ 7 = pow-le-pow_right {n = 16} (omega arith) at_most in omega (arith, most, small)
