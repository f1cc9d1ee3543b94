-- Powers of two up to the sixteenth.
use Rattle.std.proofs.Common.{◌≡◌, ℕ, zero, ◌+◌, ◌-◌, ◌*◌, ◌^◌, ◌%◌, ◌≤◌, ◌<◌, arith}
use Rattle.std.proofs.Math.Nat.{pow-le-pow_right}
use Rattle.std.proofs.lemmas.Grind.{pow_more}
use Rattle.std.proofs.lemmas.Nat.{pow_pos}

pub power_most : (to : ℕ) → to < 16 → 2 ^ to ≤ 32768
power_most to h = let two : zero < 2 = omega arith in pow-le-pow_right two (let k : to ≤ 15 = omega arith in k)

pub power_less : (from to : ℕ) → from ≤ to → 2 ^ from ≤ 2 ^ to
power_less from to h = let two : zero < 2 = omega arith in pow-le-pow_right two h

-- no bit of a range is lost
pub range_bits : (from to : ℕ) → from ≤ to → to < 16 → 2 * 2 ^ to % 4294967296 - 1 * 2 ^ from % 4294967296 ≡ 2 ^ (to + 1) - 2 ^ from
range_bits from to h k = let more : 2 ^ (to + 1) ≡ 2 ^ to * 2 = pow_more 2 to in omega (arith, more, power_most to k, power_less from to h)

pub range_below : (from to : ℕ) → from ≤ to → to < 16 → 1 * 2 ^ from % 4294967296 ≤ 2 * 2 ^ to % 4294967296
range_below from to h k = omega (arith, power_most to k, power_less from to h)

pub range_fits : (from to : ℕ) → from ≤ to → to < 16 → 2 * 2 ^ to % 4294967296 - 1 * 2 ^ from % 4294967296 < 65536
range_fits from to h k = omega (arith, power_most to k, power_less from to h, pow_pos from)
