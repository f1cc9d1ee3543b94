-- A number with a piece behind it.
use Rattle.std.proofs.Common.{◌≡◌, ℕ, zero, suc, ◌+◌, ◌*◌, ◌%◌, ◌^◌, ◌<◌, ◌≤◌, refl, arith}
use Rattle.std.proofs.lemmas.Nat.{pow-add}
use Rattle.std.proofs.Math.Nat.{mul-le-mul_right}

-- l bytes and m more are l + m bytes
joined_range : (v x l m : ℕ) → v < 256 ^ l → x < 256 ^ m → v * 256 ^ m + x < 256 ^ (l + m)
joined_range v x l m low part =
    let bytes = pow-add 256 l m in
    let step = mul-le-mul_right {m = v + 1} {n = 256 ^ l} (256 ^ m) (omega arith) in
    omega arith

-- what counts for so many bytes, computed by a shift
weight : (m : ℕ) → m ≤ 4 → 1 * 2 ^ (8 * m) % 18446744073709551616 ≡ 256 ^ m
weight zero h = refl
weight (suc zero) h = refl
weight (suc (suc zero)) h = refl
weight (suc (suc (suc zero))) h = refl
weight (suc (suc (suc (suc zero)))) h = refl
weight (suc (suc (suc (suc (suc m))))) h = absurd (omega arith)

pub shifted : (v x m : ℕ) → m ≤ 4 → v * (1 * 2 ^ (8 * m) % 18446744073709551616) + x ≡ v * 256 ^ m + x
shifted v x m few = rw (weight m few) refl

pub shifted_range : (v x l m : ℕ) → m ≤ 4 → v < 256 ^ l → x < 256 ^ m →
    v * (1 * 2 ^ (8 * m) % 18446744073709551616) + x < 256 ^ (l + m)
shifted_range v x l m few low part = rw (weight m few) (joined_range v x l m low part)

-- five bytes at most
five : (n : ℕ) → n ≤ 5 → 256 ^ n ≤ 256 ^ 5
five zero h = omega arith
five (suc zero) h = omega arith
five (suc (suc zero)) h = omega arith
five (suc (suc (suc zero))) h = omega arith
five (suc (suc (suc (suc zero)))) h = omega arith
five (suc (suc (suc (suc (suc zero))))) h = omega arith
five (suc (suc (suc (suc (suc (suc n)))))) h = absurd (omega arith)

pub shifted_fits : (v x l m : ℕ) → m ≤ 4 → l + m ≤ 5 → v < 256 ^ l → x < 256 ^ m →
    v * (1 * 2 ^ (8 * m) % 18446744073709551616) + x < 18446744073709551616
shifted_fits v x l m few fits low part =
    let joined = shifted_range v x l m few low part in
    let most = five (l + m) fits in
    omega arith
