-- Numbers of a field's width.
use Rattle.std.proofs.Common.{◌≡◌, ℕ, zero, suc, ◌*◌, ◌^◌, ◌<◌, ◌≤◌, refl, subst, arith}

-- the bits of one to five bytes
pub bits_of_bytes : (n : ℕ) → n ≤ 5 → 256 ^ n ≡ 2 ^ (8 * n)
bits_of_bytes zero h = refl
bits_of_bytes (suc zero) h = refl
bits_of_bytes (suc (suc zero)) h = refl
bits_of_bytes (suc (suc (suc zero))) h = refl
bits_of_bytes (suc (suc (suc (suc zero)))) h = refl
bits_of_bytes (suc (suc (suc (suc (suc zero))))) h = refl
bits_of_bytes (suc (suc (suc (suc (suc (suc n)))))) h = absurd (omega arith)

pub in_bits : (x n : ℕ) → n ≤ 5 → x < 256 ^ n → x < 2 ^ (8 * n)
in_bits x n h less = subst (λ (m : ℕ). x < m) (bits_of_bytes n h) less
