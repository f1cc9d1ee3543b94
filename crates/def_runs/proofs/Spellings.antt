-- The sum over numbers, by what they spell.
use Rattle.std.proofs.Common.{◌≡◌, ◌∙◌, ℕ, ◌+◌, ◌*◌, ◌/◌, ◌%◌, ◌^◌, ◌<◌, List, [], ◌∷◌, ◌++◌, length, refl, ap, sym, arith}
use Rattle.std.proofs.Math.Nat.{add-mul, mul_assoc, mul_comm, add-mul-mod_self_left, div-add-mod, pow-succ'}
use Rattle.def_runs.specs.Marks.{numbers_of, sum_with, sum_with_all, trail, spelled, with_spelled, TrailsBySpelling}

mod_first : (a b c m : ℕ) → (a % m * b + c) % m ≡ (a * b + c) % m
mod_first a b c m =
    let q = a / m in
    let r = a % m in
    sym (
    ap (λ (x : ℕ). (x * b + c) % m) (sym (div-add-mod a m))
    ∙ ap (λ (x : ℕ). (x + c) % m) (add-mul (m * q) r b ∙ ap (λ (x : ℕ). x + r * b) (mul_assoc m q b))
    ∙ ap (λ (x : ℕ). x % m) (let e : m * (q * b) + r * b + c ≡ r * b + c + m * (q * b) = omega arith in e)
    ∙ add-mul-mod_self_left (r * b + c) m (q * b)
    )

-- one more digit in front
one_more : (t x p s : ℕ) → (31 * t + x) * p + s ≡ t * (31 * p) + (x * p + s)
one_more t x p s =
    ap (λ (y : ℕ). y + s) (add-mul (31 * t) x p ∙ ap (λ (y : ℕ). y * p + x * p) (mul_comm 31 t) ∙ ap (λ (y : ℕ). y + x * p) (mul_assoc t 31 p))
    ∙ (let e : t * (31 * p) + x * p + s ≡ t * (31 * p) + (x * p + s) = omega arith in e)

-- it is a number below 2^64 already
below : (t : ℕ) → t < 2 ^ 64 → t ≡ (t * 1 + 0) % 2 ^ 64
below t h = omega arith

mod_less : (x : ℕ) → x % 2 ^ 64 < 2 ^ 64
mod_less x = omega arith

-- the sum with numbers is that with what they spell
pub sum-spells : (xs : List ℕ) (t : ℕ) → t < 2 ^ 64 → sum_with_all t xs ≡ (t * 31 ^ length xs + spelled xs) % 2 ^ 64
sum-spells [] t h = below t h
sum-spells (x ∷ xs) t h =
    sum-spells xs (sum_with t x) (mod_less (31 * t + x))
    ∙ mod_first (31 * t + x) (31 ^ length xs) (spelled xs) (2 ^ 64)
    ∙ ap (λ (y : ℕ). y % 2 ^ 64) (one_more t x (31 ^ length xs) (spelled xs))
    ∙ ap (λ (y : ℕ). (t * y + (x * 31 ^ length xs + spelled xs)) % 2 ^ 64) (sym (pow-succ' 31 (length xs)))

-- numbers one after the other
pub numbers-append : (t : ℕ) (xs ys : List ℕ) → sum_with_all t (xs ++ ys) ≡ sum_with_all (sum_with_all t xs) ys
numbers-append t [] ys = refl
numbers-append t (x ∷ xs) ys = numbers-append (sum_with t x) xs ys

eighteen : (xs : List ℕ) (t : ℕ) → length xs ≡ 18 → t < 2 ^ 64 → sum_with_all t xs ≡ with_spelled t (spelled xs)
eighteen xs t n h = sum-spells xs t h ∙ ap (λ (k : ℕ). (t * 31 ^ k + spelled xs) % 2 ^ 64) n

pub trails-by_spelling : TrailsBySpelling
unfolding trail
trails-by_spelling t before after n m h =
    ap (λ (x : ℕ). sum_with_all x (numbers_of after)) (eighteen (numbers_of before) t n h)
    ∙ eighteen (numbers_of after) (with_spelled t (spelled (numbers_of before))) m (mod_less (t * 31 ^ 18 + spelled (numbers_of before)))
