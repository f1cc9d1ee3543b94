-- A value in its long.
use Rattle.std.proofs.Common.{◌≡◌, ℕ, zero, suc, ◌≢◌, [], ◌∷◌, ◌++◌, replicate, take, drop, ◌+◌, ◌-◌, ◌*◌, ◌/◌, ◌%◌, ◌^◌, ◌<◌, ◌≤◌, refl, ap, arith, ◌∙◌}
use Rattle.std.specs.Prelude.{bit_and}
use Rattle.std.specs.Int.{bytes_high_first}
use Rattle.std.proofs.lemmas.Nat.{pow-add, pow_pos, shl-shr, and_mask}
use Rattle.std.proofs.Math.Nat.{pow-succ', pow-le-pow_right, mul-lt-mul_of_pos_right, mod-eq_of_lt, mod-mod}
use Rattle.mb_port.specs.declared.types.Piece.{Piece}
use Rattle.mb_port.specs.Pieces.{IsPiece, laid, unlaid}

-- a value of k bits, further up by j, is below 2 ^ 32
pub shifted_fits : (v k j : ℕ) → k + j ≤ 32 → v % 2 ^ k * 2 ^ j < 2 ^ 32
shifted_fits v k j h =
    let some : 0 < 2 ^ k = pow_pos k in
    let a : v % 2 ^ k < 2 ^ k = omega arith in
    let b : v % 2 ^ k * 2 ^ j < 2 ^ k * 2 ^ j = mul-lt-mul_of_pos_right a (pow_pos j) in
    let e : 2 ^ (k + j) ≡ 2 ^ k * 2 ^ j = pow-add 2 k j in
    let q : 2 ^ (k + j) ≤ 2 ^ 32 = pow-le-pow_right (omega arith) h in
    omega arith

pub masked : (v m k : ℕ) → m ≡ 2 ^ k - 1 → bit_and v m ≡ v % 2 ^ k
masked v m k e = ap (bit_and v) e ∙ and_mask v k

-- `(v & mask) << j`
pub mask_shifted : (v m k j : ℕ) → m ≡ 2 ^ k - 1 → k + j ≤ 32 → bit_and v m * 2 ^ j % 2 ^ 32 ≡ v % 2 ^ k * 2 ^ j
mask_shifted v m k j e h = ap (λ n. n * 2 ^ j % 2 ^ 32) (masked v m k e) ∙ mod-eq_of_lt (shifted_fits v k j h)

-- `(v >> j) & mask`
pub shift_masked : (v m k j : ℕ) → m ≡ 2 ^ k - 1 → bit_and (v / 2 ^ j) m ≡ v / 2 ^ j % 2 ^ k
shift_masked v m k j e = masked (v / 2 ^ j) m k e

-- `u32::MAX` without its high bits
pub ones : (len : ℕ) → len ≤ 4 → (2 ^ 32 - 1) / 2 ^ (32 - 8 * len) ≡ 2 ^ (8 * len) - 1
ones zero h = refl
ones (suc zero) h = refl
ones (suc (suc zero)) h = refl
ones (suc (suc (suc zero))) h = refl
ones (suc (suc (suc (suc zero)))) h = refl
ones (suc (suc (suc (suc (suc n))))) h = absurd (omega arith)

pub unlaid_laid : (p : Piece) (value : ℕ) → unlaid p (laid p value) ≡ value % 2 ^ (8 * p.len)
unlaid_laid p value =
    let k = 8 * p.len in
    let some : 0 < 2 ^ k = pow_pos k in
    ap (λ n. n % 2 ^ k) (shl-shr (value % 2 ^ k) (8 * (4 - p.at % 4 - p.len))) ∙ mod-mod value (2 ^ k)

-- what `lay` computes, taken back
pub unlaid_shifted : (p : Piece) (value m j : ℕ) → m ≡ 2 ^ (8 * p.len) - 1 → j ≡ 8 * (4 - p.at % 4 - p.len) → 8 * p.len + j ≤ 32
    → unlaid p (bit_and value m * 2 ^ j % 2 ^ 32) ≡ value % 2 ^ (8 * p.len)
unlaid_shifted p value m j e f h =
    let laid_is : bit_and value m * 2 ^ j % 2 ^ 32 ≡ laid p value = mask_shifted value m (8 * p.len) j e h ∙ ap (λ n. value % 2 ^ (8 * p.len) * 2 ^ n) f in
    ap (unlaid p) laid_is ∙ unlaid_laid p value

-- how many values so many bytes have
span : (len : ℕ) → 2 ^ (8 * len) ≡ 256 ^ len
span zero = refl
span (suc n) =
    let before = span n in
    let e : 8 * suc n ≡ 8 * n + 8 = omega arith in
    let split : 2 ^ (8 * n + 8) ≡ 2 ^ (8 * n) * 256 = pow-add 2 (8 * n) 8 in
    let more : 256 ^ suc n ≡ 256 * 256 ^ n = pow-succ' 256 n in
    ap (λ (k : ℕ). 2 ^ k) e ∙ omega arith

-- what `unlay` computes has the piece's bytes alone
pub masked_fits : (long m j len : ℕ) → m ≡ 2 ^ (8 * len) - 1 → bit_and (long / 2 ^ j) m < 256 ^ len
masked_fits long m j len e =
    let some : 0 < 2 ^ (8 * len) = pow_pos (8 * len) in
    let bytes = span len in
    let value = shift_masked long m (8 * len) j e in
    omega arith

-- The bytes of the long, by the seven places of a piece.
abbrev Stands : ℕ → ℕ → ℕ → Type 0
Stands place len value =
    bytes_high_first 4 (value % 2 ^ (8 * len) * 2 ^ (8 * (4 - place - len))) ≡ replicate place 0 ++ bytes_high_first len value ++ replicate (4 - place - len) 0

cells : (a b c d e f g h : ℕ) → a ≡ e → b ≡ f → c ≡ g → d ≡ h → a ∷ b ∷ c ∷ d ∷ [] ≡ e ∷ f ∷ g ∷ h ∷ []
cells a b c d e f g h p q r s = cc

stands : (place len value : ℕ) → place < 4 → 0 < len → place + len ≤ 4 → len ≢ 3 → (len ≡ 2 → place % 2 ≡ 0) → Stands place len value
stands place zero value a b c d e = absurd (omega arith)
stands zero (suc zero) value a b c d e = cells _ _ _ _ _ _ _ _ (omega arith) (omega arith) (omega arith) (omega arith)
stands (suc zero) (suc zero) value a b c d e = cells _ _ _ _ _ _ _ _ (omega arith) (omega arith) (omega arith) (omega arith)
stands (suc (suc zero)) (suc zero) value a b c d e = cells _ _ _ _ _ _ _ _ (omega arith) (omega arith) (omega arith) (omega arith)
stands (suc (suc (suc zero))) (suc zero) value a b c d e = cells _ _ _ _ _ _ _ _ (omega arith) (omega arith) (omega arith) (omega arith)
stands (suc (suc (suc (suc place)))) (suc len) value a b c d e = absurd (omega arith)
stands zero (suc (suc zero)) value a b c d e = cells _ _ _ _ _ _ _ _ (omega arith) (omega arith) (omega arith) (omega arith)
stands (suc zero) (suc (suc zero)) value a b c d e = absurd (omega arith)
stands (suc (suc zero)) (suc (suc zero)) value a b c d e = cells _ _ _ _ _ _ _ _ (omega arith) (omega arith) (omega arith) (omega arith)
stands (suc (suc (suc place))) (suc (suc len)) value a b c d e = absurd (omega arith)
stands zero (suc (suc (suc zero))) value a b c d e = absurd (omega arith)
stands (suc place) (suc (suc (suc len))) value a b c d e = absurd (omega arith)
stands zero (suc (suc (suc (suc zero)))) value a b c d e = cells _ _ _ _ _ _ _ _ (omega arith) (omega arith) (omega arith) (omega arith)
stands zero (suc (suc (suc (suc (suc len))))) value a b c d e = absurd (omega arith)

in_long : (p : Piece) → IsPiece p → p.at % 4 + p.len ≤ 4
in_long p h = grind arith

two_even : (p : Piece) → IsPiece p → p.len ≡ 2 → p.at % 4 % 2 ≡ 0
two_even p h two = let even : p.at % 2 ≡ 0 = h.3 (omega arith) in omega arith

pub laid_bytes : (p : Piece) (value : ℕ) → IsPiece p
    → bytes_high_first 4 (laid p value) ≡ replicate (p.at % 4) 0 ++ bytes_high_first p.len value ++ replicate (4 - p.at % 4 - p.len) 0
laid_bytes p value h =
    stands (p.at % 4) p.len value (omega arith) h.0 (in_long p h) h.2 (two_even p h)

-- the bytes of the piece in a long
abbrev Taken : ℕ → ℕ → ℕ → Type 0
Taken place len long = bytes_high_first len (long / 2 ^ (8 * (4 - place - len)) % 2 ^ (8 * len)) ≡ take len (drop place (bytes_high_first 4 long))

pairs : (a b c d : ℕ) → a ≡ c → b ≡ d → a ∷ b ∷ [] ≡ c ∷ d ∷ []
pairs a b c d p q = cc

taken : (place len long : ℕ) → place < 4 → 0 < len → place + len ≤ 4 → len ≢ 3 → (len ≡ 2 → place % 2 ≡ 0) → Taken place len long
taken place zero long a b c d e = absurd (omega arith)
taken zero (suc zero) long a b c d e = ap (λ n. n ∷ []) (omega arith)
taken (suc zero) (suc zero) long a b c d e = ap (λ n. n ∷ []) (omega arith)
taken (suc (suc zero)) (suc zero) long a b c d e = ap (λ n. n ∷ []) (omega arith)
taken (suc (suc (suc zero))) (suc zero) long a b c d e = ap (λ n. n ∷ []) (omega arith)
taken (suc (suc (suc (suc place)))) (suc len) long a b c d e = absurd (omega arith)
taken zero (suc (suc zero)) long a b c d e = pairs _ _ _ _ (omega arith) (omega arith)
taken (suc zero) (suc (suc zero)) long a b c d e = absurd (omega arith)
taken (suc (suc zero)) (suc (suc zero)) long a b c d e = pairs _ _ _ _ (omega arith) (omega arith)
taken (suc (suc (suc place))) (suc (suc len)) long a b c d e = absurd (omega arith)
taken zero (suc (suc (suc zero))) long a b c d e = absurd (omega arith)
taken (suc place) (suc (suc (suc len))) long a b c d e = absurd (omega arith)
taken zero (suc (suc (suc (suc zero)))) long a b c d e = cells _ _ _ _ _ _ _ _ (omega arith) (omega arith) (omega arith) (omega arith)
taken zero (suc (suc (suc (suc (suc len))))) long a b c d e = absurd (omega arith)

pub unlaid_bytes : (p : Piece) (long : ℕ) → IsPiece p → bytes_high_first p.len (unlaid p long) ≡ take p.len (drop (p.at % 4) (bytes_high_first 4 long))
unlaid_bytes p long h = taken (p.at % 4) p.len long (omega arith) h.0 (in_long p h) h.2 (two_even p h)

-- the same of what `lay` and `unlay` compute
pub laid_shifted : (p : Piece) (value m j : ℕ) → IsPiece p → m ≡ 2 ^ (8 * p.len) - 1 → j ≡ 8 * (4 - p.at % 4 - p.len) → 8 * p.len + j ≤ 32
    → bytes_high_first 4 (bit_and value m * 2 ^ j % 2 ^ 32) ≡ replicate (p.at % 4) 0 ++ bytes_high_first p.len value ++ replicate (4 - p.at % 4 - p.len) 0
laid_shifted p value m j is e f h =
    let laid_is : bit_and value m * 2 ^ j % 2 ^ 32 ≡ laid p value = mask_shifted value m (8 * p.len) j e h ∙ ap (λ n. value % 2 ^ (8 * p.len) * 2 ^ n) f in
    ap (bytes_high_first 4) laid_is ∙ laid_bytes p value is

pub unlaid_shifted_bytes : (p : Piece) (long m j : ℕ) → IsPiece p → m ≡ 2 ^ (8 * p.len) - 1 → j ≡ 8 * (4 - p.at % 4 - p.len)
    → bytes_high_first p.len (bit_and (long / 2 ^ j) m) ≡ take p.len (drop (p.at % 4) (bytes_high_first 4 long))
unlaid_shifted_bytes p long m j is e f =
    let unlaid_is : bit_and (long / 2 ^ j) m ≡ unlaid p long = shift_masked long m (8 * p.len) j e ∙ ap (λ n. long / 2 ^ n % 2 ^ (8 * p.len)) f in
    ap (bytes_high_first p.len) unlaid_is ∙ unlaid_bytes p long is

pub unlaid_back : (p : Piece) (long m j : ℕ) → m ≡ 2 ^ (8 * p.len) - 1 → j ≡ 8 * (4 - p.at % 4 - p.len)
    → (value : ℕ) → long ≡ laid p value → bit_and (long / 2 ^ j) m ≡ value % 2 ^ (8 * p.len)
unlaid_back p long m j e f value h =
    let unlaid_is : bit_and (long / 2 ^ j) m ≡ unlaid p long = shift_masked long m (8 * p.len) j e ∙ ap (λ n. long / 2 ^ n % 2 ^ (8 * p.len)) f in
    unlaid_is ∙ ap (unlaid p) h ∙ unlaid_laid p value

pub ruleset laying = (mask_shifted, shift_masked, unlaid_shifted, masked_fits, laid_shifted, unlaid_shifted_bytes, unlaid_back)
