-- Bytes as one number, and their digits.
use Rattle.std.proofs.Common.{◌≡◌, ℕ, zero, suc, ◌+◌, ◌*◌, ◌/◌, ◌%◌, ◌^◌, ◌<◌, Bool, true, false, ◌&&◌, List, [], ◌∷◌, ◌++◌, length, refl, sym, ap, ◌∙◌, arith, inl, inr}
use Rattle.std.specs.Prelude.{◌==◌}
use Rattle.std.specs.Int.{byte_at, bytes_high_first}
use Rattle.std.proofs.lemmas.Bool.{cases_Bool, and_parts, eqb-true, eqb-false}
use Rattle.std.proofs.lemmas.Nat.{div-mul-add, mul-add-lt}
use Rattle.std.proofs.Math.Nat.{pow-suc, div-div-eq-div-mul}
use Rattle.mb_spelling.specs.Hex.{hex_digit, hex_of}
use Rattle.mb_report.specs.Digits.{digits, hex8}
use Rattle.mb_saved.specs.Saved.{is_zero}
use Rattle.vm_snapshot.specs.Memory.{AreBytes}

-- the number that bytes spell behind those of n, the highest first
abbrev pub number_after : ℕ → List ℕ → ℕ
number_after n [] = n
number_after n (b ∷ bytes) = number_after (256 * n + b) bytes

-- ---- numbers of bytes

abbrev pub double : ℕ → ℕ
double zero = zero
double (suc k) = suc (suc (double k))

-- 16 to the power of twice so many
abbrev pub unit : ℕ → ℕ
unit k = 16 ^ double k

unit-suc : (k : ℕ) → unit (suc k) ≡ 256 * unit k
unit-suc k =
    let a = pow-suc 16 (suc (double k)) in
    let b = pow-suc 16 (double k) in
    omega (arith, a, b)

step_sum : (n b p r : ℕ) → (256 * n + b) * p + r ≡ n * (256 * p) + ((256 * 0 + b) * p + r)
step_sum n b p r = omega arith

step_below : (b p r : ℕ) → b < 256 → r < p → (256 * 0 + b) * p + r < 256 * p
step_below b p r small less =
    let h : b * p + r < p * 256 = mul-add-lt b p r 256 small less in
    omega arith

number_apart : (n : ℕ) (bytes : List ℕ) → AreBytes bytes
    → (number_after n bytes ≡ n * unit (length bytes) + number_after 0 bytes) × (number_after 0 bytes < unit (length bytes))
number_apart n [] h = (omega arith, omega arith)
number_apart n (b ∷ bytes) h =
    let first = number_apart (256 * n + b) bytes h.1 in
    let second = number_apart (256 * 0 + b) bytes h.1 in
    let size = unit-suc (length bytes) in
    let p = unit (length bytes) in
    let r = number_after 0 bytes in
    let below = step_below b p r h.0 second.1 in (
      first.0
          ∙ (step_sum n b p r
          ∙ (ap (λ (u : ℕ). n * u + ((256 * 0 + b) * p + r)) (sym size) ∙ ap (λ (w : ℕ). n * unit (suc (length bytes)) + w) (sym second.0))),
      omega (arith, second.0, below, size),
    )

number_high : (n : ℕ) (bytes : List ℕ) → AreBytes bytes → number_after n bytes / unit (length bytes) ≡ n
number_high n bytes h =
    let apart = number_apart n bytes h in
    ap (λ (x : ℕ). x / unit (length bytes)) apart.0 ∙ div-mul-add n (unit (length bytes)) (number_after 0 bytes) apart.1

over_16 : (n k : ℕ) → n / 16 ^ suc k ≡ n / 16 ^ k / 16
over_16 n k = ap (λ (p : ℕ). n / p) (pow-suc 16 k) ∙ sym (div-div-eq-div-mul n (16 ^ k) 16)

pub number_text : (n : ℕ) (bytes : List ℕ) → AreBytes bytes → hex_of (double (length bytes)) (number_after n bytes) ≡ digits bytes
number_text n [] h = refl
number_text n (b ∷ bytes) h =
    let k = double (length bytes) in
    let whole = number_after (256 * n + b) bytes in
    let high : whole / 16 ^ k ≡ 256 * n + b = number_high (256 * n + b) bytes h.1 in
    let small : b < 256 = h.0 in
    let first : whole / 16 ^ suc k % 16 ≡ b / 16 = (let e = over_16 whole k in omega (arith, e, high)) in
    let second : whole / 16 ^ k % 16 ≡ b % 16 = omega (arith, high) in
    ap (λ (d : ℕ). hex_digit d ∷ hex_digit (whole / 16 ^ k % 16) ∷ hex_of k whole) first
    ∙ (ap (λ (d : ℕ). hex_digit (b / 16) ∷ hex_digit d ∷ hex_of k whole) second
    ∙ ap (λ (w : List ℕ). hex_digit (b / 16) ∷ hex_digit (b % 16) ∷ w) (number_text (256 * n + b) bytes h.1))

-- ---- addresses

pub digit_same : (x y : ℕ) (xs ys : List ℕ) → x ≡ y → xs ≡ ys → hex_digit x ∷ xs ≡ hex_digit y ∷ ys
digit_same x y xs ys e f = ap (λ (d : ℕ). hex_digit d ∷ xs) e ∙ ap (λ (w : List ℕ). hex_digit y ∷ w) f

-- the address of a row
pub address_text : (place : ℕ) → place < 2 ^ 28 → hex8 (16 * place) ≡ hex_of 7 place ++ 48 ∷ []
unfolding hex8
address_text place small =
    let n = 16 * place in
    (digit_same (byte_at 3 n / 16) (place / 16 ^ 6 % 16) _ _ (omega arith)
    (digit_same (byte_at 3 n % 16) (place / 16 ^ 5 % 16) _ _ (omega arith)
    (digit_same (byte_at 2 n / 16) (place / 16 ^ 4 % 16) _ _ (omega arith)
    (digit_same (byte_at 2 n % 16) (place / 16 ^ 3 % 16) _ _ (omega arith)
    (digit_same (byte_at 1 n / 16) (place / 16 ^ 2 % 16) _ _ (omega arith)
    (digit_same (byte_at 1 n % 16) (place / 16 ^ 1 % 16) _ _ (omega arith)
    (digit_same (byte_at 0 n / 16) (place / 16 ^ 0 % 16) _ _ (omega arith)
    (digit_same (byte_at 0 n % 16) (0) _ _ (omega arith)
    refl))))))))

-- ---- bytes of numbers

power : (k : ℕ) → 256 ^ k ≡ unit k
power zero = refl
power (suc k) = pow-suc 256 k ∙ (let e = power k in let f = unit-suc k in omega (arith, e, f))

byte_value : (k n : ℕ) → byte_at k n ≡ n / unit k % 256
byte_value zero n = omega arith
byte_value (suc k) n = ap (λ (p : ℕ). n / p % 256) (power (suc k))

-- the bytes of a number are those that spell it
pub spelled_back : (m : ℕ) (bytes : List ℕ) → AreBytes bytes → bytes_high_first (length bytes) (number_after m bytes) ≡ bytes
spelled_back m [] h = refl
spelled_back m (b ∷ bytes) h =
    let whole = number_after (256 * m + b) bytes in
    let high : whole / unit (length bytes) ≡ 256 * m + b = number_high (256 * m + b) bytes h.1 in
    let small : b < 256 = h.0 in
    let first : byte_at (length bytes) whole ≡ b = byte_value (length bytes) whole ∙ omega (arith, high) in
    ap (λ (x : ℕ). x ∷ bytes_high_first (length bytes) whole) first ∙ ap (λ (l : List ℕ). b ∷ l) (spelled_back (256 * m + b) bytes h.1)

pub are_bytes : (k n : ℕ) → AreBytes (bytes_high_first k n)
are_bytes zero n = tt
are_bytes (suc k) n = (let e = byte_value k n in omega (arith, e), are_bytes k n)

pub byte_count : (k n : ℕ) → length (bytes_high_first k n) ≡ k
byte_count zero n = refl
byte_count (suc k) n = ap suc (byte_count k n)

-- with what is above them they make up the number
number_split : (k n : ℕ) → n ≡ n / unit k * unit k + number_after 0 (bytes_high_first k n)
number_split zero n = omega arith
number_split (suc k) n =
    let u = unit k in
    let q = n / u in
    let b = byte_at k n in
    let later = number_after 0 (bytes_high_first k n) in
    let size = unit-suc k in
    let above : n / unit (suc k) ≡ q / 256 = ap (λ (p : ℕ). n / p) (let e : unit (suc k) ≡ u * 256 = omega (arith, size) in e)
    ∙ sym (div-div-eq-div-mul n u 256) in
    let parts : q ≡ 256 * (q / 256) + b = (let e = byte_value k n in omega (arith, e)) in
    let spelled : number_after (256 * 0 + b) (bytes_high_first k n) ≡ (256 * 0 + b) * unit (length (bytes_high_first k n)) + later =
    (number_apart (256 * 0 + b) (bytes_high_first k n) (are_bytes k n)).0 in
    let counted : (256 * 0 + b) * unit (length (bytes_high_first k n)) + later ≡ (256 * 0 + b) * u + later =
    ap (λ (c : ℕ). (256 * 0 + b) * unit c + later) (byte_count k n) in
    number_split k n
    ∙ (ap (λ (x : ℕ). x * u + later) parts
    ∙ (step_sum (q / 256) b u later
    ∙ (ap (λ (x : ℕ). q / 256 * x + ((256 * 0 + b) * u + later)) (sym size)
    ∙ (ap (λ (x : ℕ). x * unit (suc k) + ((256 * 0 + b) * u + later)) (sym above)
    ∙ ap (λ (x : ℕ). n / unit (suc k) * unit (suc k) + x) (sym (spelled ∙ counted))))))

nothing_above : (u x : ℕ) → 0 * u + x ≡ x
nothing_above u x = omega arith

pub number_back : (n : ℕ) → n / 16 ^ 32 ≡ 0 → number_after 0 (bytes_high_first 16 n) ≡ n
number_back n small =
    let split = number_split 16 n in
    let none : n / unit 16 ≡ 0 = small in
    sym (split ∙ (ap (λ (x : ℕ). x * unit 16 + number_after 0 (bytes_high_first 16 n)) none ∙ nothing_above (unit 16) (number_after 0 (bytes_high_first 16 n))))

pub number_fits : (bytes : List ℕ) → length bytes ≡ 16 → AreBytes bytes → number_after 0 bytes / 16 ^ 32 ≡ 0
number_fits bytes count h =
    let below = (number_apart 0 bytes h).1 in
    let size : unit (length bytes) ≡ 16 ^ 32 = ap unit count in
    omega (arith, below, size)

-- ---- zero

zero_number : (bytes : List ℕ) → is_zero bytes ≡ true → number_after 0 bytes ≡ 0
zero_number [] h = refl
zero_number (b ∷ bytes) h =
    let parts = and_parts _ _ h in
    let none : b ≡ 0 = eqb-true b 0 parts.0 in
    ap (λ (x : ℕ). number_after x bytes) (let e : 256 * 0 + b ≡ 0 = omega arith in e) ∙ zero_number bytes parts.1

grows : (n : ℕ) (bytes : List ℕ) → 0 < n → 0 < number_after n bytes
grows n [] h = h
grows n (b ∷ bytes) h = grows (256 * n + b) bytes (omega arith)

some_at : (bytes : List ℕ) (b : ℕ) (zero_byte rest : Bool) → (b == 0) ≡ zero_byte → is_zero bytes ≡ rest → (zero_byte && rest) ≡ false
    → (is_zero bytes ≡ false → 0 < number_after 0 bytes) → 0 < number_after (256 * 0 + b) bytes
some_at bytes b false rest e f h later = grows (256 * 0 + b) bytes (let apart = eqb-false b 0 e in omega (arith, apart))
some_at bytes b true false e f h later =
    let none : 256 * 0 + b ≡ 0 = (let z = eqb-true b 0 e in omega (arith, z)) in
    rw none (later f)
some_at bytes b true true e f h later = absurd (let contrary : true ≡ false = h in cc)

pub some_number : (bytes : List ℕ) → is_zero bytes ≡ false → 0 < number_after 0 bytes
some_number [] h = absurd (let contrary : true ≡ false = h in cc)
some_number (b ∷ bytes) h = some_at bytes b (b == 0) (is_zero bytes) refl refl h (some_number bytes)

pub not_all_zero : (bytes : List ℕ) → 0 < number_after 0 bytes → is_zero bytes ≡ false
not_all_zero bytes some =
    elim (cases_Bool (is_zero bytes)) [
      | inl e ↦ absurd (let none = zero_number bytes e in omega (arith, none))
      | inr e ↦ e
    ]
