-- What registers spell, by what few of them that have changed spelled before.
use Rattle.std.proofs.Common.{◌≡◌, ◌≢◌, ◌∙◌, ℕ, zero, suc, ◌+◌, ◌-◌, ◌*◌, ◌%◌, ◌^◌, ◌<◌, ◌⊎◌, inl, inr, List, [], ◌∷◌, ◌++◌, length, length-append}
use Rattle.std.proofs.Common.{get_or, pred, zero-mul, ap, sym, subst, refl, arith}
use Rattle.std.proofs.Math.Nat.{mul_assoc, mul_comm, mul-add, add-mul}
use Rattle.std.proofs.lemmas.Nat.{mul-mod_first, pow-add}
use Rattle.std.proofs.lemmas.Grind.{same_number_lists}
use Rattle.mb_instr.specs.declared.registers.Plain.{Plain}
use Rattle.def_runs.specs.Marks.{numbers_of, spelled, HasNumbers}
use Rattle.mb_short.specs.Changed.{AgreeBut}
use Rattle.mb_board.specs.Fits.{IsFit}
use Rattle.mb_board.specs.Spelling.{flow_of, spelled_in_parts, without_flow, Spell}

-- ---- a digit of a sum

-- the difference of two digits modulo 2^64
abbrev pub step : (old new : ℕ) → ℕ
step old new = (new + (2 ^ 64 - old)) % 2 ^ 64

-- how often 2^64 is in it
borrowed : (old new : ℕ) → old < 2 ^ 64 → new < 2 ^ 64 → (step old new + old ≡ new) ⊎ (step old new + old ≡ new + 2 ^ 64)
borrowed old new h k = grind arith

sum_wraps : (sum x : ℕ) → (sum + x % 2 ^ 64) % 2 ^ 64 ≡ (sum + x) % 2 ^ 64
sum_wraps sum x = omega arith

counted : (sum place s old : ℕ) → ((sum + place * s) % 2 ^ 64 + place * old) % 2 ^ 64 ≡ (sum + place * (s + old)) % 2 ^ 64
counted sum place s old = let e = mul-add place s old in omega (arith, e)

carried : (sum place new : ℕ) → (sum + place * (new + 2 ^ 64)) % 2 ^ 64 ≡ (sum + place * new) % 2 ^ 64
carried sum place new = let e = mul-add place new (2 ^ 64) in omega (arith, e)

pub digit : (sum place old new : ℕ) → old < 2 ^ 64 → new < 2 ^ 64
    → ((sum + place * step old new % 2 ^ 64) % 2 ^ 64 + place * old) % 2 ^ 64 ≡ (sum + place * new) % 2 ^ 64
digit sum place old new h k =
    ap (λ (x : ℕ). (x + place * old) % 2 ^ 64) (sum_wraps sum (place * step old new))
    ∙ counted sum place (step old new) old
    ∙ elim (borrowed old new h k) [
      | inl same ↦ ap (λ (x : ℕ). (sum + place * x) % 2 ^ 64) same
      | inr over ↦ ap (λ (x : ℕ). (sum + place * x) % 2 ^ 64) over ∙ carried sum place new
    ]

pub ruleset digits = (digit)

-- ---- the places of registers

abbrev pub table : List ℕ
table = 0x47A21DD9C491E21F ∷ 0xAFBAE83050A9DE01 ∷ 0x0DED414BE191DDDF ∷ 0x08B5129F59DB6A41 ∷ 0x52DC8CFCE1DDC99F ∷ 0x0AEE5720EE830681
    ∷ 0x005A44E007B1A55F ∷ 0x0002E97294E4B2C1 ∷ 26439622160671 ∷ 852891037441 ∷ 27512614111 ∷ 887503681 ∷ 28629151 ∷ 923521 ∷ 29791 ∷ 961 ∷ []

pub place_is : (n : ℕ) → n < 16 → get_or table n 0 ≡ 31 ^ (17 - n) % 2 ^ 64
place_is zero h = refl
place_is (suc zero) h = refl
place_is (suc (suc zero)) h = refl
place_is (suc (suc (suc zero))) h = refl
place_is (suc (suc (suc (suc zero)))) h = refl
place_is (suc (suc (suc (suc (suc zero))))) h = refl
place_is (suc (suc (suc (suc (suc (suc zero)))))) h = refl
place_is (suc (suc (suc (suc (suc (suc (suc zero))))))) h = refl
place_is (suc (suc (suc (suc (suc (suc (suc (suc zero)))))))) h = refl
place_is (suc (suc (suc (suc (suc (suc (suc (suc (suc zero))))))))) h = refl
place_is (suc (suc (suc (suc (suc (suc (suc (suc (suc (suc zero)))))))))) h = refl
place_is (suc (suc (suc (suc (suc (suc (suc (suc (suc (suc (suc zero))))))))))) h = refl
place_is (suc (suc (suc (suc (suc (suc (suc (suc (suc (suc (suc (suc zero)))))))))))) h = refl
place_is (suc (suc (suc (suc (suc (suc (suc (suc (suc (suc (suc (suc (suc zero))))))))))))) h = refl
place_is (suc (suc (suc (suc (suc (suc (suc (suc (suc (suc (suc (suc (suc (suc zero)))))))))))))) h = refl
place_is (suc (suc (suc (suc (suc (suc (suc (suc (suc (suc (suc (suc (suc (suc (suc zero))))))))))))))) h = refl
place_is (suc (suc (suc (suc (suc (suc (suc (suc (suc (suc (suc (suc (suc (suc (suc (suc n)))))))))))))))) h = absurd (omega arith)

pub ruleset places = (place_is)

-- ---- registers by their parts

spelled-append : (xs ys : List ℕ) → spelled (xs ++ ys) ≡ spelled xs * 31 ^ length ys + spelled ys
spelled-append [] ys = (let e : spelled ys ≡ 0 * 31 ^ length ys + spelled ys = omega (arith, zero-mul (31 ^ length ys)) in e)
spelled-append (x ∷ xs) ys =
    let n = length xs in
    let m = length ys in
    let power : 31 ^ length (xs ++ ys) ≡ 31 ^ n * 31 ^ m = ap (λ (k : ℕ). 31 ^ k) (length-append xs ys) ∙ pow-add 31 n m in
    ap (λ (p : ℕ). x * p + spelled (xs ++ ys)) power
    ∙ ap (λ (s : ℕ). x * (31 ^ n * 31 ^ m) + s) (spelled-append xs ys)
    ∙ ap (λ (s : ℕ). s + (spelled xs * 31 ^ m + spelled ys)) (sym (mul_assoc x (31 ^ n) (31 ^ m)))
    ∙ (let e : x * 31 ^ n * 31 ^ m + (spelled xs * 31 ^ m + spelled ys) ≡ x * 31 ^ n * 31 ^ m + spelled xs * 31 ^ m + spelled ys = omega arith in e)
    ∙ ap (λ (s : ℕ). s + spelled ys) (sym (add-mul (x * 31 ^ n) (spelled xs) (31 ^ m)))

by_parts : (p : Plain) → length p.a ≡ 8 → spelled (numbers_of p) ≡ spelled p.d * 31 ^ 10 + spelled p.a * 31 ^ 2 + flow_of p
by_parts p eight =
    let tail = p.pc ∷ p.ccr ∷ [] in
    let end = p.pc * 31 + (p.ccr * 1 + 0) in
    spelled-append (p.d ++ p.a) tail
    ∙ ap (λ (s : ℕ). s * 961 + end) (spelled-append p.d p.a)
    ∙ ap (λ (n : ℕ). (spelled p.d * 31 ^ n + spelled p.a) * 961 + end) eight
    ∙ (let e : (spelled p.d * 852891037441 + spelled p.a) * 961 + end ≡ spelled p.d * 31 ^ 10 + spelled p.a * 31 ^ 2 + flow_of p = omega arith in e)

pub in_parts : (p : Plain) (sum : ℕ) → Spell p sum → sum ≡ spelled_in_parts p.d p.a (flow_of p)
in_parts p sum h = h.remainder ∙ ap (λ (n : ℕ). n % 2 ^ 64) (by_parts p h.fit.eight)

of_parts : (p : Plain) (sum : ℕ) → HasNumbers p → IsFit p → sum ≡ spelled_in_parts p.d p.a (flow_of p) → Spell p sum
of_parts p sum numbers fit h = record {
  numbers = numbers;
  fit = fit;
  remainder = h ∙ ap (λ (n : ℕ). n % 2 ^ 64) (sym (by_parts p fit.eight));
}

-- PC and the condition codes behind the others
flow_behind : (x sum flow result : ℕ) → sum ≡ (x + 0) % 2 ^ 64 → result ≡ (sum + flow) % 2 ^ 64 → result ≡ (x + flow) % 2 ^ 64
flow_behind x sum flow result e f = omega (arith, e, f)

flow_taken : (x spelled flow result : ℕ) → flow < 2 ^ 64 → spelled ≡ (x + flow) % 2 ^ 64 → result ≡ (spelled + (2 ^ 64 - flow)) % 2 ^ 64
    → result ≡ (x + 0) % 2 ^ 64
flow_taken x spelled flow result less e f = omega (arith, less, e, f)

pub flow_counted : (p : Plain) (sum flow result : ℕ) → HasNumbers p → IsFit p → sum ≡ without_flow p → flow ≡ flow_of p
    → result ≡ (sum + flow) % 2 ^ 64 → Spell p result
flow_counted p sum flow result numbers fit e f is =
    let front = spelled p.d * 31 ^ 10 + spelled p.a * 31 ^ 2 in
    of_parts p result numbers fit (flow_behind front sum flow result e is ∙ ap (λ (y : ℕ). (front + y) % 2 ^ 64) f)

pub flow_uncounted : (p : Plain) (sum flow result : ℕ) → Spell p sum → flow < 2 ^ 64 → flow ≡ flow_of p
    → result ≡ (sum + (2 ^ 64 - flow)) % 2 ^ 64 → result ≡ without_flow p
flow_uncounted p sum flow result h less f is =
    let front = spelled p.d * 31 ^ 10 + spelled p.a * 31 ^ 2 in
    flow_taken front sum flow result less (in_parts p sum h ∙ ap (λ (y : ℕ). (front + y) % 2 ^ 64) (sym f)) is

-- ---- one number of eight

swapped : (x y s w : ℕ) → y * w + s + w * x ≡ x * w + s + w * y
swapped x y s w = let e = mul_comm x w in let f = mul_comm y w in omega (arith, e, f)

-- numbers of which one differs
one_spells : (xs ys : List ℕ) (n : ℕ) → length xs ≡ length ys → n < length xs → ((i : ℕ) → i ≢ n → get_or ys i 0 ≡ get_or xs i 0)
    → spelled ys + 31 ^ (length xs - 1 - n) * get_or xs n 0 ≡ spelled xs + 31 ^ (length xs - 1 - n) * get_or ys n 0
one_spells [] ys n e less same = absurd (omega arith)
one_spells (x ∷ xs) [] n e less same = absurd (let z : ⊥ = cc in z)
one_spells (x ∷ xs) (y ∷ ys) zero e less same =
    let lengths : length ys ≡ length xs = sym (ap pred e) in
    let tails : ys ≡ xs = same_number_lists ys xs lengths (λ k within. same (suc k) (omega arith)) in
    let exponent : suc (length xs) - 1 - 0 ≡ length xs = omega arith in
    ap (λ (l : List ℕ). y * 31 ^ length l + spelled l + 31 ^ (suc (length xs) - 1 - 0) * x) tails
    ∙ ap (λ (k : ℕ). y * 31 ^ length xs + spelled xs + 31 ^ k * x) exponent
    ∙ swapped x y (spelled xs) (31 ^ length xs)
    ∙ ap (λ (k : ℕ). x * 31 ^ length xs + spelled xs + 31 ^ k * y) (sym exponent)
one_spells (x ∷ xs) (y ∷ ys) (suc n) e less same =
    let lengths : length xs ≡ length ys = ap pred e in
    let heads : y ≡ x = same 0 (omega arith) in
    let rest = one_spells xs ys n lengths (omega arith) (λ i other. same (suc i) (omega arith)) in
    let exponent : suc (length xs) - 1 - suc n ≡ length xs - 1 - n = omega arith in
    let w = 31 ^ (length xs - 1 - n) in
    ap (λ (k : ℕ). y * 31 ^ length ys + spelled ys + 31 ^ k * get_or xs n 0) exponent
    ∙ ap (λ (v : ℕ). v * 31 ^ length ys + spelled ys + w * get_or xs n 0) heads
    ∙ ap (λ (m : ℕ). x * 31 ^ m + spelled ys + w * get_or xs n 0) (sym lengths)
    ∙ (let e : x * 31 ^ length xs + spelled ys + w * get_or xs n 0 ≡ x * 31 ^ length xs + spelled xs + w * get_or ys n 0 = omega (arith, rest) in e)
    ∙ ap (λ (k : ℕ). x * 31 ^ length xs + spelled xs + 31 ^ k * get_or ys n 0) (sym exponent)

by_agreement : (n : ℕ) (xs ys : List ℕ) → AgreeBut n xs ys → length xs ≡ 8
    → spelled ys + 31 ^ (7 - n) * get_or xs n 0 ≡ spelled xs + 31 ^ (7 - n) * get_or ys n 0
by_agreement n xs ys one eight =
    subst (λ (k : ℕ). spelled ys + 31 ^ (k - 1 - n) * get_or xs n 0 ≡ spelled xs + 31 ^ (k - 1 - n) * get_or ys n 0) eight
    (one_spells xs ys n (sym one.as_many) (let less = one.within in omega arith) one.others)

-- what a register counts, by its place among its eight
counts : (place w c k v : ℕ) → place ≡ c % 2 ^ 64 → c ≡ w * k → place * v % 2 ^ 64 ≡ w * v * k % 2 ^ 64
counts place w c k v e f =
    ap (λ (p : ℕ). p * v % 2 ^ 64) e ∙ mul-mod_first c v (2 ^ 64)
    ∙ ap (λ (x : ℕ). x % 2 ^ 64) (ap (λ (x : ℕ). x * v) f ∙ mul_assoc w k v ∙ ap (λ (x : ℕ). w * x) (mul_comm k v) ∙ sym (mul_assoc w v k))

data_moved : (front other a behind sum result po pn wo wn : ℕ) → other + wo ≡ front + wn → po % 2 ^ 64 ≡ wo * 31 ^ 10 % 2 ^ 64
    → pn % 2 ^ 64 ≡ wn * 31 ^ 10 % 2 ^ 64 → (result + po) % 2 ^ 64 ≡ (sum + pn) % 2 ^ 64 → result < 2 ^ 64
    → sum ≡ (front * 31 ^ 10 + a + behind) % 2 ^ 64 → result ≡ (other * 31 ^ 10 + a + behind) % 2 ^ 64
data_moved front other a behind sum result po pn wo wn e f g h less k = omega (arith, e, f, g, h, k, less)

address_moved : (d front other behind sum result po pn wo wn : ℕ) → other + wo ≡ front + wn → po % 2 ^ 64 ≡ wo * 31 ^ 2 % 2 ^ 64
    → pn % 2 ^ 64 ≡ wn * 31 ^ 2 % 2 ^ 64 → (result + po) % 2 ^ 64 ≡ (sum + pn) % 2 ^ 64 → result < 2 ^ 64
    → sum ≡ (d + front * 31 ^ 2 + behind) % 2 ^ 64 → result ≡ (d + other * 31 ^ 2 + behind) % 2 ^ 64
address_moved d front other behind sum result po pn wo wn e f g h less k = omega (arith, e, f, g, h, k, less)

pub data_spelled : (n : ℕ) (xs ys : List ℕ) (sum place result : ℕ) → AgreeBut n xs ys → length xs ≡ 8 → place ≡ 31 ^ (17 - n) % 2 ^ 64
    → (result + place * get_or xs n 0) % 2 ^ 64 ≡ (sum + place * get_or ys n 0) % 2 ^ 64 → result < 2 ^ 64
    → (a : List ℕ) (behind : ℕ) → sum ≡ spelled_in_parts xs a behind → result ≡ spelled_in_parts ys a behind
data_spelled n xs ys sum place result one eight is e less a behind h =
    let w = 31 ^ (7 - n) in
    let parts : 31 ^ (17 - n) ≡ w * 31 ^ 10 =
    ap (λ (k : ℕ). 31 ^ k) (let within = one.within in let f : 17 - n ≡ (7 - n) + 10 = omega arith in f) ∙ pow-add 31 (7 - n) 10 in
    data_moved (spelled xs) (spelled ys) (spelled a * 31 ^ 2) behind sum result _ _ _ _ (by_agreement n xs ys one eight)
    (counts place w (31 ^ (17 - n)) (31 ^ 10) (get_or xs n 0) is parts) (counts place w (31 ^ (17 - n)) (31 ^ 10) (get_or ys n 0) is parts) e less h

pub address_spelled : (n : ℕ) (xs ys : List ℕ) (sum place result : ℕ) → AgreeBut n xs ys → length xs ≡ 8 → place ≡ 31 ^ (17 - (8 + n)) % 2 ^ 64
    → (result + place * get_or xs n 0) % 2 ^ 64 ≡ (sum + place * get_or ys n 0) % 2 ^ 64 → result < 2 ^ 64
    → (d : List ℕ) (behind : ℕ) → sum ≡ spelled_in_parts d xs behind → result ≡ spelled_in_parts d ys behind
address_spelled n xs ys sum place result one eight is e less d behind h =
    let w = 31 ^ (7 - n) in
    let parts : 31 ^ (17 - (8 + n)) ≡ w * 31 ^ 2 =
    ap (λ (k : ℕ). 31 ^ k) (let within = one.within in let f : 17 - (8 + n) ≡ (7 - n) + 2 = omega arith in f) ∙ pow-add 31 (7 - n) 2 in
    address_moved (spelled d * 31 ^ 10) (spelled xs) (spelled ys) behind sum result _ _ _ _ (by_agreement n xs ys one eight)
    (counts place w (31 ^ (17 - (8 + n))) (31 ^ 2) (get_or xs n 0) is parts) (counts place w (31 ^ (17 - (8 + n))) (31 ^ 2) (get_or ys n 0) is parts) e less h
