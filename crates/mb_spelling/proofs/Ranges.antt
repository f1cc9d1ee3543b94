-- The digits with which the numbers of a range begin.
use Rattle.std.proofs.Common.{◌≡◌, ℕ, zero, suc, ◌+◌, ◌-◌, ◌*◌, ◌/◌, ◌%◌, ◌^◌, ◌≤◌, ◌<◌, max, true, false, refl, sym, ap, ◌∙◌, arith, inl, inr}
use Rattle.std.proofs.lemmas.Bool.{cases_lt, cases_eq, and_parts, and_from, or_cases, or_left, or_right, leb-true, le-leb, lt-ltb, ltb-true, eqb-true, eq-eqb, ne_eqb}
use Rattle.std.proofs.lemmas.Nat.{div-add-mod', mod-mul-add}
use Rattle.std.proofs.Math.Nat.{pow-suc, lt-div-mul-add, div-mul-le_self, mul-le-mul_right, pow-le-pow_right}
use Rattle.mb_spelling.specs.Laws.{Spells}
use Rattle.mb_spelling.specs.Decimals.{Range, is_in, next_multiple, meets, goes_on, begins, is_decimal, IsCut, IsGoing, ranged}
use Rattle.mb_spelling.proofs.Decimals.{decimal_spells}

-- ---- multiples

pub next_from : (unit n : ℕ) → 0 < unit → n ≤ next_multiple unit n
next_from unit n some = let h = lt-div-mul-add {a = n + (unit - 1)} some in omega arith

next_unit : (unit n : ℕ) → 0 < unit → next_multiple unit n % unit ≡ 0
next_unit unit n some =
    let q = (n + (unit - 1)) / unit in
    ap (λ (x : ℕ). x % unit) (let e : q * unit ≡ q * unit + 0 = omega arith in e) ∙ mod-mul-add q unit 0 some

next_least : (unit n x : ℕ) → 0 < unit → n ≤ x → x % unit ≡ 0 → next_multiple unit n ≤ x
next_least unit n x some from even =
    let y = x / unit in
    let q = (n + (unit - 1)) / unit in
    let whole : y * unit + x % unit ≡ x = div-add-mod' x unit in
    let low : q * unit ≤ n + (unit - 1) = div-mul-le_self (n + (unit - 1)) unit in
    elim (cases_lt y q) [
      | inl above ↦ absurd (let far : (y + 1) * unit ≤ q * unit = mul-le-mul_right unit (let h : y + 1 ≤ q = omega arith in h) in omega arith)
      | inr within ↦ let near : q * unit ≤ y * unit = mul-le-mul_right unit within in omega arith
    ]

-- ---- numbers of a range between two

pub in_parts : (r : Range) (x : ℕ) → is_in r x ≡ true → (r.least ≤ x) × (x ≤ r.most) × (x % r.unit ≡ 0)
in_parts r x h =
    let parts = and_parts _ _ h in
    let ends = and_parts _ _ parts.0 in
    (leb-true r.least x ends.0, leb-true x r.most ends.1, eqb-true (x % r.unit) 0 parts.1)

in_from : (r : Range) (x : ℕ) → r.least ≤ x → x ≤ r.most → x % r.unit ≡ 0 → is_in r x ≡ true
in_from r x a b c = and_from _ _ (and_from _ _ (le-leb r.least x a) (le-leb x r.most b)) (eq-eqb (x % r.unit) 0 c)

record Lies (r : Range) (n size : ℕ) : Type 0 where
  x : ℕ
  in_range : is_in r x ≡ true
  from : n ≤ x
  below : x < n + size

meets_found : (r : Range) → 0 < r.unit → (n size : ℕ) → meets r n size ≡ true → Lies r n size
meets_found r some n size h =
    let parts = and_parts _ _ h in
    let m = max n r.least in
    let x = next_multiple r.unit m in
    let from : m ≤ x = next_from r.unit m some in
    record {
      x = x;
      in_range = in_from r x (omega arith) (leb-true x r.most parts.0) (next_unit r.unit m some);
      from = omega arith;
      below = ltb-true x (n + size) parts.1;
    }

meets_from : (r : Range) → 0 < r.unit → (n size x : ℕ) → is_in r x ≡ true → n ≤ x → x < n + size → meets r n size ≡ true
meets_from r some n size x h from below =
    let parts = in_parts r x h in
    let first : next_multiple r.unit (max n r.least) ≤ x = next_least r.unit (max n r.least) x some (omega (arith, parts.0)) parts.2 in
    and_from _ _ (le-leb (next_multiple r.unit (max n r.least)) r.most (omega (arith, parts.1)))
    (lt-ltb (next_multiple r.unit (max n r.least)) (n + size) (omega arith))

-- ---- digits to come

record Comes (r : Range) (size v : ℕ) : Type 0 where
  x : ℕ
  k : ℕ
  in_range : is_in r x ≡ true
  cut : x / (size * 10 ^ k) ≡ v

quotient_of : (x v size : ℕ) → 0 < size → v * size ≤ x → x < v * size + size → x / size ≡ v
quotient_of x v size some from below =
    let q = x / size in
    let low : q * size ≤ x = div-mul-le_self x size in
    let high : x < q * size + size = lt-div-mul-add some in
    elim (cases_lt v q) [
      | inl above ↦ absurd (let far : (v + 1) * size ≤ q * size = mul-le-mul_right size (let h : v + 1 ≤ q = omega arith in h) in omega arith)
      | inr under ↦
          elim (cases_lt q v) [
            | inl less ↦ absurd (let far : (q + 1) * size ≤ v * size = mul-le-mul_right size (let h : q + 1 ≤ v = omega arith in h) in omega arith)
            | inr same ↦ omega arith
          ]
    ]

here_comes : (r : Range) (n size v : ℕ) → 0 < size → n ≡ v * size → Lies r n size → Comes r size v
here_comes r n size v some e h = record {
  x = h.x;
  k = 0;
  in_range = h.in_range;
  cut = let one : size * 10 ^ 0 ≡ size = omega arith in rw one (quotient_of h.x v size some (omega (arith, h.from)) (omega (arith, h.below)));
}

comes_later : (r : Range) (size v : ℕ) → Comes r (10 * size) v → Comes r size v
comes_later r size v h = record {
  x = h.x;
  k = suc h.k;
  in_range = h.in_range;
  cut = ap (λ (p : ℕ). h.x / p) (let e = pow-suc 10 h.k in let same : size * 10 ^ suc h.k ≡ 10 * size * 10 ^ h.k = rw e (omega arith) in same) ∙ h.cut;
}

goes_on_found : (r : Range) → 0 < r.unit → (more n size v : ℕ) → 0 < size → n ≡ v * size → goes_on r more n size ≡ true → Comes r size v
goes_on_found r unit zero n size v some e h = here_comes r n size v some e (meets_found r unit n size h)
goes_on_found r unit (suc more) n size v some e h =
    elim (or_cases _ _ h) [
      | inl here ↦ here_comes r n size v some e (meets_found r unit n size here)
      | inr later ↦ comes_later r size v (goes_on_found r unit more (10 * n) (10 * size) v (omega arith) (omega arith) later)
    ]

here_meets : (r : Range) → 0 < r.unit → (n size v x : ℕ) → 0 < size → n ≡ v * size → is_in r x ≡ true → x / (size * 10 ^ 0) ≡ v → meets r n size ≡ true
here_meets r unit n size v x some e h cut =
    let one : size * 10 ^ 0 ≡ size = omega arith in
    let q : x / size ≡ v = rw one at cut in
    let low : x / size * size ≤ x = div-mul-le_self x size in
    let high : x < x / size * size + size = lt-div-mul-add some in
    let same : x / size * size ≡ n = rw q (sym e) in
    meets_from r unit n size x h (omega arith) (omega arith)

goes_on_from : (r : Range) → 0 < r.unit → (more n size v k x : ℕ) → 0 < size → n ≡ v * size → k ≤ more → is_in r x ≡ true
    → x / (size * 10 ^ k) ≡ v → goes_on r more n size ≡ true
goes_on_from r unit zero n size v zero x some e few h cut = here_meets r unit n size v x some e h cut
goes_on_from r unit zero n size v (suc k) x some e few h cut = absurd (omega arith)
goes_on_from r unit (suc more) n size v zero x some e few h cut = or_left _ _ (here_meets r unit n size v x some e h cut)
goes_on_from r unit (suc more) n size v (suc k) x some e few h cut =
    let p = pow-suc 10 k in
    let same : 10 * size * 10 ^ k ≡ size * 10 ^ suc k = rw p (omega arith) in
    or_right _ _ (goes_on_from r unit more (10 * n) (10 * size) v k x (omega arith) (omega arith) (omega arith) h (ap (λ (q : ℕ). x / q) same ∙ cut))

-- a number of 64 bits has at most twenty digits
few_digits : (n k : ℕ) → n < 2 ^ 64 → 0 < n / 10 ^ k → k ≤ 20
few_digits n k fits some =
    elim (cases_lt 20 k) [
      | inr within ↦ within
      | inl many ↦
          absurd (
          let large : 10 ^ 21 ≤ 10 ^ k = pow-le-pow_right (omega arith) many in
          let low : n / 10 ^ k * 10 ^ k ≤ n = div-mul-le_self n (10 ^ k) in
          let first : 1 * 10 ^ k ≤ n / 10 ^ k * 10 ^ k = mul-le-mul_right (10 ^ k) some in
          let huge : 2 ^ 64 ≤ 10 ^ 21 = omega arith in
          omega arith
          )
    ]

begins_up : (r : Range) → 0 < r.unit → r.most < 2 ^ 64 → (n k : ℕ) → is_in r n ≡ true → IsCut k (n / 10 ^ k) → begins r (n / 10 ^ k) ≡ true
unfolding begins
begins_up r unit fits n k h cut =
    let size : n < 2 ^ 64 = omega (arith, (in_parts r n h).1) in
    let v = n / 10 ^ k in
    elim (cases_eq v 0) [
      | inl none ↦ rw (eq-eqb v 0 none) (at_zero cut none)
      | inr some ↦
          rw (ne_eqb v 0 some)
          (goes_on_from r unit 20 v 1 v k n (omega arith) (omega arith) (few_digits n k size (omega arith)) h
          (ap (λ (p : ℕ). n / p) (let e : 1 * 10 ^ k ≡ 10 ^ k = omega arith in e)))
    ]
  where
    at_zero : IsCut k (n / 10 ^ k) → n / 10 ^ k ≡ 0 → is_in r 0 ≡ true
    at_zero (inl some) none = absurd (omega arith)
    at_zero (inr e) none =
        let same : n ≡ 0 = (let whole : n / 10 ^ 0 ≡ 0 = ap (λ (j : ℕ). n / 10 ^ j) (sym e) ∙ none in omega arith) in
        ap (is_in r) (sym same) ∙ h

pub record Found (r : Range) (v : ℕ) : Type 0 where
  pub x : ℕ
  pub k : ℕ
  pub in_range : is_in r x ≡ true
  pub cut : x / 10 ^ k ≡ v
  pub fair : IsCut k v

pub begins_found : (r : Range) → 0 < r.unit → (v : ℕ) → begins r v ≡ true → Found r v
unfolding begins
begins_found r unit v h =
    elim (cases_eq v 0) [
      | inl none ↦
          let there : is_in r 0 ≡ true = rw (eq-eqb v 0 none) at h in
          record { x = 0; k = 0; in_range = there; cut = sym none; fair = inr refl }
      | inr some ↦
          let on : goes_on r 20 v 1 ≡ true = rw (ne_eqb v 0 some) at h in
          let found = goes_on_found r unit 20 v 1 v (omega arith) (omega arith) on in
          record {
            x = found.x;
            k = found.k;
            in_range = found.in_range;
            cut = ap (λ (p : ℕ). found.x / p) (let e : 10 ^ found.k ≡ 1 * 10 ^ found.k = omega arith in e) ∙ found.cut;
            fair = inl (omega arith);
          }
    ]

range_goes : (r : Range) → 0 < r.unit → r.most < 2 ^ 64 → IsGoing (is_in r) (begins r)
range_goes r unit fits = record {
  short = λ n h. omega (arith, (in_parts r n h).1);
  up = begins_up r unit fits;
  number = λ v h. (begins_found r unit v h).x;
  more = λ v h. (begins_found r unit v h).k;
  ends_there = λ v h. (begins_found r unit v h).in_range;
  cut = λ v h. (begins_found r unit v h).cut;
  fair = λ v h. (begins_found r unit v h).fair;
}

pub ranged_spells : (r : Range) (end some : ℕ) → 0 < r.unit → r.most < 2 ^ 64 → is_decimal end ≡ false → is_in r some ≡ true → Spells (ranged r end)
ranged_spells r end some unit fits no_digit there = decimal_spells (is_in r) (begins r) end (range_goes r unit fits) no_digit some there
