-- Digits and numbers spell.
use Rattle.std.proofs.Common.{◌≡◌, ℕ, ltb, zero, suc, ◌+◌, ◌-◌, ◌*◌, ◌/◌, ◌%◌, ◌^◌, ◌≤◌, ◌<◌, Bool, true, false, List, [], ◌∷◌, refl, sym, ap, subst, ◌∙◌, arith, inl, inr}
use Rattle.std.specs.Prelude.{bit_and}
use Rattle.std.proofs.lemmas.Bool.{cases_lt, and_parts, and_from, or_cases, or_left, or_right, leb-true, le-leb, lt-ltb, le-ltb, eqb-true, eq-eqb}
use Rattle.std.proofs.lemmas.Nat.{and_shr, and_block, and_le_l, le-div}
use Rattle.std.proofs.Math.Nat.{pow-suc, div-div-eq-div-mul, one-le-pow, div-mul-le_self}
use Rattle.mb_spelling.specs.Spelling.{Read, one, both}
use Rattle.mb_spelling.specs.Laws.{Spells}
use Rattle.mb_spelling.specs.Presents.{Presents}
use Rattle.mb_spelling.specs.Hex.{read_number}
use Rattle.mb_spelling.specs.Hex.{hex_digit, is_hex, hex_value, is_digit_of, LawfulDigit, write_digit, digit, hex_of, May, IsMay, LawfulNumber, number, any_number, not_zero, masked, within, among, any_below, passing}
use Rattle.mb_spelling.proofs.Combined.{one_spells, over_spells, both_spells}

-- ---- digits

value_of_digit : (d : ℕ) → d < 16 → hex_value (hex_digit d) ≡ d
value_of_digit d h =
    elim (cases_lt d 10) [
      | inl low ↦ rw (lt-ltb d 10 low, lt-ltb (48 + d) 58 (omega arith)) (omega arith)
      | inr high ↦ rw (le-ltb d 10 high, le-ltb (65 + (d - 10)) 58 (omega arith)) (omega arith)
    ]

digit_is_hex : (d : ℕ) → d < 16 → is_hex (hex_digit d) ≡ true
digit_is_hex d h =
    elim (cases_lt d 10) [
      | inl low ↦ rw (lt-ltb d 10 low, le-leb 48 (48 + d) (omega arith), le-leb (48 + d) 57 (omega arith)) refl
      | inr high ↦
          rw (le-ltb d 10 high) (or_right _ _ (and_from _ _ (le-leb 65 (65 + (d - 10)) (omega arith)) (le-leb (65 + (d - 10)) 70 (omega arith))))
    ]

digit_of_value : (c : ℕ) → is_hex c ≡ true → (hex_value c < 16) × (hex_digit (hex_value c) ≡ c)
digit_of_value c h =
    elim (or_cases _ _ h) [
      | inl low ↦
          let parts = and_parts _ _ low in
          let from : 48 ≤ c = leb-true 48 c parts.0 in
          let to : c ≤ 57 = leb-true c 57 parts.1 in
          rw (lt-ltb c 58 (omega arith)) (omega arith, rw (lt-ltb (c - 48) 10 (omega arith)) (omega arith))
      | inr high ↦
          let parts = and_parts _ _ high in
          let from : 65 ≤ c = leb-true 65 c parts.0 in
          let to : c ≤ 70 = leb-true c 70 parts.1 in
          rw (le-ltb c 58 (omega arith)) (omega arith, rw (le-ltb (c - 55) 10 (omega arith)) (omega arith))
    ]

digit_passes : (test : ℕ → Bool) (d : ℕ) → d < 16 → test d ≡ true → is_digit_of test (hex_digit d) ≡ true
digit_passes test d h passes = and_from _ _ (digit_is_hex d h) (ap test (value_of_digit d h) ∙ passes)

digit_presents : (test : ℕ → Bool) → Presents (one (is_digit_of test)) hex_value (LawfulDigit test) write_digit
digit_presents test = record {
  to = λ c l. ((digit_of_value c (and_parts _ _ l).0).0, (and_parts _ _ l).1);
  same = λ c l. ap (λ (x : ℕ). x ∷ []) (digit_of_value c (and_parts _ _ l).0).1;
  from = λ d l. hex_digit d;
  lawful = λ d l. digit_passes test d l.0 l.1;
  back = λ d l. value_of_digit d l.0;
}

pub digit_spells : (test : ℕ → Bool) (d : ℕ) → d < 16 → test d ≡ true → Spells (digit test)
digit_spells test d h passes =
    over_spells (one (is_digit_of test)) hex_value (LawfulDigit test) write_digit
    (one_spells (is_digit_of test) (hex_digit d) (digit_passes test d h passes)) (digit_presents test)

-- ---- numbers

shorter : (n k : ℕ) → n / 16 ^ suc k ≡ n / 16 ^ k / 16
shorter n k = ap (λ (p : ℕ). n / p) (pow-suc 16 k) ∙ sym (div-div-eq-div-mul n (16 ^ k) 16)

pub above : (may : May) → IsMay may → (k n : ℕ) → may 0 n ≡ true → may k (n / 16 ^ k) ≡ true
above may h zero n m = rw (div-one n) m
  where
    div-one : (n : ℕ) → n / 1 ≡ n
    div-one n = omega arith
above may h (suc k) n m =
    let before = above may h k n m in
    let split : n / 16 ^ k ≡ 16 * (n / 16 ^ suc k) + n / 16 ^ k % 16 = rw (shorter n k) (omega arith) in
    h.up k (n / 16 ^ suc k) (n / 16 ^ k % 16) (omega arith) (subst (λ (x : ℕ). may k x ≡ true) split before)

number_presents : (may : May) → IsMay may → (k v : ℕ)
    → Presents (both (digit (λ d. may k (16 * v + d))) (λ d. number may k (16 * v + d))) (λ x. x.1) (LawfulNumber may (suc k) v) (hex_of (suc k))
unfolding read_number
number_presents may h k v = record {
  to = λ x l.
      let e : x.1 / 16 ^ k ≡ 16 * v + x.0 = l.1.0 in
      let small : x.0 < 16 = l.0.0 in
      (rw (shorter (x.1) k, e) (omega arith), l.1.1);
  same = λ x l.
      let e : x.1 / 16 ^ k ≡ 16 * v + x.0 = l.1.0 in
      let small : x.0 < 16 = l.0.0 in
      let last : x.1 / 16 ^ k % 16 ≡ x.0 = rw e (omega arith) in
      ap (λ (d : ℕ). hex_digit d ∷ hex_of k (x.1)) last;
  from = λ n l. (n / 16 ^ k % 16, n);
  lawful = λ n l.
      let first : n / 16 ^ suc k ≡ v = l.0 in
      let again : n / 16 ^ k / 16 ≡ v = sym (shorter n k) ∙ first in
      let split : n / 16 ^ k ≡ 16 * v + n / 16 ^ k % 16 = omega arith in
      ((omega arith, subst (λ (x : ℕ). may k x ≡ true) split (above may h k n l.1)), (split, l.1));
  back = λ n l. refl;
}

pub number_spells : (may : May) → IsMay may → (k v : ℕ) → may k v ≡ true → Spells (number may k v)
unfolding read_number
number_spells may h zero v m = record {
  some = v;
  lawful = (omega arith, m);
  read_back = λ n rest l. let e : n / 1 ≡ v = l.0 in let same : v ≡ n = omega arith in ap (λ (x : ℕ). Read x rest) same;
  says = λ text. ((omega arith, m), refl);
}
number_spells may h (suc k) v m =
    let first = digit_spells (λ d. may k (16 * v + d)) (h.down k v m) (h.below k v m) (h.still k v m) in
    over_spells (both (digit (λ d. may k (16 * v + d))) (λ d. number may k (16 * v + d))) (λ x. x.1) (LawfulNumber may (suc k) v) (hex_of (suc k))
    (both_spells (digit (λ d. may k (16 * v + d))) (λ d. number may k (16 * v + d)) first (λ d l. number_spells may h k (16 * v + d) l.1))
    (number_presents may h k v)

-- ---- which numbers

pub any_is_may : IsMay any_number
any_is_may = record { up = λ k v d small m. refl; down = λ k v m. 0; below = λ k v m. omega arith; still = λ k v m. refl }

pub not_zero_is_may : IsMay not_zero
not_zero_is_may = record {
  up = λ k v d small m. or_left (ltb 0 (suc k)) (ltb 0 v) (lt-ltb 0 (suc k) (omega arith));
  down = λ k v m. 1;
  below = λ k v m. omega arith;
  still = λ k v m. or_right (ltb 0 k) (ltb 0 (16 * v + 1)) (lt-ltb 0 (16 * v + 1) (omega arith));
}

and_zero : (x : ℕ) → bit_and 0 x ≡ 0
and_zero x = omega (arith, and_le_l 0 x)

masked_up : (mask k v d : ℕ) → d < 16 → masked mask k (16 * v + d) ≡ true → masked mask (suc k) v ≡ true
masked_up mask k v d small m =
    let e : bit_and (16 * v + d) (mask / 16 ^ k) ≡ 16 * v + d = eqb-true _ _ m in
    let high : (16 * v + d) / 16 ≡ v = omega arith in
    let down : bit_and ((16 * v + d) / 16) (mask / 16 ^ k / 16) ≡ (16 * v + d) / 16 = sym (and_shr (16 * v + d) (mask / 16 ^ k) 4) ∙ ap (λ (x : ℕ). x / 16) e in
    let done : bit_and v (mask / 16 ^ suc k) ≡ v = rw (shorter mask k) (rw high at down) in
    eq-eqb _ _ done

masked_still : (mask k v : ℕ) → masked mask (suc k) v ≡ true → masked mask k (16 * v + 0) ≡ true
masked_still mask k v m =
    let e : bit_and v (mask / 16 ^ suc k) ≡ v = eqb-true _ _ m in
    let high : bit_and v (mask / 16 ^ k / 16) ≡ v = rw (shorter mask k) at e in
    let block = and_block 4 v (mask / 16 ^ k / 16) 0 (mask / 16 ^ k % 16) (omega arith) (omega arith) in
    let split : mask / 16 ^ k / 16 * 16 + mask / 16 ^ k % 16 ≡ mask / 16 ^ k = omega arith in
    let left : v * 16 + 0 ≡ 16 * v + 0 = omega arith in
    let done : bit_and (16 * v + 0) (mask / 16 ^ k) ≡ 16 * v + 0 =
    rw (← left) (rw split at block ∙ rw (high, and_zero (mask / 16 ^ k % 16)) refl) in
    eq-eqb _ _ done

pub masked_is_may : (mask : ℕ) → IsMay (masked mask)
masked_is_may mask = record {
  up = masked_up mask;
  down = λ k v m. 0;
  below = λ k v m. omega arith;
  still = masked_still mask;
}

pub masked_starts : (mask k : ℕ) → masked mask k 0 ≡ true
masked_starts mask k = eq-eqb _ _ (and_zero (mask / 16 ^ k))

within_up : (lo hi k v d : ℕ) → d < 16 → within lo hi k (16 * v + d) ≡ true → within lo hi (suc k) v ≡ true
within_up lo hi k v d small m =
    let parts = and_parts _ _ m in
    let low : lo / 16 ^ k ≤ 16 * v + d = leb-true (lo / 16 ^ k) (16 * v + d) parts.0 in
    let high : 16 * v + d ≤ hi / 16 ^ k = leb-true (16 * v + d) (hi / 16 ^ k) parts.1 in
    rw (shorter lo k, shorter hi k) (and_from _ _ (le-leb (lo / 16 ^ k / 16) v (omega arith)) (le-leb v (hi / 16 ^ k / 16) (omega arith)))

-- the first digit that may come is the one that lo has there, or 0 where all are above lo
abbrev within_digit : (lo k v : ℕ) → ℕ
within_digit lo k v = lo / 16 ^ k - 16 * v

quotients : (lo hi k : ℕ) → lo ≤ hi → lo / 16 ^ k ≤ hi / 16 ^ k
quotients lo hi k order = le-div (lo / 16 ^ k) hi (16 ^ k) (one-le-pow k 16 (omega arith))
    (let h : lo / 16 ^ k * 16 ^ k ≤ lo = div-mul-le_self lo (16 ^ k) in omega arith)

within_still : (lo hi k v : ℕ) → lo ≤ hi → within lo hi (suc k) v ≡ true
    → (within_digit lo k v < 16) × (within lo hi k (16 * v + within_digit lo k v) ≡ true)
within_still lo hi k v order m =
    let parts = and_parts _ _ m in
    let low : lo / 16 ^ suc k ≤ v = leb-true (lo / 16 ^ suc k) v parts.0 in
    let high : v ≤ hi / 16 ^ suc k = leb-true v (hi / 16 ^ suc k) parts.1 in
    let a = shorter lo k in
    let b = shorter hi k in
    let q = quotients lo hi k order in
    let d = within_digit lo k v in (
      omega (arith, a),
      and_from _ _ (le-leb (lo / 16 ^ k) (16 * v + d) (omega arith)) (le-leb (16 * v + d) (hi / 16 ^ k) (omega (arith, b, q))),
    )

pub within_is_may : (lo hi : ℕ) → lo ≤ hi → IsMay (within lo hi)
within_is_may lo hi order = record {
  up = within_up lo hi;
  down = λ k v m. within_digit lo k v;
  below = λ k v m. (within_still lo hi k v order m).0;
  still = λ k v m. (within_still lo hi k v order m).1;
}

-- ---- numbers by a test

record Below (test : ℕ → Bool) (n : ℕ) : Type 0 where
  number : ℕ
  below : number < n
  passes : test number ≡ true

below_found : (test : ℕ → Bool) (n : ℕ) → any_below test n ≡ true → Below test n
unfolding any_below
below_found test zero h = absurd (let contrary : false ≡ true = h in cc)
below_found test (suc n) h =
    elim (or_cases _ _ h) [
      | inl here ↦ record { number = n; below = omega arith; passes = here }
      | inr later ↦ let rest = below_found test n later in record { number = rest.number; below = omega (arith, rest.below); passes = rest.passes }
    ]

below_from : (test : ℕ → Bool) (n d : ℕ) → d < n → test d ≡ true → any_below test n ≡ true
unfolding any_below
below_from test zero d small h = absurd (omega arith)
below_from test (suc n) d small h =
    elim (cases_lt d n) [
      | inl less ↦ or_right _ _ (below_from test n d less h)
      | inr last ↦ or_left _ _ (let same : d ≡ n = omega arith in ap test (sym same) ∙ h)
    ]

pub passing_is_may : (test : ℕ → Bool) → IsMay (passing test)
passing_is_may test = record {
  up = λ k v d small m. below_from (λ d. passing test k (16 * v + d)) 16 d small m;
  down = λ k v m. (below_found (λ d. passing test k (16 * v + d)) 16 m).number;
  below = λ k v m. (below_found (λ d. passing test k (16 * v + d)) 16 m).below;
  still = λ k v m. (below_found (λ d. passing test k (16 * v + d)) 16 m).passes;
}

-- ---- numbers of a list

among_up : (ns : List ℕ) (k v d : ℕ) → d < 16 → among ns k (16 * v + d) ≡ true → among ns (suc k) v ≡ true
among_up [] k v d small m = m
among_up (n ∷ ns) k v d small m =
    elim (or_cases _ _ m) [
      | inl here ↦
          let e : n / 16 ^ k ≡ 16 * v + d = eqb-true _ _ here in
          or_left _ _ (eq-eqb _ _ (let high : n / 16 ^ suc k ≡ v = rw (shorter n k, e) (omega arith) in high))
      | inr later ↦ or_right _ _ (among_up ns k v d small later)
    ]

record Among (ns : List ℕ) (k v : ℕ) : Type 0 where
  digit : ℕ
  below : digit < 16
  still : among ns k (16 * v + digit) ≡ true

among_down : (ns : List ℕ) (k v : ℕ) → among ns (suc k) v ≡ true → Among ns k v
among_down [] k v m = absurd (let contrary : false ≡ true = m in cc)
among_down (n ∷ ns) k v m =
    elim (or_cases _ _ m) [
      | inl here ↦
          let e : n / 16 ^ suc k ≡ v = eqb-true _ _ here in
          let again : n / 16 ^ k / 16 ≡ v = sym (shorter n k) ∙ e in
          record {
            digit = n / 16 ^ k % 16;
            below = omega arith;
            still = or_left _ _ (eq-eqb _ _ (let split : n / 16 ^ k ≡ 16 * v + n / 16 ^ k % 16 = omega arith in split));
          }
      | inr later ↦
          let rest = among_down ns k v later in
          record { digit = rest.digit; below = rest.below; still = or_right _ _ rest.still }
    ]

pub among_is_may : (ns : List ℕ) → IsMay (among ns)
among_is_may ns = record {
  up = among_up ns;
  down = λ k v m. (among_down ns k v m).digit;
  below = λ k v m. (among_down ns k v m).below;
  still = λ k v m. (among_down ns k v m).still;
}
