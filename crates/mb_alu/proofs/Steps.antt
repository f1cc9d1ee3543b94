-- What so many shifts by one bit come to.
use Rattle.std.proofs.Common.{ℕ, zero, suc, ◌≡◌, ◌+◌, ◌-◌, ◌*◌, ◌/◌, ◌^◌, ◌<◌, ◌≤◌, arith, add-mul, ap, ◌∙◌, sym, refl, Bool, true, false, not, ◌||◌, nat_le, nat_lt, cond}
use Rattle.std.proofs.Math.Nat.{two-pow-succ, mul-pos}
use Rattle.std.proofs.lemmas.Nat.{shr-shr, shr_le, pow_pos}
use Rattle.std.proofs.lemmas.Bool.Decides.{nat_tests}
use Rattle.std.specs.Bool.{beq}
use Rattle.mb_instr.specs.declared.size.Size.{Size}
use Rattle.mb_instr.specs.declared.size.Size.TheVariants.{Byte, Word, Long}
use Rattle.mb_instr.specs.Sizes.{values_of, low_of}
use Rattle.mb_instr.specs.declared.kinds.ShiftKind.{ShiftKind}
use Rattle.mb_instr.specs.declared.kinds.ShiftKind.TheVariants.{Arithmetic, Logical, RotateExtended, Rotate}
use Rattle.mb_alu.specs.Signs.{is_negative}
use Rattle.mb_alu.specs.declared.shifts.Shifting.{Shifting}
use Rattle.mb_alu.specs.AtOnce.{halved, has_room, rotates}
use Rattle.mb_alu.specs.Shifts.{shifted_by_one, by_one, leaving, entering, extend_after, is_arithmetic, repeated}

-- the bits stay below the number of values
pub by_one-below : (left : Bool) (size : Size) (enters : Bool) (value : ℕ) → value < values_of size → by_one left size enters value < values_of size
by_one-below true Byte true value h = omega arith
by_one-below true Byte false value h = omega arith
by_one-below true Word true value h = omega arith
by_one-below true Word false value h = omega arith
by_one-below true Long true value h = omega arith
by_one-below true Long false value h = omega arith
by_one-below false Byte true value h = omega arith
by_one-below false Byte false value h = omega arith
by_one-below false Word true value h = omega arith
by_one-below false Word false value h = omega arith
by_one-below false Long true value h = omega arith
by_one-below false Long false value h = omega arith

pub repeated-below : (kind : ShiftKind) (left : Bool) (size : Size) (s : Shifting) → s.value < values_of size →
    (n : ℕ) → (repeated n (shifted_by_one kind left size) s).value < values_of size
unfolding repeated
repeated-below kind left size s h zero = h
repeated-below kind left size s h (suc n) =
    let before = repeated n (shifted_by_one kind left size) s in
    by_one-below left size (entering kind left size before.x before.value) before.value (repeated-below kind left size s h n)

-- to the left with 0 entering, the bits are those of the product with a power of two
left_next : (size : Size) (v n w : ℕ) → w ≡ low_of size (v * 2 ^ n) → by_one true size false w ≡ low_of size (v * 2 ^ suc n)
left_next size v n w h =
    let doubled : v * 2 ^ suc n ≡ 2 * (v * 2 ^ n) = rw two-pow-succ (omega arith) in
    next size w (v * 2 ^ n) (v * 2 ^ suc n) doubled h
  where
    next : (size : Size) (w p q : ℕ) → q ≡ 2 * p → w ≡ low_of size p → by_one true size false w ≡ low_of size q
    next Byte w p q e h = omega arith
    next Word w p q e h = omega arith
    next Long w p q e h = omega arith

pub left_values : (size : Size) (s : Shifting) → s.value < values_of size →
    (n : ℕ) → (repeated n (shifted_by_one Logical true size) s).value ≡ low_of size (s.value * 2 ^ n)
unfolding repeated
left_values Byte s h zero = omega arith
left_values Word s h zero = omega arith
left_values Long s h zero = omega arith
left_values size s h (suc n) =
    left_next size s.value n (repeated n (shifted_by_one Logical true size) s).value (left_values size s h n)

pub left_values_signed : (size : Size) (s : Shifting) → s.value < values_of size →
    (n : ℕ) → (repeated n (shifted_by_one Arithmetic true size) s).value ≡ low_of size (s.value * 2 ^ n)
unfolding repeated
left_values_signed Byte s h zero = omega arith
left_values_signed Word s h zero = omega arith
left_values_signed Long s h zero = omega arith
left_values_signed size s h (suc n) =
    left_next size s.value n (repeated n (shifted_by_one Arithmetic true size) s).value (left_values_signed size s h n)

-- to the right with 0 entering, the bits are those of the quotient by a power of two
pub right_values : (size : Size) (s : Shifting) →
    (n : ℕ) → (repeated n (shifted_by_one Logical false size) s).value ≡ s.value / 2 ^ n
unfolding repeated
right_values size s zero = omega arith
right_values size s (suc n) =
    let before : (repeated n (shifted_by_one Logical false size) s).value ≡ s.value / 2 ^ n = right_values size s n in
    let halved : s.value / 2 ^ n / 2 ^ 1 ≡ s.value / 2 ^ suc n = shr-shr s.value n 1 ∙ ap (λ k. s.value / 2 ^ k) (omega arith) in
    rw before (rw (← halved) (omega arith))

-- to the right with the sign entering, a negative operand is the complement of one that is not
right_next : (size : Size) (v n w : ℕ) → v < values_of size →
    w ≡ halved size n v →
    by_one false size (is_negative size w) w ≡ halved size (suc n) v
right_next size v n w h e =
    next size v w (v / 2 ^ n) (v / 2 ^ suc n) ((values_of size - 1 - v) / 2 ^ n) ((values_of size - 1 - v) / 2 ^ suc n)
    h (shr_le v n) (shr_le (values_of size - 1 - v) n) (half_of v) (half_of (values_of size - 1 - v)) e
  where
    half_of : (u : ℕ) → u / 2 ^ suc n ≡ u / 2 ^ n / 2
    half_of u = sym (shr-shr u n 1 ∙ ap (λ k. u / 2 ^ k) (omega arith))

    next : (size : Size) (v w p p' q q' : ℕ) → v < values_of size → p ≤ v → q ≤ values_of size - 1 - v → p' ≡ p / 2 → q' ≡ q / 2 →
        w ≡ cond (is_negative size v) (values_of size - 1 - q) p →
        by_one false size (is_negative size w) w ≡ cond (is_negative size v) (values_of size - 1 - q') p'
    next Byte v w p p' q q' h a b c d e = grind (arith, nat_tests)
    next Word v w p p' q q' h a b c d e = grind (arith, nat_tests)
    next Long v w p p' q q' h a b c d e = grind (arith, nat_tests)

pub right_values_signed : (size : Size) (s : Shifting) → s.value < values_of size → (n : ℕ) →
    (repeated n (shifted_by_one Arithmetic false size) s).value ≡ halved size n s.value
unfolding repeated
right_values_signed Byte s h zero = grind (arith, nat_tests)
right_values_signed Word s h zero = grind (arith, nat_tests)
right_values_signed Long s h zero = grind (arith, nat_tests)
right_values_signed size s h (suc n) =
    right_next size s.value n (repeated n (shifted_by_one Arithmetic false size) s).value h (right_values_signed size s h n)

-- the sign changes at the shift after n where the product leaves the signed range with the next factor 2
roomy_next : (size : Size) (v n w : ℕ) → v < values_of size → w ≡ low_of size (v * 2 ^ n) →
    (not (has_room size n v) || not (beq (is_negative size w) (is_negative size (by_one true size false w)))) ≡ not (has_room size (suc n) v)
roomy_next size v n w h e =
    let doubled : v * 2 ^ suc n ≡ 2 * (v * 2 ^ n) = rw two-pow-succ (omega arith) in
    let doubled' : (values_of size - v) * 2 ^ suc n ≡ 2 * ((values_of size - v) * 2 ^ n) = rw two-pow-succ (omega arith) in
    let whole : v * 2 ^ n + (values_of size - v) * 2 ^ n ≡ values_of size * 2 ^ n =
    sym (add-mul v (values_of size - v) (2 ^ n)) ∙ ap (λ k. k * 2 ^ n) (omega arith) in
    next size v w (v * 2 ^ n) (v * 2 ^ suc n) ((values_of size - v) * 2 ^ n) ((values_of size - v) * 2 ^ suc n) (2 ^ n)
    h whole (mul-pos (omega arith) (pow_pos n)) doubled doubled' e
  where
    next : (size : Size) (v w p p' q q' t : ℕ) → v < values_of size → p + q ≡ values_of size * t → 0 < q → p' ≡ 2 * p → q' ≡ 2 * q →
        w ≡ low_of size p →
        (not (cond (is_negative size v) (nat_le q (values_of size / 2)) (nat_lt p (values_of size / 2)))
        || not (beq (is_negative size w) (is_negative size (by_one true size false w))))
        ≡ not (cond (is_negative size v) (nat_le q' (values_of size / 2)) (nat_lt p' (values_of size / 2)))
    next Byte v w p p' q q' t h a b c d e = grind (arith, nat_tests)
    next Word v w p p' q q' t h a b c d e = grind (arith, nat_tests)
    next Long v w p p' q q' t h a b c d e = grind (arith, nat_tests)

-- V of an arithmetic shift to the left: the signed operand times the power of two leaves the range
pub left_overflows : (size : Size) (s : Shifting) → s.value < values_of size → s.v ≡ false →
    (n : ℕ) → (repeated n (shifted_by_one Arithmetic true size) s).v ≡ not (has_room size n s.value)
unfolding repeated
left_overflows Byte s h e zero = grind (arith, nat_tests)
left_overflows Word s h e zero = grind (arith, nat_tests)
left_overflows Long s h e zero = grind (arith, nat_tests)
left_overflows size s h e (suc n) =
    let before : Shifting = repeated n (shifted_by_one Arithmetic true size) s in
    let same : before.v ≡ not (has_room size n s.value) = left_overflows size s h e n in
    ap (λ v. v || not (beq (is_negative size before.value) (is_negative size (by_one true size false before.value)))) same
    ∙ roomy_next size s.value n before.value h (left_values_signed size s h n)

-- the sign stays as it is to the right, where it enters
sign_stays : (size : Size) (w : ℕ) → w < values_of size → not (beq (is_negative size w) (is_negative size (by_one false size (is_negative size w) w))) ≡ false
sign_stays Byte w h = grind (arith, nat_tests)
sign_stays Word w h = grind (arith, nat_tests)
sign_stays Long w h = grind (arith, nat_tests)

pub right_overflows : (size : Size) (s : Shifting) → s.value < values_of size → s.v ≡ false →
    (n : ℕ) → (repeated n (shifted_by_one Arithmetic false size) s).v ≡ false
unfolding repeated
right_overflows size s h e zero = e
right_overflows size s h e (suc n) =
    let before : Shifting = repeated n (shifted_by_one Arithmetic false size) s in
    let same : before.v ≡ false = right_overflows size s h e n in
    let stays : not (beq (is_negative size before.value) (is_negative size (by_one false size (is_negative size before.value) before.value))) ≡ false =
    sign_stays size before.value (repeated-below Arithmetic false size s h n) in
    rw (same, stays) refl

-- only arithmetic shifts set V
pub others_overflow : (kind : ShiftKind) (left : Bool) (size : Size) (s : Shifting) → is_arithmetic kind ≡ false → s.v ≡ false →
    (n : ℕ) → (repeated n (shifted_by_one kind left size) s).v ≡ false
unfolding repeated
others_overflow kind left size s k e zero = e
others_overflow kind left size s k e (suc n) = rw (others_overflow kind left size s k e n, k) refl

-- a rotate without X keeps it
pub rotated_keeps : (left : Bool) (size : Size) (s : Shifting) → (n : ℕ) → (repeated n (shifted_by_one Rotate left size) s).x ≡ s.x
unfolding repeated
rotated_keeps left size s zero = refl
rotated_keeps left size s (suc n) = rotated_keeps left size s n

-- the last shift by one bit; where X takes no part, it may be any
pub last_is : (kind : ShiftKind) (left : Bool) (size : Size) (s : Shifting) (value : ℕ) (x overflow : Bool) →
    value ≡ s.value → (rotates kind ≡ true → x ≡ s.x) → overflow ≡ (shifted_by_one kind left size s).v →
    ◌≡◌ {A = Shifting}
    (record {
      value = by_one left size (entering kind left size x value) value;
      x = extend_after kind x (leaving left size value);
      c = leaving left size value;
      v = overflow;
    })
    (shifted_by_one kind left size s)
last_is Arithmetic true size s value x overflow e f o = rw (e, o) refl
last_is Arithmetic false size s value x overflow e f o = rw (e, o) refl
last_is Logical left size s value x overflow e f o = rw (e, o) refl
last_is RotateExtended left size s value x overflow e f o = rw (e, o, f refl) refl
last_is Rotate left size s value x overflow e f o = rw (e, o, f refl) refl

pub repeated_last : (step : Shifting → Shifting) (s : Shifting) (count : ℕ) → 0 < count → repeated count step s ≡ step (repeated (count - 1) step s)
unfolding repeated
repeated_last step s zero h = absurd (omega arith)
repeated_last step s (suc n) h = let e : suc n - 1 ≡ n = omega arith in rw e refl
