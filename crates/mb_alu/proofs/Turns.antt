-- Rotates: a word that is turned bit by bit is a word whose two parts change places.
use Rattle.std.proofs.Common.{ℕ, zero, suc, ◌≡◌, ◌+◌, ◌-◌, ◌*◌, ◌/◌, ◌%◌, ◌^◌, ◌<◌, arith, ap, ◌∙◌, sym, refl, Bool, true, false, not, ◌==◌, bit_or}
use Rattle.std.proofs.Math.Nat.{two-pow-succ}
use Rattle.std.proofs.lemmas.Nat.{pow-add, pow_pos, mul-add-lt, shr_split, shr_below, mod_below, div-add-mod', or_shifted}
use Rattle.std.proofs.lemmas.Bool.Decides.{nat_tests}
use Rattle.std.specs.Int.{from_bool}
use Rattle.mb_instr.specs.declared.size.Size.{Size}
use Rattle.mb_instr.specs.declared.size.Size.TheVariants.{Byte, Word, Long}
use Rattle.mb_instr.specs.Sizes.{values_of, low_of, bits_of}
use Rattle.mb_instr.specs.declared.kinds.ShiftKind.TheVariants.{RotateExtended, Rotate}
use Rattle.mb_alu.specs.Signs.{is_negative}
use Rattle.mb_alu.specs.declared.shifts.Shifting.{Shifting}
use Rattle.mb_alu.specs.Shifts.{shifted_by_one, by_one, entering, repeated}
use Rattle.mb_alu.specs.AtOnce.{turned}
use Rattle.mb_alu.proofs.Steps.{by_one-below}

repeated-zero : (step : Shifting → Shifting) (s : Shifting) → repeated zero step s ≡ s
unfolding repeated
repeated-zero step s = refl

pub repeated-add : (step : Shifting → Shifting) (s : Shifting) (m n : ℕ) → repeated (m + n) step s ≡ repeated m step (repeated n step s)
unfolding repeated
repeated-add step s zero n = let e : zero + n ≡ n = omega arith in rw e refl
repeated-add step s (suc m) n = let e : suc m + n ≡ suc (m + n) = omega arith in rw e (ap step (repeated-add step s m n))

-- a product whose factor has one more bit
split_high : (a a0 t b p p2 : ℕ) → a ≡ 2 * a0 + t → p2 ≡ p + p → a * p + b ≡ a0 * p2 + (t * p + b)
split_high a a0 t b p p2 d e = rw (d, e) (omega arith)

regroup : (t p q r b a : ℕ) → r ≡ p * q → (t * p + b) * q + a ≡ t * r + (b * q + a)
regroup t p q r b a e = rw e (omega arith)

join_high : (a a0 t b p p2 : ℕ) → a ≡ 2 * a0 + t → p2 ≡ p + p → 2 * (b * p + a0) + t ≡ b * p2 + a
join_high a a0 t b p p2 d e = rw (d, e) (omega arith)

split_low : (a a0 t b p p2 : ℕ) → a ≡ t * p + a0 → p2 ≡ p + p → b * p2 + a ≡ (2 * b + t) * p + a0
split_low a a0 t b p p2 d e = rw (d, e) (omega arith)

join_low : (a a0 t b p q r : ℕ) → a ≡ t * q + a0 → r ≡ p * q → t * r + (a0 * p + b) ≡ a * p + b
join_low a a0 t b p q r d e = rw (d, e) (omega arith)

-- a step keeps what is good, and sees the state as a word of h + 1 bits
module _ (step : Shifting → Shifting) (view : Shifting → ℕ) (Good : Shifting → Type 0) (h : ℕ)
    (keeps : (s : Shifting) → Good s → Good (step s)) where
  good : (s : Shifting) → Good s → (n : ℕ) → Good (repeated n step s)
  unfolding repeated
  good s g zero = g
  good s g (suc n) = keeps (repeated n step s) (good s g n)

  -- the highest bit becomes the lowest
  abbrev pub TurnsLeft : Type 0
  TurnsLeft = (s : Shifting) (t c : ℕ) → Good s → t < 2 → c < 2 ^ h → view s ≡ t * 2 ^ h + c → view (step s) ≡ 2 * c + t

  -- the lowest bit becomes the highest
  abbrev pub TurnsRight : Type 0
  TurnsRight = (s : Shifting) (t c : ℕ) → Good s → t < 2 → c < 2 ^ h → view s ≡ 2 * c + t → view (step s) ≡ t * 2 ^ h + c

  left_parts : TurnsLeft → (s : Shifting) → Good s → (k j a b : ℕ) → h + 1 ≡ j + k → a < 2 ^ k → b < 2 ^ j →
      view s ≡ a * 2 ^ j + b → view (repeated k step s) ≡ b * 2 ^ k + a
  unfolding repeated
  left_parts turns s g zero j a b w p q e = let z : a ≡ 0 = omega arith in e ∙ rw z (omega arith)
  left_parts turns s g (suc k) j a b w p q e =
      let more : 2 ^ suc k ≡ 2 ^ k + 2 ^ k = two-pow-succ k in
      let whole : 2 ^ h ≡ 2 ^ j * 2 ^ k = (let n : h ≡ j + k = omega arith in ap (λ i. 2 ^ i) n ∙ pow-add 2 j k) in
      let t2 : a % 2 < 2 = omega arith in
      let split : a ≡ 2 * (a / 2) + a % 2 = omega arith in
      let high : a / 2 < 2 ^ k = omega arith in
      let low : a % 2 * 2 ^ j + b < 2 ^ suc j = rw two-pow-succ (let f = mul-add-lt (a % 2) (2 ^ j) b 2 t2 q in omega arith) in
      let before : view (repeated k step s) ≡ (a % 2 * 2 ^ j + b) * 2 ^ k + a / 2 =
      left_parts turns s g k (suc j) (a / 2) (a % 2 * 2 ^ j + b) (omega arith) high low
      (e ∙ split_high a (a / 2) (a % 2) b (2 ^ j) (2 ^ suc j) split (two-pow-succ j)) in
      let under : b * 2 ^ k + a / 2 < 2 ^ h = rw whole (let f = mul-add-lt b (2 ^ k) (a / 2) (2 ^ j) q high in omega arith) in
      turns (repeated k step s) (a % 2) (b * 2 ^ k + a / 2) (good s g k) t2 under
      (before ∙ regroup (a % 2) (2 ^ j) (2 ^ k) (2 ^ h) b (a / 2) whole)
      ∙ join_high a (a / 2) (a % 2) b (2 ^ k) (2 ^ suc k) split more

  right_parts : TurnsRight → (s : Shifting) → Good s → (k j a b : ℕ) → h + 1 ≡ j + k → a < 2 ^ k → b < 2 ^ j →
      view s ≡ b * 2 ^ k + a → view (repeated k step s) ≡ a * 2 ^ j + b
  unfolding repeated
  right_parts turns s g zero j a b w p q e = let z : a ≡ 0 = omega arith in e ∙ rw z (omega arith)
  right_parts turns s g (suc k) j a b w p q e =
      let more : 2 ^ suc k ≡ 2 ^ k + 2 ^ k = two-pow-succ k in
      let whole : 2 ^ h ≡ 2 ^ j * 2 ^ k = (let n : h ≡ j + k = omega arith in ap (λ i. 2 ^ i) n ∙ pow-add 2 j k) in
      let split : a ≡ a / 2 ^ k * 2 ^ k + a % 2 ^ k = sym (shr_split a k) in
      let t2 : a / 2 ^ k < 2 = shr_below a 1 k (let n : 1 + k ≡ suc k = omega arith in rw n p) in
      let low : a % 2 ^ k < 2 ^ k = mod_below a (2 ^ k) (pow_pos k) in
      let high : 2 * b + a / 2 ^ k < 2 ^ suc j = rw two-pow-succ (omega arith) in
      let before : view (repeated k step s) ≡ a % 2 ^ k * 2 ^ suc j + (2 * b + a / 2 ^ k) =
      right_parts turns s g k (suc j) (a % 2 ^ k) (2 * b + a / 2 ^ k) (omega arith) low high
      (e ∙ split_low a (a % 2 ^ k) (a / 2 ^ k) b (2 ^ k) (2 ^ suc k) split more) in
      let under : a % 2 ^ k * 2 ^ j + b < 2 ^ h = rw whole (let f = mul-add-lt (a % 2 ^ k) (2 ^ j) b (2 ^ k) low q in f) in
      turns (repeated k step s) (a / 2 ^ k) (a % 2 ^ k * 2 ^ j + b) (good s g k) t2 under
      (before ∙ rw two-pow-succ (omega arith))
      ∙ join_low a (a % 2 ^ k) (a / 2 ^ k) b (2 ^ j) (2 ^ k) (2 ^ h) split whole

  -- after all its bits a word is as it was
  left_round : TurnsLeft → (s : Shifting) → Good s → view s < 2 ^ (h + 1) → (q : ℕ) → view (repeated (q * (h + 1)) step s) ≡ view s
  left_round turns s g below zero = let e : zero * (h + 1) ≡ zero = omega arith in rw (e, repeated-zero) refl
  left_round turns s g below (suc q) =
      let e : suc q * (h + 1) ≡ (h + 1) + q * (h + 1) = omega arith in
      let before : view (repeated (q * (h + 1)) step s) ≡ view s = left_round turns s g below q in
      let whole : view (repeated (h + 1) step (repeated (q * (h + 1)) step s)) ≡ 0 * 2 ^ (h + 1) + view s =
      left_parts turns (repeated (q * (h + 1)) step s) (good s g (q * (h + 1))) (h + 1) 0 (view s) 0 (omega arith) below (omega arith)
      (before ∙ omega arith) in
      rw (e, repeated-add) (whole ∙ omega arith)

  right_round : TurnsRight → (s : Shifting) → Good s → view s < 2 ^ (h + 1) → (q : ℕ) → view (repeated (q * (h + 1)) step s) ≡ view s
  right_round turns s g below zero = let e : zero * (h + 1) ≡ zero = omega arith in rw (e, repeated-zero) refl
  right_round turns s g below (suc q) =
      let e : suc q * (h + 1) ≡ (h + 1) + q * (h + 1) = omega arith in
      let before : view (repeated (q * (h + 1)) step s) ≡ view s = right_round turns s g below q in
      let whole : view (repeated (h + 1) step (repeated (q * (h + 1)) step s)) ≡ view s * 2 ^ 0 + 0 =
      right_parts turns (repeated (q * (h + 1)) step s) (good s g (q * (h + 1))) (h + 1) 0 (view s) 0 (omega arith) below (omega arith)
      (before ∙ omega arith) in
      rw (e, repeated-add) (whole ∙ omega arith)

  pub left_turned : TurnsLeft → (s : Shifting) → Good s → view s < 2 ^ (h + 1) → (n : ℕ) → view (repeated n step s) ≡ turned true (h + 1) n (view s)
  left_turned turns s g below n =
      let r : ℕ = n % (h + 1) in
      let less : n % (h + 1) < h + 1 = omega arith in
      let parts : n ≡ n % (h + 1) + n / (h + 1) * (h + 1) = omega (arith, div-add-mod' n (h + 1)) in
      let round : Shifting = repeated (n / (h + 1) * (h + 1)) step s in
      let same : view round ≡ view s = left_round turns s g below (n / (h + 1)) in
      let j : ℕ = h + 1 - n % (h + 1) in
      let back : h + 1 - j ≡ n % (h + 1) = omega arith in
      let width : j + n % (h + 1) ≡ h + 1 = omega arith in
      let high : view s / 2 ^ j < 2 ^ (n % (h + 1)) = shr_below (view s) (n % (h + 1)) j (let c : n % (h + 1) + j ≡ h + 1 = omega arith in rw c below) in
      let done : view (repeated (n % (h + 1)) step round) ≡ view s % 2 ^ j * 2 ^ (n % (h + 1)) + view s / 2 ^ j =
      left_parts turns round (good s g (n / (h + 1) * (h + 1))) (n % (h + 1)) j (view s / 2 ^ j) (view s % 2 ^ j) (sym width) high
      (mod_below (view s) (2 ^ j) (pow_pos j)) (same ∙ sym (shr_split (view s) j)) in
      ap (λ k. view (repeated k step s)) parts ∙ rw repeated-add (rw back done)

  pub right_turned : TurnsRight → (s : Shifting) → Good s → view s < 2 ^ (h + 1) → (n : ℕ) → view (repeated n step s) ≡ turned false (h + 1) n (view s)
  right_turned turns s g below n =
      let less : n % (h + 1) < h + 1 = omega arith in
      let parts : n ≡ n % (h + 1) + n / (h + 1) * (h + 1) = omega (arith, div-add-mod' n (h + 1)) in
      let round : Shifting = repeated (n / (h + 1) * (h + 1)) step s in
      let same : view round ≡ view s = right_round turns s g below (n / (h + 1)) in
      let j : ℕ = h + 1 - n % (h + 1) in
      let high : view s / 2 ^ (n % (h + 1)) < 2 ^ j = shr_below (view s) j (n % (h + 1)) (let c : j + n % (h + 1) ≡ h + 1 = omega arith in rw c below) in
      let done : view (repeated (n % (h + 1)) step round) ≡ view s % 2 ^ (n % (h + 1)) * 2 ^ j + view s / 2 ^ (n % (h + 1)) =
      right_parts turns round (good s g (n / (h + 1) * (h + 1))) (n % (h + 1)) j (view s % 2 ^ (n % (h + 1))) (view s / 2 ^ (n % (h + 1)))
      (omega arith) (mod_below (view s) (2 ^ (n % (h + 1))) (pow_pos (n % (h + 1)))) high (same ∙ sym (shr_split (view s) (n % (h + 1)))) in
      ap (λ k. view (repeated k step s)) parts ∙ rw repeated-add done

-- ---- rotates of the operand alone

stays-below : (left : Bool) (size : Size) (s : Shifting) → s.value < values_of size → (shifted_by_one Rotate left size s).value < values_of size
stays-below left size s g = by_one-below left size (entering Rotate left size s.x s.value) s.value g

byte_left : (v t c : ℕ) → t < 2 → c < 128 → v ≡ t * 128 + c → by_one true Byte (is_negative Byte v) v ≡ 2 * c + t
byte_left v t c p q e = grind (arith, nat_tests)

byte_right : (v t c : ℕ) → t < 2 → c < 128 → v ≡ 2 * c + t → by_one false Byte (v % 2 == 1) v ≡ t * 128 + c
byte_right v t c p q e = grind (arith, nat_tests)

word_left : (v t c : ℕ) → t < 2 → c < 32768 → v ≡ t * 32768 + c → by_one true Word (is_negative Word v) v ≡ 2 * c + t
word_left v t c p q e = grind (arith, nat_tests)

word_right : (v t c : ℕ) → t < 2 → c < 32768 → v ≡ 2 * c + t → by_one false Word (v % 2 == 1) v ≡ t * 32768 + c
word_right v t c p q e = grind (arith, nat_tests)

long_left : (v t c : ℕ) → t < 2 → c < 2147483648 → v ≡ t * 2147483648 + c → by_one true Long (is_negative Long v) v ≡ 2 * c + t
long_left v t c p q e = grind (arith, nat_tests)

long_right : (v t c : ℕ) → t < 2 → c < 2147483648 → v ≡ 2 * c + t → by_one false Long (v % 2 == 1) v ≡ t * 2147483648 + c
long_right v t c p q e = grind (arith, nat_tests)

pub rotated_values : (left : Bool) (size : Size) (s : Shifting) → s.value < values_of size →
    (n : ℕ) → (repeated n (shifted_by_one Rotate left size) s).value ≡ turned left (bits_of size) n s.value
rotated_values true Byte s g n =
    left_turned (shifted_by_one Rotate true Byte) (λ r. r.value) (λ r. r.value < values_of Byte) 7 (stays-below true Byte)
    (λ r t c b p q e. byte_left r.value t c p q e) s g g n
rotated_values true Word s g n =
    left_turned (shifted_by_one Rotate true Word) (λ r. r.value) (λ r. r.value < values_of Word) 15 (stays-below true Word)
    (λ r t c b p q e. word_left r.value t c p q e) s g g n
rotated_values true Long s g n =
    left_turned (shifted_by_one Rotate true Long) (λ r. r.value) (λ r. r.value < values_of Long) 31 (stays-below true Long)
    (λ r t c b p q e. long_left r.value t c p q e) s g g n
rotated_values false Byte s g n =
    right_turned (shifted_by_one Rotate false Byte) (λ r. r.value) (λ r. r.value < values_of Byte) 7 (stays-below false Byte)
    (λ r t c b p q e. byte_right r.value t c p q e) s g g n
rotated_values false Word s g n =
    right_turned (shifted_by_one Rotate false Word) (λ r. r.value) (λ r. r.value < values_of Word) 15 (stays-below false Word)
    (λ r t c b p q e. word_right r.value t c p q e) s g g n
rotated_values false Long s g n =
    right_turned (shifted_by_one Rotate false Long) (λ r. r.value) (λ r. r.value < values_of Long) 31 (stays-below false Long)
    (λ r t c b p q e. long_right r.value t c p q e) s g g n

-- ---- rotates of X and the operand: one word, with X on top

abbrev pub extended_word : Size → Bool → ℕ → ℕ
extended_word size x value = from_bool x * values_of size + value

stays-below_extended : (left : Bool) (size : Size) (s : Shifting) → s.value < values_of size →
    (shifted_by_one RotateExtended left size s).value < values_of size
stays-below_extended left size s g = by_one-below left size s.x s.value g

extended_word-below : (size : Size) (x : Bool) (v : ℕ) → v < values_of size → extended_word size x v < 2 * values_of size
extended_word-below size true v h = omega arith
extended_word-below size false v h = omega arith

byte_left_extended : (x : Bool) (v t c : ℕ) → v < 256 → t < 2 → c < 256 → extended_word Byte x v ≡ t * 256 + c →
    extended_word Byte (is_negative Byte v) (by_one true Byte x v) ≡ 2 * c + t
byte_left_extended true v t c b p q e = grind (arith, nat_tests)
byte_left_extended false v t c b p q e = grind (arith, nat_tests)

byte_right_extended : (x : Bool) (v t c : ℕ) → v < 256 → t < 2 → c < 256 → extended_word Byte x v ≡ 2 * c + t →
    extended_word Byte (v % 2 == 1) (by_one false Byte x v) ≡ t * 256 + c
byte_right_extended true v t c b p q e = grind (arith, nat_tests)
byte_right_extended false v t c b p q e = grind (arith, nat_tests)

word_left_extended : (x : Bool) (v t c : ℕ) → v < 65536 → t < 2 → c < 65536 → extended_word Word x v ≡ t * 65536 + c →
    extended_word Word (is_negative Word v) (by_one true Word x v) ≡ 2 * c + t
word_left_extended true v t c b p q e = grind (arith, nat_tests)
word_left_extended false v t c b p q e = grind (arith, nat_tests)

word_right_extended : (x : Bool) (v t c : ℕ) → v < 65536 → t < 2 → c < 65536 → extended_word Word x v ≡ 2 * c + t →
    extended_word Word (v % 2 == 1) (by_one false Word x v) ≡ t * 65536 + c
word_right_extended true v t c b p q e = grind (arith, nat_tests)
word_right_extended false v t c b p q e = grind (arith, nat_tests)

long_left_extended : (x : Bool) (v t c : ℕ) → v < 4294967296 → t < 2 → c < 4294967296 → extended_word Long x v ≡ t * 4294967296 + c →
    extended_word Long (is_negative Long v) (by_one true Long x v) ≡ 2 * c + t
long_left_extended true v t c b p q e = grind (arith, nat_tests)
long_left_extended false v t c b p q e = grind (arith, nat_tests)

long_right_extended : (x : Bool) (v t c : ℕ) → v < 4294967296 → t < 2 → c < 4294967296 → extended_word Long x v ≡ 2 * c + t →
    extended_word Long (v % 2 == 1) (by_one false Long x v) ≡ t * 4294967296 + c
long_right_extended true v t c b p q e = grind (arith, nat_tests)
long_right_extended false v t c b p q e = grind (arith, nat_tests)

pub extended_words : (left : Bool) (size : Size) (s : Shifting) → s.value < values_of size → (n : ℕ) →
    extended_word size (repeated n (shifted_by_one RotateExtended left size) s).x (repeated n (shifted_by_one RotateExtended left size) s).value
    ≡ turned left (bits_of size + 1) n (extended_word size s.x s.value)
extended_words true Byte s g n =
    left_turned (shifted_by_one RotateExtended true Byte) (λ r. extended_word Byte r.x r.value) (λ r. r.value < values_of Byte) 8
    (stays-below_extended true Byte) (λ r t c b p q e. byte_left_extended r.x r.value t c b p q e) s g (extended_word-below Byte s.x s.value g) n
extended_words true Word s g n =
    left_turned (shifted_by_one RotateExtended true Word) (λ r. extended_word Word r.x r.value) (λ r. r.value < values_of Word) 16
    (stays-below_extended true Word) (λ r t c b p q e. word_left_extended r.x r.value t c b p q e) s g (extended_word-below Word s.x s.value g) n
extended_words true Long s g n =
    left_turned (shifted_by_one RotateExtended true Long) (λ r. extended_word Long r.x r.value) (λ r. r.value < values_of Long) 32
    (stays-below_extended true Long) (λ r t c b p q e. long_left_extended r.x r.value t c b p q e) s g (extended_word-below Long s.x s.value g) n
extended_words false Byte s g n =
    right_turned (shifted_by_one RotateExtended false Byte) (λ r. extended_word Byte r.x r.value) (λ r. r.value < values_of Byte) 8
    (stays-below_extended false Byte) (λ r t c b p q e. byte_right_extended r.x r.value t c b p q e) s g (extended_word-below Byte s.x s.value g) n
extended_words false Word s g n =
    right_turned (shifted_by_one RotateExtended false Word) (λ r. extended_word Word r.x r.value) (λ r. r.value < values_of Word) 16
    (stays-below_extended false Word) (λ r t c b p q e. word_right_extended r.x r.value t c b p q e) s g (extended_word-below Word s.x s.value g) n
extended_words false Long s g n =
    right_turned (shifted_by_one RotateExtended false Long) (λ r. extended_word Long r.x r.value) (λ r. r.value < values_of Long) 32
    (stays-below_extended false Long) (λ r t c b p q e. long_right_extended r.x r.value t c b p q e) s g (extended_word-below Long s.x s.value g) n

-- the operand is the low part of that word, and X its highest bit
pub extended_low : (size : Size) (x : Bool) (v : ℕ) → v < values_of size → low_of size (extended_word size x v) ≡ v
extended_low Byte true v h = omega arith
extended_low Byte false v h = omega arith
extended_low Word true v h = omega arith
extended_low Word false v h = omega arith
extended_low Long true v h = omega arith
extended_low Long false v h = omega arith

pub extended_high : (size : Size) (x : Bool) (v : ℕ) → v < values_of size → not (extended_word size x v / 2 ^ bits_of size == 0) ≡ x
extended_high Byte true v h = grind (arith, nat_tests)
extended_high Byte false v h = grind (arith, nat_tests)
extended_high Word true v h = grind (arith, nat_tests)
extended_high Word false v h = grind (arith, nat_tests)
extended_high Long true v h = grind (arith, nat_tests)
extended_high Long false v h = grind (arith, nat_tests)

-- X is put above the operand
pub extended_bits : (size : Size) (x : Bool) (v : ℕ) → v < values_of size →
    bit_or (from_bool x * 2 ^ bits_of size % 18446744073709551616) v ≡ extended_word size x v
extended_bits Byte true v h = or_shifted 1 8 v h
extended_bits Byte false v h = omega arith
extended_bits Word true v h = or_shifted 1 16 v h
extended_bits Word false v h = omega arith
extended_bits Long true v h = or_shifted 1 32 v h
extended_bits Long false v h = omega arith
