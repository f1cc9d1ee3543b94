-- A number read digit by digit.
use Rattle.std.proofs.Common.{◌≡◌, ℕ, zero, suc, ◌+◌, ◌-◌, ◌*◌, ◌/◌, ◌^◌, ◌≤◌, ◌<◌, true, false, List, refl, sym, ap, subst, ◌∙◌, arith}
use Rattle.std.proofs.Math.Nat.{pow-suc, pow-le-pow_right}
use Rattle.std.proofs.lemmas.Nat.{pow-add}
use Rattle.mb_spelling.specs.Spelling.{Reading, Read, Short, Wrong, mapped, followed, read_one}
use Rattle.mb_spelling.specs.Hex.{May, hex_value, is_digit_of, read_number}
use Rattle.std.specs.Prelude.{Result, Ok, Err, IsErr, IsErrAnd}
use Rattle.mb_spelling.specs.Reads.{Place, Reads, lines_to}
use Rattle.mb_spelling.specs.declared.stop.Stop.{Stop}
use Rattle.mb_spelling.specs.declared.stop.Stop.TheVariants as stop

-- ---- powers of 16

four_bits : (k : ℕ) → 2 ^ (4 * k) ≡ 16 ^ k
four_bits zero = refl
four_bits (suc k) =
    let more : 4 * suc k ≡ 4 * k + 4 = omega arith in
    ap (λ (n : ℕ). 2 ^ n) more ∙ (pow-add 2 (4 * k) 4 ∙ (ap (λ (p : ℕ). p * 16) (four_bits k) ∙ sym (pow-suc 16 k)))

pub shifted : (n k : ℕ) → n / 2 ^ (4 * k) ≡ n / 16 ^ k
shifted n k = ap (λ (p : ℕ). n / p) (four_bits k)

-- one digit more
pub digit_fits : (more value d : ℕ) → more < 32 → value < 16 ^ (31 - more) → d < 16 → 16 * value + d < 16 ^ (32 - more)
digit_fits more value d few small below =
    let count : 32 - more ≡ suc (31 - more) = omega arith in
    let power : 16 ^ (32 - more) ≡ 16 ^ (31 - more) * 16 = ap (λ (k : ℕ). 16 ^ k) count ∙ pow-suc 16 (31 - more) in
    omega arith

pub digit_small : (more value d : ℕ) → more < 32 → value < 16 ^ (31 - more) → d < 16 → 16 * value + d < 2 ^ 128
digit_small more value d few small below =
    let most : 16 ^ (31 - more) ≤ 16 ^ 31 = pow-le-pow_right (omega arith) (let h : 31 - more ≤ 31 = omega arith in h) in
    let last : 16 ^ 31 ≡ 2 ^ 124 = refl in
    omega arith

-- ---- steps

-- what a digit is read as behind those of a value
abbrev pub digit_read : May → (more value : ℕ) → List ℕ → Reading ℕ
digit_read may more value text = mapped hex_value (read_one (is_digit_of (λ d. may more (16 * value + d))) text)

paired : (d : ℕ) (r : Reading ℕ) → mapped (λ (x : ℕ × ℕ). x.1) (mapped (λ b. (d, b)) r) ≡ r
paired d (Read n rest) = refl
paired d Short = refl
paired d (Wrong rest) = refl

-- What the rest of the number reads from here is what the whole number reads from the start.
pub record Going (may : May) (from to : Place) (digits more value : ℕ) : Type 0 where
  pub within : more ≤ digits
  pub same : read_number may more value to.left ≡ read_number may digits 0 from.left
  pub small : value < 16 ^ (digits - more)
  pub admitted : more < digits → may more value ≡ true
  pub lines : lines_to to ≡ lines_to from

pub number_on : (may : May) (from to new : Place) (digits more next value d : ℕ) → Going may from to digits more value → more ≡ suc next
    → digit_read may next value to.left ≡ Read d new.left → d < 16 → may next (16 * value + d) ≡ true → lines_to new ≡ lines_to to
    → Going may from new digits next (16 * value + d)
unfolding read_number
number_on may from to new digits more next value d going one read small admitted lines =
    let here : read_number may (suc next) value to.left ≡ read_number may next (16 * value + d) new.left =
    ap (λ (r : Reading ℕ). mapped (λ (x : ℕ × ℕ). x.1) (followed r (λ d rest. read_number may next (16 * value + d) rest))) read
    ∙ paired d (read_number may next (16 * value + d) new.left) in
    let whole : read_number may (suc next) value to.left ≡ read_number may digits 0 from.left =
    ap (λ (k : ℕ). read_number may k value to.left) (sym one) ∙ going.same in
    let power = pow-suc 16 (digits - more) in
    let count : digits - next ≡ suc (digits - more) = omega (arith, going.within) in
    record {
      within = omega (arith, going.within);
      same = sym here ∙ whole;
      small = (let size : 16 ^ (digits - next) ≡ 16 ^ (digits - more) * 16 = ap (λ (k : ℕ). 16 ^ k) count ∙ power in omega (arith, going.small));
      admitted = λ h. admitted;
      lines = lines ∙ going.lines;
    }

number_ends : (may : May) (more next value : ℕ) (text : List ℕ) (r : Reading ℕ) → more ≡ suc next → digit_read may next value text ≡ r
    → read_number may more value text ≡ mapped (λ (x : ℕ × ℕ). x.1) (followed r (λ d rest. read_number may next (16 * value + d) rest))
unfolding read_number
number_ends may more next value text r one read =
    ap (λ (k : ℕ). read_number may k value text) one
    ∙ ap (λ (q : Reading ℕ). mapped (λ (x : ℕ × ℕ). x.1) (followed q (λ d rest. read_number may next (16 * value + d) rest))) read

pub number_short : (may : May) (from to : Place) (digits more next value : ℕ) → Going may from to digits more value → more ≡ suc next
    → digit_read may next value to.left ≡ Short → read_number may digits 0 from.left ≡ Short
number_short may from to digits more next value going one read = sym going.same ∙ number_ends may more next value to.left Short one read

pub number_wrong : (may : May) (from to : Place) (left : List ℕ) (digits more next value : ℕ) → Going may from to digits more value → more ≡ suc next
    → digit_read may next value to.left ≡ Wrong left → read_number may digits 0 from.left ≡ Wrong left
number_wrong may from to left digits more next value going one read = sym going.same ∙ number_ends may more next value to.left (Wrong left) one read

-- there is room for a further digit
pub number_fits : (may : May) (from to : Place) (digits more next value : ℕ) → Going may from to digits more value → more ≡ suc next → digits ≤ 32
    → value < 16 ^ (31 - next)
number_fits may from to digits more next value going one few =
    let below : 16 ^ (digits - more) ≤ 16 ^ (31 - next) = pow-le-pow_right (omega arith) (let h : digits - more ≤ 31 - next = omega arith in h) in
    omega (arith, going.small)

pub number_room : (may : May) (from to : Place) (digits more value : ℕ) → Going may from to digits more value → 0 < more → digits ≤ 32 → value < 2 ^ 124
number_room may from to digits more value going some few =
    let below : 16 ^ (digits - more) ≤ 16 ^ 31 = pow-le-pow_right (omega arith) (let h : digits - more ≤ 31 = omega arith in h) in
    let last : 16 ^ 31 ≡ 2 ^ 124 = refl in
    omega (arith, going.small)

pub number_stopped : (may : May) (from to : Place) (left : List ℕ) (digits more next value : ℕ) (why : Stop) → Going may from to digits more value
    → more ≡ suc next
    → Reads {X = ℕ} {A = ℕ} (λ d. d) (Err why) left (digit_read may next value to.left)
    → Reads {X = ℕ} {A = ℕ} (λ n. n) (Err why) left (read_number may digits 0 from.left)
number_stopped may from to left digits more next value stop.Short going one read = number_short may from to digits more next value going one read
number_stopped may from to left digits more next value stop.Wrong going one read = number_wrong may from to left digits more next value going one read

pub number_handed : (r : Result ℕ Stop) (why : Stop) (may : May) (from to : Place) (left : List ℕ) (digits more next value : ℕ) → IsErr r
    → IsErrAnd r (λ e. e ≡ why) → Going may from to digits more value → more ≡ suc next
    → Reads {X = ℕ} {A = ℕ} (λ d. d) (Err why) left (digit_read may next value to.left)
    → Reads {X = ℕ} {A = ℕ} (λ n. n) r left (read_number may digits 0 from.left)
number_handed (Ok n) why may from to left digits more next value is same going one read = absurd (let contrary : false ≡ true = is in cc)
number_handed (Err e) why may from to left digits more next value is same going one read =
    subst (λ (x : Stop). Reads {X = ℕ} {A = ℕ} (λ n. n) (Err x) left (read_number may digits 0 from.left)) (sym same)
    (number_stopped may from to left digits more next value why going one read)

-- no digit is to come
pub number_done : (may : May) (from to : Place) (digits more value : ℕ) → Going may from to digits more value → more ≡ 0
    → read_number may digits 0 from.left ≡ Read value to.left
unfolding read_number
number_done may from to digits more value going none = sym going.same ∙ ap (λ (k : ℕ). read_number may k value to.left) none
