-- The bits of a mask, one after the other.
use Rattle.std.proofs.Common.{◌≡◌, ◌≢◌, ℕ, zero, suc, ◌+◌, ◌-◌, ◌<◌, ◌≤◌, ◌/◌, ◌%◌, ◌^◌, Bool, true, false}
use Rattle.std.proofs.Common.{List, [], ◌∷◌, ◌++◌, length, drop, refl, ap, sym, ◌∙◌, arith, append_assoc}
use Rattle.std.specs.Prelude.{bit_and, map}
use Rattle.std.proofs.lemmas.List.{append-nil, length-map}
use Rattle.std.proofs.lemmas.Nat.{and_mask}
use Rattle.std.proofs.lemmas.Bool.Decides.{nat_tests}
use Rattle.mb_instr.specs.Sizes.{bytes_of, is_set}
use Rattle.mb_writes.specs.declared.transfers.Movem.{Movem}
use Rattle.mb_writes.specs.declared.transfers.MovemMode.{MovemMode}
use Rattle.mb_writes.specs.declared.transfers.Transfer.{Transfer}
use Rattle.mb_writes.specs.Transfers.{set_bits, count_of, number_of, transfer_step, placed, transfers_of, AreTransfers}

-- the bit, as it is computed
low_bit : (n : ℕ) → bit_and n 1 ≡ n % 2
low_bit n = and_mask n 1

is_set_of : (mask k : ℕ) → bit_and (mask / 2 ^ k) 1 ≢ 0 → is_set mask k ≡ true
is_set_of mask k h =
    let e = low_bit (mask / 2 ^ k) in
    let one : mask / 2 ^ k % 2 ≡ 1 = omega arith in
    grind (arith, nat_tests)

is_clear_of : (mask k : ℕ) → bit_and (mask / 2 ^ k) 1 ≡ 0 → is_set mask k ≡ false
is_clear_of mask k h = let e = sym (low_bit (mask / 2 ^ k)) ∙ h in grind (arith, nat_tests)

pub with_bit : (mask k n : ℕ) → is_set mask k ≡ true → set_bits mask k (suc n) ≡ k ∷ set_bits mask (k + 1) n
unfolding set_bits
with_bit mask k n h = rw h refl

pub without_bit : (mask k n : ℕ) → is_set mask k ≡ false → set_bits mask k (suc n) ≡ set_bits mask (k + 1) n
unfolding set_bits
without_bit mask k n h = rw h refl

pub no_bits : (mask k : ℕ) → set_bits mask k 0 ≡ []
unfolding set_bits
no_bits mask k = refl

-- ---- a loop over the bits: how many there are

bit_is : (mask k : ℕ) → is_set mask k ≡ true → mask / 2 ^ k % 2 ≡ 1
bit_is mask k h = grind (arith, nat_tests)

bit_is_not : (mask k : ℕ) → is_set mask k ≡ false → mask / 2 ^ k % 2 ≡ 0
bit_is_not mask k h = grind (arith, nat_tests)

next_counted : (b : Bool) (mask k n : ℕ) → is_set mask k ≡ b →
    length (set_bits mask k (suc n)) ≡ mask / 2 ^ k % 2 + length (set_bits mask (k + 1) n)
next_counted true mask k n h =
    let bit = bit_is mask k h in
    ap (λ (xs : List ℕ). length xs) (with_bit mask k n h) ∙ omega arith
next_counted false mask k n h =
    let bit = bit_is_not mask k h in
    ap (λ (xs : List ℕ). length xs) (without_bit mask k n h) ∙ omega arith

pub counted : (mask k so_far all : ℕ) → k < 16 → so_far + length (set_bits mask k (16 - k)) ≡ all →
    so_far + bit_and (mask / 2 ^ k) 1 + length (set_bits mask (k + 1) (16 - (k + 1))) ≡ all
counted mask k so_far all h told =
    let more : 16 - k ≡ suc (16 - (k + 1)) = omega arith in
    let next = ap (λ n. length (set_bits mask k n)) more ∙ next_counted (is_set mask k) mask k (16 - (k + 1)) refl in
    let bit = low_bit (mask / 2 ^ k) in
    omega arith

pub all_counted : (mask k so_far all : ℕ) → 16 ≤ k → so_far + length (set_bits mask k (16 - k)) ≡ all → so_far ≡ all
all_counted mask k so_far all h told =
    let none : 16 - k ≡ 0 = omega arith in
    let left = ap (λ n. length (set_bits mask k n)) none ∙ ap (λ (xs : List ℕ). length xs) (no_bits mask k) in
    omega arith

-- ---- and the transfers of their registers

pub transfer_added : (mode : MovemMode) (mask k step at : ℕ) (so_far all : List Transfer) → k < 16 → bit_and (mask / 2 ^ k) 1 ≢ 0 →
    so_far ++ placed step at (map (number_of mode) (set_bits mask k (16 - k))) ≡ all →
    (so_far ++ record { register = number_of mode k; at = at } ∷ [])
    ++ placed step ((at + step) % 2 ^ 32) (map (number_of mode) (set_bits mask (k + 1) (16 - (k + 1)))) ≡ all
transfer_added mode mask k step at so_far all h bit told =
    let more : 16 - k ≡ suc (16 - (k + 1)) = omega arith in
    let set = ap (set_bits mask k) more ∙ with_bit mask k (16 - (k + 1)) (is_set_of mask k bit) in
    append_assoc so_far _ _ ∙ ap (λ ks. so_far ++ placed step at (map (number_of mode) ks)) (sym set) ∙ told

pub transfer_passed : (mode : MovemMode) (mask k step at : ℕ) (so_far all : List Transfer) → k < 16 → bit_and (mask / 2 ^ k) 1 ≡ 0 →
    so_far ++ placed step at (map (number_of mode) (set_bits mask k (16 - k))) ≡ all →
    so_far ++ placed step at (map (number_of mode) (set_bits mask (k + 1) (16 - (k + 1)))) ≡ all
transfer_passed mode mask k step at so_far all h bit told =
    let more : 16 - k ≡ suc (16 - (k + 1)) = omega arith in
    let set = ap (set_bits mask k) more ∙ without_bit mask k (16 - (k + 1)) (is_clear_of mask k bit) in
    ap (λ ks. so_far ++ placed step at (map (number_of mode) ks)) (sym set) ∙ told

pub all_placed : (mode : MovemMode) (mask k step at : ℕ) (so_far all : List Transfer) → 16 ≤ k →
    so_far ++ placed step at (map (number_of mode) (set_bits mask k (16 - k))) ≡ all → so_far ≡ all
all_placed mode mask k step at so_far all h told =
    let none : 16 - k ≡ 0 = omega arith in
    let left = ap (set_bits mask k) none ∙ no_bits mask k in
    sym (append-nil so_far) ∙ ap (λ ks. so_far ++ placed step at (map (number_of mode) ks)) (sym left) ∙ told

pub at_most_one : (mask k : ℕ) → bit_and (mask / 2 ^ k) 1 ≤ 1
at_most_one mask k = let bit = low_bit (mask / 2 ^ k) in omega arith

pub are_more : (ts : List Transfer) (register at : ℕ) → AreTransfers ts → register < 16 → AreTransfers (ts ++ record { register = register; at = at } ∷ [])
are_more [] register at h r = (r, tt)
are_more (t ∷ ts) register at h r = (h.0, are_more ts register at h.1 r)

length-placed : (step at : ℕ) (rs : List ℕ) → length (placed step at rs) ≡ length rs
length-placed step at [] = refl
length-placed step at (r ∷ rs) = ap (λ n. suc n) (length-placed step ((at + step) % 2 ^ 32) rs)

-- there are as many transfers as the mask names registers
pub length-transfers : (m : Movem) (ea : ℕ) → length (transfers_of m ea) ≡ count_of m.mask
length-transfers m ea =
    length-placed (transfer_step m.mode (bytes_of m.size)) ea (map (number_of m.mode) (set_bits m.mask 0 16))
    ∙ length-map (set_bits m.mask 0 16) (number_of m.mode)

pub are_after : (n : ℕ) (ts : List Transfer) → AreTransfers ts → AreTransfers (drop n ts)
are_after zero ts h = h
are_after (suc n) [] h = tt
are_after (suc n) (t ∷ ts) h = are_after n ts h.1
