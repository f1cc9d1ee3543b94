-- What the lexemes of register lists are read as.
use Rattle.std.proofs.Common.{◌≡◌, ℕ, zero, suc, ◌+◌, ◌-◌, ◌*◌, ◌/◌, ◌%◌, ◌^◌, ◌≤◌, ◌<◌, Bool, true}
use Rattle.std.proofs.Common.{false, List, [], ◌∷◌, ◌++◌, length, refl, sym, subst, ap, ◌∙◌, arith, pow-suc}
use Rattle.std.specs.Prelude.{◌==◌, ◌&&◌, ◌||◌, not, nat_lt, Option, Some, None, if◌then◌else◌, bit_or}
use Rattle.std.proofs.lemmas.Bool.{eqb-true}
use Rattle.std.proofs.lemmas.Bool.Decides.{nat_tests}
use Rattle.mb_syntax.specs.declared.word.Name.{Name}
use Rattle.mb_syntax.specs.declared.word.Word.{Word}
use Rattle.mb_syntax.specs.declared.word.Word.TheVariants as word
use Rattle.mb_syntax.specs.declared.register.Register.{Register}
use Rattle.mb_syntax.specs.declared.register.Register.TheVariants as register
use Rattle.std.proofs.lemmas.Nat.{mod-pow-add, or_comm, or_shifted, pow_pos}
use Rattle.mb_syntax.specs.Operands.{general_of, is_range, list_behind, operand_among, operand_at, range, special_of}
use Rattle.mb_syntax.specs.declared.operand.Operand.TheVariants as operand
use Rattle.mb_statement.specs.Texts.{begins, ends, has}
use Rattle.mb_statement.specs.Written.{is_list}
use Rattle.mb_statement.proofs.Lexemes.{Lexeme, said}
use Rattle.mb_statement.proofs.Spelled.{reg, register_bytes, minus, slash}

-- 0 to 7 are D0 to D7, 8 to 15 are A0 to A7
abbrev pub register_numbered : ℕ → Register
register_numbered n = if nat_lt n 8 then register.Data n else register.Address (n - 8)

abbrev pub listed_lexemes : ℕ → ℕ → List Lexeme
listed_lexemes mask n =
    if begins mask n then (if mask % 2 ^ n == 0 then [] else slash ∷ []) ++ reg (register_numbered n) ∷ []
    else if ends mask n then minus ∷ reg (register_numbered n) ∷ []
    else []

-- registers from one on, so many
unfoldable pub lexemes_from : ℕ → ℕ → ℕ → List Lexeme
lexemes_from mask n zero = []
lexemes_from mask n (suc more) = listed_lexemes mask n ++ lexemes_from mask (n + 1) more

abbrev pub list_lexemes : ℕ → List Lexeme
list_lexemes mask = lexemes_from mask 0 16

-- Words behind a list whose registers are these: no more, or a slash and the rest of the list.
pub data Left (mask acc : ℕ) (behind words : List Word) : Type 0 where
  Done : mask ≡ acc → words ≡ behind → Left mask acc behind words
  More : (others : List Word) → words ≡ word.Slash ∷ others → list_behind acc others ≡ Some (mask, behind) → Left mask acc behind words

-- ---- a range and what stands behind it

-- a list does not go on behind a register
abbrev pub ends_list : List Word → Bool
ends_list (word.Minus ∷ words) = false
ends_list (word.Slash ∷ words) = false
ends_list _ = true

single_last : (acc more : ℕ) (r : Register) (place : Name) (behind : List Word) → range r r ≡ Some more → ends_list behind ≡ true
    → list_behind acc (word.Register r place ∷ behind) ≡ Some (bit_or acc more, behind)
single_last acc more r place [] e h = rw e refl
single_last acc more r place (word.Minus ∷ words) e h = absurd cc
single_last acc more r place (word.Slash ∷ words) e h = absurd cc
single_last acc more r place (first ∷ words) e h = rw e refl

range_last : (acc more : ℕ) (r t : Register) (place other : Name) (behind : List Word) → range r t ≡ Some more → ends_list behind ≡ true
    → list_behind acc (word.Register r place ∷ word.Minus ∷ word.Register t other ∷ behind) ≡ Some (bit_or acc more, behind)
range_last acc more r t place other [] e h = rw e refl
range_last acc more r t place other (word.Minus ∷ words) e h = absurd cc
range_last acc more r t place other (word.Slash ∷ words) e h = absurd cc
range_last acc more r t place other (first ∷ words) e h = rw e refl

-- one register before what is left
single_read : (mask acc more : ℕ) (r : Register) (place : Name) (behind words : List Word) → range r r ≡ Some more → ends_list behind ≡ true
    → Left mask (bit_or acc more) behind words → list_behind acc (word.Register r place ∷ words) ≡ Some (mask, behind)
single_read mask acc more r place behind words e h (Done m w) = rw (w, m) (single_last acc more r place behind e h)
single_read mask acc more r place behind words e h (More others w rest) = rw (w, e) rest

-- the registers from one to another before what is left
range_read : (mask acc more : ℕ) (r t : Register) (place other : Name) (behind words : List Word) → range r t ≡ Some more → ends_list behind ≡ true
    → Left mask (bit_or acc more) behind words
    → list_behind acc (word.Register r place ∷ word.Minus ∷ word.Register t other ∷ words) ≡ Some (mask, behind)
range_read mask acc more r t place other behind words e h (Done m w) = rw (w, m) (range_last acc more r t place other behind e h)
range_read mask acc more r t place other behind words e h (More others w rest) = rw (w, e) rest

-- ---- registers by their numbers

numbered_by : (n : ℕ) (low : Bool) → nat_lt n 8 ≡ low → n < 16 → general_of (if low then register.Data n else register.Address (n - 8)) ≡ Some n
numbered_by n true e h = rw e refl
numbered_by n false e h =
    let small : nat_lt (n - 8) 8 ≡ true = grind (arith, nat_tests) in
    let whole : 8 + (n - 8) ≡ n = grind (arith, nat_tests) in
    rw (small, whole) refl

pub numbered_general : (n : ℕ) → n < 16 → general_of (register_numbered n) ≡ Some n
numbered_general n h = numbered_by n (nat_lt n 8) refl h

range_is : (b n : ℕ) → b ≤ n → n < 16 → b / 8 ≡ n / 8 → is_range b n ≡ true
range_is b n order small half = grind (arith, nat_tests)

range_numbered : (b n : ℕ) → b ≤ n → n < 16 → b / 8 ≡ n / 8 → range (register_numbered b) (register_numbered n) ≡ Some (2 ^ (n + 1) - 2 ^ b)
range_numbered b n order small half =
    rw (numbered_general b (omega arith), numbered_general n small, range_is b n order small half) refl

-- ---- the bits of a list, one register after another

-- registers from one to another beside those before them
joined : (mask b n : ℕ) → b ≤ n → mask % 2 ^ (n + 1) ≡ mask % 2 ^ b + (2 ^ (n + 1) - 2 ^ b)
    → bit_or (mask % 2 ^ b) (2 ^ (n + 1) - 2 ^ b) ≡ mask % 2 ^ (n + 1)
joined mask b n order sum =
    let j = n + 1 - b in
    let q = mask / 2 ^ b % 2 ^ j in
    let places : j + b ≡ n + 1 = omega arith in
    let split : mask % 2 ^ (n + 1) ≡ q * 2 ^ b + mask % 2 ^ b = rw places at (mod-pow-add mask j b) in
    let positive = pow_pos b in
    let small : mask % 2 ^ b < 2 ^ b = omega (arith, positive) in
    let high : 2 ^ (n + 1) - 2 ^ b ≡ q * 2 ^ b = omega (arith, sum, split) in
    rw (high, or_comm (mask % 2 ^ b) (q * 2 ^ b), or_shifted q b (mask % 2 ^ b) small) (sym split)

pub bit_more : (mask n : ℕ) → mask % 2 ^ (n + 1) ≡ (mask / 2 ^ n % 2) * 2 ^ n + mask % 2 ^ n
bit_more mask n = let e : 1 + n ≡ n + 1 = omega arith in rw e at (mod-pow-add mask 1 n)

without : (mask n : ℕ) → has mask n ≡ false → mask % 2 ^ (n + 1) ≡ mask % 2 ^ n
without mask n h =
    let zero_bit : mask / 2 ^ n % 2 ≡ 0 = grind (arith, nat_tests) in
    let none : mask % 2 ^ (n + 1) ≡ 0 * 2 ^ n + mask % 2 ^ n = rw zero_bit at (bit_more mask n) in
    omega arith

pub with_one : (mask n : ℕ) → has mask n ≡ true → mask % 2 ^ (n + 1) ≡ mask % 2 ^ n + (2 ^ (n + 1) - 2 ^ n)
with_one mask n h =
    let one_bit : mask / 2 ^ n % 2 ≡ 1 = grind (arith, nat_tests) in
    let double : 2 ^ suc n ≡ 2 ^ n * 2 = pow-suc 2 n in
    let e : n + 1 ≡ suc n = omega arith in
    let more : mask % 2 ^ (n + 1) ≡ 1 * 2 ^ n + mask % 2 ^ n = rw one_bit at (bit_more mask n) in
    let twice : 2 ^ (n + 1) ≡ 2 ^ n * 2 = rw e double in
    omega arith

-- ---- what is left of a list

-- What is left of a list from a register on, behind those before it: nothing, a first one, or more behind a slash.
data Opens (mask acc : ℕ) (behind words : List Word) : Type 0 where
  Empty : mask ≡ acc → words ≡ behind → Opens mask acc behind words
  First : (n : ℕ) (place : Name) (others : List Word) → acc ≡ 0 → n < 16 → words ≡ word.Register (register_numbered n) place ∷ others
      → list_behind acc words ≡ Some (mask, behind) → Opens mask acc behind words
  Further : (others : List Word) → 0 < acc → words ≡ word.Slash ∷ others → list_behind acc others ≡ Some (mask, behind) → Opens mask acc behind words

-- behind some register
left_of : (mask acc : ℕ) (behind words : List Word) → 0 < acc → Opens mask acc behind words → Left mask acc behind words
left_of mask acc behind words some (Empty m w) = Done m w
left_of mask acc behind words some (First n place others none small w read) = absurd (omega arith)
left_of mask acc behind words some (Further others before w read) = More others w read

-- a register that is listed is the first of its run
abbrev BeginsWhereListed : ℕ → ℕ → Type 0
BeginsWhereListed mask n = has mask n ≡ true → ((n % 8 == 0) || not (has mask (n - 1))) ≡ true

-- a run that goes on with a register
record GoesOn (mask b n : ℕ) : Type 0 where
  order : b < n
  listed : has mask n ≡ true
  listed_before : has mask (n - 1) ≡ true
  inner : (n % 8 == 0) ≡ false
  half : b / 8 ≡ n / 8
  least : 2 ^ b ≤ 2 ^ n
  bits : mask % 2 ^ n ≡ mask % 2 ^ b + (2 ^ n - 2 ^ b)

-- what the registers from one on, so many, are read as behind others
record Rest (mask n more : ℕ) (behind : List Word) : Type 0 where
  closed : (p : ℕ) → BeginsWhereListed mask n → Opens mask (mask % 2 ^ n) behind (said (lexemes_from mask n more) p behind)
  open_run : (b p : ℕ) (place : Name) → GoesOn mask b n
      → list_behind (mask % 2 ^ b) (word.Register (register_numbered b) place ∷ said (lexemes_from mask n more) p behind) ≡ Some (mask, behind)

or_true : (a : Bool) → (a || true) ≡ true
or_true true = refl
or_true false = refl

pub double : (n : ℕ) → 2 ^ (n + 1) ≡ 2 ^ n * 2
double n = let e : n + 1 ≡ suc n = omega arith in rw e (pow-suc 2 n)

not_first : (mask n : ℕ) → has mask n ≡ false → BeginsWhereListed mask (n + 1)
not_first mask n h listed = let e : n + 1 - 1 ≡ n = omega arith in rw (e, h) (or_true ((n + 1) % 8 == 0))

-- behind the last register of a run
last_by : (eight next : Bool) → (eight || not next) ≡ true → next ≡ true → eight ≡ true
last_by true next h e = refl
last_by false true h e = absurd cc
last_by false false h e = absurd cc

and_so : (a b c : Bool) → a ≡ true → (a && b) ≡ c → b ≡ c
and_so true b c h e = e
and_so false b c h e = absurd cc

behind_last : (mask n : ℕ) → has mask n ≡ true → ends mask n ≡ true → BeginsWhereListed mask (n + 1)
behind_last mask n h e listed =
    let parts : ((n % 8 == 7) || not (has mask (n + 1))) ≡ true = and_so (has mask n) _ true h e in
    let seven : (n % 8 == 7) ≡ true = last_by (n % 8 == 7) (has mask (n + 1)) parts listed in
    let zero_so : ((n + 1) % 8 == 0) ≡ true = grind (arith, nat_tests) in
    rw zero_so refl

neither : (a b : Bool) → (a || not b) ≡ false → (a ≡ false) × (b ≡ true)
neither true b h = absurd cc
neither false true h = (refl, refl)
neither false false h = absurd cc

-- a run goes on with the next register
on_with : (mask b n : ℕ) → b ≤ n → b / 8 ≡ n / 8 → has mask n ≡ true → ends mask n ≡ false → 2 ^ b ≤ 2 ^ n
    → mask % 2 ^ (n + 1) ≡ mask % 2 ^ b + (2 ^ (n + 1) - 2 ^ b) → GoesOn mask b (n + 1)
on_with mask b n order half h e least bits =
    let parts = neither (n % 8 == 7) (has mask (n + 1)) (and_so (has mask n) _ false h e) in
    let no_seven : (n % 8 == 7) ≡ false = parts.0 in
    let same : n + 1 - 1 ≡ n = omega arith in
    let twice = double n in
    record {
      order = omega arith;
      listed = parts.1;
      listed_before = rw same h;
      inner = grind (arith, nat_tests);
      half = half ∙ grind (arith, nat_tests);
      least = omega arith;
      bits = bits;
    }

one_read : (mask n more q : ℕ) (place : Name) (behind : List Word) (last : Bool) → n < 16 → ends_list behind ≡ true → has mask n ≡ true
    → Rest mask (n + 1) more behind → ends mask n ≡ last
    → list_behind (mask % 2 ^ n) (word.Register (register_numbered n) place ∷ said (lexemes_from mask (n + 1) more) q behind) ≡ Some (mask, behind)
one_read mask n more q place behind true small stop h rest e =
    let bits = with_one mask n h in
    let twice = double n in
    let positive = pow_pos n in
    let some : 0 < mask % 2 ^ (n + 1) = omega arith in
    let left = left_of mask (mask % 2 ^ (n + 1)) behind (said (lexemes_from mask (n + 1) more) q behind) some (rest.closed q (behind_last mask n h e)) in
    single_read mask (mask % 2 ^ n) (2 ^ (n + 1) - 2 ^ n) (register_numbered n) place behind (said (lexemes_from mask (n + 1) more) q behind)
    (range_numbered n n (omega arith) small refl) stop (rw (joined mask n n (omega arith) bits) left)
one_read mask n more q place behind false small stop h rest e =
    rest.open_run n q place (on_with mask n n (omega arith) refl h e (omega arith) (with_one mask n h))

-- a register's name from a place on
abbrev end_of : ℕ → ℕ → ℕ
end_of p n = p + length (register_bytes (register_numbered n))

abbrev name_from : ℕ → ℕ → Name
name_from p n = record { start = p; end = end_of p n }

-- what is left from a register that is listed, by whether others stand before it
listed_opens : (mask n more p : ℕ) (behind : List Word) (none : Bool) → n < 16 → ends_list behind ≡ true → has mask n ≡ true
    → Rest mask (n + 1) more behind → (mask % 2 ^ n == 0) ≡ none
    → Opens mask (mask % 2 ^ n) behind
    (said (((if none then [] else slash ∷ []) ++ reg (register_numbered n) ∷ []) ++ lexemes_from mask (n + 1) more) p behind)
listed_opens mask n more p behind true small stop h rest e =
    First n (name_from p n) (said (lexemes_from mask (n + 1) more) (end_of p n) behind) (eqb-true (mask % 2 ^ n) 0 e) small refl
    (one_read mask n more (end_of p n) (name_from p n) behind (ends mask n) small stop h rest refl)
listed_opens mask n more p behind false small stop h rest e =
    let before : 0 < mask % 2 ^ n = grind (arith, nat_tests) in
    Further (word.Register (register_numbered n) (name_from (p + 1) n) ∷ said (lexemes_from mask (n + 1) more) (end_of (p + 1) n) behind) before refl
    (one_read mask n more (end_of (p + 1) n) (name_from (p + 1) n) behind (ends mask n) small stop h rest refl)

closed_by : (mask n more p : ℕ) (behind : List Word) (h : Bool) → n < 16 → ends_list behind ≡ true → Rest mask (n + 1) more behind
    → BeginsWhereListed mask n → has mask n ≡ h
    → Opens mask (mask % 2 ^ n) behind (said (lexemes_from mask n (suc more)) p behind)
unfolding lexemes_from
closed_by mask n more p behind false small stop rest first h =
    rw (h, ← without mask n h) (rest.closed p (not_first mask n h))
closed_by mask n more p behind true small stop rest first h =
    let starts : ((n % 8 == 0) || not (has mask (n - 1))) ≡ true = first h in
    rw (h, starts) (listed_opens mask n more p behind (mask % 2 ^ n == 0) small stop h rest refl)

open_by : (mask n more b p : ℕ) (place : Name) (behind : List Word) (last : Bool) → n < 16 → ends_list behind ≡ true → Rest mask (n + 1) more behind
    → GoesOn mask b n → ends mask n ≡ last
    → list_behind (mask % 2 ^ b) (word.Register (register_numbered b) place ∷ said (lexemes_from mask n (suc more)) p behind) ≡ Some (mask, behind)
unfolding lexemes_from
open_by mask n more b p place behind true small stop rest on e =
    let one = with_one mask n on.listed in
    let twice = double n in
    let least = on.least in
    let so_far = on.bits in
    let positive = pow_pos n in
    let bits : mask % 2 ^ (n + 1) ≡ mask % 2 ^ b + (2 ^ (n + 1) - 2 ^ b) = omega arith in
    let order : b ≤ n = (let o = on.order in omega arith) in
    let some : 0 < mask % 2 ^ (n + 1) = omega arith in
    let left = left_of mask (mask % 2 ^ (n + 1)) behind (said (lexemes_from mask (n + 1) more) (end_of (p + 1) n) behind) some
    (rest.closed (end_of (p + 1) n) (behind_last mask n on.listed e)) in
    rw (on.listed, on.inner, on.listed_before, and_so (has mask n) _ true on.listed e)
    (range_read mask (mask % 2 ^ b) (2 ^ (n + 1) - 2 ^ b) (register_numbered b) (register_numbered n) place (name_from (p + 1) n) behind
    (said (lexemes_from mask (n + 1) more) (end_of (p + 1) n) behind)
    (range_numbered b n order small on.half) stop (rw (joined mask b n order bits) left))
open_by mask n more b p place behind false small stop rest on e =
    let one = with_one mask n on.listed in
    let twice = double n in
    let least = on.least in
    let so_far = on.bits in
    let bits : mask % 2 ^ (n + 1) ≡ mask % 2 ^ b + (2 ^ (n + 1) - 2 ^ b) = omega arith in
    let order : b ≤ n = (let o = on.order in omega arith) in
    rw (on.listed, on.inner, on.listed_before, and_so (has mask n) _ false on.listed e)
    (rest.open_run b p place (on_with mask b n order on.half on.listed e least bits))

rest_read : (mask n more : ℕ) (behind : List Word) → mask < 2 ^ 16 → n + more ≡ 16 → ends_list behind ≡ true → Rest mask n more behind
unfolding lexemes_from
rest_read mask n zero behind small whole stop = record {
  closed = λ p first.
      let last : n ≡ 16 = omega arith in
      let all : mask % 2 ^ n ≡ mask = rw last (omega arith) in
      Empty (sym all) refl;
  open_run = λ b p place on.
      let last : n ≡ 16 = omega arith in
      let inner = on.inner in
      absurd (grind (arith, nat_tests));
}
rest_read mask n (suc more) behind small whole stop =
    let rest = rest_read mask (n + 1) more behind small (omega arith) stop in
    let below : n < 16 = omega arith in
    record {
      closed = λ p first. closed_by mask n more p behind (has mask n) below stop rest first refl;
      open_run = λ b p place on. open_by mask n more b p place behind (ends mask n) below stop rest on refl;
    }

-- the whole list, behind none
none_before : (mask : ℕ) → BeginsWhereListed mask 0
none_before mask listed = refl

-- one register is no list
one_bit : (n : ℕ) → n < 16 → is_list (bit_or 0 (2 ^ (n + 1) - 2 ^ n)) ≡ false
unfolding lib.Count.ones
one_bit zero h = refl
one_bit (suc zero) h = refl
one_bit (suc (suc zero)) h = refl
one_bit (suc (suc (suc zero))) h = refl
one_bit (suc (suc (suc (suc zero)))) h = refl
one_bit (suc (suc (suc (suc (suc zero))))) h = refl
one_bit (suc (suc (suc (suc (suc (suc zero)))))) h = refl
one_bit (suc (suc (suc (suc (suc (suc (suc zero))))))) h = refl
one_bit (suc (suc (suc (suc (suc (suc (suc (suc zero)))))))) h = refl
one_bit (suc (suc (suc (suc (suc (suc (suc (suc (suc zero))))))))) h = refl
one_bit (suc (suc (suc (suc (suc (suc (suc (suc (suc (suc zero)))))))))) h = refl
one_bit (suc (suc (suc (suc (suc (suc (suc (suc (suc (suc (suc zero))))))))))) h = refl
one_bit (suc (suc (suc (suc (suc (suc (suc (suc (suc (suc (suc (suc zero)))))))))))) h = refl
one_bit (suc (suc (suc (suc (suc (suc (suc (suc (suc (suc (suc (suc (suc zero))))))))))))) h = refl
one_bit (suc (suc (suc (suc (suc (suc (suc (suc (suc (suc (suc (suc (suc (suc zero)))))))))))))) h = refl
one_bit (suc (suc (suc (suc (suc (suc (suc (suc (suc (suc (suc (suc (suc (suc (suc zero))))))))))))))) h = refl
one_bit (suc (suc (suc (suc (suc (suc (suc (suc (suc (suc (suc (suc (suc (suc (suc (suc n)))))))))))))))) h = absurd (omega arith)

no_special : (n : ℕ) (low : Bool) → special_of (if low then register.Data n else register.Address (n - 8)) ≡ None
no_special n true = refl
no_special n false = refl

first_same : (a b : ℕ) (x y : List Word) → ◌≡◌ {A = Option (ℕ × List Word)} (Some (a, x)) (Some (b, y)) → a ≡ b
first_same a b x y e = ap (λ (o : Option (ℕ × List Word)). elim o [ None ↦ 0 | Some pair ↦ pair.0 ]) e

no_list : is_list 0 ≡ false
unfolding lib.Count.ones
no_list = refl

-- where a list is read that begins with a register, it is the operand
is_operand_list : (caches : Bool) (mask n : ℕ) (place : Name) (others behind : List Word) → n < 16 → is_list mask ≡ true
    → list_behind 0 (word.Register (register_numbered n) place ∷ others) ≡ Some (mask, behind)
    → operand_among caches (word.Register (register_numbered n) place ∷ others) ≡ Some (operand.List mask, behind)
unfolding operand_at
is_operand_list true mask n place (word.Minus ∷ others) behind small h e = rw (no_special n (nat_lt n 8), e) refl
is_operand_list false mask n place (word.Minus ∷ others) behind small h e = rw (no_special n (nat_lt n 8), e) refl
is_operand_list true mask n place (word.Slash ∷ others) behind small h e = rw (no_special n (nat_lt n 8), e) refl
is_operand_list false mask n place (word.Slash ∷ others) behind small h e = rw (no_special n (nat_lt n 8), e) refl
is_operand_list caches mask n place [] behind small h e =
    let one : ◌≡◌ {A = Option (ℕ × List Word)} (Some (bit_or 0 (2 ^ (n + 1) - 2 ^ n), [])) (Some (mask, behind)) =
    rw (range_numbered n n (omega arith) small refl) at e in
    let same : bit_or 0 (2 ^ (n + 1) - 2 ^ n) ≡ mask = first_same (bit_or 0 (2 ^ (n + 1) - 2 ^ n)) mask [] behind one in
    absurd (let f : false ≡ true = sym (one_bit n small) ∙ ap is_list same ∙ h in cc)
is_operand_list caches mask n place (first ∷ others) behind small h e =
    let one : ◌≡◌ {A = Option (ℕ × List Word)} (Some (bit_or 0 (2 ^ (n + 1) - 2 ^ n), first ∷ others)) (Some (mask, behind)) =
    rw (range_numbered n n (omega arith) small refl) at e in
    let same : bit_or 0 (2 ^ (n + 1) - 2 ^ n) ≡ mask = first_same (bit_or 0 (2 ^ (n + 1) - 2 ^ n)) mask (first ∷ others) behind one in
    absurd (let f : false ≡ true = sym (one_bit n small) ∙ ap is_list same ∙ h in cc)

whole_by : (caches : Bool) (mask : ℕ) (behind words : List Word) → is_list mask ≡ true → Opens mask 0 behind words
    → operand_among caches words ≡ Some (operand.List mask, behind)
whole_by caches mask behind words h (Empty m w) = absurd (let e : is_list 0 ≡ true = rw m at h in let f : false ≡ true = sym no_list ∙ e in cc)
whole_by caches mask behind words h (First n place others none small w read) =
    rw w (is_operand_list caches mask n place others behind small h (rw w at read))
whole_by caches mask behind words h (Further others before w read) = absurd (omega arith)

below_2_16 : (mask : ℕ) → is_list mask ≡ true → mask < 2 ^ 16
below_2_16 mask h = grind (arith, nat_tests)

pub list_read : (caches : Bool) (mask p : ℕ) (behind : List Word) → is_list mask ≡ true → ends_list behind ≡ true
    → operand_among caches (said (list_lexemes mask) p behind) ≡ Some (operand.List mask, behind)
list_read caches mask p behind h stop =
    let none : mask % 2 ^ 0 ≡ 0 = omega arith in
    let opens : Opens mask (mask % 2 ^ 0) behind (said (list_lexemes mask) p behind) =
    (rest_read mask 0 16 behind (below_2_16 mask h) refl stop).closed p (none_before mask) in
    let from_none : Opens mask 0 behind (said (list_lexemes mask) p behind) =
    subst (λ (acc : ℕ). Opens mask acc behind (said (list_lexemes mask) p behind)) none opens in
    whole_by caches mask behind (said (list_lexemes mask) p behind) h from_none
