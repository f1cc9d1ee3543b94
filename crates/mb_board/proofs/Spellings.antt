-- What numbers spell, as machine words sum it.
use Rattle.std.specs.Prelude.{All}
use Rattle.std.proofs.Common.{◌≡◌, ◌∙◌, ℕ, ◌+◌, ◌-◌, ◌*◌, ◌%◌, ◌^◌, ◌<◌, List, [], ◌∷◌, ◌++◌, length, get_or, length-append, ap, sym, zero-mul, arith}
use Rattle.mb_instr.specs.declared.registers.Plain.{Plain}
use Rattle.def_runs.specs.Marks.{numbers_of, sum_with_all, spelled, with_spelled, trail, HasNumbers}
use Rattle.std.proofs.Math.Nat.{mul_assoc}
use Rattle.std.proofs.lemmas.Nat.{mul-mod_second, pow-add}
use Rattle.def_runs.proofs.Spellings.{sum-spells, numbers-append, trails-by_spelling}
use Rattle.def_runs.specs.Native.{NativeState, with_retired}
use Rattle.mb_board.specs.Spelling.{gathered, step_places, Begins, Spell}

eight : (t a b c d e f g h : ℕ) → t < 2 ^ 64
    → ((t * 852891037441 % 2 ^ 64 + a * 27512614111 % 2 ^ 64) % 2 ^ 64
    + (b * 887503681 + c * 28629151 + d * 923521 + e * 29791 + f * 961 + g * 31 + h)) % 2 ^ 64
    ≡ sum_with_all t (a ∷ b ∷ c ∷ d ∷ e ∷ f ∷ g ∷ h ∷ [])
eight t a b c d e f g h less =
    let powers : (t * 31 ^ 8 + spelled (a ∷ b ∷ c ∷ d ∷ e ∷ f ∷ g ∷ h ∷ [])) % 2 ^ 64
    ≡ ((t * 852891037441 % 2 ^ 64 + a * 27512614111 % 2 ^ 64) % 2 ^ 64
    + (b * 887503681 + c * 28629151 + d * 923521 + e * 29791 + f * 961 + g * 31 + h)) % 2 ^ 64 = omega arith in
    sym (sum-spells (a ∷ b ∷ c ∷ d ∷ e ∷ f ∷ g ∷ h ∷ []) t less ∙ powers)

-- eight numbers at once, by the powers of 31
pub eight-at_once : (t : ℕ) (xs : List ℕ) → length xs ≡ 8 → t < 2 ^ 64
    → ((t * 852891037441 % 2 ^ 64 + get_or xs 0 0 * 27512614111 % 2 ^ 64) % 2 ^ 64
    + (get_or xs 1 0 * 887503681 + get_or xs 2 0 * 28629151 + get_or xs 3 0 * 923521 + get_or xs 4 0 * 29791 + get_or xs 5 0 * 961
    + get_or xs 6 0 * 31 + get_or xs 7 0)) % 2 ^ 64
    ≡ sum_with_all t xs
eight-at_once t (a ∷ b ∷ c ∷ d ∷ e ∷ f ∷ g ∷ h ∷ []) n less = eight t a b c d e f g h less
eight-at_once t _ n less = absurd (omega arith)

-- two numbers at once
pub two-at_once : (t pc ccr : ℕ) → (t * 961 % 2 ^ 64 + (pc * 31 + ccr)) % 2 ^ 64 ≡ sum_with_all t (pc ∷ ccr ∷ [])
two-at_once t pc ccr = omega arith

remainder_of : (x y : ℕ) → x % 2 ^ 64 ≡ (0 * y + x) % 2 ^ 64
remainder_of x y = ap (λ (z : ℕ). z % 2 ^ 64) (let e : x ≡ 0 * y + x = omega (arith, zero-mul y) in e)

pub has_eighteen : (p : Plain) → length p.d ≡ 8 → length p.a ≡ 8 → HasNumbers p
has_eighteen p d a =
    length-append (p.d ++ p.a) (p.pc ∷ p.ccr ∷ [])
    ∙ ap (λ (n : ℕ). n + 2) (length-append p.d p.a ∙ ap (λ (n : ℕ). n + length p.a) d ∙ ap (λ (n : ℕ). 8 + n) a)

-- what registers spell is the sum over all their numbers
pub sum-is_spelled : (p : Plain) (sum front whole : ℕ) → length p.d ≡ 8 → length p.a ≡ 8 → All (λ v. v < 2 ^ 32) p.d
    → All (λ v. v < 2 ^ 32) p.a → p.pc < 2 ^ 32 → front ≡ sum_with_all 0 p.d
    → whole ≡ sum_with_all front p.a → sum ≡ (whole * 961 % 2 ^ 64 + (p.pc * 31 + p.ccr)) % 2 ^ 64 → Spell p sum
sum-is_spelled p sum front whole n m x y counter d a e =
    let tail = p.pc ∷ p.ccr ∷ [] in
    let all = numbers_of p in
    let behind : whole ≡ sum_with_all (sum_with_all 0 p.d) p.a = a ∙ ap (λ (t : ℕ). sum_with_all t p.a) d in record {
      numbers = has_eighteen p n m;
      fit = record { longs = (x, y); eight = m; counter = counter };
      remainder =
          e ∙ two-at_once whole p.pc p.ccr ∙ ap (λ (t : ℕ). sum_with_all t tail) behind
          ∙ ap (λ (t : ℕ). sum_with_all t tail) (sym (numbers-append 0 p.d p.a)) ∙ sym (numbers-append 0 (p.d ++ p.a) tail)
          ∙ sum-spells all 0 (omega arith) ∙ sym (remainder_of (spelled all) (31 ^ length all));
    }

-- 31 to the 18 counts by its remainder
pub places : (t s : ℕ) → (t * 12439396676277002689 % 2 ^ 64 + s) % 2 ^ 64 ≡ with_spelled t s
places t s = omega arith

-- a spelling counts by its remainder
pub with-remainder : (t s : ℕ) → with_spelled t (s % 2 ^ 64) ≡ with_spelled t s
with-remainder t s = omega arith

-- a trail without the spelling behind it
pub back : (t s trail : ℕ) → t < 2 ^ 64 → s < 2 ^ 64 → trail ≡ with_spelled t s
    → (trail + (2 ^ 64 - s)) % 2 ^ 64 * 11621620356712541761 % 2 ^ 64 ≡ t
back t s trail less within e = omega (arith, less, within, e)

-- the trail by what is kept of the spellings
pub trail-by_spellings : (t beginning end : ℕ) (p q : Plain) → Spell p beginning → Spell q end → t < 2 ^ 64
    → with_spelled (with_spelled t beginning) end ≡ trail t (p ∷ q ∷ [])
trail-by_spellings t beginning end p q f g h =
    ap (λ (s : ℕ). with_spelled (with_spelled t s) end) f.remainder
    ∙ ap (λ (x : ℕ). with_spelled x end) (with-remainder t (spelled (numbers_of p)))
    ∙ ap (λ (s : ℕ). with_spelled (with_spelled t (spelled (numbers_of p))) s) g.remainder
    ∙ with-remainder (with_spelled t (spelled (numbers_of p))) (spelled (numbers_of q))
    ∙ sym (trails-by_spelling t p q f.numbers g.numbers h)

-- ---- a trail with the registers at which a step begins

pub begins : (p : Plain) (native : NativeState) (s trail : ℕ) → Spell p s → native.trail < 2 ^ 64 → trail ≡ with_spelled native.trail s
    → Begins p native trail
begins p native s trail h small e = record {
  numbers = h.numbers;
  fit = h.fit;
  small = small;
  entered = e ∙ ap (λ (x : ℕ). with_spelled native.trail x) h.remainder ∙ with-remainder native.trail (spelled (numbers_of p));
}

pub begins_again : (p q : Plain) (native : NativeState) (end trail after : ℕ) → Begins p native trail → Spell q end
    → after ≡ with_spelled (with_spelled trail end) end → Begins q (with_retired p q native) after
begins_again p q native end trail after b h e =
    let s = spelled (numbers_of q) in
    let so_far = trails-by_spelling native.trail p q b.numbers h.numbers b.small in record {
      numbers = h.numbers;
      fit = h.fit;
      small = (omega (arith, so_far));
      entered =
          e ∙ ap (λ (x : ℕ). with_spelled (with_spelled trail x) x) h.remainder
          ∙ ap (λ (x : ℕ). with_spelled x (s % 2 ^ 64)) (with-remainder trail s) ∙ with-remainder (with_spelled trail s) s
          ∙ ap (λ (x : ℕ). with_spelled (with_spelled x s) s) b.entered ∙ ap (λ (x : ℕ). with_spelled x s) (sym so_far);
    }

pub begun_back : (p : Plain) (native : NativeState) (s trail : ℕ) → Begins p native trail → Spell p s
    → (trail + (2 ^ 64 - s)) % 2 ^ 64 * 11621620356712541761 % 2 ^ 64 ≡ native.trail
begun_back p native s trail b h =
    let less : s < 2 ^ 64 = let e = h.remainder in omega (arith, e) in
    back native.trail s trail b.small less
    (b.entered ∙ sym (with-remainder native.trail (spelled (numbers_of p))) ∙ ap (λ (x : ℕ). with_spelled native.trail x) (sym h.remainder))

-- ---- the ends of steps by themselves

moved : (x ends end : ℕ) → (x * 17799023633837314945 + (ends * 17799023633837314945 % 2 ^ 64 + end) % 2 ^ 64 * (31 ^ 18 + 1)) % 2 ^ 64
    ≡ with_spelled (with_spelled ((x + ends * (31 ^ 18 + 1)) % 2 ^ 64) end) end
moved x ends end = omega arith

-- the trail with one more end
pub gathered_on : (begun steps ends end : ℕ) → gathered begun (steps + 1) ((ends * 17799023633837314945 % 2 ^ 64 + end) % 2 ^ 64)
    ≡ with_spelled (with_spelled (gathered begun steps ends) end) end
gathered_on begun steps ends end =
    let power : begun * step_places ^ (steps + 1) ≡ begun * step_places ^ steps * 17799023633837314945 =
    ap (λ (x : ℕ). begun * x) (pow-add step_places steps 1) ∙ sym (mul_assoc begun (step_places ^ steps) 17799023633837314945) in
    ap (λ (x : ℕ). (x + (ends * 17799023633837314945 % 2 ^ 64 + end) % 2 ^ 64 * (31 ^ 18 + 1)) % 2 ^ 64) power ∙ moved (begun * step_places ^ steps) ends end

pub gathered_none : (begun : ℕ) → begun < 2 ^ 64 → gathered begun 0 0 ≡ begun
gathered_none begun less = omega (arith, less)

pub gathers : (begun power ends : ℕ) → (begun * (power % 2 ^ 64) % 2 ^ 64 + ends * 12439396676277002690 % 2 ^ 64) % 2 ^ 64
    ≡ (begun * power + ends * (31 ^ 18 + 1)) % 2 ^ 64
gathers begun power ends =
    let e = mul-mod_second begun power (2 ^ 64) in omega (arith, e)

pub ruleset sums = (gathers)

pub ruleset spellings = (eight-at_once)
