-- Pages that are left, digit by digit.
use Rattle.std.proofs.Common.{◌≡◌, ℕ, suc, ◌+◌, ◌-◌, ◌*◌, ◌^◌, ◌<◌, Bool, true, false, ap, subst, ◌∙◌, arith}
use Rattle.std.specs.Prelude.{◌||◌}
use Rattle.mb_spelling.specs.Hex.{any_below}
use Rattle.mb_spelling.proofs.NumberSteps.{digit_fits, digit_small}

-- no digit from here on passes
pub below_less : (test : ℕ → Bool) (n m : ℕ) → n ≡ suc m → test m ≡ false → any_below test n ≡ any_below test m
unfolding any_below
below_less test n m one none = ap (any_below test) one ∙ ap (λ (b : Bool). b || any_below test m) none

pub below_there : (test : ℕ → Bool) (n m : ℕ) → n ≡ suc m → test m ≡ true → any_below test n ≡ true
unfolding any_below
below_there test n m one there = ap (any_below test) one ∙ ap (λ (b : Bool). b || any_below test m) there

pub below_none : (test : ℕ → Bool) (n : ℕ) → n ≡ 0 → any_below test n ≡ false
unfolding any_below
below_none test n none = ap (any_below test) none

-- one digit more has room
pub digit_room : (more value d : ℕ) → 0 < more → more < 32 → value < 16 ^ (32 - more) → d < 16 → 16 * value + d < 2 ^ 128
digit_room more value d some few fits small =
    let same : 32 - more ≡ 31 - (more - 1) = omega arith in
    digit_small (more - 1) value d (omega arith) (subst (λ (k : ℕ). value < 16 ^ k) same fits) small

pub digit_left : (more value d : ℕ) → 0 < more → more < 32 → value < 16 ^ (32 - more) → d < 16 → 16 * value + d < 16 ^ (32 - (more - 1))
digit_left more value d some few fits small =
    let same : 32 - more ≡ 31 - (more - 1) = omega arith in
    digit_fits (more - 1) value d (omega arith) (subst (λ (k : ℕ). value < 16 ^ k) same fits) small
