-- What follows registers follows those that an instruction leaves.
use Rattle.std.proofs.Common.{◌≡◌, ℕ, Bool, List, get_or, Option, Some, None, IfSome, IfNone, ap, sym, subst, refl}
use Rattle.mb_instr.specs.declared.registers.Plain.{Plain}
use Rattle.mb_short.specs.declared.changed.Changed.TheVariants.{Nothing, Data, Address, Both}
use Rattle.mb_short.specs.Changed.{AgreeBut, Differ, Follows}

same_registers : {S : Type 0} (by : S → List ℕ → List ℕ → Type 0) (s : S) (p q : Plain) → q.d ≡ p.d → q.a ≡ p.a → Follows by s p → Follows by s q
same_registers by s p q d a h = subst (λ (l : List ℕ). by s q.d l) (sym a) (subst (λ (l : List ℕ). by s l p.a) (sym d) h)

-- none has changed
pub told_nothing : {S : Type 0} (by : S → List ℕ → List ℕ → Type 0) (s : S) (p q : Plain) (r : Option Bool)
    → IfSome r (λ flow. Differ Nothing p q) → IfNone r (q ≡ p) → Follows by s p → Follows by s q
told_nothing by s p q None some none h = same_registers by s p q (ap (λ (x : Plain). x.d) none) (ap (λ (x : Plain). x.a) none) h
told_nothing by s p q (Some flow) some none h = same_registers by s p q some.0 some.1 h

-- what a follower that is told of a data register makes of what it has followed
abbrev TellsData : {S : Type 0} → (S → List ℕ → List ℕ → Type 0) → S → S → ℕ → ℕ → List ℕ → Type 0
TellsData by s t n before e = (d a : List ℕ) → AgreeBut n d e → get_or d n 0 ≡ before → by s d a → by t e a

abbrev TellsAddress : {S : Type 0} → (S → List ℕ → List ℕ → Type 0) → S → S → ℕ → ℕ → List ℕ → Type 0
TellsAddress by s t n before e = (d a : List ℕ) → AgreeBut n a e → get_or a n 0 ≡ before → by s d a → by t d e

pub told_data : {S : Type 0} (by : S → List ℕ → List ℕ → Type 0) (s t : S) (p q : Plain) (n : ℕ) → Differ (Data n) p q
    → TellsData by s t n (get_or p.d n 0) q.d → Follows by s p → Follows by t q
told_data by s t p q n differ told h =
    subst (λ (l : List ℕ). by t q.d l) (sym differ.1) (told p.d p.a differ.0 refl h)

pub told_address : {S : Type 0} (by : S → List ℕ → List ℕ → Type 0) (s t : S) (p q : Plain) (n : ℕ) → Differ (Address n) p q
    → TellsAddress by s t n (get_or p.a n 0) q.a → Follows by s p → Follows by t q
told_address by s t p q n differ told h =
    subst (λ (l : List ℕ). by t l q.a) (sym differ.0) (told p.d p.a differ.1 refl h)

pub told_both : {S : Type 0} (by : S → List ℕ → List ℕ → Type 0) (s t u : S) (p q : Plain) (n m : ℕ) → Differ (Both n m) p q
    → TellsData by s t n (get_or p.d n 0) q.d → TellsAddress by t u m (get_or p.a m 0) q.a → Follows by s p → Follows by u q
told_both by s t u p q n m differ first second h = second q.d p.a differ.1 refl (first p.d p.a differ.0 refl h)

pub ruleset followings = (told_nothing, told_data, told_address, told_both)
