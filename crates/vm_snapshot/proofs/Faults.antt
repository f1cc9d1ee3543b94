-- A text has one first fault.
use Rattle.std.proofs.Common.{◌≡◌, ℕ, zero, suc, ◌≤◌, ◌<◌, eqb, List, [], ◌∷◌, ◌++◌, refl, ap, arith, inl, inr}
use Rattle.std.specs.Prelude.{Result, Ok, Err, pred}
use Rattle.std.proofs.lemmas.Bool.{cases_Bool, cases_lt}
use Rattle.mb_spelling.specs.Places.{IsFirstFault, Tells, line_count, read_whole, up_to_line}
use Rattle.mb_spelling.specs.Spelling.{Spelling}
use Rattle.mb_spelling.proofs.Places.{reads_to_the_end, shorter}
use Rattle.vm_snapshot.specs.Guests.{Snapshot, snapshot}
use Rattle.vm_snapshot.specs.Laws.{FaultsAreOne}
use Rattle.vm_snapshot.proofs.Guests.{snapshot_spells}

-- more lines begin with fewer
up_more : (n k : ℕ) (text : List ℕ) → n ≤ k → (y : List ℕ) × (up_to_line k text ≡ up_to_line n text ++ y)
up_more zero k text le = (up_to_line k text, refl)
up_more (suc n) zero text le = absurd (omega arith)
up_more (suc n) (suc k) [] le = ([], refl)
up_more (suc n) (suc k) (c ∷ text) le = elim (cases_Bool (eqb c 10)) [
  | inl e ↦ let later = up_more n k text (omega arith) in (later.0, rw e (ap (λ (w : List ℕ). c ∷ w) later.1))
  | inr e ↦ let later = up_more (suc n) (suc k) text le in (later.0, rw e (ap (λ (w : List ℕ). c ∷ w) later.1))
]

not_before : {A : Type 0} (s : Spelling A) (text : List ℕ) (n m : ℕ) → IsFirstFault s n text → IsFirstFault s m text → n < m → ⊥
not_before s text n m a b less = elim (cases_lt (line_count text) n) [
  | inl past ↦ (let first = a.behind past in let second = b.behind (omega arith) in omega arith)
  | inr within ↦
      let later = up_more n (pred m) text (omega arith) in
      a.here within (shorter s (up_to_line (pred m) text) (up_to_line n text) later.0 b.before later.1)
]

one_fault : {A : Type 0} (s : Spelling A) (text : List ℕ) (n m : ℕ) → IsFirstFault s n text → IsFirstFault s m text → n ≡ m
one_fault s text n m a b = elim (cases_lt n m) [
  | inl less ↦ absurd (not_before s text n m a b less)
  | inr least ↦ elim (cases_lt m n) [
    | inl more ↦ absurd (not_before s text m n b a more)
    | inr most ↦ omega arith
  ]
]

told_so : (text : List ℕ) (r : Result Snapshot ℕ) (number : ℕ) → Tells snapshot text r → IsFirstFault snapshot number text → r ≡ Err number
told_so text (Ok a) number tells fault = absurd (fault.unfinished a tells.0 tells.1)
told_so text (Err other) number tells fault = ap Err (one_fault snapshot text other number tells fault)

pub faults_are_one : FaultsAreOne
faults_are_one number text fault =
    told_so text (read_whole snapshot text) number ((reads_to_the_end snapshot snapshot_spells).tells text) fault
