-- A guest gets a disk.
use Rattle.std.proofs.Common.{◌≡◌, ◌∙◌, ℕ, zero, suc, ◌<◌, Bool, true, false, List, [], ◌∷◌, length, map, get_or, set, ap, refl, sym, subst, arith}
use Rattle.std.specs.Prelude.{All, Option, Some, None, is_some, option_map, Result, Ok, Err, if◌then◌else◌}
use Rattle.std.proofs.lemmas.List.{map-set, get_or-map, length-map}
use Rattle.std.proofs.lemmas.List.Elements.{All-set}
use Rattle.mb_lines.specs.Results.{◌>>=◌}
use Rattle.mb_script.specs.declared.fault.LineWhy.{LineWhy}
use Rattle.mb_script.specs.declared.fault.LineWhy.TheVariants as why
use Rattle.mb_script.specs.declared.plan.GuestPlan.{GuestPlan}
use Rattle.mb_script.specs.Answers.{guest_said}
use Rattle.mb_script.specs.Plan.{AreRams, Disk, Guest, HasDisk, IsRam}
use Rattle.mb_script.specs.Sessions.{equipped}

-- with a disk, unless it has one
abbrev pub with_disk : Disk → Guest → Guest
with_disk disk g = record g { disk = Some disk }

abbrev pub at_place : Bool → List Guest → Result (List Guest) LineWhy
at_place true guests = Err why.Many
at_place false guests = Ok guests

first_stays : (b : Bool) (k : Guest) (gs : List Guest) → (at_place b gs >>= λ others. Ok (k ∷ others)) ≡ at_place b (k ∷ gs)
first_stays true k gs = refl
first_stays false k gs = refl

here : (b : Bool) (disk : Disk) (k : Guest) (gs : List Guest)
    → (if b then Err why.Many else Ok (with_disk disk k ∷ gs)) ≡ at_place b (with_disk disk k ∷ gs)
here true disk k gs = refl
here false disk k gs = refl

pub equipped_at : (place : ℕ) (disk : Disk) (gs : List Guest) (g : Guest) → place < length gs → g ≡ get_or gs place g
    → equipped place disk gs ≡ at_place (is_some g.disk) (set gs place (with_disk disk g))
equipped_at place disk [] g less is = absurd (omega arith)
equipped_at zero disk (k ∷ gs) g less is =
    here (is_some k.disk) disk k gs ∙ ap (λ (a : Guest). at_place (is_some a.disk) (with_disk disk a ∷ gs)) (sym is)
equipped_at (suc place) disk (k ∷ gs) g less is =
    ap (λ (r : Result (List Guest) LineWhy). r >>= λ others. Ok (k ∷ others)) (equipped_at place disk gs g (omega arith) is)
    ∙ first_stays (is_some g.disk) k (set gs place (with_disk disk g))

-- all of them, once one has changed
pub all_changed : (P : Guest → Type 0) (plans : List GuestPlan) (place : ℕ) (plan : GuestPlan) → All P (map guest_said plans) → P (guest_said plan)
    → All P (map guest_said (set plans place plan))
all_changed P plans place plan all one =
    subst (All P) (sym (map-set guest_said plans place plan)) (All-set P (map guest_said plans) place (guest_said plan) one all)

pub rams_changed : (plans : List GuestPlan) (place : ℕ) (plan : GuestPlan) → AreRams (map guest_said plans) → IsRam (guest_said plan).ram
    → AreRams (map guest_said (set plans place plan))
rams_changed plans place plan all one = all_changed (λ (g : Guest). IsRam g.ram) plans place plan all one

pub disks_changed : (plans : List GuestPlan) (place : ℕ) (plan : GuestPlan) → All HasDisk (map guest_said plans) → HasDisk (guest_said plan)
    → All HasDisk (map guest_said (set plans place plan))
disks_changed plans place plan all one = all_changed HasDisk plans place plan all one

-- in the plans' own words
pub equipped_plans : (place : ℕ) (disk : Disk) (plans : List GuestPlan) (plan changed : GuestPlan) → place < length plans → plan ≡ get_or plans place plan
    → guest_said changed ≡ with_disk disk (guest_said plan)
    → equipped place disk (map guest_said plans) ≡ at_place (is_some (guest_said plan).disk) (map guest_said (set plans place changed))
equipped_plans place disk plans plan changed less is becomes =
    let count : length (map guest_said plans) ≡ length plans = length-map plans guest_said in
    equipped_at place disk (map guest_said plans) (guest_said plan) (omega arith)
    (ap guest_said is ∙ sym (get_or-map guest_said plans place plan (guest_said plan) less))
    ∙ ap (λ (gs : List Guest). at_place (is_some (guest_said plan).disk) gs)
    (ap (set (map guest_said plans) place) (sym becomes) ∙ sym (map-set guest_said plans place changed))

some_mapped : {A B : Type 0} → (f : A → B) (o : Option A) → is_some (option_map f o) ≡ is_some o
some_mapped f None = refl
some_mapped f (Some x) = refl

-- what is shown of its disk says whether it has one
pub has_shown : {A : Type 0} → (f : A → Disk) (o : Option A) (d : Option Disk) (b : Bool) → option_map f o ≡ d → is_some o ≡ b → is_some d ≡ b
has_shown f o d b shown is = ap is_some (sym shown) ∙ some_mapped f o ∙ is

pub any_default : {A : Type 0} → (xs : List A) (i : ℕ) (a b : A) → i < length xs → get_or xs i a ≡ get_or xs i b
any_default [] i a b less = absurd (omega arith)
any_default (x ∷ xs) zero a b less = refl
any_default (x ∷ xs) (suc i) a b less = any_default xs i a b (omega arith)

-- what stands at a place, however it is asked for
pub same_there : {A : Type 0} → (xs : List A) (i : ℕ) (a b : A) → i < length xs → a ≡ get_or xs i a → b ≡ get_or xs i b → a ≡ b
same_there xs i a b less p q = p ∙ any_default xs i a b less ∙ sym q

pub refuses_plans : (place : ℕ) (disk : Disk) (plans : List GuestPlan) (plan : GuestPlan) → place < length plans → plan ≡ get_or plans place plan
    → is_some (guest_said plan).disk ≡ true → equipped place disk (map guest_said plans) ≡ Err why.Many
refuses_plans place disk plans plan less is has =
    let count : length (map guest_said plans) ≡ length plans = length-map plans guest_said in
    equipped_at place disk (map guest_said plans) (guest_said plan) (omega arith)
    (ap guest_said is ∙ sym (get_or-map guest_said plans place plan (guest_said plan) less))
    ∙ ap (λ (b : Bool). at_place b (set (map guest_said plans) place (with_disk disk (guest_said plan)))) has

pub gives_plans : (place : ℕ) (disk : Disk) (plans : List GuestPlan) (plan changed : GuestPlan) → place < length plans → plan ≡ get_or plans place plan
    → guest_said changed ≡ with_disk disk (guest_said plan) → is_some (guest_said plan).disk ≡ false
    → equipped place disk (map guest_said plans) ≡ Ok (map guest_said (set plans place changed))
gives_plans place disk plans plan changed less is becomes has =
    equipped_plans place disk plans plan changed less is becomes
    ∙ ap (λ (b : Bool). at_place b (map guest_said (set plans place changed))) has

-- one of all
pub one_of : (P : Guest → Type 0) (plans : List GuestPlan) (place : ℕ) (plan : GuestPlan) → All P (map guest_said plans) → place < length plans
    → plan ≡ get_or plans place plan → P (guest_said plan)
one_of P plans place plan all less is =
    let count : length (map guest_said plans) ≡ length plans = length-map plans guest_said in
    subst P (get_or-map guest_said plans place plan (guest_said plan) less ∙ ap guest_said (sym is)) (all place (guest_said plan) (omega arith))

pub few : (b : Bool) (g : Guest) → b ≡ false → (if b then Err why.Many else Ok g) ≡ Ok g
few true g h = absurd (cc)
few false g h = refl
