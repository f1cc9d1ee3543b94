-- What a guest keeps, gathered entry by entry.
use Rattle.std.proofs.Common.{◌≡◌, ◌∙◌, ◌<◌, ◌≤◌, ℕ, zero, suc, ◌+◌, List, [], ◌∷◌, ◌++◌, length, take, get_or, inl, inr, refl, sym, ap, subst, arith, Some, None}
use Rattle.std.specs.Prelude.{IfSome, slice_get}
use Rattle.std.proofs.Math.Seq.{take-suc}
use Rattle.std.proofs.lemmas.Bool.{cases_lt}
use Rattle.std.proofs.lemmas.List.{take_all}
use Rattle.std.proofs.lemmas.Option.{get_or_from_slice_get, slice_get-get_or, slice_get_within}
use Rattle.mb_model.specs.declared.kept.Kept.{Kept}
use Rattle.mb_model.specs.Keeping.{list_of, rule_k}
use Rattle.mb_saved.specs.Saved.{CanBeKept}
use Rattle.def_guests.specs.Rounds.{Member}
use Rattle.vm_slices.specs.Adopting.{KeepsLawfully, kept_at}
use Rattle.mb_program.specs.Saved.{kept_by}

-- so many of the first entries of the guest at a place are these
abbrev pub FirstKept : (members : List Member) → (k place : ℕ) → List Kept → Type 0
FirstKept members k place items = IfSome (slice_get (kept_by members) k) (λ (kept : List Kept). items ≡ take place kept)

pub first_none : (members : List Member) (k : ℕ) → FirstKept members k 0 []
first_none [] k = tt
first_none (m ∷ members) zero = refl
first_none (m ∷ members) (suc k) = first_none members k

pub take_one_more : {A : Type 0} (list : List A) (place : ℕ) (x : A) → slice_get list place ≡ Some x
    → take (place + 1) list ≡ take place list ++ x ∷ []
take_one_more list place x is =
    let next : place + 1 ≡ suc place = omega arith in
    ap (λ n. take n list) next ∙ take-suc list place x (slice_get_within list place x is)
    ∙ ap (λ y. take place list ++ y ∷ []) (get_or_from_slice_get list place x x is)

pub first_more : (members : List Member) (k place : ℕ) (x : Kept) (items : List Kept) → slice_get (kept_at place members) k ≡ Some (Some x)
    → FirstKept members k place items → FirstKept members k (place + 1) (items ++ x ∷ [])
first_more [] k place x items is first = tt
first_more (m ∷ members) zero place x items is first =
    let here : slice_get (list_of 0 m.guest.machine.world.kept) place ≡ Some x = cc in
    ap (λ list. list ++ x ∷ []) first ∙ sym (take_one_more (list_of 0 m.guest.machine.world.kept) place x here)
first_more (m ∷ members) (suc k) place x items is first = first_more members k place x items is first

some_there : (kept : List Kept) (place : ℕ) → slice_get kept place ≡ None → place < length kept → take place kept ≡ kept
some_there [] place none within = absurd (omega (arith, within))
some_there (k ∷ kept) place none within =
    let there : slice_get (k ∷ kept) place ≡ Some (get_or (k ∷ kept) place k) = slice_get-get_or (k ∷ kept) place k within in
    absurd (let contrary : None ≡ Some (get_or (k ∷ kept) place k) = sym none ∙ there in cc)

ends_before : (kept : List Kept) (place : ℕ) → slice_get kept place ≡ None → take place kept ≡ kept
ends_before kept place none = elim (cases_lt place (length kept)) [
  | inl within ↦ some_there kept place none within
  | inr past ↦ take_all place kept past
]

-- all of them, where there is none behind these,
pub all_first : (members : List Member) (k place : ℕ) (items : List Kept) → slice_get (kept_at place members) k ≡ Some None
    → FirstKept members k place items → slice_get (kept_by members) k ≡ Some items
all_first [] k place items is first = absurd cc
all_first (m ∷ members) zero place items is first =
    let none : slice_get (list_of 0 m.guest.machine.world.kept) place ≡ None = cc in
    ap (λ list. Some list) (sym (first ∙ ends_before (list_of 0 m.guest.machine.world.kept) place none))
all_first (m ∷ members) (suc k) place items is first = all_first members k place items is first

-- and where there are as many as can be
pub all_full : (members : List Member) (k place : ℕ) (items : List Kept) → k < length members → rule_k.capacity ≤ place
    → IfSome (slice_get members k) KeepsLawfully → FirstKept members k place items → slice_get (kept_by members) k ≡ Some items
all_full [] k place items there full can first = absurd (omega (arith, there))
all_full (m ∷ members) zero place items there full can first =
    let few = can.few in
    ap (λ list. Some list) (sym (first ∙ take_all place (list_of 0 m.guest.machine.world.kept) (omega (arith, few, full))))
all_full (m ∷ members) (suc k) place items there full can first = all_full members k place items (omega (arith, there)) full can first

-- These can be kept.
pub can_be_kept : (members : List Member) (k : ℕ) (items : List Kept) → IfSome (slice_get members k) KeepsLawfully
    → slice_get (kept_by members) k ≡ Some items → CanBeKept items
can_be_kept [] k items can is = absurd cc
can_be_kept (m ∷ members) zero items can is =
    let same : list_of 0 m.guest.machine.world.kept ≡ items = cc in subst CanBeKept same can
can_be_kept (m ∷ members) (suc k) items can is = can_be_kept members k items can is
