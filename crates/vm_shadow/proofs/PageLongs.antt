-- The descriptors of pages.
use Rattle.std.proofs.Common.{◌≡◌, ◌∙◌, ℕ, ◌+◌, ◌*◌, ◌==◌, ◌||◌, Bool, true, false, refl, ap, sym, arith, inl, inr}
use Rattle.std.specs.Prelude.{◌⊎◌}
use Rattle.std.proofs.lemmas.Bool.{cases_eq}
use Rattle.std.proofs.lemmas.Bool.Decides.{nat_tests}
use Rattle.mb_model.specs.Pages.{offset_of}
use Rattle.mb_model.specs.declared.pages.TheConstants.{PAGE_SIZE}
use Rattle.vm_shadow.specs.Area.{page_long, is_page_long, IsPageLong}

-- none, one that takes writes, and one that takes none
abbrev pub PageCases : ℕ → Type 0
PageCases long = (long ≡ 0) ⊎ ((offset_of long ≡ 25) ⊎ (offset_of long ≡ 29))

pub page_cases : (long : ℕ) → IsPageLong long → PageCases long
page_cases long h = elim (cases_eq long 0) [
  | inl e ↦ inl e
  | inr n ↦ elim (cases_eq (offset_of long) 25) [
    | inl e ↦ inr (inl e)
    | inr m ↦
        let a : (long == 0) ≡ false = grind (arith, nat_tests) in
        let b : (offset_of long == 25) ≡ false = grind (arith, nat_tests) in
        let e : is_page_long long ≡ (offset_of long == 29) = rw (a, b) refl in
        let c : (offset_of long == 29) ≡ true = sym e ∙ h in
        let is : offset_of long ≡ 29 = grind (arith, nat_tests) in
        inr (inr is)
  ]
]

pub page_none : (long : ℕ) → long ≡ 0 → IsPageLong long
page_none long e = ap is_page_long e

true_after : (a : Bool) → (a || true) ≡ true
true_after true = refl
true_after false = refl

pub page_lawful : (frame : ℕ) (writable : Bool) → IsPageLong (page_long frame writable)
page_lawful frame true =
    let e : offset_of (PAGE_SIZE * frame + 25) ≡ 25 = omega arith in
    rw e (true_after (PAGE_SIZE * frame + 25 == 0))
page_lawful frame false =
    let e : offset_of (PAGE_SIZE * frame + 29) ≡ 29 = omega arith in
    rw e (true_after (PAGE_SIZE * frame + 29 == 0))
