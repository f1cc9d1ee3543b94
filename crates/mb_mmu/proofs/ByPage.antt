-- What is known of a reference depends on its address by its page alone.
use Rattle.std.proofs.Common.{◌≡◌, ◌∙◌, ap, sym, subst, refl, ℕ, ◌+◌, ◌-◌, ◌*◌, ◌/◌, ◌%◌, ◌^◌, ◌<◌, Bool, true, false, arith}
use Rattle.std.specs.Prelude.{Option, Some, None, IfSome, ◌&&◌, ◌==◌, if◌then◌else◌}
use Rattle.std.proofs.lemmas.Bool.Decides.{nat_tests}
use Rattle.mb_port.specs.declared.types.Mmu.{Mmu}
use Rattle.mb_model.specs.declared.kept.Kept.{Kept}
use Rattle.mb_model.specs.Keeping.{Rule, KeptLists, entry_for, rule_a}
use Rattle.mb_model.specs.Pages.{page_of, offset_of}
use Rattle.mb_model.specs.declared.pages.TheConstants.{PAGE_SIZE}
use Rattle.def_machine.specs.declared.reference.Reference.{Reference}
use Rattle.def_machine.specs.declared.reference.Settled.{Settled}
use Rattle.def_machine.specs.declared.reference.Settled.TheVariants.{To, Refused, Unsettled}
use Rattle.def_machine.specs.Access.{matched, or_off, untranslated, admits, marks, in_frame, known, by_entry, by_match, settled, LeadsTo}
use Rattle.mb_mmu.specs.State.{Translation, settled_by}
use Rattle.mb_mmu.specs.declared.micro_tlb.Entry.{Entry}
use Rattle.mb_mmu.specs.MicroTlb.{entry_to, place_by}
use Rattle.mb_mmu.specs.Sound.{LeadsIntoRam}

-- the reference at another address
abbrev pub moved : Reference → ℕ → Reference
moved r b = record r { at = b }

-- the place of an address in the page of a place
abbrev pub beside : (place b : ℕ) → ℕ
beside place b = PAGE_SIZE * page_of place + offset_of b

-- the same state of knowledge of the other address
abbrev pub Beside : ℕ → Settled → Settled → Type 0
Beside b s after = LeadsTo s (λ at. after ≡ To (beside at b))

beside_frame : (frame at b : ℕ) → PAGE_SIZE * frame + offset_of b ≡ beside (PAGE_SIZE * frame + offset_of at) b
beside_frame frame at b = omega arith

beside_itself : (at b : ℕ) → page_of b ≡ page_of at → b ≡ beside at b
beside_itself at b e = omega (arith, e)

by_tests : (k : Kept) (r : Reference) (b : ℕ) (mark admit : Bool)
    → Beside b (if mark then Unsettled else known (if admit then Some (in_frame k r.at) else None))
    (if mark then Unsettled else known (if admit then Some (in_frame k b) else None))
by_tests k r b true admit = tt
by_tests k r b false true = ap To (beside_frame k.frame r.at b)
by_tests k r b false false = tt

entry_beside : (r : Reference) (b : ℕ) (o : Option Kept) → Beside b (by_entry r o) (by_entry (moved r b) o)
entry_beside r b None = tt
entry_beside r b (Some k) = by_tests k r b (marks k r) (admits k r)

itself_beside : (r : Reference) (b : ℕ) (refused : Bool) → page_of b ≡ page_of r.at
    → Beside b (if refused then Refused else To r.at) (if refused then Refused else To b)
itself_beside r b true e = tt
itself_beside r b false e = ap To (beside_itself r.at b e)

match_beside : (rule : Rule) (kept : KeptLists) (r : Reference) (b : ℕ) (o : Option Bool) → page_of b ≡ page_of r.at
    → Beside b (by_match rule kept r o) (by_match rule kept (moved r b) o)
match_beside rule kept r b (Some protected) e = itself_beside r b (protected && r.write) e
match_beside rule kept r b None e =
    subst (λ (page : ℕ). Beside b (by_match rule kept r None) (by_entry (moved r b) (entry_for rule r.code r.space page kept)))
    (sym e) (entry_beside r b (entry_for rule r.code r.space (page_of r.at) kept))

pub settled_beside : (rule : Rule) (mmu : Mmu) (kept : KeptLists) (r : Reference) (b : ℕ) → page_of b ≡ page_of r.at
    → Beside b (settled rule mmu kept r) (settled rule mmu kept (moved r b))
settled_beside rule mmu kept r b e =
    subst (λ (page : ℕ). Beside b (settled rule mmu kept r) (by_match rule kept (moved r b) (or_off mmu (matched r.code mmu r.space page))))
    (sym e) (match_beside rule kept r b (untranslated mmu r) e)

-- ---- the entry of a page

at_place : (s : Settled) (at : ℕ) (P : ℕ → Type 0) → s ≡ To at → LeadsTo s P → P at
at_place s at P e h = subst (λ (x : Settled). LeadsTo x P) e h

-- it leads to the same byte of its page
same_offset : (t : Translation) (r : Reference) (at : ℕ) → settled_by t r ≡ To at → offset_of at ≡ offset_of r.at
same_offset t r at e =
    let here = at_place (settled_by t r) at (λ x. settled_by t r ≡ To (beside x r.at)) e (settled_beside rule_a t.mmu t.kept r r.at refl) in
    let P : ℕ → Type 0 = λ x. offset_of x ≡ offset_of r.at in
    at_place (settled_by t r) at P e (subst (λ (s : Settled). LeadsTo s P) (sym here) (let same : P (beside at r.at) = omega arith in same))

by_distance : (at from b : ℕ) → at < 2 ^ 32 → from < 2 ^ 32 → b < 2 ^ 32 → page_of b ≡ page_of from → offset_of at ≡ offset_of from
    → (b + (at + (2 ^ 32 - from)) % 2 ^ 32) % 2 ^ 32 ≡ beside at b
by_distance at from b less from_less b_less page offset = omega (arith, less, from_less, b_less, page, offset)

is_page : (x y : ℕ) → (x == y) ≡ true → x ≡ y
is_page x y h = grind (arith, nat_tests)

-- A reference leads to a place of a page that lies whole in RAM.
record Led (t : Translation) (r : Reference) (at : ℕ) : Type 0 where
  there : at < 2 ^ 32
  here : r.at < 2 ^ 32
  leads : settled_by t r ≡ To at
  inside : page_of at < t.ram / PAGE_SIZE

beside_leads : (t : Translation) (r : Reference) (at b place : ℕ) → Led t r at → page_of b ≡ page_of r.at → place ≡ beside at b
    → LeadsIntoRam t (moved r b) place
beside_leads t r at b place led page is = record {
  settled = at_place (settled_by t r) at (λ x. settled_by t (moved r b) ≡ To (beside x b)) led.leads (settled_beside rule_a t.mmu t.kept r b page)
      ∙ ap To (sym is);
  offset = omega (arith, is);
  inside = (let inside = led.inside in omega (arith, is, inside));
}

leads_by : (t : Translation) (r : Reference) (at b : ℕ) (same : Bool) → Led t r at → b < 2 ^ 32 → (same ≡ true → page_of b ≡ page_of r.at)
    → IfSome (if same then Some ((b + (at + (2 ^ 32 - r.at)) % 2 ^ 32) % 2 ^ 32) else None) (LeadsIntoRam t (moved r b))
leads_by t r at b true led less same =
    beside_leads t r at b _ led (same refl) (by_distance at r.at b led.there led.here less (same refl) (same_offset t r at led.leads))
leads_by t r at b false led less same = tt

-- By an entry each address of its page, in an access like this one, leads there.
pub record IsTrueFor (t : Translation) (r : Reference) (e : Entry) : Type 0 where
  pub leads : (at : ℕ) → at < 2 ^ 32 → IfSome (place_by e at) (LeadsIntoRam t (moved r at))

pub page_true : (t : Translation) (r : Reference) (at : ℕ) → at < 2 ^ 32 → r.at < 2 ^ 32 → settled_by t r ≡ To at → page_of at < t.ram / PAGE_SIZE
    → IsTrueFor t r (entry_to r.at at)
page_true t r at there here leads inside =
    let led : Led t r at = record { there = there; here = here; leads = leads; inside = inside } in
    record { leads = λ b less. leads_by t r at b (page_of b == page_of r.at) led less (is_page (page_of b) (page_of r.at)) }
