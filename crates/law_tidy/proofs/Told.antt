-- Whether a run is tidy is told by the test.
use Rattle.std.proofs.Common.{◌≡◌, ℕ, zero, suc, ◌==◌, Bool, true, false, not, ◌&&◌, ◌||◌, List, [], ◌∷◌, refl, sym, ◌∙◌, ap, subst, arith, inl, inr}
use Rattle.std.specs.Prelude.{◌↔◌, Contains, Option, Some, None, is_some}
use Rattle.std.specs.List.{list_all}
use Rattle.std.specs.Str.{bytes_eq}
use Rattle.std.proofs.lemmas.Bool.{cases_Bool, and_parts, and_from, not-true, not_from_false, true≢false, eqb-true, eq-eqb}
use Rattle.std.proofs.lemmas.Slice.Eq.{bytes_eq-Decides}
use Rattle.mb_port.specs.Routine.{Call, Routine, Return, Ask, Then, Bus, run}
use Rattle.mb_model.specs.declared.kept.Kept.{Kept}
use Rattle.mb_model.specs.Keeping.{KeptLists, is_of}
use Rattle.mb_model.specs.Pages.{page_of}
use Rattle.mb_walk.specs.declared.found.Found.{Found}
use Rattle.mb_walk.specs.declared.found.Found.TheVariants.{Entry, Invalid, BusError}
use Rattle.def_processor.specs.Step.{step_of}
use Rattle.law_routines.specs.Relations.{Along}
use Rattle.def_machine.specs.declared.reference.Reference.{Reference}
use Rattle.def_machine.specs.World.{World}
use Rattle.def_machine.specs.Access.{untranslated, marks, search_for}
use Rattle.def_machine.specs.Bus.{reference_of}
use Rattle.def_machine.specs.Machine.{Machine, Entries, begun, takes_steps, start, asked_of}
use Rattle.def_runs.specs.Free.{IsKept, rule_free}
use Rattle.def_runs.specs.Tidy.{searching_bus, searching_step, Counts, Agrees, IsTidyReference, IsTidyCall, IsTidyStep, IsTidyRun}
use Rattle.def_runs.proofs.KeptLemmas.{empty, head_or_tail}
use Rattle.law_tidy.specs.Deciding.{same_bit, counts, is_found_as, agrees, is_tidy_entry, is_tidy_reference, is_tidy_call}
use Rattle.law_tidy.specs.Deciding.{passes_along, is_tidy_step, is_tidy_run, TidyRunsAreTold, TidyIsTold}

-- ---- an entry

bits_same : (a b : Bool) → same_bit a b ≡ true → a ≡ b
bits_same true b h = sym h
bits_same false b h = sym (not-true b h)

same_bits : (a b : Bool) → a ≡ b → same_bit a b ≡ true
same_bits true b h = sym h
same_bits false b h = not_from_false b (sym h)

-- the found entry with the frame, W and S of another
record FoundAs (f : Found) (k : Kept) : Type 0 where
  entry : Kept
  status : ℕ
  found : f ≡ Entry entry status
  frame : entry.frame ≡ k.frame
  same_w : entry.w ≡ k.w
  same_s : entry.s ≡ k.s

found_so : (f : Found) (k : Kept) → is_found_as f k ≡ true → FoundAs f k
found_so (Entry e status) k h =
    let parts = and_parts (e.frame == k.frame) (same_bit e.w k.w && same_bit e.s k.s) h in
    let bits = and_parts (same_bit e.w k.w) (same_bit e.s k.s) parts.1 in
    record {
      entry = e;
      status = status;
      found = refl;
      frame = eqb-true e.frame k.frame parts.0;
      same_w = bits_same e.w k.w bits.0;
      same_s = bits_same e.s k.s bits.1;
    }
found_so Invalid k h = absurd (true≢false (sym h))
found_so BusError k h = absurd (true≢false (sym h))

so_found : (f : Found) (k e : Kept) (status : ℕ) → f ≡ Entry e status → e.frame ≡ k.frame → e.w ≡ k.w → e.s ≡ k.s → is_found_as f k ≡ true
so_found f k e status found frame w s =
    ap (λ (g : Found). is_found_as g k) found
    ∙ and_from (e.frame == k.frame) (same_bit e.w k.w && same_bit e.s k.s) (eq-eqb e.frame k.frame frame)
    (and_from (same_bit e.w k.w) (same_bit e.s k.s) (same_bits e.w k.w w) (same_bits e.s k.s s))

agrees_so : (r : Reference) (w : World) (k : Kept) → agrees r w k ≡ true → Agrees r w k
agrees_so r w k h =
    let parts = and_parts (is_found_as (search_for w r).found k) (bytes_eq (search_for w r).ram w.ram) h in
    let f = found_so (search_for w r).found k parts.0 in
    record {
      entry = f.entry;
      status = f.status;
      found = f.found;
      frame = f.frame;
      same_w = f.same_w;
      same_s = f.same_s;
      still = (bytes_eq-Decides (search_for w r).ram w.ram).0 parts.1;
    }

so_agrees : (r : Reference) (w : World) (k : Kept) → Agrees r w k → agrees r w k ≡ true
so_agrees r w k a =
    and_from (is_found_as (search_for w r).found k) (bytes_eq (search_for w r).ram w.ram)
    (so_found (search_for w r).found k a.entry a.status a.found a.frame a.same_w a.same_s)
    ((bytes_eq-Decides (search_for w r).ram w.ram).1 a.still)

entry_so : (r : Reference) (w : World) (k : Kept) → is_tidy_entry r w k ≡ true → Counts r w k → Agrees r w k
entry_so r w k h c =
    let count : counts r k ≡ true = and_from (is_of r.space (page_of r.at) k) (not (marks k r)) c.of (not_from_false (marks k r) c.used) in
    agrees_so r w k (rw count at h)

so_entry : (r : Reference) (w : World) (k : Kept) → IsKept k w.kept → (Counts r w k → Agrees r w k) → is_tidy_entry r w k ≡ true
so_entry r w k there h = elim (cases_Bool (counts r k)) [
  | inl count ↦
      let parts = and_parts (is_of r.space (page_of r.at) k) (not (marks k r)) count in
      rw count (so_agrees r w k (h (record { kept = there; of = parts.0; used = not-true (marks k r) parts.1 })))
  | inr none ↦ rw none refl
]

-- ---- all that is kept

all_of : (p : Kept → Bool) (xs : List Kept) (k : Kept) → list_all p xs ≡ true → Contains xs k → p k ≡ true
all_of p [] k h there = absurd (empty k there)
all_of p (x ∷ xs) k h there =
    let parts = and_parts (p x) (list_all p xs) h in
    elim (head_or_tail k x xs there) [ inl e ↦ subst (λ (y : Kept). p y ≡ true) e parts.0 | inr t ↦ all_of p xs k parts.1 t ]

of_all : (p : Kept → Bool) (xs : List Kept) → ((k : Kept) → Contains xs k → p k ≡ true) → list_all p xs ≡ true
of_all p [] h = refl
of_all p (x ∷ xs) h =
    and_from (p x) (list_all p xs) (h x (0, omega arith, refl))
    (of_all p xs (λ k (i, lt, e). h k (suc i, omega arith, e)))

kept_all : (p : Kept → Bool) (kept : KeptLists) (k : Kept) → list_all (list_all p) kept ≡ true → IsKept k kept → p k ≡ true
kept_all p [] k h (class, there) = absurd (empty k there)
kept_all p (xs ∷ kept) k h (zero, there) = all_of p xs k (and_parts (list_all p xs) (list_all (list_all p) kept) h).0 there
kept_all p (xs ∷ kept) k h (suc class, there) =
    kept_all p kept k (and_parts (list_all p xs) (list_all (list_all p) kept) h).1 (class, there)

all_kept : (p : Kept → Bool) (kept : KeptLists) → ((k : Kept) → IsKept k kept → p k ≡ true) → list_all (list_all p) kept ≡ true
all_kept p [] h = refl
all_kept p (xs ∷ kept) h =
    and_from (list_all p xs) (list_all (list_all p) kept) (of_all p xs (λ k there. h k (0, there)))
    (all_kept p kept (λ k (class, there). h k (suc class, there)))

-- ---- a call

table_so : (r : Reference) (w : World) (o : Option Bool) → (is_some o || list_all (list_all (is_tidy_entry r w)) w.kept) ≡ true
    → o ≡ None → (k : Kept) → Counts r w k → Agrees r w k
table_so r w (Some protected) h e k c = absurd (cc)
table_so r w None h e k c = entry_so r w k (kept_all (is_tidy_entry r w) w.kept k h c.kept) c

so_table : (r : Reference) (w : World) (o : Option Bool) → (o ≡ None → (k : Kept) → Counts r w k → Agrees r w k)
    → (is_some o || list_all (list_all (is_tidy_entry r w)) w.kept) ≡ true
so_table r w (Some protected) h = refl
so_table r w None h = all_kept (is_tidy_entry r w) w.kept (λ k there. so_entry r w k there (h refl k))

reference_told : (o : Option Reference) (w : World) → (is_tidy_reference o w ≡ true) ↔ IsTidyReference o w
reference_told None w = (λ h. tt, λ h. refl)
reference_told (Some r) w = (table_so r w (untranslated w.mmu r), so_table r w (untranslated w.mmu r))

call_told : (c : Call) (w : World) → (is_tidy_call c w ≡ true) ↔ IsTidyCall c w
call_told c w = reference_told (reference_of c) w

-- ---- a run

along_told : {S A : Type 0} {P : Call → S → Type 0} (test : Call → S → Bool) (bus : Bus S) → ((c : Call) (s : S) → (test c s ≡ true) ↔ P c s)
    → (m : Routine A) (s : S) → (passes_along test bus m s ≡ true) ↔ Along P bus m s
along_told test bus told (Return a) s = (λ h. tt, λ h. refl)
along_told test bus told (Ask c) s = told c s
along_told test bus told (Then m f) s =
    let first = along_told test bus told m s in
    let rest = along_told test bus told (f ((run bus m s).0)) ((run bus m s).1) in (
      λ h. let parts = and_parts (passes_along test bus m s) (passes_along test bus (f ((run bus m s).0)) ((run bus m s).1)) h in
          (first.0 parts.0, rest.0 parts.1),
      λ h. and_from (passes_along test bus m s) (passes_along test bus (f ((run bus m s).0)) ((run bus m s).1)) (first.1 h.0) (rest.1 h.1),
    )

step_told : (script : Entries) (m : Machine) → (is_tidy_step script m ≡ true) ↔ IsTidyStep script m
step_told script m =
    let b = begun script m in along_told is_tidy_call searching_bus call_told (step_of (asked_of script b) b.cpu) b.world

run_so : (script : Entries) (n : ℕ) (m : Machine) → is_tidy_run script n m ≡ true → IsTidyRun script n m
unfolding is_tidy_run
run_so script zero m h = tt
run_so script (suc n) m h = λ going.
    let parts = and_parts (is_tidy_step script m) (is_tidy_run script n (searching_step script m)) (rw going at h) in
    ((step_told script m).0 parts.0, run_so script n (searching_step script m) parts.1)

so_run : (script : Entries) (n : ℕ) (m : Machine) → IsTidyRun script n m → is_tidy_run script n m ≡ true
unfolding is_tidy_run
so_run script zero m tidy = refl
so_run script (suc n) m tidy = elim (cases_Bool (takes_steps m.state)) [
  | inl going ↦
      let parts = tidy going in
      rw going (and_from (is_tidy_step script m) (is_tidy_run script n (searching_step script m)) ((step_told script m).1 parts.0)
      (so_run script n (searching_step script m) parts.1))
  | inr still ↦ rw still refl
]

pub tidy_runs-are_told : TidyRunsAreTold
tidy_runs-are_told script n m = (run_so script n m, so_run script n m)

pub tidy-is_told : TidyIsTold
tidy-is_told opening script size n = tidy_runs-are_told script n (start rule_free opening size)
