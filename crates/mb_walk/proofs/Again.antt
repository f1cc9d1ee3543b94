-- A search changes marks alone, and finds the same again.
use Rattle.std.proofs.Common.{◌≡◌, ◌≢◌, ◌∙◌, ℕ, ◌+◌, ◌/◌, ◌%◌, ◌^◌, ◌≤◌, ◌||◌, Bool, true, false, List, length}
use Rattle.std.proofs.Common.{refl, ap, sym, subst, arith, inl, inr}
use Rattle.std.specs.Prelude.{◌⊎◌, Ok, Err}
use Rattle.std.proofs.lemmas.Bool.{cases_Bool, cases_eq, false≢true}
use Rattle.std.proofs.lemmas.Bool.Decides.{nat_tests}
use Rattle.mb_port.specs.declared.types.Space.{Space}
use Rattle.mb_walk.specs.declared.found.Found.TheVariants.{Entry, Invalid, BusError}
use Rattle.mb_walk.specs.Memory.{number_at, with_number, AreBytes}
use Rattle.mb_walk.specs.Descriptors.{table_descriptor, page_descriptor, with_used, marked, entry_at, indirection, kept_of, resident_status}
use Rattle.mb_walk.specs.Descriptors.{root_index, pointer_index, page_index, page_table_bytes}
use Rattle.mb_walk.specs.Search.{Searched, Level, and_below, is_inside, descended, paged, pointed, ended, search_of}
use Rattle.mb_walk.specs.Laws.{unmarked, OnlyMarks, SearchesMark, SearchesRepeat}
use Rattle.mb_walk.proofs.MemoryLemmas.{length-with_number}
use Rattle.mb_walk.proofs.LongLemmas.{long_same, long_other, long_back, long_small, written_bytes}
use Rattle.mb_walk.proofs.Marks.{Marks, used_marks, used_before, marked_marks, marked_again, bit_0, bit_1, bit_2, table_512}
use Rattle.mb_walk.proofs.Marks.{page_table_same, page_entry_aligned}

pub inside_so : (ram : List ℕ) (p : ℕ) → is_inside ram p ≡ true → p + 4 ≤ length ram
inside_so ram p h = grind (arith, nat_tests)

-- what marks change
only_none : (ram : List ℕ) → AreBytes ram → OnlyMarks ram ram
only_none ram b = record { size = refl; bytes = b; longs = λ at a. refl; used = λ at a u. u }

only_twice : {ram middle after : List ℕ} → OnlyMarks ram middle → OnlyMarks middle after → OnlyMarks ram after
only_twice m n = record {
  size = n.size ∙ m.size;
  bytes = n.bytes;
  longs = λ at a. n.longs at a ∙ m.longs at a;
  used = λ at a u. n.used at a (m.used at a u);
}

only_written : (ram : List ℕ) (p v : ℕ) → p + 4 ≤ length ram → p % 4 ≡ 0 → AreBytes ram → Marks (number_at ram p 4) v → OnlyMarks ram (with_number ram p 4 v)
only_written ram p v h a b marks =
    let stands : number_at (with_number ram p 4 v) p 4 ≡ v = long_same ram p v h (marks.small (long_small ram p b)) in
    record {
      size = length-with_number ram p 4 v h;
      bytes = written_bytes ram p 4 v b;
      longs = λ q c. elim (cases_eq q p) [
        | inl e ↦ rw e (ap unmarked stands ∙ marks.same)
        | inr differ ↦ ap unmarked (long_other ram p v q h a c differ)
      ];
      used = λ q c u. elim (cases_eq q p) [
        | inl e ↦ rw (e, stands) marks.used
        | inr differ ↦ rw (long_other ram p v q h a c differ) u
      ];
    }

-- a level
pub outside : (ram : List ℕ) (p : ℕ) → is_inside ram p ≡ false → descended ram p ≡ record { ram = ram; descriptor = Err BusError }
unfolding descended
outside ram p h = rw h refl

pub stops : (ram : List ℕ) (p : ℕ) → is_inside ram p ≡ true → (table_descriptor (number_at ram p 4)).resident ≡ false
    → descended ram p ≡ record { ram = ram; descriptor = Err Invalid }
unfolding descended
stops ram p h k = rw (h, k) refl

pub goes : (ram : List ℕ) (p : ℕ) → is_inside ram p ≡ true → (table_descriptor (number_at ram p 4)).resident ≡ true
    → descended ram p ≡ record { ram = with_number ram p 4 (with_used (number_at ram p 4)); descriptor = Ok (number_at ram p 4) }
unfolding descended
goes ram p h k = rw (h, k) refl

-- the levels below, now and in the search again
record Repeats (next next' : List ℕ → ℕ → Searched) : Type 0 where
  marks : (ram : List ℕ) (d : ℕ) → AreBytes ram → OnlyMarks ram (next ram d).ram
  again : (ram : List ℕ) (d : ℕ) → AreBytes ram → next' (next ram d).ram d ≡ next ram d
  same : (ram : List ℕ) (d m : ℕ) → unmarked m ≡ unmarked d → next' ram m ≡ next' ram d

abbrev Repeated : (p : ℕ) (next next' : List ℕ → ℕ → Searched) (ram : List ℕ) → Level → Type 0
Repeated p next next' ram level = let s = and_below level next in OnlyMarks ram s.ram × (and_below (descended s.ram p) next' ≡ s)

-- the same descriptor is met again, marked as it was left
met_again : (ram after : List ℕ) (p : ℕ) → p % 4 ≡ 0 → is_inside ram p ≡ true → (table_descriptor (number_at ram p 4)).resident ≡ true
    → OnlyMarks ram after → number_at after p 4 / 2 ^ 3 % 2 ≡ 1
    → descended after p ≡ record { ram = after; descriptor = Ok (number_at after p 4) }
met_again ram after p a h k only used =
    let there : is_inside after p ≡ true = rw only.size h in
    let resident = bit_1 (number_at ram p 4) (number_at after p 4) (only.longs p a) ∙ k in
    let back = ap (with_number after p 4) (used_before (number_at after p 4) used) ∙ long_back after p (inside_so after p there) only.bytes in
    goes after p there resident ∙ ap (λ (r : List ℕ). record { ram = r; descriptor = Ok (number_at after p 4) }) back

level : (p : ℕ) (next next' : List ℕ → ℕ → Searched) → p % 4 ≡ 0 → Repeats next next' → (ram : List ℕ) → AreBytes ram
    → Repeated p next next' ram (descended ram p)
level p next next' a repeats ram b = elim (cases_Bool (is_inside ram p)) [
  | inr h ↦
      let e = outside ram p h in
      subst (λ (l : Level). Repeated p next next' ram l) (sym e) (only_none ram b, ap (λ (l : Level). and_below l next') e)
  | inl h ↦ elim (cases_Bool (table_descriptor (number_at ram p 4)).resident) [
    | inr k ↦
        let e = stops ram p h k in
        subst (λ (l : Level). Repeated p next next' ram l) (sym e) (only_none ram b, ap (λ (l : Level). and_below l next') e)
    | inl k ↦
        let d = number_at ram p 4 in
        let first = with_number ram p 4 (with_used d) in
        let marks : Marks d (with_used d) = used_marks d in
        let room = inside_so ram p h in
        let only : OnlyMarks ram first = only_written ram p (with_used d) room a b marks in
        let s = next first d in
        let more : OnlyMarks first s.ram = repeats.marks first d only.bytes in
        let all : OnlyMarks ram s.ram = only_twice only more in
        let stands : number_at first p 4 ≡ with_used d = long_same ram p (with_used d) room (marks.small (long_small ram p b)) in
        let used : number_at s.ram p 4 / 2 ^ 3 % 2 ≡ 1 = more.used p a (rw stands marks.used) in
        let e = goes ram p h k in
        subst (λ (l : Level). Repeated p next next' ram l) (sym e) (
          all,
          ap (λ (l : Level). and_below l next') (met_again ram s.ram p a h k all used)
              ∙ repeats.same s.ram d (number_at s.ram p 4) (all.longs p a) ∙ repeats.again first d only.bytes,
        )
  ]
]

-- a page's descriptor, by the long that it is marked with
abbrev pub left : List ℕ → ℕ → Space → ℕ → Bool → Bool → ℕ → Searched
left ram q space page protected big v =
    let kept = kept_of (page_descriptor v) protected space page big in
    record { ram = with_number ram q 4 v; found = Entry kept (resident_status v kept.w big) }

pub paged_left : (ram : List ℕ) (q : ℕ) (space : Space) (page : ℕ) (protected write big : Bool)
    → paged ram q space page protected write big ≡ left ram q space page protected big (marked (number_at ram q 4) protected space write)
paged_left ram q space page protected write big = refl

-- what the end of a search leaves, and that it finds the same again
abbrev Ends : (List ℕ → Searched) → List ℕ → Searched → Type 0
Ends again ram s = OnlyMarks ram s.ram × (again s.ram ≡ s)

reached : (q : ℕ) (space : Space) (page : ℕ) (protected write again big : Bool) → q % 4 ≡ 0 → (again ≡ false) ⊎ (again ≡ write) → (ram : List ℕ)
    → q + 4 ≤ length ram → AreBytes ram → Ends (λ r. paged r q space page protected again big) ram (paged ram q space page protected write big)
reached q space page protected write again big a which ram h b =
    let d = number_at ram q 4 in
    let v = marked d protected space write in
    let marks : Marks d v = marked_marks d protected space write in
    let after = with_number ram q 4 v in
    let only : OnlyMarks ram after = only_written ram q v h a b marks in
    let stands : number_at after q 4 ≡ v = long_same ram q v h (marks.small (long_small ram q b)) in
    let kept = kept_of (page_descriptor v) protected space page big in
    let room : q + 4 ≤ length after = rw only.size h in
    let back : with_number after q 4 v ≡ after = ap (with_number after q 4) (sym stands) ∙ long_back after q room only.bytes in
    subst (λ s. Ends (λ r. paged r q space page protected again big) ram s) (sym (paged_left ram q space page protected write big)) (
      only,
      paged_left after q space page protected again big
          ∙ ap (λ (m : ℕ). left after q space page protected big (marked m protected space again)) stands
          ∙ ap (left after q space page protected big) (marked_again d v protected space write again which refl)
          ∙ ap (λ (r : List ℕ). record { ram = r; found = Entry kept (resident_status v kept.w big) }) back,
    )

pub pointed_outside : (ram : List ℕ) (q : ℕ) (space : Space) (page : ℕ) (protected write big : Bool) → is_inside ram q ≡ false
    → pointed ram q space page protected write big ≡ record { ram = ram; found = BusError }
unfolding pointed
pointed_outside ram q space page protected write big h = rw h refl

pub pointed_invalid : (ram : List ℕ) (q : ℕ) (space : Space) (page : ℕ) (protected write big : Bool) → is_inside ram q ≡ true
    → (page_descriptor (number_at ram q 4)).resident ≡ false → pointed ram q space page protected write big ≡ record { ram = ram; found = Invalid }
unfolding pointed
pointed_invalid ram q space page protected write big h k = rw (h, k) refl

pub pointed_page : (ram : List ℕ) (q : ℕ) (space : Space) (page : ℕ) (protected write big : Bool) → is_inside ram q ≡ true
    → (page_descriptor (number_at ram q 4)).resident ≡ true → pointed ram q space page protected write big ≡ paged ram q space page protected write big
unfolding pointed
pointed_page ram q space page protected write big h k = rw (h, k) refl

pub ended_outside : (ram : List ℕ) (q : ℕ) (space : Space) (page : ℕ) (protected write big : Bool) → is_inside ram q ≡ false
    → ended ram q space page protected write big ≡ record { ram = ram; found = BusError }
unfolding ended
ended_outside ram q space page protected write big h = rw h refl

pub ended_page : (ram : List ℕ) (q : ℕ) (space : Space) (page : ℕ) (protected write big : Bool) → is_inside ram q ≡ true
    → (page_descriptor (number_at ram q 4)).resident ≡ true → ended ram q space page protected write big ≡ paged ram q space page protected write big
unfolding ended
ended_page ram q space page protected write big h k = rw (h, k) refl

pub ended_indirect : (ram : List ℕ) (q : ℕ) (space : Space) (page : ℕ) (protected write big : Bool) → is_inside ram q ≡ true
    → (page_descriptor (number_at ram q 4)).resident ≡ false → (page_descriptor (number_at ram q 4)).indirect ≡ true
    → ended ram q space page protected write big ≡ pointed ram (indirection (number_at ram q 4)) space page protected write big
unfolding ended
ended_indirect ram q space page protected write big h k l = rw (h, k, l) refl

pub ended_invalid : (ram : List ℕ) (q : ℕ) (space : Space) (page : ℕ) (protected write big : Bool) → is_inside ram q ≡ true
    → (page_descriptor (number_at ram q 4)).resident ≡ false → (page_descriptor (number_at ram q 4)).indirect ≡ false
    → ended ram q space page protected write big ≡ record { ram = ram; found = Invalid }
unfolding ended
ended_invalid ram q space page protected write big h k l = rw (h, k, l) refl

-- a page's table has the page's descriptor
at_page : (q : ℕ) (space : Space) (page : ℕ) (protected write again big : Bool) → q % 4 ≡ 0 → (again ≡ false) ⊎ (again ≡ write) → (ram : List ℕ)
    → AreBytes ram → is_inside ram q ≡ true → (page_descriptor (number_at ram q 4)).resident ≡ true
    → Ends (λ r. ended r q space page protected again big) ram (ended ram q space page protected write big)
at_page q space page protected write again big a which ram b h k =
    let r = reached q space page protected write again big a which ram (inside_so ram q h) b in
    let s = paged ram q space page protected write big in
    let there : is_inside s.ram q ≡ true = rw r.0.size h in
    let resident = bit_0 (number_at ram q 4) (number_at s.ram q 4) (r.0.longs q a) ∙ k in
    subst (λ s. Ends (λ r. ended r q space page protected again big) ram s) (sym (ended_page ram q space page protected write big h k))
    (r.0, ended_page s.ram q space page protected again big there resident ∙ r.1)

-- it leads to the page's descriptor elsewhere
at_indirect : (q : ℕ) (space : Space) (page : ℕ) (protected write again big : Bool) → q % 4 ≡ 0 → (again ≡ false) ⊎ (again ≡ write) → (ram : List ℕ)
    → AreBytes ram → is_inside ram q ≡ true → (page_descriptor (number_at ram q 4)).resident ≡ false
    → (page_descriptor (number_at ram q 4)).indirect ≡ true
    → Ends (λ r. ended r q space page protected again big) ram (ended ram q space page protected write big)
at_indirect q space page protected write again big a which ram b h k l =
    let p = indirection (number_at ram q 4) in
    let aligned : p % 4 ≡ 0 = omega arith in
    let e = ended_indirect ram q space page protected write big h k l in
    let f = ended_indirect ram q space page protected again big h k l in
    elim (cases_Bool (is_inside ram p)) [
      | inr o ↦ subst (λ s. Ends (λ r. ended r q space page protected again big) ram s) (sym (e ∙ pointed_outside ram p space page protected write big o))
          (only_none ram b, f ∙ pointed_outside ram p space page protected again big o)
      | inl i ↦ elim (cases_Bool (page_descriptor (number_at ram p 4)).resident) [
        | inr n ↦ subst (λ s. Ends (λ r. ended r q space page protected again big) ram s) (sym (e ∙ pointed_invalid ram p space page protected write big i n))
            (only_none ram b, f ∙ pointed_invalid ram p space page protected again big i n)
        | inl y ↦
            let r = reached p space page protected write again big aligned which ram (inside_so ram p i) b in
            let s = paged ram p space page protected write big in
            let v = marked (number_at ram p 4) protected space write in
            let differ : q ≢ p = λ same. false≢true (sym k ∙ ap (λ (n : ℕ). (page_descriptor (number_at ram n 4)).resident) same ∙ y) in
            let stays : number_at s.ram q 4 ≡ number_at ram q 4 =
            ap (λ (s : Searched). number_at s.ram q 4) (paged_left ram p space page protected write big)
            ∙ long_other ram p v q (inside_so ram p i) aligned a differ in
            let there : is_inside s.ram q ≡ true = rw r.0.size h in
            let place : is_inside s.ram p ≡ true = rw r.0.size i in
            let resident = bit_0 (number_at ram p 4) (number_at s.ram p 4) (r.0.longs p aligned) ∙ y in
            subst (λ s. Ends (λ r. ended r q space page protected again big) ram s) (sym (e ∙ pointed_page ram p space page protected write big i y)) (
              r.0,
              ended_indirect s.ram q space page protected again big there
                  (ap (λ (n : ℕ). (page_descriptor n).resident) stays ∙ k) (ap (λ (n : ℕ). (page_descriptor n).indirect) stays ∙ l)
                  ∙ ap (λ (n : ℕ). pointed s.ram (indirection n) space page protected again big) stays
                  ∙ pointed_page s.ram p space page protected again big place resident ∙ r.1,
            )
      ]
    ]

end : (q : ℕ) (space : Space) (page : ℕ) (protected write again big : Bool) → q % 4 ≡ 0 → (again ≡ false) ⊎ (again ≡ write) → (ram : List ℕ) → AreBytes ram
    → Ends (λ r. ended r q space page protected again big) ram (ended ram q space page protected write big)
end q space page protected write again big a which ram b = elim (cases_Bool (is_inside ram q)) [
  | inr h ↦ subst (λ s. Ends (λ r. ended r q space page protected again big) ram s) (sym (ended_outside ram q space page protected write big h))
      (only_none ram b, ended_outside ram q space page protected again big h)
  | inl h ↦ elim (cases_Bool (page_descriptor (number_at ram q 4)).resident) [
    | inl k ↦ at_page q space page protected write again big a which ram b h k
    | inr k ↦ elim (cases_Bool (page_descriptor (number_at ram q 4)).indirect) [
      | inl l ↦ at_indirect q space page protected write again big a which ram b h k l
      | inr l ↦ subst (λ s. Ends (λ r. ended r q space page protected again big) ram s) (sym (ended_invalid ram q space page protected write big h k l))
          (only_none ram b, ended_invalid ram q space page protected again big h k l)
    ]
  ]
]

-- the last two levels, and all three, as functions of what stands above them
abbrev pub leaves : Space → ℕ → Bool → Bool → Bool → List ℕ → ℕ → Searched
leaves space page protected write big ram leaf =
    let place = entry_at leaf (page_table_bytes big) (page_index big page) in
    ended ram place space page (protected || (table_descriptor leaf).protected) write big

abbrev pub pointers : Space → ℕ → Bool → Bool → List ℕ → ℕ → Searched
pointers space page write big ram pointer =
    and_below (descended ram (entry_at pointer 512 (pointer_index page))) (leaves space page (table_descriptor pointer).protected write big)

leaf_repeats : (space : Space) (page : ℕ) (protected write again big : Bool) → (again ≡ false) ⊎ (again ≡ write)
    → Repeats (leaves space page protected write big) (leaves space page protected again big)
leaf_repeats space page protected write again big which =
    let ends = λ (ram : List ℕ) (d : ℕ) (b : AreBytes ram).
    end (entry_at d (page_table_bytes big) (page_index big page)) space page (protected || (table_descriptor d).protected) write again big
    (page_entry_aligned big d (page_index big page)) which ram b in
    record {
      marks = λ ram d b. (ends ram d b).0;
      again = λ ram d b. (ends ram d b).1;
      same = λ ram d m e.
          ap (λ (q : ℕ). ended ram q space page (protected || (table_descriptor m).protected) again big) (page_table_same big d m (page_index big page) e)
          ∙ ap (λ (p : Bool). ended ram (entry_at d (page_table_bytes big) (page_index big page)) space page (protected || p) again big) (bit_2 d m e);
    }

pointer_repeats : (space : Space) (page : ℕ) (write again big : Bool) → (again ≡ false) ⊎ (again ≡ write)
    → Repeats (pointers space page write big) (pointers space page again big)
pointer_repeats space page write again big which =
    let ends = λ (ram : List ℕ) (d : ℕ) (b : AreBytes ram).
    level (entry_at d 512 (pointer_index page)) (leaves space page (table_descriptor d).protected write big)
    (leaves space page (table_descriptor d).protected again big) (omega arith)
    (leaf_repeats space page (table_descriptor d).protected write again big which) ram b in
    record {
      marks = λ ram d b. (ends ram d b).0;
      again = λ ram d b. (ends ram d b).1;
      same = λ ram d m e.
          ap (λ (q : ℕ). and_below (descended ram q) (leaves space page (table_descriptor m).protected again big)) (table_512 d m (pointer_index page) e)
          ∙ ap (λ (p : Bool). and_below (descended ram (entry_at d 512 (pointer_index page))) (leaves space page p again big)) (bit_2 d m e);
    }

whole : (ram : List ℕ) (root : ℕ) (space : Space) (page : ℕ) (write again big : Bool) → AreBytes ram → (again ≡ false) ⊎ (again ≡ write)
    → Ends (λ r. search_of r root space page again big) ram (search_of ram root space page write big)
whole ram root space page write again big b which =
    level (entry_at root 512 (root_index page)) (pointers space page write big) (pointers space page again big) (omega arith)
    (pointer_repeats space page write again big which) ram b

pub searches_mark : SearchesMark
searches_mark ram root space page write big b = (whole ram root space page write write big b (inr refl)).0

pub searches_repeat : SearchesRepeat
searches_repeat ram root space page write again big b which = (whole ram root space page write again big b which).1
