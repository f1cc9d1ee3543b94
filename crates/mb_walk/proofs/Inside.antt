-- A search that no bus error ends is the same in a larger memory.
use Rattle.std.proofs.Common.{◌≡◌, ◌≢◌, ◌∙◌, ℕ, ◌+◌, ◌≤◌, ◌||◌, Bool, true, List, ◌++◌, length, take, drop}
use Rattle.std.proofs.Common.{ap, sym, arith, append_assoc, length-append, inl, inr}
use Rattle.std.proofs.lemmas.Bool.{cases_Bool}
use Rattle.std.proofs.lemmas.Bool.Decides.{nat_tests}
use Rattle.std.proofs.lemmas.List.{take-append-le, drop-append-le, get_or_append_left}
use Rattle.byteorder.specs.Endian.{big_bytes}
use Rattle.mb_port.specs.declared.types.Space.{Space}
use Rattle.mb_walk.specs.declared.found.Found.TheVariants.{BusError}
use Rattle.mb_walk.specs.Memory.{number_at, with_number}
use Rattle.mb_walk.specs.Descriptors.{table_descriptor, page_descriptor, with_used, marked, entry_at, indirection}
use Rattle.mb_walk.specs.Descriptors.{root_index, pointer_index, page_index, page_table_bytes}
use Rattle.mb_walk.specs.Search.{Searched, Level, and_below, is_inside, descended, paged, pointed, ended, search_of}
use Rattle.mb_walk.specs.Laws.{followed_by, SearchesStayInside}
use Rattle.mb_walk.proofs.LongLemmas.{same_from}
use Rattle.mb_walk.proofs.Again.{inside_so, outside, stops, goes, left, paged_left, pointed_outside, pointed_invalid, pointed_page}
use Rattle.mb_walk.proofs.Again.{ended_outside, ended_page, ended_indirect, ended_invalid, leaves, pointers}

module _ (more : List ℕ) where
  long_inside : (ram : List ℕ) (p : ℕ) → p + 4 ≤ length ram → number_at (ram ++ more) p 4 ≡ number_at ram p 4
  long_inside ram p h = same_from (ram ++ more) ram p 0 4 (λ j l. get_or_append_left ram more 0 (p + j) (omega arith))

  written_inside : (ram : List ℕ) (p v : ℕ) → p + 4 ≤ length ram → with_number (ram ++ more) p 4 v ≡ with_number ram p 4 v ++ more
  written_inside ram p v h =
      ap (λ (xs : List ℕ). xs ++ big_bytes 4 v ++ drop (p + 4) (ram ++ more)) (take-append-le p ram more (omega arith))
      ∙ ap (λ (xs : List ℕ). take p ram ++ big_bytes 4 v ++ xs) (drop-append-le (p + 4) ram more h)
      ∙ sym (append_assoc (take p ram ++ big_bytes 4 v) (drop (p + 4) ram) more)

  still_inside : (ram : List ℕ) (p : ℕ) → is_inside ram p ≡ true → is_inside (ram ++ more) p ≡ true
  still_inside ram p h =
      let room = inside_so ram p h in
      let longer : p + 4 ≤ length (ram ++ more) = omega (arith, length-append ram more) in
      grind (arith, nat_tests)

  -- what is the same in the larger memory
  abbrev Same : (List ℕ → Searched) → List ℕ → Type 0
  Same s ram = (s ram).found ≢ BusError → s (ram ++ more) ≡ followed_by more (s ram)

  level : (p : ℕ) (next : List ℕ → ℕ → Searched) → ((ram : List ℕ) (d : ℕ) → Same (λ r. next r d) ram) → (ram : List ℕ)
      → Same (λ r. and_below (descended r p) next) ram
  level p next same ram n = elim (cases_Bool (is_inside ram p)) [
    | inr h ↦ absurd (n (ap (λ (l : Level). (and_below l next).found) (outside ram p h)))
    | inl h ↦
        let there = still_inside ram p h in
        let room = inside_so ram p h in
        let d = number_at ram p 4 in
        let long : number_at (ram ++ more) p 4 ≡ d = long_inside ram p room in
        elim (cases_Bool (table_descriptor d).resident) [
          | inr k ↦
              ap (λ (l : Level). and_below l next) (stops (ram ++ more) p there (ap (λ (m : ℕ). (table_descriptor m).resident) long ∙ k))
              ∙ ap (λ (l : Level). followed_by more (and_below l next)) (sym (stops ram p h k))
          | inl k ↦
              let e = goes ram p h k in
              let first = with_number ram p 4 (with_used d) in
              let rest = same first d (λ o. n (ap (λ (l : Level). (and_below l next).found) e ∙ o)) in
              ap (λ (l : Level). and_below l next) (goes (ram ++ more) p there (ap (λ (m : ℕ). (table_descriptor m).resident) long ∙ k))
              ∙ ap (λ (m : ℕ). next (with_number (ram ++ more) p 4 (with_used m)) m) long
              ∙ ap (λ (r : List ℕ). next r d) (written_inside ram p (with_used d) room)
              ∙ rest ∙ ap (λ (l : Level). followed_by more (and_below l next)) (sym e)
        ]
  ]

  reached : (q : ℕ) (space : Space) (n : ℕ) (protected write big : Bool) (ram : List ℕ) → q + 4 ≤ length ram
      → paged (ram ++ more) q space n protected write big ≡ followed_by more (paged ram q space n protected write big)
  reached q space n protected write big ram h =
      paged_left (ram ++ more) q space n protected write big
      ∙ ap (λ (m : ℕ). left (ram ++ more) q space n protected big (marked m protected space write)) (long_inside ram q h)
      ∙ ap (λ (r : List ℕ). record (left ram q space n protected big (marked (number_at ram q 4) protected space write)) { ram = r })
      (written_inside ram q (marked (number_at ram q 4) protected space write) h)
      ∙ ap (followed_by more) (sym (paged_left ram q space n protected write big))

  point : (q : ℕ) (space : Space) (page : ℕ) (protected write big : Bool) (ram : List ℕ) → Same (λ r. pointed r q space page protected write big) ram
  point q space n protected write big ram o = elim (cases_Bool (is_inside ram q)) [
    | inr h ↦ absurd (o (ap (λ (s : Searched). s.found) (pointed_outside ram q space n protected write big h)))
    | inl h ↦
        let there = still_inside ram q h in
        let room = inside_so ram q h in
        let long = ap (λ (m : ℕ). (page_descriptor m).resident) (long_inside ram q room) in
        elim (cases_Bool (page_descriptor (number_at ram q 4)).resident) [
          | inr k ↦ pointed_invalid (ram ++ more) q space n protected write big there (long ∙ k)
              ∙ ap (followed_by more) (sym (pointed_invalid ram q space n protected write big h k))
          | inl k ↦ pointed_page (ram ++ more) q space n protected write big there (long ∙ k) ∙ reached q space n protected write big ram room
              ∙ ap (followed_by more) (sym (pointed_page ram q space n protected write big h k))
        ]
  ]

  end : (q : ℕ) (space : Space) (page : ℕ) (protected write big : Bool) (ram : List ℕ) → Same (λ r. ended r q space page protected write big) ram
  end q space n protected write big ram o = elim (cases_Bool (is_inside ram q)) [
    | inr h ↦ absurd (o (ap (λ (s : Searched). s.found) (ended_outside ram q space n protected write big h)))
    | inl h ↦
        let there = still_inside ram q h in
        let room = inside_so ram q h in
        let long = long_inside ram q room in
        let resident = ap (λ (m : ℕ). (page_descriptor m).resident) long in
        let indirect = ap (λ (m : ℕ). (page_descriptor m).indirect) long in
        elim (cases_Bool (page_descriptor (number_at ram q 4)).resident) [
          | inl k ↦ ended_page (ram ++ more) q space n protected write big there (resident ∙ k) ∙ reached q space n protected write big ram room
              ∙ ap (followed_by more) (sym (ended_page ram q space n protected write big h k))
          | inr k ↦ elim (cases_Bool (page_descriptor (number_at ram q 4)).indirect) [
            | inr l ↦ ended_invalid (ram ++ more) q space n protected write big there (resident ∙ k) (indirect ∙ l)
                ∙ ap (followed_by more) (sym (ended_invalid ram q space n protected write big h k l))
            | inl l ↦
                let e = ended_indirect ram q space n protected write big h k l in
                let p = indirection (number_at ram q 4) in
                ended_indirect (ram ++ more) q space n protected write big there (resident ∙ k) (indirect ∙ l)
                ∙ ap (λ (m : ℕ). pointed (ram ++ more) (indirection m) space n protected write big) long
                ∙ point p space n protected write big ram (λ b. o (ap (λ (s : Searched). s.found) e ∙ b))
                ∙ ap (followed_by more) (sym e)
          ]
        ]
  ]

  whole : (ram : List ℕ) (root : ℕ) (space : Space) (page : ℕ) (write big : Bool) → Same (λ r. search_of r root space page write big) ram
  whole ram root space n write big =
      level (entry_at root 512 (root_index n)) (pointers space n write big)
      (λ ram pointer. level (entry_at pointer 512 (pointer_index n)) (leaves space n (table_descriptor pointer).protected write big)
      (λ ram leaf. end (entry_at leaf (page_table_bytes big) (page_index big n)) space n
      ((table_descriptor pointer).protected || (table_descriptor leaf).protected) write big ram) ram) ram

pub searches_stay_inside : SearchesStayInside
searches_stay_inside ram more root space page write big = whole more ram root space page write big
