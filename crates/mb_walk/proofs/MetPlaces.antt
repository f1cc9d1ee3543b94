-- A search changes the descriptors that it meets, and no other long.
use Rattle.std.proofs.Common.{◌≡◌, ◌≢◌, ◌∙◌, ℕ, suc, ◌+◌, ◌≤◌, ◌%◌, ◌||◌, Bool, true, false}
use Rattle.std.proofs.Common.{List, [], ◌∷◌, length, refl, ap, sym, subst, arith, inl, inr}
use Rattle.std.specs.List.{All}
use Rattle.std.proofs.lemmas.Bool.{cases_Bool}
use Rattle.mb_port.specs.declared.types.Space.{Space}
use Rattle.mb_walk.specs.Memory.{number_at, with_number}
use Rattle.mb_walk.specs.Descriptors.{table_descriptor, page_descriptor, with_used, marked, entry_at, indirection}
use Rattle.mb_walk.specs.Descriptors.{root_index, pointer_index, page_index, page_table_bytes}
use Rattle.mb_walk.specs.Search.{Searched, Level, and_below, is_inside, descended, paged, pointed, ended, search_of}
use Rattle.mb_walk.specs.Laws.{met_and_below, met_last, met, SearchesChangeWhatTheyMeet}
use Rattle.mb_walk.proofs.LongLemmas.{long_other}
use Rattle.mb_walk.proofs.Marks.{page_entry_aligned}
use Rattle.mb_walk.proofs.Again.{inside_so, outside, stops, goes, paged_left, pointed_outside, pointed_invalid, pointed_page}
use Rattle.mb_walk.proofs.Again.{ended_outside, ended_page, ended_indirect, ended_invalid, leaves, pointers}

module _ (at : ℕ) (aligned : at % 4 ≡ 0) where
  abbrev Out : List ℕ → Type 0
  Out places = All (λ place. place ≢ at) places

  first_out : (p : ℕ) (places : List ℕ) → Out (p ∷ places) → at ≢ p
  first_out p places o = λ e. o 0 p (omega arith) (sym e)

  rest_out : (p : ℕ) (places : List ℕ) → Out (p ∷ places) → Out places
  rest_out p places o = λ i d l. o (suc i) d (omega arith)

  -- the long stays
  abbrev Stays : List ℕ → Searched → Type 0
  Stays ram s = number_at s.ram at 4 ≡ number_at ram at 4

  level : (p : ℕ) (next : List ℕ → ℕ → Searched) (places : List ℕ → ℕ → List ℕ) → p % 4 ≡ 0
      → ((ram : List ℕ) (d : ℕ) → Out (places ram d) → Stays ram (next ram d)) → (ram : List ℕ)
      → Out (met_and_below p (descended ram p) places) → Stays ram (and_below (descended ram p) next)
  level p next places a stays ram out = elim (cases_Bool (is_inside ram p)) [
    | inr h ↦ subst (λ (l : Level). Stays ram (and_below l next)) (sym (outside ram p h)) refl
    | inl h ↦ elim (cases_Bool (table_descriptor (number_at ram p 4)).resident) [
      | inr k ↦ subst (λ (l : Level). Stays ram (and_below l next)) (sym (stops ram p h k)) refl
      | inl k ↦
          let d = number_at ram p 4 in
          let e = goes ram p h k in
          let after = with_number ram p 4 (with_used d) in
          let o : Out (p ∷ places after d) = subst (λ (l : Level). Out (met_and_below p l places)) e out in
          subst (λ (l : Level). Stays ram (and_below l next)) (sym e) (
          stays after d (rest_out p (places after d) o)
          ∙ long_other ram p (with_used d) at (inside_so ram p h) a aligned (first_out p (places after d) o)
          )
    ]
  ]

  reached : (q : ℕ) (space : Space) (page : ℕ) (protected write big : Bool) (ram : List ℕ) → q % 4 ≡ 0 → q + 4 ≤ length ram → at ≢ q
      → Stays ram (paged ram q space page protected write big)
  reached q space page protected write big ram a h differ =
      ap (λ (s : Searched). number_at s.ram at 4) (paged_left ram q space page protected write big)
      ∙ long_other ram q (marked (number_at ram q 4) protected space write) at h a aligned differ

  point : (q : ℕ) (space : Space) (page : ℕ) (protected write big : Bool) (ram : List ℕ) → q % 4 ≡ 0 → at ≢ q
      → Stays ram (pointed ram q space page protected write big)
  point q space page protected write big ram a differ = elim (cases_Bool (is_inside ram q)) [
    | inr h ↦ subst (λ s. Stays ram s) (sym (pointed_outside ram q space page protected write big h)) refl
    | inl h ↦ elim (cases_Bool (page_descriptor (number_at ram q 4)).resident) [
      | inr k ↦ subst (λ s. Stays ram s) (sym (pointed_invalid ram q space page protected write big h k)) refl
      | inl k ↦ subst (λ s. Stays ram s) (sym (pointed_page ram q space page protected write big h k))
          (reached q space page protected write big ram a (inside_so ram q h) differ)
    ]
  ]

  both_met : (ram : List ℕ) (q : ℕ) → (page_descriptor (number_at ram q 4)).resident ≡ false → (page_descriptor (number_at ram q 4)).indirect ≡ true
      → met_last ram q ≡ q ∷ indirection (number_at ram q 4) ∷ []
  both_met ram q k l = rw (k, l) refl

  one_met : (ram : List ℕ) (q : ℕ) → (page_descriptor (number_at ram q 4)).resident ≡ true → met_last ram q ≡ q ∷ []
  one_met ram q k = rw k refl

  end : (q : ℕ) (space : Space) (page : ℕ) (protected write big : Bool) (ram : List ℕ) → q % 4 ≡ 0 → Out (met_last ram q)
      → Stays ram (ended ram q space page protected write big)
  end q space page protected write big ram a out = elim (cases_Bool (is_inside ram q)) [
    | inr h ↦ subst (λ s. Stays ram s) (sym (ended_outside ram q space page protected write big h)) refl
    | inl h ↦ elim (cases_Bool (page_descriptor (number_at ram q 4)).resident) [
      | inl k ↦
          let o : Out (q ∷ []) = subst Out (one_met ram q k) out in
          subst (λ s. Stays ram s) (sym (ended_page ram q space page protected write big h k))
          (reached q space page protected write big ram a (inside_so ram q h) (first_out q [] o))
      | inr k ↦ elim (cases_Bool (page_descriptor (number_at ram q 4)).indirect) [
        | inr l ↦ subst (λ s. Stays ram s) (sym (ended_invalid ram q space page protected write big h k l)) refl
        | inl l ↦
            let p = indirection (number_at ram q 4) in
            let o : Out (q ∷ p ∷ []) = subst Out (both_met ram q k l) out in
            subst (λ s. Stays ram s) (sym (ended_indirect ram q space page protected write big h k l))
            (point p space page protected write big ram (omega arith) (first_out p [] (rest_out q (p ∷ []) o)))
      ]
    ]
  ]

  whole : (ram : List ℕ) (root : ℕ) (space : Space) (page : ℕ) (write big : Bool) → Out (met ram root page big)
      → Stays ram (search_of ram root space page write big)
  whole ram root space page write big out =
      level (entry_at root 512 (root_index page)) (pointers space page write big)
      (λ ram pointer. let second = entry_at pointer 512 (pointer_index page) in
      met_and_below second (descended ram second) (λ ram leaf. met_last ram (entry_at leaf (page_table_bytes big) (page_index big page))))
      (omega arith)
      (λ ram pointer. level (entry_at pointer 512 (pointer_index page)) (leaves space page (table_descriptor pointer).protected write big)
      (λ ram leaf. met_last ram (entry_at leaf (page_table_bytes big) (page_index big page))) (omega arith)
      (λ ram leaf. end (entry_at leaf (page_table_bytes big) (page_index big page)) space page
      ((table_descriptor pointer).protected || (table_descriptor leaf).protected) write big ram
      (page_entry_aligned big leaf (page_index big page))) ram) ram out

pub searches_change_what_they_meet : SearchesChangeWhatTheyMeet
searches_change_what_they_meet ram root space page write big at a out = whole at a ram root space page write big out
