-- What the flush of a page drops.
use Rattle.std.proofs.Common.{◌≡◌, ◌≢◌, ◌∙◌, ℕ, ◌≤◌, ◌<◌, Bool, true, false, not, List, [], ◌∷◌, ◌++◌, length, map, get_or, ap, sym, subst, refl}
use Rattle.std.proofs.Common.{arith, inl, inr}
use Rattle.std.proofs.Common.{append-nil, append_assoc, length-append}
use Rattle.std.specs.List.{filter}
use Rattle.std.proofs.lemmas.List.Elements.{filter-append}
use Rattle.std.specs.Prelude.{None}
use Rattle.std.proofs.lemmas.Bool.{cases_Bool, cases_eq, true≢false}
use Rattle.std.proofs.lemmas.Option.{none-some}
use Rattle.mb_port.specs.declared.types.Space.{Space}
use Rattle.mb_port.specs.declared.types.Flush.{Flush}
use Rattle.mb_model.specs.declared.kept.Kept.{Kept}
use Rattle.mb_model.specs.Keeping.{is_of, entry_in, covers, flushed_in, Apart}
use Rattle.law_links.specs.Paths.{IsPath, walk, times}
use Rattle.vm_tlb.specs.Links.{Links, number_of, order, vacant, entries, IsLinked}
use Rattle.law_links.proofs.Paths.{one, none, times-append, last, path-split, path-end, path-walk}
use Rattle.vm_tlb.proofs.Changes.{inside}
use Rattle.vm_tlb.proofs.Finding.{one_of}
use Rattle.mb_model.proofs.ApartLemmas.{is_of-same}

module _ (space : Space) (page : ℕ) (what : Flush) (of_page : (k : Kept) → covers what k ≡ true → is_of space page k ≡ true) where
  pub flush_none : (ks : List Kept) → entry_in space page ks ≡ None → flushed_in what ks ≡ ks
  flush_none [] h = refl
  flush_none (k ∷ ks) h = elim (cases_Bool (is_of space page k)) [
    | inl p ↦ absurd (none-some k (sym h ∙ rw p refl))
    | inr q ↦ elim (cases_Bool (covers what k)) [
      | inl t ↦ absurd (true≢false (sym (of_page k t) ∙ q))
      | inr f ↦ rw f (ap (λ (rest : List Kept). k ∷ rest) (flush_none ks (sym (rw q refl) ∙ h)))
    ]
  ]

  module _ (kept : ℕ → Kept) where
    -- no other entry is of the page of the first one
    gone : (x : ℕ) (xs : List ℕ) → Apart (map kept (x ∷ xs)) → is_of space page (kept x) ≡ true → entry_in space page (map kept xs) ≡ None
    gone x xs a p =
        let same = is_of-same space page (kept x) p in
        subst (λ (s : Space). entry_in s page (map kept xs) ≡ None) same.0 (subst (λ (n : ℕ). entry_in (kept x).space n (map kept xs) ≡ None) same.1 a.0)

    pub flush_one : (xs : List ℕ) (i : ℕ) (ys : List ℕ) → Apart (map kept (xs ++ i ∷ ys)) → covers what (kept i) ≡ true
        → flushed_in what (map kept (xs ++ i ∷ ys)) ≡ map kept (xs ++ ys)
    flush_one [] i ys a t = rw t (flush_none (map kept ys) (gone i ys a (of_page (kept i) t)))
    flush_one (x ∷ xs) i ys a t = elim (cases_Bool (covers what (kept x))) [
      | inl p ↦ absurd (none-some (kept i) (sym (gone x (xs ++ i ∷ ys) a (of_page (kept x) p))
          ∙ one_of space page kept (xs ++ i ∷ ys) i a.1 (omega (arith, times-append i xs (i ∷ ys), one i i refl)) (of_page (kept i) t)))
      | inr f ↦ rw f (ap (λ (ks : List Kept). kept x ∷ ks) (flush_one xs i ys a.1 t))
    ]

    -- the one entry of the page is not covered
    pub flush_kept : (xs : List ℕ) (i : ℕ) → Apart (map kept xs) → 0 < times i xs → is_of space page (kept i) ≡ true → covers what (kept i) ≡ false
        → flushed_in what (map kept xs) ≡ map kept xs
    flush_kept [] i a h p c = refl
    flush_kept (x ∷ xs) i a h p c = elim (cases_eq x i) [
      | inl e ↦
          let f : covers what (kept x) ≡ false = ap (λ (n : ℕ). covers what (kept n)) e ∙ c in
          let q : is_of space page (kept x) ≡ true = ap (λ (n : ℕ). is_of space page (kept n)) e ∙ p in
          rw f (ap (λ (ks : List Kept). kept x ∷ ks) (flush_none (map kept xs) (gone x xs a q)))
      | inr d ↦
          let later : 0 < times i xs = omega (arith, h, none x i d) in
          elim (cases_Bool (covers what (kept x))) [
            | inl t ↦ absurd (none-some (kept i) (sym (gone x xs a (of_page (kept x) t)) ∙ one_of space page kept xs i a.1 later p))
            | inr f ↦ rw f (ap (λ (ks : List Kept). kept x ∷ ks) (flush_kept xs i a.1 later p c))
          ]
    ]

-- whether a flush leaves the entry of a node
abbrev pub stays : Flush → (ℕ → Kept) → ℕ → Bool
stays what kept at = not (covers what (kept at))

-- A sweep stands at a node: of the nodes before it those that stay are linked, and all from it on.
pub record Sweeping (what : Flush) (was now : Links) (at : ℕ) : Type 0 where
  pub done : List ℕ
  pub ahead : List ℕ
  pub all : order was ≡ done ++ ahead
  pub left : order now ≡ filter (stays what was.kept) done ++ ahead
  pub kept : now.kept ≡ was.kept
  pub stands : at ≡ get_or ahead 0 256

pub record Swept (what : Flush) (was now : Links) (at : ℕ) : Type 0 where
  pub front : List ℕ
  pub back : List ℕ
  pub low : at < 256
  pub here : order now ≡ front ++ at ∷ back
  pub goes : covers what (now.kept at) ≡ true → (then : Links) → order then ≡ front ++ back → then.kept ≡ now.kept → Sweeping what was then (now.newer at)
  pub rests : covers what (now.kept at) ≡ false → Sweeping what was now (now.newer at)
  pub fewer : length (walk 256 was.newer 256 (now.newer at)) < length (walk 256 was.newer 256 at)

pub leads : (f : ℕ → ℕ) (from : ℕ) (xs : List ℕ) → IsPath f from xs 256 → f from ≡ get_or xs 0 256
leads f from [] p = p
leads f from (x ∷ xs) p = p.0

module _ (what : Flush) (was now : Links) (linked_was : IsLinked was) (linked : IsLinked now) where
  stays_more : (done : List ℕ) (x : ℕ) (ahead : List ℕ) → covers what (was.kept x) ≡ false
      → filter (stays what was.kept) (done ++ x ∷ []) ++ ahead ≡ filter (stays what was.kept) done ++ x ∷ ahead
  stays_more done x ahead f =
      let p = stays what was.kept in
      let e : filter p (x ∷ []) ≡ x ∷ [] = rw f refl in
      ap (λ (ys : List ℕ). ys ++ ahead) (filter-append p done (x ∷ []) ∙ ap (λ (ys : List ℕ). filter p done ++ ys) e)
      ∙ append_assoc (filter p done) (x ∷ []) ahead

  goes_more : (done : List ℕ) (x : ℕ) (ahead : List ℕ) → covers what (was.kept x) ≡ true
      → filter (stays what was.kept) (done ++ x ∷ []) ++ ahead ≡ filter (stays what was.kept) done ++ ahead
  goes_more done x ahead t =
      let p = stays what was.kept in
      let e : filter p (x ∷ []) ≡ [] = rw t refl in
      ap (λ (ys : List ℕ). ys ++ ahead) (filter-append p done (x ∷ []) ∙ ap (λ (ys : List ℕ). filter p done ++ ys) e ∙ append-nil (filter p done))

  low : (k : ℕ) → 0 < times k (order was) → k < 256
  low k h = inside was.newer was.older was.next (number_of was.kept) (order was) (vacant was) linked_was k (omega (arith, h))

  swept_on : (at : ℕ) (done ahead : List ℕ) → order was ≡ done ++ ahead → order now ≡ filter (stays what was.kept) done ++ ahead → now.kept ≡ was.kept
      → at ≡ get_or ahead 0 256 → at ≢ 256 → Swept what was now at
  swept_on at done [] all left kept stands d = absurd (d stands)
  swept_on at done (x ∷ ahead) all left kept stands d =
      let front = filter (stays what was.kept) done in
      let path = path-split now.newer 256 front x ahead 256 (subst (λ (o : List ℕ). IsPath now.newer 256 o 256) left linked.ring) in
      let past = path-split was.newer 256 done x ahead 256 (subst (λ (o : List ℕ). IsPath was.newer 256 o 256) all linked_was.ring) in
      let within : (k : ℕ) → 0 < times k (x ∷ ahead) → k < 256 = λ k h. low k (omega (arith, h, ap (times k) all, times-append k done (x ∷ ahead))) in
      let count : length (x ∷ ahead) ≤ 256 = omega (arith, linked_was.all, ap length all, length-append done (x ∷ ahead)) in
      let next = leads now.newer x ahead path.1 in
      let here = path-end was.newer 256 done x past.0 in
      let before = path-walk 256 was.newer (last 256 done) (x ∷ ahead) 256 within count (here, past.1) in
      let after = path-walk 256 was.newer x ahead 256 (λ k h. within k (omega (arith, h))) (omega (arith, count)) past.1 in
      subst (Swept what was now) (sym stands) (record {
        front = front;
        back = ahead;
        low = within x (omega (arith, one x x refl));
        here = left;
        goes = λ t then is same. record {
          done = done ++ x ∷ [];
          ahead = ahead;
          all = all ∙ sym (append_assoc done (x ∷ []) ahead);
          left = is ∙ sym (goes_more done x ahead (ap (λ (f : ℕ → Kept). covers what (f x)) (sym kept) ∙ t));
          kept = same ∙ kept;
          stands = next;
        };
        rests = λ f. record {
          done = done ++ x ∷ [];
          ahead = ahead;
          all = all ∙ sym (append_assoc done (x ∷ []) ahead);
          left = left ∙ sym (stays_more done x ahead (ap (λ (g : ℕ → Kept). covers what (g x)) (sym kept) ∙ f));
          kept = kept;
          stands = next;
        };
        fewer = omega (
          arith,
          ap (λ (n : ℕ). length (walk 256 was.newer 256 n)) (next ∙ sym (leads was.newer x ahead past.1)),
          ap length after,
          ap (λ (n : ℕ). length (walk 256 was.newer 256 n)) (sym here),
          ap length before,
        );
      })

  pub swept : (at : ℕ) → Sweeping what was now at → at ≢ 256 → Swept what was now at
  swept at s d = swept_on at s.done s.ahead s.all s.left s.kept s.stands d

  none_ahead : (ahead : List ℕ) → ((k : ℕ) → 0 < times k ahead → k < 256) → get_or ahead 0 256 ≡ 256 → ahead ≡ []
  none_ahead [] h e = refl
  none_ahead (x ∷ ahead) h e = absurd (omega (arith, h x (omega (arith, one x x refl)), e))

  kept_of : (done : List ℕ) → map was.kept (filter (stays what was.kept) done) ≡ flushed_in what (map was.kept done)
  kept_of [] = refl
  kept_of (x ∷ done) = elim (cases_Bool (covers what (was.kept x))) [
    | inl t ↦ rw t (kept_of done)
    | inr f ↦ rw f (ap (λ (ks : List Kept). was.kept x ∷ ks) (kept_of done))
  ]

  -- at the end all that is covered has gone
  pub swept_all : (at : ℕ) → Sweeping what was now at → at ≡ 256 → entries now ≡ flushed_in what (entries was)
  swept_all at s e =
      let none = none_ahead s.ahead (λ k h. low k (omega (arith, h, ap (times k) s.all, times-append k s.done s.ahead))) (sym s.stands ∙ e) in
      let p = stays what was.kept in
      let left : order now ≡ filter p s.done = s.left ∙ ap (λ (ys : List ℕ). filter p s.done ++ ys) none ∙ append-nil (filter p s.done) in
      let all : order was ≡ s.done = s.all ∙ ap (λ (ys : List ℕ). s.done ++ ys) none ∙ append-nil s.done in
      (λ i. map (s.kept i) (left i)) ∙ kept_of s.done ∙ ap (λ (o : List ℕ). flushed_in what (map was.kept o)) (sym all)
