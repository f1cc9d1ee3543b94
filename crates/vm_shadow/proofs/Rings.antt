-- Slots in use and free ones, when one is freed and when one is taken.
use Rattle.std.proofs.Common.{◌≡◌, ◌≢◌, ◌∙◌, ℕ, zero, suc, ◌+◌, ◌≤◌, ◌<◌, true, false, cond, List, [], ◌∷◌, ◌++◌, length}
use Rattle.std.proofs.Common.{ap, sym, subst, refl, arith, inl, inr, length-append}
use Rattle.std.specs.Prelude.{nat_lt}
use Rattle.std.proofs.lemmas.Bool.{cases_eq, cases_lt}
use Rattle.std.proofs.lemmas.Bool.Decides.{nat_tests}
use Rattle.law_links.specs.Paths.{updated, IsPath, walk, times}
use Rattle.vm_shadow.specs.Chains.{Linked}
use Rattle.law_links.proofs.Paths.{updated_same, updated_other, one, none, times-append, last, last_in, path-kept, path-split, path-end, path-skip, path-front, path-last, path-walk}
use Rattle.law_links.proofs.Paths.{newer_in}

-- each slot is there once, and there are no others
counts : (live free : List ℕ) → ((at : ℕ) → times at live + times at free ≡ cond (nat_lt at 126) 1 0) → (at : ℕ)
    → (times at live + times at free ≤ 1) × (0 < times at live + times at free → at < 126)
counts live free each at = elim (cases_lt at 126) [
  | inl l ↦ let b : nat_lt at 126 ≡ true = grind (arith, nat_tests) in let e = each at in (omega (arith, rw b at e), λ h. l)
  | inr g ↦ let b : nat_lt at 126 ≡ false = grind (arith, nat_tests) in let e = each at in (omega (arith, rw b at e), λ h. absurd (omega (arith, rw b at e, h)))
]

module _ (newer older : ℕ → ℕ) (live free : List ℕ) (linked : Linked newer older live free) where
  pub once : (at : ℕ) → times at live + times at free ≤ 1
  once at = (counts live free linked.each at).0

  pub inside : (at : ℕ) → 0 < times at live + times at free → at < 126
  inside at = (counts live free linked.each at).1

  -- no root is a slot
  pub no_root : (at : ℕ) → 126 ≤ at → times at live + times at free ≡ 0
  no_root at h = elim (cases_lt 0 (times at live + times at free)) [ inl s ↦ absurd (omega (arith, inside at s, h)) | inr z ↦ omega (arith, z) ]

  -- no slot comes twice in the ring or among the free ones, with their roots
  pub ring_once : (at : ℕ) → times at (126 ∷ live) ≤ 1
  ring_once at = elim (cases_eq 126 at) [
    | inl e ↦ omega (arith, one 126 at e, no_root at (omega (arith, e)))
    | inr d ↦ omega (arith, none 126 at d, once at)
  ]

  pub free_once : (at : ℕ) → times at (127 ∷ free) ≤ 1
  free_once at = elim (cases_eq 127 at) [
    | inl e ↦ omega (arith, one 127 at e, no_root at (omega (arith, e)))
    | inr d ↦ omega (arith, none 127 at d, once at)
  ]

  -- the newest
  pub newest_is : older 126 ≡ last 126 live
  newest_is = ap older (sym (path-end newer 126 live 126 linked.ring)) ∙ linked.back (last 126 live) (last_in 126 live)

  -- what is in the ring or its root is at most 126, and is not free
  pub ring_low : (at : ℕ) → 0 < times at (126 ∷ live) → at ≤ 126
  ring_low at h = elim (cases_eq 126 at) [
    | inl e ↦ omega (arith, e)
    | inr d ↦ omega (arith, inside at (omega (arith, h, none 126 at d)))
  ]

  pub ring_not_free : (at : ℕ) → 0 < times at (126 ∷ live) → times at free ≡ 0
  ring_not_free at h = elim (cases_eq 126 at) [
    | inl e ↦ omega (arith, no_root at (omega (arith, e)))
    | inr d ↦ omega (arith, once at, h, none 126 at d)
  ]

  -- the walks are the lists
  pub order_is : walk 126 newer 126 (newer 126) ≡ live
  order_is = path-walk 126 newer 126 live 126 (λ k h. inside k (omega (arith, h))) (omega (arith, linked.all)) linked.ring

  pub vacant_is : walk 126 newer 126 (newer 127) ≡ free
  vacant_is = path-walk 126 newer 127 free 126 (λ k h. inside k (omega (arith, h))) (omega (arith, linked.all)) linked.rest

  pub resealed : Linked newer older (walk 126 newer 126 (newer 126)) (walk 126 newer 126 (newer 127))
  resealed = rw (order_is, vacant_is) linked

-- where a slot in use is freed
module _ (newer older : ℕ → ℕ) (xs : List ℕ) (x : ℕ) (ys free : List ℕ) (linked : Linked newer older (xs ++ x ∷ ys) free) where
  abbrev live : List ℕ
  live = xs ++ x ∷ ys

  here : 0 < times x (xs ++ x ∷ ys)
  here = omega (arith, times-append x xs (x ∷ ys), one x x refl)

  pub node_inside : x < 126
  node_inside = inside newer older (xs ++ x ∷ ys) free linked x (omega (arith, here))

  not_elsewhere : (times x xs ≡ 0) × (times x ys ≡ 0) × (times x free ≡ 0)
  not_elsewhere =
      let o = once newer older (xs ++ x ∷ ys) free linked x in
      let a = times-append x xs (x ∷ ys) in
      let i = one x x refl in
      (omega (arith, o, a, i), omega (arith, o, a, i), omega (arith, o, a, i))

  older_is : older x ≡ last 126 xs
  older_is =
      let s = path-split newer 126 xs x ys 126 linked.ring in
      ap older (sym (path-end newer 126 xs x s.0))
      ∙ linked.back (last 126 xs) (omega (arith, last_in 126 xs, times-append (last 126 xs) xs (x ∷ ys)))

  older_in : 0 < times (older x) (126 ∷ (xs ++ x ∷ ys))
  older_in = subst (λ (n : ℕ). 0 < times n (126 ∷ (xs ++ x ∷ ys))) (sym older_is)
      (omega (arith, last_in 126 xs, times-append (last 126 xs) xs (x ∷ ys)))

  -- the neighbours
  pub ends_low : (newer x ≤ 126) × (older x ≤ 126)
  ends_low = (
    ring_low newer older (xs ++ x ∷ ys) free linked (newer x) (newer_in newer 126 (xs ++ x ∷ ys) 126 x (omega (arith, here)) linked.ring),
    ring_low newer older (xs ++ x ∷ ys) free linked (older x) older_in,
  )

  abbrev cut : ℕ → ℕ
  cut = updated newer (older x) (newer x)

  cut_ring : IsPath cut 126 (xs ++ ys) 126
  cut_ring = rw older_is (path-skip newer 126 xs x ys 126 (ring_once newer older (xs ++ x ∷ ys) free linked) linked.ring)

  cut_back : (at : ℕ) → 0 < times at (126 ∷ (xs ++ ys)) → updated older (newer x) (older x) (cut at) ≡ at
  cut_back at h =
      let was : 0 < times at (126 ∷ (xs ++ x ∷ ys)) = omega (arith, h, times-append at xs ys, times-append at xs (x ∷ ys)) in
      let there = linked.back x (omega (arith, here)) in
      elim (cases_eq at (older x)) [
        | inl e ↦
            ap (λ (n : ℕ). updated older (newer x) (older x) (cut n)) e
            ∙ ap (updated older (newer x) (older x)) (updated_same newer (older x) (newer x))
            ∙ updated_same older (newer x) (older x) ∙ sym e
        | inr d ↦
            let differs : at ≢ x = λ e. absurd (omega (
              arith,
              subst (λ (n : ℕ). 0 < times n (126 ∷ (xs ++ ys))) e h,
              times-append x xs ys,
              not_elsewhere.0,
              not_elsewhere.1,
              none 126 x (λ r. absurd (omega (arith, r, node_inside))),
            )) in
            let apart : newer at ≢ newer x = λ e. differs (sym (linked.back at was) ∙ ap older e ∙ there) in
            ap (updated older (newer x) (older x)) (updated_other newer (older x) (newer x) at d)
            ∙ updated_other older (newer x) (older x) (newer at) apart
            ∙ linked.back at was
      ]

  abbrev freed : ℕ → ℕ
  freed = updated (updated cut x (cut 127)) 127 x

  -- a place of the ring that stays is neither the slot nor the root of the free ones
  stays : (at : ℕ) → 0 < times at (126 ∷ (xs ++ ys)) → (at ≢ x) × (at ≢ 127)
  stays at h =
      let a = times-append at xs ys in
      let b = times-append at xs (x ∷ ys) in
      let low = ring_low newer older (xs ++ x ∷ ys) free linked at (omega (arith, h, a, b)) in (
        λ e. absurd (omega (
          arith,
          subst (λ (n : ℕ). 0 < times n (126 ∷ (xs ++ ys))) e h,
          times-append x xs ys,
          not_elsewhere.0,
          not_elsewhere.1,
          none 126 x (λ r. absurd (omega (arith, r, node_inside))),
        )),
        λ e. absurd (omega (arith, e, low)),
      )

  pub unlinked : Linked freed (updated older (newer x) (older x)) (xs ++ ys) (x ∷ free)
  unlinked = record {
    ring = path-kept (updated cut x (cut 127)) 127 x 126 (xs ++ ys) 126 (λ e. absurd (omega (arith, e)))
        (omega (arith, no_root newer older (xs ++ x ∷ ys) free linked 127 (omega arith), times-append 127 xs ys, times-append 127 xs (x ∷ ys)))
        (path-kept cut x (cut 127) 126 (xs ++ ys) 126 (λ e. absurd (omega (arith, e, node_inside)))
        (omega (arith, times-append x xs ys, not_elsewhere.0, not_elsewhere.1)) cut_ring);
    back = λ at h. let s = stays at h in
        ap (updated older (newer x) (older x)) (updated_other (updated cut x (cut 127)) 127 x at s.1 ∙ updated_other cut x (cut 127) at s.0)
        ∙ cut_back at h;
    rest = path-front cut 127 free 126 x (λ e. absurd (omega (arith, e, node_inside)))
        (omega (arith, no_root newer older (xs ++ x ∷ ys) free linked 127 (omega arith))) not_elsewhere.2
        (path-kept newer (older x) (newer x) 127 free 126 (λ e. absurd (omega (arith, e, ends_low.1)))
        (ring_not_free newer older (xs ++ x ∷ ys) free linked (older x) older_in) linked.rest);
    each = λ at. omega (arith, linked.each at, times-append at xs ys, times-append at xs (x ∷ ys));
    all = omega (arith, linked.all, length-append xs ys, length-append xs (x ∷ ys));
  }

-- where the first free slot is taken
module _ (newer older : ℕ → ℕ) (live : List ℕ) (n : ℕ) (free : List ℕ) (linked : Linked newer older live (n ∷ free)) where
  pub free_once_here : (times n live ≡ 0) × (times n free ≡ 0)
  free_once_here =
      let o = once newer older live (n ∷ free) linked n in
      let i = one n n refl in
      (omega (arith, o, i), omega (arith, o, i))

  pub free_inside : n < 126
  free_inside = inside newer older live (n ∷ free) linked n (omega (arith, one n n refl))

  last_is : older 126 ≡ last 126 live
  last_is = newest_is newer older live (n ∷ free) linked

  newest_in : 0 < times (older 126) (126 ∷ live)
  newest_in = subst (λ (m : ℕ). 0 < times m (126 ∷ live)) (sym last_is) (last_in 126 live)

  pub newest_low : older 126 ≤ 126
  newest_low = ring_low newer older live (n ∷ free) linked (older 126) newest_in

  newest_other : older 126 ≢ n
  newest_other e = absurd (omega (
    arith,
    subst (λ (m : ℕ). 0 < times m (126 ∷ live)) e newest_in,
    free_once_here.0,
    none 126 n (λ r. absurd (omega (arith, r, free_inside))),
  ))

  abbrev popped : ℕ → ℕ
  popped = updated newer 127 (newer n)

  abbrev taken : ℕ → ℕ
  taken = updated (updated popped (older 126) n) n 126

  popped_ring : IsPath popped 126 live 126
  popped_ring = path-kept newer 127 (newer n) 126 live 126 (λ e. absurd (omega (arith, e)))
      (omega (arith, no_root newer older live (n ∷ free) linked 127 (omega arith))) linked.ring

  taken_ring : IsPath taken 126 (live ++ n ∷ []) 126
  taken_ring = rw last_is (path-last popped 126 live 126 n (ring_once newer older live (n ∷ free) linked)
      (λ e. absurd (omega (arith, e, free_inside))) free_once_here.0 popped_ring)

  taken_back : (at : ℕ) → 0 < times at (126 ∷ (live ++ n ∷ [])) → updated (updated older n (older 126)) 126 n (taken at) ≡ at
  taken_back at h =
      let k = updated older n (older 126) in
      let root : n ≢ 126 = λ e. absurd (omega (arith, e, free_inside)) in
      elim (cases_eq at n) [
        | inl e ↦
            ap (λ (m : ℕ). updated k 126 n (taken m)) e
            ∙ ap (updated k 126 n) (updated_same (updated popped (older 126) n) n 126)
            ∙ updated_same k 126 n ∙ sym e
        | inr d ↦ elim (cases_eq at (older 126)) [
          | inl e ↦
              ap (λ (m : ℕ). updated k 126 n (taken m)) e
              ∙ ap (updated k 126 n) (updated_other (updated popped (older 126) n) n 126 (older 126) newest_other ∙ updated_same popped (older 126) n)
              ∙ updated_other k 126 n n root ∙ updated_same older n (older 126) ∙ sym e
          | inr o ↦
              let was : 0 < times at (126 ∷ live) = omega (arith, h, times-append at live (n ∷ []), none n at (λ e. d (sym e))) in
              let low = ring_low newer older live (n ∷ free) linked at was in
              let undone = linked.back at was in
              let not_root : newer at ≢ 126 = λ e. o (sym undone ∙ ap older e) in
              let not_n : newer at ≢ n = λ e. absurd (omega (
                arith,
                free_once_here.0,
                subst (λ (m : ℕ). 0 < times m (126 ∷ live)) e (newer_in newer 126 live 126 at was linked.ring),
                none 126 n (λ r. root (sym r)),
              )) in
              ap (updated k 126 n) (updated_other (updated popped (older 126) n) n 126 at d ∙ updated_other popped (older 126) n at o
              ∙ updated_other newer 127 (newer n) at (λ e. absurd (omega (arith, e, low))))
              ∙ updated_other k 126 n (newer at) not_root
              ∙ updated_other older n (older 126) (newer at) not_n
              ∙ undone
        ]
      ]

  taken_rest : IsPath taken 127 free 126
  taken_rest =
      path-kept (updated popped (older 126) n) n 126 127 free 126 (λ e. absurd (omega (arith, e, free_inside))) free_once_here.1
      (path-kept popped (older 126) n 127 free 126 (λ e. absurd (omega (arith, e, newest_low)))
      (let z = ring_not_free newer older live (n ∷ free) linked (older 126) newest_in in omega (arith, z))
      (path-skip newer 127 [] n free 126 (free_once newer older live (n ∷ free) linked) linked.rest))

  pub pushed : Linked taken (updated (updated older n (older 126)) 126 n) (live ++ n ∷ []) free
  pushed = record {
    ring = taken_ring;
    back = taken_back;
    rest = taken_rest;
    each = λ at. omega (arith, linked.each at, times-append at live (n ∷ []));
    all = omega (arith, linked.all, length-append live (n ∷ []));
  }

-- ---- all slots are free
-- the numbers from one on
unfoldable pub from : ℕ → ℕ → List ℕ
from a zero = []
from a (suc n) = a ∷ from (suc a) n

from_path : (f : ℕ → ℕ) (root a n : ℕ) → f root ≡ a → ((k : ℕ) → a ≤ k → k < a + n → f k ≡ k + 1) → IsPath f root (from a n) (a + n)
unfolding from
from_path f root a zero e each = e ∙ omega arith
from_path f root a (suc n) e each =
    let end : suc a + n ≡ a + suc n = omega arith in (
      e,
      subst (λ (m : ℕ). IsPath f a (from (suc a) n) m) end
          (from_path f a (suc a) n (each a (omega arith) (omega arith) ∙ omega arith) (λ k h l. each k (omega (arith, h)) (omega (arith, l)))),
    )

from_length : (a n : ℕ) → length (from a n) ≡ n
unfolding from
from_length a zero = refl
from_length a (suc n) = let e = from_length (suc a) n in omega (arith, e)

from_below : (a n at : ℕ) → at < a → times at (from a n) ≡ 0
unfolding from
from_below a zero at h = refl
from_below a (suc n) at h = omega (arith, from_below (suc a) n at (omega (arith, h)), none a at (λ e. absurd (omega (arith, e, h))))

from_past : (a n at : ℕ) → a + n ≤ at → times at (from a n) ≡ 0
unfolding from
from_past a zero at h = refl
from_past a (suc n) at h = omega (arith, from_past (suc a) n at (omega (arith, h)), none a at (λ e. absurd (omega (arith, e, h))))

from_each : (a n at : ℕ) → a ≤ at → at < a + n → times at (from a n) ≡ 1
unfolding from
from_each a zero at h l = absurd (omega (arith, h, l))
from_each a (suc n) at h l = elim (cases_eq a at) [
  | inl e ↦ omega (arith, one a at e, from_below (suc a) n at (omega (arith, e)))
  | inr d ↦ omega (arith, none a at d, from_each (suc a) n at (omega (arith, h, (let q : a ≢ at = d in q))) (omega (arith, l)))
]

pub all_free : (newer older : ℕ → ℕ) → newer 126 ≡ 126 → older 126 ≡ 126 → newer 127 ≡ 0 → ((k : ℕ) → k < 126 → newer k ≡ k + 1)
    → Linked newer older [] (from 0 126)
all_free newer older a b c d = record {
  ring = a;
  back = λ at h. elim (cases_eq 126 at) [
    | inl e ↦ ap (λ (n : ℕ). older (newer n)) (sym e) ∙ ap older a ∙ b ∙ e
    | inr e ↦ absurd (omega (arith, h, none 126 at e))
  ];
  rest = from_path newer 127 0 126 c (λ k h l. d k l);
  each = λ at. elim (cases_lt at 126) [
    | inl l ↦ let b : nat_lt at 126 ≡ true = grind (arith, nat_tests) in rw b (omega (arith, from_each 0 126 at (omega arith) l))
    | inr g ↦ let b : nat_lt at 126 ≡ false = grind (arith, nat_tests) in rw b (omega (arith, from_past 0 126 at g))
  ];
  all = omega (arith, from_length 0 126);
}
