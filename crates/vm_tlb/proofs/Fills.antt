-- What a fill drops, by the links.
use Rattle.std.proofs.Common.{◌≡◌, ◌≢◌, ◌∙◌, ℕ, ◌≤◌, ◌<◌, true, false, List, [], ◌∷◌, ◌++◌, length, map, drop, ap, sym, subst, refl}
use Rattle.std.proofs.Common.{arith, length-append}
use Rattle.std.specs.Prelude.{Some, None, nat_le}
use Rattle.std.specs.List.{list_any}
use Rattle.std.proofs.lemmas.Bool.Decides.{nat_tests}
use Rattle.std.proofs.lemmas.List.{length-map}
use Rattle.mb_model.specs.declared.kept.Kept.{Kept}
use Rattle.mb_model.specs.Keeping.{is_of, without, room_for, displaced, oldest, Apart}
use Rattle.law_links.specs.Paths.{updated, IsPath, times}
use Rattle.vm_tlb.specs.Links.{Links, number_of, order, vacant, entries, IsLinked}
use Rattle.law_links.proofs.Paths.{updated_same, updated_other, one}
use Rattle.vm_tlb.proofs.Changes.{inside, once}
use Rattle.vm_tlb.proofs.Finding.{place, place-none, place-some, split_at, without_one, any-none, any-some}

module _ (l : Links) (linked : IsLinked l) where
  count : length (entries l) ≡ length (order l)
  count = length-map (order l) l.kept

  low : (k : ℕ) → 0 < times k (order l) → k < 256
  low k h = inside l.newer l.older l.next (number_of l.kept) (order l) (vacant l) linked k (omega (arith, h))

  pub most : length (entries l) ≤ 256
  most = omega (arith, count, linked.all)

  no_rest : (free : List ℕ) → IsPath l.next 320 free 256 → ((k : ℕ) → 0 < times k free → k < 256) → l.next 320 ≡ 256 → length free ≡ 0
  no_rest [] p b e = refl
  no_rest (x ∷ free) p b e = absurd (omega (arith, b x (omega (arith, one x x refl)), sym p.0 ∙ e))

  a_rest : (free : List ℕ) → IsPath l.next 320 free 256 → l.next 320 ≢ 256 → 0 < length free
  a_rest [] p d = absurd (d p)
  a_rest (x ∷ free) p d = omega arith

  -- no node is free where 256 entries are kept
  pub full : l.next 320 ≡ 256 → length (entries l) ≡ 256
  full e = omega (
    arith,
    count,
    linked.all,
    no_rest (vacant l) linked.rest
        (λ k h. inside l.newer l.older l.next (number_of l.kept) (order l) (vacant l) linked k (omega (arith, h))) e,
  )

  pub not_full : l.next 320 ≢ 256 → length (entries l) < 256
  not_full d = omega (arith, count, linked.all, a_rest (vacant l) linked.rest d)

  first_of_free : (free : List ℕ) → 0 < length free → (at : ℕ) × (rest : List ℕ) × (free ≡ at ∷ rest)
  first_of_free [] h = absurd (omega (arith, h))
  first_of_free (x ∷ free) h = (x, free, refl)

  pub room : length (order l) < 256 → (at : ℕ) × (rest : List ℕ) × (vacant l ≡ at ∷ rest)
  room h = first_of_free (vacant l) (omega (arith, h, linked.all))

-- A node to be dropped.
pub record Room (l : Links) (k : Kept) (at : ℕ) : Type 0 where
  pub xs : List ℕ
  pub ys : List ℕ
  pub is : order l ≡ xs ++ at ∷ ys
  pub left : map l.kept (xs ++ ys) ≡ room_for 256 k (entries l)
  pub went : Some (l.kept at) ≡ displaced 256 k (entries l)
  pub few : length (xs ++ ys) < 256

module _ (l : Links) (linked : IsLinked l) (apart : Apart (entries l)) (k : Kept) where
  pub room_at : (at : ℕ) → at ≡ place k.space k.page l.kept (order l) → at ≢ 256 → Room l k at
  room_at at e d =
      let p = place-some k.space k.page l.kept (order l) apart (λ i. d (e ∙ i)) in
      let here = subst (λ (n : ℕ). 0 < times n (order l)) (sym e) p.2 in
      let of_it = subst (λ (n : ℕ). is_of k.space k.page (l.kept n) ≡ true) (sym e) p.1 in
      let s = split_at at (order l) here in
      let found = p.0 ∙ ap (λ (n : ℕ). Some (l.kept n)) (sym e) in
      let any = any-some (is_of k.space k.page) (entries l) (l.kept at) found in
      record {
        xs = s.0;
        ys = s.1;
        is = s.2;
        left = rw any (sym (without_one k.space k.page l.kept s.0 at s.1 (subst (λ (o : List ℕ). Apart (map l.kept o)) s.2 apart) of_it)
            ∙ ap (λ (o : List ℕ). without (is_of k.space k.page) (map l.kept o)) (sym s.2));
        went = rw any (sym found);
        few = omega (arith, linked.all, ap length s.2, length-append s.0 s.1, length-append s.0 (at ∷ s.1));
      }

  none_here : place k.space k.page l.kept (order l) ≡ 256 → list_any (is_of k.space k.page) (entries l) ≡ false
  none_here e = any-none (is_of k.space k.page) (entries l) (place-none k.space k.page l.kept (order l) (low l linked) e)

  oldest_on : (live : List ℕ) → order l ≡ live → IsPath l.newer 256 live 256 → place k.space k.page l.kept (order l) ≡ 256 → length (entries l) ≡ 256
      → Room l k (l.newer 256)
  oldest_on [] is p e f = absurd (omega (arith, f, length-map (order l) l.kept, ap length is))
  oldest_on (x ∷ live) is p e f =
      let any = none_here e in
      let le : nat_le 256 (length (entries l)) ≡ true = let g : 256 ≤ length (entries l) = omega (arith, f) in grind (arith, nat_tests) in
      let whole : entries l ≡ map l.kept (x ∷ live) = ap (map l.kept) is in
      subst (Room l k) (sym p.0) (record {
        xs = [];
        ys = live;
        is = is;
        left = rw (any, le) (ap (λ (ks : List Kept). drop 1 ks) (sym whole));
        went = rw (any, le) (ap oldest (sym whole));
        few = omega (arith, linked.all, ap length is);
      })

  pub room_oldest : place k.space k.page l.kept (order l) ≡ 256 → length (entries l) ≡ 256 → Room l k (l.newer 256)
  room_oldest e f = oldest_on (order l) refl linked.ring e f

  pub room_none : place k.space k.page l.kept (order l) ≡ 256 → length (entries l) < 256
      → (entries l ≡ room_for 256 k (entries l)) × (None ≡ displaced 256 k (entries l)) × (length (order l) < 256)
  room_none e f =
      let any = none_here e in
      let le : nat_le 256 (length (entries l)) ≡ false = grind (arith, nat_tests) in
      (rw (any, le) refl, rw (any, le) refl, omega (arith, f, length-map (order l) l.kept))

kept_others : (kept : ℕ → Kept) (n : ℕ) (k : Kept) (xs : List ℕ) → times n xs ≡ 0 → map (updated kept n k) xs ≡ map kept xs
kept_others kept n k [] z = refl
kept_others kept n k (x ∷ xs) z =
    let d : x ≢ n = λ e. absurd (omega (arith, z, one x n e)) in
    rw (updated_other kept n k x d) (ap (λ (ks : List Kept). kept x ∷ ks) (kept_others kept n k xs (omega (arith, z))))

map-two : (f : ℕ → Kept) (xs : List ℕ) (n : ℕ) → map f (xs ++ n ∷ []) ≡ map f xs ++ f n ∷ []
map-two f [] n = refl
map-two f (x ∷ xs) n = ap (λ (ks : List Kept). f x ∷ ks) (map-two f xs n)

-- the entries with a new one
pub entries_put : (l : Links) (linked : IsLinked l) (n : ℕ) (rest : List ℕ) (k : Kept) → vacant l ≡ n ∷ rest
    → map (updated l.kept n k) (order l ++ n ∷ []) ≡ entries l ++ k ∷ []
entries_put l linked n rest k is =
    let o = once l.newer l.older l.next (number_of l.kept) (order l) (vacant l) linked n in
    let z : times n (order l) ≡ 0 = omega (arith, o, ap (times n) is, one n n refl) in
    map-two (updated l.kept n k) (order l) n
    ∙ ap (λ (ks : List Kept). ks ++ updated l.kept n k n ∷ []) (kept_others l.kept n k (order l) z)
    ∙ ap (λ (e : Kept). entries l ++ e ∷ []) (updated_same l.kept n k)
