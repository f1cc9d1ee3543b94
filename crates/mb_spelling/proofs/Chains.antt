-- Chains spell at the end of a text.
use Rattle.std.proofs.Common.{◌≡◌, ℕ, zero, suc, pred, ◌≤◌, Bool, true, false, List, [], ◌∷◌, ◌++◌, length, Option, Some, None, refl, sym, ap, subst, ◌∙◌, arith}
use Rattle.std.proofs.lemmas.Bool.{and_parts, leb-true}
use Rattle.mb_spelling.specs.Spelling.{Spelling, Either, First, Second, both, either}
use Rattle.mb_spelling.specs.Laws.{Spells}
use Rattle.mb_spelling.specs.Presents.{Heads}
use Rattle.mb_spelling.specs.Decimals.{Range, is_in, write_decimal, ranged}
use Rattle.mb_spelling.specs.Ends.{finish, write_option, perhaps_last, SpellsLast}
use Rattle.mb_spelling.specs.Ends.{Chain, LawfulChain, write_chain, last_item, item_before, chain, LawfulCounted, write_counted, counted}
use Rattle.mb_spelling.proofs.Ends.{finish_spells, over_last, both_last, either_last, perhaps_spells}

-- What makes a chain spell: in a good state item and extra spell, the test tells them apart, and the next state is good.
pub record ChainsWell {A D S : Type 0} (g : Chain A D S) : Type 1 where
  pub Good : S → Type 0
  pub item : (s : S) → Good s → Spells (g.item s)
  pub extra : (s : S) → Good s → Spells (g.extra s)
  pub item_heads : (s : S) → Good s → Heads g.test false (g.item s)
  pub extra_heads : (s : S) → Good s → Heads g.test true (g.extra s)
  pub stays : (s : S) → Good s → Good (g.next s)

pub both_heads : {A B : Type 0} (test : ℕ → Bool) (answer : Bool) (s : Spelling A) (t : A → Spelling B) → Heads test answer s → Heads test answer (both s t)
both_heads test answer s t h = record {
  head = λ v l. h.head (v.0) l.0;
  tail = λ v l. h.tail (v.0) l.0 ++ (t (v.0)).write (v.1);
  written = λ v l. ap (λ (w : List ℕ). w ++ (t (v.0)).write (v.1)) (h.written (v.0) l.0);
  tested = λ v l. h.tested (v.0) l.0;
}

-- ---- the last item

abbrev Last : {A D S : Type 0} → Chain A D S → S → Spelling (A × Option (D × Unit {0}))
Last g s = both (g.item s) (λ a. perhaps_last g.test (both (g.extra s) (λ d. finish)))

last_to : {A D S : Type 0} (g : Chain A D S) (s : S) (v : A × Option (D × Unit {0})) → (Last g s).IsLawful v → LawfulChain g zero s (last_item v)
last_to g s (a, None) l = (l.0, tt)
last_to g s (a, Some v) l = (l.0, l.1.0)

last_same : {A D S : Type 0} (g : Chain A D S) (s : S) (v : A × Option (D × Unit {0})) → write_chain g s (last_item v) ≡ (Last g s).write v
last_same g s (a, None) = refl
last_same g s (a, Some v) = refl

last_from : {A D S : Type 0} (g : Chain A D S) (s : S) (b : List (A × Option D)) → LawfulChain g zero s b → A × Option (D × Unit {0})
last_from g s [] l = absurd l
last_from g s ((a, None) ∷ []) l = (a, None)
last_from g s ((a, Some d) ∷ []) l = (a, Some (d, tt))
last_from g s (x ∷ y ∷ later) l = absurd l

last_lawful : {A D S : Type 0} (g : Chain A D S) (s : S) (b : List (A × Option D)) (l : LawfulChain g zero s b) → (Last g s).IsLawful (last_from g s b l)
unfolding last_from
last_lawful g s [] l = absurd l
last_lawful g s ((a, None) ∷ []) l = l
last_lawful g s ((a, Some d) ∷ []) l = (l.0, (l.1, tt))
last_lawful g s (x ∷ y ∷ later) l = absurd l

last_back : {A D S : Type 0} (g : Chain A D S) (s : S) (b : List (A × Option D)) (l : LawfulChain g zero s b) → last_item (last_from g s b l) ≡ b
unfolding last_from
last_back g s [] l = absurd l
last_back g s ((a, None) ∷ []) l = refl
last_back g s ((a, Some d) ∷ []) l = refl
last_back g s (x ∷ y ∷ later) l = absurd l

-- ---- an item before others

abbrev Before : {A D S : Type 0} → Chain A D S → ℕ → S → Spelling (A × Either (D × List (A × Option D)) (List (A × Option D)))
Before g n s = both (g.item s) (λ a. either g.test (both (g.extra s) (λ d. chain g n (g.next s))) (chain g n (g.next s)))

before_to : {A D S : Type 0} (g : Chain A D S) (n : ℕ) (s : S) (v : A × Either (D × List (A × Option D)) (List (A × Option D))) → (Before g n s).IsLawful v
    → LawfulChain g (suc n) s (item_before v)
before_to g n s (a, First v) l = (l.0, l.1.0, l.1.1)
before_to g n s (a, Second later) l = (l.0, tt, l.1)

before_same : {A D S : Type 0} (g : Chain A D S) (n : ℕ) (s : S) (v : A × Either (D × List (A × Option D)) (List (A × Option D)))
    → write_chain g s (item_before v) ≡ (Before g n s).write v
before_same g n s (a, First v) = refl
before_same g n s (a, Second later) = refl

before_from : {A D S : Type 0} (g : Chain A D S) (n : ℕ) (s : S) (b : List (A × Option D)) → LawfulChain g (suc n) s b
    → A × Either (D × List (A × Option D)) (List (A × Option D))
before_from g n s [] l = absurd l
before_from g n s ((a, Some d) ∷ later) l = (a, First (d, later))
before_from g n s ((a, None) ∷ later) l = (a, Second later)

before_lawful : {A D S : Type 0} (g : Chain A D S) (n : ℕ) (s : S) (b : List (A × Option D)) (l : LawfulChain g (suc n) s b)
    → (Before g n s).IsLawful (before_from g n s b l)
unfolding before_from
before_lawful g n s [] l = absurd l
before_lawful g n s ((a, Some d) ∷ later) l = (l.0, (l.1, l.2))
before_lawful g n s ((a, None) ∷ later) l = (l.0, l.2)

before_back : {A D S : Type 0} (g : Chain A D S) (n : ℕ) (s : S) (b : List (A × Option D)) (l : LawfulChain g (suc n) s b)
    → item_before (before_from g n s b l) ≡ b
unfolding before_from
before_back g n s [] l = absurd l
before_back g n s ((a, Some d) ∷ later) l = refl
before_back g n s ((a, None) ∷ later) l = refl

-- ---- chains

-- the first item of a lawful chain
record Starts {A D S : Type 0} (g : Chain A D S) (s : S) (b : List (A × Option D)) : Type 0 where
  item : A × Option D
  later : List (A × Option D)
  lawful : (g.item s).IsLawful (item.0)
  same : b ≡ item ∷ later

starts : {A D S : Type 0} (g : Chain A D S) (n : ℕ) (s : S) (b : List (A × Option D)) → LawfulChain g n s b → Starts g s b
starts g zero s [] l = absurd l
starts g zero s (x ∷ []) l = record { item = x; later = []; lawful = l.0; same = refl }
starts g zero s (x ∷ y ∷ later) l = absurd l
starts g (suc n) s [] l = absurd l
starts g (suc n) s (x ∷ later) l = record { item = x; later = later; lawful = l.0; same = refl }

chain_heads : {A D S : Type 0} (g : Chain A D S) (n : ℕ) (s : S) → Heads g.test false (g.item s) → Heads g.test false (chain g n s)
chain_heads g n s h = record {
  head = λ b l. let x = starts g n s b l in h.head (x.item.0) x.lawful;
  tail = λ b l.
      let x = starts g n s b l in
      h.tail (x.item.0) x.lawful ++ (write_option (g.extra s) (x.item.1) ++ write_chain g (g.next s) x.later);
  written = λ b l.
      let x = starts g n s b l in
      ap (write_chain g s) x.same
      ∙ ap (λ (w : List ℕ). w ++ (write_option (g.extra s) (x.item.1) ++ write_chain g (g.next s) x.later)) (h.written (x.item.0) x.lawful);
  tested = λ b l. let x = starts g n s b l in h.tested (x.item.0) x.lawful;
}

pub chain_spells : {A D S : Type 0} (g : Chain A D S) (w : ChainsWell g) (n : ℕ) (s : S) → w.Good s → SpellsLast (chain g n s)
chain_spells g w zero s good =
    over_last (Last g s) last_item (LawfulChain g zero s) (write_chain g s)
    (both_last (g.item s) (λ a. perhaps_last g.test (both (g.extra s) (λ d. finish))) (w.item s good)
    (λ a l. perhaps_spells g.test (both (g.extra s) (λ d. finish)) (both_last (g.extra s) (λ d. finish) (w.extra s good) (λ d l. finish_spells))
    (both_heads g.test true (g.extra s) (λ d. finish) (w.extra_heads s good)))) (record {
      to = last_to g s;
      same = λ v l. last_same g s v;
      from = last_from g s;
      lawful = last_lawful g s;
      back = last_back g s;
    })
chain_spells g w (suc n) s good =
    let later = chain_spells g w n (g.next s) (w.stays s good) in
    over_last (Before g n s) item_before (LawfulChain g (suc n) s) (write_chain g s)
    (both_last (g.item s) (λ a. either g.test (both (g.extra s) (λ d. chain g n (g.next s))) (chain g n (g.next s))) (w.item s good)
    (λ a l. either_last g.test (both (g.extra s) (λ d. chain g n (g.next s))) (chain g n (g.next s))
    (both_last (g.extra s) (λ d. chain g n (g.next s)) (w.extra s good) (λ d l. later)) later
    (both_heads g.test true (g.extra s) (λ d. chain g n (g.next s)) (w.extra_heads s good))
    (chain_heads g n (g.next s) (w.item_heads (g.next s) (w.stays s good))))) (record {
      to = before_to g n s;
      same = λ v l. before_same g n s v;
      from = before_from g n s;
      lawful = before_lawful g n s;
      back = before_back g n s;
    })

-- ---- with their count

chain_length : {A D S : Type 0} (g : Chain A D S) (n : ℕ) (s : S) (b : List (A × Option D)) → LawfulChain g n s b → length b ≡ suc n
chain_length g zero s [] l = absurd l
chain_length g zero s (x ∷ []) l = refl
chain_length g zero s (x ∷ y ∷ later) l = absurd l
chain_length g (suc n) s [] l = absurd l
chain_length g (suc n) s (x ∷ later) l = ap suc (chain_length g n (g.next s) later l.2)

as_long : {A D S : Type 0} (g : Chain A D S) (r : Range) (n : ℕ) (s : S) (b : List (A × Option D)) → 1 ≤ r.least → is_in r n ≡ true → LawfulChain g (pred n) s b
    → length b ≡ n
as_long g r zero s b some there l =
    absurd (let h : r.least ≤ 0 = leb-true r.least 0 (and_parts _ _ (and_parts _ _ there).0).0 in omega arith)
as_long g r (suc n) s b some there l = chain_length g n s b l

pub counted_spells : {A D S : Type 0} (g : Chain A D S) (w : ChainsWell g) (r : Range) (end : ℕ) (s : S) → 1 ≤ r.least → w.Good s → Spells (ranged r end)
    → SpellsLast (counted g r end s)
counted_spells g w r end s some good hr =
    over_last (both (ranged r end) (λ n. chain g (pred n) s)) (λ v. v.1) (LawfulCounted g r s) (write_counted g end s)
    (both_last (ranged r end) (λ n. chain g (pred n) s) hr (λ n l. chain_spells g w (pred n) s good)) (record {
      to = λ v l.
          subst (λ (n : ℕ). (is_in r n ≡ true) × LawfulChain g (pred n) s (v.1)) (sym (as_long g r (v.0) s (v.1) some l.0 l.1)) l;
      same = λ v l. ap (λ (n : ℕ). write_decimal end n ++ write_chain g s (v.1)) (as_long g r (v.0) s (v.1) some l.0 l.1);
      from = λ b l. (length b, b);
      lawful = λ b l. l;
      back = λ b l. refl;
    })
