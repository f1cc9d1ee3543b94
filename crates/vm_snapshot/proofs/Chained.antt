-- A chain of items is so many items, each with something behind it or nothing, and the end of the text.
use Rattle.std.proofs.Common.{◌≡◌, ℕ, zero, suc, List, [], ◌∷◌, refl, ap, ◌∙◌, inl, inr}
use Rattle.std.specs.Prelude.{map, Option, Some, None}
use Rattle.std.proofs.lemmas.Bool.{cases_Bool}
use Rattle.mb_spelling.specs.Spelling.{Reading, Read, Short, Wrong, Spelling, First, Second, mapped, followed, read_either, both, over}
use Rattle.mb_spelling.specs.Ends.{Chain, read_finish, read_last, last_item, item_before, read_chain}
use Rattle.mb_spelling.specs.Lists.{read_times}
use Rattle.vm_snapshot.specs.Parts.{perhaps, read_perhaps}

-- ---- the same items by other values

mapped_cons : {A B : Type 0} (f : A → B) (a : A) (r : Reading (List A))
    → mapped (λ (v : B × List B). v.0 ∷ v.1) (mapped (λ b. (f a, b)) (mapped (map f) r)) ≡ mapped (map f)
    (mapped (λ (v : A × List A). v.0 ∷ v.1) (mapped (λ b. (a, b)) r))
mapped_cons f a (Read later rest) = refl
mapped_cons f a Short = refl
mapped_cons f a (Wrong rest) = refl

over_step : {A B : Type 0} (f : A → B) (r : Reading A) (more : List ℕ → Reading (List A)) (mores : List ℕ → Reading (List B))
    → ((rest : List ℕ) → mores rest ≡ mapped (map f) (more rest))
    → mapped (λ (v : B × List B). v.0 ∷ v.1) (followed (mapped f r) (λ b rest. mores rest))
    ≡ mapped (map f) (mapped (λ (v : A × List A). v.0 ∷ v.1) (followed r (λ a rest. more rest)))
over_step {B = B} f (Read a rest) more mores same =
    ap (λ (x : Reading (List B)). mapped (λ (v : B × List B). v.0 ∷ v.1) (mapped (λ b. (f a, b)) x)) (same rest) ∙ mapped_cons f a (more rest)
over_step f Short more mores same = refl
over_step f (Wrong rest) more mores same = refl

pub times_over : {A B S : Type 0} (item : S → Spelling A) (f : A → B) (after : S → S) (IsLawful : B → Type 0) (write : B → List ℕ) (n : ℕ) (s : S)
    (text : List ℕ)
    → read_times (λ left s. over (item s) f IsLawful write) (λ s b. after s) n s text
    ≡ mapped (map f) (read_times (λ left s. item s) (λ s a. after s) n s text)
times_over item f after IsLawful write zero s text = refl
times_over item f after IsLawful write (suc n) s text =
    over_step f ((item s).read text) _ _ (λ rest. times_over item f after IsLawful write n (after s) rest)

-- ---- a chain

module _ {A D S : Type 0} (g : Chain A D S) (empty : (s : S) → (g.item s).read [] ≡ Short) where
  abbrev pub paired : S → Spelling (A × Option D)
  paired s = both (g.item s) (λ a. perhaps g.test (g.extra s))

  abbrev pub items : (n : ℕ) → S → List ℕ → Reading (List (A × Option D))
  items n s text = read_times (λ left s. paired s) (λ s a. g.next s) n s text

  abbrev pub ended : Reading (List (A × Option D)) → Reading (List (A × Option D))
  ended r = mapped (λ (v : List (A × Option D) × Unit {0}). v.0) (followed r (λ v rest. read_finish rest))

  none_before : (s : S) (n : ℕ) → items (suc n) s [] ≡ Short
  none_before s n = rw (empty s) refl

  -- the last item, with what is behind it
  extra_last : (a : A) (d : D) (r : Reading (Unit {0}))
      → mapped last_item (mapped (λ b. (a, b)) (mapped Some (mapped (λ v. (d, v)) r)))
      ≡ mapped (λ (v : List (A × Option D) × Unit {0}). v.0) (mapped (λ b. ((a, Some d) ∷ [], b)) r)
  extra_last a d (Read v rest) = refl
  extra_last a d Short = refl
  extra_last a d (Wrong rest) = refl

  last_extra : (a : A) (x : Reading D)
      → mapped last_item (mapped (λ b. (a, b)) (mapped Some (followed x (λ d left. read_finish left))))
      ≡ ended (mapped (λ (v : (A × Option D) × List (A × Option D)). v.0 ∷ v.1)
      (followed (mapped (λ b. (a, b)) (mapped Some x)) (λ v rest. Read [] rest)))
  last_extra a (Read d left) = extra_last a d (read_finish left)
  last_extra a Short = refl
  last_extra a (Wrong rest) = refl

  last_behind : (a : A) (extra : List ℕ → Reading D) (rest : List ℕ)
      → mapped last_item (mapped (λ b. (a, b)) (read_last g.test (λ t. followed (extra t) (λ d left. read_finish left)) rest))
      ≡ ended (mapped (λ (v : (A × Option D) × List (A × Option D)). v.0 ∷ v.1)
      (followed (mapped (λ b. (a, b)) (read_perhaps g.test extra rest)) (λ v rest. Read [] rest)))
  last_behind a extra [] = refl
  last_behind a extra (c ∷ rest) = elim (cases_Bool (g.test c)) [
    | inl e ↦ rw e (last_extra a (extra (c ∷ rest)))
    | inr e ↦ rw e refl
  ]

  last_one : (s : S) (r : Reading A)
      → mapped last_item (followed r (λ a rest. read_last g.test (λ t. followed ((g.extra s).read t) (λ d left. read_finish left)) rest))
      ≡ ended (mapped (λ (v : (A × Option D) × List (A × Option D)). v.0 ∷ v.1)
      (followed (followed r (λ a rest. read_perhaps g.test (g.extra s).read rest)) (λ v rest. Read [] rest)))
  last_one s (Read a rest) = last_behind a (g.extra s).read rest
  last_one s Short = refl
  last_one s (Wrong rest) = refl

  -- an item before others
  joined_some : (a : A) (d : D) (l : List (A × Option D)) (r : Reading (Unit {0}))
      → mapped item_before (mapped (λ b. (a, b)) (mapped First
      (mapped (λ later. (d, later)) (mapped (λ (v : List (A × Option D) × Unit {0}). v.0) (mapped (λ b. (l, b)) r)))))
      ≡ mapped (λ (v : List (A × Option D) × Unit {0}). v.0) (mapped (λ b. ((a, Some d) ∷ l, b)) r)
  joined_some a d l (Read v rest) = refl
  joined_some a d l Short = refl
  joined_some a d l (Wrong rest) = refl

  some_before : (a : A) (d : D) (z : Reading (List (A × Option D)))
      → mapped item_before (mapped (λ b. (a, b)) (mapped First (mapped (λ later. (d, later)) (ended z))))
      ≡ ended (mapped (λ (v : (A × Option D) × List (A × Option D)). v.0 ∷ v.1) (mapped (λ later. ((a, Some d), later)) z))
  some_before a d (Read l rest) = joined_some a d l (read_finish rest)
  some_before a d Short = refl
  some_before a d (Wrong rest) = refl

  joined_none : (a : A) (l : List (A × Option D)) (r : Reading (Unit {0}))
      → mapped item_before (mapped (λ b. (a, b)) (mapped Second (mapped (λ (v : List (A × Option D) × Unit {0}). v.0) (mapped (λ b. (l, b)) r))))
      ≡ mapped (λ (v : List (A × Option D) × Unit {0}). v.0) (mapped (λ b. ((a, None) ∷ l, b)) r)
  joined_none a l (Read v rest) = refl
  joined_none a l Short = refl
  joined_none a l (Wrong rest) = refl

  none_behind : (a : A) (z : Reading (List (A × Option D)))
      → mapped item_before (mapped (λ b. (a, b)) (mapped Second (ended z)))
      ≡ ended (mapped (λ (v : (A × Option D) × List (A × Option D)). v.0 ∷ v.1) (mapped (λ later. ((a, None), later)) z))
  none_behind a (Read l rest) = joined_none a l (read_finish rest)
  none_behind a Short = refl
  none_behind a (Wrong rest) = refl

  with_extra : (n : ℕ) (s : S) (more : List ℕ → Reading (List (A × Option D))) → ((t : List ℕ) → more t ≡ ended (items (suc n) s t)) → (a : A) (x : Reading D)
      → mapped item_before (mapped (λ b. (a, b)) (mapped First (followed x (λ d left. more left))))
      ≡ ended (mapped (λ (v : (A × Option D) × List (A × Option D)). v.0 ∷ v.1)
      (followed (mapped (λ b. (a, b)) (mapped Some x)) (λ v rest. items (suc n) s rest)))
  with_extra n s more same a (Read d left) =
      ap (λ (r : Reading (List (A × Option D))). mapped item_before (mapped (λ b. (a, b)) (mapped First (mapped (λ later. (d, later)) r)))) (same left)
      ∙ some_before a d (items (suc n) s left)
  with_extra n s more same a Short = refl
  with_extra n s more same a (Wrong rest) = refl

  behind_one : (n : ℕ) (s : S) (more : List ℕ → Reading (List (A × Option D))) → ((t : List ℕ) → more t ≡ ended (items (suc n) s t)) → (a : A)
      (extra : List ℕ → Reading D) (rest : List ℕ)
      → mapped item_before (mapped (λ b. (a, b)) (read_either g.test (λ t. followed (extra t) (λ d left. more left)) more rest))
      ≡ ended (mapped (λ (v : (A × Option D) × List (A × Option D)). v.0 ∷ v.1)
      (followed (mapped (λ b. (a, b)) (read_perhaps g.test extra rest)) (λ v rest. items (suc n) s rest)))
  behind_one n s more same a extra [] = rw (none_before s n) refl
  behind_one n s more same a extra (c ∷ rest) = elim (cases_Bool (g.test c)) [
    | inl e ↦ rw e (with_extra n s more same a (extra (c ∷ rest)))
    | inr e ↦
        rw e
        (ap (λ (r : Reading (List (A × Option D))). mapped item_before (mapped (λ b. (a, b)) (mapped Second r))) (same (c ∷ rest))
        ∙ none_behind a (items (suc n) s (c ∷ rest)))
  ]

  first_one : (n : ℕ) (s : S) (more : List ℕ → Reading (List (A × Option D))) → ((t : List ℕ) → more t ≡ ended (items (suc n) (g.next s) t)) → (r : Reading A)
      → mapped item_before (followed r (λ a rest. read_either g.test (λ t. followed ((g.extra s).read t) (λ d left. more left)) more rest))
      ≡ ended (mapped (λ (v : (A × Option D) × List (A × Option D)). v.0 ∷ v.1)
      (followed (followed r (λ a rest. read_perhaps g.test (g.extra s).read rest)) (λ v rest. items (suc n) (g.next s) rest)))
  first_one n s more same (Read a rest) = behind_one n (g.next s) more same a (g.extra s).read rest
  first_one n s more same Short = refl
  first_one n s more same (Wrong rest) = refl

  pub chain_is : (n : ℕ) (s : S) (text : List ℕ) → read_chain g n s text ≡ ended (items (suc n) s text)
  chain_is zero s text = last_one s ((g.item s).read text)
  chain_is (suc n) s text = first_one n s (read_chain g n (g.next s)) (λ t. chain_is n (g.next s) t) ((g.item s).read text)
