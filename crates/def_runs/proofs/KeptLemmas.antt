-- Entries that are kept, before and after fills and flushes.
use Rattle.std.proofs.Common.{◌≡◌, ℕ, zero, suc, Bool, true, false, not, ◌||◌, ◌&&◌, List, [], ◌∷◌, length, map, drop, refl, sym, ◌∙◌, ap, arith, inl, inr}
use Rattle.std.specs.Prelude.{◌⊎◌, Contains, Option, Some, None, IfSome, nat_le, slice_set, replicate, option_to_list, if◌then◌else◌}
use Rattle.std.specs.List.{filter, find, list_any}
use Rattle.std.proofs.lemmas.Bool.{cases_Bool, false≢true}
use Rattle.std.proofs.lemmas.List.Elements.{Contains-push, Contains-push_cases, All-contains, All-filter, All-contains_itself, filter_passes}
use Rattle.mb_port.specs.declared.types.Space.{Space}
use Rattle.mb_port.specs.declared.types.Flush.{Flush}
use Rattle.mb_port.specs.declared.types.Flush.TheVariants.{All, Page}
use Rattle.mb_port.specs.declared.types.MmuReg.{MmuReg}
use Rattle.mb_model.specs.declared.kept.Kept.{Kept}
use Rattle.mb_model.specs.Keeping.{Rule, KeptLists, list_of, is_of, without, room_for, filled_in, flushed_in, covers, filled, flushed, after_movec}
use Rattle.mb_model.specs.Keeping.{is_half_of, after_ptest}
use Rattle.mb_model.specs.Pages.{other_half}
use Rattle.def_runs.specs.Free.{IsKept, StandIn}

-- ---- elements of a list

pub empty : (x : Kept) → Contains [] x → ⊥
empty x (i, lt, e) = omega arith

at_head : (x y : Kept) (xs : List Kept) → y ≡ x → Contains (y ∷ xs) x
at_head x y xs e = (0, omega arith, e)

in_tail : (x y : Kept) (xs : List Kept) → Contains xs x → Contains (y ∷ xs) x
in_tail x y xs (i, lt, e) = (suc i, omega arith, e)

pub head_or_tail : (x y : Kept) (xs : List Kept) → Contains (y ∷ xs) x → (y ≡ x) ⊎ Contains xs x
head_or_tail x y xs (zero, lt, e) = inl e
head_or_tail x y xs (suc i, lt, e) = inr (i, omega arith, e)

-- what a filter leaves
filtered_from : (p : Kept → Bool) (xs : List Kept) (x : Kept) → Contains (filter p xs) x → Contains xs x
filtered_from p xs x h = All-contains (Contains xs) (filter p xs) x (All-filter p (Contains xs) xs (All-contains_itself xs)) h

filtered_passes : (p : Kept → Bool) (xs : List Kept) (x : Kept) → Contains (filter p xs) x → p x ≡ true
filtered_passes p xs x h = All-contains (λ y. p y ≡ true) (filter p xs) x (filter_passes p xs) h

filtered : (p : Kept → Bool) (xs : List Kept) (x : Kept) → Contains xs x → p x ≡ true → Contains (filter p xs) x
filtered p [] x h t = h
filtered p (y ∷ xs) x h t = elim (head_or_tail x y xs h) [
  | inl e ↦
      let passes : p y ≡ true = ap p e ∙ t in
      rw passes (at_head x y (filter p xs) e)
  | inr g ↦ elim (cases_Bool (p y)) [
    | inl passes ↦ rw passes (in_tail x y (filter p xs) (filtered p xs x g t))
    | inr fails ↦ rw fails (filtered p xs x g t)
  ]
]

-- what is found is there
pub found : (p : Kept → Bool) (xs : List Kept) (x : Kept) → find p xs ≡ Some x → Contains xs x × (p x ≡ true)
found p [] x h = absurd (cc)
found p (y ∷ xs) x h = elim (cases_Bool (p y)) [
  | inl passes ↦
      let e : Some y ≡ Some x = rw passes at h in
      let same : y ≡ x = cc in
      (at_head x y xs same, ap p (sym same) ∙ passes)
  | inr fails ↦
      let rest = found p xs x (rw fails at h) in
      (in_tail x y xs rest.0, rest.1)
]

-- ---- the lists of the classes

list_of_map : (f : List Kept → List Kept) → f [] ≡ [] → (class : ℕ) (kept : KeptLists) → list_of class (map f kept) ≡ f (list_of class kept)
list_of_map f e class [] = sym e
list_of_map f e zero (xs ∷ kept) = refl
list_of_map f e (suc class) (xs ∷ kept) = list_of_map f e class kept

-- the list of a class, where that of one is another
set_cases : (class at : ℕ) (kept : KeptLists) (ys : List Kept) (x : Kept) → Contains (list_of class (slice_set kept at ys)) x
    → Contains (list_of class kept) x ⊎ Contains ys x
set_cases class at [] ys x h = inl h
set_cases zero zero (xs ∷ kept) ys x h = inr h
set_cases (suc class) zero (xs ∷ kept) ys x h = inl h
set_cases zero (suc at) (xs ∷ kept) ys x h = inl h
set_cases (suc class) (suc at) (xs ∷ kept) ys x h = set_cases class at kept ys x h

-- ---- what is kept

pub kept-behind : (xs : List Kept) (kept : KeptLists) → StandIn kept (xs ∷ kept)
kept-behind xs kept k (class, h) = (suc class, h)

not_true : (b : Bool) → not b ≡ true → b ≡ false
not_true true h = sym h
not_true false h = refl

-- a flush leaves what it does not cover
pub flushed-is : (what : Flush) (kept : KeptLists) (k : Kept) → IsKept k (flushed what kept) → IsKept k kept × (covers what k ≡ false)
flushed-is what kept k (class, h) =
    let passes : Kept → Bool = λ e. not (covers what e) in
    let there : Contains (filter passes (list_of class kept)) k = rw (list_of_map (flushed_in what) refl class kept) at h in
    ((class, filtered_from passes (list_of class kept) k there), not_true (covers what k) (filtered_passes passes (list_of class kept) k there))

pub flushed-keeps : (what : Flush) (kept : KeptLists) (k : Kept) → IsKept k kept → covers what k ≡ false → IsKept k (flushed what kept)
flushed-keeps what kept k (class, h) stays =
    let passes : Kept → Bool = λ e. not (covers what e) in
    let left : passes k ≡ true = ap not stays in
    let there = filtered passes (list_of class kept) k h left in
    (class, rw (list_of_map (flushed_in what) refl class kept) there)

pub flushed-follows : (what : Flush) (kept held : KeptLists) → StandIn kept held → StandIn (flushed what kept) (flushed what held)
flushed-follows what kept held stand k h =
    let parts = flushed-is what kept k h in
    flushed-keeps what held k (stand k parts.0) parts.1

-- PTEST leaves what is not of its page
no_half : (a b : Bool) → a ≡ false → b ≡ false → (a || (true && b)) ≡ false
no_half a b h k = rw (h, k) refl

no_page : (a b : Bool) → a ≡ false → (a || (false && b)) ≡ false
no_page a b h = rw h refl

neither_half : (a b : Bool) → (a || (true && b)) ≡ false → (a ≡ false) × (b ≡ false)
neither_half false b h = (refl, h)
neither_half true b h = absurd (false≢true (sym h))

not_page : (a b : Bool) → (a || (false && b)) ≡ false → a ≡ false
not_page false b h = refl
not_page true b h = absurd (false≢true (sym h))

pub dropped-is : (big : Bool) (space : Space) (page : ℕ) (kept : KeptLists) (k : Kept) → IsKept k (after_ptest big space page kept)
    → IsKept k kept × (is_half_of big space page k ≡ false)
dropped-is false space page kept k h =
    let one = flushed-is (Page space page) kept k h in
    (one.0, no_page (is_of space page k) (is_of space (other_half page) k) one.1)
dropped-is true space page kept k h =
    let two = flushed-is (Page space (other_half page)) (flushed (Page space page) kept) k h in
    let one = flushed-is (Page space page) kept k two.0 in
    (one.0, no_half (is_of space page k) (is_of space (other_half page) k) one.1 two.1)

pub dropped-keeps : (big : Bool) (space : Space) (page : ℕ) (kept : KeptLists) (k : Kept) → IsKept k kept → is_half_of big space page k ≡ false
    → IsKept k (after_ptest big space page kept)
dropped-keeps false space page kept k there h =
    flushed-keeps (Page space page) kept k there (not_page (is_of space page k) (is_of space (other_half page) k) h)
dropped-keeps true space page kept k there h =
    let both = neither_half (is_of space page k) (is_of space (other_half page) k) h in
    flushed-keeps (Page space (other_half page)) (flushed (Page space page) kept) k (flushed-keeps (Page space page) kept k there both.0) both.1

pub dropped-follows : (big : Bool) (space : Space) (page : ℕ) (kept held : KeptLists) → StandIn kept held
    → StandIn (after_ptest big space page kept) (after_ptest big space page held)
dropped-follows big space page kept held stand k h =
    let parts = dropped-is big space page kept k h in
    dropped-keeps big space page held k (stand k parts.0) parts.1

-- a MOVEC adds nothing
movec_by : (b : Bool) (kept : KeptLists) → StandIn (if b then flushed All kept else kept) kept
movec_by true kept k h = (flushed-is All kept k h).0
movec_by false kept k h = h

pub movec-adds_none : (rule : Rule) (register : MmuReg) (kept : KeptLists) → StandIn (after_movec rule register kept) kept
movec-adds_none rule register kept = movec_by (rule.forgets register) kept

-- a fill adds its entry alone
without_from : (p : Kept → Bool) (xs : List Kept) (x : Kept) → Contains (without p xs) x → Contains xs x
without_from p [] x h = h
without_from p (y ∷ xs) x h = elim (cases_Bool (p y)) [
  | inl passes ↦ in_tail x y xs (rw passes at h)
  | inr fails ↦
      let g : Contains (y ∷ without p xs) x = rw fails at h in
      elim (head_or_tail x y (without p xs) g) [
        | inl e ↦ at_head x y xs e
        | inr t ↦ in_tail x y xs (without_from p xs x t)
      ]
]

dropped_from : (xs : List Kept) (x : Kept) → Contains (drop 1 xs) x → Contains xs x
dropped_from [] x h = h
dropped_from (y ∷ xs) x h = in_tail x y xs h

-- either of two, by a test
either_list : (b : Bool) (xs ys zs : List Kept) (x : Kept) → (Contains xs x → Contains zs x) → (Contains ys x → Contains zs x)
    → Contains (if b then xs else ys) x → Contains zs x
either_list true xs ys zs x f g h = f h
either_list false xs ys zs x f g h = g h

room_from : (capacity : ℕ) (k : Kept) (xs : List Kept) (x : Kept) → Contains (room_for capacity k xs) x → Contains xs x
room_from capacity k xs x h =
    let full = nat_le capacity (length xs) in
    either_list (list_any (is_of k.space k.page) xs) (without (is_of k.space k.page) xs) (if full then drop 1 xs else xs) xs x
    (without_from (is_of k.space k.page) xs x)
    (either_list full (drop 1 xs) xs xs x (dropped_from xs x) (λ g. g)) h

filled_in_from : (capacity : ℕ) (k : Kept) (xs : List Kept) (x : Kept) → Contains (filled_in capacity k xs) x → Contains xs x ⊎ (k ≡ x)
filled_in_from capacity k xs x h = elim (Contains-push_cases (room_for capacity k xs) k x h) [
  | inl g ↦ inl (room_from capacity k xs x g)
  | inr e ↦ inr e
]

pub filled-is : (rule : Rule) (code : Bool) (k : Kept) (kept : KeptLists) (x : Kept) → IsKept x (filled rule code k kept)
    → IsKept x kept ⊎ (k ≡ x)
filled-is rule code k kept x (class, h) =
    let at = rule.class_of code k.page in
    elim (set_cases class at kept (filled_in rule.capacity k (list_of at kept)) x h) [
      | inl g ↦ inl (class, g)
      | inr g ↦ elim (filled_in_from rule.capacity k (list_of at kept) x g) [ inl f ↦ inl (at, f) | inr e ↦ inr e ]
    ]

-- the new entry is kept where its class is there
pub filled-first : (rule : Rule) (code : Bool) (k : Kept) (xs : List Kept) (kept : KeptLists) → rule.class_of code k.page ≡ 0
    → IsKept k (filled rule code k (xs ∷ kept))
filled-first rule code k xs kept e = rw e (0, Contains-push (room_for rule.capacity k xs) k)

pub filled-behind : (rule : Rule) (code : Bool) (k : Kept) (xs : List Kept) (kept : KeptLists) → rule.class_of code k.page ≡ 0
    → StandIn kept (filled rule code k (xs ∷ kept))
filled-behind rule code k xs kept e x (class, h) = rw e (suc class, h)

-- ---- the entry that is found

-- a list of that alone has it too
pub found-again : (p : Kept → Bool) (xs : List Kept) (o : Option Kept) → find p xs ≡ o → find p (option_to_list o) ≡ o
found-again p xs None h = refl
found-again p xs (Some x) h = rw (found p xs x h).1 refl

pub found-is_kept : (p : Kept → Bool) (class : ℕ) (kept held : KeptLists) (o : Option Kept) → find p (list_of class kept) ≡ o
    → StandIn kept held → IfSome o (λ k. IsKept k held)
found-is_kept p class kept held None h stand = tt
found-is_kept p class kept held (Some x) h stand = stand x (class, (found p (list_of class kept) x h).0)

-- nothing is kept in empty classes
pub none-kept : (classes : ℕ) (k : Kept) → IsKept k (replicate classes []) → ⊥
none-kept zero k (class, h) = empty k h
none-kept (suc n) k (zero, h) = empty k h
none-kept (suc n) k (suc class, h) = none-kept n k (class, h)
