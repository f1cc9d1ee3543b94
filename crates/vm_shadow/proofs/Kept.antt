-- Tables of which some go.
use Rattle.std.proofs.Common.{◌≡◌, ◌≢◌, ◌⊎◌, ◌∙◌, suc, ◌+◌, ◌≤◌, ◌<◌, ◌&&◌, not, nat_lt, Bool, true, false, cond, List, [], ◌∷◌, ◌++◌, length}
use Rattle.std.proofs.Common.{filter, ap, sym, subst, refl, arith, inl, inr}
use Rattle.std.proofs.lemmas.Bool.{cases_Bool, cases_lt, false≢true}
use Rattle.std.proofs.lemmas.Bool.Decides.{nat_tests}
use Rattle.vm_shadow.specs.declared.table.Table.{Table}
use Rattle.vm_shadow.specs.Slots.{same_table, number_of, Has, Once}
use Rattle.vm_shadow.specs.Area.{OnlyGo}
use Rattle.vm_shadow.proofs.Positions.{same_is, same_self, same_not, pushed_length, pushed_other}

-- what stands is the first or stands in the rest
pub has_cases : (a x : Table) (xs : List Table) → Has (x ∷ xs) a → (a ≡ x) ⊎ Has xs a
has_cases a x xs h = elim (cases_Bool (same_table a x)) [
  | inl e ↦ inl (same_is a x e)
  | inr n ↦ inr (let k : 1 + number_of a xs < suc (length xs) = rw n at h in omega (arith, k))
]

pub has_first : (x : Table) (xs : List Table) → Has (x ∷ xs) x
has_first x xs = let e = same_self x in rw e (omega arith)

pub has_later : (a x : Table) (xs : List Table) → Has xs a → Has (x ∷ xs) a
has_later a x xs h = elim (cases_Bool (same_table a x)) [
  | inl e ↦ rw e (omega arith)
  | inr n ↦ rw n (omega (arith, h))
]

-- what stands among those that pass stands and passes
pub kept_has : (test : Table → Bool) (a : Table) (xs : List Table) → Has (filter test xs) a → Has xs a × (test a ≡ true)
kept_has test a [] h = absurd (omega (arith, h))
kept_has test a (x ∷ xs) h = elim (cases_Bool (test x)) [
  | inl y ↦ elim (has_cases a x (filter test xs) (rw y at h)) [
    | inl e ↦ (subst (Has (x ∷ xs)) (sym e) (has_first x xs), ap test e ∙ y)
    | inr k ↦ let r = kept_has test a xs k in (has_later a x xs r.0, r.1)
  ]
  | inr n ↦ let r = kept_has test a xs (rw n at h) in (has_later a x xs r.0, r.1)
]

pub has_kept : (test : Table → Bool) (a : Table) (xs : List Table) → Has xs a → test a ≡ true → Has (filter test xs) a
has_kept test a [] h t = absurd (omega (arith, h))
has_kept test a (x ∷ xs) h t = elim (has_cases a x xs h) [
  | inl e ↦ rw (ap test (sym e) ∙ t) (subst (Has (x ∷ filter test xs)) (sym e) (has_first x (filter test xs)))
  | inr k ↦ elim (cases_Bool (test x)) [
    | inl y ↦ rw y (has_later a x (filter test xs) (has_kept test a xs k t))
    | inr n ↦ rw n (has_kept test a xs k t)
  ]
]

-- two tests that agree on what stands keep the same
pub kept_same : (test other : Table → Bool) (xs : List Table) → ((a : Table) → Has xs a → test a ≡ other a) → filter test xs ≡ filter other xs
kept_same test other [] e = refl
kept_same test other (x ∷ xs) e =
    let rest = kept_same test other xs (λ a h. e a (has_later a x xs h)) in
    ap (λ (b : Bool). cond b (x ∷ filter test xs) (filter test xs)) (e x (has_first x xs))
    ∙ ap (λ (ys : List Table). cond (other x) (x ∷ ys) ys) rest

pub kept_all : (xs : List Table) → xs ≡ filter (λ a. true) xs
kept_all [] = refl
kept_all (x ∷ xs) = ap (λ (ys : List Table). x ∷ ys) (kept_all xs)

kept_twice : (test other : Table → Bool) (xs : List Table) → filter other (filter test xs) ≡ filter (λ a. test a && other a) xs
kept_twice test other [] = refl
kept_twice test other (x ∷ xs) = elim (cases_Bool (test x)) [
  | inl y ↦ rw y (ap (λ (ys : List Table). cond (other x) (x ∷ ys) ys) (kept_twice test other xs))
  | inr n ↦ rw n (kept_twice test other xs)
]

pub go_none : (xs ys : List Table) → ys ≡ xs → OnlyGo xs ys
go_none xs ys e = (λ a. true, e ∙ kept_all xs)

pub go_on : (xs ys zs : List Table) → OnlyGo xs ys → OnlyGo ys zs → OnlyGo xs zs
go_on xs ys zs g h = (λ a. g.0 a && h.0 a, h.1 ∙ ap (filter h.0) g.1 ∙ kept_twice g.0 h.0 xs)

-- whether a table stands
abbrev pub has : List Table → Table → Bool
has xs a = nat_lt (number_of a xs) (length xs)

pub has_yes : (xs : List Table) (a : Table) → Has xs a → has xs a ≡ true
has_yes xs a h = grind (arith, nat_tests)

pub has_no : (xs : List Table) (a : Table) → length xs ≤ number_of a xs → has xs a ≡ false
has_no xs a h = grind (arith, nat_tests)

pub has_is : (xs : List Table) (a : Table) → has xs a ≡ true → Has xs a
has_is xs a h = elim (cases_lt (number_of a xs) (length xs)) [
  | inl k ↦ k
  | inr k ↦ absurd (false≢true (sym (has_no xs a k) ∙ h))
]

-- where tables only go, those that stand after it are kept
pub gone_is : (xs ys : List Table) → OnlyGo xs ys → (needed : Table → Bool) → ((a : Table) → Has xs a → needed a ≡ has ys a) → ys ≡ filter needed xs
gone_is xs ys g needed e = g.1 ∙ kept_same g.0 needed xs (λ a h. elim (cases_Bool (g.0 a)) [
  | inl y ↦
      let there : Has ys a = subst (λ (zs : List Table). Has zs a) (sym g.1) (has_kept g.0 a xs h y) in
      y ∙ sym (has_yes ys a there) ∙ sym (e a h)
  | inr n ↦ n ∙ sym (e a h ∙ elim (cases_Bool (has ys a)) [
    | inl y ↦ absurd (false≢true (sym n ∙ (kept_has g.0 a xs (subst (λ (zs : List Table). Has zs a) g.1 (has_is ys a y))).1))
    | inr m ↦ m
  ])
])

-- ---- each stands once
pub once_first : (x : Table) (xs : List Table) → Once (x ∷ xs) → length xs ≤ number_of x xs
once_first x xs o = elim (cases_lt (number_of x xs) (length xs)) [
  | inl h ↦ let b = has_yes xs x h in let f : false ≡ true = rw b at o in absurd (false≢true f)
  | inr k ↦ k
]

pub once_rest : (x : Table) (xs : List Table) → Once (x ∷ xs) → Once xs
once_rest x xs o = let b = has_no xs x (once_first x xs o) in rw b at o

once_more : (x : Table) (xs : List Table) → length xs ≤ number_of x xs → Once xs → Once (x ∷ xs)
once_more x xs k o = let b = has_no xs x k in rw b o

pub once_kept : (test : Table → Bool) (xs : List Table) → Once xs → Once (filter test xs)
once_kept test [] o = refl
once_kept test (x ∷ xs) o = elim (cases_Bool (test x)) [
  | inl y ↦
      let first : length (filter test xs) ≤ number_of x (filter test xs) = elim (cases_lt (number_of x (filter test xs)) (length (filter test xs))) [
        | inl h ↦ let k = (kept_has test x xs h).0 in let l = once_first x xs o in absurd (omega (arith, k, l))
        | inr k ↦ k
      ] in
      rw y (once_more x (filter test xs) first (once_kept test xs (once_rest x xs o)))
  | inr n ↦ rw n (once_kept test xs (once_rest x xs o))
]

pub once_pushed : (y : Table) (xs : List Table) → length xs ≤ number_of y xs → Once xs → Once (xs ++ y ∷ [])
once_pushed y [] h o = once_more y [] (omega arith) refl
once_pushed y (x ∷ xs) h o =
    let differ : x ≢ y = λ e. let f = subst (Has (x ∷ xs)) e (has_first x xs) in absurd (omega (arith, f, h)) in
    let b = same_not y x (λ e. differ (sym e)) in
    let k : suc (length xs) ≤ 1 + number_of y xs = rw b at h in
    let e = pushed_other x y xs (once_first x xs o) differ in
    let l = pushed_length xs y in
    once_more x (xs ++ y ∷ []) (omega (arith, e, l)) (once_pushed y xs (omega (arith, k)) (once_rest x xs o))

-- without a table
pub gone_other : (y a : Table) (xs : List Table) → a ≢ y → Has xs a → Has (filter (λ b. not (same_table y b)) xs) a
gone_other y a xs n h = has_kept (λ b. not (same_table y b)) a xs h (ap not (same_not y a (λ e. n (sym e))))

pub gone_had : (y a : Table) (xs : List Table) → Has (filter (λ b. not (same_table y b)) xs) a → Has xs a × (a ≢ y)
gone_had y a xs h =
    let r = kept_has (λ b. not (same_table y b)) a xs h in
    (r.0, λ e. false≢true (ap not (sym (ap (same_table y) e ∙ same_self y)) ∙ r.1))
