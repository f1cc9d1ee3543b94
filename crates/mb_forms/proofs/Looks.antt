-- What `clap` finds of a form.
use Rattle.std.proofs.Common.{◌≡◌, ◌∙◌, ◌⊎◌, ◌==◌, ◌+◌, inl, inr, ℕ, zero, suc, Bool, true, false, List, [], ◌∷◌, ◌++◌, map, ap, refl, arith, Option, Some, None}
use Rattle.std.specs.Prelude.{not, ◌&&◌, ◌||◌, is_some, option_map, find, fold, slice_get}
use Rattle.std.specs.List.{list_any, list_all}
use Rattle.std.specs.Str.{bytes_eq}
use Rattle.std.specs.Cmp.{unsigned_Decides}
use Rattle.std.proofs.lemmas.Slice.Eq.{bytes_eq-Decides}
use Rattle.clap.specs.Walk.{Row, Rule, arg_by_id, arg_by_long, arg_by_index, has_row, has_long, with_default}
use Rattle.clap.specs.Faults.{defaults_fault, default_fault}
use Rattle.clap.specs.Takes.{is_given}
use Rattle.mb_forms.specs.Forms.{Text, Opt, Form, Use, has_use, find_option, has_required}
use Rattle.mb_forms.specs.Clap.{row_at}
use Rattle.mb_forms.proofs.Built.{plain_rule, option_rule, positional_rule, positional_rules, form_rules}

pub bool_cases : (b : Bool) → (b ≡ true) ⊎ (b ≡ false)
bool_cases true = inl refl
bool_cases false = inr refl

pub option_cases : {X : Type 0} (o : Option X) → (o ≡ None) ⊎ ((x : X) × (o ≡ Some x))
option_cases None = inl refl
option_cases (Some x) = inr (x, refl)

pub same_text : (t : Text) → bytes_eq t t ≡ true
same_text t = (bytes_eq-Decides t t).1 refl

pub text_is : (s t : Text) → bytes_eq s t ≡ true → s ≡ t
text_is s t e = (bytes_eq-Decides s t).0 e

pub and_true : (a b : Bool) → (a && b) ≡ true → (a ≡ true) × (b ≡ true)
and_true true b e = (refl, e)
and_true false b e = absurd (cc)

-- ---- by the name of an option

long_in : (name : Text) (os : List Opt)
    → find (λ a. not (is_some a.index) && has_long a name) (map option_rule os) ≡ option_map option_rule (find_option name os)
long_in name [] = refl
long_in name (o ∷ os) = elim (bool_cases (bytes_eq o.name name)) [
  | inl t ↦ rw t refl
  | inr f ↦ rw f (long_in name os)
]

long_behind : (name : Text) (i : ℕ) (ps : List Text) (rs : List Rule)
    → find (λ a. not (is_some a.index) && has_long a name) (positional_rules i ps ++ rs) ≡ find (λ a. not (is_some a.index) && has_long a name) rs
long_behind name i [] rs = refl
long_behind name i (p ∷ ps) rs = long_behind name (suc i) ps rs

pub by_long : (form : Form) (name : Text) → arg_by_long (form_rules form) name ≡ option_map option_rule (find_option name form.options)
by_long form name = long_behind name 1 form.positionals (map option_rule form.options) ∙ long_in name form.options

-- ---- by a name

-- the rule of a name is plain
abbrev pub Known : List Rule → Text → Type 0
Known rs id = (l : Option Text) × (i : Option ℕ) × (r : Bool) × (arg_by_id rs id ≡ Some (plain_rule id l i r))

known_option_in : (name : Text) (os : List Opt) (o : Opt) → find_option name os ≡ Some o → Known (map option_rule os) o.name
known_option_in name [] o e = absurd (cc)
known_option_in name (p ∷ ps) o e = elim (bool_cases (bytes_eq p.name o.name)) [
  | inl t ↦
      let same : p.name ≡ o.name = text_is p.name o.name t in
      (Some p.name, None, p.required, rw t (ap (λ (id : Text). Some (plain_rule id (Some p.name) None p.required)) same))
  | inr f ↦ elim (bool_cases (bytes_eq p.name name)) [
    | inl t ↦
        let same : p ≡ o = (let h : Some p ≡ Some o = rw t at e in cc) in
        let bad : bytes_eq p.name o.name ≡ true = rw (← same) (same_text p.name) in
        absurd (cc)
    | inr g ↦ let k = known_option_in name ps o (rw g at e) in (k.0, k.1, k.2, rw f (k.3))
  ]
]

known_behind : (i : ℕ) (ps : List Text) (rs : List Rule) (id : Text) → Known rs id → Known (positional_rules i ps ++ rs) id
known_behind i [] rs id k = k
known_behind i (p ∷ ps) rs id k = elim (bool_cases (bytes_eq p id)) [
  | inl t ↦ (None, Some i, true, rw t (ap (λ (x : Text). Some (positional_rule i x)) (text_is p id t)))
  | inr f ↦ let h = known_behind (suc i) ps rs id k in (h.0, h.1, h.2, rw f (h.3))
]

known_positional_in : (i : ℕ) (ps : List Text) (rs : List Rule) (k : ℕ) (id : Text) → slice_get ps k ≡ Some id → Known (positional_rules i ps ++ rs) id
known_positional_in i [] rs k id e = absurd (cc)
known_positional_in i (p ∷ ps) rs zero id e =
    let same : p ≡ id = cc in
    let t : bytes_eq p id ≡ true = rw same (same_text id) in
    (None, Some i, true, rw t (ap (λ (x : Text). Some (positional_rule i x)) same))
known_positional_in i (p ∷ ps) rs (suc k) id e = elim (bool_cases (bytes_eq p id)) [
  | inl t ↦ (None, Some i, true, rw t (ap (λ (x : Text). Some (positional_rule i x)) (text_is p id t)))
  | inr f ↦ let h = known_positional_in (suc i) ps rs k id e in (h.0, h.1, h.2, rw f (h.3))
]

pub known_positional : (form : Form) (met : ℕ) (name : Text) → slice_get form.positionals met ≡ Some name → Known (form_rules form) name
known_positional form met name e = known_positional_in 1 form.positionals (map option_rule form.options) met name e

pub known_option : (form : Form) (name : Text) (o : Opt) → find_option name form.options ≡ Some o → Known (form_rules form) o.name
known_option form name o e = known_behind 1 form.positionals (map option_rule form.options) o.name (known_option_in name form.options o e)

-- ---- by the place of a positional word

none_numbered : (os : List Opt) (j : ℕ) → arg_by_index (map option_rule os) j ≡ None
none_numbered [] j = refl
none_numbered (o ∷ os) j = none_numbered os j

numbered_in : (ps : List Text) (os : List Opt) (i k j : ℕ) → j ≡ i + k
    → arg_by_index (positional_rules i ps ++ map option_rule os) j ≡ option_map (positional_rule j) (slice_get ps k)
numbered_in [] os i k j e = none_numbered os j
numbered_in (p ∷ ps) os i zero j e =
    let same : i ≡ j = omega arith in
    let t : (i == j) ≡ true = (unsigned_Decides i j).1 same in
    rw t (ap (λ (n : ℕ). Some (positional_rule n p)) same)
numbered_in (p ∷ ps) os i (suc k) j e = elim (bool_cases (i == j)) [
  | inl t ↦ let same : i ≡ j = (unsigned_Decides i j).0 t in absurd (omega arith)
  | inr f ↦ rw f (numbered_in ps os (suc i) k j (omega arith))
]

pub by_place : (form : Form) (met : ℕ) → arg_by_index (form_rules form) (suc met) ≡ option_map (positional_rule (suc met)) (slice_get form.positionals met)
by_place form met = numbered_in form.positionals form.options 1 met (suc met) (omega arith)

-- ---- the end

pub given_at : (id : Text) (front : List Use) → is_given id (map row_at front) ≡ has_use id front
given_at id [] = refl
given_at id (u ∷ us) = elim (bool_cases (bytes_eq u.0 id)) [ inl t ↦ rw t refl | inr f ↦ rw f (given_at id us) ]

or_true : (b : Bool) → (b || true) ≡ true
or_true true = refl
or_true false = refl

default_same : (rows : List Row) (id : Text) (l : Option Text) (i : Option ℕ) (r : Bool) → with_default rows (plain_rule id l i r) ≡ rows
default_same rows id l i r = elim (bool_cases (has_row id rows)) [ inl t ↦ rw t refl | inr f ↦ rw f refl ]

default_none : (rows : List Row) (id : Text) (l : Option Text) (i : Option ℕ) (r : Bool) → default_fault rows (plain_rule id l i r) ≡ []
default_none rows id l i r = let n : (has_row id rows || true) ≡ true = or_true (has_row id rows) in rw n refl

options_default : (rows : List Row) (os : List Opt) → defaults_fault rows (map option_rule os) ≡ []
unfolding defaults_fault
options_default rows [] = refl
options_default rows (o ∷ os) =
    rw (default_none rows o.name (Some o.name) None o.required, default_same rows o.name (Some o.name) None o.required) (options_default rows os)

words_default : (rows : List Row) (i : ℕ) (ps : List Text) (os : List Opt) → defaults_fault rows (positional_rules i ps ++ map option_rule os) ≡ []
unfolding defaults_fault
words_default rows i [] os = options_default rows os
words_default rows i (p ∷ ps) os = rw (default_none rows p None (Some i) true, default_same rows p None (Some i) true) (words_default rows (suc i) ps os)

pub no_defaults : (form : Form) (rows : List Row) → defaults_fault rows (form_rules form) ≡ []
no_defaults form rows = words_default rows 1 form.positionals form.options

fold_options : (rows : List Row) (os : List Opt) → fold with_default rows (map option_rule os) ≡ rows
fold_options rows [] = refl
fold_options rows (o ∷ os) = ap (λ (r : List Row). fold with_default r (map option_rule os)) (default_same rows o.name (Some o.name) None o.required)
    ∙ fold_options rows os

fold_words : (rows : List Row) (i : ℕ) (ps : List Text) (os : List Opt) → fold with_default rows (positional_rules i ps ++ map option_rule os) ≡ rows
fold_words rows i [] os = fold_options rows os
fold_words rows i (p ∷ ps) os =
    ap (λ (r : List Row). fold with_default r (positional_rules (suc i) ps ++ map option_rule os)) (default_same rows p None (Some i) true)
    ∙ fold_words rows (suc i) ps os

pub fold_same : (form : Form) (rows : List Row) → fold with_default rows (form_rules form) ≡ rows
fold_same form rows = fold_words rows 1 form.positionals form.options

split : (r h rest : Bool) → ((r && not h) || not rest) ≡ not ((not r || h) && rest)
split true true rest = refl
split true false rest = refl
split false h rest = refl

split_both : (h a o : Bool) → ((true && not h) || not (a && o)) ≡ not ((h && a) && o)
split_both true a o = refl
split_both false a o = refl

missing_in : (front : List Use) (os : List Opt)
    → list_any (λ a. a.required && not (is_given a.id (map row_at front))) (map option_rule os)
    ≡ not (list_all (λ o. not o.required || has_use o.name front) os)
missing_in front [] = refl
missing_in front (o ∷ os) = rw (given_at o.name front, missing_in front os) (split o.required (has_use o.name front) _)

missing_words : (front : List Use) (i : ℕ) (ps : List Text) (os : List Opt)
    → list_any (λ a. a.required && not (is_given a.id (map row_at front))) (positional_rules i ps ++ map option_rule os)
    ≡ not (list_all (λ name. has_use name front) ps && list_all (λ o. not o.required || has_use o.name front) os)
missing_words front i [] os = missing_in front os
missing_words front i (p ∷ ps) os = rw (given_at p front, missing_words front (suc i) ps os) (split_both (has_use p front) _ _)

pub missing_at : (form : Form) (front : List Use)
    → list_any (λ a. a.required && not (is_given a.id (map row_at front))) (form_rules form) ≡ not (has_required form front)
missing_at form front = missing_words front 1 form.positionals form.options
