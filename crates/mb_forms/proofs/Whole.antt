-- `clap` and a form agree on all words.
use Rattle.std.proofs.Common.{◌≡◌, ◌∙◌, ◌+◌, ◌≤◌, inl, inr, Bool, true, false, cond, List, [], ◌∷◌, ◌++◌, map, length, ap, sym, refl, arith, Option, Some, None, ℕ, suc}
use Rattle.std.specs.Prelude.{not, ◌&&◌, ◌||◌, if◌then◌else◌, is_some, option_map, fold, min, slice_get, count_by}
use Rattle.std.specs.List.{list_all, list_any}
use Rattle.clap.specs.Lexer.{long_of, usize_max}
use Rattle.clap.specs.Kinds.{Kinds, or_else}
use Rattle.clap.specs.Walk.{Row, Rule, Walk, walk, walked, finished, settled, nothing_held, idle, rows_after, is_early_multiple}
use Rattle.clap.specs.Faults.{turn_fault, walk_fault, settle_fault, defaults_fault, check_fault, entered_fault, built_fault, is_simple_and_free, is_free_app}
use Rattle.clap.specs.Simple.{App, Shape, built, entered, filled_from, names_of, is_simple, is_buildable, is_ready, is_ready_leaf}
use Rattle.mb_forms.specs.Forms.{Text, Opt, Form, Use, any, value_of, find_option, begins_with_dash, ends_options, dashes_ok, IsNumbered, uses_of, option_use, positional_use, after, read}
use Rattle.mb_forms.specs.Clap.{option_arg, positional_arg, form_app, row_at, no_kinds, clap_gives, Agrees}
use Rattle.mb_forms.proofs.Built.{plain_rule, option_rule, positional_rule, positional_rules, form_rules, form_shape, walk_at, rows_from}
use Rattle.mb_forms.proofs.Looks.{bool_cases, option_cases}
use Rattle.mb_forms.proofs.Reading.{reads}

-- ---- the command that is built

options_filled : (i : ℕ) (os : List Opt) → filled_from i (map option_arg os) ≡ map option_rule os
options_filled i [] = refl
options_filled i (o ∷ os) = ap (λ (rs : List Rule). option_rule o ∷ rs) (options_filled i os)

words_filled : (i : ℕ) (ps : List Text) (os : List Opt) → i + length ps ≤ usize_max
    → filled_from i (map positional_arg ps ++ map option_arg os) ≡ positional_rules i ps ++ map option_rule os
words_filled i [] os few = options_filled i os
words_filled i (p ∷ ps) os few =
    let next : min (i + 1) usize_max ≡ suc i = omega arith in
    rw next (ap (λ (rs : List Rule). positional_rule i p ∷ rs) (words_filled (suc i) ps os (omega arith)))

abbrev with_rules : Form → List Rule → App
with_rules form rs = record { top = record (form_shape form) { rules = rs }; subs = [] }

pub built_form : (form : Form) → IsNumbered form → built (form_app form) ≡ record { top = form_shape form; subs = [] }
built_form form few = ap (with_rules form) (words_filled 1 form.positionals form.options (omega arith))

-- ---- the command is simple, and no argument of it has a rule on another

all_options : (test : Rule → Bool) → ((o : Opt) → test (option_arg o) ≡ true) → (os : List Opt) → list_all test (map option_arg os) ≡ true
all_options test holds [] = refl
all_options test holds (o ∷ os) = let h = holds o in rw h (all_options test holds os)

all_args : (test : Rule → Bool) → ((name : Text) → test (positional_arg name) ≡ true) → ((o : Opt) → test (option_arg o) ≡ true)
    → (ps : List Text) (os : List Opt) → list_all test (map positional_arg ps ++ map option_arg os) ≡ true
all_args test words holds [] os = all_options test holds os
all_args test words holds (p ∷ ps) os = let h = words p in rw h (all_args test words holds ps os)

all_built_options : (test : Rule → Bool) → ((id : Text) (l : Option Text) (i : Option ℕ) (r : Bool) → test (plain_rule id l i r) ≡ true)
    → (os : List Opt) → list_all test (map option_rule os) ≡ true
all_built_options test holds [] = refl
all_built_options test holds (o ∷ os) = let h = holds o.name (Some o.name) None o.required in rw h (all_built_options test holds os)

all_built : (test : Rule → Bool) → ((id : Text) (l : Option Text) (i : Option ℕ) (r : Bool) → test (plain_rule id l i r) ≡ true)
    → (i : ℕ) (ps : List Text) (os : List Opt) → list_all test (positional_rules i ps ++ map option_rule os) ≡ true
all_built test holds i [] os = all_built_options test holds os
all_built test holds i (p ∷ ps) os = let h = holds p None (Some i) true in rw h (all_built test holds (suc i) ps os)

none_early : (n : ℕ) (i : ℕ) (ps : List Text) (os : List Opt) → list_any (is_early_multiple n) (positional_rules i ps ++ map option_rule os) ≡ false
none_early n i [] [] = refl
none_early n i [] (o ∷ os) = none_early n i [] os
none_early n i (p ∷ ps) os = none_early n (suc i) ps os

pub form_is_simple : (form : Form) → IsNumbered form → is_simple (form_app form) ≡ true
form_is_simple form few =
    let args : list_all (λ a. a.is_simple) (map positional_arg form.positionals ++ map option_arg form.options) ≡ true
    = all_args (λ a. a.is_simple) (λ name. refl) (λ o. refl) form.positionals form.options in
    let rules : list_all (λ a. a.is_simple) (form_rules form) ≡ true
    = all_built (λ a. a.is_simple) (λ id l i r. refl) 1 form.positionals form.options in
    let early = none_early (count_by (λ a. is_some a.index) (form_rules form)) 1 form.positionals form.options in
    ap (λ (app : App). is_buildable (form_app form) && (is_ready app.top && list_all is_ready_leaf app.subs)) (built_form form few)
    ∙ rw (args, rules, early) refl

pub form_is_free : (form : Form) → IsNumbered form → is_simple_and_free (form_app form) ≡ true
form_is_free form few =
    let simple = form_is_simple form few in
    let rules : list_all (λ a. a.is_free) (form_rules form) ≡ true
    = all_built (λ a. a.is_free) (λ id l i r. refl) 1 form.positionals form.options in
    ap (λ (b : Bool). b && is_free_app (built (form_app form))) simple
    ∙ ap is_free_app (built_form form few)
    ∙ rw rules refl

-- ---- all the words at once

-- the faults after the walk
abbrev end_kinds : Form → Walk → Kinds
end_kinds form w = or_else (settle_fault (form_rules form) false w.held)
    (or_else (defaults_fault (settled (form_rules form) w.held).rows (form_rules form))
    (check_fault (form_shape form) (finished (form_rules form) w.held) false))

one_more : {X : Type 0} (k more end : Kinds) (r : Option X) (x : X) → r ≡ cond (no_kinds (or_else more end)) (Some x) None
    → cond (no_kinds k) r None ≡ cond (no_kinds (or_else (or_else k more) end)) (Some x) None
one_more [] more end r x e = e
one_more (k ∷ ks) more end r x e = refl

gather : (form : Form) (ws : List Text) (w : Walk)
    → rows_from (form_shape form) w ws
    ≡ cond (no_kinds (or_else (walk_fault (form_shape form) [] w ws) (end_kinds form (fold (walked (form_rules form) []) w ws))))
    (Some (finished (form_rules form) (fold (walked (form_rules form) []) w ws).held)) None
unfolding walk_fault
gather form [] w = refl
gather form (x ∷ xs) w =
    one_more (turn_fault (form_shape form) [] w x) (walk_fault (form_shape form) [] (walked (form_rules form) [] w x) xs)
    (end_kinds form (fold (walked (form_rules form) []) w (x ∷ xs))) _ _ (gather form xs (walked (form_rules form) [] w x))

-- a command with no subcommand enters none
none_entered : (s : Shape) (stop : Option (Text × List Text)) → (entered_fault (record { top = s; subs = [] }) stop ≡ [])
    × (is_some (entered (record { top = s; subs = [] }) stop) ≡ false)
none_entered s None = (refl, refl)
none_entered s (Some p) = (refl, refl)

built_gives : (form : Form) (words : List Text)
    → clap_gives (record { top = form_shape form; subs = [] }) words ≡ rows_from (form_shape form) (walk_at [] None idle 0 false) words
built_gives form words =
    let n = none_entered (form_shape form) (walk (form_rules form) [] nothing_held words).stopped in
    let below = n.0 in let entered_none = n.1 in
    rw (below, entered_none) (sym (gather form words (walk_at [] None idle 0 false)))

abbrev given_by : App → List Text → Option (List Row)
given_by app words = if no_kinds (built_fault app nothing_held words) then Some (rows_after app.top.rules (names_of app) words) else None

pub taken_by_clap : (form : Form) (words : List Text) → IsNumbered form → dashes_ok words ≡ true
    → clap_gives (form_app form) words ≡ option_map (map row_at) (read form words)
taken_by_clap form words few ok =
    ap (λ (app : App). given_by app words) (built_form form few) ∙ built_gives form words ∙ reads form few words ok

-- ---- a word that begins with one hyphen alone

after_none : (u : Use) (uses : Option (List Use)) → uses ≡ None → after u uses ≡ None
after_none u uses e = rw e refl

record BothNone (form : Form) (ws : List Text) : Type 0 where
  words : (met : ℕ) → dashes_ok ws ≡ false → uses_of form any met ws ≡ None
  values : (o : Text) (met : ℕ) → dashes_ok ws ≡ false → uses_of form (value_of o) met ws ≡ None

with_value : (form : Form) (xs : List Text) (met : ℕ) (name : Text) (o : Opt) (v : Option Text) → BothNone form xs → dashes_ok xs ≡ false
    → option_use (Some o) v (uses_of form any met xs) (λ n. uses_of form (value_of n) met xs) ≡ None
with_value form xs met name o None next bad = next.values o.name met bad
with_value form xs met name o (Some t) next bad = after_none (o.name, t) (uses_of form any met xs) (next.words met bad)

long_none : (form : Form) (xs : List Text) (met : ℕ) (p : Text × Option Text) → BothNone form xs → dashes_ok xs ≡ false
    → option_use (find_option p.0 form.options) p.1 (uses_of form any met xs) (λ n. uses_of form (value_of n) met xs) ≡ None
long_none form xs met p next bad = elim (option_cases (find_option p.0 form.options)) [
  | inl n ↦ rw n refl
  | inr o ↦ rw (o.1) (with_value form xs met p.0 o.0 p.1 next bad)
]

positional_none : (name : Option Text) (x : Text) (uses : Option (List Use)) → uses ≡ None → positional_use name x uses ≡ None
positional_none None x uses e = refl
positional_none (Some name) x uses e = after_none (name, x) uses e

or_parts : (a b : Bool) → (a || b) ≡ false → (a ≡ false) × (b ≡ false)
or_parts true b e = absurd (cc)
or_parts false b e = (refl, e)

bad_words : (form : Form) (x : Text) (xs : List Text) → BothNone form xs → (met : ℕ) → dashes_ok (x ∷ xs) ≡ false → uses_of form any met (x ∷ xs) ≡ None
bad_words form x xs next met h =
    let parts = or_parts (ends_options x) ((not (begins_with_dash x) || is_some (long_of x)) && dashes_ok xs) h in
    let ends = parts.0 in
    elim (bool_cases (begins_with_dash x)) [
      | inl d ↦ elim (option_cases (long_of x)) [
        | inl n ↦ rw (ends, d, n) refl
        | inr p ↦ let l = p.1 in let bad : dashes_ok xs ≡ false = rw (d, l) at parts.1 in rw (ends, d, l) (long_none form xs met p.0 next bad)
      ]
      | inr d ↦ let bad : dashes_ok xs ≡ false = rw d at parts.1 in
          rw (ends, d) (positional_none (slice_get form.positionals met) x _ (next.words (suc met) bad))
    ]

bad_values : (form : Form) (x : Text) (xs : List Text) → BothNone form xs → (o : Text) (met : ℕ) → dashes_ok (x ∷ xs) ≡ false
    → uses_of form (value_of o) met (x ∷ xs) ≡ None
bad_values form x xs next o met h =
    let parts = or_parts (ends_options x) ((not (begins_with_dash x) || is_some (long_of x)) && dashes_ok xs) h in
    elim (bool_cases (begins_with_dash x)) [
      | inl d ↦ rw d refl
      | inr d ↦ let bad : dashes_ok xs ≡ false = rw d at parts.1 in rw d (after_none (o, x) _ (next.words met bad))
    ]

both_none : (form : Form) (ws : List Text) → BothNone form ws
both_none form [] = record { words = λ met h. absurd (cc); values = λ o met h. refl }
both_none form (x ∷ xs) = let next = both_none form xs in record { words = bad_words form x xs next; values = bad_values form x xs next }

pub refused_dash : (form : Form) (words : List Text) → dashes_ok words ≡ false → read form words ≡ None
refused_dash form words h = let n = (both_none form words).words 0 h in rw n refl

-- ---- our reading

pub agrees : (form : Form) (words : List Text) → IsNumbered form → Agrees form words
agrees form words few = elim (bool_cases (dashes_ok words)) [
  | inl ok ↦ rw ok (taken_by_clap form words few ok)
  | inr bad ↦ let none = refused_dash form words bad in rw (bad, none) refl
]
