-- `clap` takes the words of a form exactly where they read, with the same values.
use Rattle.std.proofs.Common.{◌≡◌, ◌∙◌, ◌⊎◌, ◌+◌, ◌<◌, inl, inr, ℕ, suc, length, Bool, true, false, cond, List, [], ◌∷◌, ◌++◌, map, ap, sym, refl, arith, Option, Some, None}
use Rattle.std.specs.Prelude.{not, ◌&&◌, ◌||◌, if◌then◌else◌, is_some, option_map, option_and_then, fold, min, slice_get}
use Rattle.std.specs.Str.{bytes_eq}
use Rattle.std.proofs.lemmas.Option.{slice_get_within}
use Rattle.clap.specs.Lexer.{long_of, short_of, usize_max}
use Rattle.clap.specs.Kinds.{Kinds, or_else}
use Rattle.clap.specs.Walk.{Held, Row, Walk, idle, option, walked, arg_by_index, has_row, settled, used as spec_used, with_default}
use Rattle.clap.specs.Faults.{turn_fault, settle_fault, use_fault, defaults_fault, check_fault}
use Rattle.clap.specs.declared.error.kind.ErrorKind.{ErrorKind}
use Rattle.clap.specs.declared.error.kind.ErrorKind.TheVariants as kind
use Rattle.mb_forms.specs.Forms.{Text, Opt, Form, Use, any, value_of, rest, has_use, find_option, has_required, begins_with_dash, ends_options, dashes_ok, IsNumbered, uses_of, finish, after, positional_use, option_use, read}
use Rattle.mb_forms.specs.Clap.{row_at, no_kinds}
use Rattle.mb_forms.proofs.Built.{option_rule, positional_rule, form_rules, form_shape, walk_at, pending_of_use, rows_from, rows_at_end}
use Rattle.mb_forms.proofs.Steps.{use_at, has_row_at, used_at, turn_ends, wait_ends, turn_unknown, wait_unknown, turn_attached, turn_named, turn_positional, turn_stray, wait_plain, wait_option, rest_positional, rest_stray, rest_empty}
use Rattle.mb_forms.proofs.Looks.{bool_cases, option_cases, same_text, by_long, Known, known_positional, known_option, by_place, no_defaults, fold_same, missing_at, text_is, and_true}

abbrev list_of : Option Use → List Use
list_of None = []
list_of (Some u) = u ∷ []

abbrev KnownUse : Form → Option Use → Type 0
KnownUse form None = Unit {0}
KnownUse form (Some u) = Known (form_rules form) u.0

abbrev held_at : List Use → Option Use → Held
held_at front p = record { rows = map row_at front; pending = pending_of_use p; skip = 0 }

-- what the uses give, after those in front and the pending one
abbrev result : Form → List Use → Option Use → Option (List Use) → Option (List Row)
result form front p uses = option_map (map row_at) (option_and_then (λ us. finish form front (list_of p ++ us)) uses)

-- the pending use has a name that was used
record Clash (form : Form) (front : List Use) (p : Option Use) : Type 0 where
  kind_is : ErrorKind
  fault : settle_fault (form_rules form) false (held_at front p) ≡ kind_is ∷ []
  none : (us : List Use) → finish form front (list_of p ++ us) ≡ None

-- it is used
record Settled (form : Form) (front : List Use) (p : Option Use) : Type 0 where
  next : List Use
  fault : settle_fault (form_rules form) false (held_at front p) ≡ []
  after : settled (form_rules form) (held_at front p) ≡ held_at next None
  same : (us : List Use) → finish form front (list_of p ++ us) ≡ finish form next us

settle : (form : Form) (front : List Use) (p : Option Use) → KnownUse form p → Clash form front p ⊎ Settled form front p
settle form front None k = inr (record { next = front; fault = refl; after = refl; same = λ us. refl })
settle form front (Some u) k =
    let rule = k.3 in
    let rows : has_row u.0 (map row_at front) ≡ has_use u.0 front = has_row_at u.0 front in
    elim (bool_cases (has_use u.0 front)) [
      | inl t ↦ inl (record {
        kind_is = kind.ArgumentConflict;
        fault = rw rule (use_at u.0 k.0 k.1 k.2 u.1 (map row_at front) ∙ rw (rows, t) refl);
        none = λ us. rw t refl;
      })
      | inr f ↦ inr (record {
        next = front ++ u ∷ [];
        fault = rw rule (use_at u.0 k.0 k.1 k.2 u.1 (map row_at front) ∙ rw (rows, f) refl);
        after = rw rule (ap (λ (rs : List Row). record { rows = rs; pending = None; skip = 0 }) (used_at u.0 k.0 k.1 k.2 u.1 front f));
        same = λ us. rw f refl;
      })
    ]

-- ---- one step

steps_to : (form : Form) (w v : Walk) (x : Text) (xs : List Text)
    → turn_fault (form_shape form) [] w x ≡ [] → walked (form_rules form) [] w x ≡ v
    → rows_from (form_shape form) w (x ∷ xs) ≡ rows_from (form_shape form) v xs
steps_to form w v x xs e f =
    ap (λ (k : Kinds). if no_kinds k then rows_from (form_shape form) (walked (form_rules form) [] w x) xs else None) e
    ∙ ap (λ (u : Walk). rows_from (form_shape form) u xs) f

steps_none : (form : Form) (w : Walk) (x : Text) (xs : List Text) (k : ErrorKind) (ks : Kinds)
    → turn_fault (form_shape form) [] w x ≡ k ∷ ks → rows_from (form_shape form) w (x ∷ xs) ≡ None
steps_none form w x xs k ks e =
    ap (λ (k : Kinds). if no_kinds k then rows_from (form_shape form) (walked (form_rules form) [] w x) xs else None) e

-- ---- what the uses give

clash_none : (form : Form) (front : List Use) (p : Option Use) → Clash form front p → (uses : Option (List Use)) → result form front p uses ≡ None
clash_none form front p c None = refl
clash_none form front p c (Some us) = ap (option_map (map row_at)) (c.none us)

settled_same : (form : Form) (front : List Use) (p : Option Use) (s : Settled form front p) (uses : Option (List Use))
    → result form front p uses ≡ result form s.next None uses
settled_same form front p s None = refl
settled_same form front p s (Some us) = ap (option_map (map row_at)) (s.same us)

pending_next : (form : Form) (front : List Use) (u : Use) (uses : Option (List Use))
    → result form front None (after u uses) ≡ result form front (Some u) uses
pending_next form front u None = refl
pending_next form front u (Some us) = refl

twice_none : (form : Form) (front : List Use) (u : Use) (uses : Option (List Use)) → has_use u.0 front ≡ true
    → result form front (Some u) uses ≡ None
twice_none form front u None t = refl
twice_none form front u (Some us) t = rw t refl

fresh_next : (form : Form) (front : List Use) (u : Use) (uses : Option (List Use)) → has_use u.0 front ≡ false
    → result form front (Some u) uses ≡ result form (front ++ u ∷ []) None uses
fresh_next form front u None f = refl
fresh_next form front u (Some us) f = rw f refl

-- ---- the end

finished_at : (form : Form) (front : List Use)
    → (if no_kinds (check_fault (form_shape form) (map row_at front) false) then Some (map row_at front) else None) ≡ result form front None (Some [])
finished_at form front =
    rw (missing_at form front) (elim (bool_cases (has_required form front)) [ inl t ↦ rw t refl | inr f ↦ rw f refl ])

-- the end of a walk, by what settling its last use gives
abbrev end_of : Form → Kinds → Held → Option (List Row)
end_of form k h =
    if no_kinds (or_else k
    (or_else (defaults_fault h.rows (form_rules form)) (check_fault (form_shape form) (fold with_default h.rows (form_rules form)) false)))
    then Some (fold with_default h.rows (form_rules form)) else None

end_settled : (form : Form) (front : List Use) → end_of form [] (held_at front None) ≡ result form front None (Some [])
end_settled form front =
    ap (λ (k : Kinds).
    if no_kinds (or_else [] (or_else k (check_fault (form_shape form) (fold with_default (map row_at front) (form_rules form)) false)))
    then Some (fold with_default (map row_at front) (form_rules form)) else None) (no_defaults form (map row_at front))
    ∙ ap (λ (rs : List Row). if no_kinds (check_fault (form_shape form) rs false) then Some rs else None) (fold_same form (map row_at front))
    ∙ finished_at form front

ends_at : (form : Form) (front : List Use) (p : Option Use) (met : ℕ) (trailing : Bool) → KnownUse form p
    → rows_at_end (form_shape form) (walk_at front (pending_of_use p) idle met trailing) ≡ result form front p (Some [])
ends_at form front p met trailing k = elim (settle form front p k) [
  | inl c ↦ ap (λ (k : Kinds). end_of form k (settled (form_rules form) (held_at front p))) c.fault ∙ sym (clash_none form front p c (Some []))
  | inr s ↦ ap (λ (k : Kinds). end_of form k (settled (form_rules form) (held_at front p))) s.fault ∙ ap (end_of form []) s.after ∙ end_settled form s.next
      ∙ sym (settled_same form front p s (Some []))
]

-- ---- words after `--`

abbrev S : Form → Walk → List Text → Option (List Row)
S form w ws = rows_from (form_shape form) w ws

-- a positional word, when what was pending is settled
abbrev pub positional_at : Text → Text → ℕ → Bool → Held → Walk
positional_at name x met trailing h = record {
  held = record h { pending = Some (name, x ∷ []) };
  waiting = idle;
  position = suc (suc met);
  is_trailing = trailing;
  stopped = None;
}

-- the place behind a positional word
next_place : (form : Form) (met : ℕ) (name : Text) → IsNumbered form → slice_get form.positionals met ≡ Some name → min (suc met + 1) usize_max ≡ suc (suc met)
next_place form met name few e = let within : met < length form.positionals = slice_get_within form.positionals met name e in omega arith

-- the rule of a place
place_of : (form : Form) (met : ℕ) (o : Option Text) → slice_get form.positionals met ≡ o
    → arg_by_index (form_rules form) (suc met) ≡ option_map (positional_rule (suc met)) o
place_of form met o e = by_place form met ∙ ap (option_map (positional_rule (suc met))) e

abbrev RestClaim : Form → List Text → Type 0
RestClaim form ws = (front : List Use) (p : Option Use) (met : ℕ) → KnownUse form p
    → S form (walk_at front (pending_of_use p) idle met true) ws ≡ result form front p (uses_of form rest met ws)

rest_placed : (form : Form) (x : Text) (xs : List Text) → IsNumbered form → RestClaim form xs → (front : List Use) (p : Option Use) (met : ℕ) → KnownUse form p
    → (name : Text) → slice_get form.positionals met ≡ Some name
    → S form (walk_at front (pending_of_use p) idle met true) (x ∷ xs) ≡ result form front p (after (name, x) (uses_of form rest (suc met) xs))
rest_placed form x xs few next front p met k name e =
    let t = rest_positional form front (pending_of_use p) met x name (place_of form met (Some name) e) (next_place form met name few e) in
    let u : Use = (name, x) in
    elim (settle form front p k) [
      | inl c ↦ steps_none form (walk_at front (pending_of_use p) idle met true) x xs c.kind_is [] (t.0 ∙ c.fault)
          ∙ sym (clash_none form front p c (after u (uses_of form rest (suc met) xs)))
      | inr s ↦ steps_to form (walk_at front (pending_of_use p) idle met true) (walk_at s.next (Some (name, x ∷ [])) idle (suc met) true) x xs
          (t.0 ∙ s.fault) (t.1 ∙ ap (positional_at name x met true) s.after)
          ∙ next s.next (Some u) (suc met) (known_positional form met name e)
          ∙ sym (pending_next form s.next u (uses_of form rest (suc met) xs))
          ∙ sym (settled_same form front p s (after u (uses_of form rest (suc met) xs)))
    ]

rest_step : (form : Form) (x : Text) (xs : List Text) → IsNumbered form → RestClaim form xs → RestClaim form (x ∷ xs)
rest_step form x xs few next front p met k = elim (option_cases (slice_get form.positionals met)) [
  | inl n ↦ rw n (steps_none form (walk_at front (pending_of_use p) idle met true) x xs kind.UnknownArgument []
      (rest_stray form front (pending_of_use p) idle met x (place_of form met None n)))
  | inr o ↦ rw (o.1) (rest_placed form x xs few next front p met k o.0 o.1)
]

rest_words : (form : Form) → IsNumbered form → (ws : List Text) → RestClaim form ws
rest_words form few [] front p met k = ends_at form front p met true k
rest_words form few (x ∷ xs) front p met k = rest_step form x xs few (rest_words form few xs) front p met k

-- an option that has no value when `--` comes
empty_none : (form : Form) (ws : List Text) (front : List Use) (o : Text) (met : ℕ) → Known (form_rules form) o
    → S form (walk_at front (Some (o, [])) (option o) met true) ws ≡ None
empty_none form [] front o met k = let rule = k.3 in rw rule refl
empty_none form (x ∷ xs) front o met k = elim (option_cases (slice_get form.positionals met)) [
  | inl n ↦ steps_none form (walk_at front (Some (o, [])) (option o) met true) x xs kind.UnknownArgument []
      (rest_stray form front (Some (o, [])) (option o) met x (place_of form met None n))
  | inr p ↦ steps_none form (walk_at front (Some (o, [])) (option o) met true) x xs kind.InvalidValue []
      (rest_empty form front o met x p.0 k.0 k.1 k.2 (place_of form met (Some p.0) p.1) k.3)
]

-- ---- the kinds of words

record IsEnds (x : Text) : Type 0 where
  ends : bytes_eq x (45 ∷ 45 ∷ []) ≡ true
  dash : begins_with_dash x ≡ true

record IsLong (x : Text) (xs : List Text) : Type 0 where
  ends : bytes_eq x (45 ∷ 45 ∷ []) ≡ false
  dash : begins_with_dash x ≡ true
  name : Text
  value : Option Text
  long : long_of x ≡ Some (name, value)
  ok : dashes_ok xs ≡ true

record IsPlainWord (x : Text) (xs : List Text) : Type 0 where
  ends : bytes_eq x (45 ∷ 45 ∷ []) ≡ false
  dash : begins_with_dash x ≡ false
  long : long_of x ≡ None
  short : short_of x ≡ None
  ok : dashes_ok xs ≡ true

plain_looks : (x : Text) → begins_with_dash x ≡ false → (long_of x ≡ None) × (short_of x ≡ None)
plain_looks [] e = (refl, refl)
plain_looks (c ∷ cs) e = (rw e refl, rw e refl)

classify : (x : Text) (xs : List Text) → dashes_ok (x ∷ xs) ≡ true → IsEnds x ⊎ (IsLong x xs ⊎ IsPlainWord x xs)
classify x xs h = elim (bool_cases (ends_options x)) [
  | inl t ↦ inl (record { ends = t; dash = let same : x ≡ 45 ∷ 45 ∷ [] = text_is x (45 ∷ 45 ∷ []) t in rw same refl })
  | inr f ↦
      let both : ((not (begins_with_dash x) || is_some (long_of x)) && dashes_ok xs) ≡ true = rw f at h in
      let parts = and_true (not (begins_with_dash x) || is_some (long_of x)) (dashes_ok xs) both in
      elim (bool_cases (begins_with_dash x)) [
        | inl d ↦ elim (option_cases (long_of x)) [
          | inl n ↦ let bad : false ≡ true = rw (d, n) at parts.0 in absurd (cc)
          | inr p ↦ inr (inl (record { ends = f; dash = d; name = p.0.0; value = p.0.1; long = p.1; ok = parts.1 }))
        ]
        | inr d ↦ let looks = plain_looks x d in inr (inr (record { ends = f; dash = d; long = looks.0; short = looks.1; ok = parts.1 }))
      ]
]

ends_uses : (form : Form) (x : Text) (xs : List Text) (met : ℕ) → bytes_eq x (45 ∷ 45 ∷ []) ≡ true → uses_of form any met (x ∷ xs) ≡ uses_of form rest met xs
ends_uses form x xs met e = rw e refl

long_uses : (form : Form) (x : Text) (xs : List Text) (met : ℕ) (q : IsLong x xs)
    → uses_of form any met (x ∷ xs) ≡ option_use (find_option q.name form.options) q.value (uses_of form any met xs) (λ n. uses_of form (value_of n) met xs)
long_uses form x xs met q = let e = q.ends in let d = q.dash in let l = q.long in rw (e, d, l) refl

plain_uses : (form : Form) (x : Text) (xs : List Text) (met : ℕ) (q : IsPlainWord x xs)
    → uses_of form any met (x ∷ xs) ≡ positional_use (slice_get form.positionals met) x (uses_of form any (suc met) xs)
plain_uses form x xs met q = let e = q.ends in let d = q.dash in rw (e, d) refl

dash_none : (form : Form) (o x : Text) (xs : List Text) (met : ℕ) → begins_with_dash x ≡ true → uses_of form (value_of o) met (x ∷ xs) ≡ None
dash_none form o x xs met d = rw d refl

value_uses : (form : Form) (o x : Text) (xs : List Text) (met : ℕ) → begins_with_dash x ≡ false
    → uses_of form (value_of o) met (x ∷ xs) ≡ after (o, x) (uses_of form any met xs)
value_uses form o x xs met d = rw d refl

-- a walk that waits for nothing, by its rows
abbrev walk_rows : List Row → ℕ → Walk
walk_rows rs met = record {
  held = record { rows = rs; pending = None; skip = 0 };
  waiting = idle;
  position = suc met;
  is_trailing = false;
  stopped = None;
}

-- an option in place of a value
value_long : (form : Form) (x : Text) (xs : List Text) (front : List Use) (o : Text) (met : ℕ) → Known (form_rules form) o → IsLong x xs
    → S form (walk_at front (Some (o, [])) (option o) met false) (x ∷ xs) ≡ None
value_long form x xs front o met k q = elim (option_cases (find_option q.name form.options)) [
  | inl n ↦ let t = wait_unknown form front (Some (o, [])) o met x q.name q.value q.ends q.long (by_long form q.name ∙ ap (option_map option_rule) n) in
      steps_none form (walk_at front (Some (o, [])) (option o) met false) x xs kind.UnknownArgument t.0 t.1
  | inr p ↦ steps_none form (walk_at front (Some (o, [])) (option o) met false) x xs kind.InvalidValue []
      (wait_option form front o met x q.name q.value p.0 k.0 k.1 k.2 q.ends q.long (by_long form q.name ∙ ap (option_map option_rule) p.1) k.3)
]

-- ---- words before `--`

abbrev AnyClaim : Form → List Text → Type 0
AnyClaim form ws = (front : List Use) (p : Option Use) (met : ℕ) → KnownUse form p → dashes_ok ws ≡ true
    → S form (walk_at front (pending_of_use p) idle met false) ws ≡ result form front p (uses_of form any met ws)

abbrev ValueClaim : Form → List Text → Type 0
ValueClaim form ws = (front : List Use) (o : Text) (met : ℕ) → Known (form_rules form) o → dashes_ok ws ≡ true
    → S form (walk_at front (Some (o, [])) (option o) met false) ws ≡ result form front None (uses_of form (value_of o) met ws)

-- `--name=value`, when what was pending is settled
abbrev attached_at : Opt → Text → ℕ → Held → Walk
attached_at o t met h = record {
  held = record { rows = spec_used (option_rule o) (t ∷ []) h.rows; pending = None; skip = 0 };
  waiting = idle;
  position = suc met;
  is_trailing = false;
  stopped = None;
}

abbrev attached_fault : Opt → Text → Kinds → Held → Kinds
attached_fault o t k h = or_else (or_else k (use_fault false (option_rule o) (t ∷ []) h.rows)) []

attached : (form : Form) (x : Text) (xs : List Text) → AnyClaim form xs → (front : List Use) (p : Option Use) (met : ℕ) → KnownUse form p
    → (name t : Text) (o : Opt) → bytes_eq x (45 ∷ 45 ∷ []) ≡ false → long_of x ≡ Some (name, Some t) → find_option name form.options ≡ Some o
    → dashes_ok xs ≡ true
    → S form (walk_at front (pending_of_use p) idle met false) (x ∷ xs) ≡ result form front p (after (o.name, t) (uses_of form any met xs))
attached form x xs next front p met k name t o e l found ok =
    let w = walk_at front (pending_of_use p) idle met false in
    let u : Use = (o.name, t) in
    let uses = uses_of form any met xs in
    let step = turn_attached form front (pending_of_use p) met x name t o e l (by_long form name ∙ ap (option_map option_rule) found) in
    elim (settle form front p k) [
      | inl c ↦ steps_none form w x xs c.kind_is [] (step.0 ∙ ap (λ (f : Kinds). attached_fault o t f (settled (form_rules form) (held_at front p))) c.fault)
          ∙ sym (clash_none form front p c (after u uses))
      | inr s ↦
          let fault = step.0 ∙ ap (λ (f : Kinds). attached_fault o t f (settled (form_rules form) (held_at front p))) s.fault
          ∙ ap (attached_fault o t []) s.after ∙ ap (λ (f : Kinds). or_else f []) (use_at o.name (Some o.name) None o.required t (map row_at s.next))
          ∙ ap (λ (b : Bool). or_else (cond b (kind.ArgumentConflict ∷ []) []) []) (has_row_at o.name s.next) in
          let right : result form front p (after u uses) ≡ result form s.next (Some u) uses =
          settled_same form front p s (after u uses) ∙ pending_next form s.next u uses in
          elim (bool_cases (has_use o.name s.next)) [
            | inl twice ↦ steps_none form w x xs kind.ArgumentConflict [] (fault ∙ ap (λ (b : Bool). or_else (cond b (kind.ArgumentConflict ∷ []) []) []) twice)
                ∙ sym (right ∙ twice_none form s.next u uses twice)
            | inr fresh ↦ steps_to form w (walk_at (s.next ++ u ∷ []) None idle met false) x xs
                (fault ∙ ap (λ (b : Bool). or_else (cond b (kind.ArgumentConflict ∷ []) []) []) fresh)
                (step.1 ∙ ap (attached_at o t met) s.after
                ∙ ap (λ (rs : List Row). walk_rows rs met) (used_at o.name (Some o.name) None o.required t s.next fresh))
                ∙ next (s.next ++ u ∷ []) None met tt ok
                ∙ sym (right ∙ fresh_next form s.next u uses fresh)
          ]
    ]

-- `--name`, when what was pending is settled
abbrev named_at : Opt → ℕ → Held → Walk
named_at o met h = record {
  held = record h { pending = Some (o.name, []) };
  waiting = option o.name;
  position = suc met;
  is_trailing = false;
  stopped = None;
}

named : (form : Form) (x : Text) (xs : List Text) → ValueClaim form xs → (front : List Use) (p : Option Use) (met : ℕ) → KnownUse form p
    → (name : Text) (o : Opt) → bytes_eq x (45 ∷ 45 ∷ []) ≡ false → long_of x ≡ Some (name, None) → find_option name form.options ≡ Some o → dashes_ok xs ≡ true
    → S form (walk_at front (pending_of_use p) idle met false) (x ∷ xs) ≡ result form front p (uses_of form (value_of o.name) met xs)
named form x xs next front p met k name o e l found ok =
    let w = walk_at front (pending_of_use p) idle met false in
    let uses = uses_of form (value_of o.name) met xs in
    let step = turn_named form front (pending_of_use p) met x name o e l (by_long form name ∙ ap (option_map option_rule) found) in
    elim (settle form front p k) [
      | inl c ↦ steps_none form w x xs c.kind_is [] (step.0 ∙ ap (λ (f : Kinds). or_else f []) c.fault) ∙ sym (clash_none form front p c uses)
      | inr s ↦ steps_to form w (walk_at s.next (Some (o.name, [])) (option o.name) met false) x xs (step.0 ∙ ap (λ (f : Kinds). or_else f []) s.fault)
          (step.1 ∙ ap (named_at o met) s.after)
          ∙ next s.next o.name met (known_option form name o found) ok
          ∙ sym (settled_same form front p s uses)
    ]

placed_at : (form : Form) (x : Text) (xs : List Text) → IsNumbered form → AnyClaim form xs → (front : List Use) (p : Option Use) (met : ℕ) → KnownUse form p
    → IsPlainWord x xs → (name : Text) → slice_get form.positionals met ≡ Some name
    → S form (walk_at front (pending_of_use p) idle met false) (x ∷ xs) ≡ result form front p (after (name, x) (uses_of form any (suc met) xs))
placed_at form x xs few next front p met k q name e =
    let w = walk_at front (pending_of_use p) idle met false in
    let u : Use = (name, x) in
    let uses = uses_of form any (suc met) xs in
    let step = turn_positional form front (pending_of_use p) met x name q.ends q.long q.short (place_of form met (Some name) e)
    (next_place form met name few e) in
    elim (settle form front p k) [
      | inl c ↦ steps_none form w x xs c.kind_is [] (step.0 ∙ c.fault) ∙ sym (clash_none form front p c (after u uses))
      | inr s ↦ steps_to form w (walk_at s.next (Some (name, x ∷ [])) idle (suc met) false) x xs (step.0 ∙ s.fault)
          (step.1 ∙ ap (positional_at name x met false) s.after)
          ∙ next s.next (Some u) (suc met) (known_positional form met name e) q.ok
          ∙ sym (settled_same form front p s (after u uses) ∙ pending_next form s.next u uses)
    ]

placed : (form : Form) (x : Text) (xs : List Text) → IsNumbered form → AnyClaim form xs → (front : List Use) (p : Option Use) (met : ℕ) → KnownUse form p
    → IsPlainWord x xs
    → S form (walk_at front (pending_of_use p) idle met false) (x ∷ xs)
    ≡ result form front p (positional_use (slice_get form.positionals met) x (uses_of form any (suc met) xs))
placed form x xs few next front p met k q = elim (option_cases (slice_get form.positionals met)) [
  | inl n ↦ rw n (steps_none form (walk_at front (pending_of_use p) idle met false) x xs kind.UnknownArgument []
      (turn_stray form front (pending_of_use p) met x q.ends q.long q.short (place_of form met None n)))
  | inr o ↦ rw (o.1) (placed_at form x xs few next front p met k q o.0 o.1)
]

-- a long word, by what its name finds
long_words : (form : Form) (x : Text) (xs : List Text) → AnyClaim form xs → ValueClaim form xs
    → (front : List Use) (p : Option Use) (met : ℕ) → KnownUse form p
    → (name : Text) (v : Option Text) → bytes_eq x (45 ∷ 45 ∷ []) ≡ false → long_of x ≡ Some (name, v) → dashes_ok xs ≡ true
    → S form (walk_at front (pending_of_use p) idle met false) (x ∷ xs)
    ≡ result form front p (option_use (find_option name form.options) v (uses_of form any met xs) (λ n. uses_of form (value_of n) met xs))
long_words form x xs next values front p met k name None e l ok = elim (option_cases (find_option name form.options)) [
  | inl n ↦ rw n (let t = turn_unknown form front (pending_of_use p) met x name None e l (by_long form name ∙ ap (option_map option_rule) n) in
      steps_none form (walk_at front (pending_of_use p) idle met false) x xs kind.UnknownArgument t.0 t.1)
  | inr o ↦ rw (o.1) (named form x xs values front p met k name o.0 e l o.1 ok)
]
long_words form x xs next values front p met k name (Some t) e l ok = elim (option_cases (find_option name form.options)) [
  | inl n ↦ rw n (let t' = turn_unknown form front (pending_of_use p) met x name (Some t) e l (by_long form name ∙ ap (option_map option_rule) n) in
      steps_none form (walk_at front (pending_of_use p) idle met false) x xs kind.UnknownArgument t'.0 t'.1)
  | inr o ↦ rw (o.1) (attached form x xs next front p met k name t o.0 e l o.1 ok)
]

any_step : (form : Form) (x : Text) (xs : List Text) → IsNumbered form → AnyClaim form xs → ValueClaim form xs → AnyClaim form (x ∷ xs)
any_step form x xs few next values front p met k ok = elim (classify x xs ok) [
  | inl q ↦ let t = turn_ends form front (pending_of_use p) met x q.ends in
      steps_to form (walk_at front (pending_of_use p) idle met false) (walk_at front (pending_of_use p) idle met true) x xs t.0 t.1
      ∙ rest_words form few xs front p met k
      ∙ ap (result form front p) (sym (ends_uses form x xs met q.ends))
  | inr r ↦ elim r [
    | inl q ↦ long_words form x xs next values front p met k q.name q.value q.ends q.long q.ok
        ∙ ap (result form front p) (sym (long_uses form x xs met q))
    | inr q ↦ placed form x xs few next front p met k q
        ∙ ap (result form front p) (sym (plain_uses form x xs met q))
  ]
]

value_step : (form : Form) (x : Text) (xs : List Text) → AnyClaim form xs → ValueClaim form (x ∷ xs)
value_step form x xs next front o met k ok = elim (classify x xs ok) [
  | inl q ↦ let t = wait_ends form front (Some (o, [])) o met x q.ends in
      steps_to form (walk_at front (Some (o, [])) (option o) met false) (walk_at front (Some (o, [])) (option o) met true) x xs t.0 t.1
      ∙ empty_none form xs front o met k
      ∙ ap (result form front None) (sym (dash_none form o x xs met q.dash))
  | inr r ↦ elim r [
    | inl q ↦ value_long form x xs front o met k q ∙ ap (result form front None) (sym (dash_none form o x xs met q.dash))
    | inr q ↦ let t = wait_plain form front o met x k.0 k.1 k.2 q.ends q.long q.short k.3 (same_text o) in
        steps_to form (walk_at front (Some (o, [])) (option o) met false) (walk_at front (Some (o, x ∷ [])) idle met false) x xs t.0 t.1
        ∙ next front (Some (o, x)) met k q.ok
        ∙ sym (pending_next form front (o, x) (uses_of form any met xs))
        ∙ ap (result form front None) (sym (value_uses form o x xs met q.dash))
  ]
]

pub record Claims (form : Form) (ws : List Text) : Type 0 where
  words : AnyClaim form ws
  values : ValueClaim form ws

claims : (form : Form) → IsNumbered form → (ws : List Text) → Claims form ws
claims form few [] = record {
  words = λ front p met k ok. ends_at form front p met false k;
  values = λ front o met k ok. let rule = k.3 in rw rule refl;
}
claims form few (x ∷ xs) = let next = claims form few xs in record {
  words = any_step form x xs few next.words next.values;
  values = value_step form x xs next.words;
}

pub reads : (form : Form) → IsNumbered form → (ws : List Text) → dashes_ok ws ≡ true
    → rows_from (form_shape form) (walk_at [] None idle 0 false) ws ≡ option_map (map row_at) (read form ws)
reads form few ws ok = (claims form few ws).words [] None 0 tt ok
