-- Each step of `clap` on a form.
use Rattle.std.proofs.Common.{◌≡◌, ◌∙◌, ◌+◌, ℕ, suc, Bool, true, false, cond, List, [], ◌∷◌, ◌++◌, map, ap, sym, refl, Option, Some, None, append-nil}
use Rattle.std.specs.Prelude.{◌&&◌, ◌||◌, min}
use Rattle.std.specs.Str.{bytes_eq}
use Rattle.clap.specs.Lexer.{long_of, short_of, usize_max}
use Rattle.clap.specs.Kinds.{Kinds, or_else}
use Rattle.clap.specs.Walk.{Row, Waiting, idle, option, walked, arg_by_id, arg_by_long, arg_by_index, has_row, settled, used as spec_used, without, at_row, more_values}
use Rattle.clap.specs.declared.parser.matches.ValueSource.TheVariants.{CommandLine}
use Rattle.clap.specs.Faults.{turn_fault, settle_fault, use_fault}
use Rattle.clap.specs.declared.error.kind.ErrorKind.TheVariants as kind
use Rattle.mb_forms.specs.Forms.{Text, Opt, Form, Use, has_use}
use Rattle.mb_forms.specs.Clap.{row_at}
use Rattle.mb_forms.proofs.Built.{plain_rule, option_rule, positional_rule, form_rules, form_shape, walk_at}

and_false : (b : Bool) → (b && false) ≡ false
and_false true = refl
and_false false = refl

-- a second use of a name, and no other, is in conflict
pub use_at : (id : Text) (long : Option Text) (index : Option ℕ) (required : Bool) (v : Text) (rows : List Row)
    → use_fault false (plain_rule id long index required) (v ∷ []) rows ≡ cond (has_row id rows) (kind.ArgumentConflict ∷ []) []
use_at id long index required v rows =
    elim (has_row id rows) as (λ b. or_else (cond (b && true) (kind.ArgumentConflict ∷ []) []) []
    ≡ cond b (kind.ArgumentConflict ∷ []) []) [ true ↦ refl | false ↦ refl ]

pub has_row_at : (id : Text) (front : List Use) → has_row id (map row_at front) ≡ has_use id front
has_row_at id [] = refl
has_row_at id (u ∷ us) = ap (λ (b : Bool). bytes_eq u.0 id || b) (has_row_at id us)

-- a row that is not there is not taken out
or_false : (a b : Bool) → (a || b) ≡ false → (a ≡ false) × (b ≡ false)
or_false true b e = absurd (cc)
or_false false b e = (refl, e)

at_end : (id : Text) (change : Row → List Row) (missing : List Row) (front : List Use)
    → has_use id front ≡ false → at_row id change missing (map row_at front) ≡ map row_at front ++ missing
at_end id change missing [] h = refl
at_end id change missing (u ∷ us) h =
    let parts = or_false (bytes_eq u.0 id) (has_use id us) h in
    let here = parts.0 in
    rw here (ap (λ (rs : List Row). row_at u ∷ rs) (at_end id change missing us parts.1))

map_end : (front : List Use) (u : Use) → map row_at (front ++ u ∷ []) ≡ map row_at front ++ row_at u ∷ []
map_end [] u = refl
map_end (x ∷ xs) u = ap (λ (rs : List Row). row_at x ∷ rs) (map_end xs u)

-- a first use is added at the end
pub used_at : (id : Text) (long : Option Text) (index : Option ℕ) (required : Bool) (v : Text) (front : List Use)
    → has_use id front ≡ false
    → spec_used (plain_rule id long index required) (v ∷ []) (map row_at front) ≡ map row_at (front ++ (id, v) ∷ [])
used_at id long index required v front h =
    let gone : without id (map row_at front) ≡ map row_at front = at_end id (λ _. []) [] front h ∙ append-nil (map row_at front) in
    rw gone (at_end id (more_values CommandLine (v ∷ [])) (row_at (id, v) ∷ []) front h ∙ sym (map_end front (id, v)))

-- `--` ends the options
pub turn_ends : (form : Form) (front : List Use) (pending : Option (Text × List Text)) (met : ℕ) (w : Text)
    → bytes_eq w (45 ∷ 45 ∷ []) ≡ true
    → (turn_fault (form_shape form) [] (walk_at front pending idle met false) w ≡ [])
    × (walked (form_rules form) [] (walk_at front pending idle met false) w ≡ walk_at front pending idle met true)
unfolding walked
turn_ends form front pending met w e = (rw e refl, rw e refl)

pub wait_ends : (form : Form) (front : List Use) (pending : Option (Text × List Text)) (o : Text) (met : ℕ) (w : Text)
    → bytes_eq w (45 ∷ 45 ∷ []) ≡ true
    → (turn_fault (form_shape form) [] (walk_at front pending (option o) met false) w ≡ [])
    × (walked (form_rules form) [] (walk_at front pending (option o) met false) w ≡ walk_at front pending (option o) met true)
unfolding walked
wait_ends form front pending o met w e = (rw e refl, rw e refl)

-- a name that no option has
pub turn_unknown : (form : Form) (front : List Use) (pending : Option (Text × List Text)) (met : ℕ) (w name : Text) (v : Option Text)
    → bytes_eq w (45 ∷ 45 ∷ []) ≡ false → long_of w ≡ Some (name, v) → arg_by_long (form_rules form) name ≡ None
    → (k : Kinds) × (turn_fault (form_shape form) [] (walk_at front pending idle met false) w ≡ kind.UnknownArgument ∷ k)
turn_unknown form front pending met w name v e l a = ([], rw (e, l, a) refl)

pub wait_unknown : (form : Form) (front : List Use) (pending : Option (Text × List Text)) (o : Text) (met : ℕ) (w name : Text) (v : Option Text)
    → bytes_eq w (45 ∷ 45 ∷ []) ≡ false → long_of w ≡ Some (name, v) → arg_by_long (form_rules form) name ≡ None
    → (k : Kinds) × (turn_fault (form_shape form) [] (walk_at front pending (option o) met false) w ≡ kind.UnknownArgument ∷ k)
wait_unknown form front pending o met w name v e l a = ([], rw (e, l, a) refl)

-- `--name=value`
pub turn_attached : (form : Form) (front : List Use) (pending : Option (Text × List Text)) (met : ℕ) (w name t : Text) (o : Opt)
    → bytes_eq w (45 ∷ 45 ∷ []) ≡ false → long_of w ≡ Some (name, Some t) → arg_by_long (form_rules form) name ≡ Some (option_rule o)
    → (turn_fault (form_shape form) [] (walk_at front pending idle met false) w
    ≡ or_else (or_else (settle_fault (form_rules form) false (walk_at front pending idle met false).held)
    (use_fault false (option_rule o) (t ∷ []) (settled (form_rules form) (walk_at front pending idle met false).held).rows)) [])
    × (walked (form_rules form) [] (walk_at front pending idle met false) w
    ≡ record (walk_at front pending idle met false) {
      held = record {
        rows = spec_used (option_rule o) (t ∷ []) (settled (form_rules form) (walk_at front pending idle met false).held).rows;
        pending = None;
        skip = 0;
      };
    })
unfolding walked
turn_attached form front pending met w name t o e l a = (rw (e, l, a) refl, rw (e, l, a) refl)

-- `--name`
pub turn_named : (form : Form) (front : List Use) (pending : Option (Text × List Text)) (met : ℕ) (w name : Text) (o : Opt)
    → bytes_eq w (45 ∷ 45 ∷ []) ≡ false → long_of w ≡ Some (name, None) → arg_by_long (form_rules form) name ≡ Some (option_rule o)
    → (turn_fault (form_shape form) [] (walk_at front pending idle met false) w
    ≡ or_else (settle_fault (form_rules form) false (walk_at front pending idle met false).held) [])
    × (walked (form_rules form) [] (walk_at front pending idle met false) w
    ≡ record (walk_at front pending idle met false) {
      held = record (settled (form_rules form) (walk_at front pending idle met false).held) { pending = Some (o.name, []) };
      waiting = option o.name;
    })
unfolding walked
turn_named form front pending met w name o e l a = (rw (e, l, a) refl, rw (e, l, a) refl)

-- a positional word, before `--` and after it
pub turn_positional : (form : Form) (front : List Use) (pending : Option (Text × List Text)) (met : ℕ) (w name : Text)
    → bytes_eq w (45 ∷ 45 ∷ []) ≡ false → long_of w ≡ None → short_of w ≡ None
    → arg_by_index (form_rules form) (suc met) ≡ Some (positional_rule (suc met) name) → min (suc met + 1) usize_max ≡ suc (suc met)
    → (turn_fault (form_shape form) [] (walk_at front pending idle met false) w
    ≡ settle_fault (form_rules form) false (walk_at front pending idle met false).held)
    × (walked (form_rules form) [] (walk_at front pending idle met false) w
    ≡ record (walk_at front pending idle (suc met) false) {
      held = record (settled (form_rules form) (walk_at front pending idle met false).held) { pending = Some (name, w ∷ []) };
    })
unfolding walked
turn_positional form front None met w name e l s i b = (rw (e, l, s, i) refl, rw (e, l, s, i, b) refl)
turn_positional form front (Some p) met w name e l s i b =
    let n : (bytes_eq p.0 name && false) ≡ false = and_false (bytes_eq p.0 name) in
    (rw (e, l, s, i, n) refl, rw (e, l, s, i, n, b) refl)

pub turn_stray : (form : Form) (front : List Use) (pending : Option (Text × List Text)) (met : ℕ) (w : Text)
    → bytes_eq w (45 ∷ 45 ∷ []) ≡ false → long_of w ≡ None → short_of w ≡ None → arg_by_index (form_rules form) (suc met) ≡ None
    → (turn_fault (form_shape form) [] (walk_at front pending idle met false) w ≡ kind.UnknownArgument ∷ [])
turn_stray form front pending met w e l s i = rw (e, l, s, i) refl

-- the value of an option
pub wait_plain : (form : Form) (front : List Use) (o : Text) (met : ℕ) (w : Text) (l : Option Text) (i : Option ℕ) (r : Bool)
    → bytes_eq w (45 ∷ 45 ∷ []) ≡ false → long_of w ≡ None → short_of w ≡ None
    → arg_by_id (form_rules form) o ≡ Some (plain_rule o l i r) → bytes_eq o o ≡ true
    → (turn_fault (form_shape form) [] (walk_at front (Some (o, [])) (option o) met false) w ≡ [])
    × (walked (form_rules form) [] (walk_at front (Some (o, [])) (option o) met false) w ≡ walk_at front (Some (o, w ∷ [])) idle met false)
unfolding walked
wait_plain form front o met w l i r e n s k same = (rw (e, n, s) refl, rw (e, n, s, k, same) refl)

-- an option in place of a value
pub wait_option : (form : Form) (front : List Use) (o : Text) (met : ℕ) (w name : Text) (v : Option Text) (p : Opt) (l : Option Text) (i : Option ℕ) (r : Bool)
    → bytes_eq w (45 ∷ 45 ∷ []) ≡ false → long_of w ≡ Some (name, v) → arg_by_long (form_rules form) name ≡ Some (option_rule p)
    → arg_by_id (form_rules form) o ≡ Some (plain_rule o l i r)
    → turn_fault (form_shape form) [] (walk_at front (Some (o, [])) (option o) met false) w ≡ kind.InvalidValue ∷ []
wait_option form front o met w name None p l i r e n a k = rw (e, n, a, k) refl
wait_option form front o met w name (Some t) p l i r e n a k = rw (e, n, a, k) refl

-- words after `--`
pub rest_positional : (form : Form) (front : List Use) (pending : Option (Text × List Text)) (met : ℕ) (w name : Text)
    → arg_by_index (form_rules form) (suc met) ≡ Some (positional_rule (suc met) name) → min (suc met + 1) usize_max ≡ suc (suc met)
    → (turn_fault (form_shape form) [] (walk_at front pending idle met true) w
    ≡ settle_fault (form_rules form) false (walk_at front pending idle met true).held)
    × (walked (form_rules form) [] (walk_at front pending idle met true) w
    ≡ record (walk_at front pending idle (suc met) true) {
      held = record (settled (form_rules form) (walk_at front pending idle met true).held) { pending = Some (name, w ∷ []) };
    })
unfolding walked
rest_positional form front None met w name i b = (rw i refl, rw (i, b) refl)
rest_positional form front (Some p) met w name i b =
    let n : (bytes_eq p.0 name && false) ≡ false = and_false (bytes_eq p.0 name) in
    (rw (i, n) refl, rw (i, n, b) refl)

pub rest_stray : (form : Form) (front : List Use) (pending : Option (Text × List Text)) (waiting : Waiting) (met : ℕ) (w : Text)
    → arg_by_index (form_rules form) (suc met) ≡ None
    → turn_fault (form_shape form) [] (walk_at front pending waiting met true) w ≡ kind.UnknownArgument ∷ []
rest_stray form front pending waiting met w i = rw i refl

-- `--` in place of a value
pub rest_empty : (form : Form) (front : List Use) (o : Text) (met : ℕ) (w name : Text) (l : Option Text) (i : Option ℕ) (r : Bool)
    → arg_by_index (form_rules form) (suc met) ≡ Some (positional_rule (suc met) name)
    → arg_by_id (form_rules form) o ≡ Some (plain_rule o l i r)
    → turn_fault (form_shape form) [] (walk_at front (Some (o, [])) (option o) met true) w ≡ kind.InvalidValue ∷ []
rest_empty form front o met w name l i r place k =
    let n : (bytes_eq o name && false) ≡ false = and_false (bytes_eq o name) in
    rw (place, n, k) refl
