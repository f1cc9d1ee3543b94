-- The same command as `clap` builds it, and the walk over the words by it.
use Rattle.std.specs.Prelude.{ℕ, suc, Bool, true, false, List, [], ◌∷◌, ◌++◌, Option, Some, None, if◌then◌else◌, map, option_map}
use Rattle.clap.specs.Walk.{Row, Rule, Waiting, Walk, walked, finished, settled}
use Rattle.clap.specs.Kinds.{or_else}
use Rattle.clap.specs.Faults.{turn_fault, settle_fault, defaults_fault, check_fault}
use Rattle.clap.specs.Simple.{Shape, new_rule}
use Rattle.clap.specs.declared.builder.action.ArgAction.TheVariants.{Set}
use Rattle.clap.specs.declared.builder.value_parser.ValueParser.TheVariants as vp
use Rattle.mb_forms.specs.Forms.{Text, Opt, Form, Use}
use Rattle.mb_forms.specs.Clap.{empty_shape, row_at, no_kinds}

-- ---- the command as `clap` builds it

abbrev pub plain_rule : Text → Option Text → Option ℕ → Bool → Rule
plain_rule id long index required = record (new_rule id) {
  long = long;
  index = index;
  action = Some Set;
  range = Some (record { start_inclusive = 1; end_inclusive = 1 });
  parser = Some vp.String;
  required = required;
}

abbrev pub option_rule : Opt → Rule
option_rule o = plain_rule o.name (Some o.name) None o.required

abbrev pub positional_rule : ℕ → Text → Rule
positional_rule i name = plain_rule name None (Some i) true

-- the positional words, numbered from i
abbrev pub positional_rules : ℕ → List Text → List Rule
positional_rules i [] = []
positional_rules i (name ∷ names) = positional_rule i name ∷ positional_rules (suc i) names

abbrev pub form_rules : Form → List Rule
form_rules form = positional_rules 1 form.positionals ++ map option_rule form.options

abbrev pub form_shape : Form → Shape
form_shape form = record (empty_shape form.name) {
  rules = form_rules form;
  disable_help_subcommand = true;
  is_built = true;
}

-- ---- the walk over the words

-- where the walk stands after these uses, the last of them pending
abbrev pub pending_of_use : Option Use → Option (Text × List Text)
pending_of_use = option_map (λ u. (u.0, u.1 ∷ []))

abbrev pub walk_at : List Use → Option (Text × List Text) → Waiting → ℕ → Bool → Walk
walk_at front pending waiting met trailing = record {
  held = record { rows = map row_at front; pending = pending; skip = 0 };
  waiting = waiting;
  position = suc met;
  is_trailing = trailing;
  stopped = None;
}

-- the rows where a built command takes the words from here on
abbrev pub rows_at_end : Shape → Walk → Option (List Row)
rows_at_end s w = if no_kinds (or_else (settle_fault s.rules false w.held)
    (or_else (defaults_fault (settled s.rules w.held).rows s.rules) (check_fault s (finished s.rules w.held) false)))
    then Some (finished s.rules w.held) else None

abbrev pub rows_from : Shape → Walk → List Text → Option (List Row)
rows_from s w [] = rows_at_end s w
rows_from s w (x ∷ xs) = if no_kinds (turn_fault s [] w x) then rows_from s (walked s.rules [] w x) xs else None
