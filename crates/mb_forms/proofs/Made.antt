-- A command that is made rule by rule.
use Rattle.std.proofs.Common.{◌≡◌, ◌∙◌, List, [], ◌∷◌, ◌++◌, fold, map, ap, sym, append-nil, append_assoc}
use Rattle.clap.specs.Walk.{Rule}
use Rattle.clap.specs.Simple.{App, on_top, with_rule}
use Rattle.mb_forms.specs.Forms.{Form}
use Rattle.mb_forms.specs.Clap.{positional_arg, option_arg, empty_shape, form_app}

abbrev with_rules : App → List Rule → App
with_rules app rules = on_top (λ s. record s { rules = s.rules ++ rules }) app

abbrev top_with : App → List Rule → App
top_with app rules = record app { top = record app.top { rules = rules } }

all_rules : (app : App) (rules : List Rule) → fold with_rule app rules ≡ with_rules app rules
all_rules app [] = ap (top_with app) (sym (append-nil app.top.rules))
all_rules app (rule ∷ rules) =
    all_rules (with_rule app rule) rules ∙ ap (top_with app) (append_assoc app.top.rules (rule ∷ []) rules)

-- a command with a form's positional words, and then with its options
pub form_made : (form : Form) (named worded made : App) → named ≡ record { top = empty_shape form.name; subs = [] }
    → worded ≡ fold with_rule named (map positional_arg form.positionals)
    → made ≡ fold with_rule worded (map option_arg form.options)
    → made ≡ form_app form
form_made form named worded made begun words options =
    let first : worded ≡ top_with (record { top = empty_shape form.name; subs = [] }) (map positional_arg form.positionals)
    = words ∙ all_rules named _ ∙ ap (λ (app : App). with_rules app (map positional_arg form.positionals)) begun in
    options ∙ all_rules worded _ ∙ ap (λ (app : App). with_rules app (map option_arg form.options)) first
