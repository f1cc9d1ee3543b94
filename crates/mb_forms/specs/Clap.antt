-- The same commands for `clap`, and what it gives for the words.
use Rattle.std.specs.Prelude.{◌≡◌, Bool, true, false, List, [], ◌∷◌, ◌++◌, Option, Some, None, if◌then◌else◌, map, option_map, get_or}
use Rattle.clap.specs.Walk.{Row, Rule}
use Rattle.clap.specs.Kinds.{Kinds}
use Rattle.clap.specs.Faults.{fault_of}
use Rattle.clap.specs.Simple.{App, Shape, new_rule, new_shape, matches_of}
use Rattle.clap.specs.Values.{reading_of}
use Rattle.clap.specs.declared.parser.matches.ValueSource.TheVariants.{CommandLine}
use Rattle.clap.specs.declared.builder.action.ArgAction.TheVariants.{Set}
use Rattle.clap.specs.declared.builder.value_parser.ValueParser.TheVariants as vp
use Rattle.mb_forms.specs.Forms.{Text, Opt, Form, Use, dashes_ok, read}

-- ---- the command as our code makes it

-- a positional word
abbrev pub positional_arg : Text → Rule
positional_arg name = record (new_rule name) { action = Some Set; required = true }

-- an option with one value
abbrev pub option_arg : Opt → Rule
option_arg o = record (new_rule o.name) { long = Some o.name; action = Some Set; required = o.required }

-- a command with no argument yet
abbrev pub empty_shape : Text → Shape
empty_shape name = record (new_shape name) { no_binary_name = true; disable_help_flag = true }

abbrev pub form_app : Form → App
form_app form = record {
  top = record (empty_shape form.name) { rules = map positional_arg form.positionals ++ map option_arg form.options };
  subs = [];
}

-- ---- what `clap` gives

abbrev pub row_at : Use → Row
row_at (name, value) = record {
  id = name;
  values = value ∷ [];
  count = None;
  source = Some CommandLine;
  reading = reading_of vp.String;
}

-- the use that a row has
abbrev pub use_at : Row → Use
use_at r = (r.id, get_or r.values 0 [])

abbrev pub no_kinds : Kinds → Bool
no_kinds [] = true
no_kinds (k ∷ ks) = false

-- the rows that `clap` gives for the words, or nothing where it refuses them
abbrev pub clap_gives : App → List Text → Option (List Row)
clap_gives app words = if no_kinds (fault_of app words) then Some (matches_of app words) else None

-- The test of the hyphens and then `clap` take the words exactly where the form reads them, and find the
-- same values.
abbrev pub Agrees : Form → List Text → Type 0
Agrees form words =
    (if dashes_ok words then clap_gives (form_app form) words else None) ≡ option_map (map row_at) (read form words)
