-- The words of a command that has positional words in a fixed order, and options with one value each.
use Rattle.std.specs.Prelude.{◌<◌, ◌==◌, ◌&&◌, ◌||◌, ℕ, suc, Bool, true, false, not, List, [], ◌∷◌, ◌++◌, length, Option, Some, None, is_some, if◌then◌else◌, find, slice_get, option_map, option_and_then}
use Rattle.std.specs.List.{list_any, list_all}
use Rattle.std.specs.Str.{bytes_eq}
use Rattle.clap.specs.Lexer.{long_of, usize_max}

abbrev pub Text : Type 0
Text = List ℕ

-- an option: its name without `--`, and whether it must be given
pub record Opt : Type 0 where
  pub name : Text
  pub required : Bool

-- a command: its name, the names of its positional words in their order, all of which must be given, and
-- its options, which come in any order
pub record Form : Type 0 where
  pub name : Text
  pub positionals : List Text
  pub options : List Opt

-- `clap` can number the positional words.
abbrev pub IsNumbered : Form → Type 0
IsNumbered form = length form.positionals < usize_max

-- a value with the name that it is given to
abbrev pub Use : Type 0
Use = Text × Text

abbrev pub begins_with_dash : Text → Bool
begins_with_dash [] = false
begins_with_dash (c ∷ cs) = c == 45

-- the word `--`
abbrev pub ends_options : Text → Bool
ends_options word = bytes_eq word (45 ∷ 45 ∷ [])

abbrev pub find_option : Text → List Opt → Option Opt
find_option name options = find (λ o. bytes_eq o.name name) options

-- what a next word is: one of any kind, the value of an option, or a word after `--`
pub data Mode : Type 0 where
  any : Mode
  value_of : Text → Mode
  rest : Mode

-- this use, and those that come after it
abbrev pub after : Use → Option (List Use) → Option (List Use)
after u = option_map (λ uses. u ∷ uses)

-- a positional word, which has a name where the form has one more
abbrev pub positional_use : Option Text → Text → Option (List Use) → Option (List Use)
positional_use None word uses = None
positional_use (Some name) word uses = after (name, word) uses

-- an option with its value, or one that has the next word as its value
abbrev pub option_use : Option Opt → Option Text → Option (List Use) → (Text → Option (List Use)) → Option (List Use)
option_use None value uses next = None
option_use (Some o) (Some v) uses next = after (o.name, v) uses
option_use (Some o) None uses next = next o.name

-- a word that begins with `-`: `--name=value`, `--name`, or none of the form's
abbrev pub dash_use : Form → Option (Text × Option Text) → Option (List Use)
    → (Text → Option (List Use)) → Option (List Use)
dash_use form None uses next = None
dash_use form (Some (name, value)) uses next = option_use (find_option name form.options) value uses next

-- The uses that the words give, in their order, behind `met` positional words.
abbrev pub uses_of : Form → Mode → ℕ → List Text → Option (List Use)
uses_of form any met [] = Some []
uses_of form (value_of name) met [] = None
uses_of form rest met [] = Some []
uses_of form rest met (w ∷ ws) = positional_use (slice_get form.positionals met) w (uses_of form rest (suc met) ws)
uses_of form (value_of name) met (w ∷ ws) =
    if begins_with_dash w then None else after (name, w) (uses_of form any met ws)
uses_of form any met (w ∷ ws) =
    if ends_options w then uses_of form rest met ws
    else (if begins_with_dash w
    then dash_use form (long_of w) (uses_of form any met ws) (λ name. uses_of form (value_of name) met ws)
    else positional_use (slice_get form.positionals met) w (uses_of form any (suc met) ws))

abbrev pub has_use : Text → List Use → Bool
has_use name uses = list_any (λ (used, _). bytes_eq used name) uses

-- each name that must be given has a use
abbrev pub has_required : Form → List Use → Bool
has_required form uses = list_all (λ name. has_use name uses) form.positionals
    && list_all (λ o. not o.required || has_use o.name uses) form.options

-- the uses, where no name has two of them and each that must be given has one
abbrev pub finish : Form → List Use → List Use → Option (List Use)
finish form front [] = if has_required form front then Some front else None
finish form front ((name, value) ∷ us) =
    if has_use name front then None else finish form (front ++ (name, value) ∷ []) us

-- What the words give, in their order; nothing where they are not the form's.
abbrev pub read : Form → List Text → Option (List Use)
read form words = option_and_then (λ uses. finish form [] uses) (uses_of form any 0 words)

-- the value that a name is given
abbrev pub value_in : Text → List Use → Option Text
value_in name uses = option_map (λ (_, value). value) (find (λ (used, _). bytes_eq used name) uses)

-- Before `--`, no word begins with one hyphen alone.
abbrev pub dashes_ok : List Text → Bool
dashes_ok [] = true
dashes_ok (w ∷ ws) = ends_options w || ((not (begins_with_dash w) || is_some (long_of w)) && dashes_ok ws)
