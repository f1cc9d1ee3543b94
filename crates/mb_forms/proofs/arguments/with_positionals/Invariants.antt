-- The command with the words that are left is the command with all words.
use Rattle.std.proofs.Common.{◌≡◌, drop, fold, map}
use Rattle.clap.specs.Words.{app_of, with_rule}
use Rattle.mb_forms.specs.Clap.{positional_arg}
use Rattle.mb_forms.specs.Said.{text_said}
use Rattle.mb_forms.proofs.arguments.with_positionals.Given as goal

abbrev pub invariant-loop-name : goal.invariant-loop-name
invariant-loop-name l =
    fold with_rule (app_of l.made) (map positional_arg (map text_said (drop l.name-index l.names)))
    ≡ fold with_rule (app_of l.fn.command) (map positional_arg (map text_said l.names))
