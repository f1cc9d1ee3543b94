-- The command with the options that are left is the command with all options.
use Rattle.std.proofs.Common.{◌≡◌, drop, fold, map}
use Rattle.clap.specs.Words.{app_of, with_rule}
use Rattle.mb_forms.specs.Clap.{option_arg}
use Rattle.mb_forms.specs.Said.{option_said}
use Rattle.mb_forms.proofs.arguments.with_options.Given as goal

abbrev pub invariant-loop-given : goal.invariant-loop-given
invariant-loop-given l =
    fold with_rule (app_of l.made) (map option_arg (map option_said (drop l.given-index l.options)))
    ≡ fold with_rule (app_of l.fn.command) (map option_arg (map option_said l.options))
