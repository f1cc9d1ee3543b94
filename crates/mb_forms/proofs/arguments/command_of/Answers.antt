use Rattle.std.proofs.lemmas.List.{length-map}
use Rattle.std.proofs.lemmas.Result.{IfOk-weaker}
use Rattle.mb_forms.specs.Said.{form_said}
use Rattle.mb_forms.proofs.Made.{form_made}
use Rattle.mb_forms.proofs.arguments.command_of.Goals as goal

pub returns : goal.returns
returns c = record {
  made = IfOk-weaker c.with_options.result _ _
      (λ made options. form_made (form_said c.args.form.now) _ _ _ c.bare_command-named.ensures.app c.in_ok-with_words.ensures.made options)
      c.with_options.ensures;
  few = IfOk-weaker c.with_options.result _ _ (λ made options. rw length-map c.in_ok-with_words.ensures.few) c.with_options.ensures;
}
