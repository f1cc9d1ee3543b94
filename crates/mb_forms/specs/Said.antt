-- What the code's values say, and how an answer stands to what words give.
use Rattle.std.specs.Prelude.{◌≡◌, ⊤, map, Option, Some, None, Result, Ok, Err}
use denote.Ref.{Bor}
use Rattle.mb_forms.specs.Forms.{Text, Opt, Form}
use Rattle.mb_forms.specs.declared.form.Form as form
use Rattle.mb_forms.specs.declared.form.FormOption.{FormOption}
use Rattle.mb_forms.specs.declared.fault.WordsFault.{WordsFault}
use Rattle.mb_forms.specs.declared.fault.WordsFault.TheVariants.{Memory, Refused}

abbrev pub text_said : Bor Text → Text
text_said text = text.now

abbrev pub option_said : FormOption → Opt
option_said option = record { name = option.name.now; required = option.required }

abbrev pub form_said : form.Form → Form
form_said form = record {
  name = form.name.now;
  positionals = map text_said form.positionals.now;
  options = map option_said form.options.now;
}

-- why words were not read; want of memory is free
abbrev pub FaultFits : {A : Type 0} → Option A → WordsFault → Type 0
FaultFits given Memory = ⊤
FaultFits given Refused = given ≡ None

-- What was read is what the words give, seen so, or they were refused and give nothing; want of memory is free.
abbrev pub ReadsAs : {X Y : Type 0} → (X → Y) → Option Y → Result X WordsFault → Type 0
ReadsAs view given (Ok x) = given ≡ Some (view x)
ReadsAs view given (Err fault) = FaultFits given fault
