-- What was saved is gone on from.
use Rattle.std.proofs.Common.{◌≡◌, ◌∙◌, [], ◌++◌, inl, refl, sym, ap, Option, Some}
use Rattle.std.specs.Prelude.{option_map}
use Rattle.mb_outside.specs.Sink.{Grows}
use Rattle.mb_words.specs.Words.{Text}
use Rattle.mb_program.specs.Saves.{save_shown}
use Rattle.mb_program.specs.TwoRuns.{SavedSessionsGoOn}

-- what grew from nothing is what came
all_that_came : (before after : Option Text) (text more : Text) → before ≡ Some [] → after ≡ Some text → Grows before after more → text ≡ more
all_that_came before after text more empty wrote grows =
    let is : Some text ≡ Some more = sym wrote ∙ grows ∙ ap (λ (o : Option Text). option_map (λ (taken : Text). taken ++ more) o) empty in
    let same : text ≡ more = cc in same

pub saved_sessions_go_on : SavedSessionsGoOn
saved_sessions_go_on p r s text first second first_diag second_diag status on saves resumes =
    let saved = saves.is_saved p s refl on.gets refl in
    let printed = (saves.saved p s refl on.gets saved.fits).printed (inl refl) in
    resumes.goes_on r text p.steps s.session refl on.told (record {
      saved = saved;
      written = all_that_came first.out.taken first.out_after.taken text (save_shown p.steps s.session).text on.empty on.wrote printed;
      few = on.few;
    })
