use Rattle.std.proofs.Common.{◌≡◌, ◌∙◌, ap, sym, map, string_bytes, true}
use Rattle.clap.specs.Words.{App, app_of, is_simple, matches_of, found_of, rows_of}
use Rattle.clap.specs.Faults.{fault_of, is_simple_and_free}
use Rattle.mb_forms.specs.Forms.{dashes_ok}
use Rattle.mb_forms.specs.Said.{form_said}
use Rattle.mb_forms.proofs.Whole.{refused_dash, form_is_simple, form_is_free}
use Rattle.mb_forms.proofs.Parsed.{Matched, matched, given_kept, rows_kept, err_fits}
use Rattle.mb_forms.proofs.parsing.parse.Goals as goal

found : (c : goal.In-Ok-try_get_matches_from)
    → Matched (form_said c.args.form.now) (map string_bytes c.args.words.now) (rows_of (found_of c.in-Ok-try_get_matches_from.matches))
found c =
    let form = form_said c.args.form.now in
    let few = c.in-Ok.ensures.few in
    let words = map string_bytes c.args.words.now in
    let app_is = c.in-Ok.ensures.made in
    let parsed = c.in-Ok-try_get_matches_from.ensures in
    let none = ap (λ (a : App). fault_of a words) (sym app_is) ∙ parsed.kinds (ap is_simple_and_free app_is ∙ form_is_free form few) in
    let rows = (parsed.matches (ap is_simple app_is ∙ form_is_simple form few)).0 ∙ ap (λ (a : App). matches_of a words) app_is in
    matched form words _ few (sym c.dashes_ok.ensures ∙ c.if-not-dashes_ok.false) none rows

pub returns-then-not-dashes_ok : goal.returns-then-not-dashes_ok
returns-then-not-dashes_ok c = record {
  reads = refused_dash (form_said c.args.form.now) (map string_bytes c.args.words.now) (sym c.dashes_ok.ensures ∙ c.if-not-dashes_ok.true);
}

pub invariant_of-result : goal.invariant_of-result
invariant_of-result c = rows_kept _ _ _ (found c)

pub returns-in-Ok-try_get_matches_from : goal.returns-in-Ok-try_get_matches_from
returns-in-Ok-try_get_matches_from c = record { reads = given_kept _ _ _ (found c) }

pub returns-in-Err : goal.returns-in-Err
returns-in-Err c = record {
  reads =
      let form = form_said c.args.form.now in
      let few = c.in-Ok.ensures.few in
      let words = map string_bytes c.args.words.now in
      let ok : dashes_ok words ≡ true = sym c.dashes_ok.ensures ∙ c.if-not-dashes_ok.false in
      let app_is = c.in-Ok.ensures.made in
      let parsed = c.in-Err.ensures in
      err_fits form words (app_of c.in-Ok.command) _ c.fault_of.result few app_is ok
      (λ f memory. c.fault_of.ensures f (c.kind.ensures ∙ memory)) (parsed.kinds (ap is_simple_and_free app_is ∙ form_is_free form few));
}
