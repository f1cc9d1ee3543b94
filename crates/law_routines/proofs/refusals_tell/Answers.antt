use Rattle.std.proofs.Common.{inl, inr, ◌∙◌, sym}
use Rattle.law_routines.specs.Tree.{routine_of, tree_of}
use Rattle.law_routines.specs.Refusal.{together, refused}
use Rattle.law_routines.proofs.Told as told
use Rattle.law_routines.proofs.Probed as probed
use Rattle.law_routines.proofs.Trees.{run_tree}
use Rattle.law_routines.proofs.refusals_tell.Goals as goal

pub returns-clause-calls : goal.returns-clause-calls
returns-clause-calls g c = λ x before p h. record {
  a_fetch_tells = λ space at after k. told.tells_fetch h space at k;
  a_read_tells = λ space piece after k. told.tells_read h space piece k;
  a_write_tells = λ space piece value after k. told.tells_write h space piece value k;
  a_line_read_tells = λ space at after k. told.tells_read_line h space at k;
  a_line_write_tells = λ space at line after k. told.tells_write_line h space at line k;
  a_probe_tells = λ space piece after k. told.tells_probe h space piece k;
  a_faultless_call_ends = λ call after none k. told.ends_ask call h none k;
}

pub returns-clause-probed : goal.returns-clause-probed
returns-clause-probed g c = λ x inside p h opens. record {
  a_probe_opens = λ space piece may refused. probed.tells_probe_open h opens space piece may refused;
  an_open_get_ends = λ place free. probed.ends_get_open h opens place free;
  an_open_put_ends = λ place value free. probed.ends_put_open h opens place value free;
}

pub returns-clause-composed : goal.returns-clause-composed
returns-clause-composed g c = λ x before p mid after. record {
  an_answer_tells = λ b h. told.tells_ok b h;
  a_fault_tells = λ f. told.tells_err f;
  a_bind_tells = λ m f h more. told.tells_bind (routine_of m) (λ a. routine_of (f a)) h more;
  another_fault_tells = λ value m h. told.tells_failing value (routine_of m) h;
  a_caught_fault_tells = λ value m f h more. told.tells_caught (routine_of m) value (λ a. routine_of (f a)) h more;
  a_choice_tells = λ b m n h k. told.tells_choose b (routine_of m) (routine_of n) h k;
  a_result_tells = λ r f h. told.tells_tried r (λ a. routine_of (f a)) h;
  either_result_tells = λ r g f h k. told.tells_either r (λ e. routine_of (g e)) (λ a. routine_of (f a)) h k;
  what_follows_tells = λ m f h more. told.tells_after (routine_of m) (λ a. routine_of (f a)) h more;
  a_sure_answer_tells = λ m h. told.tells_sure (routine_of m) h;
  less_is_told = λ earlier q later m h b f a. told.tells_weaker (routine_of m) h b (λ rest t e. f t e) a;
  an_answer_ends = λ b h. told.ends_return b h;
  a_choice_ends = λ b m n h k. told.ends_choose b (routine_of m) (routine_of n) h k;
  what_follows_ends = λ m f h more. told.ends_then (routine_of m) (λ a. routine_of (f a)) h more;
}

pub returns-clause-followed : goal.returns-clause-followed
returns-clause-followed g c = λ r x permitted peer before p after h m tells s t q b.
    elim (told.follows h (routine_of m) tells s t q b) [
      | together same rel ↦ inl (same, rel)
      | refused rest now later there call e rel first denied says ends same goes ↦ inr
          (tree_of rest, now, later, there, e, rel, same, says, ends, goes ∙ sym (run_tree peer rest there))
    ]
