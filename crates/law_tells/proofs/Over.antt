-- What is left, over any bus.
use Rattle.std.specs.Prelude.{◌≡◌, refl}
use Rattle.std.proofs.Common.{ap, ◌∙◌}
use Rattle.mb_port.specs.Routine.{Bus, run}
use Rattle.law_routines.specs.Tree.{Tree, routine_of}
use Rattle.law_tells.specs.Left.{Resumes, here, later}

pub resumed_over : {S A : Type 0} (bus : Bus S) (s : S) {whole rest : Tree A} → Resumes (λ c answer. bus c s ≡ (answer, s)) whole rest
    → run bus (routine_of whole) s ≡ run bus (routine_of rest) s
resumed_over bus s here = refl
resumed_over bus s (later c answer {next} e more) = ap (λ r. run bus (routine_of (next (r.0))) (r.1)) e ∙ resumed_over bus s more
