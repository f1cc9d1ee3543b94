use Rattle.std.proofs.Common.{◌≡◌, ◌∙◌, ◌==◌, map, false, ap, sym, arith, rules}
use Rattle.std.specs.Prelude.{Result, Ok}
use Rattle.std.proofs.lemmas.Bool.Decides.{nat_tests}
use Rattle.mb_lines.specs.Results.{◌>>=◌}
use Rattle.mb_script.specs.declared.fault.LineWhy.{LineWhy}
use Rattle.mb_script.specs.Answers.{bytes_said, guest_said}
use Rattle.mb_script.specs.Plan.{Guest}
use Rattle.mb_script.specs.Sessions.{guest_of, unless_sixteen, words_of}
use Rattle.mb_script.proofs.Disks.{few}
use Rattle.mb_script.proofs.Enough.{guest_by_six}
use Rattle.mb_script.proofs.session_line.guest.Goals as goal

pub returns-clause-given : goal.returns-clause-given
returns-clause-given c =
    let read : guest_of (words_of c.args.line.now) ≡ Ok (guest_said c.in_ok-guest.guest) =
    sym (guest_by_six (words_of c.args.line.now)) ∙ ap guest_of (sym c.in_ok-words.ensures)
    ∙ ap (λ ws. guest_of (map bytes_said ws)) (sym c.deref.ensures.value) ∙ c.in_ok-guest.ensures.given in
    let less : (c.args.count == 16) ≡ false = first_of (search rules, grind (arith, nat_tests)) in
    ap (λ (r : Result Guest LineWhy). r >>= unless_sixteen c.args.count) read ∙ few (c.args.count == 16) (guest_said c.in_ok-guest.guest) less
