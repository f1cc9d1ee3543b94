use Rattle.std.proofs.Common.{rules, tests, arith}
use Rattle.std.specs.Prelude.{not}
use Rattle.std.proofs.lemmas.Iterator.{YieldsList-from_slice}
use Rattle.std.proofs.lemmas.Iterator.Search.{all_from_yields_List}
use Rattle.std.proofs.lemmas.Bool.Decides.{nat_tests}
use Rattle.mb_script.specs.Words.{is_space}
use Rattle.vm_debug.proofs.command_line.is_word.Goals as goal

pub returns-then-not-is_empty : goal.returns-then-not-is_empty
returns-then-not-is_empty c =
    let all = all_from_yields_List (λ character. not (is_space character)) _ _ c.all.result c.all.ensures.ran (YieldsList-from_slice c.args.characters.now cc)
    (λ x b q k. search (rules, tests)) in
    grind (arith, nat_tests)
