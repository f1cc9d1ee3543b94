use Rattle.std.proofs.Common.{◌∷◌, []}
use Rattle.std.proofs.lemmas.Result.{on_ok_weaker}
use Rattle.mb_script.specs.declared.input.Input.TheVariants.{Abort}
use Rattle.mb_script.specs.Runs.{kept}
use Rattle.mb_script.proofs.Order.{in_order_after}
use Rattle.mb_script.proofs.script_reading.push_due.Goals as goal

pub returns-in-Spelled-clause-in_order : goal.returns-in-Spelled-clause-in_order
returns-in-Spelled-clause-in_order c =
    on_ok_weaker c.push_bytes.result
    (in_order_after c.args.step _ (kept c.args.runs.now) (kept c.push_bytes.new.self) c.requires.from_one c.requires.in_order)
    c.push_bytes.ensures.entries

pub returns-in-Text-clause-in_order : goal.returns-in-Text-clause-in_order
returns-in-Text-clause-in_order c =
    on_ok_weaker c.push_bytes-in-Text.result
    (in_order_after c.args.step _ (kept c.args.runs.now) (kept c.push_bytes-in-Text.new.self) c.requires.from_one c.requires.in_order)
    c.push_bytes-in-Text.ensures.entries

pub returns-in-WithLineFeed-clause-in_order : goal.returns-in-WithLineFeed-clause-in_order
returns-in-WithLineFeed-clause-in_order c =
    on_ok_weaker c.push_bytes-in-WithLineFeed.result
    (in_order_after c.args.step _ (kept c.args.runs.now) (kept c.push_bytes-in-WithLineFeed.new.self) c.requires.from_one c.requires.in_order)
    c.push_bytes-in-WithLineFeed.ensures.entries

pub returns-in-Abort-clause-in_order : goal.returns-in-Abort-clause-in_order
returns-in-Abort-clause-in_order c =
    on_ok_weaker c.push_abort.result
    (in_order_after c.args.step (Abort ∷ []) (kept c.args.runs.now) (kept c.push_abort.new.self) c.requires.from_one c.requires.in_order)
    c.push_abort.ensures.entries
