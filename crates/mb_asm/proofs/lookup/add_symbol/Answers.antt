use Rattle.std.proofs.Common.{◌≡◌, false, is_some, arith}
use Rattle.std.proofs.lemmas.Grind.{common_steps}
use Rattle.std.specs.HashMap.{get}
use Rattle.mb_asm.proofs.Lookups.{added, same_name}
use Rattle.mb_asm.proofs.lookup.add_symbol.Goals as goal

pub returns-in_ok-insert : goal.returns-in_ok-insert
returns-in_ok-insert c =
    let absent : is_some (get same_name c.args.symbols.now c.args.name) ≡ false = grind (arith, common_steps) in
    added c.args.symbols.now c.insert.new.self c.args.name c.args.value absent c.in_ok-insert.ensures.entries
