use Rattle.std.proofs.Common.{◌≡◌, arith}
use Rattle.std.proofs.lemmas.Grind.{common_steps}
use Rattle.mb_writes.specs.Writing.{parts_of}
use Rattle.mb_writes.proofs.Pending.{parts_are}
use Rattle.mb_writes.proofs.writing.parts.Goals as goal

pub returns-clause-pending : goal.returns-clause-pending
returns-clause-pending c =
    let e : c.loop-piece.pending.items ≡ parts_of c.args.pieces.now c.args.len c.args.value = grind (arith, common_steps) in
    parts_are c.args.pieces.now c.args.len c.args.value c.loop-piece.pending.items c.requires.aligned e
