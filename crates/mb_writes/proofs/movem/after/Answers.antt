use Rattle.std.proofs.Common.{sym, subst}
use Rattle.std.proofs.lemmas.List.{take_rest}
use Rattle.mb_writes.specs.Transfers.{AreTransfers}
use Rattle.mb_writes.proofs.Bits.{are_after}
use Rattle.mb_writes.proofs.movem.after.Goals as goal

pub returns-clause-value : goal.returns-clause-value
returns-clause-value c = take_rest c.args.transfers.now c.args.done

pub returns-clause-registers : goal.returns-clause-registers
returns-clause-registers c =
    subst AreTransfers (sym (take_rest c.args.transfers.now c.args.done)) (are_after c.args.done c.args.transfers.now c.requires.registers)
