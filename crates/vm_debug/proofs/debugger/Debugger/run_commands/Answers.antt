use Rattle.std.proofs.Common.{◌≡◌, suc, drop, get_or}
use Rattle.std.proofs.lemmas.Result.{err_from_is_err_and}
use Rattle.vm_guest.specs.Turns.{scene}
use Rattle.vm_debug.specs.declared.command.Command.TheVariants.{Step}
use Rattle.vm_debug.proofs.Carried.{carried_none, carried_more, cut_at, part_of_all, up_to_one, with_others}
use Rattle.vm_debug.proofs.debugger.Debugger.run_commands.Goals as goal

pub carry_out-requires-clause-seated : goal.carry_out-requires-clause-seated
carry_out-requires-clause-seated g c = c.loop-command.invariant.does.takes.seated

pub loop-command-init : goal.loop-command-init
loop-command-init g c =
    carried_none c.args.bound (scene c.args.guest.now c.args.board.now.world.ram c.args.native.now) c.args.self.now
    (g.O.Sink.taken c.args.out.now) (g.O.Sink.faults c.args.out.now) c.requires.bound c.requires.seated

pub loop-command-preserved : goal.loop-command-preserved
loop-command-preserved g c =
    let s = scene c.args.guest.now c.args.board.now.world.ram c.args.native.now in
    let items = c.deref-command-items.result.now in
    let i = c.loop-command.command-index in
    let command = get_or items i (Step 0) in
    let same : c.args.commands.now ≡ items = cc in
    let done = c.in_ok-carry_out.ensures in
    rw (same, up_to_one items i (Step 0) c.loop-command-test.true)
    (carried_more command {s = s} c.requires.bound (rw same at c.loop-command.invariant) done.does done.prints done.few done.native)

pub returns-in_err-carry_out-clause-prints : goal.returns-in_err-carry_out-clause-prints
returns-in_err-carry_out-clause-prints g c =
    let s = scene c.args.guest.now c.args.board.now.world.ram c.args.native.now in
    let u = scene c.carry_out.new.guest c.carry_out.new.board.world.ram c.carry_out.new.native in
    let items = c.deref-command-items.result.now in
    let i = c.loop-command.command-index in
    let command = get_or items i (Step 0) in
    let same : c.args.commands.now ≡ items = cc in
    let done = c.in_err-carry_out.ensures in
    let fault = err_from_is_err_and c.from_residual.result c.from_residual.ensures.1 in
    rw (fault.1, same, with_others items i (Step 0) c.loop-command-test.true)
    (part_of_all command (drop (suc i) items) {s = s} {u = u} c.requires.bound (rw same at c.loop-command.invariant) done.does done.prints)

pub returns-in_err-carry_out-clause-cut : goal.returns-in_err-carry_out-clause-cut
returns-in_err-carry_out-clause-cut g c =
    let s = scene c.args.guest.now c.args.board.now.world.ram c.args.native.now in
    let u = scene c.carry_out.new.guest c.carry_out.new.board.world.ram c.carry_out.new.native in
    let items = c.deref-command-items.result.now in
    let i = c.loop-command.command-index in
    let command = get_or items i (Step 0) in
    let same : c.args.commands.now ≡ items = cc in
    let done = c.in_err-carry_out.ensures in
    let fault = err_from_is_err_and c.from_residual.result c.from_residual.ensures.1 in
    rw (fault.1, same, with_others items i (Step 0) c.loop-command-test.true)
    (cut_at command (drop (suc i) items) {s = s} {u = u} c.requires.bound (rw same at c.loop-command.invariant) done.does done.prints)
