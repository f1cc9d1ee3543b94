use Rattle.std.proofs.Common.{◌≡◌, ◌∙◌, ◌++◌, [], ap, sym, subst, arith}
use Rattle.std.specs.Prelude.{◌≤◌, length}
use Rattle.std.proofs.lemmas.Result.{err_from_is_err_and}
use Rattle.mb_outside.proofs.PrintLemmas.{part_more}
use Rattle.mb_outside.specs.Prints.{Prints}
use Rattle.def_machine.specs.Machine.{Machine}
use Rattle.mb_model.specs.Seen.{seen_of}
use Rattle.def_guests.specs.Seats.{machine_on}
use Rattle.vm_debug.specs.Boards.{course_of, debugging_of}
use Rattle.vm_debug.specs.Debugs.{printed}
use Rattle.mb_words.specs.Words.{Text}
use Rattle.mb_program.specs.Headline.{machine_text}
use Rattle.mb_program.specs.Lone.{end_of, scene_of}
use Rattle.mb_program.proofs.DebugLemmas.{small_so}
use Rattle.mb_program.proofs.MachineLemmas.{text_at}
use Rattle.mb_ends.proofs.TextLemmas.{printed_before}
use Rattle.mb_program.proofs.debugged.LoneGuest.debug.Goals as goal

pub returns-in_err-run_commands-clause-prints : goal.returns-in_err-run_commands-clause-prints
returns-in_err-run_commands-clause-prints g c =
    let s = scene_of c.args.self.now c.args.native.now in
    let p = err_from_is_err_and c.from_residual.result c.from_residual.ensures.1 in
    rw p.1 (part_more (machine_text c.args.number (course_of s (end_of s c.args.self.now.bound c.args.commands.now)))
    (rw c.new-debugger.ensures at c.in_err-run_commands.ensures.prints))

pub write_machine-requires : goal.write_machine-requires
write_machine-requires g c =
    let ram = c.run_commands.new.board.world.ram in
    let size = c.size-size.ensures.size in
    let small : length ram ≤ 4294967296 = omega (arith, size) in
    small_so (seen_of c.outcome-outcome.result) c.run_commands.new.guest ram c.outcome-outcome.ensures
    c.in_ok-run_commands.ensures.does.takes.seated.inside small

pub returns-clause-prints : goal.returns-clause-prints
returns-clause-prints g c =
    let s = scene_of c.args.self.now c.args.native.now in
    let orders = c.args.commands.now in
    let bound = c.args.self.now.bound in
    let does = rw c.new-debugger.ensures at c.in_ok-run_commands.ensures.does in
    let first = rw c.new-debugger.ensures at c.in_ok-run_commands.ensures.prints in
    let m = machine_on c.run_commands.new.guest c.run_commands.new.board.world.ram in
    let shown = text_at c.args.number m (seen_of c.outcome-outcome.result) c.devices.result.now _ (sym c.outcome-outcome.ensures)
    (sym c.devices.ensures) c.disk.ensures in
    let there : m ≡ course_of s (end_of s bound orders) = does.machine in
    subst (λ (text : Text). Prints (g.O.Sink.taken c.args.out.now) (g.O.Sink.taken c.write_machine.new.out) (g.O.Sink.faults c.args.out.now)
    (g.O.Sink.faults c.write_machine.new.out) (printed (course_of s) bound orders (debugging_of s []) ++ text) c.write_machine.result)
    (shown ∙ ap (λ (x : Machine). machine_text c.args.number x) there)
    (printed_before c.write_machine.result _ _ _ _ _ _ (printed (course_of s) bound orders (debugging_of s [])) _ first c.write_machine.ensures)
