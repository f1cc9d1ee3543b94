use Rattle.std.proofs.Common.{◌≡◌, length, sym, subst, arith}
use Rattle.std.proofs.lemmas.Bool.Decides.{nat_tests}
use Rattle.std.proofs.lemmas.List.{nil_from_length}
use Rattle.vm_guest.specs.Turns.{scene}
use Rattle.vm_debug.specs.Debugs.{going_on}
use Rattle.vm_debug.specs.Boards.{course_of, HasCome}
use Rattle.vm_debug.proofs.OnBoards.{goes_at_once}
use Rattle.vm_debug.proofs.debugger.Debugger.go.Goals as goal

pub returns-then-is_empty-clause-takes : goal.returns-then-is_empty-clause-takes
returns-then-is_empty-clause-takes c =
    let breaks = c.args.self.now in
    let none : length breaks ≡ 0 = grind (arith, nat_tests) in
    let s = scene c.args.guest.now c.args.board.now.world.ram c.args.native.now in
    let after = scene c.turn.new.self c.turn.new.board.world.ram c.turn.new.native in
    subst (λ b. HasCome s (going_on (course_of s) b s.guest.steps c.args.limit) after) (sym (nil_from_length breaks none))
    (goes_at_once c.args.limit s after c.turn.ensures.takes)
