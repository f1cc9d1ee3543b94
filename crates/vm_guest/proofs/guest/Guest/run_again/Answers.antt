use Rattle.std.proofs.Common.{◌≡◌, ◌∙◌, ◌+◌, ℕ, suc, refl, ap, sym, subst, arith}
use Rattle.mb_instr.specs.Registers.{plain_of}
use Rattle.mb_model.specs.declared.processor.Cpu.{Cpu}
use Rattle.mb_board.specs.State.{ran_to}
use Rattle.def_runs.specs.declared.RunEnd.TheVariants.{Exit}
use Rattle.def_runs.specs.Native.{Ran}
use Rattle.def_guests.specs.Seats.{Seat, Takes}
use Rattle.law_turns.specs.Taking.{settled, site_of}
use Rattle.vm_guest.specs.Stops.{BeginsAgain}
use Rattle.vm_guest.specs.Turns.{scene}
use Rattle.vm_guest.proofs.Runs.{MayRunOn, counted_native, counted_set, never_gone}
use Rattle.vm_guest.proofs.Stops.{counted_ready, from, resumes, again_takes, again_stopped, left_counts}
use Rattle.vm_guest.proofs.guest.Guest.run_again.Goals.{After-run_board}
use Rattle.vm_guest.proofs.guest.Guest.run_again.Goals as goal

-- the turn in which the step begins again
abbrev Again : After-run_board → Type 0
Again c = BeginsAgain c.args.self.now c.args.board.now c.args.native.now

-- the guest before that step
abbrev start : (c : After-run_board) → Again c → Seat
start c w =
    from w.guest c.args.self.now w.ram c.args.board.now w.native c.args.native.now w.taken (suc w.refills) w.underway w.midway

abbrev ended : After-run_board → Ran
ended c = ran_to c.run_board.result c.run_board.new.board c.run_board.new.native

may : (c : After-run_board) (w : Again c) → MayRunOn (start c w) c.args.board.now c.args.native.now 0
may c w =
    let ran = c.run_board.ensures in
    resumes w.guest c.args.self.now w.ram c.args.board.now w.native c.args.native.now w.taken (suc w.refills) w.underway w.midway
    w.seated w.ready ran.bytes.0 ran.bytes.1 ran.seven ran.fit

pub unreachable-requires : goal.unreachable-requires
unreachable-requires c =
    let r = (goal.at.unreachable-requires c).After-run_board in
    let w = c.requires.again in
    never_gone (start r w) c.args.board.now c.args.native.now 0 (may r w) (ended r) c.run_board.ensures.means
    c.in-Gone.is

-- ---- carried out

pub returns-in-Counted-clause-takes : goal.returns-in-Counted-clause-takes
returns-in-Counted-clause-takes c = λ none w.
    let r = (goal.at.returns-in-Counted-clause-takes c).After-run_board in
    subst (λ (s : Seat). Takes (w.taken + 1) (scene w.guest w.ram w.native) (scene s c.run_board.new.board.world.ram c.run_board.new.native))
    (sym (c.settle.ensures ∙ ap settled c.count_refilled.ensures))
    (again_takes w.guest c.args.self.now w.ram c.args.board.now w.native c.args.native.now w.taken (suc w.refills) w.underway w.midway
    (may r w) c.go_on.new.self (ended r) c.plain.result w.refills refl c.run_board.ensures.means c.in-Counted.is
    c.run_board.ensures.wide (c.plain.ensures.means ∙ ap (λ (p : Cpu). plain_of p.regs) c.cpu.ensures) c.go_on.ensures)

pub returns-in-Counted-clause-native : goal.returns-in-Counted-clause-native
returns-in-Counted-clause-native c =
    let r = (goal.at.returns-in-Counted-clause-native c).After-run_board in
    let w = c.requires.again in
    let counts = counted_native (start r w) c.args.board.now c.args.native.now 0 (may r w) (ended r)
    c.run_board.ensures.means c.in-Counted.is in
    let retired : c.run_board.new.native.retired ≡ c.args.native.now.retired + 1 = counts.0 in
    let exceptions : c.run_board.new.native.exceptions ≡ c.args.native.now.exceptions = counts.1 in
    (omega (arith, retired), omega (arith, exceptions))

pub returns-in-Counted-clause-ready : goal.returns-in-Counted-clause-ready
returns-in-Counted-clause-ready c = λ none.
    let r = (goal.at.returns-in-Counted-clause-ready c).After-run_board in
    let w = c.requires.again in
    counted_ready c.args.self.now c.settle.new.self c.run_board.new.board c.plain.result
    (ap site_of c.settle.ensures ∙ ap site_of c.count_refilled.ensures ∙ ap site_of c.go_on.ensures)
    (counted_set (start r w) c.args.board.now c.args.native.now 0 (may r w) (ended r) c.run_board.ensures.means c.in-Counted.is)
    (c.run_board.ensures.goes c.in-Counted.is)

-- ---- left once more

pub returns-in-Exit-clause-left : goal.returns-in-Exit-clause-left
returns-in-Exit-clause-left c = λ w.
    let r = (goal.at.returns-in-Exit-clause-left c).After-run_board in
    again_stopped w.guest c.args.self.now w.ram c.args.board.now w.native c.args.native.now w.taken (suc w.refills) w.underway w.midway
    (may r w) c.run_board.result c.run_board.new.board c.run_board.new.native c.in-Exit.vector c.run_board.ensures.means
    c.in-Exit.is c.run_board.ensures.wide

counts : (c : After-run_board) (v : ℕ) → c.run_board.result ≡ Exit v → (c.run_board.new.native.retired ≡ c.args.native.now.retired)
    × (c.run_board.new.native.exceptions ≡ c.args.native.now.exceptions + 1)
counts c v ends =
    let w = c.requires.again in
    left_counts w.guest c.args.self.now w.ram c.args.board.now w.native c.args.native.now w.taken (suc w.refills) w.underway w.midway
    (may c w) c.run_board.result c.run_board.new.board c.run_board.new.native v c.run_board.ensures.means ends
    c.run_board.ensures.wide

pub returns-in-Exit-clause-native : goal.returns-in-Exit-clause-native
returns-in-Exit-clause-native c =
    let both = counts (goal.at.returns-in-Exit-clause-native c).After-run_board c.in-Exit.vector c.in-Exit.is in
    let retired = both.0 in
    let exceptions = both.1 in
    (omega (arith, retired), omega (arith, exceptions))

pub returns-in-Exit-clause-retired : goal.returns-in-Exit-clause-retired
returns-in-Exit-clause-retired c =
    (counts (goal.at.returns-in-Exit-clause-retired c).After-run_board c.in-Exit.vector c.in-Exit.is).0
