use Rattle.std.proofs.Common.{◌≡◌, ◌∙◌, ◌⊎◌, ℕ, suc, ◌+◌, ◌<◌, ◌≤◌, Bool, cond, Option, Some, None, IfSome, refl, ap, sym, subst, inl, inr, arith}
use Rattle.mb_model.specs.Status.{space_of}
use Rattle.mb_board.specs.State.{BoardState}
use Rattle.def_guests.specs.Guests.{Guest}
use Rattle.def_guests.specs.Refills.{refilled_at}
use Rattle.def_guests.specs.declared.limits.TheConstants.{MOST_REFILLS}
use Rattle.def_guests.specs.Turns.{Tally, steps_in, bus_side}
use Rattle.def_guests.specs.Seats.{Seat, guested_on}
use Rattle.law_turns.specs.Reads.{read_by_frame}
use Rattle.vm_guest.specs.Native.{IsFrameOf}
use Rattle.vm_guest.specs.Stops.{BeginsAgain, IsStopped, Stopped}
use Rattle.vm_guest.proofs.Stops.{again_of, lawful_of, stays_ready}
use Rattle.vm_guest.proofs.guest.Guest.end_step.Goals.{then-loop-refills-test+else-refill, else-loop-refills-test}
use Rattle.vm_guest.proofs.guest.Guest.end_step.Goals.{After-frame-2-1, In-Some}
use Rattle.vm_guest.proofs.guest.Guest.end_step.Goals as goal

pub loop-refills-init : goal.loop-refills-init
loop-refills-init c = record {
  few = omega arith;
  stopped = λ w. w.is;
  reads = c.frame_on-frame.ensures;
  tally = refl;
  steps = refl;
  retired = refl;
  exceptions = omega arith;
}

pub refill-requires : goal.refill-requires
refill-requires c =
    let same = c.loop-refills.invariant.steps in
    let counted = c.requires.counted in record {
      begun = omega (arith, same, counted);
      seated = (c.loop-refills.invariant.stopped c.requires.stopped).seated;
    }

-- ---- once more

once_more : (n : ℕ) → n < 31 → suc n ≤ MOST_REFILLS
once_more n less = omega (arith, less)

abbrev found : Guest → Bool → Option Guest
found h b = cond b (Some h) None

pub run_again-requires-clause-again : goal.run_again-requires-clause-again
run_again-requires-clause-again c =
    let w = c.requires.stopped in
    again_of w.guest c.loop-refills.self c.refill.new.self w.ram w.native w.taken c.loop-refills.refills c.loop-refills.board c.loop-refills.native
    c.loop-refills.vector c.loop-refills.frame c.refill.new.ram (c.loop-refills.invariant.stopped w)
    (once_more c.loop-refills.refills c.loop-refills-test.true)
    c.loop-refills.invariant.reads c.refill.ensures.fine
    (c.refill.ensures.reads ∙ ap (found (bus_side (guested_on c.refill.new.self c.refill.new.ram.world.ram))) c.if-refill.true) c.refill.ensures.guest
    c.refill.ensures.seated c.refill.ensures.within c.refill.ensures.rest

pub run_again-requires-clause-counted : goal.run_again-requires-clause-counted
run_again-requires-clause-counted c =
    let tally = ap (λ (s : Seat). s.tally) c.refill.ensures.guest ∙ c.loop-refills.invariant.tally in
    let steps = ap (λ (s : Seat). s.steps) c.refill.ensures.guest ∙ c.loop-refills.invariant.steps in
    let counted = c.requires.counted in
    subst (λ (t : Tally). steps_in t < c.refill.new.self.steps) (sym tally) (omega (arith, steps, counted))

pub run_again-requires-clause-refilled : goal.run_again-requires-clause-refilled
run_again-requires-clause-refilled c =
    let tally = ap (λ (s : Seat). s.tally) c.refill.ensures.guest ∙ c.loop-refills.invariant.tally in
    subst (λ (t : Tally). t.refilled ≤ t.retired) (sym tally) c.requires.refilled

pub run_again-requires-clause-room : goal.run_again-requires-clause-room
run_again-requires-clause-room c =
    let steps = ap (λ (s : Seat). s.steps) c.refill.ensures.guest ∙ c.loop-refills.invariant.steps in
    let room = c.requires.room in
    omega (arith, steps, room)

pub run_again-requires-clause-native : goal.run_again-requires-clause-native
run_again-requires-clause-native c =
    let retired = c.loop-refills.invariant.retired in
    let exceptions = c.loop-refills.invariant.exceptions in
    let less = c.loop-refills-test.true in
    let a = c.requires.native.0 in
    let b = c.requires.native.1 in
    (omega (arith, retired, a), omega (arith, exceptions, less, b))

pub returns-in_default-clause-takes : goal.returns-in_default-clause-takes
returns-in_default-clause-takes c = λ w.
    c.run_again.ensures.takes c.in_default.is
    (again_of w.guest c.loop-refills.self c.refill.new.self w.ram w.native w.taken c.loop-refills.refills c.loop-refills.board c.loop-refills.native
    c.loop-refills.vector c.loop-refills.frame c.refill.new.ram (c.loop-refills.invariant.stopped w)
    (once_more c.loop-refills.refills c.loop-refills-test.true)
    c.loop-refills.invariant.reads c.refill.ensures.fine
    (c.refill.ensures.reads ∙ ap (found (bus_side (guested_on c.refill.new.self c.refill.new.ram.world.ram))) c.if-refill.true) c.refill.ensures.guest
    c.refill.ensures.seated c.refill.ensures.within c.refill.ensures.rest)

pub returns-in_default-clause-ready : goal.returns-in_default-clause-ready
returns-in_default-clause-ready c = λ so. c.run_again.ensures.ready c.in_default.is

pub returns-in_default-clause-steps : goal.returns-in_default-clause-steps
returns-in_default-clause-steps c =
    c.run_again.ensures.steps ∙ ap (λ (s : Seat). s.steps) c.refill.ensures.guest ∙ c.loop-refills.invariant.steps

pub returns-in_default-clause-native : goal.returns-in_default-clause-native
returns-in_default-clause-native c =
    let retired = c.loop-refills.invariant.retired in
    let exceptions = c.loop-refills.invariant.exceptions in
    let less = c.loop-refills-test.true in
    let a = c.run_again.ensures.native.0 in
    let b = c.run_again.ensures.native.1 in
    (omega (arith, retired, a), omega (arith, exceptions, less, b))

-- ---- left once more

left : (c : In-Some) (b : BeginsAgain c.refill.new.self c.refill.new.ram c.loop-refills.native)
    → IsStopped b.guest b.ram b.native b.taken (suc b.refills) c.run_again.new.self c.run_again.new.board c.run_again.new.native c.in-Some.next
left c =
    subst (λ (o : Option ℕ). IfSome o (λ (v : ℕ). (b : BeginsAgain c.refill.new.self c.refill.new.ram c.loop-refills.native)
    → IsStopped b.guest b.ram b.native b.taken (suc b.refills) c.run_again.new.self c.run_again.new.board c.run_again.new.native v)) c.in-Some.is
    c.run_again.ensures.left

still : (c : In-Some) → c.run_again.new.self ≡ c.refill.new.self
still c = subst (λ (o : Option ℕ). IfSome o (λ (v : ℕ). c.run_again.new.self ≡ c.refill.new.self)) c.in-Some.is c.run_again.ensures.still

retired_still : (c : In-Some) → c.run_again.new.native.retired ≡ c.loop-refills.native.retired
retired_still c =
    subst (λ (o : Option ℕ). IfSome o (λ (v : ℕ). c.run_again.new.native.retired ≡ c.loop-refills.native.retired)) c.in-Some.is
    c.run_again.ensures.retired

stopped : (c : In-Some) (w : Stopped c.args.self.now c.args.board.now c.args.native.now c.args.first)
    → IsStopped w.guest w.ram w.native w.taken (suc c.loop-refills.refills) c.run_again.new.self c.run_again.new.board c.run_again.new.native c.in-Some.next
stopped c w =
    left c
    (again_of w.guest c.loop-refills.self c.refill.new.self w.ram w.native w.taken c.loop-refills.refills c.loop-refills.board c.loop-refills.native
    c.loop-refills.vector c.loop-refills.frame c.refill.new.ram (c.loop-refills.invariant.stopped w)
    (once_more c.loop-refills.refills c.loop-refills-test.true)
    c.loop-refills.invariant.reads c.refill.ensures.fine
    (c.refill.ensures.reads ∙ ap (found (bus_side (guested_on c.refill.new.self c.refill.new.ram.world.ram))) c.if-refill.true) c.refill.ensures.guest
    c.refill.ensures.seated c.refill.ensures.within c.refill.ensures.rest)

pub frame_on-frame-requires-in-loop-refills : goal.frame_on-frame-requires-in-loop-refills
frame_on-frame-requires-in-loop-refills c =
    record { frame = (stopped (goal.at.frame_on-frame-requires-in-loop-refills c).In-Some c.requires.stopped).frame }

pub loop-refills-preserved : goal.loop-refills-preserved
loop-refills-preserved c =
    let s = (goal.at.loop-refills-preserved c).In-Some in
    let less = c.loop-refills-test.true in
    let more : suc c.loop-refills.refills ≡ c.loop-refills.refills + 1 = omega arith in
    let exceptions = c.loop-refills.invariant.exceptions in
    let again = c.run_again.ensures.native.1 in
    record {
      few = omega (arith, less);
      stopped = λ w.
          subst (λ (n : ℕ). IsStopped w.guest w.ram w.native w.taken n c.run_again.new.self c.run_again.new.board c.run_again.new.native c.in-Some.next) more
          (stopped s w);
      reads = c.frame_on-frame-in-loop-refills.ensures;
      tally = ap (λ (x : Seat). x.tally) (still s ∙ c.refill.ensures.guest) ∙ c.loop-refills.invariant.tally;
      steps = ap (λ (x : Seat). x.steps) (still s ∙ c.refill.ensures.guest) ∙ c.loop-refills.invariant.steps;
      retired = retired_still s ∙ c.loop-refills.invariant.retired;
      exceptions = omega (arith, exceptions, again);
    }

-- ---- what is left of it is carried out

-- the guest, and the board, when it does not begin once more
record Last (c : After-frame-2-1) (s : Seat) (b : BoardState) : Type 0 where
  pub stopped : (w : Stopped c.args.self.now c.args.board.now c.args.native.now c.args.first)
      → IsStopped w.guest w.ram w.native w.taken c.loop-refills.refills s b c.loop-refills.native c.loop-refills.vector
  pub reads : IsFrameOf b c.loop-refills.frame
  pub end : (c.loop-refills.refills ≡ MOST_REFILLS)
      ⊎ (refilled_at (bus_side (guested_on s b.world.ram)) (read_by_frame (space_of s.cpu) c.loop-refills.frame) ≡ None)
  pub tally : s.tally ≡ c.args.self.now.tally
  pub steps : s.steps ≡ c.args.self.now.steps

last : (c : After-frame-2-1) → Last c c.loop-refills-test.self c.loop-refills-test.board
last c =
    let l = c.loop-refills in
    let of : (l.refills ≡ MOST_REFILLS)
    ⊎ (refilled_at (bus_side (guested_on l.self l.board.world.ram)) (read_by_frame (space_of l.self.cpu) l.frame) ≡ None) → Last c l.self l.board =
    λ end. record {
      stopped = l.invariant.stopped;
      reads = l.invariant.reads;
      end = end;
      tally = l.invariant.tally;
      steps = l.invariant.steps;
    } in
    let to : l.self ≡ c.loop-refills-test.self → l.board ≡ c.loop-refills-test.board → Last c l.self l.board
    → Last c c.loop-refills-test.self c.loop-refills-test.board =
    λ self board x. subst (λ (s : Seat). Last c s c.loop-refills-test.board) self (subst (λ (b : BoardState). Last c l.self b) board x) in
    elim c.loop-refills-test.branch [
      | then-loop-refills-test+else-refill w ↦
          let found : Bool → Option Guest = λ b. cond b (Some (bus_side (guested_on w.refill.new.self w.refill.new.ram.world.ram))) None in
          let same = w.refill.ensures.still w.if-refill.false in
          to (sym (w.self-is ∙ same.0)) (sym (w.board-is ∙ same.1)) (of (inr (w.refill.ensures.reads ∙ ap found w.if-refill.false)))
      | else-loop-refills-test w ↦
          let few = l.invariant.few in
          let all = w.loop-refills-test.false in
          let full : l.refills ≡ MOST_REFILLS = omega (arith, few, all) in to (sym w.self-is) (sym w.board-is) (of (inl full))
    ]

pub leave-requires-clause-counted : goal.leave-requires-clause-counted
leave-requires-clause-counted c =
    let l = last c in
    let steps = l.steps in
    let counted = c.requires.counted in
    subst (λ (t : Tally). steps_in t < c.loop-refills-test.self.steps) (sym l.tally) (omega (arith, steps, counted))

pub leave-requires-clause-lawful : goal.leave-requires-clause-lawful
leave-requires-clause-lawful c =
    let l = last c in lawful_of c.loop-refills-test.board c.loop-refills.frame (l.stopped c.requires.stopped).frame l.reads

pub leave-requires-clause-seated : goal.leave-requires-clause-seated
leave-requires-clause-seated c = ((last c).stopped c.requires.stopped).seated

pub returns-clause-takes : goal.returns-clause-takes
returns-clause-takes c = λ w.
    let l = last (goal.at.returns-clause-takes c).After-frame-2-1 in
    let after = c.leave.ensures in
    (l.stopped w).turn c.loop-refills.frame l.reads l.end c.leave.new.self c.leave.new.board.world.ram after.means after.tally after.same after.seated
    after.within

pub returns-clause-ready : goal.returns-clause-ready
returns-clause-ready c = λ so.
    let l = last (goal.at.returns-clause-ready c).After-frame-2-1 in
    let after = c.leave.ensures in
    let stopped = l.stopped c.requires.stopped in
    stays_ready c.loop-refills-test.self c.leave.new.self c.loop-refills-test.board c.leave.new.board stopped.ready stopped.seated after.seated after.same
    (after.stays so) after.others

pub returns-clause-steps : goal.returns-clause-steps
returns-clause-steps c = c.leave.ensures.steps ∙ (last (goal.at.returns-clause-steps c).After-frame-2-1).steps

pub returns-clause-native : goal.returns-clause-native
returns-clause-native c =
    let few = c.loop-refills.invariant.few in
    let retired = c.loop-refills.invariant.retired in
    let exceptions = c.loop-refills.invariant.exceptions in
    (omega (arith, retired), omega (arith, exceptions, few))
