-- What the laws on runs of the board want of a guest, by the registers that a board has along its run.
use Rattle.std.proofs.Common.{◌≡◌, ◌∙◌, ℕ, zero, suc, Bool, true, cond, [], ◌∷◌, length, ap, subst, arith}
use Rattle.std.proofs.lemmas.List.{length-append}
use Rattle.mb_instr.specs.declared.registers.Plain.{Plain}
use Rattle.mb_instr.specs.declared.registers.Regs.{Regs}
use Rattle.mb_instr.specs.Registers.{active_stack, plain_of}
use Rattle.def_processor.specs.declared.Finish.{Finish}
use Rattle.def_machine.specs.Machine.{Machine, Entries}
use Rattle.def_runs.specs.declared.RunEnd.TheVariants.{Gone}
use Rattle.def_runs.specs.Native.{Ran, user_step, ran_by, goes_on, end_of}
use Rattle.law_mirror.specs.Related.{Site}
use Rattle.def_guests.specs.Turns.{Guested, guest_stepped}
use Rattle.law_turns.specs.Retire.{Boarded, HasRegisters, Retires}
use Rattle.law_turns.specs.Batch.{Wanted}
use Rattle.law_turns.specs.Quiet.{AreWanted}
use Rattle.law_turns.proofs.Retire.{retired_steps}
use Rattle.mb_board.specs.Fits.{IsFit, FitsAlong}

seven_of : (r : Regs) → length (plain_of r).a ≡ 8 → length r.a ≡ 7
seven_of r h = let e = length-append r.a (active_stack r ∷ []) in omega arith

fits_of : (p : Plain) → IsFit p → HasRegisters p
fits_of p f = record { longs = f.longs; counter = f.counter }

pub wanted_of : (x : Site) (m : Machine) (g : Guested) → Boarded x m g → IsFit (plain_of m.cpu.regs) → Wanted g
wanted_of x m g b fit =
    let own : IsFit (plain_of g.machine.cpu.regs) = subst IsFit b.plain fit in
    record { registers = fits_of (plain_of g.machine.cpu.regs) own; seven = seven_of g.machine.cpu.regs own.eight }

-- a retired step lets the board's run go on
retired_goes : (x : Site) (script : Entries) (r : Ran) (g : Guested) → Retires x script r.machine g (user_step r.machine) (guest_stepped script g)
    → goes_on (ran_by (user_step r.machine) r).end ≡ true
retired_goes x script r g h =
    let s = user_step r.machine in
    ap (λ (b : Bool). goes_on (cond b (end_of s.0) Gone)) h.running ∙ ap (λ (f : Finish). goes_on (end_of f)) h.step

-- So do all of a run whose steps begin with registers that fit.
pub wanted_along : (x : Site) (script : Entries) (n : ℕ) (r : Ran) (g : Guested) → Boarded x r.machine g → FitsAlong n r → AreWanted script n g
wanted_along x script zero r g b fits = tt
wanted_along x script (suc n) r g b (fit, later) =
    let want = wanted_of x r.machine g b fit in (
      want,
      λ retired.
          let h = retired_steps x script r.machine g b want.registers retired in
          wanted_along x script n (ran_by (user_step r.machine) r) (guest_stepped script g) h.boarded
          (later (retired_goes x script r g h)),
    )
