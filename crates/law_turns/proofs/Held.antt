-- The class of a guest's step, by how the held guest's attempt ends.
use Rattle.std.proofs.Common.{◌≡◌, ◌∙◌, ℕ, Ok, Err, refl, ap, sym}
use Rattle.mb_port.specs.Routine.{Routine}
use Rattle.mb_port.specs.declared.types.Space.{Space}
use Rattle.law_routines.specs.Alike.{Met, ended as met_ended, stopped as met_stopped}
use Rattle.law_routines.specs.Until.{Until, run_until, finish}
use Rattle.law_routines.specs.Refusal.{Fact, Told}
use Rattle.law_routines.proofs.Finished.{finish_until}
use Rattle.law_routines.proofs.Simulated.{simulates}
use Rattle.mb_instr.specs.declared.registers.Plain.{Plain}
use Rattle.mb_writes.specs.declared.ends.Ended.{Ended}
use Rattle.mb_writes.specs.declared.ends.Ended.TheVariants as ended
use Rattle.mb_writes.specs.declared.transfers.Movem.{Movem}
use Rattle.def_instructions.specs.Ends.{Carried, OtherEnd, Performed, closed}
use Rattle.def_instructions.specs.Attempt.{attempt_of}
use Rattle.law_tells.specs.Guarded.{Guarded}
use Rattle.law_tells.specs.Left.{LeftBy}
use Rattle.law_tells.specs.Laws.{moves_fetched}
use Rattle.law_tells.proofs.Step.{attempt_tells}
use Rattle.mb_frames.specs.Worked.{refused}
use Rattle.def_guests.specs.Guests.{Guest, may}
use Rattle.def_guests.specs.Held.{held_bus}
use Rattle.def_guests.specs.Bus.{guest_bus}
use Rattle.law_held.specs.Denied.{by_held, held_end}
use Rattle.law_held.specs.Sound.{Sound, held_guard}
use Rattle.law_held.proofs.Again.{held_guards}
use Rattle.law_held.proofs.Own.{Beside, held_alike}
use Rattle.def_guests.specs.declared.class.Class.TheVariants.{Denied}
use Rattle.def_guests.specs.Classes.{class_of_end, class_by, class_at}
use Rattle.law_turns.specs.Retire.{ClassesAreHeld}

pub closed_class : (q : Performed) → class_by q ≡ class_of_end (closed q).0
closed_class (Ok done) = refl
closed_class (Err stop) = refl

-- what a refused call leaves is a fault
left_is_denied : {S : Type 0} (x : Guarded S) (space : Space) (before : Plain) (moves : Movem → Type 0) (rest : Routine Performed) (t : S) (end : Ended)
    (after : Plain) → LeftBy x space before moves rest t end after → class_of_end end ≡ Denied
left_is_denied x space before moves rest t (ended.Done flow) after h = absurd h
left_is_denied x space before moves rest t (ended.Trap vector) after h = absurd h
left_is_denied x space before moves rest t (ended.Refused vector) after h = absurd h
left_is_denied x space before moves rest t (ended.ReadFault refused) after h = refl
left_is_denied x space before moves rest t (ended.WriteFault refused) after h = refl
left_is_denied x space before moves rest t (ended.LineFault fault line) after h = refl
left_is_denied x space before moves rest t (ended.Movem refused) after h = refl

abbrev AttemptFact : Space → ℕ → Plain → Guest → Fact Guest Carried OtherEnd
AttemptFact space size p g rest t stop =
    (before : Plain) × (record before { pc = p.pc } ≡ p)
    × LeftBy (held_guard space size g) space before (moves_fetched held_bus space p.pc g) rest t stop.ended stop.plain

from_met : (space : Space) (size : ℕ) (p : Plain) (g : Guest) (u v : Until Guest Performed) → Met (Beside size) u v
    → Told (λ (a : Guest) b. b ≡ a) held_bus (AttemptFact space size p g) (λ done h. Sound size h) u
    → finish held_bus u ≡ by_held space p g → class_at v ≡ class_of_end (held_end space p g).0
from_met space size p g u v (met_ended {a} {s} {t} r) told e =
    closed_class a ∙ ap (λ (q : Performed × Guest). class_of_end (closed q.0).0) e
from_met space size p g u v (met_stopped {rest} {s = now} {t = there} r) (stop, last, (before, is, left), run_is, same) e =
    sym (left_is_denied (held_guard space size g) space before (moves_fetched held_bus space p.pc g) rest now stop.ended stop.plain left)
    ∙ ap (λ (q : Performed × Guest). class_of_end (closed q.0).0) (sym run_is ∙ e)

pub classes_are_held : ClassesAreHeld
classes_are_held space size p g regs s =
    let m = attempt_of space p in
    let tells = attempt_tells (held_guard space size g) space (held_guards space size g) p g regs.longs regs.counter in
    let along = tells.lawfully g ((s, refl), refl) in
    from_met space size p g (run_until may held_bus m g) (run_until may guest_bus m g) (simulates (held_alike space size) m g g (refl, s) along)
    (tells.told g ((s, refl), refl)) (finish_until may held_bus m g)
