-- A guest on a board that began with a machine.
use Rattle.std.proofs.Common.{◌∙◌, refl, ap}
use Rattle.mb_model.specs.Keeping.{rule_k}
use Rattle.def_runs.proofs.Runs.{ended-is_free}
use Rattle.def_guests.specs.Turns.{Turned, turn_of}
use Rattle.def_guests.specs.Seats.{machine_on}
use Rattle.def_guests.specs.Stages.{steps_for}
use Rattle.def_guests.proofs.ByRule.{turns_by_rule}
use Rattle.def_guests.proofs.Independent.{turns_are_independent}
use Rattle.vm_saved.specs.Begins.{beginning, StartsBegin, StartsCount, StartsMark, BegunGuestsRunAlone}

pub starts_begin : StartsBegin
starts_begin opening size = refl

pub starts_count : StartsCount
starts_count opening script size n = refl

pub starts_mark : StartsMark
starts_mark opening script size k n = refl

pub begun_guests_run_alone : BegunGuestsRunAlone
begun_guests_run_alone turns s t all taken j g here m is =
    let n = steps_for j turns in
    let own = (turns_are_independent turns s t all taken).1 j g here in
    let whole = own.turned ∙ ap (turn_of g.script n) is in
    let machine = ap (λ (u : Turned). u.guest.machine) whole ∙ turns_by_rule g.script n (beginning m) in (
      own.now,
      own.here,
      record {
        machine = machine;
        tally = ap (λ (u : Turned). u.tally) whole;
        free = ended-is_free rule_k g.script n m (machine_on own.now t.ram) machine;
      },
    )
