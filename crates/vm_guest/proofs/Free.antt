-- Turns are free runs.
use Rattle.std.proofs.Common.{◌≡◌, ◌∙◌, ℕ, ◌+◌, ap, sym, subst}
use Rattle.std.specs.Prelude.{replicate}
use Rattle.mb_model.specs.Keeping.{rule_k}
use Rattle.def_machine.specs.Machine.{Opening, Entries, Machine, opening_devices, start, run_of}
use Rattle.mb_walk.specs.Memory.{with_contents}
use Rattle.def_runs.proofs.Runs.{run-from_reset}
use Rattle.def_guests.specs.Turns.{Turned, prepared, turn_of}
use Rattle.def_guests.proofs.ByRule.{guests_run_alone, turns_by_rule}
use Rattle.def_guests.proofs.TurnLaws.{turns_add}
use Rattle.vm_guest.specs.Turns.{ComesFreely, GoesOnFreely}

-- so many steps from an image's start, and then so many more
pub runs_add : (opening : Opening) (script : Entries) (size n more : ℕ)
    → run_of rule_k script (n + more) (start rule_k opening size) ≡ run_of rule_k script more (run_of rule_k script n (start rule_k opening size))
runs_add opening script size n more =
    let first = turn_of script n (prepared opening size) in
    sym (guests_run_alone opening script size (n + more))
    ∙ ap (λ (t : Turned). t.guest.machine) (turns_add script n more (prepared opening size))
    ∙ turns_by_rule script more first
    ∙ ap (run_of rule_k script more) (guests_run_alone opening script size n)

pub goes_on_freely : (script : Entries) (limit : ℕ) (before after : Machine) → after ≡ run_of rule_k script limit before
    → GoesOnFreely script limit before after
goes_on_freely script limit before after turned opening size n led =
    let whole : after ≡ run_of rule_k script (n + limit) (start rule_k opening size) =
    turned ∙ ap (run_of rule_k script limit) led ∙ sym (runs_add opening script size n limit) in
    subst (ComesFreely opening script size (n + limit)) (sym whole) (run-from_reset rule_k script (n + limit) (opening_devices size opening.disk)
    (with_contents (replicate size 0) opening.image))
