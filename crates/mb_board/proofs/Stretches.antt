-- Runs between the entries of a script: they are runs at which nothing arrives.
use Rattle.std.proofs.Common.{◌≡◌, ◌∙◌, ℕ, zero, suc, ◌+◌, ◌-◌, ◌<◌, ◌≤◌, ◌≢◌, [], drop, length, true, refl, ap, sym, inl, inr, arith}
use Rattle.std.specs.Prelude.{Some, None, slice_get}
use Rattle.std.proofs.lemmas.Bool.{cases_Bool, cases_lt}
use Rattle.std.proofs.lemmas.List.{drop_all}
use Rattle.std.proofs.lemmas.Option.{get_or_from_slice_get, slice_get_within}
use Rattle.mb_script.specs.declared.entry.Entry.{Entry}
use Rattle.mb_script.specs.Script.{IsScript}
use Rattle.mb_port.specs.Routine.{run}
use Rattle.mb_model.specs.Keeping.{Rule}
use Rattle.mb_devices.specs.Devices.{DeviceState, ticked}
use Rattle.def_processor.specs.Step.{step_of}
use Rattle.def_machine.specs.Bus.{bus_of}
use Rattle.def_machine.specs.Machine.{Entries, Machine, aborts, arrived, processed, run_of, stepped, takes_steps, with_devices, with_finish}
use Rattle.def_machine.proofs.Asked.{asked_devices}
use Rattle.def_runs.specs.Batches.{IsQuietAt, NothingArrives}
use Rattle.mb_board.specs.Arrivals.{due_at, no_entry, IsNext}
use Rattle.mb_board.proofs.Due.{aborts-past, arrived-past, later-from, none-outside}
use Rattle.mb_board.proofs.Runs.{run_of-step, run_of-still}

-- ---- what is next

-- the next entry stays the next one up to its step
pub before-next : (script : Entries) (taken next n : ℕ) (entry : Entry) → IsScript script → IsNext script taken next → slice_get script next ≡ Some entry
    → n ≤ entry.step - taken - 1 → IsNext script (taken + n) next
before-next script taken next n entry is at got few =
    let within = slice_get_within script next entry got in
    let here : due_at script next ≡ entry.step = ap (λ (e : Entry). e.step) (get_or_from_slice_get script next entry no_entry got) in
    let open_yet : taken < due_at script next = at.later next (omega arith) within in record {
      within = at.within;
      past = λ place less. let h = at.past place less in omega arith;
      later = later-from script next (taken + n) entry is got (omega arith);
    }

-- and where there is none, none comes
pub before-none : (script : Entries) (taken next n : ℕ) → IsNext script taken next → slice_get script next ≡ None → IsNext script (taken + n) next
before-none script taken next n at none = record {
  within = at.within;
  past = λ place less. let h = at.past place less in omega arith;
  later = λ place from within. absurd (none-outside script next none (omega arith));
}

-- so nothing arrives before
pub none-between : (script : Entries) (taken next n : ℕ) → IsNext script taken next → IsNext script (taken + n) next → NothingArrives script taken n
none-between script taken next n at behind k more less =
    let elsewhere : (place : ℕ) → place < length script → due_at script place ≢ k = λ place within same. elim (cases_lt place next) [
      | inl before ↦ (let h = at.past place before in let z : ⊥ = omega arith in z)
      | inr from ↦ (let h = behind.later place from within in let z : ⊥ = omega arith in z)
    ] in
    let all : drop (length script) script ≡ [] = drop_all (length script) script (omega arith) in record {
      devices = λ d. sym (arrived-past (length script) k script d elsewhere) ∙ ap (λ (s : Entries). arrived k s d) all;
      unaborted = sym (aborts-past (length script) k script elsewhere) ∙ ap (aborts k) all;
    }

-- ---- runs

-- a step at which nothing arrives is one without a script
pub quiet-step : (rule : Rule) (script : Entries) (m : Machine) → IsQuietAt script (m.steps + 1) → stepped rule script m ≡ stepped rule [] m
quiet-step rule script m quiet =
    let at : DeviceState → Machine = λ d. with_devices m (ticked d) in
    let b = at m.world.devices in
    ap (λ (d : DeviceState). (with_finish m (processed rule script (at d))).1) (quiet.devices m.world.devices)
    ∙ ap (λ (level : ℕ). (with_finish m (run (bus_of rule) (step_of level m.cpu) b.world)).1)
    (asked_devices script (m.steps + 1) b.world.devices quiet.unaborted)

steps-after : (rule : Rule) (script : Entries) (m : Machine) → (stepped rule script m).steps ≡ m.steps + 1
steps-after rule script m = refl

rest-of : (rule : Rule) (script : Entries) (n : ℕ) (m : Machine) → NothingArrives script m.steps (suc n) → NothingArrives script (stepped rule [] m).steps n
rest-of rule script n m none k more less = let e = steps-after rule [] m in none k (omega arith) (omega arith)

pub quiet-run : (rule : Rule) (script : Entries) (n : ℕ) (m : Machine) → NothingArrives script m.steps n → run_of rule script n m ≡ run_of rule [] n m
unfolding run_of
quiet-run rule script zero m none = refl
quiet-run rule script (suc n) m none = elim (cases_Bool (takes_steps m.state)) [
  | inl going ↦
      run_of-step rule script (suc n) n m refl going
      ∙ ap (run_of rule script n) (quiet-step rule script m (none (m.steps + 1) (omega arith) (omega arith)))
      ∙ quiet-run rule script n (stepped rule [] m) (rest-of rule script n m none) ∙ sym (run_of-step rule [] (suc n) n m refl going)
  | inr still ↦ run_of-still rule script (suc n) m still ∙ sym (run_of-still rule [] (suc n) m still)
]

-- a run that goes on quietly behind its first step
pub run-to_entry : (rule : Rule) (script : Entries) (k n : ℕ) (m after : Machine) → k ≡ n + 1 → takes_steps m.state ≡ true
    → after ≡ stepped rule script m → NothingArrives script after.steps n → run_of rule [] n after ≡ run_of rule script k m
run-to_entry rule script k n m after count going is none =
    sym (quiet-run rule script n after none) ∙ ap (run_of rule script n) is ∙ sym (run_of-step rule script k n m (omega arith) going)
