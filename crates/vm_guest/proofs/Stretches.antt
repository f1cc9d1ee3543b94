-- Steps at which no entry of a script is due.
use Rattle.std.proofs.Common.{◌≡◌, ◌≢◌, ◌∙◌, ℕ, ◌+◌, ◌<◌, ◌≤◌, [], drop, length, ap, sym, inl, inr, arith}
use Rattle.std.proofs.lemmas.List.{drop_all}
use Rattle.std.proofs.lemmas.Bool.{cases_lt}
use Rattle.def_machine.specs.Machine.{Entries, arrived, aborts}
use Rattle.mb_board.specs.Arrivals.{due_at, IsNext}
use Rattle.mb_board.proofs.Due.{aborts-past, arrived-past}
use Rattle.def_runs.specs.Batches.{NothingArrives}
use Rattle.vm_guest.specs.Counting.{NoneDue}

-- between steps with the same next entry none is due
pub none_due : (script : Entries) (taken next n : ℕ) → IsNext script taken next → IsNext script (taken + n) next → NoneDue script taken n
none_due script taken next n before after place within = elim (cases_lt place next) [
  | inl past ↦ inl (before.past place past)
  | inr behind ↦ inr (after.later place behind within)
]

-- so nothing arrives,
pub nothing_arrives : (script : Entries) (taken n : ℕ) → NoneDue script taken n → NothingArrives script taken n
nothing_arrives script taken n none k more less =
    let elsewhere : (place : ℕ) → place < length script → due_at script place ≢ k = λ place within same. elim (none place within) [
      | inl past ↦ (let z : ⊥ = omega arith in z)
      | inr later ↦ (let z : ⊥ = omega arith in z)
    ] in
    let all : drop (length script) script ≡ [] = drop_all (length script) script (omega arith) in
    record {
      devices = λ d. sym (arrived-past (length script) k script d elsewhere) ∙ ap (λ (s : Entries). arrived k s d) all;
      unaborted = sym (aborts-past (length script) k script elsewhere) ∙ ap (aborts k) all;
    }

-- of fewer steps too
pub fewer_due : (script : Entries) (taken n m : ℕ) → m ≤ n → NoneDue script taken n → NoneDue script taken m
fewer_due script taken n m few none place within = elim (none place within) [
  | inl past ↦ inl past
  | inr later ↦ inr (omega arith)
]
