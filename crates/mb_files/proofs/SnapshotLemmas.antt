-- What a text says as a snapshot is what it comes to.
use Rattle.std.proofs.Common.{◌≡◌, ◌∙◌, ℕ, List, ap, subst, Result, Ok, Err}
use Rattle.std.specs.Prelude.{IfErr, IfOk}
use Rattle.std.specs.Result.{result_map_both}
use Rattle.mb_spelling.specs.Places.{IsFirstFault, ReadsWhole}
use Rattle.mb_spelling.proofs.Places.{reads_to_the_end}
use Rattle.vm_snapshot.specs.Guests.{Snapshot, snapshot}
use Rattle.vm_snapshot.specs.Plans.{IsAnswer, IsRead, Plan, plan_of, plan_seen}
use Rattle.vm_snapshot.specs.declared.plan.SnapFault.{SnapFault}
use Rattle.vm_snapshot.specs.declared.plan.SnapFault.TheVariants.{Memory, Line}
use Rattle.vm_snapshot.specs.declared.plan.SnapPlan.{SnapPlan}
use Rattle.vm_snapshot.proofs.Guests.{snapshot_spells}
use Rattle.vm_snapshot.proofs.Faults.{faults_are_one}
use Rattle.mb_files.specs.Snapshots.{FaultsAs, plan_in, snapshot_why}

law : ReadsWhole snapshot
law = reads_to_the_end snapshot snapshot_spells

-- its plan,
pub said_is_known : (text : List ℕ) (plan : Plan) → IsRead text plan → plan_in text ≡ Ok plan
said_is_known text plan h =
    subst (λ (t : List ℕ). plan_in t ≡ Ok plan) h.written
    (ap (λ (r : Result Snapshot ℕ). result_map_both plan_of snapshot_why r) (law.back h.says h.lawful) ∙ ap (λ (p : Plan). Ok p) h.is_plan)

-- or its first fault
pub fault_is_known : (text : List ℕ) (number : ℕ) → IsFirstFault snapshot number text → plan_in text ≡ Err (snapshot_why number)
fault_is_known text number f = ap (λ (r : Result Snapshot ℕ). result_map_both plan_of snapshot_why r) (faults_are_one number text f)

-- ---- what the code answers

pub answer_known : (text : List ℕ) (answer : Result SnapPlan SnapFault) → IsAnswer text answer
    → IfOk answer (λ (plan : SnapPlan). plan_in text ≡ Ok (plan_seen plan))
answer_known text (Ok plan) h = said_is_known text (plan_seen plan) h
answer_known text (Err fault) h = tt

pub answer_faults : (text : List ℕ) (answer : Result SnapPlan SnapFault) → IsAnswer text answer → IfErr answer (FaultsAs (plan_in text))
answer_faults text (Ok plan) h = tt
answer_faults text (Err Memory) h = tt
answer_faults text (Err (Line number)) h = fault_is_known text number h
