-- A run by its first step.
use Rattle.std.proofs.Common.{◌≡◌, ◌∙◌, ℕ, zero, suc, ◌+◌, true, false, refl, ap, sym, inl, inr, arith}
use Rattle.std.proofs.lemmas.Bool.{cases_Bool}
use Rattle.mb_model.specs.Keeping.{Rule}
use Rattle.def_processor.specs.declared.Finish.{Finish}
use Rattle.def_machine.specs.Machine.{Entries, Machine, stepping, stepped, takes_steps, run_of}

-- a step is taken, and the rest of the run follows
pub run_of-step : (rule : Rule) (script : Entries) (m n : ℕ) (s : Machine) → m ≡ suc n → takes_steps s.state ≡ true
    → run_of rule script m s ≡ run_of rule script n (stepped rule script s)
unfolding run_of
run_of-step rule script m n s e going = rw (e, run_of, going) refl

-- a machine that takes no step stays
pub run_of-still : (rule : Rule) (script : Entries) (m : ℕ) (s : Machine) → takes_steps s.state ≡ false → run_of rule script m s ≡ s
unfolding run_of
run_of-still rule script zero s still = refl
run_of-still rule script (suc n) s still = rw still refl

pub run_of-zero : (rule : Rule) (script : Entries) (m : ℕ) (s : Machine) → m ≡ 0 → run_of rule script m s ≡ s
unfolding run_of
run_of-zero rule script m s e = rw (e, run_of) refl

-- a run is one run behind another
pub run_of-split : (rule : Rule) (script : Entries) (a b k : ℕ) (m : Machine) → k ≡ a + b
    → run_of rule script b (run_of rule script a m) ≡ run_of rule script k m
unfolding run_of
run_of-split rule script zero b k m e = ap (λ (n : ℕ). run_of rule script n m) (let h : b ≡ k = omega arith in h)
run_of-split rule script (suc a) b k m e = elim (cases_Bool (takes_steps m.state)) [
  | inl going ↦
      ap (run_of rule script b) (run_of-step rule script (suc a) a m refl going) ∙ run_of-split rule script a b (a + b) (stepped rule script m) refl
      ∙ sym (run_of-step rule script k (a + b) m (omega arith) going)
  | inr still ↦
      ap (run_of rule script b) (run_of-still rule script (suc a) m still) ∙ run_of-still rule script b m still
      ∙ sym (run_of-still rule script k m still)
]

-- what a step leaves is the machine after it
pub stepped-by : (rule : Rule) (script : Entries) (s : Machine) (finish : Finish) (t : Machine) → (finish, t) ≡ stepping rule script s
    → t ≡ stepped rule script s
stepped-by rule script s finish t h = ap (λ (r : Finish × Machine). r.1) h

-- one step more
pub one_more : (rule : Rule) (script : Entries) (from m after : Machine) (finish : Finish) (n : ℕ) → m ≡ run_of rule script n from
    → takes_steps m.state ≡ true → (finish, after) ≡ stepping rule script m → after ≡ run_of rule script (n + 1) from
one_more rule script from m after finish n so_far going step =
    stepped-by rule script m finish after step ∙ sym (run_of-zero rule script 0 (stepped rule script m) refl)
    ∙ sym (run_of-step rule script 1 0 m refl going) ∙ ap (run_of rule script 1) so_far
    ∙ run_of-split rule script n 1 (n + 1) from refl
