-- Free runs of a tidy image are the run that searches.
use Rattle.std.proofs.Common.{◌≡◌, ℕ, zero, suc, refl, sym, ◌∙◌, ap, subst, inl, inr}
use Rattle.std.specs.Prelude.{replicate, None}
use Rattle.std.proofs.lemmas.Bool.{cases_Bool}
use Rattle.mb_port.specs.Routine.{run}
use Rattle.mb_model.specs.declared.processor.Cpu.{Cpu}
use Rattle.mb_model.specs.Keeping.{Rule, KeptLists, rule_a, rule_k}
use Rattle.def_processor.specs.declared.Finish.{Finish}
use Rattle.def_processor.specs.Step.{step_of}
use Rattle.law_routines.specs.Relations.{Admits}
use Rattle.law_routines.proofs.Related.{runs_agree, runs_of_run}
use Rattle.def_machine.specs.World.{World}
use Rattle.def_machine.specs.Machine.{Entries, Machine, Opening, begun, one_later, opening_devices, takes_steps, run_of, start, outcome_of, asked_of}
use Rattle.mb_walk.specs.Memory.{with_contents}
use Rattle.def_runs.specs.Free.{StandIn, rule_free, FreeStep, FreeCall, FreeRun, WorldWithin, Within}
use Rattle.def_runs.proofs.Runs.{run-from_reset}
use Rattle.def_runs.specs.Tidy.{searching_bus, searching_step, searching_run, Tidy}
use Rattle.law_tidy.specs.Runs.{AlongStep}
use Rattle.law_tidy.specs.Least.{IsOneWayCall, OneWayRunsSearch}
use Rattle.law_tidy.specs.Compares.{TidyIsToldSame}
use Rattle.law_tidy.specs.Laws.{SearchingIsFree, TidyRunsSearch, TidyRunsAreOne, RulesShowTheSame}
use Rattle.law_tidy.proofs.NoChoices.{one_way_calls-have_no_choice}
use Rattle.law_tidy.proofs.OneWays.{tidy_runs-are_one_way}

-- ---- a step

later_within : (b : Machine) (held : KeptLists) (ended : Finish) (cpu : Cpu) (w u : World) → WorldWithin w u
    → Within (one_later b ended cpu w) (one_later (record b { world = record b.world { kept = held } }) ended cpu u)
later_within b held ended cpu w u h =
    subst (λ (v : World). Within (one_later b ended cpu w) (one_later (record b { world = record b.world { kept = held } }) ended cpu v))
    (sym h.same) (record { same = refl; kept = h.kept })

step_from : (script : Entries) (free : Machine) (held : KeptLists) (after : Machine) → StandIn free.world.kept held
    → AlongStep IsOneWayCall script (record free { world = record free.world { kept = held } }) → FreeStep script free after
    → Within after (searching_step script (record free { world = record free.world { kept = held } }))
step_from script free held after stand tidy (r, w, runs, e) =
    let b = begun script free in
    let routine = step_of (asked_of script b) b.cpu in
    let here = record b.world { kept = held } in
    let s = run searching_bus routine here in
    let g = runs_agree one_way_calls-have_no_choice routine here b.world r w (record { same = refl; kept = stand }) tidy runs in
    let last = one_later (record b { world = here }) s.0.0 s.0.1 s.1 in
    subst (λ (m : Machine). Within m last) (sym e)
    (subst (λ (x : Finish × Cpu). Within (one_later b x.0 x.1 w) last) g.0 (later_within b held s.0.0 s.0.1 w s.1 g.1))

step_within : (script : Entries) (m free after : Machine) → Within free m → AlongStep IsOneWayCall script m → FreeStep script free after
    → Within after (searching_step script m)
step_within script m free after h tidy step =
    subst (λ (t : Machine). Within after (searching_step script t)) (sym h.same)
    (step_from script free m.world.kept after h.kept (subst (λ (t : Machine). AlongStep IsOneWayCall script t) h.same tidy) step)

-- ---- a run

pub one_way_runs-search : OneWayRunsSearch
unfolding searching_run
one_way_runs-search script zero m free end h tidy e = subst (λ (t : Machine). Within t m) (sym e) h
one_way_runs-search script (suc n) m free end h tidy (inl (still, e)) =
    let alike : takes_steps m.state ≡ takes_steps free.state = ap (λ (t : Machine). takes_steps t.state) h.same in
    rw (alike ∙ still) (subst (λ (t : Machine). Within t m) (sym e) h)
one_way_runs-search script (suc n) m free end h tidy (inr (going, (later, step, rest))) =
    let alike : takes_steps m.state ≡ takes_steps free.state = ap (λ (t : Machine). takes_steps t.state) h.same in
    let parts = tidy (alike ∙ going) in
    rw (alike ∙ going) (one_way_runs-search script n (searching_step script m) later end (step_within script m free later h parts.0 step) parts.1 rest)

pub tidy_runs-search : TidyRunsSearch
tidy_runs-search script n m free end h tidy = one_way_runs-search script n m free end h (tidy_runs-are_one_way script n m tidy)

-- ---- the run that searches is free

searching_admitted : Admits FreeCall searching_bus
searching_admitted = record { call = λ c s. (None, tt, refl) }

searching_step_free : (script : Entries) (m : Machine) → FreeStep script m (searching_step script m)
searching_step_free script m =
    let b = begun script m in
    let routine = step_of (asked_of script b) b.cpu in
    let r = run searching_bus routine b.world in (r.0, r.1, runs_of_run searching_admitted routine b.world, refl)

pub searching-is_free : SearchingIsFree
unfolding searching_run
searching-is_free script zero m = refl
searching-is_free script (suc n) m = elim (cases_Bool (takes_steps m.state)) [
  | inl going ↦
      let later = searching_step script m in
      rw going (inr (refl, (later, searching_step_free script m, searching-is_free script n later)))
  | inr still ↦ rw still (inl (refl, refl))
]

-- ---- what is seen

seen_within : (m free : Machine) → Within m free → outcome_of free ≡ outcome_of m
seen_within m free h = ap outcome_of h.same

itself : (m : Machine) → Within m m
itself m = record { same = refl; kept = λ k h. h }

seen_searching : (opening : Opening) (script : Entries) (size n : ℕ) (end : Machine) → Tidy opening script size n
    → FreeRun script n (start rule_free opening size) end
    → outcome_of (searching_run script n (start rule_free opening size)) ≡ outcome_of end
seen_searching opening script size n end tidy free =
    let m = start rule_free opening size in
    seen_within end (searching_run script n m) (tidy_runs-search script n m m end (itself m) tidy free)

pub tidy_runs-are_one : TidyRunsAreOne
tidy_runs-are_one opening script size n a b tidy one two =
    sym (seen_searching opening script size n a tidy one) ∙ seen_searching opening script size n b tidy two

seen_by_rule : (rule : Rule) (opening : Opening) (script : Entries) (size n : ℕ) → Tidy opening script size n
    → outcome_of (searching_run script n (start rule_free opening size)) ≡ outcome_of (run_of rule script n (start rule opening size))
seen_by_rule rule opening script size n tidy =
    let f = run-from_reset rule script n (opening_devices size opening.disk) (with_contents (replicate size 0) opening.image) in
    seen_searching opening script size n f.0 tidy f.1
    ∙ seen_within (run_of rule script n (start rule opening size)) f.0 f.2

pub rules-show_the_same : RulesShowTheSame
rules-show_the_same rule other opening script size n tidy =
    sym (seen_by_rule rule opening script size n tidy) ∙ seen_by_rule other opening script size n tidy

pub tidy-is_told_same : TidyIsToldSame
tidy-is_told_same opening script size n told tells tidy = tells.1 (rules-show_the_same rule_a rule_k opening script size n tidy)
