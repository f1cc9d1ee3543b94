-- A run of the board is so many retired steps, and an exit or none.
use Rattle.std.proofs.Common.{◌≡◌, ◌⊎◌, ◌∙◌, ℕ, zero, suc, ◌+◌, ◌^◌, ◌<◌, ◌≤◌, Bool, true, cond, List, [], ◌∷◌, ◌++◌, arith, refl, ap, sym, subst, inl, inr}
use Rattle.mb_instr.specs.declared.registers.Plain.{Plain}
use Rattle.mb_instr.specs.Registers.{plain_of}
use Rattle.mb_model.specs.declared.outcome.RunState.TheVariants.{Running}
use Rattle.def_machine.specs.Machine.{Machine, Entries, takes_steps}
use Rattle.law_mirror.specs.Related.{Site}
use Rattle.def_guests.specs.declared.class.Class.{Class}
use Rattle.def_guests.specs.declared.class.Class.TheVariants as class
use Rattle.def_guests.specs.declared.class.Class.TheVariants.{Retired}
use Rattle.def_runs.specs.declared.RunEnd.TheVariants.{Counted, Exit, Gone}
use Rattle.def_processor.specs.declared.Finish.{Finish}
use Rattle.def_processor.specs.declared.Finish.TheVariants as finish
use Rattle.def_guests.specs.Turns.{Guested, Turned, Tally, guest_stepped, class_of_step, step_class_at_first, refills_of_step, by_class, advanced, turn_of}
use Rattle.def_runs.specs.Marks.{trail}
use Rattle.def_runs.specs.Native.{end_of, with_exception, NativeState, Ran, user_step, user_run, ran_by, ended_by, with_step, with_retired}
use Rattle.law_turns.specs.Retire.{Retires}
use Rattle.law_turns.specs.Exit.{Furnished, Leaves, IsExitClass}
use Rattle.law_turns.proofs.Registers.{same_word}
use Rattle.law_turns.specs.Batch.{Wanted, IsTried, stepped_by, AllRetired, IsInside, IsCounted, IsExit, Batch, RunsAreBatches}
use Rattle.law_turns.proofs.Retire.{retired_steps, runs_behind, stays_on}
use Rattle.law_turns.proofs.Exit.{left_steps}
use Rattle.law_turns.proofs.Refill.{first_is_last}
use Rattle.def_guests.proofs.Trails.{trail_append}
use Rattle.mb_frames.specs.declared.places.TheConstants.{LONGEST}
use Rattle.def_runs.proofs.RunEnds.{run-none}
use Rattle.def_guests.proofs.TurnLaws.{nothing_turned}

-- ---- one step of the board's run

ends : (f : Finish) (after : Machine) → takes_steps after.state ≡ true → ended_by f after ≡ end_of f
ends f after h = ap (λ (b : Bool). cond b (end_of f) Gone) h

run_on : (n : ℕ) (r : Ran) → (ran_by (user_step r.machine) r).end ≡ Counted → user_run (suc n) r ≡ user_run n (ran_by (user_step r.machine) r)
unfolding user_run
run_on n r h = rw h refl

run_off : (n v : ℕ) (r : Ran) → (ran_by (user_step r.machine) r).end ≡ Exit v → user_run (suc n) r ≡ ran_by (user_step r.machine) r
unfolding user_run
run_off n v r h = rw h refl

counts_none : (f : Finish) (before : Plain) (after : Machine) (native : NativeState) → f ≡ finish.Went
    → with_step f before after native ≡ with_retired before (plain_of after.cpu.regs) native
counts_none f before after native e = ap (λ (o : Finish). with_step o before after native) e

counts_some : (f : Finish) (n : ℕ) (before : Plain) (after : Machine) (native : NativeState) → f ≡ finish.Entered n → takes_steps after.state ≡ true
    → with_step f before after native ≡ with_exception native
counts_some f n before after native e h =
    ap (λ (o : Finish). with_step o before after native) e ∙ ap (λ (b : Bool). cond b (with_exception native) native) h

-- ---- one step of the guest's turn

turn_on : (script : Entries) (k : ℕ) (t : Turned) → takes_steps t.guest.machine.state ≡ true → turn_of script (suc k) t ≡ turn_of script k (advanced script t)
unfolding turn_of
turn_on script k t h = rw h refl

-- by a retired step
abbrev pub retiring : Turned → Guested → Turned
retiring t after = record {
  guest = after;
  tally = record t.tally { retired = t.tally.retired + 1 };
  marks = t.marks ++ plain_of t.guest.machine.cpu.regs ∷ plain_of after.machine.cpu.regs ∷ [];
  exceptions = t.exceptions + 0;
}

advanced_is : (script : Entries) (t : Turned) → (class_of_step script t.guest ≡ Retired) × (refills_of_step script t.guest ≡ 0)
    → advanced script t ≡ retiring t (guest_stepped script t.guest)
advanced_is script t (h, none) =
    ap (λ (c : Class). by_class c (refills_of_step script t.guest) (guest_stepped script t.guest) t) h
    ∙ ap (λ (n : ℕ). by_class Retired n (guest_stepped script t.guest) t) none

-- what the monitor has set stays
stays_furnished : (x : Site) (script : Entries) (m : Machine) (g : Guested) (s : Finish × Machine) (t : Guested) → Retires x script m g s t → Furnished x m
    → Furnished x s.1
stays_furnished x script m g s t h f = record {
  mmu = h.outside.mmu ∙ f.mmu;
  status = same_word s.1.cpu.regs.sr m.cpu.regs.sr h.from.upper f.status;
  master = h.from.master ∙ f.master;
  vectors = h.from.vbr ∙ f.vectors;
  stack = subst (λ (n : ℕ). LONGEST ≤ n) (sym h.from.isp) f.stack;
  below = subst (λ (n : ℕ). n ≤ x.base) (sym h.from.isp) f.below;
  table = f.table;
  small = subst (λ (n : ℕ). n ≤ 2 ^ 32) (sym h.outside.count) f.small;
}

-- ---- the run

left_or : (c : Class) → IsTried c → (c ≡ Retired) ⊎ IsExitClass c
left_or class.Retired h = inl refl
left_or class.Privileged h = inr tt
left_or class.Trapped h = inr tt
left_or class.Denied h = inr tt
left_or class.Entered h = absurd h
left_or class.Idle h = absurd h
left_or class.Traced h = absurd h

assoc : {A : Type 0} (xs ys zs : List A) → (xs ++ ys) ++ zs ≡ xs ++ (ys ++ zs)
assoc [] ys zs = refl
assoc {A} (x ∷ xs) ys zs = ap (λ (l : List A). x ∷ l) (assoc xs ys zs)

nothing_more : {A : Type 0} (xs : List A) → xs ≡ xs ++ []
nothing_more [] = refl
nothing_more {A} (x ∷ xs) = ap (λ (l : List A). x ∷ l) (nothing_more xs)

trail_none : (t : ℕ) → t ≡ trail t []
unfolding trail
trail_none t = refl

trail_two : (t : ℕ) (p q : Plain) (more : List Plain) → trail (trail t (p ∷ q ∷ [])) more ≡ trail t (p ∷ q ∷ more)
trail_two t p q more = sym (trail_append t (p ∷ q ∷ []) more)

-- nothing yet
none_yet : (x : Site) (script : Entries) (n : ℕ) (r after : Ran) (t : Turned) → (0 < n → t.guest.machine.state ≡ Running)
    → after.native.retired ≡ r.native.retired → after.native.trail ≡ r.native.trail
    → (((zero ≡ n) × IsCounted x t r after) ⊎ ((0 < n) × IsExit x script t r after)) → Batch x script n r t after
none_yet x script n r after t running same sum end =
    let e = nothing_turned script t in
    record {
      retired = 0;
      marks = [];
      tally = ap (λ (u : Turned). u.tally) e ∙ ap (λ (k : ℕ). (let o : Tally = record t.tally { retired = k } in o))
          (let z : t.tally.retired ≡ t.tally.retired + 0 = omega arith in z);
      marked = ap (λ (u : Turned). u.marks) e ∙ nothing_more t.marks;
      unleft = ap (λ (u : Turned). u.exceptions) e;
      counted = same ∙ (let z : r.native.retired ≡ r.native.retired + 0 = omega arith in z);
      sum = sum ∙ trail_none r.native.trail;
      all = tt;
      guest = ap (λ (u : Turned). u.guest) e;
      running = λ some. subst (λ (u : Turned). u.guest.machine.state ≡ Running) (sym e) (running some);
      end = subst (λ (u : Turned). ((zero ≡ n) × IsCounted x u r after) ⊎ ((0 < n) × IsExit x script u r after)) (sym e) end;
    }

inside_both : (x : Site) (a b c : List ℕ) → IsInside x a b → IsInside x b c → IsInside x a c
inside_both x a b c h k = record { count = k.count ∙ h.count; below = k.below ∙ h.below; above = k.above ∙ h.above }

inside_by : (x : Site) (script : Entries) (m : Machine) (g : Guested) (s : Finish × Machine) (t : Guested) → Retires x script m g s t
    → IsInside x m.world.ram s.1.world.ram
inside_by x script m g s t h = record { count = h.outside.count; below = h.outside.below; above = h.outside.above }

-- one more before a batch
one_more : (x : Site) (script : Entries) (n : ℕ) (r one after : Ran) (t u : Turned) → takes_steps t.guest.machine.state ≡ true → advanced script t ≡ u
    → (p q : Plain) → u.tally ≡ record t.tally { retired = t.tally.retired + 1 } → u.marks ≡ t.marks ++ p ∷ q ∷ [] → u.exceptions ≡ t.exceptions
    → Wanted t.guest → step_class_at_first script t.guest ≡ Retired → u.guest ≡ guest_stepped script t.guest
    → IsInside x r.machine.world.ram one.machine.world.ram → one.machine.cpu.regs.isp ≡ r.machine.cpu.regs.isp
    → one.native ≡ with_retired p q r.native → Batch x script n one u after → Batch x script (suc n) r t after
one_more x script n r one after t u on is p q tally marks unleft want retired here inside isp native b =
    let k = b.retired in
    let e : turn_of script (suc k) t ≡ turn_of script k u = turn_on script k t on ∙ ap (λ (v : Turned). turn_of script k v) is in
    let exceptions : one.native.exceptions ≡ r.native.exceptions = ap (λ (v : NativeState). v.exceptions) native in
    record {
      retired = suc k;
      marks = p ∷ q ∷ b.marks;
      tally = ap (λ (v : Turned). v.tally) e ∙ b.tally ∙ ap (λ (v : Tally). (let o : Tally = record v { retired = v.retired + k } in o)) tally
          ∙ ap (λ (m : ℕ). (let o : Tally = record t.tally { retired = m } in o)) (let z : t.tally.retired + 1 + k ≡ t.tally.retired + suc k = omega arith in
          z);
      marked = ap (λ (v : Turned). v.marks) e ∙ b.marked ∙ ap (λ (l : List Plain). l ++ b.marks) marks ∙ assoc t.marks (p ∷ q ∷ []) b.marks;
      unleft = ap (λ (v : Turned). v.exceptions) e ∙ b.unleft ∙ unleft;
      counted = b.counted ∙ ap (λ (v : NativeState). v.retired + k) native ∙ (let z : r.native.retired + 1 + k ≡ r.native.retired + suc k = omega arith in z);
      sum = b.sum ∙ ap (λ (v : NativeState). trail v.trail b.marks) native ∙ trail_two r.native.trail p q b.marks;
      all = (want, retired, subst (λ (g : Guested). AllRetired script k g) here b.all);
      guest = ap (λ (v : Turned). v.guest) e ∙ b.guest ∙ ap (λ (g : Guested). stepped_by script k g) here;
      running = λ less. subst (λ (v : Turned). v.guest.machine.state ≡ Running) (sym e) (b.running (omega arith));
      end = subst (λ (v : Turned). ((suc k ≡ suc n) × IsCounted x v r after) ⊎ ((suc k < suc n) × IsExit x script v r after)) (sym e)
          (elim b.end [
            | inl (all, c) ↦
                inl (
                  ap (λ (m : ℕ). suc m) all,
                  record {
                    end = c.end;
                    boarded = c.boarded;
                    furnished = c.furnished;
                    inside =
                        inside_both x r.machine.world.ram one.machine.world.ram after.machine.world.ram inside c.inside;
                    exceptions = c.exceptions ∙ exceptions;
                  },
                )
            | inr (some, c) ↦ inr (
              omega arith,
              record {
                vector = c.vector;
                end = c.end;
                last = c.last;
                boarded = c.boarded;
                furnished = c.furnished;
                isp = c.isp ∙ isp;
                inside = inside_both x r.machine.world.ram one.machine.world.ram c.last.world.ram inside c.inside;
                left = c.left;
                seven = c.seven;
                fit = c.fit;
                before = c.before;
                exceptions = c.exceptions ∙ ap (λ (m : ℕ). m + 1) exceptions;
              },
            )
          ]);
    }

pub runs_are_batches : RunsAreBatches
runs_are_batches x script zero r t end b f running on stretch =
    subst (Batch x script zero r t) (sym (run-none r)) (none_yet x script zero r r t running refl refl
    (inl (refl, record { end = end; boarded = b; furnished = f; inside = record { count = refl; below = refl; above = refl }; exceptions = refl })))
runs_are_batches x script (suc n) r t end b f running on (want, tried, more) =
    let g = t.guest in
    let s = user_step r.machine in
    let one = ran_by s r in
    elim (left_or (step_class_at_first script g) tried) [
      | inl retired ↦
          let h = retired_steps x script r.machine g b want.registers retired in
          let goes : one.end ≡ Counted = ends s.0 s.1 h.running ∙ ap end_of h.step in
          let u = retiring t (guest_stepped script g) in
          let going : takes_steps t.guest.machine.state ≡ true = ap takes_steps (running (omega arith)) in
          let native : one.native ≡ with_retired (plain_of g.machine.cpu.regs) (plain_of (guest_stepped script g).machine.cpu.regs) r.native =
          counts_none s.0 (plain_of r.machine.cpu.regs) s.1 r.native h.step
          ∙ ap (λ (p : Plain). with_retired p (plain_of s.1.cpu.regs) r.native) b.plain
          ∙ ap (λ (p : Plain). with_retired (plain_of g.machine.cpu.regs) p r.native) h.boarded.plain in
          subst (Batch x script (suc n) r t) (sym (run_on n r goes))
          (one_more x script n r one (user_run n one) t u going (advanced_is script t (first_is_last x script r.machine g b want.registers retired))
          (plain_of g.machine.cpu.regs) (plain_of (guest_stepped script g).machine.cpu.regs) refl refl
          (let none : t.exceptions + 0 ≡ t.exceptions = omega arith in none) want retired refl
          (inside_by x script r.machine g s (guest_stepped script g) h) h.from.isp native
          (runs_are_batches x script n one u goes h.boarded (stays_furnished x script r.machine g s (guest_stepped script g) h f)
          (λ some. runs_behind x script r.machine g h (on (omega arith))) (λ some. stays_on x script r.machine g h (on (omega arith))) (more retired)))
      | inr left ↦
          let h = left_steps x script r.machine g b f want.registers want.seven left in
          let exits : one.end ≡ Exit h.vector = ends s.0 s.1 h.running ∙ ap end_of h.entered in
          let native : one.native ≡ with_exception r.native = counts_some s.0 h.vector (plain_of r.machine.cpu.regs) s.1 r.native h.entered h.running in
          subst (Batch x script (suc n) r t) (sym (run_off n h.vector r exits))
          (none_yet x script (suc n) r one t running (ap (λ (v : NativeState). v.retired) native) (ap (λ (v : NativeState). v.trail) native) (inr (
            omega arith,
            record {
              vector = h.vector;
              end = exits;
              last = r.machine;
              boarded = b;
              furnished = f;
              isp = refl;
              inside = record { count = refl; below = refl; above = refl };
              left = subst (λ (v : Finish). Leaves x script r.machine g (v, s.1)) h.entered h;
              seven = want.seven;
              fit = want.registers;
              before = b.plain;
              exceptions = ap (λ (v : NativeState). v.exceptions) native;
            },
          )))
    ]
