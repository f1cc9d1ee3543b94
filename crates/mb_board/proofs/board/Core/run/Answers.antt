use Rattle.std.proofs.Common.{◌≡◌, ◌∙◌, ◌-◌, ◌+◌, ℕ, ap, inl, inr, subst, sym, arith}
use Rattle.mb_instr.specs.Registers.{plain_of}
use Rattle.mb_instr.specs.declared.registers.Plain.{Plain}
use Rattle.def_runs.specs.declared.RunEnd.{RunEnd}
use Rattle.def_runs.specs.Native.{NativeState, about_to_run, ended_by, with_step}
use Rattle.def_runs.proofs.RunEnds.{run-none}
use Rattle.mb_board.specs.Spelling.{gathered, Begins}
use Rattle.mb_board.proofs.UserRuns.{IsLast, led_behind, led_on, no-step, ran_of, run_ends}
use Rattle.mb_board.proofs.board.Core.run.Goals.{then-left-eq0-via-then-left-eq0, then-left-eq0-via-else-left-eq0+then-not-goes_on}
use Rattle.mb_board.proofs.board.Core.run.Goals as goal

-- what is counted, by its three numbers
counted_so : (n m : NativeState) → n.retired ≡ m.retired → n.exceptions ≡ m.exceptions → n.trail ≡ m.trail → n ≡ m
counted_so n m retired exceptions trail = λ i. record { retired = retired i; exceptions = exceptions i; trail = trail i }

pub returns-then-limit-eq0-clause-means : goal.returns-then-limit-eq0-clause-means
returns-then-limit-eq0-clause-means c =
    no-step c.args.limit (about_to_run c.args.self.now c.args.native.now c.args.before.now) c.if-limit-eq0.true

pub loop-left-preserved : goal.loop-left-preserved
loop-left-preserved c =
    let most = c.args.limit - 1 in
    let calm = c.run_calmly-left in
    let held = c.loop-left.invariant in
    let m = calm.new.self in
    let native = c.args.native.now in
    let begun = c.begun-begun.result in
    let behind = led_behind most c.loop-left.left calm.result c.args.self.now c.loop-left.self m native begun c.loop-left.ends calm.new.ends
    (omega arith) calm.ensures.within held.leads calm.ensures.means in
    record {
      within = (omega arith);
      leads = led_on most calm.result (most - calm.result) (most - (calm.result - 1)) c.args.self.now m c.run_on-finish.new.self c.run_on-finish.result
          native begun calm.new.ends c.enter.new.ends (omega arith) (omega arith) (omega arith) c.run_on-finish.ensures.means
          (sym c.goes_on.ensures ∙ c.if-not-goes_on.false) (λ n. c.enter.ensures.ends (plain_of m.cpu.regs) n begun (most - calm.result)) behind;
      digits = c.enter.ensures.digits;
      native = held.native;
      ram = c.run_on-finish.ensures.ram ∙ calm.ensures.ram ∙ held.ram;
    }

pub returns-then-left-eq0 : goal.returns-then-left-eq0
returns-then-left-eq0 c =
    let most = c.args.limit - 1 in
    let calm = c.run_calmly-left in
    let held = c.loop-left.invariant in
    let m = calm.new.self in
    let f = c.run_on-finish.result in
    let after = c.run_on-finish.new.self in
    let before = c.run_on-finish.new.before in
    let native = c.args.native.now in
    let p = plain_of m.cpu.regs in
    let begun = c.begun-begun.result in
    let behind = led_behind most c.loop-left.left calm.result c.args.self.now c.loop-left.self m native begun c.loop-left.ends calm.new.ends
    (omega arith) calm.ensures.within held.leads calm.ensures.means in
    let begins = subst (λ (t : ℕ). Begins p behind.counted t) (sym c.gathered.ensures) behind.begins in
    let counted = counted_so c.retire_all.new.self behind.counted
    (c.retire_all.ensures.retired ∙ ap (λ (n : NativeState). n.retired + (most - calm.result)) held.native ∙ sym behind.retired)
    (c.retire_all.ensures.exceptions ∙ ap (λ (n : NativeState). n.exceptions) held.native ∙ sym behind.exceptions)
    (c.retire_all.ensures.trail p behind.counted begins (rw c.run_on-finish.ensures.before at c.spelling-beginning.ensures)) in
    let last : IsLast calm.result f after = elim c.then-left-eq0.branch [
      | then-left-eq0-via-then-left-eq0 w ↦ inl w.if-left-eq0.true
      | then-left-eq0-via-else-left-eq0+then-not-goes_on w ↦ inr (sym w.goes_on.ensures ∙ w.if-not-goes_on.true)
    ] in
    let ends = run_ends c.args.limit calm.result c.args.self.now m after f native c.args.before.now (gathered begun (most - calm.result) calm.new.ends)
    (omega arith) behind c.run_on-finish.ensures.means last in
    record {
      means =
          ap (λ (e : RunEnd). ran_of e after c.count.new.native before) c.ended_by.ensures
          ∙ ap (λ (n : NativeState). ran_of (ended_by f after) after n before) c.count.ensures
          ∙ ap (λ (b : Plain). ran_of (ended_by f after) after (with_step f b after c.retire_all.new.self) b) c.run_on-finish.ensures.before
          ∙ ap (λ (n : NativeState). ran_of (ended_by f after) after (with_step f p after n) p) counted
          ∙ sym (run-none (ran_of (ended_by f after) after (with_step f p after behind.counted) p)) ∙ ends.run;
      fit = ends.fit tt;
      ram = c.run_on-finish.ensures.ram ∙ calm.ensures.ram ∙ held.ram;
    }
