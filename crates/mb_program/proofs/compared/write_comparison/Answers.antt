use Rattle.std.proofs.Common.{◌≡◌, ◌∙◌, List, ◌∷◌, length, map, ap, sym, subst, arith}
use Rattle.std.specs.Prelude.{◌&&◌, Bool}
use Rattle.std.specs.List.{list_all}
use Rattle.std.specs.Vec.Iter.{into_iter_items, into_iter_len}
use Rattle.std.proofs.lemmas.Result.{err_from_is_err_and}
use Rattle.mb_outside.specs.Prints.{Printed}
use Rattle.vm_slices.specs.Places.{members_in}
use Rattle.mb_ends.specs.Texts.{texts_from}
use Rattle.mb_program.specs.Answers.{compared_text}
use Rattle.mb_program.specs.Compares.{ahead_of, same_each}
use Rattle.mb_program.specs.declared.bare_machine.BareMachine.{BareMachine}
use Rattle.mb_program.proofs.CompareLemmas.{all_found, left_behind, next_found, still_all}
use Rattle.mb_ends.proofs.TextLemmas.{cut_more, printed_more}
use Rattle.mb_program.proofs.compared.write_comparison.Goals as goal

pub returns-in_err-write_compared-clause-printed : goal.returns-in_err-write_compared-clause-printed
returns-in_err-write_compared-clause-printed g c =
    let machines = c.args.machines.items in
    let host = c.args.host.now in
    let k = c.loop-machine.number in
    let same = c.is_same_as-is_same.result in
    let left = c.loop-machine.invariant.left ∙ c.in-Some.ensures.steps.0 in
    let here = next_found machines host k c.in-Some.machine (into_iter_items c.next.new.self) same left c.requires.count c.is_same_as-is_same.ensures in
    let p = err_from_is_err_and c.from_residual.result c.from_residual.ensures.1 in
    rw p.1 (cut_more compared_text k (same_each (map ahead_of machines) (members_in host)) same here c.loop-machine.invariant.printed
    c.in_err-write_compared.ensures)

pub loop-machine-preserved-then-all_same : goal.loop-machine-preserved-then-all_same
loop-machine-preserved-then-all_same g c =
    let machines = c.args.machines.items in
    let host = c.args.host.now in
    let k = c.loop-machine.number in
    let m = c.in-Some.machine in
    let rest = into_iter_items c.next.new.self in
    let same = c.is_same_as-is_same.result in
    let left = c.loop-machine.invariant.left ∙ c.in-Some.ensures.steps.0 in
    let here = next_found machines host k m rest same left c.requires.count c.is_same_as-is_same.ensures in
    record {
      rest =
          let count : into_iter_len c.loop-machine.machine-iterator ≡ length (m ∷ rest) =
          c.loop-machine.invariant.rest ∙ ap (λ (ms : List BareMachine). length ms) c.in-Some.ensures.steps.0 in
          let one = c.in-Some.ensures.steps.1 in omega arith;
      left = left_behind machines k m rest left;
      printed = printed_more compared_text k (same_each (map ahead_of machines) (members_in host)) same here c.loop-machine.invariant.printed
          c.in_ok-write_compared.ensures;
      all = sym (ap (λ (b : Bool). b && same) c.if-all_same.true)
          ∙ still_all (same_each (map ahead_of machines) (members_in host)) k c.loop-machine.all_same same here c.loop-machine.invariant.all;
    }

pub loop-machine-preserved : goal.loop-machine-preserved
loop-machine-preserved g c =
    let machines = c.args.machines.items in
    let host = c.args.host.now in
    let k = c.loop-machine.number in
    let m = c.in-Some.machine in
    let rest = into_iter_items c.next.new.self in
    let same = c.is_same_as-is_same.result in
    let left = c.loop-machine.invariant.left ∙ c.in-Some.ensures.steps.0 in
    let here = next_found machines host k m rest same left c.requires.count c.is_same_as-is_same.ensures in
    record {
      rest =
          let count : into_iter_len c.loop-machine.machine-iterator ≡ length (m ∷ rest) =
          c.loop-machine.invariant.rest ∙ ap (λ (ms : List BareMachine). length ms) c.in-Some.ensures.steps.0 in
          let one = c.in-Some.ensures.steps.1 in omega arith;
      left = left_behind machines k m rest left;
      printed = printed_more compared_text k (same_each (map ahead_of machines) (members_in host)) same here c.loop-machine.invariant.printed
          c.in_ok-write_compared.ensures;
      all = c.if-all_same.false ∙ sym (ap (λ (b : Bool). b && same) c.if-all_same.false)
          ∙ still_all (same_each (map ahead_of machines) (members_in host)) k c.loop-machine.all_same same here c.loop-machine.invariant.all;
    }

pub returns-clause-printed : goal.returns-clause-printed
returns-clause-printed g c =
    let out = c.args.out.now in
    let after = c.loop-machine.out in
    subst (λ (found : List Bool).
    Printed (g.O.Sink.taken out) (g.O.Sink.taken after) (g.O.Sink.faults out) (g.O.Sink.faults after) (texts_from compared_text 1 found))
    (all_found c.args.machines.items c.args.host.now c.loop-machine.number (into_iter_items c.loop-machine.machine-iterator)
    c.loop-machine.invariant.left (sym c.loop-machine.invariant.rest ∙ c.in-None.ensures.steps.0))
    c.loop-machine.invariant.printed

pub returns-clause-all : goal.returns-clause-all
returns-clause-all g c =
    c.loop-machine.invariant.all
    ∙ ap (λ (found : List Bool). list_all (λ (same : Bool). same) found)
    (all_found c.args.machines.items c.args.host.now c.loop-machine.number (into_iter_items c.loop-machine.machine-iterator)
    c.loop-machine.invariant.left (sym c.loop-machine.invariant.rest ∙ c.in-None.ensures.steps.0))
