use Rattle.std.proofs.Common.{◌≡◌, ◌∙◌, ◌↔◌, ℕ, List, true, false, sym, ap, subst, refl}
use Rattle.std.specs.Prelude.{Option, Some, None, IsNone, is_some}
use Rattle.mb_model.specs.Seen.{Seen, seen_of}
use Rattle.mb_board.specs.State.{machine_in}
use Rattle.def_machine.specs.Machine.{seen_machine}
use Rattle.try_runs.specs.declared.cases.case.Case.{Case}
use Rattle.try_runs.specs.Cases.{registers_of, said_of, HasRegisters, IsAsSaid}
use Rattle.try_runs.proofs.cases.machine.compare.Goals as goal

-- a register is another
another : {D : Type 0} (case : Case) (memory : List ℕ) (shown got : Seen) (registers : List ℕ) (found : Option D) (first : D)
    → shown ≡ got → registers ≡ registers_of shown.cpu shown.mmu → IsNone found ↔ HasRegisters case registers → found ≡ Some first
    → IsAsSaid case memory got → true ≡ false
another case memory shown got registers found first same are tells some said =
    let has : HasRegisters case (registers_of shown.cpu shown.mmu) =
    subst (λ (g : Seen). HasRegisters case (registers_of g.cpu g.mmu)) (sym same) said.registers in
    sym (ap is_some some) ∙ tells.1 (subst (λ (r : List ℕ). HasRegisters case r) (sym are) has)

-- none is, so that all is as said where the rest is
rest_decides : {D : Type 0} (case : Case) (memory : List ℕ) (shown got : Seen) (registers : List ℕ) (found rest : Option D)
    → shown ≡ got → registers ≡ registers_of shown.cpu shown.mmu → IsNone found ↔ HasRegisters case registers → found ≡ None
    → IsNone rest ↔ (shown ≡ said_of case memory shown) → IsNone rest ↔ IsAsSaid case memory got
rest_decides case memory shown got registers found rest same are tells none decides =
    let has : HasRegisters case registers = tells.0 (rw none refl) in
    let here : IsNone rest ↔ IsAsSaid case memory shown = (
      λ is. record { registers = subst (λ (r : List ℕ). HasRegisters case r) are has; beside = decides.0 is },
      λ said. decides.1 said.beside,
    ) in
    subst (λ (g : Seen). IsNone rest ↔ IsAsSaid case memory g) same here

pub returns-in-Some : goal.returns-in-Some
returns-in-Some c = (
  λ (wrong : true ≡ false). (let none : ⊥ = cc in absurd none),
  another c.args.case.now c.args.ram.now (seen_of c.outcome-got.result) (seen_machine (machine_in c.args.board.now))
      c.registers_of.result c.first_register.result _ c.outcome-got.ensures c.registers_of.ensures c.first_register.ensures c.in-Some.is,
)

pub returns-in-None : goal.returns-in-None
returns-in-None c =
    rest_decides c.args.case.now c.args.ram.now (seen_of c.outcome-got.result) (seen_machine (machine_in c.args.board.now))
    c.registers_of.result c.first_register.result c.compare_rest.result c.outcome-got.ensures c.registers_of.ensures
    c.first_register.ensures c.in-None.is c.compare_rest.ensures
