use Rattle.std.proofs.Common.{◌≡◌, ◌==◌, ℕ, not, rules, tests}
use Rattle.std.specs.List.{filter}
use Rattle.arrayvec.proofs.ArrayVecLemmas.{filter-from_retain}
use Rattle.vm_debug.proofs.debugger.Debugger.remove.Goals as goal

pub returns-clause-removed : goal.returns-clause-removed
returns-clause-removed c =
    let left : c.retain.new.self.items ≡ filter (λ (other : ℕ). not (other == c.args.at)) c.self.inside.breaks.items =
    filter-from_retain _ (λ other. not (other == c.args.at)) _ (λ k b f y t. search (rules, tests)) _ _ c.retain.ensures.filtered in cc
