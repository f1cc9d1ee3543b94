use Rattle.std.proofs.Common.{◌∙◌, ap, List, ℕ, replicate}
use Rattle.mb_walk.specs.Memory.{with_contents}
use Rattle.try_runs.specs.Cases.{contents_of}
use Rattle.try_runs.proofs.cases.machine.load.Goals as goal

pub returns : goal.returns
returns c =
    let zeros = c.fill.ensures.after (λ y same. same) in
    c.put_all.ensures
    ∙ ap (λ (ram : List ℕ). with_contents ram (contents_of c.args.image.now))
    (zeros ∙ ap (λ (n : ℕ). replicate n 0) c.requires)
