use Rattle.std.proofs.Common.{◌≡◌, ◌∙◌, ◌+◌, ◌*◌, ℕ, List, replicate, ap, arith, rules}
use Rattle.mb_walk.specs.Memory.{overwritten}
use Rattle.mb_board.specs.State.{BoardState}
use Rattle.vm_guest.proofs.Loads.{more_zeros}
use Rattle.vm_guest.proofs.loading.clear.Goals as goal

pub loop-page-preserved : goal.loop-page-preserved
loop-page-preserved c =
    let ram = c.args.board.now.world.ram in
    let done = c.loop-page.page * 4096 in
    record {
      zeros = ap (λ (b : BoardState). b.world.ram) c.write_phys.ensures.after
          ∙ ap (λ (m : List ℕ). overwritten m (c.args.base + done) (replicate 4096 0)) c.loop-page.invariant.zeros
          ∙ more_zeros ram c.args.base done 4096 (omega arith)
          ∙ ap (λ (n : ℕ). overwritten ram c.args.base (replicate n 0)) (let e : done + 4096 ≡ (c.loop-page.page + 1) * 4096 = omega arith in e);
      others = search rules;
    }
