use Rattle.std.proofs.Common.{◌∙◌, ℕ, length, sym, subst}
use Rattle.std.specs.Prelude.{All}
use Rattle.mb_srec.specs.Image.{LiesBelow, all_contents, contents_of}
use Rattle.mb_walk.specs.Memory.{Contents, contents_from}
use Rattle.mb_walk.proofs.MemoryLemmas.{contents-from_zero}
use Rattle.mb_program.proofs.MachineLemmas.{board_starts}
use Rattle.mb_program.proofs.machine.start_board.Goals as goal

pub load-requires : goal.load-requires
load-requires c = record {
  lie = subst (λ (contents : Contents). All (LiesBelow (length c.in_ok-board.board.world.ram)) contents)
      (sym (contents-from_zero (all_contents c.chunks.result.now) ∙ c.chunks.ensures))
      (subst (λ (n : ℕ). All (LiesBelow n) (contents_of c.args.image.now)) (sym c.in_ok-board.ensures.ram) c.requires.in_ram);
}

pub returns-clause-start : goal.returns-clause-start
returns-clause-start c =
    board_starts c.args.size (contents_of c.args.image.now) (contents_from 0 (all_contents c.chunks.result.now)) c.in_ok-board.board c.load.new.self
    c.reset.new.self (contents-from_zero (all_contents c.chunks.result.now) ∙ c.chunks.ensures) c.in_ok-board.ensures.made c.load.ensures.after
    c.reset.ensures.after
