use Rattle.std.proofs.Common.{◌≡◌, ◌∙◌, ℕ, List, length, ap, sym, subst, arith}
use Rattle.std.specs.Prelude.{All}
use Rattle.mb_srec.specs.Image.{contents_of, LiesBelow}
use Rattle.mb_walk.specs.Memory.{Contents, number_at, overwritten, with_contents, contents_from}
use Rattle.mb_model.specs.Reset.{at_reset}
use Rattle.mb_board.specs.State.{BoardState}
use Rattle.vm_guest.specs.Counting.{tally_in}
use Rattle.vm_guest.proofs.Loads.{zeros, lie_inside}
use Rattle.vm_guest.proofs.Prepared.{Laid, laid, cleared_count, starts, seated}
use Rattle.vm_guest.proofs.guest.Guest.prepare.Goals as goal

pub load-requires : goal.load-requires
load-requires c =
    let ram = c.args.board.now.world.ram in
    let inside = c.requires.inside in
    let cleared : c.clear.new.board.world.ram ≡ overwritten ram c.args.base (zeros c.args.ram) =
    ap (λ (b : BoardState). b.world.ram) c.clear.ensures.after in
    let count : length c.clear.new.board.world.ram ≡ length ram =
    ap (λ (m : List ℕ). length m) cleared ∙ cleared_count ram c.args.base c.args.ram (omega (arith, inside)) in
    record {
      lie = lie_inside (length c.clear.new.board.world.ram) c.args.base c.args.ram _ (omega (arith, inside, count))
          (subst (λ (x : Contents). All (LiesBelow c.args.ram) x) (sym c.chunks.ensures) c.requires.image);
    }

is_laid : (c : goal.After-drop-image-2)
    → Laid c.args.base c.args.ram (contents_of c.args.image) c.args.board.now.world.ram c.clear-2.new.ram.world.ram
is_laid c =
    let ram = c.args.board.now.world.ram in
    let contents = contents_of c.args.image in
    let cleared : c.clear.new.board.world.ram ≡ overwritten ram c.args.base (zeros c.args.ram) =
    ap (λ (b : BoardState). b.world.ram) c.clear.ensures.after in
    let loaded = ap (λ (b : BoardState). b.world.ram) c.load.ensures.after
    ∙ ap (λ (x : Contents). with_contents c.clear.new.board.world.ram (contents_from c.args.base x)) c.chunks.ensures
    ∙ ap (λ (m : List ℕ). with_contents m (contents_from c.args.base contents)) cleared in
    laid c.args.base c.args.ram c.in_ok-shadow.shadow.area contents ram c.load.new.self.world.ram c.clear-2.new.ram.world.ram
    c.requires.inside c.requires.image c.in_ok-shadow.ensures.0 loaded c.clear-2.ensures.outside.count
    c.clear-2.ensures.outside.below c.clear-2.ensures.outside.above

pub returns-clause-start : goal.returns-clause-start
returns-clause-start c =
    let after = c.clear-2.new.ram.world.ram in
    let big = c.requires.ram.0 in
    starts c.args.base c.args.ram (contents_of c.args.image) after c.at_reset.result c.in_ok-devices.devices c.in_ok-tlb.tlb c.clear-2.new.self c.args.script
    (tally_in c.none.result) (omega (arith, big)) (is_laid c).ram_is
    (c.at_reset.ensures ∙ ap (λ (n : ℕ). at_reset n c.long-2.result) c.long.ensures
    ∙ ap (λ (n : ℕ). at_reset (number_at after c.args.base 4) n) c.long-2.ensures)
    c.in_ok-devices.ensures c.in_ok-tlb.ensures c.clear-2.ensures.shadow c.none.ensures

pub returns-clause-seated : goal.returns-clause-seated
returns-clause-seated c =
    let after = c.clear-2.new.ram.world.ram in
    let inside = c.requires.inside in
    let count = (is_laid c).within.count in
    seated c.args.base c.args.ram after c.at_reset.result c.in_ok-devices.devices c.in_ok-tlb.tlb c.clear-2.new.self c.args.script
    (tally_in c.none.result) c.requires.base.0 c.requires.base.1 c.requires.ram.1 (omega (arith, inside, count))
    (c.clear-2.ensures.area ∙ c.in_ok-shadow.ensures.0)
    c.clear-2.ensures.tables c.clear-2.ensures.shadow

pub returns-clause-within : goal.returns-clause-within
returns-clause-within c = (is_laid c).within
