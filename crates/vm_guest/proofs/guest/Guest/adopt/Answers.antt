use Rattle.std.proofs.Common.{◌≡◌, ◌∙◌, ℕ, ◌+◌, List, length, ap, sym, subst, arith}
use Rattle.std.specs.Prelude.{All}
use Rattle.mb_srec.specs.Image.{LiesBelow}
use Rattle.mb_saved.specs.declared.line.RamLine.{RamLine}
use Rattle.mb_saved.specs.Saved.{IsLine}
use Rattle.mb_walk.specs.Memory.{overwritten, with_contents, contents_from}
use Rattle.mb_board.specs.State.{BoardState}
use Rattle.vm_shadow.specs.Shadows.{nothing}
use Rattle.def_guests.specs.Seats.{Seat, shadow_on, IsSeated}
use Rattle.vm_saved.specs.Begins.{beginning}
use Rattle.mb_saved.specs.Lines.{contents_of}
use Rattle.vm_saved.specs.Saved.{machine_of}
use Rattle.vm_guest.specs.Memory.{OnlyBetween}
use Rattle.vm_guest.specs.Counting.{tally_in}
use Rattle.vm_guest.proofs.Adopted.{LinesLaid, lines_laid, lines_lie, adopted_seated, adopted_begins, empty_on}
use Rattle.vm_guest.proofs.Loads.{zeros, lie_inside}
use Rattle.vm_guest.proofs.Prepared.{cleared_count}
use Rattle.vm_guest.proofs.guest.Guest.adopt.Goals as goal

pub load_lines-requires-clause-lie : goal.load_lines-requires-clause-lie
load_lines-requires-clause-lie c =
    let x = c.args.board.now.world.ram in
    let base = c.self.inside.base in
    let size = c.self.inside.size in
    let seated = subst (λ (g : Seat). IsSeated g x) (sym c.self.view_is) c.requires.seated in
    let within = seated.inside in
    let sized : c.args.saved.now.ram ≡ size = c.requires.size ∙ ap (λ (g : Seat). g.size) (sym c.self.view_is) in
    let cleared : c.clear.new.board.world.ram ≡ overwritten x base (zeros size) = ap (λ (b : BoardState). b.world.ram) c.clear.ensures.after in
    let count : length c.clear.new.board.world.ram ≡ length x =
    ap (λ (m : List ℕ). length m) cleared ∙ cleared_count x base size (omega (arith, within)) in
    let lines = subst (λ (l : List RamLine). All (IsLine c.args.saved.now.ram) l) (sym c.lines.ensures) c.requires.lawful.lines in
    let lie = subst (λ (n : ℕ). All (LiesBelow n) (contents_of c.lines.result.now)) sized
    (lines_lie c.args.saved.now.ram c.lines.result.now lines) in
    lie_inside (length c.clear.new.board.world.ram) base size (contents_of c.lines.result.now) (omega (arith, within, count)) lie

-- the guest as it was, by its parts
abbrev before : (c : goal.After-self-8-1) → Seat
before c = record {
  cpu = c.self.inside.cpu;
  mmu = c.self.inside.mmu;
  devices = c.self.inside.devices;
  kept = c.self.inside.tlb;
  slots = c.self.inside.shadow;
  script = c.self.inside.script;
  steps = c.self.inside.steps;
  state = c.self.inside.state;
  tally = tally_in c.self.inside.counts;
  base = c.self.inside.base;
  size = c.self.inside.size;
}

is_seated : (c : goal.After-self-8-1) → IsSeated (before c) c.args.board.now.world.ram
is_seated c = subst (λ (g : Seat). IsSeated g c.args.board.now.world.ram) (sym c.self.view_is) c.requires.seated

is_empty : (c : goal.After-self-8-1) → shadow_on (before c) c.args.board.now.world.ram ≡ nothing
is_empty c =
    let fresh : c.self.inside.steps ≡ 0 = ap (λ (g : Seat). g.steps) c.self.view_is ∙ c.requires.fresh in
    empty_on (before c) c.args.board.now.world.ram (is_seated c) (c.self.invariant.3 fresh)

is_sized : (c : goal.After-self-8-1) → c.args.saved.now.ram ≡ c.self.inside.size
is_sized c = c.requires.size ∙ ap (λ (g : Seat). g.size) (sym c.self.view_is)

is_laid : (c : goal.After-self-8-1)
    → LinesLaid c.self.inside.base c.self.inside.size (contents_of c.args.saved.now.lines) c.args.board.now.world.ram c.load_lines.new.board.world.ram
is_laid c =
    let x = c.args.board.now.world.ram in
    let base = c.self.inside.base in
    let size = c.self.inside.size in
    let within = (is_seated c).inside in
    let lie = subst (λ (n : ℕ). All (LiesBelow n) (contents_of c.args.saved.now.lines)) (is_sized c)
    (lines_lie c.args.saved.now.ram c.args.saved.now.lines c.requires.lawful.lines) in
    let cleared : c.clear.new.board.world.ram ≡ overwritten x base (zeros size) = ap (λ (b : BoardState). b.world.ram) c.clear.ensures.after in
    let loaded : c.load_lines.new.board.world.ram ≡ with_contents c.clear.new.board.world.ram (contents_from base (contents_of c.lines.result.now)) =
    ap (λ (b : BoardState). b.world.ram) c.load_lines.ensures.after in
    lines_laid base size (contents_of c.args.saved.now.lines) x c.load_lines.new.board.world.ram (omega (arith, within)) lie
    (loaded
    ∙ ap (λ (l : List RamLine). with_contents c.clear.new.board.world.ram (contents_from base (contents_of l))) c.lines.ensures
    ∙ ap (λ (m : List ℕ). with_contents m (contents_from base (contents_of c.args.saved.now.lines))) cleared)

pub returns-clause-begins : goal.returns-clause-begins
returns-clause-begins c =
    adopted_begins (before c) c.args.board.now.world.ram c.load_lines.new.board.world.ram c.self.inside.devices.disk c.args.saved.now
    c.cpu.result.now c.mmu.result.now c.adopt.new.self c.adopt_kept.new.tlb c.steps-self-inside.result c.state-self-inside.result
    (tally_in c.none-self-inside.result)
    (record {
      cpu_is = c.cpu.ensures;
      mmu_is = c.mmu.ensures;
      devices_are = c.adopt.ensures;
      kept_is = c.adopt_kept.ensures ∙ c.kept.ensures;
      steps_are = c.steps-self-inside.ensures;
      state_is = c.state-self-inside.ensures;
      uncounted = c.none-self-inside.ensures;
    })
    (is_sized c) (is_seated c) (is_empty c) (is_laid c)
    ∙ ap (λ (g : Seat). beginning (machine_of g.devices.disk c.args.saved.now)) c.self.view_is

pub returns-clause-seated : goal.returns-clause-seated
returns-clause-seated c =
    adopted_seated (before c) c.args.board.now.world.ram c.load_lines.new.board.world.ram
    c.cpu.result.now c.mmu.result.now c.adopt.new.self c.adopt_kept.new.tlb c.steps-self-inside.result c.state-self-inside.result
    (tally_in c.none-self-inside.result)
    (is_seated c) (is_empty c) (is_laid c).within

pub returns-clause-within : goal.returns-clause-within
returns-clause-within c =
    subst (λ (g : Seat). OnlyBetween g.base (g.base + g.size) c.args.board.now.world.ram c.load_lines.new.board.world.ram)
    c.self.view_is (is_laid c).within
