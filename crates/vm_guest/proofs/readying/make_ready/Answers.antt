use Rattle.std.proofs.Common.{ap, sym}
use Rattle.vm_guest.proofs.MadeReady.{state_is, world_is}
use Rattle.vm_guest.proofs.readying.make_ready.Goals as goal

pub returns-clause-world : goal.returns-clause-world
returns-clause-world c =
    world_is c.args.root c.args.board.now.world.devices c.args.board.now.world.ram
    c.reset.new.self c.set_mmu.new.self c.set_mmu-2.new.self c.set_mmu-3.new.self c.reset.ensures.after
    (record { world = sym (ap (λ r. r.1) c.set_mmu.ensures.means); rest = c.set_mmu.ensures.rest })
    (record { world = sym (ap (λ r. r.1) c.set_mmu-2.ensures.means); rest = c.set_mmu-2.ensures.rest })
    (record { world = sym (ap (λ r. r.1) c.set_mmu-3.ensures.means); rest = c.set_mmu-3.ensures.rest })
    c.requires.root c.ranges.root.fits

pub returns-clause-state : goal.returns-clause-state
returns-clause-state c =
    state_is c.args.root c.args.board.now.world.devices c.args.board.now.world.ram
    c.reset.new.self c.set_mmu.new.self c.set_mmu-2.new.self c.set_mmu-3.new.self c.reset.ensures.after
    (record { world = sym (ap (λ r. r.1) c.set_mmu.ensures.means); rest = c.set_mmu.ensures.rest })
    (record { world = sym (ap (λ r. r.1) c.set_mmu-2.ensures.means); rest = c.set_mmu-2.ensures.rest })
    (record { world = sym (ap (λ r. r.1) c.set_mmu-3.ensures.means); rest = c.set_mmu-3.ensures.rest })
