-- The held bus: a guest's, where each access that its shadow does not allow is refused and changes nothing.
use Rattle.std.specs.Prelude.{ℕ, Bool, true, false, Result, Err}
use Rattle.mb_port.specs.Routine.{Bus, Fetch, Read, Write, ReadLine, WriteLine, Probe}
use Rattle.mb_port.specs.declared.types.Fault.{Fault}
use Rattle.mb_model.specs.Keeping.{rule_k}
use Rattle.def_machine.specs.declared.reference.Reference.{Reference}
use Rattle.def_machine.specs.Bus.{bus_of, fetching_of, reading_of, writing_of, fault_of}
use Rattle.def_guests.specs.Guests.{Guest, allows}

-- the bus of the guest's machine, whatever its shadow says; the shadow stays
abbrev pub plain_bus : Bus Guest
plain_bus c g = let (answer, after) = bus_of rule_k c g.world in (answer, record g { world = after })

-- the answer where it is allowed; else the fault of the reference, and nothing has changed
abbrev pub or_refused : {A : Type 0} → Bool → Result A Fault × Guest → Reference → ℕ → Guest → Result A Fault × Guest
or_refused true answer r len g = answer
or_refused false answer r len g = (Err (fault_of r len true), g)

-- Each access of what the shadow allows is the machine's; any other is refused.
abbrev pub held_bus : Bus Guest
held_bus (Fetch space at) g =
    or_refused (allows g.shadow (fetching_of space at)) (plain_bus (Fetch space at) g) (fetching_of space at) 2 g
held_bus (Read space p) g =
    or_refused (allows g.shadow (reading_of space p.at)) (plain_bus (Read space p) g) (reading_of space p.at) p.len g
held_bus (Write space p value) g =
    or_refused (allows g.shadow (writing_of space p.at)) (plain_bus (Write space p value) g)
    (writing_of space p.at) p.len g
held_bus (ReadLine space at) g =
    or_refused (allows g.shadow (reading_of space at)) (plain_bus (ReadLine space at) g) (reading_of space at) 16 g
held_bus (WriteLine space at line) g =
    or_refused (allows g.shadow (writing_of space at)) (plain_bus (WriteLine space at line) g)
    (writing_of space at) 16 g
held_bus (Probe space p) g =
    or_refused (allows g.shadow (writing_of space p.at)) (plain_bus (Probe space p) g) (writing_of space p.at) p.len g
held_bus c g = plain_bus c g
