-- What is saved of a guest's machine is lawful.
use Rattle.std.proofs.Common.{◌≡◌, ◌+◌, ◌*◌, ◌/◌, ◌%◌, ◌<◌, Bool, true, false, refl, sym, subst, arith}
use Rattle.std.specs.Int.{from_bool}
use Rattle.mb_devices.specs.Devices.{has_received}
use Rattle.mb_saved.specs.Saved.{IsRamBytes}
use Rattle.mb_saved.proofs.Lines.{lines_ascend, lines_lie_in_memory}
use Rattle.def_machine.specs.Machine.{reset_with}
use Rattle.def_machine.proofs.Beneath.{runs_leave_the_size}
use Rattle.vm_saved.specs.Lawful.{GuestsAreLawful, RunsAreGuests, SavedAreGuests, StartsAreGuests}
use Rattle.vm_saved.proofs.Rooms.{runs_keep_room}
use Rattle.vm_saved.proofs.RunBits.{runs_keep_bits, starts_have_bits}
use Rattle.vm_saved.proofs.Saving.{lines_count, loaded_count}

-- ---- at the start, as it was saved, and where a run comes

pub starts_are_guests : StartsAreGuests
unfolding reset_with
starts_are_guests rule opening size is lie = record {
  ram = subst IsRamBytes (sym (loaded_count size opening.image lie)) is;
  bits = starts_have_bits rule opening size;
  devices = record { queue = omega arith; console = omega arith; count = omega arith; runs = λ some. some };
}

pub saved_are_guests : SavedAreGuests
saved_are_guests disk s lawful = record {
  ram = subst IsRamBytes (sym (lines_count s.ram s.lines lawful.lines)) lawful.ram;
  bits = lawful.bits;
  devices = record { queue = lawful.queue; console = lawful.console; count = lawful.count; runs = lawful.runs };
}

pub runs_are_guests : RunsAreGuests
runs_are_guests rule script n m is = record {
  ram = subst IsRamBytes (sym (runs_leave_the_size rule script n m)) is.ram;
  bits = runs_keep_bits rule script n m is.bits;
  devices = runs_keep_room rule script n m is.devices;
}

-- ---- what is saved of it

agrees : (received overrun : Bool)
    → from_bool received + 2 + 4 * from_bool overrun
    ≡ from_bool received + 2 + 4 * ((from_bool received + 2 + 4 * from_bool overrun) / 4 % 2)
agrees true true = refl
agrees true false = refl
agrees false true = refl
agrees false false = refl

is_bit : (b : Bool) → from_bool b < 2
is_bit true = omega arith
is_bit false = omega arith

pub guests_are_lawful : GuestsAreLawful
guests_are_lawful m is kept =
    let d = m.world.devices in record {
      ram = is.ram;
      bits = record {
        status = is.bits.status;
        source = is.bits.source;
        destination = is.bits.destination;
        caches = is.bits.caches;
        translation = is.bits.translation;
      };
      stopped = refl;
      kept = kept;
      lines = lines_lie_in_memory m.world.ram;
      in_order = lines_ascend m.world.ram;
      console = is.devices.console;
      queue = is.devices.queue;
      status = agrees (has_received d) d.overrun;
      ctrl = is_bit d.enabled;
      count = is.devices.count;
      runs = is.devices.runs;
      pending = is_bit d.pending;
    }
