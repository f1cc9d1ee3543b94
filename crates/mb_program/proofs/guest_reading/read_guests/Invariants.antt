use Rattle.std.proofs.Common.{◌≡◌, drop, length, map}
use Rattle.std.specs.Prelude.{All}
use Rattle.mb_script.specs.Answers.{guest_said}
use Rattle.vm_guest.specs.Session.{IsGuest}
use Rattle.mb_files.specs.Shelves.{shelf_seen}
use Rattle.mb_program.proofs.GuestLemmas.{ReadSoFar}
use Rattle.mb_program.proofs.guest_reading.read_guests.Given as goal

abbrev pub invariant-loop-plan : goal.invariant-loop-plan
invariant-loop-plan g l = record {
  read : ReadSoFar (map guest_said l.plans) (drop l.plan-index (map guest_said l.plans)) l.guests.items
      (shelf_seen g.F.Shelf l.initial.shelf)
      (shelf_seen g.F.Shelf l.shelf);
  in_range : All IsGuest l.guests.items;
  count : length l.guests.items ≡ l.plan-index;
}
