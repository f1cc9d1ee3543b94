-- What the grammar writes before an outcome, and for a disk, is what is written for a guest.
use Rattle.std.specs.Prelude.{◌≡◌, ℕ, ◌*◌}
use Rattle.std.specs.Int.{from_bool}
use Rattle.vm_disk.specs.Disk.{DiskState, IsDisk, blocks_in}
use Rattle.vm_disk.specs.Text.{disk_text}
use Rattle.vm_snapshot.specs.Guests.{Disk, Front, disk, front}
use Rattle.vm_snapshot.specs.Memory.{AreBytes}
use Rattle.vm_snapshot.specs.Memories.{rows_of}
use Rattle.vm_snapshot.specs.Texts.{front_text}

-- the lines before the outcome,
abbrev pub FrontsAreWritten : Type 0
FrontsAreWritten = (first : Front) → front.IsLawful first
    → front.write first ≡ front_text first.ram first.kept first.input

abbrev pub disk_of : DiskState → Disk
disk_of d = record {
  blocks = blocks_in d;
  block = d.block;
  outcome = from_bool d.refused;
  position = d.position;
  buffer = d.buffer;
  lines = rows_of 0 (32 * blocks_in d) d.bytes;
}

-- and those of a disk.
abbrev pub DisksAreWritten : Type 0
DisksAreWritten = (i : ℕ) (d : DiskState) → IsDisk d → AreBytes d.buffer
    → (disk i).write (disk_of d) ≡ disk_text i d
