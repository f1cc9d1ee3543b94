-- A disk, and what happens to it.
use Rattle.std.specs.Prelude.{◌≡◌, ℕ, ◌+◌, ◌*◌, ◌/◌, ◌%◌, ◌<◌, ◌≤◌, ◌==◌, Bool, true, false, List, length, replicate, nat_lt, if◌then◌else◌}
use Rattle.mb_walk.specs.Memory.{Contents, overwritten, part, with_contents, with_number}
use Rattle.vm_disk.specs.declared.disk.TheConstants.{BLOCK_BYTES, MOST_BLOCKS}

pub record DiskState : Type 0 where
  -- the bytes of all blocks, one block behind the other
  pub bytes : List ℕ
  -- BLOCK: the block that a command names
  pub block : ℕ
  -- RESULT is 1: the last command was refused
  pub refused : Bool
  -- POSITION: where DATA stands in the buffer
  pub position : ℕ
  pub buffer : List ℕ

-- so many bytes, each 0
unfoldable pub zeros : ℕ → List ℕ
zeros size = replicate size 0

-- how many blocks there are
abbrev pub blocks_in : DiskState → ℕ
blocks_in d = length d.bytes / BLOCK_BYTES

-- a block: 512 bytes
abbrev pub block_of : ℕ → DiskState → List ℕ
block_of k d = part d.bytes (BLOCK_BYTES * k) BLOCK_BYTES

-- A disk with so many blocks as it opens: all is 0 but what the contents give, later ones over earlier ones.
abbrev pub opened : (blocks : ℕ) → Contents → DiskState
opened blocks contents = record {
  bytes = with_contents (zeros (BLOCK_BYTES * blocks)) contents;
  block = 0;
  refused = false;
  position = 0;
  buffer = zeros BLOCK_BYTES;
}

-- ---- its shape

-- What holds of every disk: 1 to 32,768 blocks and a buffer, each of 512 bytes, and POSITION at a long of the buffer.
pub record IsDisk (d : DiskState) : Type 0 where
  pub some : 1 ≤ blocks_in d
  pub few : blocks_in d ≤ MOST_BLOCKS
  pub whole : length d.bytes ≡ BLOCK_BYTES * blocks_in d
  pub buffer : length d.buffer ≡ BLOCK_BYTES
  pub aligned : d.position % 4 ≡ 0
  pub within : d.position < BLOCK_BYTES

-- ---- DATA

-- POSITION rises by a long, and begins again behind the last one
abbrev pub advanced : DiskState → DiskState
advanced d = record d { position = (d.position + 4) % BLOCK_BYTES }

-- a long is stored at POSITION, which then rises
abbrev pub with_next_long : ℕ → DiskState → DiskState
with_next_long value d = advanced (record d { buffer = with_number d.buffer d.position 4 value })

-- ---- commands

-- the block is copied into the buffer
abbrev pub loaded : DiskState → DiskState
loaded d = record d { buffer = block_of d.block d; refused = false; position = 0 }

-- the buffer is copied into the block
abbrev pub stored : DiskState → DiskState
stored d = record d {
  bytes = overwritten d.bytes (BLOCK_BYTES * d.block) d.buffer;
  refused = false;
  position = 0;
}

-- there is no such block, or no such command
abbrev pub refusing : DiskState → DiskState
refusing d = record d { refused = true; position = 0 }

-- by a command on a block that there is
abbrev pub by_command : ℕ → DiskState → DiskState
by_command command d = if command == 1 then loaded d else if command == 2 then stored d else refusing d

abbrev pub commanded : ℕ → DiskState → DiskState
commanded command d = if nat_lt d.block (blocks_in d) then by_command command d else refusing d

-- ---- RESET

-- all but the blocks is 0
abbrev pub rested : DiskState → DiskState
rested d = record d { block = 0; refused = false; position = 0; buffer = zeros BLOCK_BYTES }
