-- A session: a board, the steps of a turn, and what its guests begin with.
use Rattle.std.specs.Prelude.{◌≡◌, ℕ, ◌*◌, ◌%◌, ◌≤◌, List, length, All}
use Rattle.mb_srec.specs.Image.{LiesBelow}
use Rattle.def_machine.specs.Machine.{Entries, Opening}
use Rattle.mb_board.specs.declared.bus.TheConstants.{MOST_BOARD_BYTES}
use Rattle.mb_script.specs.declared.sizes.TheConstants.{LEAST_BOARD, LEAST_RAM, MOST_GUESTS, MOST_RAM, SIZE_UNIT}

-- what a guest begins with: its image and its disk, what is to arrive at its terminal, the bytes of its RAM, and how
-- many steps it takes at most
pub record GuestAtStart : Type 0 where
  pub opening : Opening
  pub script : Entries
  pub ram : ℕ
  pub steps : ℕ

-- the bytes of a board, the steps of a turn, and the guests in their order
pub record SessionAtStart : Type 0 where
  pub board : ℕ
  pub slice : ℕ
  pub guests : List GuestAtStart

-- ---- what a session can be

-- 64 to 16,384 KiB, a multiple of 64
abbrev pub IsRamBytes : ℕ → Type 0
IsRamBytes bytes = (1024 * LEAST_RAM ≤ bytes) × (bytes ≤ 1024 * MOST_RAM) × (bytes % (1024 * SIZE_UNIT) ≡ 0)

-- 128 to 65,536 KiB, a multiple of 64
abbrev pub IsBoardBytes : ℕ → Type 0
IsBoardBytes bytes = (1024 * LEAST_BOARD ≤ bytes) × (bytes ≤ MOST_BOARD_BYTES) × (bytes % (1024 * SIZE_UNIT) ≡ 0)

-- its image lies in its RAM
pub record IsGuest (guest : GuestAtStart) : Type 0 where
  pub ram : IsRamBytes guest.ram
  pub image : All (LiesBelow guest.ram) guest.opening.image

-- The sizes and numbers are in their ranges, and there are one to sixteen guests.
pub record IsSession (session : SessionAtStart) : Type 0 where
  pub board : IsBoardBytes session.board
  pub slice : 1 ≤ session.slice
  pub some : 1 ≤ length session.guests
  pub few : length session.guests ≤ MOST_GUESTS
  pub guests : All IsGuest session.guests
