-- The plan of a board and its guests.
use Rattle.std.specs.Prelude.{◌≡◌, ℕ, ◌%◌, ◌≤◌, ◌==◌, nat_le, Bool, ◌&&◌, List, length, All, Option, IfSome}
use Rattle.mb_script.specs.declared.turn.Turn.{Turn}
use Rattle.mb_script.specs.declared.sizes.TheConstants.{LEAST_BOARD, LEAST_RAM, MOST_BLOCKS, MOST_BOARD, MOST_GUESTS, MOST_RAM, SIZE_UNIT}

-- A disk: how many blocks it has, and the name of the file with its contents, if it has any.
pub record Disk : Type 0 where
  pub blocks : ℕ
  pub contents : Option (List ℕ)

-- A machine, with its RAM in KiB, a bound on its steps, the names of its files, and its disk, if it has one.
pub record Guest : Type 0 where
  pub ram : ℕ
  pub steps : ℕ
  pub image : List ℕ
  pub script : Option (List ℕ)
  pub disk : Option Disk

-- A board in KiB, the steps of a turn of a round, the machines, and the turns that come before all rounds.
pub record Plan : Type 0 where
  pub board : ℕ
  pub slice : ℕ
  pub guests : List Guest
  pub order : List Turn

-- a size of RAM in KiB
abbrev pub is_ram : ℕ → Bool
is_ram kib = nat_le LEAST_RAM kib && nat_le kib MOST_RAM && (kib % SIZE_UNIT == 0)

abbrev pub IsRam : ℕ → Type 0
IsRam kib = (LEAST_RAM ≤ kib) × (kib ≤ MOST_RAM) × (kib % SIZE_UNIT ≡ 0)

-- a size of a board's memory in KiB
abbrev pub is_board : ℕ → Bool
is_board kib = nat_le LEAST_BOARD kib && nat_le kib MOST_BOARD && (kib % SIZE_UNIT == 0)

abbrev pub IsBoard : ℕ → Type 0
IsBoard kib = (LEAST_BOARD ≤ kib) × (kib ≤ MOST_BOARD) × (kib % SIZE_UNIT ≡ 0)

abbrev pub AreRams : List Guest → Type 0
AreRams guests = All (λ guest. IsRam guest.ram) guests

-- how many blocks a disk has
abbrev pub is_blocks : ℕ → Bool
is_blocks blocks = nat_le 1 blocks && nat_le blocks MOST_BLOCKS

abbrev pub IsBlocks : ℕ → Type 0
IsBlocks blocks = (1 ≤ blocks) × (blocks ≤ MOST_BLOCKS)

abbrev pub HasDisk : Guest → Type 0
HasDisk guest = IfSome guest.disk (λ disk. IsBlocks disk.blocks)

-- the turn is of one of so many guests, which are numbered from 1
abbrev pub IsTurnOf : ℕ → Turn → Type 0
IsTurnOf count turn = (1 ≤ turn.guest) × (turn.guest ≤ count)

-- The sizes and numbers of a plan are in their ranges, and it has one guest or more.
pub record IsInRange (plan : Plan) : Type 0 where
  pub board : IsBoard plan.board
  pub slice : 1 ≤ plan.slice
  pub some : 1 ≤ length plan.guests
  pub few : length plan.guests ≤ MOST_GUESTS
  pub rams : AreRams plan.guests
  pub disks : All HasDisk plan.guests
  pub turns : All (IsTurnOf (length plan.guests)) plan.order
