-- What a MOVEM moves, and where.
use Rattle.std.specs.Prelude.{◌≡◌, ℕ, zero, suc, ◌+◌, ◌-◌, ◌*◌, ◌/◌, ◌%◌, ◌^◌, ◌<◌, ◌==◌, if◌then◌else◌}
use Rattle.std.specs.Prelude.{List, [], ◌∷◌, ◌++◌, length, map, slice_get, Some}
use Rattle.mb_instr.specs.declared.size.Size.TheVariants.{Word, Long}
use Rattle.mb_instr.specs.Sizes.{bytes_of, is_set}
use Rattle.mb_frames.specs.AccessFields.{AccessCase}
use Rattle.mb_frames.specs.AccessFields as access
use Rattle.mb_writes.specs.declared.ends.MovemFault.{MovemFault}
use Rattle.mb_writes.specs.declared.transfers.Movem.{Movem}
use Rattle.mb_writes.specs.declared.transfers.MovemMode.{MovemMode}
use Rattle.mb_writes.specs.declared.transfers.MovemMode.TheVariants.{Control, Post, Pre}
use Rattle.mb_writes.specs.declared.transfers.Transfer.{Transfer}

-- the mode, by bits 5 to 0 of the operation word
abbrev pub mode_of : ℕ → MovemMode
mode_of operation =
    if operation / 2 ^ 3 % 8 == 3 then Post (operation % 8) else
    if operation / 2 ^ 3 % 8 == 4 then Pre (operation % 8) else Control

-- the words of a MOVEM in a long: the operation word in the high half, the mask in the low half
abbrev pub operation_in : ℕ → ℕ
operation_in words = words / 2 ^ 16

abbrev pub mask_in : ℕ → ℕ
mask_in words = words % 2 ^ 16

-- what they say: of the operation word bit 10 says to registers, bit 6 longs
abbrev pub movem_in : ℕ → Movem
movem_in words = record {
  is_load = operation_in words / 2 ^ 10 % 2 == 1;
  size = if operation_in words / 2 ^ 6 % 2 == 1 then Long else Word;
  mode = mode_of (operation_in words);
  mask = mask_in words;
}

-- an address register is 0 to 7
abbrev pub IsMode : MovemMode → Type 0
IsMode Control = Unit {0}
IsMode (Post n) = n < 8
IsMode (Pre n) = n < 8

-- which of n bits from bit k on are set
unfoldable pub set_bits : ℕ → ℕ → ℕ → List ℕ
set_bits mask k zero = []
set_bits mask k (suc n) = (if is_set mask k then k ∷ [] else []) ++ set_bits mask (k + 1) n

-- how many registers a mask names
abbrev pub count_of : ℕ → ℕ
count_of mask = length (set_bits mask 0 16)

-- the register of a bit: D0 to A7, for -(An) A7 to D0
abbrev pub number_of : MovemMode → ℕ → ℕ
number_of Control k = k
number_of (Post n) k = k
number_of (Pre n) k = 15 - k

-- the registers in the order of their transfers
abbrev pub registers_of : Movem → List ℕ
registers_of m = map (number_of m.mode) (set_bits m.mask 0 16)

-- from one transfer's address to the next one's, modulo 2^32: down for -(An)
abbrev pub transfer_step : MovemMode → ℕ → ℕ
transfer_step Control bytes = bytes
transfer_step (Post n) bytes = bytes
transfer_step (Pre n) bytes = 2 ^ 32 - bytes

-- each with its address
abbrev pub placed : ℕ → ℕ → List ℕ → List Transfer
placed step at [] = []
placed step at (r ∷ rs) = record { register = r; at = at } ∷ placed step ((at + step) % 2 ^ 32) rs

-- the transfers of a MOVEM in the manual's order, the first at `ea`
abbrev pub transfers_of : Movem → ℕ → List Transfer
transfers_of m ea = placed (transfer_step m.mode (bytes_of m.size)) ea (registers_of m)

-- the address of the one behind the first `done` of them
abbrev pub transfer_at : Movem → (ea done : ℕ) → ℕ
transfer_at m ea done = (ea + done * transfer_step m.mode (bytes_of m.size)) % 2 ^ 32

-- a transfer with so many before it is there
abbrev pub StandsBehind : Movem → (ea done at : ℕ) → Type 0
StandsBehind m ea done at = (t : Transfer) → slice_get (transfers_of m ea) done ≡ Some t → t.at ≡ at

-- what the frame of a refused transfer holds, by the words of its MOVEM and the address of the next instruction
abbrev pub refused_transfer : MovemFault → (words next : ℕ) → AccessCase
refused_transfer refused words next =
    let m = movem_in words in
    let start = transfer_at m refused.first refused.done in
    access.Movem refused.fault refused.first start refused.done words next m.is_load

-- their registers are 0 to 15
abbrev pub AreTransfers : List Transfer → Type 0
AreTransfers [] = Unit {0}
AreTransfers (t ∷ ts) = (t.register < 16) × AreTransfers ts
