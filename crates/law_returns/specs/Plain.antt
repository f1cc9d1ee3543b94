-- A plain memory as a bus: each byte of supervisor data stands at its own address.
use Rattle.std.specs.Prelude.{ℕ, zero, suc, ◌+◌, ◌-◌, ◌&&◌, nat_le, nat_lt, if◌then◌else◌, List, [], ◌∷◌, slice_index, Some, Ok}
use Rattle.byteorder.specs.Endian.{big_bytes, big_number}
use Rattle.mb_port.specs.Routine.{Bus, Fetch, Read, Write, ReadLine, WriteLine, Probe, Get, Put, ReadMmu, SetMmu, FlushKept, Test, ResetDevices}
use Rattle.mb_model.specs.Reset.{mmu_at_reset}
use Rattle.law_returns.specs.Keeping.{Placing, Viewing, Keeps}

-- the byte at each address
abbrev pub Memory : Type 0
Memory = ℕ → ℕ

abbrev pub bytes_at : Memory → (at n : ℕ) → List ℕ
bytes_at m at zero = []
bytes_at m at (suc n) = m at ∷ bytes_at m (at + 1) n

abbrev pub number_at : Memory → (at len : ℕ) → ℕ
number_at m at len = big_number len (bytes_at m at len)

-- memory with the bytes of a number
abbrev pub with_number : Memory → (at len value : ℕ) → Memory
with_number m at len value x =
    if nat_le at x && nat_lt x (at + len) then slice_index (big_bytes len value) (x - at) else m x

abbrev pub plain_bus : Bus Memory
plain_bus (Fetch space at) m = (Ok (number_at m at 2), m)
plain_bus (Read space p) m = (Ok (number_at m p.at p.len), m)
plain_bus (Write space p value) m = (Ok tt, with_number m p.at p.len value)
plain_bus (ReadLine space at) m =
    (Ok (number_at m at 4 ∷ number_at m (at + 4) 4 ∷ number_at m (at + 8) 4 ∷ number_at m (at + 12) 4 ∷ []), m)
plain_bus (WriteLine space at line) m =
    let low = with_number (with_number m at 4 (slice_index line 0)) (at + 4) 4 (slice_index line 1) in
    (Ok tt, with_number (with_number low (at + 8) 4 (slice_index line 2)) (at + 12) 4 (slice_index line 3))
plain_bus (Probe space p) m = (Ok (record { at = p.at; len = p.len }), m)
plain_bus (Get q) m = (number_at m q.at q.len, m)
plain_bus (Put q value) m = (tt, with_number m q.at q.len value)
plain_bus ReadMmu m = (mmu_at_reset, m)
plain_bus (SetMmu which value) m = (tt, m)
plain_bus (FlushKept what) m = (tt, m)
plain_bus (Test space at write) m = (0, m)
plain_bus ResetDevices m = (tt, m)

abbrev pub own_place : Placing Memory
own_place m p = Some (record { at = p.at; len = p.len })

abbrev pub own_byte : Viewing Memory
own_byte m at = Some (m at)

abbrev pub PlainMemoryKeeps : Type 0
PlainMemoryKeeps = Keeps plain_bus own_place own_byte
