-- What holds of numbers in memory, of its parts, and of bytes that are written.
use Rattle.std.specs.Prelude.{◌≡◌, ◌≢◌, ℕ, ◌+◌, ◌≤◌, ◌<◌, List, length, take, drop}
use Rattle.byteorder.specs.Endian.{big_bytes}
use Rattle.mb_walk.specs.Memory.{number_at, overwritten, part, AreBytes}

-- A number of a part stands in the whole, from the part's beginning on.
abbrev pub PartsHaveNumbers : Type 0
PartsHaveNumbers = (ram : List ℕ) (base size at len : ℕ) → at + len ≤ size
    → number_at (part ram base size) at len ≡ number_at ram (base + at) len

-- Bytes that are written within a part are written in the part alone.
abbrev pub PartsTakeBytes : Type 0
PartsTakeBytes = (ram bytes : List ℕ) (base size at : ℕ) → at + length bytes ≤ size → base + size ≤ length ram
    → part (overwritten ram (base + at) bytes) base size ≡ overwritten (part ram base size) at bytes

-- All below bytes that are written stays,
abbrev pub WritesLeaveBelow : Type 0
WritesLeaveBelow = (ram bytes : List ℕ) (n at : ℕ) → n ≤ at → at + length bytes ≤ length ram
    → take n (overwritten ram at bytes) ≡ take n ram

-- and all above them.
abbrev pub WritesLeaveAbove : Type 0
WritesLeaveAbove = (ram bytes : List ℕ) (n at : ℕ) → at + length bytes ≤ n → n ≤ length ram
    → drop n (overwritten ram at bytes) ≡ drop n ram

-- The same write again changes nothing,
abbrev pub WritesRepeat : Type 0
WritesRepeat = (ram bytes : List ℕ) (at : ℕ) → at + length bytes ≤ length ram
    → overwritten (overwritten ram at bytes) at bytes ≡ overwritten ram at bytes

-- also once other bytes are written beside it.
abbrev pub WritesStand : Type 0
WritesStand = (ram bytes more : List ℕ) (at to : ℕ) → at + length bytes ≤ length ram → to + length more ≤ length ram
    → (at ≤ to → at + length bytes ≤ to) → (to ≤ at → to + length more ≤ at)
    → overwritten ram at bytes ≡ ram → overwritten (overwritten ram to more) at bytes ≡ overwritten ram to more

-- Bytes can be written in two parts.
abbrev pub WritesSplit : Type 0
WritesSplit = (ram bytes : List ℕ) (at n : ℕ) → n ≤ length bytes → at + length bytes ≤ length ram
    → overwritten (overwritten ram at (take n bytes)) (at + n) (drop n bytes) ≡ overwritten ram at bytes

-- The bytes of a number that was read are those that stand there.
abbrev pub NumbersHaveTheirBytes : Type 0
NumbersHaveTheirBytes = (ram : List ℕ) (at len : ℕ) → 0 < len → len ≤ 4 → len ≢ 3 → at + len ≤ length ram
    → AreBytes ram → big_bytes len (number_at ram at len) ≡ part ram at len
