-- Supervisor data on a bus that keeps what is put.
use Rattle.std.specs.Prelude.{◌≡◌, ◌≢◌, ℕ, ◌<◌, ◌≤◌, ◌^◌, List, length, slice_index, Option, Some, Ok}
use Rattle.byteorder.specs.Endian.{big_number}
use Rattle.mb_port.specs.Routine.{Bus, Probe, Put, Read}
use Rattle.mb_port.specs.Pieces.{IsAddressedPiece}
use Rattle.mb_port.specs.declared.types.Space.TheVariants.{Super}
use Rattle.mb_port.specs.declared.types.Piece.{Piece}
use Rattle.mb_port.specs.declared.types.Place.{Place}
use Rattle.mb_ea.specs.Addresses.{sum}

-- where a piece of supervisor data stands in a state, if it can be written there
abbrev pub Placing : Type 0 → Type 0
Placing S = S → Piece → Option Place

-- the byte of supervisor data at an address in a state, if it can be read
abbrev pub Viewing : Type 0 → Type 0
Viewing S = S → ℕ → Option ℕ

-- so many bytes, the first ones of a list, are seen from an address on
abbrev pub Shows : (ℕ → Option ℕ) → (at n : ℕ) → List ℕ → Type 0
Shows view at n bytes = (k : ℕ) → k < n → view (sum at k) ≡ Some (slice_index bytes k)

-- Pieces stand where they stood, and what was seen is seen.
pub record IsKept {S : Type 0} (place : Placing S) (view : Viewing S) (s t : S) : Type 0 where
  pub stands : (p : Piece) (q : Place) → place s p ≡ Some q → place t p ≡ Some q
  pub shows : (at byte : ℕ) → view s at ≡ Some byte → view t at ≡ Some byte

-- A bus of supervisor data: what is put at the place of a piece is seen there, and what is seen is read. No check, no
-- read and no other put changes it.
pub record Keeps {S : Type 0} (bus : Bus S) (place : Placing S) (view : Viewing S) : Type 0 where
  -- A check that is not refused tells where the piece stands.
  pub checked : (s : S) (p : Piece) (q : Place) → IsAddressedPiece p
      → let (found, after) = bus (Probe Super p) s in found ≡ Ok q → place after p ≡ Some q
  pub check_keeps : (s : S) (p : Piece) → IsAddressedPiece p
      → let (_, after) = bus (Probe Super p) s in IsKept place view s after
  -- A place has the length of its piece.
  pub whole : (s : S) (p : Piece) (q : Place) → place s p ≡ Some q → q.len ≡ p.len
  -- Bytes that are put are seen; pieces stand where they stood, and all other bytes are as they were.
  pub put : (s : S) (p : Piece) (q : Place) (bytes : List ℕ) → IsAddressedPiece p → place s p ≡ Some q
      → ((k : ℕ) → slice_index bytes k < 2 ^ 8) → p.len ≤ length bytes
      → let (_, after) = bus (Put q (big_number p.len bytes)) s in Shows (view after) p.at p.len bytes
  pub put_stands : (s : S) (p : Piece) (q : Place) (value : ℕ) → IsAddressedPiece p → place s p ≡ Some q
      → (other : Piece) (there : Place) → place s other ≡ Some there
      → let (_, after) = bus (Put q value) s in place after other ≡ Some there
  pub put_shows : (s : S) (p : Piece) (q : Place) (value : ℕ) → IsAddressedPiece p → place s p ≡ Some q
      → (at byte : ℕ) → ((k : ℕ) → k < p.len → at ≢ sum p.at k)
      → view s at ≡ Some byte → let (_, after) = bus (Put q value) s in view after at ≡ Some byte
  -- Bytes that are seen are read.
  pub read : (s : S) (p : Piece) (bytes : List ℕ) → IsAddressedPiece p → Shows (view s) p.at p.len bytes
      → let (value, _) = bus (Read Super p) s in value ≡ Ok (big_number p.len bytes)
  pub read_keeps : (s : S) (p : Piece) → IsAddressedPiece p
      → let (_, after) = bus (Read Super p) s in IsKept place view s after
