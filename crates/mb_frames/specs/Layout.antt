-- The fields of a frame in order, and its bytes.
use Rattle.std.specs.Prelude.{◌≡◌, ◌<◌, ◌⊎◌, ◌==◌, if◌then◌else◌, ℕ, ◌+◌, ◌*◌, ◌^◌, ◌++◌, List, [], ◌∷◌, length, map, take, drop, All}
use Rattle.byteorder.specs.Endian.{big_bytes}
use Rattle.mb_frames.specs.declared.frame.Access.{Access}
use Rattle.mb_frames.specs.declared.frame.Frame.{Frame}
use Rattle.mb_frames.specs.declared.places.TheConstants.{SR_PLACE, PC_PLACE, FORMAT_PLACE, LONGEST}
use Rattle.mb_frames.specs.declared.frame.Frame.TheVariants as frame

-- a field: the place of its first byte in the frame, how many bytes it has, and its value
pub record Field : Type 0 where
  pub offset : ℕ
  pub size : ℕ
  pub value : ℕ

abbrev pub word_field : ℕ → ℕ → Field
word_field offset value = record { offset = offset; size = 2; value = value }

abbrev pub long_field : ℕ → ℕ → Field
long_field offset value = record { offset = offset; size = 4; value = value }

-- what every frame begins with: SR, PC, and the format above the vector offset
abbrev pub head : (sr pc format offset : ℕ) → List Field
head sr pc format offset =
    word_field SR_PLACE sr ∷ long_field PC_PLACE pc ∷ word_field FORMAT_PLACE (format * 0x1000 + offset) ∷ []

-- a field of an access error: its place in the frame, how many bytes it has, its value among the fields, and the
-- fields with another value of it
pub record AccessField : Type 0 where
  pub offset : ℕ
  pub size : ℕ
  pub value : Access → ℕ
  pub with_value : ℕ → Access → Access

abbrev pub of_access : (offset size : ℕ) → (Access → ℕ) → (ℕ → Access → Access) → AccessField
of_access offset size value with_value =
    record { offset = offset; size = size; value = value; with_value = with_value }

-- the table of an access error's fields: a line a field, in the order of the frame
abbrev pub access_table : List AccessField
access_table =
    of_access 0x08 4 (λ a. a.ea) (λ n a. record a { ea = n })
    ∷ of_access 0x0C 2 (λ a. a.ssw) (λ n a. record a { ssw = n })
    ∷ of_access 0x0E 2 (λ a. a.wb3s) (λ n a. record a { wb3s = n })
    ∷ of_access 0x10 2 (λ a. a.wb2s) (λ n a. record a { wb2s = n })
    ∷ of_access 0x12 2 (λ a. a.wb1s) (λ n a. record a { wb1s = n })
    ∷ of_access 0x14 4 (λ a. a.fa) (λ n a. record a { fa = n })
    ∷ of_access 0x18 4 (λ a. a.wb3a) (λ n a. record a { wb3a = n })
    ∷ of_access 0x1C 4 (λ a. a.wb3d) (λ n a. record a { wb3d = n })
    ∷ of_access 0x20 4 (λ a. a.wb2a) (λ n a. record a { wb2a = n })
    ∷ of_access 0x24 4 (λ a. a.wb2d) (λ n a. record a { wb2d = n })
    ∷ of_access 0x28 4 (λ a. a.wb1a) (λ n a. record a { wb1a = n })
    ∷ of_access 0x2C 4 (λ a. a.wb1d) (λ n a. record a { wb1d = n })
    ∷ of_access 0x30 4 (λ a. a.pd1) (λ n a. record a { pd1 = n })
    ∷ of_access 0x34 4 (λ a. a.pd2) (λ n a. record a { pd2 = n })
    ∷ of_access 0x38 4 (λ a. a.pd3) (λ n a. record a { pd3 = n }) ∷ []

-- what the frame of an access error has besides
abbrev pub fields_of_access : Access → List Field
fields_of_access a = map (λ f. record { offset = f.offset; size = f.size; value = f.value a }) access_table

-- the format number of a frame
abbrev pub format_of : Frame → ℕ
format_of (frame.Short sr pc offset) = 0
format_of (frame.Throwaway sr pc offset) = 1
format_of (frame.Address sr pc offset address) = 2
format_of (frame.Access sr pc offset access) = 7

-- the fields of a frame
abbrev pub fields_of : Frame → List Field
fields_of (frame.Short sr pc offset) = head sr pc 0 offset
fields_of (frame.Throwaway sr pc offset) = head sr pc 1 offset
fields_of (frame.Address sr pc offset address) = head sr pc 2 offset ++ long_field 0x08 address ∷ []
fields_of (frame.Access sr pc offset access) = head sr pc 7 offset ++ fields_of_access access

-- the formats of the four frames
abbrev pub IsFormat : ℕ → Type 0
IsFormat n = (n ≡ 0) ⊎ (n ≡ 1) ⊎ (n ≡ 2) ⊎ (n ≡ 7)

-- how many bytes a frame of a format has
abbrev pub frame_length : ℕ → ℕ
frame_length format = if format == 7 then LONGEST else if format == 2 then 12 else 8

-- the vector offset of a frame
abbrev pub vector_offset_of : Frame → ℕ
vector_offset_of (frame.Short sr pc offset) = offset
vector_offset_of (frame.Throwaway sr pc offset) = offset
vector_offset_of (frame.Address sr pc offset address) = offset
vector_offset_of (frame.Access sr pc offset access) = offset

-- the status register and the program counter that it saves
abbrev pub sr_of : Frame → ℕ
sr_of (frame.Short sr pc offset) = sr
sr_of (frame.Throwaway sr pc offset) = sr
sr_of (frame.Address sr pc offset address) = sr
sr_of (frame.Access sr pc offset access) = sr

abbrev pub pc_of : Frame → ℕ
pc_of (frame.Short sr pc offset) = pc
pc_of (frame.Throwaway sr pc offset) = pc
pc_of (frame.Address sr pc offset address) = pc
pc_of (frame.Access sr pc offset access) = pc

-- the bytes of fields that follow one another, each with its highest byte first
abbrev pub bytes_of_fields : List Field → List ℕ
bytes_of_fields [] = []
bytes_of_fields (f ∷ fs) = big_bytes f.size f.value ++ bytes_of_fields fs

-- the bytes of a frame
unfoldable pub frame_bytes : Frame → List ℕ
frame_bytes f = bytes_of_fields (fields_of f)

-- the field stands in the bytes at its offset
abbrev pub StandsIn : List ℕ → Field → Type 0
StandsIn bytes f = take f.size (drop f.offset bytes) ≡ big_bytes f.size f.value

-- the field's value has no more than its bytes
abbrev pub Fits : Field → Type 0
Fits f = f.value < 256 ^ f.size

-- a frame as the code holds it: each field fits, and the vector offset has twelve bits
abbrev pub IsFrame : Frame → Type 0
IsFrame f = (vector_offset_of f < 0x1000) × All Fits (fields_of f)

-- the bytes begin with the frame's
abbrev pub BeginsWith : List ℕ → Frame → Type 0
BeginsWith b f = b ≡ frame_bytes f ++ drop (length (frame_bytes f)) b
