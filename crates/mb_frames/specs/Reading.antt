-- The frame that stands at the beginning of bytes.
use Rattle.std.specs.Prelude.{ℕ, ◌/◌, ◌%◌, ◌==◌, nat_le, if◌then◌else◌, Option, Some, None, List, [], ◌∷◌, length, drop}
use Rattle.byteorder.specs.Endian.{big_number}
use Rattle.mb_frames.specs.declared.frame.Access.{Access}
use Rattle.mb_frames.specs.declared.frame.Frame.{Frame}
use Rattle.mb_frames.specs.declared.frame.Frame.TheVariants as frame
use Rattle.mb_frames.specs.Layout.{AccessField, access_table, frame_length}
use Rattle.mb_frames.specs.AccessFields.{no_fields}
use Rattle.mb_frames.specs.declared.places.TheConstants.{SR_PLACE, PC_PLACE, FORMAT_PLACE, FIELDS_PLACE}

-- the word, and the long, at a place
unfoldable pub word_at : List ℕ → ℕ → ℕ
word_at b place = big_number 2 (drop place b)

unfoldable pub long_at : List ℕ → ℕ → ℕ
long_at b place = big_number 4 (drop place b)

-- the high four bits of a format word
abbrev pub format_of_word : ℕ → ℕ
format_of_word word = word / 0x1000

abbrev pub format_in : List ℕ → ℕ
format_in b = format_of_word (word_at b FORMAT_PLACE)

-- its other bits
abbrev pub offset_in : List ℕ → ℕ
offset_in b = word_at b FORMAT_PLACE % 0x1000

-- the fields of a part of the table, the others as they were
abbrev pub with_fields : (word long : ℕ → ℕ) → List AccessField → Access → Access
with_fields word long [] a = a
with_fields word long (f ∷ fs) a =
    with_fields word long fs (f.with_value (if f.size == 2 then word f.offset else long f.offset) a)

-- The fields of an access error, by what the word and the long at each place of its frame are. Whoever reads them
-- reads them by this.
abbrev pub access_by : (word long : ℕ → ℕ) → Access
access_by word long = with_fields word long access_table no_fields

-- those that bytes hold
abbrev pub access_in : List ℕ → Access
access_in b = access_by (word_at b) (long_at b)

abbrev pub sr_in : List ℕ → ℕ
sr_in b = word_at b SR_PLACE

abbrev pub pc_in : List ℕ → ℕ
pc_in b = long_at b PC_PLACE

-- the frame of a format that the bytes hold
abbrev pub frame_of_format : ℕ → List ℕ → Option Frame
frame_of_format format b =
    if format == 0 then Some (frame.Short (sr_in b) (pc_in b) (offset_in b))
    else if format == 1 then Some (frame.Throwaway (sr_in b) (pc_in b) (offset_in b))
    else if format == 2 then Some (frame.Address (sr_in b) (pc_in b) (offset_in b) (long_at b FIELDS_PLACE))
    else if format == 7 then Some (frame.Access (sr_in b) (pc_in b) (offset_in b) (access_in b))
    else None

-- the frame that the bytes begin with, if they are long enough for it
unfoldable pub frame_in : List ℕ → Option Frame
frame_in b = if nat_le (frame_length (format_in b)) (length b) then frame_of_format (format_in b) b else None
