-- The grammar of S-records: what a line says, and what a list of lines says.
use Rattle.std.specs.Prelude.{ℕ, suc, ◌+◌, ◌-◌, ◌%◌, nat_lt, Bool, true, false, ◌&&◌, ◌||◌, ◌==◌, not, if◌then◌else◌}
use Rattle.std.specs.Prelude.{List, [], ◌∷◌, ◌++◌, length, take, drop, slice_index, sum, Option, Some, None, Result, Ok, Err}
use Rattle.std.specs.Option.{ok_or}
use Rattle.std.specs.Result.{result_ok}
use Rattle.hex.specs.Hex.{decode_of}
use Rattle.byteorder.specs.Endian.{big_number}
use Rattle.mb_lines.specs.Lines.{Line, numbered}
use Rattle.mb_lines.specs.Results.{◌>>=◌}
use Rattle.mb_srec.specs.Faults.{Fault}
use Rattle.mb_srec.specs.Faults as fault
use Rattle.mb_srec.specs.declared.fault.RecordWhy.{RecordWhy}
use Rattle.mb_srec.specs.declared.fault.RecordWhy.TheVariants as why
use Rattle.mb_srec.specs.declared.kind.Kind.{Kind}
use Rattle.mb_srec.specs.declared.kind.Kind.TheVariants.{S0, S1, S2, S3, S5, S6, S7, S8, S9}
use Rattle.mb_srec.specs.Kinds.{kind_of, address_len, may_hold_data}

-- What a record says.
pub data Record : Type 0 where
  Header : Record
  Data : ℕ → List ℕ → Record  -- bytes, the first of them at the address
  Count : ℕ → Record  -- so many data records came before
  End : Record

-- the bytes that pairs of hexadecimal digits of either case spell
abbrev pub bytes_of : List ℕ → Option (List ℕ)
bytes_of digits = result_ok (decode_of digits)

-- the ones' complement of the low byte of the sum
abbrev pub checksum_of : List ℕ → ℕ
checksum_of bytes = 255 - sum bytes % 256

-- The bytes of a record are a count of those after it, the address, data, and the checksum.
abbrev pub has_its_length : Kind → List ℕ → Bool
has_its_length kind [] = false
has_its_length kind (count ∷ rest) =
    (count == length rest)
    && nat_lt (address_len kind) count
    && (may_hold_data kind || (count == address_len kind + 1))

-- all bytes but the last
abbrev pub summed : List ℕ → List ℕ
summed bytes = take (length bytes - 1) bytes

abbrev pub has_its_checksum : List ℕ → Bool
has_its_checksum bytes = slice_index bytes (length bytes - 1) == checksum_of (summed bytes)

abbrev pub address_of : Kind → List ℕ → ℕ
address_of kind bytes = big_number (address_len kind) (drop 1 bytes)

abbrev pub data_of : Kind → List ℕ → List ℕ
data_of kind bytes = drop (1 + address_len kind) (summed bytes)

-- what bytes of the right length and checksum say
abbrev pub said_by : Kind → List ℕ → Record
said_by S0 bytes = Header
said_by S1 bytes = Data (address_of S1 bytes) (data_of S1 bytes)
said_by S2 bytes = Data (address_of S2 bytes) (data_of S2 bytes)
said_by S3 bytes = Data (address_of S3 bytes) (data_of S3 bytes)
said_by S5 bytes = Count (address_of S5 bytes)
said_by S6 bytes = Count (address_of S6 bytes)
said_by S7 bytes = End
said_by S8 bytes = End
said_by S9 bytes = End

abbrev pub meaning_of : Kind → List ℕ → Result Record RecordWhy
meaning_of kind bytes =
    if not (has_its_length kind bytes) then Err why.Length
    else if not (has_its_checksum bytes) then Err why.Sum
    else Ok (said_by kind bytes)

-- the kind in the first two characters of a line: 83 is the letter S
abbrev pub kind_at : ℕ → ℕ → Option Kind
kind_at letter digit = if letter == 83 then kind_of digit else None

-- what a line says by itself
abbrev pub record_of : List ℕ → Result Record RecordWhy
record_of (letter ∷ digit ∷ digits) = do
  kind ← ok_or (kind_at letter digit) why.Kind
  bytes ← ok_or (bytes_of digits) why.Digits
  meaning_of kind bytes
record_of _ = Err why.Kind

-- the first address not below ram, of bytes of which the first is at the address
abbrev pub first_outside : ℕ → ℕ → List ℕ → Option ℕ
first_outside ram at [] = None
first_outside ram at (byte ∷ bytes) = if nat_lt at ram then first_outside ram (suc at) bytes else Some at

-- What the lines so far gave: each data record, and whether the end came.
pub record Reading : Type 0 where
  pub contents : List (ℕ × List ℕ)
  pub ended : Bool

abbrev pub beginning : Reading
beginning = record { contents = []; ended = false }

-- a count has to be the number of data records so far
abbrev pub counts_right : Reading → Record → Bool
counts_right so_far (Count number) = number == length so_far.contents
counts_right so_far _ = true

abbrev pub unless_outside : {A : Type 0} → Option ℕ → A → Result A Fault
unless_outside None next = Ok next
unless_outside (Some at) next = Err (fault.Outside at)

abbrev pub with_record : ℕ → Reading → Record → Result Reading Fault
with_record ram so_far Header = Ok so_far
with_record ram so_far (Data at bytes) =
    unless_outside (first_outside ram at bytes)
    (record { contents = so_far.contents ++ (at, bytes) ∷ []; ended = so_far.ended })
with_record ram so_far (Count number) = Ok so_far
with_record ram so_far End = Ok (record { contents = so_far.contents; ended = true })

-- what a line's record makes of what the lines before gave
abbrev pub after_record : ℕ → ℕ → Reading → Record → Result Reading Fault
after_record ram number so_far said =
    if not (counts_right so_far said) then Err (fault.Line number why.Count)
    else if so_far.ended then Err (fault.Line number why.After)
    else with_record ram so_far said

abbrev pub at_line : {A : Type 0} → ℕ → Result A RecordWhy → Result A Fault
at_line number (Ok x) = Ok x
at_line number (Err reason) = Err (fault.Line number reason)

-- what a line makes of what the lines before gave
abbrev pub after_line : ℕ → Reading → Line → Result Reading Fault
after_line ram so_far line = do
  said ← at_line line.number (record_of line.characters)
  after_record ram line.number so_far said

abbrev pub after_lines : ℕ → Reading → List Line → Result Reading Fault
after_lines ram so_far [] = Ok so_far
after_lines ram so_far (line ∷ lines) = do
  next ← after_line ram so_far line
  after_lines ram next lines

abbrev pub at_end : Reading → Result (List (ℕ × List ℕ)) Fault
at_end so_far = if so_far.ended then Ok so_far.contents else Err fault.NoEnd

-- The data records of a text in their order, or the first fault in order of lines, for a RAM of this size.
abbrev pub records_of : List ℕ → ℕ → Result (List (ℕ × List ℕ)) Fault
records_of text ram = after_lines ram beginning (numbered text) >>= at_end
