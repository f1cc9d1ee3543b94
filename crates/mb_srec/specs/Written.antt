-- An image as a text.
use Rattle.std.specs.Prelude.{◌≡◌, ℕ, zero, suc, ◌+◌, ◌/◌, ◌<◌, List, [], ◌∷◌, ◌++◌, length, take, drop, codes, All, IsOkAnd, Result}
use Rattle.std.specs.List.{flat_map}
use Rattle.hex.specs.Hex.{encode_upper}
use Rattle.byteorder.specs.Endian.{big_bytes}
use Rattle.mb_srec.specs.Faults.{Fault}
use Rattle.mb_srec.specs.Image.{IsAddressed, byte_at}
use Rattle.mb_srec.specs.Records.{checksum_of}

-- the count, a 32-bit address and the data of a record
abbrev pub counted : ℕ → List ℕ → List ℕ
counted at bytes = (length bytes + 5) ∷ big_bytes 4 at ++ bytes

abbrev pub line_feed : List ℕ
line_feed = 10 ∷ []

-- the S3 record of some bytes
abbrev pub data_line : ℕ → List ℕ → List ℕ
data_line at bytes = codes "S3" ++ encode_upper (counted at bytes ++ checksum_of (counted at bytes) ∷ []) ++ line_feed

-- so many S3 records of 16 bytes, the last with what is left
abbrev pub data_lines : ℕ → ℕ → List ℕ → List ℕ
data_lines zero at bytes = []
data_lines (suc n) at bytes = data_line at (take 16 bytes) ++ data_lines n (at + 16) (drop 16 bytes)

abbrev pub chunk_lines : ℕ × List ℕ → List ℕ
chunk_lines (at, bytes) = data_lines ((length bytes + 15) / 16) at bytes

abbrev pub header_line : List ℕ
header_line = codes "S0030000FC" ++ line_feed

abbrev pub end_line : List ℕ
end_line = codes "S70500000000FA" ++ line_feed

-- an empty header, the data, the end
abbrev pub text_of : List (ℕ × List ℕ) → List ℕ
text_of contents = header_line ++ flat_map chunk_lines contents ++ end_line

-- the bytes of chunks at 32-bit addresses
abbrev pub IsContent : ℕ × List ℕ → Type 0
IsContent (at, bytes) = All (λ byte. byte < 256) bytes × IsAddressed (at, bytes)

-- what was read has the same bytes at the same addresses, and no others
abbrev pub SameBytes : List (ℕ × List ℕ) → Result (List (ℕ × List ℕ)) Fault → Type 0
SameBytes contents given = IsOkAnd given (λ read. (address : ℕ) → byte_at read address ≡ byte_at contents address)
