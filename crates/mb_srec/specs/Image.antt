-- An image as the list of its chunks, each an address with the bytes from there on.
use Rattle.std.specs.Prelude.{ℕ, ◌+◌, ◌-◌, ◌^◌, ◌<◌, ◌≤◌, nat_lt, if◌then◌else◌, List, [], ◌∷◌, length, map, slice_get, Option, None}
use Rattle.std.specs.Option.{option_or}
use Rattle.mb_srec.specs.declared.image.Chunk.{Chunk}
use Rattle.mb_srec.specs.declared.image.Image.{Image}

abbrev pub content_of : Chunk → ℕ × List ℕ
content_of chunk = (chunk.at, chunk.bytes.items)

abbrev pub all_contents : List Chunk → List (ℕ × List ℕ)
all_contents chunks = map content_of chunks

abbrev pub contents_of : Image → List (ℕ × List ℕ)
contents_of image = all_contents image.chunks.items

-- each byte of a chunk has an address below ram
abbrev pub LiesBelow : ℕ → ℕ × List ℕ → Type 0
LiesBelow ram (at, bytes) = 0 < length bytes → at + length bytes ≤ ram

-- each byte of a chunk has an address of 32 bits
abbrev pub IsAddressed : ℕ × List ℕ → Type 0
IsAddressed (at, bytes) = at + length bytes ≤ 2 ^ 32

-- the byte of a chunk at an address
abbrev pub byte_of : ℕ × List ℕ → ℕ → Option ℕ
byte_of (at, bytes) address = if nat_lt address at then None else slice_get bytes (address - at)

-- the byte at an address once the chunks are loaded in their order: that of the last chunk which has one there
abbrev pub byte_at : List (ℕ × List ℕ) → ℕ → Option ℕ
byte_at [] address = None
byte_at (content ∷ later) address = option_or (byte_at later address) (byte_of content address)
