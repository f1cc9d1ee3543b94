-- Memory as a list of bytes, and big-endian numbers in it.
use Rattle.std.specs.Prelude.{ℕ, ◌+◌, ◌^◌, ◌<◌, List, [], ◌∷◌, ◌++◌, length, map, take, drop}
use Rattle.std.specs.List.{All}
use Rattle.byteorder.specs.Endian.{big_number, big_bytes}

-- the number that so many bytes spell from a place on, the highest byte first
abbrev pub number_at : List ℕ → ℕ → ℕ → ℕ
number_at ram at len = big_number len (drop at ram)

-- memory with these bytes from a place on
abbrev pub overwritten : List ℕ → ℕ → List ℕ → List ℕ
overwritten ram at bytes = take at ram ++ bytes ++ drop (at + length bytes) ram

-- memory with a number of so many bytes from a place on
abbrev pub with_number : List ℕ → ℕ → ℕ → ℕ → List ℕ
with_number ram at len value = overwritten ram at (big_bytes len value)

-- data at addresses: each with the bytes that stand from there on
abbrev pub Contents : Type 0
Contents = List (ℕ × List ℕ)

-- memory with such data, later ones over earlier ones
abbrev pub with_contents : List ℕ → Contents → List ℕ
with_contents ram [] = ram
with_contents ram ((at, bytes) ∷ chunks) = with_contents (overwritten ram at bytes) chunks

-- the same with their addresses counted from a place on
abbrev pub chunk_from : ℕ → ℕ × List ℕ → ℕ × List ℕ
chunk_from base (at, bytes) = (base + at, bytes)

abbrev pub contents_from : ℕ → Contents → Contents
contents_from base contents = map (chunk_from base) contents

-- each element is a byte
abbrev pub AreBytes : List ℕ → Type 0
AreBytes ram = All (λ byte. byte < 2 ^ 8) ram

-- so many bytes of memory from a place on
abbrev pub part : List ℕ → ℕ → ℕ → List ℕ
part ram base size = take size (drop base ram)
