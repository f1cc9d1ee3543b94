-- Files in memory.
use Rattle.std.specs.Prelude.{◌==◌, ℕ, Bool, List, [], length, find, Option, Some, option_map, unwrap_or, String, string_bytes, Vec}
use Rattle.std.specs.List.{list_any}
use Rattle.std.specs.Str.{bytes_eq}
use Rattle.std.specs.declared.alloc.Global.{Global}

-- names with their bytes
abbrev pub Stored : Type 0
Stored = List (String Global × Vec ℕ Global)

-- the bytes of the first file of this name
abbrev pub stored_bytes : Stored → List ℕ → Option (List ℕ)
stored_bytes files name =
    option_map (λ (_, bytes). bytes.items) (find (λ (stored, _). bytes_eq (string_bytes stored) name) files)

-- the same, where a missing file reads as an empty one
abbrev pub stored_or_empty : Stored → List ℕ → Option (List ℕ)
stored_or_empty files name = Some (unwrap_or (stored_bytes files name) [])

-- Is the call of this number, counted from 1, one of those that fail?
abbrev pub is_listed : List ℕ → ℕ → Bool
is_listed fails call = list_any (λ n. n == call) fails

abbrev pub is_empty_list : List ℕ → Bool
is_empty_list xs = length xs == 0
