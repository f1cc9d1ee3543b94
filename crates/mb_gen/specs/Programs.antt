-- A guest's program and image, from its draws.
use Rattle.std.specs.Prelude.{ℕ, ◌+◌, ◌*◌, List, [], ◌∷◌, ◌++◌, length, map}
use Rattle.std.specs.List.{flat_map}
use Rattle.byteorder.specs.Endian.{big_bytes}
use Rattle.mb_gen.specs.declared.program.TheConstants.{COUNTER, DATA, ENTRY, LAPS}
use Rattle.mb_gen.specs.Instructions.{Spelled, picked, enter, send, count_down, repeat, switch_off}

abbrev pub words_of : List Spelled → List ℕ
words_of instructions = flat_map (λ instruction. instruction.words) instructions

abbrev pub bytes_of : List ℕ → List ℕ
bytes_of words = flat_map (big_bytes 2) words

abbrev pub longs_of : List ℕ → List ℕ
longs_of longs = flat_map (big_bytes 4) longs

-- a lap: what is picked, and then a byte is sent and a long in memory counted down; the branch back comes behind it
abbrev pub lap : List ℕ → List Spelled
lap draws = map picked draws ++ send ∷ count_down ∷ []

-- from the displacement of the branch, the second word behind a lap, back to the lap's first word
abbrev pub way_back : List ℕ → ℕ
way_back draws = 2 * (length (words_of (lap draws)) + 1)

abbrev pub program : List ℕ → List Spelled
program draws = enter ∷ lap draws ++ repeat (way_back draws) ∷ switch_off ∷ []

-- the initial stack pointer and the first instruction's address, the program, and how many laps there are
abbrev pub image : List ℕ → List (ℕ × List ℕ)
image draws =
    (0, longs_of (DATA ∷ ENTRY ∷ []))
    ∷ (ENTRY, bytes_of (words_of (program draws)))
    ∷ (COUNTER, longs_of (LAPS ∷ []))
    ∷ []
