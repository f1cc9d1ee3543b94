-- The generator PCG32 (PCG-XSH-RR of M. E. O'Neill: 64 bits of state, 32 of output), and its draws.
use Rattle.std.specs.Prelude.{ℕ, zero, suc, ◌+◌, ◌*◌, ◌/◌, ◌%◌, ◌^◌, List, [], ◌∷◌, bit_or, bit_xor}
use Rattle.std.specs.Int.{w32, rotate_right}

-- A state, and the odd number that is added in each step.
pub record Generator : Type 0 where
  pub state : ℕ
  pub increment : ℕ

abbrev pub multiplier : ℕ
multiplier = 6364136223846793005

abbrev pub stepped : ℕ → ℕ → ℕ
stepped increment state = (state * multiplier + increment) % 2 ^ 64

abbrev pub next : Generator → Generator
next generator = record generator { state = stepped generator.increment generator.state }

-- The draw at a state: 32 bits of it with higher ones folded over them, rotated by the number in the highest five.
abbrev pub draw_at : ℕ → ℕ
draw_at state = rotate_right w32 (bit_xor (state / 2 ^ 18) state / 2 ^ 27 % 2 ^ 32) (state / 2 ^ 59)

-- so many draws, in order
unfoldable pub draws : ℕ → Generator → List ℕ
draws zero generator = []
draws (suc n) generator = draw_at generator.state ∷ draws n (next generator)

-- the generator after so many draws
unfoldable pub after : ℕ → Generator → Generator
after zero generator = generator
after (suc n) generator = after n (next generator)

-- ---- the generator of a seed

abbrev pub seeding_increment : ℕ
seeding_increment = 0xA17654E46FBE17F3

-- a seed is expanded by the same steps, with an increment of their own
abbrev pub expanded : ℕ → ℕ → ℕ
expanded zero seed = seed
expanded (suc n) seed = stepped seeding_increment (expanded n seed)

-- the word after so many steps
abbrev pub word : ℕ → ℕ → ℕ
word n seed = draw_at (expanded n seed)

abbrev pub long_of : ℕ → ℕ → ℕ
long_of low high = low + high * 2 ^ 32

-- a generator begins one step behind the sum of a state and its increment
abbrev pub begun : ℕ → ℕ → Generator
begun state increment = next (record { state = (state + increment) % 2 ^ 64; increment = increment })

-- The first two words of a seed are a state, the next two an increment, which is made odd.
abbrev pub seeded : ℕ → Generator
seeded seed = begun (long_of (word 1 seed) (word 2 seed)) (bit_or (long_of (word 3 seed) (word 4 seed)) 1)
