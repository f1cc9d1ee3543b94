-- The generator of the kit makes these steps and these draws.
use Rattle.std.proofs.Common.{◌≡◌, ℕ, zero, suc, ◌+◌, ◌-◌, ◌*◌, ◌/◌, ◌%◌, ◌^◌, ◌<◌, List, [], ◌++◌, take, bit_or, bit_xor, refl, ap, ◌∙◌, arith}
use Rattle.std.proofs.Math.Nat.{mod-add-mod, div-le_self}
use Rattle.std.proofs.lemmas.Nat.{or_of_32, from_le_bytes-to_le_bytes_4}
use Rattle.std.specs.Int.{w32, rotate_right, to_le_bytes}
use Rattle.rand_core.specs.Steps.{word_bytes, u32_at, u64_at}
use Rattle.rand_core.specs.Pcg32Seed.{pcg32_step, pcg32_seed}
use Rattle.rand_pcg.specs.Lcg.{Lcg}
use Rattle.rand_pcg.specs.Lcg as kit
use Rattle.rand_pcg.specs.Pcg.{multiplier_64, output_xsh_rr, pcg32, pcg32_of_seed}
use Rattle.mb_gen.specs.Draws.{Generator, multiplier, stepped, next, draw_at, seeding_increment, expanded, word, long_of, begun, seeded}
use Rattle.mb_gen.specs.Seen.{generator_seen}

-- ---- steps and draws

stepped_alike : (increment state : ℕ) → (state * multiplier % 2 ^ 64 + increment) % 2 ^ 64 ≡ stepped increment state
stepped_alike increment state = mod-add-mod (state * multiplier) (2 ^ 64) increment

pub next_alike : (g : Lcg) → generator_seen (kit.next 64 multiplier_64 g) ≡ next (generator_seen g)
next_alike g = ap (λ (s : ℕ). let made : Generator = record { state = s; increment = g.increment } in made) (stepped_alike g.increment g.state)

pub drawn_alike : (g : Lcg) → (pcg32 g).0 ≡ draw_at (generator_seen g).state
drawn_alike g = refl

-- ---- seeds

step_alike : (state : ℕ) → pcg32_step state ≡ (draw_at (stepped seeding_increment state), stepped seeding_increment state)
step_alike state = ap (λ (n : ℕ). (output_xsh_rr n, n)) (stepped_alike seeding_increment state)

-- the bytes of the first n words, the lowest of each first
first_words : ℕ → ℕ → List ℕ
first_words zero seed = []
first_words (suc n) seed = first_words n seed ++ to_le_bytes w32 (word (suc n) seed)

words_alike : (n seed : ℕ) → word_bytes (to_le_bytes w32) pcg32_step n seed ≡ (first_words n seed, expanded n seed)
unfolding word_bytes first_words
words_alike zero seed = refl
words_alike (suc n) seed =
    ap (λ (p : List ℕ × ℕ). (p.0 ++ to_le_bytes w32 (pcg32_step p.1).0, (pcg32_step p.1).1)) (words_alike n seed)
    ∙ ap (λ (p : ℕ × ℕ). (first_words n seed ++ to_le_bytes w32 p.0, p.1)) (step_alike (expanded n seed))

folded_lt : (x by : ℕ) → x < 2 ^ 32 → rotate_right w32 x by < 2 ^ 32
folded_lt x by lt =
    let low : x / 2 ^ (by % 32) < 2 ^ 32 = omega (arith, div-le_self x (2 ^ (by % 32))) in
    let high : x * 2 ^ ((32 - by % 32) % 32) % 2 ^ 32 < 2 ^ 32 = omega arith in
    or_of_32 _ _ low high

-- a draw has 32 bits
pub draw_lt : (state : ℕ) → draw_at state < 2 ^ 32
draw_lt state = folded_lt (bit_xor (state / 2 ^ 18) state / 2 ^ 27 % 2 ^ 32) (state / 2 ^ 59) (omega arith)

read_again : (n : ℕ) → n < 2 ^ 32 → u32_at (to_le_bytes w32 n) 0 ≡ n
unfolding u32_at
read_again n lt = from_le_bytes-to_le_bytes_4 n lt

four : ℕ → ℕ → ℕ → ℕ → List ℕ
four a b c d = ((([] ++ to_le_bytes w32 a) ++ to_le_bytes w32 b) ++ to_le_bytes w32 c) ++ to_le_bytes w32 d

both : (x y low high : ℕ) → x ≡ low → y ≡ high → x + y * 2 ^ 32 ≡ long_of low high
both x y low high e f = cc

first_read : (a b c d : ℕ) → a < 2 ^ 32 → b < 2 ^ 32 → u64_at (take 16 (four a b c d)) 0 ≡ long_of a b
unfolding u32_at four
first_read a b c d la lb = both _ _ a b (read_again a la) (read_again b lb)

second_read : (a b c d : ℕ) → c < 2 ^ 32 → d < 2 ^ 32 → u64_at (take 16 (four a b c d)) 1 ≡ long_of c d
unfolding u32_at four
second_read a b c d lc ld = both _ _ c d (read_again c lc) (read_again d ld)

-- the bytes of a seed are those of its four words
seed_alike : (seed : ℕ) → pcg32_seed 16 seed ≡ take 16 (four (word 1 seed) (word 2 seed) (word 3 seed) (word 4 seed))
unfolding pcg32_seed four first_words
seed_alike seed = ap (λ (p : List ℕ × ℕ). take 16 p.0) (words_alike 4 seed)

begun_of : (s i t j : ℕ) → s ≡ t → i ≡ j → generator_seen (kit.started 64 multiplier_64 s (bit_or i 1)) ≡ begun t (bit_or j 1)
begun_of s i t j e f =
    next_alike (record { state = (s + bit_or i 1) % 2 ^ 64; increment = bit_or i 1 })
    ∙ ap (λ (n : ℕ). begun n (bit_or i 1)) e
    ∙ ap (λ (n : ℕ). begun t (bit_or n 1)) f

pub seeded_alike : (seed : ℕ) → generator_seen (pcg32_of_seed (pcg32_seed 16 seed)) ≡ seeded seed
seeded_alike seed =
    let lt = λ (n : ℕ). draw_lt (expanded n seed) in
    let words = seed_alike seed in
    begun_of _ _ _ _
    (ap (λ (s : List ℕ). u64_at s 0) words ∙ first_read _ _ _ _ (lt 1) (lt 2))
    (ap (λ (s : List ℕ). u64_at s 1) words ∙ second_read _ _ _ _ (lt 3) (lt 4))
