-- The bytes of a program.
use Rattle.std.proofs.Common.{◌≡◌, ℕ, ◌+◌, ◌≤◌, List, [], ◌∷◌, ◌++◌, length, sym, ap, ◌∙◌, append_assoc, arith}
use Rattle.std.proofs.lemmas.Grind.{flat_map-append}
use Rattle.byteorder.specs.Endian.{big_bytes}
use Rattle.mb_gen.specs.Instructions.{Spelled, enter, repeat, switch_off}
use Rattle.mb_gen.specs.Programs.{words_of, bytes_of, lap, way_back, program}
use Rattle.mb_gen.proofs.Laps.{length-bytes, length-lap}

-- the bytes of a lap
abbrev pub lap_bytes : List ℕ → List ℕ
lap_bytes taken = bytes_of (words_of (lap taken))

-- the way back, counted in bytes
pub back_over : (taken : List ℕ) → length (lap_bytes taken) + 2 ≡ way_back taken
back_over taken = omega (arith, length-bytes (words_of (lap taken)))

pub way_back-le : (taken : List ℕ) → length taken ≤ 2000 → way_back taken ≤ 8012
way_back-le taken few = omega (arith, length-lap taken)

pub whole : (taken : List ℕ) → bytes_of (words_of (program taken))
    ≡ bytes_of enter.words ++ (lap_bytes taken ++ (bytes_of (repeat (way_back taken)).words ++ bytes_of switch_off.words))
whole taken =
    let rest = repeat (way_back taken) ∷ switch_off ∷ [] in
    ap (λ (t : List ℕ). bytes_of enter.words ++ t)
    (ap bytes_of (flat_map-append (λ (s : Spelled). s.words) (lap taken) rest)
    ∙ flat_map-append (big_bytes 2) (words_of (lap taken)) (words_of rest))

-- the program is written part by part
pub written : (taken entered lapped repeated end : List ℕ) (back : ℕ) → entered ≡ [] ++ bytes_of enter.words → lapped ≡ entered ++ lap_bytes taken →
    back ≡ way_back taken → repeated ≡ lapped ++ bytes_of (repeat back).words → end ≡ repeated ++ bytes_of switch_off.words →
    end ≡ bytes_of (words_of (program taken))
written taken entered lapped repeated end back e f g h i =
    let tail : repeated ≡ (bytes_of enter.words ++ lap_bytes taken) ++ bytes_of (repeat (way_back taken)).words =
    h ∙ ap (λ (t : List ℕ). t ++ bytes_of (repeat back).words) (f ∙ ap (λ (t : List ℕ). t ++ lap_bytes taken) e)
    ∙ ap (λ (n : ℕ). (bytes_of enter.words ++ lap_bytes taken) ++ bytes_of (repeat n).words) g in
    i ∙ ap (λ (t : List ℕ). t ++ bytes_of switch_off.words) tail
    ∙ append_assoc (bytes_of enter.words ++ lap_bytes taken) (bytes_of (repeat (way_back taken)).words) (bytes_of switch_off.words)
    ∙ append_assoc (bytes_of enter.words) (lap_bytes taken) (bytes_of (repeat (way_back taken)).words ++ bytes_of switch_off.words)
    ∙ sym (whole taken)
