-- The bytes of a lap.
use Rattle.std.proofs.Common.{◌≡◌, ℕ, zero, suc, ◌+◌, ◌-◌, ◌*◌, ◌/◌, ◌%◌, ◌<◌, ◌≤◌, List, [], ◌∷◌, ◌++◌, length, map, refl, sym, ap, ◌∙◌, append_assoc, arith, length-append, lit≤}
use Rattle.std.proofs.lemmas.Grind.{flat_map-append}
use Rattle.std.proofs.lemmas.List.{append-nil}
use Rattle.byteorder.specs.Endian.{big_bytes}
use Rattle.mb_gen.specs.Draws.{Generator, next, draw_at, draws, after}
use Rattle.mb_gen.specs.Instructions.{Spelled, picked, send, count_down}
use Rattle.mb_gen.proofs.Picked.{picked_is}
use Rattle.mb_gen.specs.Programs.{words_of, bytes_of, lap}

-- the bytes of what some draws pick
abbrev pub picks : List ℕ → List ℕ
picks taken = bytes_of (words_of (map picked taken))

-- ---- the draws that are left

fewer : (i : ℕ) → i < 2000 → 2000 - i ≡ suc (2000 - (i + 1))
fewer i lt = omega arith

pub draws_left : (i : ℕ) (g : Generator) → i < 2000 → draws (2000 - i) g ≡ draw_at g.state ∷ draws (2000 - (i + 1)) (next g)
unfolding draws
draws_left i g lt = ap (λ (n : ℕ). draws n g) (fewer i lt)

pub after_left : (i : ℕ) (g : Generator) → i < 2000 → after (2000 - i) g ≡ after (2000 - (i + 1)) (next g)
unfolding after
after_left i g lt = ap (λ (n : ℕ). after n g) (fewer i lt)

-- one more instruction is added
pub one_more : (i draw : ℕ) (g h : Generator) (before bytes all : List ℕ) → i < 2000 → draw ≡ draw_at g.state → h ≡ next g →
    bytes ≡ before ++ bytes_of (picked draw).words → before ++ picks (draws (2000 - i) g) ≡ all →
    bytes ++ picks (draws (2000 - (i + 1)) h) ≡ all
one_more i draw g h before bytes all lt drawn moved added so_far =
    rw (added, drawn, moved, append_assoc)
    (ap (λ (t : List ℕ). before ++ t)
    (sym (flat_map-append (big_bytes 2) (picked (draw_at g.state)).words (words_of (map picked (draws (2000 - (i + 1)) (next g)))))
    ∙ sym (ap picks (draws_left i g lt)))
    ∙ so_far)

-- no draws are left, and the end of the lap is added
pub lap_done : (taken : List ℕ) → picks taken ++ bytes_of send.words ++ bytes_of count_down.words ≡ bytes_of (words_of (lap taken))
lap_done taken =
    let tail = send ∷ count_down ∷ [] in
    append_assoc (picks taken) (bytes_of send.words) (bytes_of count_down.words)
    ∙ sym (flat_map-append (big_bytes 2) (words_of (map picked taken)) (words_of tail))
    ∙ ap bytes_of (sym (flat_map-append (λ (s : Spelled). s.words) (map picked taken) tail))

pub none_left : (i : ℕ) (g : Generator) → 2000 ≤ i → draws (2000 - i) g ≡ []
unfolding draws
none_left i g le = let none : 2000 - i ≡ 0 = omega arith in rw none refl

pub at_end : (i : ℕ) (g : Generator) → 2000 ≤ i → after (2000 - i) g ≡ g
unfolding after
at_end i g le = let none : 2000 - i ≡ 0 = omega arith in rw none refl

-- ---- lengths

pub length-bytes : (words : List ℕ) → length (bytes_of words) ≡ 2 * length words
length-bytes [] = refl
length-bytes (word ∷ words) = let e = length-bytes words in omega arith

HasFew : Spelled → Type 0
HasFew it = length it.words ≤ 2

few-picked : (draw : ℕ) → length (picked draw).words ≤ 2
unfolding HasFew
few-picked draw =
    picked_is HasFew (draw % 8) (draw / 8 % 8) (draw / 64 % 8) (draw / 65536)
    (lit≤ tt) (lit≤ tt) (lit≤ tt) (lit≤ tt) (lit≤ tt) (lit≤ tt) (lit≤ tt) (lit≤ tt)

length-picks : (taken : List ℕ) → length (words_of (map picked taken)) ≤ 2 * length taken
length-picks [] = omega arith
length-picks (draw ∷ taken) =
    omega (arith, length-append (picked draw).words (words_of (map picked taken)), few-picked draw, length-picks taken)

pub length-lap : (taken : List ℕ) → length (words_of (lap taken)) ≤ 2 * length taken + 5
length-lap taken =
    omega (
      arith,
      ap length (flat_map-append (λ (s : Spelled). s.words) (map picked taken) (send ∷ count_down ∷ [])),
      length-append (words_of (map picked taken)) (words_of (send ∷ count_down ∷ [])),
      length-picks taken,
    )

pub length-draws : (n : ℕ) (g : Generator) → length (draws n g) ≡ n
unfolding draws
length-draws zero g = refl
length-draws (suc n) g = ap suc (length-draws n (next g))

-- what was before, what was picked, and the end of the lap
pub closed : (first left taken sent counted end whole : List ℕ) → end ≡ counted ++ bytes_of count_down.words →
    counted ≡ sent ++ bytes_of send.words → left ≡ [] → sent ++ left ≡ first ++ taken → taken ++ bytes_of send.words ++ bytes_of count_down.words ≡ whole →
    end ≡ first ++ whole
closed first left taken sent counted end whole e f none so_far done =
    let sum : sent ≡ first ++ taken = sym (append-nil sent) ∙ ap (λ (t : List ℕ). sent ++ t) (sym none) ∙ so_far in
    let ends = bytes_of send.words ++ bytes_of count_down.words in
    e ∙ ap (λ (t : List ℕ). t ++ bytes_of count_down.words) (f ∙ ap (λ (t : List ℕ). t ++ bytes_of send.words) sum)
    ∙ append_assoc (first ++ taken) (bytes_of send.words) (bytes_of count_down.words) ∙ append_assoc first taken ends
    ∙ ap (λ (t : List ℕ). first ++ t) (sym (append_assoc taken (bytes_of send.words) (bytes_of count_down.words)) ∙ done)
