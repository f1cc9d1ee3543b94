-- Each instruction of a program is read from its words.
use Rattle.std.proofs.Common.{◌≡◌, ℕ, zero, suc, ◌+◌, ◌<◌, ◌≤◌, ◌^◌, List, [], ◌∷◌, ◌++◌, length, map, All, refl, ap, arith, length-append}
use Rattle.std.proofs.lemmas.List.Elements.{All-nil, All-cons, All-head, All-tail, All-append}
use Rattle.mb_decode.proofs.Table.{read_again}
use Rattle.mb_gen.specs.Draws.{Generator, next, draw_at, draws}
use Rattle.mb_gen.specs.Instructions.{Spelled, picked, enter, send, count_down, repeat, switch_off}
use Rattle.mb_gen.specs.Programs.{lap, way_back, program}
use Rattle.mb_gen.specs.Laws.{IsRead, ProgramsAreRead}
use Rattle.mb_gen.proofs.Codes.{IsSpelled, picked-spelled, enter-spelled, send-spelled, count_down-spelled, repeat-spelled, switch_off-spelled}
use Rattle.mb_gen.proofs.Kit.{draw_lt}
use Rattle.mb_gen.proofs.Laps.{length-draws}
use Rattle.mb_gen.proofs.Programs.{way_back-le}

spelled-read : (it : Spelled) → IsSpelled it → IsRead it
spelled-read it h = λ behind. read_again it.instruction it.words behind h

picked-read : (draws : List ℕ) → All (λ draw. draw < 2 ^ 32) draws → All IsRead (map picked draws)
picked-read [] h = All-nil IsRead
picked-read (draw ∷ draws) h =
    let P : ℕ → Type 0 = λ n. n < 2 ^ 32 in
    All-cons IsRead (picked draw) (map picked draws) (spelled-read (picked draw) (picked-spelled draw (All-head P draw draws h)))
    (picked-read draws (All-tail P draw draws h))

two : (a b : Spelled) → IsRead a → IsRead b → All IsRead (a ∷ b ∷ [])
two a b ha hb = All-cons IsRead a (b ∷ []) ha (All-cons IsRead b [] hb (All-nil IsRead))

lap-read : (draws : List ℕ) → All (λ draw. draw < 2 ^ 32) draws → All IsRead (lap draws)
lap-read draws h =
    All-append IsRead (map picked draws) (send ∷ count_down ∷ []) (picked-read draws h)
    (two send count_down (spelled-read send send-spelled) (spelled-read count_down count_down-spelled))

program-read : (draws : List ℕ) → All (λ draw. draw < 2 ^ 32) draws → length draws ≤ 2000 → All IsRead (program draws)
program-read draws h few =
    let back = way_back draws in
    let some : 0 < back = omega arith in
    let le : back ≤ 2 ^ 16 = omega (arith, way_back-le draws few) in
    All-cons IsRead enter (lap draws ++ repeat back ∷ switch_off ∷ []) (spelled-read enter enter-spelled)
    (All-append IsRead (lap draws) (repeat back ∷ switch_off ∷ []) (lap-read draws h)
    (two (repeat back) switch_off (spelled-read (repeat back) (repeat-spelled back some le)) (spelled-read switch_off switch_off-spelled)))

length-picked : (draws : List ℕ) → length (map picked draws) ≡ length draws
length-picked [] = refl
length-picked (draw ∷ draws) = ap suc (length-picked draws)

program-length : (draws : List ℕ) → length (program draws) ≡ length draws + 5
program-length draws =
    omega (
      arith,
      length-append (lap draws) (repeat (way_back draws) ∷ switch_off ∷ []),
      length-append (map picked draws) (send ∷ count_down ∷ []),
      length-picked draws,
    )

draws-bits : (n : ℕ) (g : Generator) → All (λ draw. draw < 2 ^ 32) (draws n g)
unfolding draws
draws-bits zero g = let P : ℕ → Type 0 = λ draw. draw < 2 ^ 32 in All-nil P
draws-bits (suc n) g =
    let P : ℕ → Type 0 = λ draw. draw < 2 ^ 32 in
    All-cons P (draw_at g.state) (draws n (next g)) (draw_lt g.state) (draws-bits n (next g))

pub programs_read : ProgramsAreRead
programs_read g =
    let taken = draws 2000 g in
    let few : length taken ≤ 2000 = omega (arith, length-draws 2000 g) in
    record { read = program-read taken (draws-bits 2000 g) few; count = omega (arith, program-length taken, length-draws 2000 g) }
