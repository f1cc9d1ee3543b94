-- A guest's image, and what a session of such guests is.
use Rattle.std.proofs.Common.{◌≡◌, ℕ, zero, suc, ◌+◌, ◌-◌, ◌*◌, ◌<◌, ◌≤◌, List, [], ◌∷◌, ◌++◌, length, All, refl, sym, ap, ◌∙◌, append_assoc, arith, lit≤, length-append}
use Rattle.std.specs.Prelude.{sum_by}
use Rattle.std.proofs.lemmas.List.Elements.{All-nil, All-cons}
use Rattle.std.proofs.lemmas.List.{append-nil}
use Rattle.std.proofs.lemmas.List.Sums.{sum_by-cons}
use Rattle.std.proofs.lemmas.Grind.{flat_map-append}
use Rattle.mb_srec.specs.declared.image.Chunk.{Chunk}
use Rattle.mb_srec.specs.Image.{content_of, all_contents, LiesBelow}
use Rattle.mb_gen.specs.Instructions.{Spelled, repeat, switch_off}
use Rattle.mb_gen.specs.Draws.{Generator, draws, after, seeded}
use Rattle.mb_gen.specs.Programs.{words_of, bytes_of, longs_of, lap, way_back, program, image}
use Rattle.vm_shadow.specs.declared.area.TheConstants.{AREA_BYTES}
use Rattle.vm_guest.specs.Session.{GuestAtStart, SessionAtStart, IsGuest, IsSession}
use Rattle.mb_gen.specs.Sessions.{guest_of, guests_from, generated, IsJustFilled}
use Rattle.mb_gen.proofs.Laps.{length-bytes, length-lap, length-draws}

-- three chunks with these bytes are the image
pub image_made : (taken : List ℕ) (chunks : List Chunk) (a b c : Chunk) (x y z : List ℕ) → chunks ≡ a ∷ b ∷ c ∷ [] →
    content_of a ≡ (0, x) → content_of b ≡ (0x400, y) → content_of c ≡ (0x7F00, z) →
    x ≡ longs_of (0x8000 ∷ 0x400 ∷ []) → y ≡ bytes_of (words_of (program taken)) → z ≡ longs_of (100 ∷ []) → all_contents chunks ≡ image taken
image_made taken chunks a b c x y z e fa fb fc ex ey ez =
    let start = longs_of (0x8000 ∷ 0x400 ∷ []) in
    let bytes = bytes_of (words_of (program taken)) in
    let counter = longs_of (100 ∷ []) in
    let first : content_of a ≡ (0, start) = fa ∙ ap (λ (t : List ℕ). let p : ℕ × List ℕ = (0, t) in p) ex in
    let second : content_of b ≡ (0x400, bytes) = fb ∙ ap (λ (t : List ℕ). let p : ℕ × List ℕ = (0x400, t) in p) ey in
    let third : content_of c ≡ (0x7F00, counter) = fc ∙ ap (λ (t : List ℕ). let p : ℕ × List ℕ = (0x7F00, t) in p) ez in
    ap all_contents e
    ∙ ap (λ (p : ℕ × List ℕ). p ∷ content_of b ∷ content_of c ∷ []) first
    ∙ ap (λ (p : ℕ × List ℕ). (0, start) ∷ p ∷ content_of c ∷ []) second
    ∙ ap (λ (p : ℕ × List ℕ). (0, start) ∷ (0x400, bytes) ∷ p ∷ []) third

-- ---- sizes

length-program : (taken : List ℕ) → length (words_of (program taken)) ≤ 2 * length taken + 15
length-program taken =
    omega (
      arith,
      ap length (flat_map-append (λ (s : Spelled). s.words) (lap taken) (repeat (way_back taken) ∷ switch_off ∷ [])),
      length-append (words_of (lap taken)) (words_of (repeat (way_back taken) ∷ switch_off ∷ [])),
      length-lap taken,
    )

program-lies : (taken : List ℕ) → length taken ≤ 2000 → 0x400 + length (bytes_of (words_of (program taken))) ≤ 65536
program-lies taken few = omega (arith, length-bytes (words_of (program taken)), length-program taken)

image-lies : (taken : List ℕ) → length taken ≤ 2000 → All (LiesBelow 65536) (image taken)
image-lies taken few =
    let start : ℕ × List ℕ = (0, longs_of (0x8000 ∷ 0x400 ∷ [])) in
    let code : ℕ × List ℕ = (0x400, bytes_of (words_of (program taken))) in
    let counter : ℕ × List ℕ = (0x7F00, longs_of (100 ∷ [])) in
    let P = LiesBelow 65536 in
    All-cons P start (code ∷ counter ∷ []) (λ some. lit≤ tt)
    (All-cons P code (counter ∷ []) (λ some. program-lies taken few) (All-cons P counter [] (λ some. lit≤ tt) (All-nil P)))

guest-is : (taken : List ℕ) → length taken ≤ 2000 → IsGuest (guest_of taken)
guest-is taken few = record { ram = (lit≤ tt, lit≤ tt, refl); image = image-lies taken few }

-- ---- guests

guests-are : (n : ℕ) (g : Generator) → All IsGuest (guests_from n g)
unfolding guests_from
guests-are zero g = All-nil IsGuest
guests-are (suc n) g =
    let few : length (draws 2000 g) ≤ 2000 = omega (arith, length-draws 2000 g) in
    All-cons IsGuest (guest_of (draws 2000 g)) (guests_from n (after 2000 g)) (guest-is (draws 2000 g) few) (guests-are n (after 2000 g))

length-guests : (n : ℕ) (g : Generator) → length (guests_from n g) ≡ n
unfolding guests_from
length-guests zero g = refl
length-guests (suc n) g = ap suc (length-guests n (after 2000 g))

share : GuestAtStart → ℕ
share guest = guest.ram + AREA_BYTES

share-of : (taken : List ℕ) → share (guest_of taken) ≡ 131072
unfolding share
share-of taken = refl

shares : (n : ℕ) (g : Generator) → sum_by share (guests_from n g) ≡ 131072 * n
unfolding guests_from
shares zero g = refl
shares (suc n) g =
    omega (arith, sum_by-cons share (guest_of (draws 2000 g)) (guests_from n (after 2000 g)), share-of (draws 2000 g), shares n (after 2000 g))

-- ---- a session

pub session-is : (seed guests : ℕ) → 1 ≤ guests → guests ≤ 16 → IsSession (generated seed guests)
session-is seed guests some few = record {
  board = (omega arith, omega arith, omega arith);
  slice = lit≤ tt;
  some = rw (length-guests guests (seeded seed)) some;
  few = rw (length-guests guests (seeded seed)) few;
  guests = guests-are guests (seeded seed);
}

pub session-filled : (seed guests : ℕ) → IsJustFilled (generated seed guests)
unfolding share
session-filled seed guests = ap (λ (n : ℕ). 65536 + n) (shares guests (seeded seed))

-- ---- one guest after the other

fewer : (n i : ℕ) → i < n → n - i ≡ suc (n - (i + 1))
fewer n i lt = omega arith

guests_left : (n i : ℕ) (g : Generator) → i < n → guests_from (n - i) g ≡ guest_of (draws 2000 g) ∷ guests_from (n - (i + 1)) (after 2000 g)
unfolding guests_from
guests_left n i g lt = ap (λ (k : ℕ). guests_from k g) (fewer n i lt)

pub one_more_guest : (n i : ℕ) (g h : Generator) (made : GuestAtStart) (before all whole : List GuestAtStart) → i < n → made ≡ guest_of (draws 2000 g) →
    h ≡ after 2000 g → all ≡ before ++ made ∷ [] → before ++ guests_from (n - i) g ≡ whole → all ++ guests_from (n - (i + 1)) h ≡ whole
one_more_guest n i g h made before all whole lt is moved added so_far =
    rw (added, is, moved, append_assoc) (ap (λ (t : List GuestAtStart). before ++ t) (sym (guests_left n i g lt)) ∙ so_far)

pub all_guests : (n i : ℕ) (g : Generator) (all whole : List GuestAtStart) → n ≤ i → all ++ guests_from (n - i) g ≡ whole → all ≡ whole
unfolding guests_from
all_guests n i g all whole le so_far =
    let none : n - i ≡ 0 = omega arith in
    sym (append-nil all) ∙ (rw none at so_far)

pub session_made : (seed guests board : ℕ) (all : List GuestAtStart) (session : SessionAtStart) →
    session ≡ record { board = board; slice = 1000; guests = all } → board ≡ 65536 + 131072 * guests →
    all ≡ guests_from guests (seeded seed) → session ≡ generated seed guests
session_made seed guests board all session e f g =
    e ∙ ap (λ (b : ℕ). let s : SessionAtStart = record { board = b; slice = 1000; guests = all } in s) f
    ∙ ap (λ (t : List GuestAtStart). let s : SessionAtStart = record { board = 65536 + 131072 * guests; slice = 1000; guests = t } in s) g
