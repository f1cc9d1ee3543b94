-- Reading a frame and its bytes undo one another.
use Rattle.std.proofs.Common.{rules, ◌==◌, ◌∷◌, ◌/◌, ◌%◌, ◌≡◌, ℕ, ◌+◌, ◌*◌, ◌<◌, ◌≤◌, List, [], ◌++◌, length, drop, slice_index, Some, None, true, nat_le, refl, sym, ap, ◌∙◌, arith, subst, if◌then◌else◌, append-nil, length-append, inl, inr}
use Rattle.std.proofs.lemmas.Bool.{le-leb}
use Rattle.std.specs.List.{AllByRecursion}
use Rattle.std.specs.Prelude.{All, IfSome}
use Rattle.std.proofs.lemmas.Bool.Decides.{nat_tests, eqb_tells, leb_tells}
use Rattle.std.proofs.lemmas.List.Elements.{recursion_from_All, All-from_recursion}
use Rattle.mb_frames.specs.declared.frame.Access.{Access}
use Rattle.mb_frames.specs.declared.frame.Frame.{Frame}
use Rattle.mb_frames.specs.declared.frame.Frame.TheVariants as frame
use Rattle.mb_frames.specs.Layout.{AccessField, BeginsWith, Fits, IsFrame, StandsIn, access_table, bytes_of_fields, fields_of, fields_of_access, format_of, frame_bytes, frame_length, long_field, vector_offset_of, word_field}
use Rattle.mb_frames.specs.Reading.{access_in, format_in, frame_in, frame_of_format, long_at, offset_in, with_fields, word_at}
use Rattle.mb_frames.specs.AccessFields.{no_fields}
use Rattle.mb_frames.proofs.Fields.{AreAdjacent, ReadsAs, fields_read, fields_stand, fields_written, length-bytes_of_fields, size_of}
use Rattle.mb_frames.specs.declared.places.TheConstants.{LONGEST}

word-read : (b : List ℕ) (place value : ℕ) → ReadsAs b (word_field place value) → word_at b place ≡ value
unfolding word_at
word-read b place value h = h

long-read : (b : List ℕ) (place value : ℕ) → ReadsAs b (long_field place value) → long_at b place ≡ value
unfolding long_at
long-read b place value h = h

-- the format and the offset of a format word
pub format-read : (w format offset : ℕ) → w ≡ format * 4096 + offset → offset < 4096 → (w / 4096 ≡ format) × (w % 4096 ≡ offset)
format-read w format offset e low = (omega arith, omega arith)

-- the length test, once the format is known
pub frame_in-format : (b : List ℕ) (format : ℕ) → format_in b ≡ format → frame_length format ≤ length b → frame_in b ≡ frame_of_format format b
unfolding frame_in
frame_in-format b format e long_enough =
    let test : nat_le (frame_length format) (length b) ≡ true = le-leb (frame_length format) (length b) long_enough in
    rw (e, test) refl

-- the fields of a part of the table as `a` has them
abbrev set_as : Access → List AccessField → Access → Access
set_as a [] others = others
set_as a (f ∷ fs) others = set_as a fs (f.with_value (f.value a) others)

-- where each is read as `a` has it
with_fields-set_as : (word long : ℕ → ℕ) (a : Access) (fs : List AccessField) (others : Access)
    → AllByRecursion (λ f. (if f.size == 2 then word f.offset else long f.offset) ≡ f.value a) fs
    → with_fields word long fs others ≡ set_as a fs others
with_fields-set_as word long a [] others read = refl
with_fields-set_as word long a (f ∷ fs) others (first, rest) =
    ap (λ n. with_fields word long fs (f.with_value n others)) first
    ∙ with_fields-set_as word long a fs (f.with_value (f.value a) others) rest

pub access-read : (b : List ℕ) (a : Access) → AllByRecursion (ReadsAs b) (fields_of_access a) → access_in b ≡ a
unfolding word_at long_at
access-read b a read = with_fields-set_as (word_at b) (long_at b) a access_table no_fields read

-- where the fields of a frame are read, the frame is
pub frame_in-read : (b : List ℕ) (f : Frame) → size_of (fields_of f) ≤ length b → vector_offset_of f < 0x1000
    → AllByRecursion (ReadsAs b) (fields_of f) → frame_in b ≡ Some f
frame_in-read b (frame.Short sr pc offset) room low (sr_read, (pc_read, (format_read, end))) =
    let format = format-read (word_at b 6) 0 offset (word-read b 6 _ format_read) low in
    frame_in-format b 0 (format.0) room ∙ rw (word-read b 0 _ sr_read, long-read b 2 _ pc_read, format.1) refl
frame_in-read b (frame.Throwaway sr pc offset) room low (sr_read, (pc_read, (format_read, end))) =
    let format = format-read (word_at b 6) 1 offset (word-read b 6 _ format_read) low in
    frame_in-format b 1 (format.0) room ∙ rw (word-read b 0 _ sr_read, long-read b 2 _ pc_read, format.1) refl
frame_in-read b (frame.Address sr pc offset address) room low (sr_read, (pc_read, (format_read, (address_read, end)))) =
    let format = format-read (word_at b 6) 2 offset (word-read b 6 _ format_read) low in
    frame_in-format b 2 (format.0) room
    ∙ rw (word-read b 0 _ sr_read, long-read b 2 _ pc_read, format.1, long-read b 8 _ address_read) refl
frame_in-read b (frame.Access sr pc offset access) room low (sr_read, (pc_read, (format_read, access_read))) =
    let format = format-read (word_at b 6) 7 offset (word-read b 6 _ format_read) low in
    frame_in-format b 7 (format.0) room
    ∙ rw (word-read b 0 _ sr_read, long-read b 2 _ pc_read, format.1, access-read b access access_read) refl

-- the fields of a frame follow one another
fields-adjacent : (f : Frame) → AreAdjacent 0 (fields_of f)
fields-adjacent (frame.Short sr pc offset) = (refl, (refl, (refl, tt)))
fields-adjacent (frame.Throwaway sr pc offset) = (refl, (refl, (refl, tt)))
fields-adjacent (frame.Address sr pc offset address) = (refl, (refl, (refl, (refl, tt))))
fields-adjacent (frame.Access sr pc offset access) = search rules

-- each field of a frame stands in its bytes at its offset
pub frame_bytes-stand : (f : Frame) (rest : List ℕ) → All (StandsIn (frame_bytes f ++ rest)) (fields_of f)
unfolding frame_bytes
frame_bytes-stand f rest =
    All-from_recursion (StandsIn (frame_bytes f ++ rest)) (fields_of f)
    (fields_stand (frame_bytes f ++ rest) (fields_of f) 0 rest (fields-adjacent f) refl)

-- the round trip: a frame's bytes are read as the frame, whatever follows
pub frame_in-frame_bytes : (f : Frame) (rest : List ℕ) → IsFrame f → frame_in (frame_bytes f ++ rest) ≡ Some f
unfolding frame_bytes
frame_in-frame_bytes f rest h =
    let b = bytes_of_fields (fields_of f) ++ rest in
    let stand : AllByRecursion (StandsIn b) (fields_of f) = fields_stand b (fields_of f) 0 rest (fields-adjacent f) refl in
    let fit = recursion_from_All Fits (fields_of f) (h.1) in
    let room : size_of (fields_of f) ≤ length b = omega (arith, length-bytes_of_fields (fields_of f), length-append (bytes_of_fields (fields_of f)) rest) in
    frame_in-read b f room (h.0) (fields_read b (fields_of f) stand fit)

-- where the fields of a frame are read, its bytes stand
frame_bytes-read : (b : List ℕ) (f : Frame) → size_of (fields_of f) ≤ length b → ((i : ℕ) → slice_index b i < 256)
    → AllByRecursion (ReadsAs b) (fields_of f) → BeginsWith b f
unfolding frame_bytes
frame_bytes-read b f room bytes read =
    let start : 0 + size_of (fields_of f) ≡ length (bytes_of_fields (fields_of f)) = omega (arith, length-bytes_of_fields (fields_of f)) in
    fields_written b (fields_of f) 0 (fields-adjacent f) (omega arith) bytes read
    ∙ ap (λ (n : ℕ). bytes_of_fields (fields_of f) ++ drop n b) start

-- the format word that was read
format_word : (w format : ℕ) → w / 4096 ≡ format → w ≡ format * 4096 + w % 4096
format_word w format e = omega arith

short-written : (b : List ℕ) → format_in b ≡ 0 → 8 ≤ length b → ((i : ℕ) → slice_index b i < 256)
    → BeginsWith b (frame.Short (word_at b 0) (long_at b 2) (offset_in b))
unfolding word_at long_at
short-written b e room bytes =
    frame_bytes-read b (frame.Short (word_at b 0) (long_at b 2) (offset_in b)) room bytes
    (refl, (refl, (format_word (word_at b 6) 0 e, tt)))

throwaway-written : (b : List ℕ) → format_in b ≡ 1 → 8 ≤ length b → ((i : ℕ) → slice_index b i < 256)
    → BeginsWith b (frame.Throwaway (word_at b 0) (long_at b 2) (offset_in b))
unfolding word_at long_at
throwaway-written b e room bytes =
    frame_bytes-read b (frame.Throwaway (word_at b 0) (long_at b 2) (offset_in b)) room bytes
    (refl, (refl, (format_word (word_at b 6) 1 e, tt)))

address-written : (b : List ℕ) → format_in b ≡ 2 → 12 ≤ length b → ((i : ℕ) → slice_index b i < 256)
    → BeginsWith b (frame.Address (word_at b 0) (long_at b 2) (offset_in b) (long_at b 8))
unfolding word_at long_at
address-written b e room bytes =
    frame_bytes-read b (frame.Address (word_at b 0) (long_at b 2) (offset_in b) (long_at b 8)) room bytes
    (refl, (refl, (format_word (word_at b 6) 2 e, (refl, tt))))

access-written : (b : List ℕ) → format_in b ≡ 7 → LONGEST ≤ length b → ((i : ℕ) → slice_index b i < 256)
    → BeginsWith b (frame.Access (word_at b 0) (long_at b 2) (offset_in b) (access_in b))
unfolding word_at long_at
access-written b e room bytes =
    frame_bytes-read b (frame.Access (word_at b 0) (long_at b 2) (offset_in b) (access_in b)) room bytes
    (refl, (refl, (format_word (word_at b 6) 7 e, search rules)))

frame_of_format-written : (b : List ℕ) (format : ℕ) → format_in b ≡ format → frame_length format ≤ length b
    → ((i : ℕ) → slice_index b i < 256) → IfSome (frame_of_format format b) (BeginsWith b)
frame_of_format-written b format e room bytes =
    elim (eqb_tells format 0) [
      | inl short ↦ rw (short.1) (short-written b (e ∙ short.1) (rw (short.1) at room) bytes)
      | inr not_short ↦ rw (not_short.0) (elim (eqb_tells format 1) [
        | inl throwaway ↦ rw (throwaway.1) (throwaway-written b (e ∙ throwaway.1) (rw (throwaway.1) at room) bytes)
        | inr not_throwaway ↦ rw (not_throwaway.0) (elim (eqb_tells format 2) [
          | inl address ↦ rw (address.1) (address-written b (e ∙ address.1) (rw (address.1) at room) bytes)
          | inr not_address ↦ rw (not_address.0) (elim (eqb_tells format 7) [
            | inl access ↦ rw (access.1) (access-written b (e ∙ access.1) (rw (access.1) at room) bytes)
            | inr not_access ↦ rw (not_access.0) tt
          ])
        ])
      ])
    ]

-- bytes that are read as a frame begin with the frame's bytes
pub frame_bytes-frame_in : (b : List ℕ) → ((i : ℕ) → slice_index b i < 256) → IfSome (frame_in b) (BeginsWith b)
unfolding frame_in
frame_bytes-frame_in b bytes =
    elim (leb_tells (frame_length (format_in b)) (length b)) [
      | inl room ↦ rw (room.0) (frame_of_format-written b (format_in b) refl (room.1) bytes)
      | inr short ↦ rw (short.0) tt
    ]

-- the same for a list that is known to be a frame's bytes
pub frame_in-begins : (b : List ℕ) (f : Frame) (rest : List ℕ) → IsFrame f → b ≡ frame_bytes f ++ rest → frame_in b ≡ Some f
frame_in-begins b f rest h e = ap frame_in e ∙ frame_in-frame_bytes f rest h

-- the same for the bytes alone, by the facts that the code has
pub frame_in-bytes : (b : List ℕ) (f : Frame) → b ≡ frame_bytes f → vector_offset_of f < 4096 → All Fits (fields_of f) → frame_in b ≡ Some f
frame_in-bytes b f e low fits = frame_in-begins b f [] (low, fits) (e ∙ sym (append-nil (frame_bytes f)))

-- how the code comes to the frame
pub frame_in-word : (b : List ℕ) (w : ℕ) → w ≡ word_at b 6
    → frame_in b ≡ (if nat_le (frame_length (w / 4096)) (length b) then frame_of_format (w / 4096) b else None)
unfolding frame_in
frame_in-word b w e = rw e refl

-- every frame has eight bytes or more
frame_length-least : (format : ℕ) → 8 ≤ frame_length format
frame_length-least format = grind (arith, nat_tests)

-- fewer than eight bytes hold no frame
pub frame_in-short : (b : List ℕ) → length b < 8 → frame_in b ≡ None
unfolding frame_in
frame_in-short b short =
    elim (leb_tells (frame_length (format_in b)) (length b)) [
      | inl room ↦ absurd (let least = frame_length-least (format_in b) in omega arith)
      | inr cut ↦ rw (cut.0) refl
    ]

-- the bytes of a frame alone hold its fields
pub frame_bytes-stand_alone : (b : List ℕ) (f : Frame) → b ≡ frame_bytes f → All (StandsIn b) (fields_of f)
frame_bytes-stand_alone b f e =
    let P : List ℕ → Type 0 = λ b. All (StandsIn b) (fields_of f) in
    subst P (append-nil (frame_bytes f) ∙ sym e) (frame_bytes-stand f [])

-- how many bytes a frame has
pub length-frame_bytes : (f : Frame) → length (frame_bytes f) ≡ frame_length (format_of f)
unfolding frame_bytes
length-frame_bytes (frame.Short sr pc offset) = refl
length-frame_bytes (frame.Throwaway sr pc offset) = refl
length-frame_bytes (frame.Address sr pc offset address) = refl
length-frame_bytes (frame.Access sr pc offset access) = refl
