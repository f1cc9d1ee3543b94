-- Fields that follow one another, and the bytes in which they stand.
use Rattle.std.proofs.Common.{◌≡◌, ℕ, ◌+◌, ◌<◌, ◌≤◌, List, [], ◌∷◌, ◌++◌, length, take, drop, slice_index, refl, sym, ap, ◌∙◌, arith, append_assoc, length-append, append-nil, take-append-drop, length-drop}
use Rattle.std.proofs.lemmas.List.{drop-drop, drop_at, get_or-drop}
use Rattle.std.proofs.Math.Seq.{take-append_seam}
use Rattle.std.specs.List.{AllByRecursion}
use Rattle.byteorder.specs.Endian.{big_bytes, big_number}
use Rattle.byteorder.specs.Numbers.{big_from-take, big_number-reads_back, length-bytes_high_first}
use Rattle.mb_frames.specs.Layout.{Field, Fits, StandsIn, bytes_of_fields}
use Rattle.mb_frames.proofs.Numbers.{bytes-number}

-- fields one after the other, the first at a place
abbrev pub AreAdjacent : ℕ → List Field → Type 0
AreAdjacent place [] = Unit {0}
AreAdjacent place (f ∷ fs) = (f.offset ≡ place) × AreAdjacent (place + f.size) fs

-- how many bytes fields have
abbrev pub size_of : List Field → ℕ
size_of [] = 0
size_of (f ∷ fs) = f.size + size_of fs

-- the number at the field's place is its value
abbrev pub ReadsAs : List ℕ → Field → Type 0
ReadsAs b f = big_number f.size (drop f.offset b) ≡ f.value

pub length-bytes_of_fields : (fs : List Field) → length (bytes_of_fields fs) ≡ size_of fs
length-bytes_of_fields [] = refl
length-bytes_of_fields (f ∷ fs) =
    length-append (big_bytes f.size f.value) (bytes_of_fields fs)
    ∙ ap (λ (n : ℕ). n + length (bytes_of_fields fs)) (length-bytes_high_first f.size f.value)
    ∙ ap (λ (n : ℕ). f.size + n) (length-bytes_of_fields fs)

-- the bytes of fields behind others
pub bytes_of_both : (fs gs : List Field) → bytes_of_fields (fs ++ gs) ≡ bytes_of_fields fs ++ bytes_of_fields gs
bytes_of_both [] gs = refl
bytes_of_both (f ∷ fs) gs =
    ap (λ (b : List ℕ). big_bytes f.size f.value ++ b) (bytes_of_both fs gs)
    ∙ sym (append_assoc (big_bytes f.size f.value) (bytes_of_fields fs) (bytes_of_fields gs))

-- bytes behind which those of fields come, one after the other
abbrev pub with_fields : List ℕ → List Field → List ℕ
with_fields b [] = b
with_fields b (f ∷ fs) = with_fields (b ++ big_bytes f.size f.value) fs

pub one_by_one : (b : List ℕ) (fs : List Field) → with_fields b fs ≡ b ++ bytes_of_fields fs
one_by_one b [] = sym (append-nil b)
one_by_one b (f ∷ fs) = one_by_one (b ++ big_bytes f.size f.value) fs ∙ append_assoc b (big_bytes f.size f.value) (bytes_of_fields fs)

-- where the bytes of the fields stand, each field stands
pub fields_stand : (b : List ℕ) (fs : List Field) (place : ℕ) (rest : List ℕ) → AreAdjacent place fs
    → drop place b ≡ bytes_of_fields fs ++ rest → AllByRecursion (StandsIn b) fs
fields_stand b [] place rest adjacent h = tt
fields_stand b (f ∷ fs) place rest adjacent h =
    let here : drop place b ≡ big_bytes f.size f.value ++ (bytes_of_fields fs ++ rest) =
    h ∙ append_assoc (big_bytes f.size f.value) (bytes_of_fields fs) rest in
    let size = length-bytes_high_first f.size f.value in
    let place_is = adjacent.0 in
    let taken : take (length (big_bytes f.size f.value)) (big_bytes f.size f.value ++ (bytes_of_fields fs ++ rest)) ≡ big_bytes f.size f.value =
    take-append_seam (big_bytes f.size f.value) (bytes_of_fields fs ++ rest) in
    let next : drop (place + f.size) b ≡ bytes_of_fields fs ++ rest =
    sym (drop-drop f.size place b) ∙ ap (drop f.size) here ∙ drop_at (big_bytes f.size f.value) (bytes_of_fields fs ++ rest) f.size size in
    (cc, fields_stand b fs (place + f.size) rest (adjacent.1) next)

-- a field that stands in the bytes and fits is read there
pub fields_read : (b : List ℕ) (fs : List Field) → AllByRecursion (StandsIn b) fs → AllByRecursion Fits fs → AllByRecursion (ReadsAs b) fs
fields_read b [] stand fit = tt
fields_read b (f ∷ fs) stand fit =
    let first : big_number f.size (drop f.offset b) ≡ f.value =
    sym (big_from-take 0 f.size f.size (drop f.offset b) (omega arith))
    ∙ ap (big_number f.size) (stand.0 ∙ sym (append-nil (big_bytes f.size f.value)))
    ∙ big_number-reads_back f.size f.value [] (fit.0) in
    (first, fields_read b fs (stand.1) (fit.1))

-- fields that are read at their places are the bytes there
pub fields_written : (b : List ℕ) (fs : List Field) (place : ℕ) → AreAdjacent place fs → place + size_of fs ≤ length b
    → ((i : ℕ) → slice_index b i < 256) → AllByRecursion (ReadsAs b) fs
    → drop place b ≡ bytes_of_fields fs ++ drop (place + size_of fs) b
fields_written b [] place adjacent room bytes read = ap (λ (n : ℕ). drop n b) (omega arith)
fields_written b (f ∷ fs) place adjacent room bytes read =
    let here : f.offset ≡ place = adjacent.0 in
    let value : big_number f.size (drop place b) ≡ f.value = ap (λ (n : ℕ). big_number f.size (drop n b)) (sym here) ∙ read.0 in
    let inside : f.size ≤ length (drop place b) = omega (arith, length-drop place b) in
    let byte : (i : ℕ) → slice_index (drop place b) i < 256 = λ i. rw (get_or-drop place b i 0) (bytes (place + i)) in
    let first : big_bytes f.size f.value ≡ take f.size (drop place b) =
    ap (big_bytes f.size) (sym value) ∙ bytes-number f.size (drop place b) inside byte in
    let whole = take-append-drop f.size (drop place b) in
    let moved = drop-drop f.size place b in
    let later = fields_written b fs (place + f.size) (adjacent.1) (omega arith) bytes (read.1) in
    let end : place + f.size + size_of fs ≡ place + (f.size + size_of fs) = omega arith in
    let tail : drop (place + f.size + size_of fs) b ≡ drop (place + (f.size + size_of fs)) b = ap (λ (n : ℕ). drop n b) end in
    sym whole
    ∙ ap (λ (xs : List ℕ). xs ++ drop f.size (drop place b)) (sym first)
    ∙ ap (λ (xs : List ℕ). big_bytes f.size f.value ++ xs) (moved ∙ later)
    ∙ sym (append_assoc (big_bytes f.size f.value) (bytes_of_fields fs) (drop (place + f.size + size_of fs) b))
    ∙ ap (λ (xs : List ℕ). (big_bytes f.size f.value ++ bytes_of_fields fs) ++ xs) tail
