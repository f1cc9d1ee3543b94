-- Readings, one after the other.
use Rattle.std.proofs.Common.{◌≡◌, ◌∙◌, inl, inr, refl, sym, ap, subst, true, Option, Some, None, Result, Ok, Err}
use Rattle.std.specs.Prelude.{IfSome, is_some, option_and_then, string_bytes}
use Rattle.mb_words.specs.Words.{Text}
use Rattle.mb_files.specs.Reading.{Told, Reading, gives, refuses, reads, ◌>>=◌, end_of}
use Rattle.mb_files.specs.Comes.{Comes, Names}
use Rattle.mb_files.specs.Shelves.{ShelfSeen}
use Rattle.mb_files.specs.Reads.{IsRead, IsUnread}
use Rattle.mb_files.specs.declared.fault.FileWhy.{FileWhy}
use Rattle.mb_files.specs.declared.fault.FileFault.{FileFault}
use Rattle.mb_files.specs.declared.fault.FileFault.TheVariants.{Refused, Unread, Memory}

-- ---- where all files are told

told_so : {A : Type 0} (o : Option Text) (bytes : Text) (f : Text → Option (Result A (Text × FileWhy))) (x : Result A (Text × FileWhy))
    → IfSome o (λ content. bytes ≡ content) → option_and_then f o ≡ Some x → f bytes ≡ Some x
told_so None bytes f x may is = absurd cc
told_so (Some content) bytes f x may is = ap f may ∙ is

-- what comes is what is known
pub known : {A : Type 0} (told : Told) (r : Reading A) (x y : Result A (Text × FileWhy)) → end_of told r ≡ Some x → Comes told r y → y ≡ x
known told (gives v) x y is comes = cc
known told (refuses n w) x y is comes = cc
known told (reads file next) x y is (bytes, may, comes) =
    known told (next bytes) x y (told_so (told file) bytes (λ b. end_of told (next b)) x may is) comes

told_then : {A B : Type 0} (o : Option Text) (f : Text → Option (Result A (Text × FileWhy))) (g : Text → Option (Result B (Text × FileWhy)))
    (x : Result A (Text × FileWhy)) (y : Option (Result B (Text × FileWhy))) → option_and_then f o ≡ Some x
    → ((bytes : Text) → f bytes ≡ Some x → g bytes ≡ y) → option_and_then g o ≡ y
told_then None f g x y is each = absurd cc
told_then (Some bytes) f g x y is each = each bytes is

-- a reading whose files are told is followed by the next
pub end_then : {A B : Type 0} (told : Told) (r : Reading A) (f : A → Reading B) (x : A) → end_of told r ≡ Some (Ok x)
    → end_of told (r >>= f) ≡ end_of told (f x)
end_then told (gives y) f x is = let same : y ≡ x = cc in ap (λ z. end_of told (f z)) same
end_then told (refuses n w) f x is = absurd cc
end_then told (reads file next) f x is =
    told_then (told file) (λ b. end_of told (next b)) (λ b. end_of told (next b >>= f)) (Ok x) (end_of told (f x)) is
    (λ b here. end_then told (next b) f x here)

is_told : {A : Type 0} (o : Option Text) (f : Text → Option A) → is_some (option_and_then f o) ≡ true → is_some o ≡ true
is_told None f h = absurd cc
is_told (Some bytes) f h = refl

told_on : {A : Type 0} (o : Option Text) (bytes : Text) (f : Text → Option A) → IfSome o (λ content. bytes ≡ content)
    → is_some (option_and_then f o) ≡ true → is_some (f bytes) ≡ true
told_on None bytes f may h = absurd cc
told_on (Some content) bytes f may h = ap (λ b. is_some (f b)) may ∙ h

-- where it is known what it comes to, each of its files is told
pub named_is_told : {A : Type 0} (told : Told) (r : Reading A) (name : Text) → is_some (end_of told r) ≡ true → Names told r name
    → is_some (told name) ≡ true
named_is_told told (gives x) name is names = absurd names
named_is_told told (refuses n w) name is names = absurd names
named_is_told told (reads file next) name is (inl same) =
    subst (λ (n : Text). is_some (told n) ≡ true) (sym same) (is_told (told file) (λ b. end_of told (next b)) is)
named_is_told told (reads file next) name is (inr (bytes, may, names)) =
    named_is_told told (next bytes) name (told_on (told file) bytes (λ b. end_of told (next b)) may is) names

-- ---- one after the other

pub comes_then : {A B : Type 0} (told : Told) (r : Reading A) (f : A → Reading B) (x : A) (end : Result B (Text × FileWhy))
    → Comes told r (Ok x) → Comes told (f x) end → Comes told (r >>= f) end
comes_then told (gives y) f x end is comes = let same : y ≡ x = cc in subst (λ z. Comes told (f z) end) (sym same) comes
comes_then told (refuses n w) f x end is comes = absurd cc
comes_then told (reads file next) f x end (bytes, may, is) comes = (bytes, may, comes_then told (next bytes) f x end is comes)

pub refused_then : {A B : Type 0} (told : Told) (r : Reading A) (f : A → Reading B) (name : Text) (why : FileWhy) → Comes told r (Err (name, why))
    → Comes told (r >>= f) (Err (name, why))
refused_then told (gives y) f name why is = absurd cc
refused_then told (refuses n w) f name why is = cc
refused_then told (reads file next) f name why (bytes, may, is) = (bytes, may, refused_then told (next bytes) f name why is)

pub names_first : {A B : Type 0} (told : Told) (r : Reading A) (f : A → Reading B) (name : Text) → Names told r name → Names told (r >>= f) name
names_first told (gives y) f name names = absurd names
names_first told (refuses n w) f name names = absurd names
names_first told (reads file next) f name (inl same) = inl same
names_first told (reads file next) f name (inr (bytes, may, names)) = inr (bytes, may, names_first told (next bytes) f name names)

pub names_then : {A B : Type 0} (told : Told) (r : Reading A) (f : A → Reading B) (x : A) (name : Text) → Comes told r (Ok x)
    → Names told (f x) name → Names told (r >>= f) name
names_then told (gives y) f x name is names = let same : y ≡ x = cc in subst (λ z. Names told (f z) name) (sym same) names
names_then told (refuses n w) f x name is names = absurd cc
names_then told (reads file next) f x name (bytes, may, is) names = inr (bytes, may, names_then told (next bytes) f x name is names)

-- ---- what reading them gave

-- a reading that was not read is not read whatever follows
pub unread_first : {A B : Type 0} (r : Reading A) (f : A → Reading B) (s t : ShelfSeen) (fault : FileFault) → IsUnread r s t fault
    → IsUnread (r >>= f) s t fault
unread_first r f s t (Refused name why) h = (h.0, refused_then s.told r f (string_bytes name) why h.1)
unread_first r f s t (Unread name) h = (names_first s.told r f (string_bytes name) h.0, h.1, h.2)
unread_first r f s t Memory h = h

unread_behind : {A B : Type 0} (r : Reading A) (f : A → Reading B) (x : A) (s u : ShelfSeen) (fault : FileFault) → Comes s.told r (Ok x)
    → IsUnread (f x) s u fault → IsUnread (r >>= f) s u fault
unread_behind r f x s u (Refused name why) is h = (h.0, comes_then s.told r f x (Err (string_bytes name, why)) is h.1)
unread_behind r f x s u (Unread name) is h = (names_then s.told r f x (string_bytes name) is h.0, h.1, h.2)
unread_behind r f x s u Memory is h = h

pub read_ends : {A B X Y : Type 0} (r : Reading A) (f : A → Reading B) (seen : X → A) (view : Y → B) (s t : ShelfSeen) (fault : FileFault)
    → IsRead r seen s t (Err fault) → IsRead (r >>= f) view s t (Err fault)
read_ends r f seen view s t fault h = unread_first r f s t fault h

-- what was read is followed by the next
pub read_then : {A B X Y : Type 0} (r : Reading A) (f : A → Reading B) (seen : X → A) (view : Y → B) (s t u : ShelfSeen) (x : X)
    (result : Result Y FileFault) → IsRead r seen s t (Ok x) → IsRead (f (seen x)) view t u result → IsRead (r >>= f) view s u result
read_then r f seen view s t u x (Ok y) (same, is) (later, gives_it) = (
  later ∙ same,
  comes_then s.told r f (seen x) (Ok (view y)) is (subst (λ (w : ShelfSeen). Comes w.told (f (seen x)) (Ok (view y))) same gives_it),
)
read_then r f seen view s t u x (Err fault) (same, is) h =
    unread_behind r f (seen x) s u fault is (subst (λ (w : ShelfSeen). IsUnread (f (seen x)) w u fault) same h)

-- nothing more is read
pub read_gives : {A X : Type 0} (held : A) (view : X → A) (s : ShelfSeen) (x : X) → view x ≡ held → IsRead (gives held) view s s (Ok x)
read_gives held view s x is = (refl, ap (λ h. Ok h) is)

-- a reading, and what is made of it
pub read_made : {A B X Y : Type 0} (r : Reading A) (make : A → B) (seen : X → A) (view : Y → B) (s t : ShelfSeen) (x : X) (y : Y)
    → view y ≡ make (seen x) → IsRead r seen s t (Ok x) → IsRead (r >>= λ held. gives (make held)) view s t (Ok y)
read_made r make seen view s t x y is h =
    read_then r (λ held. gives (make held)) seen view s t t x (Ok y) h (read_gives (make (seen x)) view t y is)
