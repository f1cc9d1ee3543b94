-- The files of guests, guest by guest.
use Rattle.std.proofs.Common.{Option, ◌≡◌, ◌∙◌, ◌<◌, ℕ, suc, ◌+◌, ◌++◌, List, [], ◌∷◌, length, map, drop, get_or, refl, sym, ap, subst, arith, append_assoc, drop-cons, Result, Ok, Err}
use Rattle.std.specs.Prelude.{string_bytes}
use Rattle.std.proofs.lemmas.List.{append-nil, drop-map}
use Rattle.mb_script.specs.Plan.{Disk, Guest}
use Rattle.def_machine.specs.Machine.{Entries, Opening}
use Rattle.mb_words.specs.Words.{Text}
use Rattle.vm_guest.specs.Session.{GuestAtStart}
use Rattle.mb_files.specs.Reading.{Told, Reading, gives, ◌>>=◌}
use Rattle.mb_files.specs.Comes.{Comes, Names}
use Rattle.mb_files.specs.Shelves.{ShelfSeen}
use Rattle.mb_files.specs.Reads.{IsRead, IsUnread}
use Rattle.mb_program.specs.Files.{guest_files, guests_files, machine_files}
use Rattle.mb_files.specs.declared.fault.FileWhy.{FileWhy}
use Rattle.mb_files.specs.declared.fault.FileFault.{FileFault}
use Rattle.mb_files.specs.declared.fault.FileFault.TheVariants.{Refused, Unread, Memory}
use Rattle.mb_files.proofs.ReadingLemmas.{comes_then, names_first, names_then, refused_then}

-- the files of a machine by the same names
pub same_files : (image file : Text) (ram kib : ℕ) (script named : Option Text) (disk asked : Option Disk) (P : Reading (Opening × Entries) → Type 0)
    → image ≡ file → ram ≡ kib → script ≡ named → disk ≡ asked → P (machine_files image ram script disk) → P (machine_files file kib named asked)
same_files image file ram kib script named disk asked P first size second third h =
    subst (λ d. P (machine_files file kib named d)) third
    (subst (λ s. P (machine_files file kib s disk)) second
    (subst (λ n. P (machine_files file n script disk)) size (subst (λ i. P (machine_files i ram script disk)) first h)))

-- what the files of some guests come to, behind guests that were read
abbrev behind : List GuestAtStart → Result (List GuestAtStart) (Text × FileWhy) → Result (List GuestAtStart) (Text × FileWhy)
behind read (Ok others) = Ok (read ++ others)
behind read (Err why) = Err why

-- The files of so many guests were read, and these are left.
pub record ReadSoFar (guests left : List Guest) (read : List GuestAtStart) (s t : ShelfSeen) : Type 0 where
  pub stayed : t ≡ s
  pub comes : (end : Result (List GuestAtStart) (Text × FileWhy)) → Comes s.told (guests_files left) end
      → Comes s.told (guests_files guests) (behind read end)
  pub names : (name : Text) → Names s.told (guests_files left) name → Names s.told (guests_files guests) name

whole : (end : Result (List GuestAtStart) (Text × FileWhy)) → end ≡ behind [] end
whole (Ok others) = refl
whole (Err why) = refl

pub none_so_far : (guests : List Guest) (s : ShelfSeen) → ReadSoFar guests guests [] s s
none_so_far guests s = record {
  stayed = refl;
  comes = λ end h. subst (λ (e : Result (List GuestAtStart) (Text × FileWhy)). Comes s.told (guests_files guests) e) (whole end) h;
  names = λ name h. h;
}

-- ---- one more guest

first_then : (told : Told) (guest : Guest) (left : List Guest) (one : GuestAtStart) (end : Result (List GuestAtStart) (Text × FileWhy))
    → Comes told (guest_files guest) (Ok one) → Comes told (guests_files left) end
    → Comes told (guests_files (guest ∷ left)) (behind (one ∷ []) end)
first_then told guest left one (Ok others) is h =
    comes_then told (guest_files guest) (λ first. guests_files left >>= λ rest. gives (first ∷ rest)) one (Ok (one ∷ others)) is
    (comes_then told (guests_files left) (λ rest. gives (one ∷ rest)) others (Ok (one ∷ others)) h refl)
first_then told guest left one (Err (name, why)) is h =
    comes_then told (guest_files guest) (λ first. guests_files left >>= λ rest. gives (first ∷ rest)) one (Err (name, why)) is
    (refused_then told (guests_files left) (λ rest. gives (one ∷ rest)) name why h)

both_behind : (read : List GuestAtStart) (one : GuestAtStart) (end : Result (List GuestAtStart) (Text × FileWhy))
    → behind read (behind (one ∷ []) end) ≡ behind (read ++ one ∷ []) end
both_behind read one (Ok others) = ap (λ (gs : List GuestAtStart). Ok gs) (sym (append_assoc read (one ∷ []) others))
both_behind read one (Err why) = refl

one_more : (guests left : List Guest) (guest : Guest) (read : List GuestAtStart) (one : GuestAtStart) (s t u : ShelfSeen)
    → ReadSoFar guests (guest ∷ left) read s t → IsRead (guest_files guest) (λ (g : GuestAtStart). g) t u (Ok one)
    → ReadSoFar guests left (read ++ one ∷ []) s u
one_more guests left guest read one s t u h r =
    let is : Comes s.told (guest_files guest) (Ok one) = subst (λ (w : ShelfSeen). Comes w.told (guest_files guest) (Ok one)) h.stayed r.1 in
    record {
      stayed = r.0 ∙ h.stayed;
      comes = λ end g. subst (λ (e : Result (List GuestAtStart) (Text × FileWhy)). Comes s.told (guests_files guests) e) (both_behind read one end)
          (h.comes (behind (one ∷ []) end) (first_then s.told guest left one end is g));
      names = λ name n. h.names name
          (names_then s.told (guest_files guest) (λ first. guests_files left >>= λ rest. gives (first ∷ rest)) one name is
          (names_first s.told (guests_files left) (λ rest. gives (one ∷ rest)) name n));
    }

-- a guest of whom a file is the cause of an end
ends_here : (guests left : List Guest) (guest : Guest) (read : List GuestAtStart) (fault : FileFault) (s t u : ShelfSeen)
    → ReadSoFar guests (guest ∷ left) read s t → IsUnread (guest_files guest) s u fault → IsUnread (guests_files guests) s u fault
ends_here guests left guest read (Refused name why) s t u h e = (
  e.0,
  h.comes (Err (string_bytes name, why))
      (refused_then s.told (guest_files guest) (λ first. guests_files left >>= λ rest. gives (first ∷ rest)) (string_bytes name) why e.1),
)
ends_here guests left guest read (Unread name) s t u h e = (
  h.names (string_bytes name)
      (names_first s.told (guest_files guest) (λ first. guests_files left >>= λ rest. gives (first ∷ rest)) (string_bytes name) e.0),
  e.1,
  e.2,
)
ends_here guests left guest read Memory s t u h e = e

guest_ends : (guests left : List Guest) (guest : Guest) (read : List GuestAtStart) (fault : FileFault) (s t u : ShelfSeen)
    → ReadSoFar guests (guest ∷ left) read s t → IsUnread (guest_files guest) t u fault → IsUnread (guests_files guests) s u fault
guest_ends guests left guest read fault s t u h e =
    ends_here guests left guest read fault s t u h (subst (λ (w : ShelfSeen). IsUnread (guest_files guest) w u fault) h.stayed e)

-- all guests
pub all_read : {Z : Type 0} (shown : Z → List GuestAtStart) (guests : List Guest) (z : Z) (s t : ShelfSeen) → ReadSoFar guests [] (shown z) s t
    → IsRead (guests_files guests) shown s t (Ok z)
all_read shown guests z s t h = (
  h.stayed,
  subst (λ (gs : List GuestAtStart). Comes s.told (guests_files guests) (Ok gs)) (append-nil (shown z)) (h.comes (Ok []) refl),
)

-- ---- guests that are left from a place on

-- the guest at a place is the first of those that are left
left_at : {X : Type 0} (f : X → Guest) (xs : List X) (i : ℕ) (x : X) → i < length xs → drop i (map f xs) ≡ f (get_or xs i x) ∷ drop (i + 1) (map f xs)
left_at f xs i x within =
    let next : i + 1 ≡ suc i = omega arith in
    rw next (drop-map f i xs ∙ ap (λ ys. map f ys) (drop-cons xs i x within) ∙ ap (λ rest. f (get_or xs i x) ∷ rest) (sym (drop-map f (suc i) xs)))

first_left : {X : Type 0} (f : X → Guest) (plans : List X) (i : ℕ) (plan : X) → i < length plans → plan ≡ get_or plans i plan
    → drop i (map f plans) ≡ f plan ∷ drop (i + 1) (map f plans)
first_left f plans i plan within is =
    left_at f plans i plan within ∙ ap (λ p. f p ∷ drop (i + 1) (map f plans)) (sym is)

pub next_read : {X : Type 0} (f : X → Guest) (plans : List X) (i : ℕ) (plan : X) (read : List GuestAtStart) (one : GuestAtStart) (s t u : ShelfSeen)
    → i < length plans → plan ≡ get_or plans i plan
    → ReadSoFar (map f plans) (drop i (map f plans)) read s t → IsRead (guest_files (f plan)) (λ (g : GuestAtStart). g) t u (Ok one)
    → ReadSoFar (map f plans) (drop (i + 1) (map f plans)) (read ++ one ∷ []) s u
next_read f plans i plan read one s t u within is h r =
    one_more (map f plans) (drop (i + 1) (map f plans)) (f plan) read one s t u
    (subst (λ (left : List Guest). ReadSoFar (map f plans) left read s t) (first_left f plans i plan within is) h) r

pub next_ends : {X : Type 0} (f : X → Guest) (plans : List X) (i : ℕ) (plan : X) (read : List GuestAtStart) (fault : FileFault) (s t u : ShelfSeen)
    → i < length plans → plan ≡ get_or plans i plan
    → ReadSoFar (map f plans) (drop i (map f plans)) read s t → IsUnread (guest_files (f plan)) t u fault
    → IsUnread (guests_files (map f plans)) s u fault
next_ends f plans i plan read fault s t u within is h e =
    guest_ends (map f plans) (drop (i + 1) (map f plans)) (f plan) read fault s t u
    (subst (λ (left : List Guest). ReadSoFar (map f plans) left read s t) (first_left f plans i plan within is) h) e
