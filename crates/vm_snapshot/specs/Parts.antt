-- What the code reads of a list of guests: each with its disk, where one stands.
use Rattle.std.specs.Prelude.{ℕ, ◌+◌, Bool, if◌then◌else◌, List, [], ◌∷◌, codes, Option, Some, None}
use Rattle.mb_spelling.specs.Spelling.{Reading, Read, Spelling, mapped, both, over, word}
use Rattle.mb_spelling.specs.Decimals.{from_to}
use Rattle.mb_spelling.specs.Ends.{LawfulOption, counted, write_option}
use Rattle.vm_snapshot.specs.Guests.{Disk, Guest, guests}
use Rattle.vm_snapshot.specs.Plans.{guest_of}
use Rattle.vm_snapshot.specs.declared.plan.SnapGuest.{SnapGuest}

abbrev pub read_perhaps : {A : Type 0} → (ℕ → Bool) → (List ℕ → Reading A) → List ℕ → Reading (Option A)
read_perhaps test read [] = Read None []
read_perhaps test read (c ∷ text) = if test c then mapped Some (read (c ∷ text)) else Read None (c ∷ text)

abbrev pub perhaps : {A : Type 0} → (ℕ → Bool) → Spelling A → Spelling (Option A)
perhaps test s = record { IsLawful = LawfulOption s; write = write_option s; read = read_perhaps test s.read }

-- guest i, and its disk where one stands
abbrev pub guest_and_disk : (i : ℕ) → Spelling (Guest × Option Disk)
guest_and_disk i = both (guests.item i) (λ g. perhaps guests.test (guests.extra i))

-- ---- guests as the code gives them

abbrev pub guest_at : (left i : ℕ) → Spelling SnapGuest
guest_at left i = over (guest_and_disk i) guest_of (λ g. Unit {0}) (λ g. [])

abbrev pub guest_after : (i : ℕ) → SnapGuest → ℕ
guest_after i g = i + 1

-- how many guests there are, the guests, and the end of the text
abbrev pub all_guests : Spelling (Unit {0} × List (Guest × Option Disk))
all_guests = both (word (codes "guests ")) (λ v. counted guests (from_to 1 16) 10 1)
