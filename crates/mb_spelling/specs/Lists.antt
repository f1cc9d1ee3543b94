-- Lists of which each value may depend on those before it: so many, or up to a mark.
use Rattle.std.specs.Prelude.{◌≡◌, ℕ, zero, suc, Bool, true, if◌then◌else◌, List, [], ◌∷◌, ◌++◌, length}
use Rattle.mb_spelling.specs.Spelling.{Reading, Read, Spelling, Either, First, Second, mapped, followed, read_word, read_either, both, over}
use Rattle.mb_spelling.specs.Decimals.{Range, is_in, write_decimal, ranged}

-- ---- so many

-- `item n s` writes a value before which s came and behind which n are to come; `next s a` is what came with it
abbrev pub LawfulTimes : {A S : Type 0} → (ℕ → S → Spelling A) → (S → A → S) → ℕ → S → List A → Type 0
LawfulTimes item next zero s [] = Unit {0}
LawfulTimes item next zero s (a ∷ later) = ⊥
LawfulTimes item next (suc n) s [] = ⊥
LawfulTimes item next (suc n) s (a ∷ later) = (item n s).IsLawful a × LawfulTimes item next n (next s a) later

abbrev pub write_times : {A S : Type 0} → (ℕ → S → Spelling A) → (S → A → S) → ℕ → S → List A → List ℕ
write_times item next zero s list = []
write_times item next (suc n) s [] = []
write_times item next (suc n) s (a ∷ later) = (item n s).write a ++ write_times item next n (next s a) later

abbrev pub read_times : {A S : Type 0} → (ℕ → S → Spelling A) → (S → A → S) → ℕ → S → List ℕ → Reading (List A)
read_times item next zero s text = Read [] text
read_times item next (suc n) s text =
    mapped (λ v. v.0 ∷ v.1) (followed ((item n s).read text) (λ a rest. read_times item next n (next s a) rest))

abbrev pub times : {A S : Type 0} → (ℕ → S → Spelling A) → (S → A → S) → ℕ → S → Spelling (List A)
times item next n s = record {
  IsLawful = LawfulTimes item next n s;
  write = write_times item next n s;
  read = read_times item next n s;
}

-- ---- up to a mark

-- How a list goes on: the mark that ends it, a test of the first character that tells the mark from a value, whether
-- another value may come, how it is written, and what came with it.
pub record Going (A S : Type 0) : Type 1 where
  pub mark : List ℕ
  pub test : ℕ → Bool
  pub going : S → Bool
  pub item : S → Spelling A
  pub next : S → A → S

abbrev pub LawfulUntil : {A S : Type 0} → Going A S → (most : ℕ) → S → List A → Type 0
LawfulUntil g most s [] = Unit {0}
LawfulUntil g zero s (a ∷ later) = ⊥
LawfulUntil g (suc most) s (a ∷ later) =
    (g.going s ≡ true) × (g.item s).IsLawful a × LawfulUntil g most (g.next s a) later

abbrev pub write_until : {A S : Type 0} → Going A S → S → List A → List ℕ
write_until g s [] = g.mark
write_until g s (a ∷ later) = (g.item s).write a ++ write_until g (g.next s a) later

abbrev pub whichever : {A : Type 0} → Either A A → A
whichever (First a) = a
whichever (Second a) = a

abbrev pub read_mark : {A : Type 0} → List ℕ → List ℕ → Reading (List A)
read_mark mark text = mapped (λ v. []) (read_word mark text)

abbrev pub read_until : {A S : Type 0} → Going A S → (most : ℕ) → S → List ℕ → Reading (List A)
read_until g zero s text = read_mark g.mark text
read_until g (suc most) s text =
    if g.going s
    then mapped whichever (read_either g.test (read_mark g.mark)
    (λ t. mapped (λ v. v.0 ∷ v.1) (followed ((g.item s).read t) (λ a rest. read_until g most (g.next s a) rest))) text)
    else read_mark g.mark text

abbrev pub until : {A S : Type 0} → Going A S → (most : ℕ) → S → Spelling (List A)
until g most s =
    record { IsLawful = LawfulUntil g most s; write = write_until g s; read = read_until g most s }

-- ---- a count and so many values

abbrev pub LawfulListed : {A : Type 0} → Range → (ℕ → Spelling (List A)) → List A → Type 0
LawfulListed r list values = (is_in r (length values) ≡ true) × (list (length values)).IsLawful values

abbrev pub write_listed : {A : Type 0} → (end : ℕ) → (ℕ → Spelling (List A)) → List A → List ℕ
write_listed end list values = write_decimal end (length values) ++ (list (length values)).write values

-- `list n` writes n values
abbrev pub listed : {A : Type 0} → Range → (end : ℕ) → (ℕ → Spelling (List A)) → Spelling (List A)
listed r end list = over (both (ranged r end) list) (λ v. v.1) (LawfulListed r list) (write_listed end list)
