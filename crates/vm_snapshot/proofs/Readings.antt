-- A value that a first character tells, words one behind the other, and readings by other values.
use Rattle.std.proofs.Common.{◌≡◌, ℕ, eqb, Bool, true, false, List, [], ◌∷◌, ◌++◌, refl, sym, ap, ◌∙◌, inl, inr}
use Rattle.std.specs.Prelude.{◌==◌, if◌then◌else◌, Some}
use Rattle.std.proofs.lemmas.Bool.{cases_Bool}
use Rattle.mb_spelling.specs.Spelling.{Reading, Read, Short, Wrong, mapped, read_word}
use Rattle.mb_spelling.specs.Reads.{starts_with}
use Rattle.vm_snapshot.specs.Parts.{read_perhaps}
use Rattle.vm_snapshot.proofs.Handed.{StopsWith}

taken : {A : Type 0} (b : Bool) (x y : A) → b ≡ true → (if b then x else y) ≡ x
taken true x y e = refl
taken false x y e = absurd (let contrary : false ≡ true = e in cc)

left_out : {A : Type 0} (b : Bool) (x y : A) → b ≡ false → (if b then x else y) ≡ y
left_out false x y e = refl
left_out true x y e = absurd (let contrary : true ≡ false = e in cc)

pub some_there : {A : Type 0} (mark : ℕ) (read : List ℕ → Reading A) (text : List ℕ) → starts_with mark text ≡ true
    → read_perhaps (λ c. c == mark) read text ≡ mapped Some (read text)
some_there mark read [] at = absurd (let contrary : false ≡ true = at in cc)
some_there mark read (c ∷ text) at = taken (c == mark) _ _ at

-- ---- words

pub word_then : (front back text left : List ℕ) → read_word front text ≡ Read tt left → read_word (front ++ back) text ≡ read_word back left
word_then [] back text left e = ap (read_word back) (let same : text ≡ left = cc in same)
word_then (c ∷ front) back [] left e = absurd (let contrary : Short ≡ Read tt left = e in cc)
word_then (c ∷ front) back (d ∷ text) left e = elim (cases_Bool (eqb d c)) [
  | inl h ↦ taken (d == c) _ _ h ∙ word_then front back text left (sym (taken (d == c) _ _ h) ∙ e)
  | inr h ↦ absurd (let contrary : Wrong (d ∷ text) ≡ Read tt left = sym (left_out (d == c) _ _ h) ∙ e in cc)
]

word_short : (front back text : List ℕ) → read_word front text ≡ Short → read_word (front ++ back) text ≡ Short
word_short [] back text e = absurd (let contrary : Read tt text ≡ Short = e in cc)
word_short (c ∷ front) back [] e = refl
word_short (c ∷ front) back (d ∷ text) e = elim (cases_Bool (eqb d c)) [
  | inl h ↦ taken (d == c) _ _ h ∙ word_short front back text (sym (taken (d == c) _ _ h) ∙ e)
  | inr h ↦ absurd (let contrary : Wrong (d ∷ text) ≡ Short = sym (left_out (d == c) _ _ h) ∙ e in cc)
]

word_wrong : (front back text rest : List ℕ) → read_word front text ≡ Wrong rest → read_word (front ++ back) text ≡ Wrong rest
word_wrong [] back text rest e = absurd (let contrary : Read tt text ≡ Wrong rest = e in cc)
word_wrong (c ∷ front) back [] rest e = absurd (let contrary : Short ≡ Wrong rest = e in cc)
word_wrong (c ∷ front) back (d ∷ text) rest e = elim (cases_Bool (eqb d c)) [
  | inl h ↦ taken (d == c) _ _ h ∙ word_wrong front back text rest (sym (taken (d == c) _ _ h) ∙ e)
  | inr h ↦ left_out (d == c) _ _ h ∙ (sym (left_out (d == c) _ _ h) ∙ e)
]

pub word_stops : (front back text : List ℕ) → StopsWith (read_word front text) (read_word (front ++ back) text)
word_stops front back text = record { short = word_short front back text; wrong = word_wrong front back text }

-- ---- other values

pub was_read : {A B : Type 0} (f : A → B) (r : Reading A) (b : B) (left : List ℕ) → mapped f r ≡ Read b left
    → (a : A) × (r ≡ Read a left) × (f a ≡ b)
was_read f (Read a rest) b left e = (a, (let same : rest ≡ left = cc in ap (Read a) same), (let same : f a ≡ b = cc in same))
was_read f Short b left e = absurd (let contrary : Short ≡ Read b left = e in cc)
was_read f (Wrong rest) b left e = absurd (let contrary : Wrong rest ≡ Read b left = e in cc)

was_short : {A B : Type 0} (f : A → B) (r : Reading A) → mapped f r ≡ Short → r ≡ Short
was_short f (Read a rest) e = absurd (let contrary : Read (f a) rest ≡ Short = e in cc)
was_short f Short e = refl
was_short f (Wrong rest) e = absurd (let contrary : Wrong rest ≡ mapped f Short = e in cc)

was_wrong : {A B : Type 0} (f : A → B) (r : Reading A) (left : List ℕ) → mapped f r ≡ Wrong left → r ≡ Wrong left
was_wrong f (Read a rest) left e = absurd (let contrary : Read (f a) rest ≡ Wrong left = e in cc)
was_wrong f Short left e = absurd (let contrary : Short ≡ Wrong left = e in cc)
was_wrong f (Wrong rest) left e = (let same : rest ≡ left = cc in ap Wrong same)

pub unmapped : {A B : Type 0} (f : A → B) (r : Reading A) → StopsWith (mapped f r) r
unmapped f r = record { short = was_short f r; wrong = was_wrong f r }

pub as_mapped : {A B : Type 0} (f : A → B) (r : Reading A) → StopsWith r (mapped f r)
as_mapped f r = record { short = λ e. ap (mapped f) e; wrong = λ rest e. ap (mapped f) e }
