-- Texts that are written and read by one definition.
use Rattle.std.specs.Prelude.{◌≡◌, ℕ, ◌==◌, Bool, true, false, if◌then◌else◌, List, [], ◌∷◌, ◌++◌}

-- What the front of a text is read as.
pub data Reading (A : Type 0) : Type 0 where
  -- a value, and what is left of the text
  Read : A → List ℕ → Reading A
  -- nothing yet: the text ends, and could go on
  Short : Reading A
  -- nothing: what is left begins with the first character with which no text goes on here
  Wrong : List ℕ → Reading A

-- A way to write values: which values are lawful, what is written for one, and what is read.
pub record Spelling (A : Type 0) : Type 1 where
  pub IsLawful : A → Type 0
  pub write : A → List ℕ
  pub read : List ℕ → Reading A

-- ---- readings

-- another value in the value's place
abbrev pub mapped : {A B : Type 0} → (A → B) → Reading A → Reading B
mapped f (Read a rest) = Read (f a) rest
mapped f Short = Short
mapped f (Wrong rest) = Wrong rest

-- a second reading of what the first left, by its value
abbrev pub followed : {A B : Type 0} → Reading A → (A → List ℕ → Reading B) → Reading (A × B)
followed (Read a rest) more = mapped (λ b. (a, b)) (more a rest)
followed Short more = Short
followed (Wrong rest) more = Wrong rest

-- ---- spellings

-- no character
abbrev pub nothing : Spelling (Unit {0})
nothing = record { IsLawful = λ v. Unit {0}; write = λ v. []; read = λ text. Read tt text }

abbrev pub read_one : (ℕ → Bool) → List ℕ → Reading ℕ
read_one test [] = Short
read_one test (c ∷ text) = if test c then Read c text else Wrong (c ∷ text)

-- a character that passes a test
abbrev pub one : (ℕ → Bool) → Spelling ℕ
one test = record { IsLawful = λ c. test c ≡ true; write = λ c. c ∷ []; read = read_one test }

-- one behind the other, of which the second may depend on the first's value
abbrev pub both : {A B : Type 0} → Spelling A → (A → Spelling B) → Spelling (A × B)
both s t = record {
  IsLawful = λ v. s.IsLawful (v.0) × (t (v.0)).IsLawful (v.1);
  write = λ v. s.write (v.0) ++ (t (v.0)).write (v.1);
  read = λ text. followed (s.read text) (λ a rest. (t a).read rest);
}

-- the same texts, of other values
abbrev pub over : {A B : Type 0} → Spelling A → (A → B) → (B → Type 0) → (B → List ℕ) → Spelling B
over s f IsLawful write = record { IsLawful = IsLawful; write = write; read = λ text. mapped f (s.read text) }

-- the same texts, of other values that are one to one with these
abbrev pub shaped : {A B : Type 0} → Spelling A → (made : A → B) → (parts : B → A) → Spelling B
shaped s made parts = over s made (λ b. s.IsLawful (parts b)) (λ b. s.write (parts b))

pub data Either (A B : Type 0) : Type 0 where
  First : A → Either A B
  Second : B → Either A B

abbrev pub read_either : {A B : Type 0} → (ℕ → Bool) → (List ℕ → Reading A) → (List ℕ → Reading B) → List ℕ
    → Reading (Either A B)
read_either test first second [] = Short
read_either test first second (c ∷ text) =
    if test c then mapped First (first (c ∷ text)) else mapped Second (second (c ∷ text))

abbrev pub LawfulEither : {A B : Type 0} → Spelling A → Spelling B → Either A B → Type 0
LawfulEither s t (First a) = s.IsLawful a
LawfulEither s t (Second b) = t.IsLawful b

abbrev pub write_either : {A B : Type 0} → Spelling A → Spelling B → Either A B → List ℕ
write_either s t (First a) = s.write a
write_either s t (Second b) = t.write b

-- one or the other, told apart by a test of the first character
abbrev pub either : {A B : Type 0} → (ℕ → Bool) → Spelling A → Spelling B → Spelling (Either A B)
either test s t = record {
  IsLawful = LawfulEither s t;
  write = write_either s t;
  read = read_either test s.read t.read;
}

abbrev pub read_word : List ℕ → List ℕ → Reading (Unit {0})
read_word [] text = Read tt text
read_word (c ∷ word) [] = Short
read_word (c ∷ word) (d ∷ text) = if d == c then read_word word text else Wrong (d ∷ text)

-- just these characters
abbrev pub word : List ℕ → Spelling (Unit {0})
word characters = record { IsLawful = λ v. Unit {0}; write = λ v. characters; read = read_word characters }

abbrev pub LawfulMore : {A : Type 0} → Spelling A → (A → Spelling (List A)) → List A → Type 0
LawfulMore s t [] = ⊥
LawfulMore s t (a ∷ later) = s.IsLawful a × (t a).IsLawful later

abbrev pub write_more : {A : Type 0} → Spelling A → (A → Spelling (List A)) → List A → List ℕ
write_more s t [] = []
write_more s t (a ∷ later) = s.write a ++ (t a).write later

-- the first of a list, and the others by it
abbrev pub more : {A : Type 0} → Spelling A → (A → Spelling (List A)) → Spelling (List A)
more s t = over (both s t) (λ v. v.0 ∷ v.1) (LawfulMore s t) (write_more s t)

-- the empty list
abbrev pub LawfulNone : {A : Type 0} → List A → Type 0
LawfulNone [] = Unit {0}
LawfulNone (a ∷ later) = ⊥

abbrev pub none : {A : Type 0} → Spelling (List A)
none = over nothing (λ v. []) LawfulNone (λ v. [])

-- behind fixed characters
abbrev pub write_behind : {A : Type 0} → List ℕ → Spelling A → A → List ℕ
write_behind front s a = front ++ s.write a

abbrev pub behind : {A : Type 0} → List ℕ → Spelling A → Spelling A
behind front s = over (both (word front) (λ v. s)) (λ v. v.1) s.IsLawful (write_behind front s)

-- before fixed characters
abbrev pub write_before : {A : Type 0} → Spelling A → List ℕ → A → List ℕ
write_before s back a = s.write a ++ back

abbrev pub before : {A : Type 0} → Spelling A → List ℕ → Spelling A
before s back = over (both s (λ v. word back)) (λ v. v.0) s.IsLawful (write_before s back)

-- fixed characters, which stand for a value
abbrev pub Equals : {A : Type 0} → A → A → Type 0
Equals a b = a ≡ b

abbrev pub said : {A : Type 0} → List ℕ → A → Spelling A
said characters a = over (word characters) (λ v. a) (Equals a) (λ v. characters)

-- one of two, by a test
abbrev pub chosen : {A : Type 0} → Bool → Spelling A → Spelling A → Spelling A
chosen true s t = s
chosen false s t = t
