-- What is put together of spellings that spell, spells.
use Rattle.std.proofs.Common.{◌≡◌, ℕ, Bool, true, false, List, [], ◌∷◌, ◌++◌, eqb, refl, sym, ap, subst, ◌∙◌, append_assoc}
use Rattle.std.specs.Prelude.{if◌then◌else◌}
use Rattle.std.proofs.lemmas.Bool.{eqb-true, eq-eqb}
use Rattle.mb_spelling.specs.Spelling.{Reading, Read, Short, Wrong, Spelling, Either, First, Second, mapped, followed}
use Rattle.mb_spelling.specs.Spelling.{nothing, read_one, one, both, over, shaped, read_either, LawfulEither, write_either, either}
use Rattle.mb_spelling.specs.Spelling.{read_word, word, LawfulMore, write_more, more, LawfulNone, none, write_behind, behind, write_before, before, Equals, said}
use Rattle.mb_spelling.specs.Laws.{Begins, Says, Spells}
use Rattle.mb_spelling.specs.Presents.{Presents, Heads}

-- ---- nothing, one character, a word

pub nothing_spells : Spells nothing
nothing_spells = record { some = tt; lawful = tt; read_back = λ a rest l. refl; says = λ text. (tt, refl) }

one_begins : (test : ℕ → Bool) (some : ℕ) → test some ≡ true → Begins (one test) []
one_begins test some passes = record { value = some; lawful = passes; more = some ∷ []; written = refl }

one_says_at : (test : ℕ → Bool) (some : ℕ) → test some ≡ true → (c : ℕ) (text : List ℕ) (b : Bool) → test c ≡ b
    → Says (one test) (c ∷ text) (if b then Read c text else Wrong (c ∷ text))
one_says_at test some passes c text true e = (e, refl)
one_says_at test some passes c text false e = record {
  before = [];
  character = c;
  behind = text;
  here = refl;
  cut = refl;
  begins = one_begins test some passes;
  wrong = λ other. rw e refl;
}

one_says : (test : ℕ → Bool) (some : ℕ) → test some ≡ true → (text : List ℕ) → Says (one test) text (read_one test text)
one_says test some passes [] = one_begins test some passes
one_says test some passes (c ∷ text) = one_says_at test some passes c text (test c) refl

pub one_spells : (test : ℕ → Bool) (some : ℕ) → test some ≡ true → Spells (one test)
one_spells test some passes = record {
  some = some;
  lawful = passes;
  read_back = λ a rest l. rw l refl;
  says = one_says test some passes;
}

word_back : (characters rest : List ℕ) → read_word characters (characters ++ rest) ≡ Read tt rest
word_back [] rest = refl
word_back (c ∷ characters) rest = rw (eq-eqb c c refl) (word_back characters rest)

-- what a word's rest says is said of the word behind its first character
word_on : (c : ℕ) (characters text : List ℕ) (r : Reading (Unit {0})) → Says (word characters) text r → Says (word (c ∷ characters)) (c ∷ text) r
word_on c characters text (Read a rest) (l, e) = (tt, ap (λ (w : List ℕ). c ∷ w) e)
word_on c characters text Short h = record { value = tt; lawful = tt; more = h.more; written = ap (λ (w : List ℕ). c ∷ w) h.written }
word_on c characters text (Wrong rest) h = record {
  before = c ∷ h.before;
  character = h.character;
  behind = h.behind;
  here = h.here;
  cut = ap (λ (w : List ℕ). c ∷ w) h.cut;
  begins = record { value = tt; lawful = tt; more = h.begins.more; written = ap (λ (w : List ℕ). c ∷ w) h.begins.written };
  wrong = λ other. rw (eq-eqb c c refl) (h.wrong other);
}

word_says_at : (c : ℕ) (characters : List ℕ) (d : ℕ) (text : List ℕ) (b : Bool) → eqb d c ≡ b → Says (word characters) text (read_word characters text)
    → Says (word (c ∷ characters)) (d ∷ text) (if b then read_word characters text else Wrong (d ∷ text))
word_says_at c characters d text true e h =
    let same : d ≡ c = eqb-true d c e in
    subst (λ (x : ℕ). Says (word (c ∷ characters)) (x ∷ text) (read_word characters text)) (sym same) (word_on c characters text (read_word characters text) h)
word_says_at c characters d text false e h = record {
  before = [];
  character = d;
  behind = text;
  here = refl;
  cut = refl;
  begins = record { value = tt; lawful = tt; more = c ∷ characters; written = refl };
  wrong = λ other. rw e refl;
}

word_says : (characters text : List ℕ) → Says (word characters) text (read_word characters text)
word_says [] text = (tt, refl)
word_says (c ∷ characters) [] = record { value = tt; lawful = tt; more = c ∷ characters; written = refl }
word_says (c ∷ characters) (d ∷ text) = word_says_at c characters d text (eqb d c) refl (word_says characters text)

pub word_spells : (characters : List ℕ) → Spells (word characters)
word_spells characters = record { some = tt; lawful = tt; read_back = λ a rest l. word_back characters rest; says = word_says characters }

-- ---- one behind the other

-- What a spelling's readings say, and that there is a lawful value.
pub record Answers {A : Type 0} (s : Spelling A) : Type 0 where
  pub some : A
  pub lawful : s.IsLawful some
  pub says : (text : List ℕ) → Says s text (s.read text)

pub answers : {A : Type 0} {s : Spelling A} → Spells s → Answers s
answers h = record { some = h.some; lawful = h.lawful; says = h.says }

extended : {A B : Type 0} (s : Spelling A) (t : A → Spelling B) → ((a : A) → s.IsLawful a → Answers (t a)) → (text : List ℕ) → Begins s text
    → Begins (both s t) text
extended s t ht text h =
    let next = ht h.value h.lawful in
    let behind = (t h.value).write next.some in
    record {
      value = (h.value, next.some);
      lawful = (h.lawful, next.lawful);
      more = h.more ++ behind;
      written = ap (λ (w : List ℕ). w ++ behind) h.written ∙ append_assoc text h.more behind;
    }

second_says : {A B : Type 0} (s : Spelling A) (t : A → Spelling B) → Spells s → (text : List ℕ) (a : A) (rest : List ℕ) → s.IsLawful a
    → text ≡ s.write a ++ rest → (r : Reading B) → Says (t a) rest r → Says (both s t) text (mapped (λ b. (a, b)) r)
second_says s t hs text a rest la cut (Read b left) (lb, e) =
    ((la, lb), cut ∙ (ap (λ (w : List ℕ). s.write a ++ w) e ∙ sym (append_assoc (s.write a) ((t a).write b) left)))
second_says s t hs text a rest la cut Short h = record {
  value = (a, h.value);
  lawful = (la, h.lawful);
  more = h.more;
  written =
      ap (λ (w : List ℕ). s.write a ++ w) h.written ∙ (sym (append_assoc (s.write a) rest h.more) ∙ ap (λ (w : List ℕ). w ++ h.more) (sym cut));
}
second_says s t hs text a rest la cut (Wrong left) h = record {
  before = s.write a ++ h.before;
  character = h.character;
  behind = h.behind;
  here = h.here;
  cut = cut ∙ (ap (λ (w : List ℕ). s.write a ++ w) h.cut ∙ sym (append_assoc (s.write a) h.before left));
  begins = record {
    value = (a, h.begins.value);
    lawful = (la, h.begins.lawful);
    more = h.begins.more;
    written = ap (λ (w : List ℕ). s.write a ++ w) h.begins.written ∙ sym (append_assoc (s.write a) h.before h.begins.more);
  };
  wrong = λ other.
      rw (
        append_assoc (s.write a) h.before (h.character ∷ other),
        hs.read_back a (h.before ++ h.character ∷ other) la,
        h.wrong other,
      ) refl;
}

pub first_says : {A B : Type 0} (s : Spelling A) (t : A → Spelling B) → Spells s → ((a : A) → s.IsLawful a → Answers (t a)) → (text : List ℕ) (r : Reading A)
    → Says s text r → Says (both s t) text (followed r (λ a rest. (t a).read rest))
first_says s t hs ht text (Read a rest) (la, cut) = second_says s t hs text a rest la cut ((t a).read rest) ((ht a la).says rest)
first_says s t hs ht text Short h = extended s t ht text h
first_says s t hs ht text (Wrong left) h = record {
  before = h.before;
  character = h.character;
  behind = h.behind;
  here = h.here;
  cut = h.cut;
  begins = extended s t ht h.before h.begins;
  wrong = λ other. rw (h.wrong other) refl;
}

both_back : {A B : Type 0} (s : Spelling A) (t : A → Spelling B) → Spells s → ((a : A) → s.IsLawful a → Spells (t a)) → (v : A × B) (rest : List ℕ)
    → (both s t).IsLawful v → (both s t).read ((both s t).write v ++ rest) ≡ Read v rest
both_back s t hs ht v rest (la, lb) =
    rw (
      append_assoc (s.write (v.0)) ((t (v.0)).write (v.1)) rest,
      hs.read_back (v.0) ((t (v.0)).write (v.1) ++ rest) la,
      (ht (v.0) la).read_back (v.1) rest lb,
    ) refl

pub both_spells : {A B : Type 0} (s : Spelling A) (t : A → Spelling B) → Spells s → ((a : A) → s.IsLawful a → Spells (t a)) → Spells (both s t)
both_spells s t hs ht = record {
  some = (hs.some, (ht hs.some hs.lawful).some);
  lawful = (hs.lawful, (ht hs.some hs.lawful).lawful);
  read_back = both_back s t hs ht;
  says = λ text. first_says s t hs (λ a l. answers (ht a l)) text (s.read text) (hs.says text);
}

-- ---- other values

over_begins : {A B : Type 0} (s : Spelling A) (f : A → B) (IsLawful : B → Type 0) (write : B → List ℕ) → Presents s f IsLawful write → (text : List ℕ)
    → Begins s text → Begins (over s f IsLawful write) text
over_begins s f IsLawful write p text h = record {
  value = f h.value;
  lawful = p.to h.value h.lawful;
  more = h.more;
  written = p.same h.value h.lawful ∙ h.written;
}

pub over_says : {A B : Type 0} (s : Spelling A) (f : A → B) (IsLawful : B → Type 0) (write : B → List ℕ) → Presents s f IsLawful write → (text : List ℕ)
    → (r : Reading A) → Says s text r → Says (over s f IsLawful write) text (mapped f r)
over_says s f IsLawful write p text (Read a rest) (l, cut) =
    (p.to a l, cut ∙ ap (λ (w : List ℕ). w ++ rest) (sym (p.same a l)))
over_says s f IsLawful write p text Short h = over_begins s f IsLawful write p text h
over_says s f IsLawful write p text (Wrong left) h = record {
  before = h.before;
  character = h.character;
  behind = h.behind;
  here = h.here;
  cut = h.cut;
  begins = over_begins s f IsLawful write p h.before h.begins;
  wrong = λ other. rw (h.wrong other) refl;
}

over_back : {A B : Type 0} (s : Spelling A) (f : A → B) (IsLawful : B → Type 0) (write : B → List ℕ) → Spells s → Presents s f IsLawful write
    → (b : B) (rest : List ℕ) → IsLawful b → mapped f (s.read (write b ++ rest)) ≡ Read b rest
over_back {B = B} s f IsLawful write hs p b rest l =
    let a = p.from b l in
    let la : s.IsLawful a = p.lawful b l in
    let text : write b ≡ s.write a = ap write (sym (p.back b l)) ∙ p.same a la in
    ap (λ (w : List ℕ). mapped f (s.read (w ++ rest))) text
    ∙ (ap (mapped f) (hs.read_back a rest la) ∙ ap (λ (x : B). Read x rest) (p.back b l))

pub over_spells : {A B : Type 0} (s : Spelling A) (f : A → B) (IsLawful : B → Type 0) (write : B → List ℕ) → Spells s → Presents s f IsLawful write
    → Spells (over s f IsLawful write)
over_spells s f IsLawful write hs p = record {
  some = f hs.some;
  lawful = p.to hs.some hs.lawful;
  read_back = over_back s f IsLawful write hs p;
  says = λ text. over_says s f IsLawful write p text (s.read text) (hs.says text);
}

pub shaped_spells : {A B : Type 0} (s : Spelling A) (made : A → B) (parts : B → A) → Spells s → ((a : A) → s.IsLawful a → parts (made a) ≡ a)
    → ((b : B) → s.IsLawful (parts b) → made (parts b) ≡ b) → Spells (shaped s made parts)
shaped_spells s made parts hs there back =
    over_spells s made (λ b. s.IsLawful (parts b)) (λ b. s.write (parts b)) hs (record {
      to = λ a l. subst s.IsLawful (sym (there a l)) l;
      same = λ a l. ap s.write (there a l);
      from = λ b l. parts b;
      lawful = λ b l. l;
      back = back;
    })

-- ---- one or the other

pub first_begins : {A B : Type 0} (test : ℕ → Bool) (s : Spelling A) (t : Spelling B) (text : List ℕ) → Begins s text → Begins (either test s t) text
first_begins test s t text h = record { value = First h.value; lawful = h.lawful; more = h.more; written = h.written }

second_begins : {A B : Type 0} (test : ℕ → Bool) (s : Spelling A) (t : Spelling B) (text : List ℕ) → Begins t text → Begins (either test s t) text
second_begins test s t text h = record { value = Second h.value; lawful = h.lawful; more = h.more; written = h.written }

-- a text that begins with a character at which the test answers so is read by one of both
pub read_first : {A B : Type 0} (test : ℕ → Bool) (s : Spelling A) (t : Spelling B) (text : List ℕ) (c : ℕ) (w : List ℕ) → text ≡ c ∷ w → test c ≡ true
    → read_either test s.read t.read text ≡ mapped First (s.read text)
read_first test s t text c w e passes = rw (e, passes) refl

pub read_second : {A B : Type 0} (test : ℕ → Bool) (s : Spelling A) (t : Spelling B) (text : List ℕ) (c : ℕ) (w : List ℕ) → text ≡ c ∷ w
    → test c ≡ false → read_either test s.read t.read text ≡ mapped Second (t.read text)
read_second test s t text c w e fails = rw (e, fails) refl

-- the first character of a text that is cut before another character
pub record Begun (before : List ℕ) (character c : ℕ) : Type 0 where
  pub tail : (other : List ℕ) → List ℕ
  pub same : (other : List ℕ) → before ++ character ∷ other ≡ c ∷ tail other

pub begun : (before : List ℕ) (character : ℕ) (behind : List ℕ) (c : ℕ) (text : List ℕ) → c ∷ text ≡ before ++ character ∷ behind → Begun before character c
begun [] character behind c text e =
    let same : c ≡ character = cc in
    record { tail = λ other. other; same = λ other. ap (λ (x : ℕ). x ∷ other) (sym same) }
begun (d ∷ before) character behind c text e =
    let same : c ≡ d = cc in
    record { tail = λ other. before ++ character ∷ other; same = λ other. ap (λ (x : ℕ). x ∷ (before ++ character ∷ other)) (sym same) }

either_first : {A B : Type 0} (test : ℕ → Bool) (s : Spelling A) (t : Spelling B) (c : ℕ) (text : List ℕ) → test c ≡ true → (r : Reading A)
    → Says s (c ∷ text) r → Says (either test s t) (c ∷ text) (mapped First r)
either_first test s t c text passes (Read a rest) h = h
either_first test s t c text passes Short h = first_begins test s t (c ∷ text) h
either_first test s t c text passes (Wrong left) h =
    let start = begun h.before h.character h.behind c text (h.cut ∙ ap (λ (w : List ℕ). h.before ++ w) h.here) in
    record {
      before = h.before;
      character = h.character;
      behind = h.behind;
      here = h.here;
      cut = h.cut;
      begins = first_begins test s t h.before h.begins;
      wrong = λ other.
          read_first test s t (h.before ++ h.character ∷ other) c (start.tail other) (start.same other) passes ∙ ap (mapped First) (h.wrong other);
    }

either_second : {A B : Type 0} (test : ℕ → Bool) (s : Spelling A) (t : Spelling B) (c : ℕ) (text : List ℕ) → test c ≡ false → (r : Reading B)
    → Says t (c ∷ text) r → Says (either test s t) (c ∷ text) (mapped Second r)
either_second test s t c text fails (Read a rest) h = h
either_second test s t c text fails Short h = second_begins test s t (c ∷ text) h
either_second test s t c text fails (Wrong left) h =
    let start = begun h.before h.character h.behind c text (h.cut ∙ ap (λ (w : List ℕ). h.before ++ w) h.here) in
    record {
      before = h.before;
      character = h.character;
      behind = h.behind;
      here = h.here;
      cut = h.cut;
      begins = second_begins test s t h.before h.begins;
      wrong = λ other.
          read_second test s t (h.before ++ h.character ∷ other) c (start.tail other) (start.same other) fails ∙ ap (mapped Second) (h.wrong other);
    }

either_says_at : {A B : Type 0} (test : ℕ → Bool) (s : Spelling A) (t : Spelling B) → Answers s → Answers t → (c : ℕ) (text : List ℕ) (b : Bool)
    → test c ≡ b
    → Says (either test s t) (c ∷ text) (if b then mapped First (s.read (c ∷ text)) else mapped Second (t.read (c ∷ text)))
either_says_at test s t hs ht c text true e = either_first test s t c text e (s.read (c ∷ text)) (hs.says (c ∷ text))
either_says_at test s t hs ht c text false e = either_second test s t c text e (t.read (c ∷ text)) (ht.says (c ∷ text))

pub either_says : {A B : Type 0} (test : ℕ → Bool) (s : Spelling A) (t : Spelling B) → Answers s → Answers t → (text : List ℕ)
    → Says (either test s t) text (read_either test s.read t.read text)
either_says test s t hs ht [] =
    record { value = First hs.some; lawful = hs.lawful; more = s.write hs.some; written = refl }
either_says test s t hs ht (c ∷ text) = either_says_at test s t hs ht c text (test c) refl

either_back : {A B : Type 0} (test : ℕ → Bool) (s : Spelling A) (t : Spelling B) → Spells s → Spells t → Heads test true s → Heads test false t
    → (v : Either A B) (rest : List ℕ) → LawfulEither s t v → read_either test s.read t.read (write_either s t v ++ rest) ≡ Read v rest
either_back test s t hs ht us ut (First a) rest l =
    let start : s.write a ++ rest ≡ us.head a l ∷ (us.tail a l ++ rest) = ap (λ (w : List ℕ). w ++ rest) (us.written a l) in
    read_first test s t (s.write a ++ rest) (us.head a l) (us.tail a l ++ rest) start (us.tested a l) ∙ ap (mapped First) (hs.read_back a rest l)
either_back test s t hs ht us ut (Second b) rest l =
    let start : t.write b ++ rest ≡ ut.head b l ∷ (ut.tail b l ++ rest) = ap (λ (w : List ℕ). w ++ rest) (ut.written b l) in
    read_second test s t (t.write b ++ rest) (ut.head b l) (ut.tail b l ++ rest) start (ut.tested b l) ∙ ap (mapped Second) (ht.read_back b rest l)

pub either_spells : {A B : Type 0} (test : ℕ → Bool) (s : Spelling A) (t : Spelling B) → Spells s → Spells t → Heads test true s → Heads test false t
    → Spells (either test s t)
either_spells test s t hs ht us ut = record {
  some = First hs.some;
  lawful = hs.lawful;
  read_back = either_back test s t hs ht us ut;
  says = either_says test s t (answers hs) (answers ht);
}

-- ---- lists

none_presents : {A : Type 0} → Presents {B = List A} nothing (λ v. []) LawfulNone (λ v. [])
none_presents = record {
  to = λ a l. tt;
  same = λ a l. refl;
  from = λ b l. tt;
  lawful = λ b l. tt;
  back = none_back;
}
  where
    none_back : {A : Type 0} (b : List A) (l : LawfulNone b) → [] ≡ b
    none_back [] l = refl
    none_back (a ∷ later) l = absurd l

pub none_spells : {A : Type 0} → Spells (none {A = A})
none_spells {A = A} = over_spells {B = List A} nothing (λ v. []) LawfulNone (λ v. []) nothing_spells none_presents

more_from : {A : Type 0} (s : Spelling A) (t : A → Spelling (List A)) (b : List A) → LawfulMore s t b → A × List A
more_from s t [] l = absurd l
more_from s t (a ∷ later) l = (a, later)

more_lawful : {A : Type 0} (s : Spelling A) (t : A → Spelling (List A)) (b : List A) (l : LawfulMore s t b)
    → (both s t).IsLawful (more_from s t b l)
unfolding more_from
more_lawful s t [] l = absurd l
more_lawful s t (a ∷ later) l = l

more_back : {A : Type 0} (s : Spelling A) (t : A → Spelling (List A)) (b : List A) (l : LawfulMore s t b)
    → (more_from s t b l).0 ∷ (more_from s t b l).1 ≡ b
unfolding more_from
more_back s t [] l = absurd l
more_back s t (a ∷ later) l = refl

pub more_spells : {A : Type 0} (s : Spelling A) (t : A → Spelling (List A)) → Spells s → ((a : A) → s.IsLawful a → Spells (t a)) → Spells (more s t)
more_spells s t hs ht =
    over_spells (both s t) (λ v. v.0 ∷ v.1) (LawfulMore s t) (write_more s t) (both_spells s t hs ht) (record {
      to = λ a l. l;
      same = λ a l. refl;
      from = more_from s t;
      lawful = more_lawful s t;
      back = more_back s t;
    })

-- ---- fixed characters around, and for a value

pub behind_spells : {A : Type 0} (front : List ℕ) (s : Spelling A) → Spells s → Spells (behind front s)
behind_spells front s hs =
    over_spells (both (word front) (λ v. s)) (λ v. v.1) s.IsLawful (write_behind front s) (both_spells (word front) (λ v. s) (word_spells front) (λ v l. hs))
    (record {
      to = λ v l. l.1;
      same = λ v l. refl;
      from = λ a l. (tt, a);
      lawful = λ a l. (tt, l);
      back = λ a l. refl;
    })

pub before_spells : {A : Type 0} (s : Spelling A) (back : List ℕ) → Spells s → Spells (before s back)
before_spells s back hs =
    over_spells (both s (λ v. word back)) (λ v. v.0) s.IsLawful (write_before s back) (both_spells s (λ v. word back) hs (λ v l. word_spells back)) (record {
      to = λ v l. l.0;
      same = λ v l. refl;
      from = λ a l. (a, tt);
      lawful = λ a l. (l, tt);
      back = λ a l. refl;
    })

pub said_spells : {A : Type 0} (characters : List ℕ) (a : A) → Spells (said characters a)
said_spells characters a =
    over_spells (word characters) (λ v. a) (Equals a) (λ v. characters) (word_spells characters) (record {
      to = λ v l. refl;
      same = λ v l. refl;
      from = λ b l. tt;
      lawful = λ b l. tt;
      back = λ b l. l;
    })

-- the first character of what begins with fixed characters
pub behind_heads : {A : Type 0} (test : ℕ → Bool) (answer : Bool) (c : ℕ) (front : List ℕ) (s : Spelling A) → test c ≡ answer
    → Heads test answer (behind (c ∷ front) s)
behind_heads test answer c front s e = record {
  head = λ a l. c;
  tail = λ a l. front ++ s.write a;
  written = λ a l. refl;
  tested = λ a l. e;
}

pub said_heads : {A : Type 0} (test : ℕ → Bool) (answer : Bool) (c : ℕ) (characters : List ℕ) (a : A) → test c ≡ answer
    → Heads test answer (said (c ∷ characters) a)
said_heads test answer c characters a e = record {
  head = λ b l. c;
  tail = λ b l. characters;
  written = λ b l. refl;
  tested = λ b l. e;
}

pick_head : {A B : Type 0} (other : ℕ → Bool) (answer : Bool) (s : Spelling A) (t : Spelling B) → Heads other answer s → Heads other answer t
    → (v : Either A B) → LawfulEither s t v → ℕ
pick_head other answer s t hs ht (First a) l = hs.head a l
pick_head other answer s t hs ht (Second b) l = ht.head b l

pick_tail : {A B : Type 0} (other : ℕ → Bool) (answer : Bool) (s : Spelling A) (t : Spelling B) → Heads other answer s → Heads other answer t
    → (v : Either A B) → LawfulEither s t v → List ℕ
pick_tail other answer s t hs ht (First a) l = hs.tail a l
pick_tail other answer s t hs ht (Second b) l = ht.tail b l

pick_written : {A B : Type 0} (other : ℕ → Bool) (answer : Bool) (s : Spelling A) (t : Spelling B) (hs : Heads other answer s) (ht : Heads other answer t)
    → (v : Either A B) (l : LawfulEither s t v) → write_either s t v ≡ pick_head other answer s t hs ht v l ∷ pick_tail other answer s t hs ht v l
unfolding pick_head pick_tail
pick_written other answer s t hs ht (First a) l = hs.written a l
pick_written other answer s t hs ht (Second b) l = ht.written b l

pick_tested : {A B : Type 0} (other : ℕ → Bool) (answer : Bool) (s : Spelling A) (t : Spelling B) (hs : Heads other answer s) (ht : Heads other answer t)
    → (v : Either A B) (l : LawfulEither s t v) → other (pick_head other answer s t hs ht v l) ≡ answer
unfolding pick_head
pick_tested other answer s t hs ht (First a) l = hs.tested a l
pick_tested other answer s t hs ht (Second b) l = ht.tested b l

-- both of which begin so
pub either_heads : {A B : Type 0} (other : ℕ → Bool) (answer : Bool) (test : ℕ → Bool) (s : Spelling A) (t : Spelling B) → Heads other answer s
    → Heads other answer t → Heads other answer (either test s t)
either_heads other answer test s t hs ht = record {
  head = pick_head other answer s t hs ht;
  tail = pick_tail other answer s t hs ht;
  written = pick_written other answer s t hs ht;
  tested = pick_tested other answer s t hs ht;
}

pub shaped_heads : {A B : Type 0} (test : ℕ → Bool) (answer : Bool) (s : Spelling A) (made : A → B) (parts : B → A) → Heads test answer s
    → Heads test answer (shaped s made parts)
shaped_heads test answer s made parts h = record {
  head = λ b l. h.head (parts b) l;
  tail = λ b l. h.tail (parts b) l;
  written = λ b l. h.written (parts b) l;
  tested = λ b l. h.tested (parts b) l;
}
