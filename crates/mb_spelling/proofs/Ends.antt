-- What is put together at the end of a text spells there.
use Rattle.std.proofs.Common.{◌≡◌, ℕ, Bool, true, false, List, [], ◌∷◌, ◌++◌, Option, Some, None, refl, sym, ap, subst, ◌∙◌, inl, inr}
use Rattle.std.proofs.lemmas.Bool.{cases_Bool}
use Rattle.mb_spelling.specs.Spelling.{Reading, Read, Short, Wrong, Spelling, Either, First, Second, mapped, followed, read_either, both, over, shaped, either, LawfulEither, write_either}
use Rattle.mb_spelling.specs.Laws.{Begins, Says, Spells}
use Rattle.mb_spelling.specs.Presents.{Presents, Heads}
use Rattle.mb_spelling.specs.Ends.{read_finish, finish, LawfulOption, write_option, read_last, perhaps_last, SpellsLast}
use Rattle.mb_spelling.proofs.Combined.{Answers, first_says, over_says, either_says, read_first, read_second, begun}

pub answers_last : {A : Type 0} {s : Spelling A} → SpellsLast s → Answers s
answers_last h = record { some = h.some; lawful = h.lawful; says = h.says }

-- ---- the end

finish_says : (text : List ℕ) → Says finish text (read_finish text)
finish_says [] = (tt, refl)
finish_says (c ∷ text) = record {
  before = [];
  character = c;
  behind = text;
  here = refl;
  cut = refl;
  begins = record { value = tt; lawful = tt; more = []; written = refl };
  wrong = λ other. refl;
}

finish_whole : (text : List ℕ) (a : Unit {0}) (rest : List ℕ) → read_finish text ≡ Read a rest → rest ≡ []
finish_whole [] a rest e = let same : Read tt [] ≡ Read a rest = e in let done : rest ≡ [] = cc in done
finish_whole (c ∷ text) a rest e = absurd (let contrary : Wrong (c ∷ text) ≡ Read a rest = e in cc)

pub finish_spells : SpellsLast finish
finish_spells = record { some = tt; lawful = tt; read_back = λ a l. refl; says = finish_says; whole = finish_whole }

-- ---- other values

mapped_whole : {A B : Type 0} (f : A → B) (r : Reading A) (b : B) (rest : List ℕ) → ((a : A) (left : List ℕ) → r ≡ Read a left → left ≡ [])
    → mapped f r ≡ Read b rest → rest ≡ []
mapped_whole f (Read a left) b rest h e =
    let none : left ≡ [] = h a left refl in
    let same : Read (f a) left ≡ Read b rest = e in
    let done : rest ≡ [] = cc in
    done
mapped_whole f Short b rest h e = absurd (let contrary : Short ≡ Read b rest = e in cc)
mapped_whole f (Wrong left) b rest h e = absurd (let contrary : Wrong left ≡ Read b rest = e in cc)

pub over_last : {A B : Type 0} (s : Spelling A) (f : A → B) (IsLawful : B → Type 0) (write : B → List ℕ) → SpellsLast s → Presents s f IsLawful write
    → SpellsLast (over s f IsLawful write)
over_last {B = B} s f IsLawful write hs p = record {
  some = f hs.some;
  lawful = p.to hs.some hs.lawful;
  read_back = λ b l.
      let a = p.from b l in
      let la : s.IsLawful a = p.lawful b l in
      let text : write b ≡ s.write a = ap write (sym (p.back b l)) ∙ p.same a la in
      ap (λ (w : List ℕ). mapped f (s.read w)) text ∙ (ap (mapped f) (hs.read_back a la) ∙ ap (λ (x : B). Read x []) (p.back b l));
  says = λ text. over_says s f IsLawful write p text (s.read text) (hs.says text);
  whole = λ text b rest e. mapped_whole f (s.read text) b rest (hs.whole text) e;
}

pub shaped_last : {A B : Type 0} (s : Spelling A) (made : A → B) (parts : B → A) → SpellsLast s → ((a : A) → s.IsLawful a → parts (made a) ≡ a)
    → ((b : B) → s.IsLawful (parts b) → made (parts b) ≡ b) → SpellsLast (shaped s made parts)
shaped_last s made parts hs there back =
    over_last s made (λ b. s.IsLawful (parts b)) (λ b. s.write (parts b)) hs (record {
      to = λ a l. subst s.IsLawful (sym (there a l)) l;
      same = λ a l. ap s.write (there a l);
      from = λ b l. parts b;
      lawful = λ b l. l;
      back = back;
    })

-- ---- one behind the other

followed_whole : {A B : Type 0} (r : Reading A) (more : A → List ℕ → Reading B) (v : A × B) (rest : List ℕ)
    → ((a : A) (left : List ℕ) (b : B) (last : List ℕ) → r ≡ Read a left → more a left ≡ Read b last → last ≡ []) → followed r more ≡ Read v rest → rest ≡ []
followed_whole {B = B} (Read a left) more v rest h e =
    mapped_whole (λ (b : B). (a, b)) (more a left) v rest (λ b last same. h a left b last refl same) e
followed_whole Short more v rest h e = absurd (let contrary : Short ≡ Read v rest = e in cc)
followed_whole (Wrong left) more v rest h e = absurd (let contrary : Wrong left ≡ Read v rest = e in cc)

pub both_last : {A B : Type 0} (s : Spelling A) (t : A → Spelling B) → Spells s → ((a : A) → s.IsLawful a → SpellsLast (t a)) → SpellsLast (both s t)
both_last s t hs ht = record {
  some = (hs.some, (ht hs.some hs.lawful).some);
  lawful = (hs.lawful, (ht hs.some hs.lawful).lawful);
  read_back = λ v l. rw (hs.read_back (v.0) ((t (v.0)).write (v.1)) l.0, (ht (v.0) l.0).read_back (v.1) l.1) refl;
  says = λ text. first_says s t hs (λ a l. answers_last (ht a l)) text (s.read text) (hs.says text);
  whole = λ text v rest e. followed_whole (s.read text) (λ a left. (t a).read left) v rest
      (λ a left b last read more.
      (ht a (subst (Says s text) read (hs.says text)).0).whole left b last more) e;
}

-- ---- one or the other

either_last_back : {A B : Type 0} (test : ℕ → Bool) (s : Spelling A) (t : Spelling B) → SpellsLast s → SpellsLast t → Heads test true s → Heads test false t
    → (v : Either A B) → LawfulEither s t v → read_either test s.read t.read (write_either s t v) ≡ Read v []
either_last_back test s t hs ht us ut (First a) l =
    read_first test s t (s.write a) (us.head a l) (us.tail a l) (us.written a l) (us.tested a l) ∙ ap (mapped First) (hs.read_back a l)
either_last_back test s t hs ht us ut (Second b) l =
    read_second test s t (t.write b) (ut.head b l) (ut.tail b l) (ut.written b l) (ut.tested b l) ∙ ap (mapped Second) (ht.read_back b l)

either_whole : {A B : Type 0} (test : ℕ → Bool) (s : Spelling A) (t : Spelling B) → SpellsLast s → SpellsLast t
    → (text : List ℕ) (v : Either A B) (rest : List ℕ)
    → read_either test s.read t.read text ≡ Read v rest → rest ≡ []
either_whole test s t hs ht [] v rest e = absurd (let contrary : Short ≡ Read v rest = e in cc)
either_whole test s t hs ht (c ∷ text) v rest e =
    elim (cases_Bool (test c)) [
      | inl yes_first ↦
          mapped_whole First (s.read (c ∷ text)) v rest (hs.whole (c ∷ text)) (sym (read_first test s t (c ∷ text) c text refl yes_first) ∙ e)
      | inr not_first ↦
          mapped_whole Second (t.read (c ∷ text)) v rest (ht.whole (c ∷ text)) (sym (read_second test s t (c ∷ text) c text refl not_first) ∙ e)
    ]

pub either_last : {A B : Type 0} (test : ℕ → Bool) (s : Spelling A) (t : Spelling B) → SpellsLast s → SpellsLast t → Heads test true s → Heads test false t
    → SpellsLast (either test s t)
either_last test s t hs ht us ut = record {
  some = First hs.some;
  lawful = hs.lawful;
  read_back = either_last_back test s t hs ht us ut;
  says = either_says test s t (answers_last hs) (answers_last ht);
  whole = either_whole test s t hs ht;
}

-- ---- a value or the end

some_begins : {A : Type 0} (test : ℕ → Bool) (s : Spelling A) (text : List ℕ) → Begins s text → Begins (perhaps_last test s) text
some_begins test s text h = record { value = Some h.value; lawful = h.lawful; more = h.more; written = h.written }

read_some : {A : Type 0} (test : ℕ → Bool) (s : Spelling A) (text : List ℕ) (c : ℕ) (w : List ℕ) → text ≡ c ∷ w → test c ≡ true
    → read_last test s.read text ≡ mapped Some (s.read text)
read_some test s text c w e passes = rw (e, passes) refl

read_other : {A : Type 0} (test : ℕ → Bool) (s : Spelling A) (c : ℕ) (w : List ℕ) → test c ≡ false → read_last test s.read (c ∷ w) ≡ Wrong (c ∷ w)
read_other test s c w fails = rw fails refl

some_says : {A : Type 0} (test : ℕ → Bool) (s : Spelling A) (c : ℕ) (text : List ℕ) → test c ≡ true → (r : Reading A) → Says s (c ∷ text) r
    → Says (perhaps_last test s) (c ∷ text) (mapped Some r)
some_says test s c text passes (Read a rest) h = h
some_says test s c text passes Short h = some_begins test s (c ∷ text) h
some_says test s c text passes (Wrong left) h =
    let start = begun h.before h.character h.behind c text (h.cut ∙ ap (λ (w : List ℕ). h.before ++ w) h.here) in
    record {
      before = h.before;
      character = h.character;
      behind = h.behind;
      here = h.here;
      cut = h.cut;
      begins = some_begins test s h.before h.begins;
      wrong = λ other.
          read_some test s (h.before ++ h.character ∷ other) c (start.tail other) (start.same other) passes ∙ ap (mapped Some) (h.wrong other);
    }

perhaps_says : {A : Type 0} (test : ℕ → Bool) (s : Spelling A) → SpellsLast s → (text : List ℕ) → Says (perhaps_last test s) text (read_last test s.read text)
perhaps_says test s hs [] = (tt, refl)
perhaps_says test s hs (c ∷ text) =
    elim (cases_Bool (test c)) [
      | inl passes ↦
          subst (Says (perhaps_last test s) (c ∷ text)) (sym (read_some test s (c ∷ text) c text refl passes))
          (some_says test s c text passes (s.read (c ∷ text)) (hs.says (c ∷ text)))
      | inr fails ↦
          subst (Says (perhaps_last test s) (c ∷ text)) (sym (read_other test s c text fails)) (record {
            before = [];
            character = c;
            behind = text;
            here = refl;
            cut = refl;
            begins = record { value = None; lawful = tt; more = []; written = refl };
            wrong = λ other. read_other test s c other fails;
          })
    ]

perhaps_back : {A : Type 0} (test : ℕ → Bool) (s : Spelling A) → SpellsLast s → Heads test true s → (v : Option A) → LawfulOption s v
    → read_last test s.read (write_option s v) ≡ Read v []
perhaps_back test s hs us (Some a) l =
    read_some test s (s.write a) (us.head a l) (us.tail a l) (us.written a l) (us.tested a l) ∙ ap (mapped Some) (hs.read_back a l)
perhaps_back test s hs us None l = refl

perhaps_whole : {A : Type 0} (test : ℕ → Bool) (s : Spelling A) → SpellsLast s → (text : List ℕ) (v : Option A) (rest : List ℕ)
    → read_last test s.read text ≡ Read v rest → rest ≡ []
perhaps_whole {A = A} test s hs [] v rest e = let none : Option A = None in let same : Read none [] ≡ Read v rest = e in let done : rest ≡ [] = cc in done
perhaps_whole test s hs (c ∷ text) v rest e =
    elim (cases_Bool (test c)) [
      | inl passes ↦ mapped_whole Some (s.read (c ∷ text)) v rest (hs.whole (c ∷ text)) (sym (read_some test s (c ∷ text) c text refl passes) ∙ e)
      | inr fails ↦ absurd (let contrary : Wrong (c ∷ text) ≡ Read v rest = sym (read_other test s c text fails) ∙ e in cc)
    ]

pub perhaps_spells : {A : Type 0} (test : ℕ → Bool) (s : Spelling A) → SpellsLast s → Heads test true s → SpellsLast (perhaps_last test s)
perhaps_spells test s hs us = record {
  some = Some hs.some;
  lawful = hs.lawful;
  read_back = perhaps_back test s hs us;
  says = perhaps_says test s hs;
  whole = perhaps_whole test s hs;
}
