-- What follows of the end of a run at its status.
use Rattle.std.proofs.Common.{◌≡◌, ◌∙◌, ◌⊎◌, ◌<◌, ℕ, [], inl, inr, refl, sym, ap, subst, arith, Option, Some, None, Ok, Err}
use Rattle.std.specs.Prelude.{string_bytes, codes}
use Rattle.mb_words.specs.Words.{Text, Asked, SavePoint, saving}
use Rattle.def_runs.specs.Native.{NativeState}
use Rattle.mb_files.specs.Reading.{Reading, ◌>>=◌, gives, end_of}
use Rattle.mb_files.specs.Comes.{Comes}
use Rattle.mb_files.specs.Reads.{IsRead, IsUnread}
use Rattle.mb_files.specs.Shelves.{ShelfSeen}
use Rattle.mb_files.specs.declared.fault.FileWhy.{FileWhy}
use Rattle.mb_files.specs.declared.fault.FileFault.{FileFault}
use Rattle.mb_files.specs.declared.fault.FileFault.TheVariants as fault
use Rattle.mb_files.proofs.ReadingLemmas.{comes_then, known, named_is_told, unread_first}
use Rattle.mb_program.specs.Answers.{Answer, Shown, shows, oversizes, answer_to}
use Rattle.mb_program.specs.Around.{Around, Diag, SinkSeen, IsPut}
use Rattle.mb_program.specs.Ends.{AnswerGiven, CommandEnds, Ends, EndsAt, IsGiven, IsIdle, IsShown, WordsEnd}
use Rattle.mb_ends.specs.Lines.{end_by, line_of, status_of}
use Rattle.mb_program.specs.Causes.{Cut, FileRefused, FileUnread, Gets, Gives, HasSaved, IsAllTold, IsDone, IsOversize, IsRefused, IsStatus, NotFit, Written}
use Rattle.mb_program.specs.Files.{Ordered, session_files}
use Rattle.mb_program.specs.Saves.{IsSaved}
use Rattle.mb_ends.specs.declared.end.End.{End}
use Rattle.mb_ends.specs.declared.end.End.TheVariants.{Done, Counts, Differs, Words, Refused, Oversize, Unread, Output, Memory}

-- ---- how a command ends

-- it gives the answer that it has by what it read
pub by_answer : {A X : Type 0} (r : Reading A) (f : A → Answer) (view : X → A) (x : X) (a : Around) (end : End)
    → IsRead r view a.shelf a.shelf_after (Ok x) → IsGiven (f (view x)) a.out a.out_after a.native a.native_after end
    → CommandEnds (r >>= λ held. gives (f held)) a end
by_answer r f view x a end read given = inr (record {
  stayed = read.0;
  answer = f (view x);
  comes = comes_then a.shelf.told r (λ held. gives (f held)) (view x) (Ok (f (view x))) read.1 refl;
  given = given;
})

-- an answer for which it reads nothing
pub by_gift : (answer : Answer) (a : Around) (end : End) → a.shelf_after ≡ a.shelf → IsGiven answer a.out a.out_after a.native a.native_after end
    → CommandEnds (gives answer) a end
by_gift answer a end stayed given = inr (record { stayed = stayed; answer = answer; comes = refl; given = given })

-- or it ends while it reads
ends_at : {A : Type 0} (r : Reading A) (s t : ShelfSeen) (f : FileFault) → IsUnread r s t f → EndsAt r s t (end_by f)
ends_at r s t (fault.Refused name why) h = h
ends_at r s t (fault.Unread name) h = h
ends_at r s t fault.Memory h = h

pub by_files : {A X : Type 0} (r : Reading A) (next : A → Reading Answer) (view : X → A) (a : Around) (f : FileFault)
    → IsRead r view a.shelf a.shelf_after (Err f) → IsIdle a.out a.out_after a.native a.native_after → CommandEnds (r >>= next) a (end_by f)
by_files r next view a f read idle =
    inl (ends_at (r >>= next) a.shelf a.shelf_after f (unread_first r next a.shelf a.shelf_after f read), idle)

-- ---- statuses

-- the statuses of a run that ends while it reads
abbrev IsReadStatus : ℕ → Type 0
IsReadStatus n = (n ≡ 3) ⊎ (n ≡ 5) ⊎ (n ≡ 7)

read_status : {A : Type 0} (r : Reading A) (s t : ShelfSeen) (end : End) → EndsAt r s t end → IsReadStatus (status_of end)
read_status r s t (Refused name why) h = inl refl
read_status r s t (Unread name) h = inr (inl refl)
read_status r s t Memory h = inr (inr refl)
read_status r s t _ h = absurd h

-- no other
unread_status : (n k : ℕ) → IsReadStatus n → n ≡ k → (k ≡ 3 → ⊥) → (k ≡ 5 → ⊥) → (k ≡ 7 → ⊥) → ⊥
unread_status n k h is three five seven = elim h [
  | inl a ↦ three (sym is ∙ a)
  | inr (inl b) ↦ five (sym is ∙ b)
  | inr (inr c) ↦ seven (sym is ∙ c)
]

-- the statuses of a run that gives an answer
given_status : (answer : Answer) (o p : SinkSeen) (m n : NativeState) (end : End) → IsGiven answer o p m n end
    → (status_of end ≡ 5 → ⊥) × (status_of end ≡ 3 → ⊥) × (status_of end ≡ 2 → ⊥)
given_status (shows shown) o p m n Done h = (λ e. absurd cc, λ e. absurd cc, λ e. absurd cc)
given_status (shows shown) o p m n (Counts host) h = (λ e. absurd cc, λ e. absurd cc, λ e. absurd cc)
given_status (shows shown) o p m n Differs h = (λ e. absurd cc, λ e. absurd cc, λ e. absurd cc)
given_status (shows shown) o p m n Output h = (λ e. absurd cc, λ e. absurd cc, λ e. absurd cc)
given_status (oversizes need have) o p m n (Oversize a b) h = (λ e. absurd cc, λ e. absurd cc, λ e. absurd cc)
given_status answer o p m n Memory h = (λ e. absurd cc, λ e. absurd cc, λ e. absurd cc)
given_status _ o p m n _ h = absurd h

-- ---- what was written

-- what an answer was that was given with this status
pub record Had (answer : Answer) (o p : SinkSeen) (m n : NativeState) (end : End) (status : ℕ) : Type 0 where
  pub shown : Shown
  pub is : answer ≡ shows shown
  pub put : IsShown shown status (line_of end) o p m n

had_zero : (answer : Answer) (o p : SinkSeen) (m n : NativeState) (end : End) → IsGiven answer o p m n end → status_of end ≡ 0
    → Had answer o p m n end 0
had_zero (shows shown) o p m n Done h e = record { shown = shown; is = refl; put = h }
had_zero (shows shown) o p m n (Counts host) h e = record { shown = shown; is = refl; put = h }
had_zero (oversizes need have) o p m n Done h e = absurd h
had_zero (oversizes need have) o p m n (Counts host) h e = absurd h
had_zero _ o p m n _ h e = absurd cc

had_one : (answer : Answer) (o p : SinkSeen) (m n : NativeState) (end : End) → IsGiven answer o p m n end → status_of end ≡ 1
    → Had answer o p m n end 1
had_one (shows shown) o p m n Differs h e = record { shown = shown; is = refl; put = h }
had_one (oversizes need have) o p m n Differs h e = absurd h
had_one _ o p m n _ h e = absurd cc

written : (asked : Asked) (a : Around) (diag : Diag) (end : End) (status : ℕ) (g : AnswerGiven (answer_to asked) a end)
    → Had g.answer a.out a.out_after a.native a.native_after end status → IsPut diag (line_of end) → Written (Some asked) a diag status
written asked a diag end status g had line = record {
  shown = had.shown;
  comes = subst (λ (answer : Answer). Comes a.shelf.told (answer_to asked) (Ok answer)) had.is g.comes;
  status_is = had.put.status_is;
  gained = had.put.gained;
  counted = had.put.counted;
  line = subst (λ (text : Text). IsPut diag text) (sym had.put.lines_are) line;
}

not_words : (a : Around) (end : End) → WordsEnd a end → (status_of end ≡ 2) ⊎ (status_of end ≡ 7)
not_words a Words h = inl refl
not_words a Memory h = inr refl
not_words a _ h = absurd h

no_words : (a : Around) (end : End) (k : ℕ) → WordsEnd a end → status_of end ≡ k → (k ≡ 2 → ⊥) → (k ≡ 7 → ⊥) → ⊥
no_words a end k h is two seven = elim (not_words a end h) [ inl e ↦ two (sym is ∙ e) | inr e ↦ seven (sym is ∙ e) ]

pub done_so : (asked : Option Asked) (a : Around) (diag : Diag) (end : End) → Ends asked a end → IsPut diag (line_of end) → status_of end ≡ 0
    → Written asked a diag 0
done_so None a diag end h line zero = absurd (no_words a end 0 h zero (λ e. absurd cc) (λ e. absurd cc))
done_so (Some asked) a diag end h line zero = elim h [
  | inl read ↦ absurd (unread_status _ 0 (read_status (answer_to asked) a.shelf a.shelf_after end read.0) zero
      (λ e. absurd cc) (λ e. absurd cc) (λ e. absurd cc))
  | inr g ↦ written asked a diag end 0 g (had_zero g.answer a.out a.out_after a.native a.native_after end g.given zero) line
]

pub differs_so : (asked : Option Asked) (a : Around) (diag : Diag) (end : End) → Ends asked a end → IsPut diag (line_of end) → status_of end ≡ 1
    → Written asked a diag 1
differs_so None a diag end h line one = absurd (no_words a end 1 h one (λ e. absurd cc) (λ e. absurd cc))
differs_so (Some asked) a diag end h line one = elim h [
  | inl read ↦ absurd (unread_status _ 1 (read_status (answer_to asked) a.shelf a.shelf_after end read.0) one
      (λ e. absurd cc) (λ e. absurd cc) (λ e. absurd cc))
  | inr g ↦ written asked a diag end 1 g (had_one g.answer a.out a.out_after a.native a.native_after end g.given one) line
]

-- ---- what was saved

-- none where a file was not read
pub none_read : (f : FileFault) → status_of (end_by f) ≡ 0 → ⊥
none_read (fault.Refused name why) zero = absurd cc
none_read (fault.Unread name) zero = absurd cc
none_read fault.Memory zero = absurd cc

-- the session that was read is the one of which it is promised
pub has_saved : (p : SavePoint) (read : Ordered) (a : Around) (status : ℕ) → Comes a.shelf.told (session_files p.session) (Ok read)
    → (status ≡ 0 → IsSaved p.steps read.session) → HasSaved (Some (saving p)) a status
has_saved p read a status comes saved q s is gets zero =
    let asked : p ≡ q = cc in
    let here = subst (λ (o : SavePoint). Gets a (session_files o.session) s) (sym asked) gets in
    let e = known a.shelf.told (session_files p.session) (Ok s) (Ok read) here comes in
    let same : read ≡ s = cc in
    subst (λ (o : SavePoint). IsSaved o.steps s.session) asked (subst (λ (o : Ordered). IsSaved p.steps o.session) same (saved zero))

-- ---- what was refused

refused_read : (asked : Asked) (a : Around) (diag : Diag) (end : End) → EndsAt (answer_to asked) a.shelf a.shelf_after end → IsPut diag (line_of end)
    → status_of end ≡ 3 → FileRefused (Some asked) a diag
refused_read asked a diag (Refused name why) h line e = record { name = string_bytes name; why = why; comes = h.1; line = line }
refused_read asked a diag _ h line e = absurd cc

pub refused_so : (asked : Option Asked) (a : Around) (diag : Diag) (end : End) → Ends asked a end → IsPut diag (line_of end) → status_of end ≡ 3
    → FileRefused asked a diag
refused_so None a diag end h line three = absurd (no_words a end 3 h three (λ e. absurd cc) (λ e. absurd cc))
refused_so (Some asked) a diag end h line three = elim h [
  | inl read ↦ refused_read asked a diag end read.0 line three
  | inr g ↦ absurd ((given_status g.answer a.out a.out_after a.native a.native_after end g.given).1 three)
]

oversize_given : (asked : Asked) (a : Around) (diag : Diag) (answer : Answer) (end : End) → Comes a.shelf.told (answer_to asked) (Ok answer)
    → IsGiven answer a.out a.out_after a.native a.native_after end → IsPut diag (line_of end) → status_of end ≡ 4 → NotFit (Some asked) a diag
oversize_given asked a diag (oversizes n m) (Oversize need have) comes h line e =
    let same : oversizes n m ≡ oversizes need have = cc (h.0, h.1) in
    record { need = need; have = have; comes = subst (λ (answer : Answer). Comes a.shelf.told (answer_to asked) (Ok answer)) same comes; line = line }
oversize_given asked a diag (shows shown) (Oversize need have) comes h line e = absurd h
oversize_given asked a diag _ _ comes h line e = absurd cc

pub oversize_so : (asked : Option Asked) (a : Around) (diag : Diag) (end : End) → Ends asked a end → IsPut diag (line_of end) → status_of end ≡ 4
    → NotFit asked a diag
oversize_so None a diag end h line four = absurd (no_words a end 4 h four (λ e. absurd cc) (λ e. absurd cc))
oversize_so (Some asked) a diag end h line four = elim h [
  | inl read ↦ absurd (unread_status _ 4 (read_status (answer_to asked) a.shelf a.shelf_after end read.0) four
      (λ e. absurd cc) (λ e. absurd cc) (λ e. absurd cc))
  | inr g ↦ oversize_given asked a diag g.answer end g.comes g.given line four
]

unread_read : (asked : Asked) (a : Around) (diag : Diag) (end : End) → EndsAt (answer_to asked) a.shelf a.shelf_after end → IsPut diag (line_of end)
    → status_of end ≡ 5 → FileUnread (Some asked) a diag
unread_read asked a diag (Unread name) h line e =
    record { rose = h.2.rose; name = string_bytes name; names = h.0; missing = h.1; line = line }
unread_read asked a diag _ h line e = absurd cc

pub unread_so : (asked : Option Asked) (a : Around) (diag : Diag) (end : End) → Ends asked a end → IsPut diag (line_of end) → status_of end ≡ 5
    → FileUnread asked a diag
unread_so None a diag end h line five = absurd (no_words a end 5 h five (λ e. absurd cc) (λ e. absurd cc))
unread_so (Some asked) a diag end h line five = elim h [
  | inl read ↦ unread_read asked a diag end read.0 line five
  | inr g ↦ absurd ((given_status g.answer a.out a.out_after a.native a.native_after end g.given).0 five)
]

-- a whole shelf that tells every file of a command is no cause of an unread one
never_unread : (asked : Option Asked) (a : Around) (diag : Diag) → FileUnread asked a diag → IsAllTold asked a → ⊥
never_unread None a diag u all = all.1
never_unread (Some asked) a diag u all = u.missing all.0 (named_is_told a.shelf.told (answer_to asked) u.name all.1 u.names)

pub unread_never : (asked : Option Asked) (a : Around) (diag : Diag) (end : End) → Ends asked a end → IsPut diag (line_of end)
    → IsAllTold asked a → status_of end ≡ 5 → ⊥
unread_never asked a diag end h line all five = never_unread asked a diag (unread_so asked a diag end h line five) all

cut_given : (asked : Asked) (a : Around) (diag : Diag) (answer : Answer) (end : End) → Comes a.shelf.told (answer_to asked) (Ok answer)
    → IsGiven answer a.out a.out_after a.native a.native_after end → IsPut diag (line_of end) → status_of end ≡ 6 → Cut (Some asked) a diag
cut_given asked a diag (shows shown) Output comes h line e = record { rose = h.rose; shown = shown; comes = comes; part = h; line = line }
cut_given asked a diag (oversizes n m) Output comes h line e = absurd h
cut_given asked a diag _ _ comes h line e = absurd cc

pub cut_so : (asked : Option Asked) (a : Around) (diag : Diag) (end : End) → Ends asked a end → IsPut diag (line_of end) → status_of end ≡ 6
    → Cut asked a diag
cut_so None a diag end h line six = absurd (no_words a end 6 h six (λ e. absurd cc) (λ e. absurd cc))
cut_so (Some asked) a diag end h line six = elim h [
  | inl read ↦ absurd (unread_status _ 6 (read_status (answer_to asked) a.shelf a.shelf_after end read.0) six
      (λ e. absurd cc) (λ e. absurd cc) (λ e. absurd cc))
  | inr g ↦ cut_given asked a diag g.answer end g.comes g.given line six
]

pub words_so : (asked : Option Asked) (a : Around) (end : End) → Ends asked a end → status_of end ≡ 2 → asked ≡ None
words_so None a end h two = refl
words_so (Some asked) a end h two = elim h [
  | inl read ↦ absurd (unread_status _ 2 (read_status (answer_to asked) a.shelf a.shelf_after end read.0) two
      (λ e. absurd cc) (λ e. absurd cc) (λ e. absurd cc))
  | inr g ↦ absurd ((given_status g.answer a.out a.out_after a.native a.native_after end g.given).2 two)
]

pub words_always : (asked : Option Asked) (a : Around) (end : End) → Ends asked a end → asked ≡ None → (status_of end ≡ 2) ⊎ (status_of end ≡ 7)
words_always None a end h none = not_words a end h
words_always (Some asked) a end h none = absurd cc

-- the line of a status that has one of its own
pub words_line : (diag : Diag) (end : End) → IsPut diag (line_of end) → status_of end ≡ 2 → IsPut diag (codes "mbx: words refused\n")
words_line diag Words line e = line
words_line diag _ line e = absurd cc

pub memory_line : (diag : Diag) (end : End) → IsPut diag (line_of end) → status_of end ≡ 7 → IsPut diag (codes "mbx: no memory\n")
memory_line diag Memory line e = line
memory_line diag _ line e = absurd cc

-- ---- what is known

other_status : (status : ℕ) → (status ≡ 5) ⊎ (status ≡ 6) ⊎ (status ≡ 7) → IsDone status → ⊥
other_status status (inl five) (inl zero) = absurd (omega (arith, five, zero))
other_status status (inl five) (inr one) = absurd (omega (arith, five, one))
other_status status (inr (inl six)) (inl zero) = absurd (omega (arith, six, zero))
other_status status (inr (inl six)) (inr one) = absurd (omega (arith, six, one))
other_status status (inr (inr seven)) (inl zero) = absurd (omega (arith, seven, zero))
other_status status (inr (inr seven)) (inr one) = absurd (omega (arith, seven, one))

gives_shown : (a : Around) (diag : Diag) (shown : Shown) (end : End) (status : ℕ)
    → IsShown shown status (line_of end) a.out a.out_after a.native a.native_after → IsPut diag (line_of end) → Gives a diag shown status
gives_shown a diag shown end status h line = record {
  printed = λ done. h.gained.grows;
  said = λ done. subst (λ (text : Text). IsPut diag text) (sym h.lines_are) line;
  counted = λ done. h.counted;
  ended = inl (sym h.status_is);
}

-- nothing is claimed where it is not done
gives_nothing : (a : Around) (diag : Diag) (shown : Shown) (status : ℕ) → (status ≡ 5) ⊎ (status ≡ 6) ⊎ (status ≡ 7) → Gives a diag shown status
gives_nothing a diag shown status other =
    let not : IsDone status → ⊥ = λ done. other_status status other done in
    record {
      printed = λ done. absurd (not done);
      said = λ done. absurd (not done);
      counted = λ done. absurd (not done);
      ended = inr other;
    }

-- at an answer that is to be shown
gives_given : (a : Around) (diag : Diag) (shown : Shown) (answer : Answer) (end : End) → answer ≡ shows shown
    → IsGiven answer a.out a.out_after a.native a.native_after end → IsPut diag (line_of end) → Gives a diag shown (status_of end)
gives_given a diag shown (shows other) Done is h line = let same : other ≡ shown = cc in gives_shown a diag shown Done 0
    (subst (λ (s : Shown). IsShown s 0 [] a.out a.out_after a.native a.native_after) same h) line
gives_given a diag shown (shows other) (Counts host) is h line = let same : other ≡ shown = cc in gives_shown a diag shown (Counts host) 0
    (subst (λ (s : Shown). IsShown s 0 (line_of (Counts host)) a.out a.out_after a.native a.native_after) same h) line
gives_given a diag shown (shows other) Differs is h line = let same : other ≡ shown = cc in gives_shown a diag shown Differs 1
    (subst (λ (s : Shown). IsShown s 1 [] a.out a.out_after a.native a.native_after) same h) line
gives_given a diag shown answer Output is h line = gives_nothing a diag shown 6 (inr (inl refl))
gives_given a diag shown answer Memory is h line = gives_nothing a diag shown 7 (inr (inr refl))
gives_given a diag shown (oversizes need have) _ is h line = absurd cc
gives_given a diag shown _ _ is h line = absurd h

gives_read : (a : Around) (diag : Diag) (shown : Shown) (r : Reading Answer) (end : End) → end_of a.shelf.told r ≡ Some (Ok (shows shown))
    → EndsAt r a.shelf a.shelf_after end → Gives a diag shown (status_of end)
gives_read a diag shown r (Refused name why) is h =
    absurd (let e = known a.shelf.told r (Ok (shows shown)) (Err (string_bytes name, why)) is h.1 in cc)
gives_read a diag shown r (Unread name) is h = gives_nothing a diag shown 5 (inl refl)
gives_read a diag shown r Memory is h = gives_nothing a diag shown 7 (inr (inr refl))
gives_read a diag shown r _ is h = absurd h

-- an answer that is known to be shown is given
pub gives_so : (asked : Option Asked) (a : Around) (diag : Diag) (end : End) → Ends asked a end → IsPut diag (line_of end)
    → (command : Asked) (shown : Shown) → asked ≡ Some command → Gets a (answer_to command) (shows shown) → Gives a diag shown (status_of end)
gives_so None a diag end h line command shown is gets = absurd cc
gives_so (Some asked) a diag end h line command shown is gets =
    let same : asked ≡ command = cc in
    let here = subst (λ (c : Asked). Gets a (answer_to c) (shows shown)) (sym same) gets in
    elim h [
      | inl read ↦ gives_read a diag shown (answer_to asked) end here read.0
      | inr g ↦
          let e = known a.shelf.told (answer_to asked) (Ok (shows shown)) (Ok g.answer) here g.comes in
          gives_given a diag shown g.answer end (let same : g.answer ≡ shows shown = cc in same) g.given line
    ]

-- a file that is known to be refused is
refused_given : (a : Around) (r : Reading Answer) (end : End) (name : Text) (why : FileWhy) → end_of a.shelf.told r ≡ Some (Err (name, why))
    → CommandEnds r a end → (status_of end ≡ 3) ⊎ (status_of end ≡ 5) ⊎ (status_of end ≡ 7)
refused_given a r end name why is h = elim h [
  | inl read ↦ read_status r a.shelf a.shelf_after end read.0
  | inr g ↦ absurd (let e = known a.shelf.told r (Err (name, why)) (Ok g.answer) is g.comes in cc)
]

pub refused_always : (asked : Option Asked) (a : Around) (end : End) → Ends asked a end → IsRefused asked a
    → (status_of end ≡ 3) ⊎ (status_of end ≡ 5) ⊎ (status_of end ≡ 7)
refused_always None a end h is = absurd is
refused_always (Some asked) a end h (name, why, is) = refused_given a (answer_to asked) end name why is h

oversize_status : (a : Around) (need have : ℕ) (answer : Answer) (end : End) → answer ≡ oversizes need have
    → IsGiven answer a.out a.out_after a.native a.native_after end → (status_of end ≡ 4) ⊎ (status_of end ≡ 5) ⊎ (status_of end ≡ 7)
oversize_status a need have answer (Oversize n m) is h = inl refl
oversize_status a need have answer Memory is h = inr (inr refl)
oversize_status a need have (shows shown) _ is h = absurd cc
oversize_status a need have (oversizes n m) _ is h = absurd h

oversize_read : (a : Around) (need have : ℕ) (r : Reading Answer) (end : End) → end_of a.shelf.told r ≡ Some (Ok (oversizes need have))
    → EndsAt r a.shelf a.shelf_after end → (status_of end ≡ 4) ⊎ (status_of end ≡ 5) ⊎ (status_of end ≡ 7)
oversize_read a need have r (Refused name why) is h =
    absurd (let e = known a.shelf.told r (Ok (oversizes need have)) (Err (string_bytes name, why)) is h.1 in cc)
oversize_read a need have r (Unread name) is h = inr (inl refl)
oversize_read a need have r Memory is h = inr (inr refl)
oversize_read a need have r _ is h = absurd h

pub oversize_always : (asked : Option Asked) (a : Around) (end : End) → Ends asked a end → IsOversize asked a
    → (status_of end ≡ 4) ⊎ (status_of end ≡ 5) ⊎ (status_of end ≡ 7)
oversize_always None a end h is = absurd is
oversize_always (Some asked) a end h is = elim h [
  | inl read ↦ oversize_read a is.0 is.1 (answer_to asked) end is.2 read.0
  | inr g ↦
      let e = known a.shelf.told (answer_to asked) (Ok (oversizes is.0 is.1)) (Ok g.answer) is.2 g.comes in
      oversize_status a is.0 is.1 g.answer end (let same : g.answer ≡ oversizes is.0 is.1 = cc in same) g.given
]

-- ---- what stays

pub status_known : (end : End) → IsStatus (status_of end)
status_known Done = inl refl
status_known (Counts host) = inl refl
status_known Differs = inr (inl refl)
status_known Words = inr (inr (inl refl))
status_known (Refused name why) = inr (inr (inr (inl refl)))
status_known (Oversize need have) = inr (inr (inr (inr (inl refl))))
status_known (Unread name) = inr (inr (inr (inr (inr (inl refl)))))
status_known Output = inr (inr (inr (inr (inr (inr (inl refl))))))
status_known Memory = inr (inr (inr (inr (inr (inr (inr refl))))))

pub record Stands (a : Around) (status : ℕ) : Type 0 where
  pub idle : (status ≡ 0 → ⊥) → (status ≡ 1 → ⊥) → (status ≡ 6 → ⊥) → IsIdle a.out a.out_after a.native a.native_after
  pub output_always : a.out.faults < a.out_after.faults → status ≡ 6
  pub unread_always : a.shelf.faults < a.shelf_after.faults → status ≡ 5
  pub read_well : (status ≡ 5 → ⊥) → a.shelf_after ≡ a.shelf
  pub told : a.shelf_after.told ≡ a.shelf.told
  pub whole : a.shelf_after.whole ≡ a.shelf.whole

same_faults : (a : Around) → a.shelf_after ≡ a.shelf → a.shelf.faults < a.shelf_after.faults → ⊥
same_faults a same less = let e = ap (λ (s : ShelfSeen). s.faults) same in omega (arith, e, less)

-- the shelf is as before, and out has not failed
stands_well : (a : Around) (status : ℕ) → a.shelf_after ≡ a.shelf → a.out_after.faults ≡ a.out.faults
    → ((status ≡ 0 → ⊥) → (status ≡ 1 → ⊥) → (status ≡ 6 → ⊥) → IsIdle a.out a.out_after a.native a.native_after) → Stands a status
stands_well a status same faults idle = record {
  idle = idle;
  output_always = λ less. absurd (omega (arith, faults, less));
  unread_always = λ less. absurd (same_faults a same less);
  read_well = λ other. same;
  told = ap (λ (s : ShelfSeen). s.told) same;
  whole = ap (λ (s : ShelfSeen). s.whole) same;
}

stands_still : (a : Around) (status : ℕ) → a.shelf_after ≡ a.shelf → IsIdle a.out a.out_after a.native a.native_after → Stands a status
stands_still a status same idle = stands_well a status same (ap (λ (o : SinkSeen). o.faults) idle.0) (λ x y z. idle)

stands_read : (a : Around) (r : Reading Answer) (end : End) → EndsAt r a.shelf a.shelf_after end → IsIdle a.out a.out_after a.native a.native_after
    → Stands a (status_of end)
stands_read a r (Refused name why) h idle = stands_still a 3 h.0 idle
stands_read a r Memory h idle = stands_still a 7 h idle
stands_read a r (Unread name) h idle = record {
  idle = λ x y z. idle;
  output_always = λ less. absurd (let e = ap (λ (o : SinkSeen). o.faults) idle.0 in omega (arith, e, less));
  unread_always = λ less. refl;
  read_well = λ other. absurd (other refl);
  told = h.2.told;
  whole = h.2.whole;
}
stands_read a r _ h idle = absurd h

stands_given : (a : Around) (answer : Answer) (end : End) → a.shelf_after ≡ a.shelf → IsGiven answer a.out a.out_after a.native a.native_after end
    → Stands a (status_of end)
stands_given a (shows shown) Done same h = stands_well a 0 same h.gained.same (λ x y z. absurd (x refl))
stands_given a (shows shown) (Counts host) same h = stands_well a 0 same h.gained.same (λ x y z. absurd (x refl))
stands_given a (shows shown) Differs same h = stands_well a 1 same h.gained.same (λ x y z. absurd (y refl))
stands_given a (shows shown) Output same h = record {
  idle = λ x y z. absurd (z refl);
  output_always = λ less. refl;
  unread_always = λ less. absurd (same_faults a same less);
  read_well = λ other. same;
  told = ap (λ (s : ShelfSeen). s.told) same;
  whole = ap (λ (s : ShelfSeen). s.whole) same;
}
stands_given a (oversizes n m) (Oversize need have) same h = stands_still a 4 same h.2
stands_given a answer Memory same h = stands_still a 7 same h
stands_given a _ _ same h = absurd h

stands_words : (a : Around) (end : End) → WordsEnd a end → Stands a (status_of end)
stands_words a Words h = stands_still a 2 h.0 h.1
stands_words a Memory h = stands_still a 7 h.0 h.1
stands_words a _ h = absurd h

pub stands : (asked : Option Asked) (a : Around) (end : End) → Ends asked a end → Stands a (status_of end)
stands None a end h = stands_words a end h
stands (Some asked) a end h = elim h [
  | inl read ↦ stands_read a (answer_to asked) end read.0 read.1
  | inr g ↦ stands_given a g.answer end g.stayed g.given
]
