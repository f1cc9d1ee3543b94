-- Lists of which some values were read: what a loop keeps.
use Rattle.std.proofs.Common.{◌≡◌, ℕ, suc, true, false, List, [], ◌∷◌, ◌++◌, refl, sym, ap, ◌∙◌}
use Rattle.std.specs.Prelude.{◌==◌, Err}
use Rattle.std.proofs.lemmas.List.{append-nil}
use Rattle.mb_spelling.specs.Spelling.{Reading, Read, Short, Wrong, Spelling, mapped, followed}
use Rattle.mb_spelling.specs.Lists.{read_times, Going, read_mark, read_until}
use Rattle.mb_spelling.specs.Reads.{Place, Reads, lines_to, starts_with}
use Rattle.mb_spelling.specs.declared.stop.Stop.{Stop}
use Rattle.mb_spelling.specs.declared.stop.Stop.TheVariants as stop
use Rattle.mb_spelling.proofs.Steps.{before_more, times_value, times_short, times_wrong, until_value, until_valued, until_empty, until_shut, until_marked}

none_before : {A : Type 0} (r : Reading (List A)) → mapped (λ later. [] ++ later) r ≡ r
none_before (Read later rest) = refl
none_before Short = refl
none_before (Wrong rest) = refl

-- ---- so many

-- What the rest reads from here, behind the values so far, is what the whole reads from the start.
pub record TimesGoing {A S : Type 0} (item : ℕ → S → Spelling A) (next : S → A → S) (start here : Place) (count : ℕ) (first : S) (left : ℕ) (s : S)
    (values : List A) : Type 0 where
  pub same : mapped (λ later. values ++ later) (read_times item next left s here.left) ≡ read_times item next count first start.left
  pub passed : lines_to here ≡ lines_to start

pub times_begun : {A S : Type 0} (item : ℕ → S → Spelling A) (next : S → A → S) (start here : Place) (count : ℕ) (first : S) (values : List A)
    → here ≡ start → values ≡ [] → TimesGoing item next start here count first count first values
times_begun item next start here count first values at_start none =
    rw (at_start, none) (record { same = none_before (read_times item next count first start.left); passed = refl })

pub times_on : {A S : Type 0} (item : ℕ → S → Spelling A) (next : S → A → S) (start here new : Place) (count : ℕ) (first : S) (left more : ℕ) (s : S)
    (values items : List A) (a : A)
    → TimesGoing item next start here count first left s values → left ≡ suc more → (item more s).read here.left ≡ Read a new.left
    → lines_to new ≡ lines_to here
    → items ≡ values ++ a ∷ [] → TimesGoing item next start new count first more (next s a) items
times_on item next start here new count first left more s values items a going one read passed pushed =
    let step = ap (λ (k : ℕ). read_times item next k s here.left) one ∙ times_value item next more s here.left new.left a read in
    record {
      same =
          ap (λ (l : List _). mapped (λ later. l ++ later) (read_times item next more (next s a) new.left)) pushed
          ∙ (sym (before_more values a (read_times item next more (next s a) new.left))
          ∙ (ap (mapped (λ later. values ++ later)) (sym step) ∙ going.same));
      passed = passed ∙ going.passed;
    }

-- an answer that is handed on
pub times_stopped : {A S X Y : Type 0} (item : ℕ → S → Spelling A) (next : S → A → S) (start here : Place) (count : ℕ) (first : S) (left more : ℕ) (s : S)
    (values : List A)
    (view : X → A) (whole : Y → List A) (why : Stop) (rest : List ℕ) → TimesGoing item next start here count first left s values → left ≡ suc more
    → Reads {X = X} view (Err why) rest ((item more s).read here.left) → Reads {X = Y} whole (Err why) rest (read_times item next count first start.left)
times_stopped item next start here count first left more s values view whole stop.Short rest going one e =
    sym going.same
    ∙ ap (mapped (λ later. values ++ later)) (ap (λ (k : ℕ). read_times item next k s here.left) one ∙ times_short item next more s here.left e)
times_stopped item next start here count first left more s values view whole stop.Wrong rest going one e =
    sym going.same
    ∙ ap (mapped (λ later. values ++ later)) (ap (λ (k : ℕ). read_times item next k s here.left) one ∙ times_wrong item next more s here.left rest e)

pub times_done : {A S : Type 0} (item : ℕ → S → Spelling A) (next : S → A → S) (start here : Place) (count : ℕ) (first : S) (left : ℕ) (s : S) (values : List A)
    → TimesGoing item next start here count first left s values → left ≡ 0 → read_times item next count first start.left ≡ Read values here.left
times_done item next start here count first left s values going none =
    sym going.same
    ∙ (ap (λ (k : ℕ). mapped (λ later. values ++ later) (read_times item next k s here.left)) none
    ∙ ap (λ (l : List _). Read l here.left) (append-nil values))

-- ---- up to a mark

-- The mark is told by its first character, and the end of the text is read as no value.
pub record IsMarked {A S : Type 0} (g : Going A S) (mark : ℕ) : Type 0 where
  pub told : (c : ℕ) → g.test c ≡ (c == mark)
  pub ends : (s : S) → (g.item s).read [] ≡ Short

pub record UntilGoing {A S : Type 0} (g : Going A S) (start here : Place) (count : ℕ) (first : S) (most : ℕ) (s : S) (values : List A) : Type 0 where
  pub same : mapped (λ later. values ++ later) (read_until g most s here.left) ≡ read_until g count first start.left
  pub passed : lines_to here ≡ lines_to start

pub until_begun : {A S : Type 0} (g : Going A S) (start here : Place) (count : ℕ) (first : S) (values : List A)
    → here ≡ start → values ≡ [] → UntilGoing g start here count first count first values
until_begun g start here count first values at_start none =
    rw (at_start, none) (record { same = none_before (read_until g count first start.left); passed = refl })

-- a value that was read where the mark is not
value_read : {A S : Type 0} (g : Going A S) (mark : ℕ) (most : ℕ) (s : S) (text left : List ℕ) (a : A) → IsMarked g mark → g.going s ≡ true
    → starts_with mark text ≡ false → (g.item s).read text ≡ Read a left
    → read_until g (suc most) s text ≡ mapped (λ later. a ∷ later) (read_until g most (g.next s a) left)
value_read g mark most s [] left a marked going apart e =
    absurd (let contrary : Short ≡ Read a left = sym (marked.ends s) ∙ e in cc)
value_read g mark most s (c ∷ text) left a marked going apart e =
    until_value g most s c text left a going (marked.told c ∙ apart) e

pub until_on : {A S : Type 0} (g : Going A S) (mark : ℕ) (start here new : Place) (count : ℕ) (first : S) (most more : ℕ) (s : S) (values items : List A)
    (a : A)
    → IsMarked g mark → UntilGoing g start here count first most s values → most ≡ suc more → g.going s ≡ true → starts_with mark here.left ≡ false
    → (g.item s).read here.left ≡ Read a new.left → lines_to new ≡ lines_to here → items ≡ values ++ a ∷ []
    → UntilGoing g start new count first more (g.next s a) items
until_on g mark start here new count first most more s values items a marked going one goes apart read passed pushed =
    let step =
    ap (λ (k : ℕ). read_until g k s here.left) one ∙ value_read g mark more s here.left new.left a marked goes apart read in
    record {
      same =
          ap (λ (l : List _). mapped (λ later. l ++ later) (read_until g more (g.next s a) new.left)) pushed
          ∙ (sym (before_more values a (read_until g more (g.next s a) new.left))
          ∙ (ap (mapped (λ later. values ++ later)) (sym step) ∙ going.same));
      passed = passed ∙ going.passed;
    }

value_short : {A S : Type 0} (g : Going A S) (mark : ℕ) (most : ℕ) (s : S) (text : List ℕ) → IsMarked g mark → g.going s ≡ true
    → starts_with mark text ≡ false → (g.item s).read text ≡ Short → read_until g (suc most) s text ≡ Short
value_short g mark most s [] marked going apart e = until_empty g most s going
value_short {A = A} g mark most s (c ∷ text) marked going apart e =
    until_valued g most s c text going (marked.told c ∙ apart)
    ∙ ap (λ (x : Reading A). mapped (λ (v : A × List A). v.0 ∷ v.1) (followed x (λ a rest. read_until g most (g.next s a) rest))) e

short_apart : {A : Type 0} (left : List ℕ) (r : Reading A) → r ≡ Short → r ≡ Wrong left → ⊥
short_apart left Short e f = let contrary : Wrong left ≡ Short = sym f ∙ e in cc
short_apart left (Read a rest) e f = cc
short_apart left (Wrong rest) e f = cc

value_wrong : {A S : Type 0} (g : Going A S) (mark : ℕ) (most : ℕ) (s : S) (text left : List ℕ) → IsMarked g mark → g.going s ≡ true
    → starts_with mark text ≡ false → (g.item s).read text ≡ Wrong left → read_until g (suc most) s text ≡ Wrong left
value_wrong g mark most s [] left marked going apart e =
    absurd (short_apart left ((g.item s).read []) (marked.ends s) e)
value_wrong {A = A} g mark most s (c ∷ text) left marked going apart e =
    until_valued g most s c text going (marked.told c ∙ apart)
    ∙ ap (λ (x : Reading A). mapped (λ (v : A × List A). v.0 ∷ v.1) (followed x (λ a rest. read_until g most (g.next s a) rest))) e

pub until_stopped : {A S X Y : Type 0} (g : Going A S) (mark : ℕ) (start here : Place) (count : ℕ) (first : S) (most more : ℕ) (s : S) (values : List A)
    (view : X → A) (whole : Y → List A) (why : Stop) (rest : List ℕ) → IsMarked g mark → UntilGoing g start here count first most s values → most ≡ suc more
    → g.going s ≡ true → starts_with mark here.left ≡ false → Reads {X = X} view (Err why) rest ((g.item s).read here.left)
    → Reads {X = Y} whole (Err why) rest (read_until g count first start.left)
until_stopped g mark start here count first most more s values view whole stop.Short rest marked going one goes apart e =
    sym going.same
    ∙ ap (mapped (λ later. values ++ later)) (ap (λ (k : ℕ). read_until g k s here.left) one ∙ value_short g mark more s here.left marked goes apart e)
until_stopped g mark start here count first most more s values view whole stop.Wrong rest marked going one goes apart e =
    sym going.same
    ∙ ap (mapped (λ later. values ++ later)) (ap (λ (k : ℕ). read_until g k s here.left) one ∙ value_wrong g mark more s here.left rest marked goes apart e)

-- ---- the mark

mark_begun : {A S : Type 0} (g : Going A S) (mark : ℕ) (most : ℕ) (s : S) (text : List ℕ) → IsMarked g mark → g.going s ≡ true → starts_with mark text ≡ true
    → read_until g (suc most) s text ≡ read_mark g.mark text
mark_begun g mark most s [] marked going here = absurd (let contrary : false ≡ true = here in cc)
mark_begun g mark most s (c ∷ text) marked going here = until_marked g most s c text going (marked.told c ∙ here)

-- no value is to come: the list is full, or nothing may come, or the mark is there
pub data AtMark {A S : Type 0} (g : Going A S) (mark : ℕ) (most : ℕ) (s : S) (text : List ℕ) : Type 0 where
  full : most ≡ 0 → AtMark g mark most s text
  shut : (more : ℕ) → most ≡ suc more → g.going s ≡ false → AtMark g mark most s text
  there : (more : ℕ) → most ≡ suc more → g.going s ≡ true → starts_with mark text ≡ true → AtMark g mark most s text

pub marked_read : {A S : Type 0} (g : Going A S) (mark : ℕ) (most : ℕ) (s : S) (text : List ℕ) → IsMarked g mark → AtMark g mark most s text
    → read_until g most s text ≡ read_mark g.mark text
marked_read g mark most s text marked (full none) = ap (λ (k : ℕ). read_until g k s text) none
marked_read g mark most s text marked (shut more one e) = ap (λ (k : ℕ). read_until g k s text) one ∙ until_shut g more s text e
marked_read g mark most s text marked (there more one e at) = ap (λ (k : ℕ). read_until g k s text) one ∙ mark_begun g mark more s text marked e at

-- the mark is read, or the answer is handed on
pub until_done : {A S : Type 0} (g : Going A S) (start here new : Place) (count : ℕ) (first : S) (most : ℕ) (s : S) (values : List A)
    → UntilGoing g start here count first most s values → read_until g most s here.left ≡ read_mark g.mark here.left
    → read_mark {A = A} g.mark here.left ≡ Read [] new.left → read_until g count first start.left ≡ Read values new.left
until_done g start here new count first most s values going at_mark e =
    sym going.same
    ∙ (ap (mapped (λ later. values ++ later)) (at_mark ∙ e) ∙ ap (λ (l : List _). Read l new.left) (append-nil values))
