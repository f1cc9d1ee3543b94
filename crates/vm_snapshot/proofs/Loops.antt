-- Lists that are read in a loop: where a value stops them, the whole list stops.
use Rattle.std.proofs.Common.{◌≡◌, ℕ, suc, ◌+◌, ◌-◌, ◌<◌, ◌≤◌, true, false, List, [], ◌∷◌, ◌++◌, length, sym, ap, ◌∙◌, arith}
use Rattle.std.proofs.lemmas.List.{length_push}
use Rattle.mb_spelling.specs.Spelling.{Spelling, mapped, read_word}
use Rattle.mb_spelling.specs.Lists.{Going, read_mark, read_times, read_until}
use Rattle.mb_spelling.specs.Reads.{Place, starts_with}
use Rattle.mb_spelling.specs.declared.stop.Stop.TheVariants as stop
use Rattle.mb_spelling.proofs.Loops.{IsMarked, TimesGoing, UntilGoing, times_stopped, until_stopped}
use Rattle.vm_snapshot.proofs.Handed.{StopsWith}

pub one_less : (most : ℕ) → 0 < most → most ≡ suc (most - 1)
one_less most some = omega arith

pub times_stops : {A S : Type 0} (item : ℕ → S → Spelling A) (next : S → A → S) (start here : Place) (count : ℕ) (first : S) (left more : ℕ) (s : S)
    (values : List A)
    → TimesGoing item next start here count first left s values → left ≡ suc more
    → StopsWith ((item more s).read here.left) (read_times item next count first start.left)
times_stops {A = A} item next start here count first left more s values going one = record {
  short = λ e. times_stopped {X = A} {Y = List A} item next start here count first left more s values (λ a. a) (λ l. l) stop.Short [] going one e;
  wrong = λ rest e. times_stopped {X = A} {Y = List A} item next start here count first left more s values (λ a. a) (λ l. l) stop.Wrong rest going one e;
}

pub until_stops : {A S : Type 0} (g : Going A S) (mark : ℕ) (start here : Place) (count : ℕ) (first : S) (most more : ℕ) (s : S) (values : List A)
    → IsMarked g mark → UntilGoing g start here count first most s values → most ≡ suc more → g.going s ≡ true → starts_with mark here.left ≡ false
    → StopsWith ((g.item s).read here.left) (read_until g count first start.left)
until_stops {A = A} g mark start here count first most more s values marked going one goes apart = record {
  short = λ e.
      until_stopped {X = A} {Y = List A} g mark start here count first most more s values (λ a. a) (λ l. l) stop.Short [] marked going one goes apart e;
  wrong = λ rest e.
      until_stopped {X = A} {Y = List A} g mark start here count first most more s values (λ a. a) (λ l. l) stop.Wrong rest marked going one goes apart e;
}

-- a mark that is not read
pub mark_stops : {A S : Type 0} (g : Going A S) (start here : Place) (count : ℕ) (first : S) (most : ℕ) (s : S) (values : List A)
    → UntilGoing g start here count first most s values → read_until g most s here.left ≡ read_mark g.mark here.left
    → StopsWith (read_word g.mark here.left) (read_until g count first start.left)
mark_stops g start here count first most s values going at_mark = record {
  short = λ e. sym going.same ∙ ap (mapped (λ later. values ++ later)) (at_mark ∙ ap (mapped (λ v. [])) e);
  wrong = λ rest e. sym going.same ∙ ap (mapped (λ later. values ++ later)) (at_mark ∙ ap (mapped (λ v. [])) e);
}

-- ---- how many values there are

pub pushed_count : {A : Type 0} (old new : List A) (a : A) (left whole : ℕ) → length old + left ≡ whole → 0 < left → new ≡ old ++ a ∷ []
    → length new + (left - 1) ≡ whole
pushed_count old new a left whole all some pushed = let one : length new ≡ length old + 1 = ap length pushed ∙ length_push old a in omega (arith, one)

pub pushed_few : {A : Type 0} (old new : List A) (a : A) (left whole : ℕ) → length old + left ≤ whole → 0 < left → new ≡ old ++ a ∷ []
    → length new + (left - 1) ≤ whole
pushed_few old new a left whole few some pushed = let one : length new ≡ length old + 1 = ap length pushed ∙ length_push old a in omega (arith, one)
