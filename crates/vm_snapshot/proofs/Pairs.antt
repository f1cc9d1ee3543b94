-- Bytes of a line of input, behind those that were read before.
use Rattle.std.proofs.Common.{◌≡◌, ℕ, ◌-◌, ◌<◌, false, List, [], ◌∷◌, ◌++◌, refl, sym, ap, ◌∙◌, append_assoc}
use Rattle.std.proofs.lemmas.List.{append-nil}
use Rattle.mb_spelling.specs.Spelling.{Read, mapped, read_word}
use Rattle.mb_spelling.specs.Lists.{read_until}
use Rattle.mb_spelling.specs.Reads.{Place, lines_to, starts_with}
use Rattle.mb_spelling.proofs.Loops.{AtMark, UntilGoing, marked_read, until_begun, until_done, until_on}
use Rattle.vm_snapshot.specs.Inputs.{byte, pairs}
use Rattle.vm_snapshot.proofs.Readings.{as_mapped}
use Rattle.vm_snapshot.proofs.Handed.{StopsWith, stops_on}
use Rattle.vm_snapshot.proofs.Loops.{mark_stops, one_less, until_stops}
use Rattle.vm_snapshot.proofs.Marks.{pair_marked}

pub record MoreBytes (start here : Place) (before items : List ℕ) (most more : ℕ) : Type 0 where
  values : List ℕ
  all : items ≡ before ++ values
  going : UntilGoing pairs start here most tt more tt values

pub more_begun : (start here : Place) (before items : List ℕ) (most : ℕ) → here ≡ start → items ≡ before → MoreBytes start here before items most most
more_begun start here before items most at_start same =
    record { values = []; all = same ∙ sym (append-nil before); going = until_begun pairs start here most tt [] at_start refl }

pub more_on : {start here : Place} (new : Place) {before items : List ℕ} (later : List ℕ) {most more : ℕ} (b : ℕ) → MoreBytes start here before items most more
    → 0 < more → starts_with 10 here.left ≡ false → byte.read here.left ≡ Read b new.left → lines_to new ≡ lines_to here → later ≡ items ++ b ∷ []
    → MoreBytes start new before later most (more - 1)
more_on {start} {here} new {before} {items} later {most} {more} b m some apart read passed pushed = record {
  values = m.values ++ b ∷ [];
  all = pushed ∙ (ap (λ (l : List ℕ). l ++ b ∷ []) m.all ∙ append_assoc before m.values (b ∷ []));
  going =
      until_on pairs 10 start here new most tt more (more - 1) tt m.values (m.values ++ b ∷ []) b pair_marked m.going (one_less more some) refl apart read
      passed
      refl;
}

pub more_stops : {start here : Place} {before items : List ℕ} {most more : ℕ} → MoreBytes start here before items most more
    → 0 < more → starts_with 10 here.left ≡ false → StopsWith (byte.read here.left) (mapped (λ later. before ++ later) (read_until pairs most tt start.left))
more_stops {start} {here} {before} {items} {most} {more} m some apart =
    stops_on (until_stops pairs 10 start here most tt more (more - 1) tt m.values pair_marked m.going (one_less more some) refl apart)
    (as_mapped (λ (later : List ℕ). before ++ later) (read_until pairs most tt start.left))

pub end_stops : {start here : Place} {before items : List ℕ} {most more : ℕ} → MoreBytes start here before items most more
    → AtMark pairs 10 more tt here.left → StopsWith (read_word (10 ∷ []) here.left) (mapped (λ later. before ++ later) (read_until pairs most tt start.left))
end_stops {start} {here} {before} {items} {most} {more} m at =
    stops_on (mark_stops pairs start here most tt more tt m.values m.going (marked_read pairs 10 more tt here.left pair_marked at))
    (as_mapped (λ (later : List ℕ). before ++ later) (read_until pairs most tt start.left))

pub more_done : {start here : Place} (new : Place) {before items : List ℕ} {most more : ℕ} → MoreBytes start here before items most more
    → AtMark pairs 10 more tt here.left → read_word (10 ∷ []) here.left ≡ Read tt new.left
    → mapped (λ later. before ++ later) (read_until pairs most tt start.left) ≡ Read items new.left
more_done {start} {here} new {before} {items} {most} {more} m at read =
    ap (mapped (λ (later : List ℕ). before ++ later))
    (until_done pairs start here new most tt more tt m.values m.going (marked_read pairs 10 more tt here.left pair_marked at) (ap (mapped (λ v. [])) read))
    ∙ ap (λ (l : List ℕ). Read l new.left) (sym m.all)
