-- Lawful lines of input are the lines of scripts.
use Rattle.std.proofs.Common.{◌≡◌, ℕ, zero, suc, ◌+◌, ◌-◌, ◌≤◌, ◌%◌, max, eqb, Bool, true, false, List, [], ◌∷◌, length, refl, sym, ap, subst, ◌∙◌, arith}
use Rattle.std.specs.List.{AllByRecursion}
use Rattle.std.proofs.lemmas.Bool.{and_from, and_parts, leb-true, le-leb, eq-eqb, eqb-true}
use Rattle.std.proofs.lemmas.List.{length-append, length-map}
use Rattle.mb_spelling.specs.Lists.{LawfulUntil, LawfulTimes}
use Rattle.vm_snapshot.specs.Inputs.{MOST, Due, Bytes, Abort, InputLine, entries_in, are_bytes, SoFar, at_first, behind_line, byte, pairs, some_pairs, LawfulDue, due_of, only_abort, input_line, room_of, inputs}
use Rattle.vm_snapshot.specs.Runs.{entry_of, due_entries, entries_of, HasBytes, PartedDue, PartedFrom, AreRuns}
use Rattle.vm_snapshot.specs.Scripts.{InOrder, FitDue, FitLines, IsInput, InputsAreScripts}
use Rattle.vm_snapshot.proofs.Inputs.{Good, good_next}

-- lines behind what came so far
abbrev Lawful : (n : ℕ) → SoFar → List InputLine → Type 0
Lawful n s lines = LawfulTimes (λ left s. input_line (room_of left s) s) behind_line n s lines

-- the first line has no bytes where the line before had some, at the same step
abbrev After : SoFar → List InputLine → Type 0
After s [] = Unit {0}
After s (line ∷ lines) = s.bytes ≡ true → are_bytes line.due ≡ true → line.step ≡ s.last → ⊥

record Facts (s : SoFar) (lines : List InputLine) : Type 0 where
  runs : AreRuns lines
  apart : After s lines
  order : InOrder s.last lines
  few : s.total + length (entries_of lines) ≤ MOST
  fit : FitLines lines

-- ---- what is due

some_bytes : (room : ℕ) (bytes : List ℕ) → (some_pairs room).IsLawful bytes → HasBytes (Bytes bytes)
some_bytes room [] l = absurd l
some_bytes room (b ∷ bytes) l = tt

due_has : (room : ℕ) (due : Due) → LawfulDue room due → HasBytes due
due_has room (Bytes bytes) l = some_bytes room bytes l
due_has room Abort l = tt

of_has : (room : ℕ) (alone : Bool) (due : Due) → (due_of room alone).IsLawful due → HasBytes due
of_has room true due l = subst HasBytes l tt
of_has room false due l = due_has room due l

until_fit : (most : ℕ) (bytes : List ℕ) → LawfulUntil pairs most tt bytes → AllByRecursion byte.IsLawful bytes
until_fit most [] l = tt
until_fit zero (b ∷ bytes) l = absurd l
until_fit (suc most) (b ∷ bytes) l = (l.1, until_fit most bytes l.2)

some_fit : (room : ℕ) (bytes : List ℕ) → (some_pairs room).IsLawful bytes → AllByRecursion byte.IsLawful bytes
some_fit room [] l = tt
some_fit room (b ∷ bytes) l = (l.0, until_fit (room - 1) bytes l.1)

due_fit : (room : ℕ) (due : Due) → LawfulDue room due → FitDue due
due_fit room (Bytes bytes) l = some_fit room bytes l
due_fit room Abort l = tt

of_fit : (room : ℕ) (alone : Bool) (due : Due) → (due_of room alone).IsLawful due → FitDue due
of_fit room true due l = subst FitDue l tt
of_fit room false due l = due_fit room due l

-- where only an abort may stand there are no bytes
of_alone : (room : ℕ) (alone : Bool) (due : Due) → alone ≡ true → (due_of room alone).IsLawful due → are_bytes due ≡ true → ⊥
of_alone room true due e l bytes = let contrary : false ≡ true = ap are_bytes l ∙ bytes in cc
of_alone room false due e l bytes = let contrary : false ≡ true = e in cc

until_from : (most : ℕ) (bytes : List ℕ) → length bytes ≤ most → AllByRecursion byte.IsLawful bytes → LawfulUntil pairs most tt bytes
until_from most [] few fit = tt
until_from zero (b ∷ bytes) few fit = absurd (omega arith)
until_from (suc most) (b ∷ bytes) few fit = (refl, fit.0, until_from most bytes (omega arith) fit.1)

some_from : (room : ℕ) (bytes : List ℕ) → length bytes ≤ room → HasBytes (Bytes bytes) → AllByRecursion byte.IsLawful bytes → (some_pairs room).IsLawful bytes
some_from room [] few some fit = absurd some
some_from room (b ∷ bytes) few some fit = (fit.0, until_from (room - 1) bytes (omega arith) fit.1)

due_from : (room : ℕ) (due : Due) → entries_in due ≤ room → HasBytes due → FitDue due → LawfulDue room due
due_from room (Bytes bytes) few some fit = some_from room bytes few some fit
due_from room Abort few some fit = tt

abort_alone : (due : Due) → (are_bytes due ≡ true → ⊥) → Abort ≡ due
abort_alone Abort none = refl
abort_alone (Bytes bytes) none = absurd (none refl)

of_from : (room : ℕ) (alone : Bool) (due : Due) → (alone ≡ true → are_bytes due ≡ true → ⊥) → entries_in due ≤ room → HasBytes due → FitDue due
    → (due_of room alone).IsLawful due
of_from room true due none few some fit = abort_alone due (none refl)
of_from room false due none few some fit = due_from room due few some fit

-- ---- counts

due_count : (step : ℕ) (due : Due) → length (due_entries step due) ≡ entries_in due
due_count step (Bytes bytes) = length-map bytes (entry_of step)
due_count step Abort = refl

line_count : (line : InputLine) (lines : List InputLine) → length (entries_of (line ∷ lines)) ≡ entries_in line.due + length (entries_of lines)
line_count line lines =
    length-append (due_entries line.step line.due) (entries_of lines) ∙ ap (λ (n : ℕ). n + length (entries_of lines)) (due_count line.step line.due)

has_entries : (due : Due) → HasBytes due → 1 ≤ entries_in due
has_entries (Bytes []) some = absurd some
has_entries (Bytes (b ∷ bytes)) some = omega arith
has_entries Abort some = omega arith

-- each line has an entry
lines_few : (lines : List InputLine) → AreRuns lines → length lines ≤ length (entries_of lines)
lines_few [] h = omega arith
lines_few (line ∷ lines) h =
    let some = has_entries line.due h.0 in
    let later = lines_few lines h.2 in
    omega (arith, line_count line lines)

-- ---- from lines to scripts

parted_due : (step : ℕ) (due : Due) (at : ℕ) (other : Due) → (are_bytes due ≡ true → are_bytes other ≡ true → at ≡ step → ⊥) → PartedDue step due at other
parted_due step (Bytes bytes) at (Bytes others) h = λ e. h refl refl (sym e)
parted_due step (Bytes bytes) at Abort h = tt
parted_due step Abort at other h = tt

parted : (s : SoFar) (line : InputLine) (lines : List InputLine) → After (behind_line s line) lines → PartedFrom line lines
parted s line [] h = tt
parted s line (other ∷ lines) h = parted_due line.step line.due other.step other.due h

forward : (lines : List InputLine) (s : SoFar) → Good (length lines) s → Lawful (length lines) s lines → Facts s lines
forward [] s good l = record { runs = tt; apart = tt; order = tt; few = omega (arith, good.room); fit = tt }
forward (line ∷ lines) s good l =
    let room = room_of (length lines) s in
    let alone = only_abort s line.step in
    let later = forward lines (behind_line s line) (good_next (length lines) s line good l.0) l.1 in
    let steps = and_parts _ _ (and_parts _ _ l.0.0).0 in
    record {
      runs = (of_has room alone line.due l.0.1, parted s line lines later.apart, later.runs);
      apart = λ bytes due same. of_alone room alone line.due (and_from _ _ (eq-eqb line.step s.last same) bytes) l.0.1 due;
      order = (leb-true (max 1 s.last) line.step steps.0, leb-true line.step MOST steps.1, later.order);
      few = omega (arith, line_count line lines, later.few);
      fit = (of_fit room alone line.due l.0.1, later.fit);
    }

-- ---- and back

due_parted : (step : ℕ) (due : Due) (at : ℕ) (other : Due) → PartedDue step due at other → are_bytes due ≡ true → are_bytes other ≡ true → at ≡ step → ⊥
due_parted step (Bytes bytes) at (Bytes others) h a b e = h (sym e)
due_parted step (Bytes bytes) at Abort h a b e = let contrary : false ≡ true = b in cc
due_parted step Abort at other h a b e = let contrary : false ≡ true = a in cc

after : (s : SoFar) (line : InputLine) (lines : List InputLine) → PartedFrom line lines → After (behind_line s line) lines
after s line [] h = tt
after s line (other ∷ lines) h = due_parted line.step line.due other.step other.due h

backward : (lines : List InputLine) (s : SoFar) → Facts s lines → Lawful (length lines) s lines
backward [] s f = tt
backward (line ∷ lines) s f =
    let count = line_count line lines in
    let more = lines_few lines (f.runs.2) in
    let low : max 1 s.last ≤ line.step = f.order.0 in
    let high : line.step ≤ MOST = f.order.1 in
    let room : entries_in line.due ≤ room_of (length lines) s = omega (arith, count, more, f.few) in (
      (
        and_from _ _ (and_from _ _ (le-leb (max 1 s.last) line.step low) (le-leb line.step MOST high))
            (let e : line.step % 1 ≡ 0 = omega arith in eq-eqb (line.step % 1) 0 e),
        of_from (room_of (length lines) s) (only_abort s line.step) line.due
            (λ alone bytes. let parts = and_parts (eqb line.step s.last) s.bytes alone in f.apart parts.1 bytes (eqb-true line.step s.last parts.0))
            room (f.runs.0) (f.fit.0),
      ),
      backward lines (behind_line s line) (record {
        runs = f.runs.2;
        apart = after s line lines (f.runs.1);
        order = f.order.2;
        few = omega (arith, count, f.few);
        fit = f.fit.1;
      }),
    )

unlike : (lines : List InputLine) → After at_first lines
unlike [] = tt
unlike (line ∷ lines) = λ e. absurd (let contrary : false ≡ true = e in cc)

input_to : (lines : List InputLine) → inputs.IsLawful lines → IsInput lines
input_to lines l =
    let few : length lines ≤ MOST = leb-true (length lines) MOST (and_parts _ _ (and_parts _ _ l.0).0).1 in
    let f = forward lines at_first (record { room = omega arith; last = omega arith }) l.1 in
    record { runs = f.runs; order = f.order; few = omega (arith, f.few); fit = f.fit }

input_back : (lines : List InputLine) → IsInput lines → inputs.IsLawful lines
input_back lines h =
    let few = lines_few lines h.runs in
    let short : length lines ≤ MOST = omega (arith, h.few) in (
      and_from _ _ (and_from _ _ (le-leb 0 (length lines) (omega arith)) (le-leb (length lines) MOST short))
          (let e : length lines % 1 ≡ 0 = omega arith in eq-eqb (length lines % 1) 0 e),
      backward lines at_first (record { runs = h.runs; apart = unlike lines; order = h.order; few = omega (arith, h.few); fit = h.fit }),
    )

pub inputs_are_scripts : InputsAreScripts
inputs_are_scripts lines = (input_to lines, input_back lines)
