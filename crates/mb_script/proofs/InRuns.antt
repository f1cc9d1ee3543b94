-- Entries in runs.
use Rattle.std.proofs.Common.{◌≡◌, ◌∙◌, ℕ, zero, suc, ◌+◌, ◌*◌, ◌/◌, ◌<◌, ◌≤◌, Bool, true, false, List, [], ◌∷◌, ◌++◌, length, map, take, drop, get_or, Some, None, inl, inr, refl, sym, ap, subst, arith, drop-cons, add-one, append_assoc}
use Rattle.std.specs.Prelude.{All, if◌then◌else◌, option_map, slice_get}
use Rattle.std.proofs.lemmas.Bool.{cases_lt, le-ltb, lt-ltb}
use Rattle.std.proofs.lemmas.List.{take-append-le, take_all, length-append, get_or_append_left, drop_all}
use Rattle.std.proofs.lemmas.Grind.{get_or_default_zero}
use Rattle.std.proofs.Math.Seq.{get_or-append_seam}
use Rattle.std.proofs.lemmas.List.Elements.{All-push}
use Rattle.mb_script.specs.declared.runs.Run.{Run}
use Rattle.mb_script.specs.declared.runs.Runs.{Runs}
use Rattle.mb_script.specs.Runs.{AreKept, AreStarts, entries_from, entry_by, entry_in, kept, run_at}
use Rattle.mb_script.specs.declared.input.Input.TheVariants.{Byte}
use Rattle.mb_script.specs.Scripts.{at_step, entry_at, typed}
use Rattle.std.proofs.lemmas.Simd.{map-map}

-- ---- the run of a place

here : (place : ℕ) (run : Run) (runs : List Run) → place < run.end → run_at place (run ∷ runs) ≡ run
here place run runs lt = rw (lt-ltb place run.end lt) refl

beyond : (place : ℕ) (run : Run) (runs : List Run) → run.end ≤ place → run_at place (run ∷ runs) ≡ run_at place runs
beyond place run runs le = rw (le-ltb place run.end le) refl

found_if : (b : Bool) (place : ℕ) (run early late : Run) → place < (if b then run else early).end → (place < early.end → late ≡ early)
    → (if b then run else late) ≡ (if b then run else early)
found_if true place run early late lt same = refl
found_if false place run early late lt same = same lt

-- more runs change nothing where one was found
found : (place : ℕ) (runs more : List Run) → place < (run_at place runs).end → run_at place (runs ++ more) ≡ run_at place runs
found place [] more lt = absurd (omega (arith, lt))
found place (run ∷ runs) more lt = found_if _ place run (run_at place runs) (run_at place (runs ++ more)) lt (found place runs more)

-- runs that end before a place are passed over
behind_all : (place : ℕ) (runs more : List Run) → All (λ run. run.end ≤ place) runs → run_at place (runs ++ more) ≡ run_at place more
behind_all place [] more ended = refl
behind_all place (run ∷ runs) more ended =
    beyond place run (runs ++ more) (ended 0 run (omega arith)) ∙ behind_all place runs more (λ k d lt. ended (suc k) d (omega (arith, lt)))

skipped : (place start : ℕ) (runs : List Run) → All (λ run. run.end ≤ place) (take start runs) → run_at place (drop start runs) ≡ run_at place runs
skipped place zero runs ended = refl
skipped place (suc start) [] ended = refl
skipped place (suc start) (run ∷ runs) ended =
    skipped place start runs (λ k d lt. ended (suc k) d (omega (arith, lt))) ∙ sym (beyond place run runs (ended 0 run (omega arith)))

-- where a place is looked for first
pub begun : (place start : ℕ) (runs : Runs) → AreKept runs → place < length runs.bytes.items → start ≡ get_or runs.starts.items (place / 16) start
    → run_at place (drop start runs.runs.items) ≡ run_at place runs.runs.items
begun place start runs kept within is =
    let stretch : place / 16 < length runs.starts.items = omega (arith, kept.served) in
    let same : get_or runs.starts.items (place / 16) 0 ≡ start = sym (is ∙ get_or_default_zero runs.starts.items (place / 16) start stretch) in
    let ended : All (λ run. run.end ≤ 16 * (place / 16)) (take start runs.runs.items) =
    subst (λ n. All (λ run. run.end ≤ 16 * (place / 16)) (take n runs.runs.items)) same (kept.started (place / 16) stretch).1 in
    skipped place start runs.runs.items (λ k d lt. omega (arith, ended k d lt))

-- ---- the entries

append_bytes : (place next : ℕ) (runs : List Run) (bytes more : List ℕ) → next ≡ place + length bytes
    → entries_from place runs (bytes ++ more) ≡ entries_from place runs bytes ++ entries_from next runs more
append_bytes place next runs [] more is = ap (λ n. entries_from n runs more) (let e : place ≡ next = omega (arith, is) in e)
append_bytes place next runs (byte ∷ bytes) more is =
    ap (λ entries. entry_in (run_at place runs) byte ∷ entries) (append_bytes (place + 1) next runs bytes more (omega (arith, is)))

same_runs : (place : ℕ) (runs late : List Run) (bytes : List ℕ) → ((at : ℕ) → at < place + length bytes → run_at at late ≡ run_at at runs)
    → entries_from place late bytes ≡ entries_from place runs bytes
same_runs place runs late [] same = refl
same_runs place runs late (byte ∷ bytes) same =
    ap (λ run. entry_in run byte ∷ entries_from (place + 1) late bytes) (same place (omega arith))
    ∙ ap (λ entries. entry_in (run_at place runs) byte ∷ entries) (same_runs (place + 1) runs late bytes (λ at lt. same at (omega (arith, lt))))

one_run : (place : ℕ) (runs : List Run) (run : Run) (bytes : List ℕ) → ((at : ℕ) → place ≤ at → at < place + length bytes → run_at at runs ≡ run)
    → entries_from place runs bytes ≡ map (entry_in run) bytes
one_run place runs run [] is = refl
one_run place runs run (byte ∷ bytes) is =
    ap (λ run. entry_in run byte ∷ entries_from (place + 1) runs bytes) (is place (omega arith) (omega arith))
    ∙ ap (λ entries. entry_in run byte ∷ entries) (one_run (place + 1) runs run bytes (λ at le lt. is at (omega (arith, le)) (omega (arith, lt))))

counted_from : (place : ℕ) (runs : List Run) (bytes : List ℕ) → length (entries_from place runs bytes) ≡ length bytes
counted_from place runs [] = refl
counted_from place runs (byte ∷ bytes) = ap suc (counted_from (place + 1) runs bytes)

pub counted : (runs : Runs) → length (kept runs) ≡ length runs.bytes.items
counted runs = counted_from 0 runs.runs.items runs.bytes.items

read_from : (place at i : ℕ) (runs : List Run) (bytes : List ℕ) → at ≡ place + i
    → slice_get (entries_from place runs bytes) i ≡ option_map (entry_in (run_at at runs)) (slice_get bytes i)
read_from place at i runs [] is = refl
read_from place at zero runs (byte ∷ bytes) is = ap (λ n. Some (entry_in (run_at n runs) byte)) (let e : place ≡ at = omega (arith, is) in e)
read_from place at (suc i) runs (byte ∷ bytes) is = read_from (place + 1) at i runs bytes (omega (arith, is))

pub entry_found : (place byte : ℕ) (runs : List Run) (bytes : List ℕ) → slice_get bytes place ≡ Some byte
    → Some (entry_in (run_at place runs) byte) ≡ slice_get (entries_from 0 runs bytes) place
entry_found place byte runs bytes is = sym (read_from 0 place place runs bytes (omega arith) ∙ ap (option_map (entry_in (run_at place runs))) is)

pub entry_missed : (place : ℕ) (runs : List Run) (bytes : List ℕ) → slice_get bytes place ≡ None → None ≡ slice_get (entries_from 0 runs bytes) place
entry_missed place runs bytes is = sym (read_from 0 place place runs bytes (omega arith) ∙ ap (option_map (entry_in (run_at place runs))) is)

-- ---- one more run

pub entries_pushed : (runs : Runs) (run : Run) (more : List ℕ) → AreKept runs → run.end ≡ length runs.bytes.items + length more
    → entries_from 0 (runs.runs.items ++ run ∷ []) (runs.bytes.items ++ more) ≡ kept runs ++ map (entry_in run) more
entries_pushed runs run more is end =
    append_bytes 0 (length runs.bytes.items) (runs.runs.items ++ run ∷ []) runs.bytes.items more (omega arith)
    ∙ ap (λ entries. entries ++ entries_from (length runs.bytes.items) (runs.runs.items ++ run ∷ []) more)
    (same_runs 0 runs.runs.items (runs.runs.items ++ run ∷ []) runs.bytes.items
    (λ at lt. found at runs.runs.items (run ∷ []) (is.covered at (omega (arith, lt)))))
    ∙ ap (λ entries. kept runs ++ entries)
    (one_run (length runs.bytes.items) (runs.runs.items ++ run ∷ []) run more
    (λ at le lt. behind_all at runs.runs.items (run ∷ []) (λ k d w. omega (arith, is.ended k d w, le)) ∙ here at run [] (omega (arith, end, lt))))

covered_pushed : (runs : Runs) (run : Run) (place : ℕ) → AreKept runs → length runs.bytes.items ≤ run.end → place < run.end
    → place < (run_at place (runs.runs.items ++ run ∷ [])).end
covered_pushed runs run place is le lt = elim (cases_lt place (length runs.bytes.items)) [
  | inl w ↦ rw (found place runs.runs.items (run ∷ []) (is.covered place w)) (is.covered place w)
  | inr w ↦ rw (behind_all place runs.runs.items (run ∷ []) (λ k d v. omega (arith, is.ended k d v, w)) ∙ here place run [] lt) lt
]

started_pushed : (runs : List Run) (starts : List ℕ) (run : Run) → AreStarts runs starts → AreStarts (runs ++ run ∷ []) starts
started_pushed runs starts run are = λ stretch lt.
    let is = are stretch lt in (
      omega (arith, is.0, length-append runs (run ∷ [])),
      subst (All (λ run. run.end ≤ 16 * stretch)) (sym (take-append-le (get_or starts stretch 0) runs (run ∷ []) is.0)) is.1,
    )

pub pushed : (runs new : Runs) (run : Run) (more : List ℕ) → AreKept runs → run.end ≡ length runs.bytes.items + length more
    → new.bytes.items ≡ runs.bytes.items ++ more → new.runs.items ≡ runs.runs.items ++ run ∷ [] → AreStarts runs.runs.items new.starts.items
    → run.end ≤ 16 * length new.starts.items → AreKept new
pushed runs new run more is end bytes added started served =
    let count : length new.bytes.items ≡ run.end = ap length bytes ∙ length-append runs.bytes.items more ∙ sym end in
    record {
      ended = rw (added, count) (All-push (λ (one : Run). one.end ≤ run.end) runs.runs.items run (λ k d lt. omega (arith, is.ended k d lt, end)) (omega arith));
      covered = λ place lt. rw added (covered_pushed runs run place is (omega (arith, end)) (omega (arith, lt, count)));
      started = rw added (started_pushed runs.runs.items new.starts.items run started);
      served = omega (arith, count, served);
    }

-- ---- one more start

pub start_pushed : (runs : List Run) (starts : List ℕ) → AreStarts runs starts → All (λ run. run.end ≤ 16 * length starts) runs
    → AreStarts runs (starts ++ length runs ∷ [])
start_pushed runs starts are ended = λ stretch lt. elim (cases_lt stretch (length starts)) [
  | inl w ↦ rw (get_or_append_left starts (length runs ∷ []) 0 stretch w) (are stretch w)
  | inr w ↦
      let last : stretch ≡ length starts = omega (arith, w, lt, length-append starts (length runs ∷ [])) in
      rw (last, get_or-append_seam starts (length runs) [] 0) (omega arith, rw (take_all (length runs) runs (omega arith)) ended)
]

-- ---- the look for a run

-- one is found before the runs end
pub inside : (place at : ℕ) (runs : Runs) → AreKept runs → place < length runs.bytes.items
    → run_at place (drop at runs.runs.items) ≡ run_at place runs.runs.items → at < length runs.runs.items
inside place at runs is within same = elim (cases_lt at (length runs.runs.items)) [
  | inl w ↦ w
  | inr w ↦
      let none : run_at place [] ≡ run_at place runs.runs.items = ap (run_at place) (sym (drop_all at runs.runs.items w)) ∙ same in
      let over : place < 0 = subst (λ (run : Run). place < run.end) (sym none) (is.covered place within) in
      absurd (omega (arith, over))
]

first : (at : ℕ) (runs : List Run) (run : Run) → at < length runs → run ≡ get_or runs at run → drop at runs ≡ run ∷ drop (suc at) runs
first at runs run within is = drop-cons runs at run within ∙ ap (λ (r : Run). r ∷ drop (suc at) runs) (sym is)

pub passed_over : (place at : ℕ) (runs : List Run) (run : Run) → at < length runs → run ≡ get_or runs at run → run.end ≤ place
    → run_at place (drop (at + 1) runs) ≡ run_at place (drop at runs)
passed_over place at runs run within is le =
    rw (first at runs run within is, add-one) (sym (beyond place run (drop (suc at) runs) le))

pub reached : (place at : ℕ) (runs : List Run) (run : Run) → at < length runs → run ≡ get_or runs at run → place < run.end
    → run_at place (drop at runs) ≡ run
reached place at runs run within is lt = rw (first at runs run within is) (here place run (drop (suc at) runs) lt)

-- ---- what calls say

-- two lists of bytes were added
pub both_added : (old between new first second : List ℕ) → between ≡ old ++ first → new ≡ between ++ second → new ≡ old ++ (first ++ second)
both_added old between new first second a b = b ∙ ap (λ (bytes : List ℕ). bytes ++ second) a ∙ append_assoc old first second

pub at_step_mapped : (step : ℕ) (bytes : List ℕ) → map (entry_by step false) bytes ≡ at_step step (typed bytes)
at_step_mapped step bytes = sym (map-map (entry_at step) Byte bytes)

pub none_kept : (runs : Runs) → runs.bytes.items ≡ [] → runs.runs.items ≡ [] → runs.starts.items ≡ [] → AreKept runs
none_kept runs bytes ran starts = record {
  ended = λ k d lt. absurd (omega (arith, lt, ap length ran));
  covered = λ place lt. absurd (omega (arith, lt, ap length bytes));
  started = λ stretch lt. absurd (omega (arith, lt, ap length starts));
  served = omega (arith, ap length bytes);
}

pub none_there : (runs : Runs) → runs.bytes.items ≡ [] → kept runs ≡ []
none_there runs bytes = ap (entries_from 0 runs.runs.items) bytes
