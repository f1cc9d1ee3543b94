-- Lines of input, and the entries that they stand for.
use Rattle.std.proofs.Common.{◌≡◌, ℕ, ◌+◌, ◌-◌, ◌<◌, ◌≤◌, List, [], ◌∷◌, ◌++◌, refl, sym, ap, subst, ◌∙◌, arith}
use Rattle.mb_script.specs.declared.entry.Entry.{Entry}
use Rattle.mb_script.specs.Script.{IsScript}
use Rattle.mb_spelling.specs.Spelling.{Read, mapped}
use Rattle.mb_spelling.specs.Reads.{Place, lines_to}
use Rattle.mb_spelling.proofs.Loops.{TimesGoing, times_begun, times_done, times_on}
use Rattle.vm_snapshot.specs.Inputs.{InputLine, MOST, SoFar, at_first, behind_line, entries_in, input_line, input_lines, inputs, room_of}
use Rattle.vm_snapshot.specs.Runs.{due_entries, entries_of, lines_of}
use Rattle.vm_snapshot.proofs.Readings.{as_mapped, was_read}
use Rattle.vm_snapshot.proofs.Entered.{entries_more, is_script, seen_again, was_input}
use Rattle.vm_snapshot.proofs.Handed.{StopsWith, stops_on}
use Rattle.vm_snapshot.proofs.Loops.{one_less, times_stops}

pub record InputGoing (start here : Place) (count left : ℕ) (s : SoFar) (entries : List Entry) : Type 0 where
  values : List InputLine
  all : entries ≡ entries_of values
  going : TimesGoing (λ left s. input_line (room_of left s) s) behind_line start here count at_first left s values

pub input_begun : (start here : Place) (count : ℕ) (s : SoFar) (entries : List Entry) → here ≡ start → s ≡ at_first → entries ≡ []
    → InputGoing start here count count s entries
input_begun start here count s entries at_start first none =
    rw first
    (record {
      values = [];
      all = none;
      going = times_begun (λ left s. input_line (room_of left s) s) behind_line start here count at_first [] at_start refl;
    })

pub input_on : {start here : Place} (new : Place) {count left : ℕ} {s : SoFar} (after : SoFar) {entries : List Entry} (later : List Entry) (line : InputLine)
    → InputGoing start here count left s entries → 0 < left → (input_line (room_of (left - 1) s) s).read here.left ≡ Read line new.left
    → lines_to new ≡ lines_to here → after ≡ behind_line s line → later ≡ entries ++ due_entries line.step line.due
    → InputGoing start new count (left - 1) after later
input_on {start} {here} new {count} {left} {s} after {entries} later line m some read passed behind added =
    rw behind
    (record {
      values = m.values ++ line ∷ [];
      all = added ∙ (ap (λ (l : List Entry). l ++ due_entries line.step line.due) m.all ∙ sym (entries_more m.values line));
      going =
          times_on (λ left s. input_line (room_of left s) s) behind_line start here new count at_first left (left - 1) s m.values (m.values ++ line ∷ []) line
          m.going (one_less left some) read passed refl;
    })

pub input_stops : {start here : Place} {count left : ℕ} {s : SoFar} {entries : List Entry} → InputGoing start here count left s entries → 0 < left
    → StopsWith ((input_line (room_of (left - 1) s) s).read here.left) (mapped entries_of ((input_lines count).read start.left))
input_stops {start} {here} {count} {left} {s} m some =
    stops_on
    (times_stops (λ left s. input_line (room_of left s) s) behind_line start here count at_first left (left - 1) s m.values m.going (one_less left some))
    (as_mapped entries_of ((input_lines count).read start.left))

pub input_done : {start here : Place} {count left : ℕ} {s : SoFar} {entries : List Entry} → InputGoing start here count left s entries → left ≡ 0
    → mapped entries_of ((input_lines count).read start.left) ≡ Read entries here.left
input_done {start} {here} {count} {left} {s} m none =
    ap (mapped entries_of)
    (times_done (λ left s. input_line (room_of left s) s) behind_line start here count at_first left s m.values m.going none)
    ∙ ap (λ (l : List Entry). Read l here.left) (sym m.all)

-- ---- what the loop keeps

pub record Entering (start here : Place) (count left : ℕ) (s : SoFar) (entries : List Entry) : Type 0 where
  pub going : InputGoing start here count left s entries
  pub passed : lines_to here ≡ lines_to start
  pub room : s.total + left ≤ MOST

pub entering_on : {start here : Place} (new : Place) {count left : ℕ} {s : SoFar} (after : SoFar) {entries : List Entry} (later : List Entry) (line : InputLine)
    → Entering start here count left s entries → 0 < left → (input_line (room_of (left - 1) s) s).read here.left ≡ Read line new.left
    → entries_in line.due ≤ room_of (left - 1) s → lines_to new ≡ lines_to here → after ≡ behind_line s line
    → later ≡ entries ++ due_entries line.step line.due → Entering start new count (left - 1) after later
entering_on new {left = left} {s = s} after later line m some read few over behind added =
    let total : after.total ≡ s.total + entries_in line.due = ap (λ (x : SoFar). x.total) behind in
    record {
      going = input_on new after later line m.going some read over behind added;
      passed = over ∙ m.passed;
      room = omega (arith, total, few, some, m.room);
    }

-- ---- the script that was read

pub script_read : (text left : List ℕ) (entries : List Entry) → mapped entries_of (inputs.read text) ≡ Read entries left
    → IsScript entries × (inputs.read text ≡ Read (lines_of entries) left)
script_read text left entries e =
    let lines = was_read entries_of (inputs.read text) entries left e in (
      subst IsScript lines.2 (is_script lines.0 (was_input text left lines.0 lines.1)),
      subst (λ (l : List Entry). inputs.read text ≡ Read (lines_of l) left) lines.2 (seen_again text left lines.0 lines.1),
    )
