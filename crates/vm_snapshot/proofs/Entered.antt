-- The entries of lines: they are a script, and the first of them is of the first line's step.
use Rattle.std.proofs.Common.{◌≡◌, ℕ, ◌-◌, ◌≤◌, max, eqb, List, [], ◌∷◌, ◌++◌, refl, sym, ap, subst, ◌∙◌, append_assoc, arith, inl, inr}
use Rattle.std.specs.Prelude.{map, All, slice_get, Some, None}
use Rattle.std.specs.List.{AllPairs}
use Rattle.std.proofs.lemmas.Bool.{cases_Bool}
use Rattle.std.proofs.lemmas.List.{append-nil}
use Rattle.std.proofs.lemmas.List.Elements.{All-nil, All-cons, All-weaker}
use Rattle.std.proofs.lemmas.List.Kept.{AllPairs-cons}
use Rattle.mb_script.specs.declared.entry.Entry.{Entry}
use Rattle.mb_script.specs.declared.input.Input.{Input}
use Rattle.mb_script.specs.declared.input.Input.TheVariants as input
use Rattle.mb_script.specs.Script.{IsScript}
use Rattle.mb_spelling.specs.Decimals.{from_to}
use Rattle.mb_spelling.specs.Laws.{Says}
use Rattle.mb_spelling.specs.Spelling.{Reading, Read}
use Rattle.vm_snapshot.specs.Guests.{steps_below}
use Rattle.vm_snapshot.specs.Inputs.{Abort, Bytes, Due, InputLine, counts_32, inputs}
use Rattle.vm_snapshot.specs.Runs.{byte_before, due_entries, entries_of, entry_before, entry_of, joined_to, lines_of}
use Rattle.vm_snapshot.specs.Scripts.{InOrder, IsInput}
use Rattle.vm_snapshot.proofs.Inputs.{inputs_spell}
use Rattle.vm_snapshot.proofs.Runs.{runs_are}
use Rattle.vm_snapshot.proofs.Scripts.{inputs_are_scripts}

-- ---- one line more

entries_append : (xs ys : List InputLine) → entries_of (xs ++ ys) ≡ entries_of xs ++ entries_of ys
entries_append [] ys = refl
entries_append (line ∷ xs) ys =
    ap (λ (later : List Entry). due_entries line.step line.due ++ later) (entries_append xs ys)
    ∙ sym (append_assoc (due_entries line.step line.due) (entries_of xs) (entries_of ys))

pub entries_more : (lines : List InputLine) (line : InputLine) → entries_of (lines ++ line ∷ []) ≡ entries_of lines ++ due_entries line.step line.due
entries_more lines line =
    entries_append lines (line ∷ [])
    ∙ ap (λ (later : List Entry). entries_of lines ++ later) (append-nil (due_entries line.step line.due))

-- ---- steps that never fall

Rising : (least : ℕ) → List Entry → Type 0
Rising least [] = Unit {0}
Rising least (entry ∷ entries) = (least ≤ entry.step) × Rising entry.step entries

lower : (least low : ℕ) (entries : List Entry) → low ≤ least → Rising least entries → Rising low entries
unfolding Rising
lower least low [] le h = tt
lower least low (entry ∷ entries) le h = (let first = h.0 in omega arith, h.1)

rising_all : (least : ℕ) (entries : List Entry) → Rising least entries → All (λ (entry : Entry). least ≤ entry.step) entries
unfolding Rising
rising_all least [] h = All-nil (λ (entry : Entry). least ≤ entry.step)
rising_all least (entry ∷ entries) h =
    All-cons (λ (entry : Entry). least ≤ entry.step) entry entries h.0 (rising_all least entries (lower entry.step least entries h.0 h.1))

rising_pairs : (least : ℕ) (entries : List Entry) → Rising least entries → AllPairs (λ (earlier later : Entry). earlier.step ≤ later.step) entries
unfolding Rising
rising_pairs least [] h = λ i j d before inside. absurd (omega arith)
rising_pairs least (entry ∷ entries) h =
    AllPairs-cons (λ (earlier later : Entry). earlier.step ≤ later.step) entry entries (rising_all entry.step entries h.1) (rising_pairs entry.step entries h.1)

rising_bytes : (step : ℕ) (bytes : List ℕ) (entries : List Entry) → Rising step entries → Rising step (map (entry_of step) bytes ++ entries)
unfolding Rising
rising_bytes step [] entries h = h
rising_bytes step (b ∷ bytes) entries h = (omega arith, rising_bytes step bytes entries h)

rising_due : (step : ℕ) (due : Due) (entries : List Entry) → Rising step entries → Rising step (due_entries step due ++ entries)
unfolding Rising
rising_due step (Bytes bytes) entries h = rising_bytes step bytes entries h
rising_due step Abort entries h = (omega arith, h)

rising_lines : (last : ℕ) (lines : List InputLine) → InOrder last lines → Rising (max 1 last) (entries_of lines)
unfolding Rising
rising_lines last [] h = tt
rising_lines last (line ∷ lines) h =
    lower line.step (max 1 last) _ h.0
    (rising_due line.step line.due (entries_of lines) (lower (max 1 line.step) line.step _ (omega arith) (rising_lines line.step lines h.2)))

pub is_script : (lines : List InputLine) → IsInput lines → IsScript (entries_of lines)
is_script lines l =
    let rising = rising_lines 0 lines l.order in
    record {
      few = (let few = l.few in omega arith);
      from_one =
          All-weaker (λ (entry : Entry). max 1 0 ≤ entry.step) (λ (entry : Entry). 1 ≤ entry.step) (λ entry le. omega arith) _
          (rising_all (max 1 0) (entries_of lines) rising);
      in_order = rising_pairs (max 1 0) (entries_of lines) rising;
    }

-- ---- lines that were read

pub was_input : (text left : List ℕ) (lines : List InputLine) → inputs.read text ≡ Read lines left → IsInput lines
was_input text left lines e =
    let said : Says inputs text (Read lines left) = subst (λ (r : Reading (List InputLine)). Says inputs text r) e (inputs_spell.says text) in
    (inputs_are_scripts lines).0 said.0

pub seen_again : (text left : List ℕ) (lines : List InputLine) → inputs.read text ≡ Read lines left → inputs.read text ≡ Read (lines_of (entries_of lines)) left
seen_again text left lines e =
    e ∙ ap (λ (l : List InputLine). Read l left) (sym (runs_are lines (was_input text left lines e).runs))

-- ---- the first step

joined_first : (step b at : ℕ) (due : Due) (lines : List InputLine) → steps_below (joined_to step b at due lines) ≡ from_to 0 (step - 1)
joined_first step b at (Bytes bytes) lines = elim (cases_Bool (eqb step at)) [
  | inl e ↦ rw e refl
  | inr e ↦ rw e refl
]
joined_first step b at Abort lines = refl

before_first : (step b : ℕ) (lines : List InputLine) → steps_below (byte_before step b lines) ≡ from_to 0 (step - 1)
before_first step b [] = refl
before_first step b (line ∷ lines) = joined_first step b line.step line.due lines

entry_first : (step : ℕ) (what : Input) (lines : List InputLine) → steps_below (entry_before step what lines) ≡ from_to 0 (step - 1)
entry_first step (input.Byte b) lines = before_first step b lines
entry_first step input.Abort lines = refl

pub below_first : (entries : List Entry) (entry : Entry) → slice_get entries 0 ≡ Some entry → steps_below (lines_of entries) ≡ from_to 0 (entry.step - 1)
below_first [] entry e = absurd (let contrary : None ≡ Some entry = e in cc)
below_first (first ∷ entries) entry e =
    entry_first first.step first.input (lines_of entries)
    ∙ ap (λ (x : Entry). from_to 0 (x.step - 1)) (let same : first ≡ entry = cc in same)

pub below_none : (entries : List Entry) → slice_get entries 0 ≡ None → steps_below (lines_of entries) ≡ counts_32
below_none [] e = refl
below_none (first ∷ entries) e = absurd (let contrary : Some first ≡ None = e in cc)
