-- Lines of input written entry by entry are the lines of the entries.
use Rattle.std.proofs.Common.{◌≡◌, ℕ, zero, suc, ◌+◌, ◌<◌, ◌≤◌, eqb, ltb, Bool, true, false, List, [], ◌∷◌, ◌++◌, length, drop, refl, sym, ap, subst, ◌∙◌, append_assoc, arith, inl, inr}
use Rattle.std.specs.Prelude.{codes, decimal, if◌then◌else◌, Option, Some, None, slice_get}
use Rattle.std.specs.List.{flat_map}
use Rattle.std.proofs.lemmas.Bool.{cases_Bool, eqb-true, eqb-false, eq-eqb, ne_eqb}
use Rattle.mb_report.specs.declared.buffered.Buffered.{Buffered}
use Rattle.mb_report.specs.Buffered.{Buffers}
use Rattle.mb_report.proofs.BufferLemmas.{buffers_then}
use Rattle.mb_report.specs.Digits.{hex2, digits}
use Rattle.mb_script.specs.declared.entry.Entry.{Entry}
use Rattle.mb_script.specs.declared.input.Input.{Input}
use Rattle.mb_script.specs.declared.input.Input.TheVariants as input
use Rattle.vm_snapshot.specs.Inputs.{InputLine, Due, Bytes, Abort}
use Rattle.vm_snapshot.specs.Runs.{bytes_at, byte_before, entry_before, lines_of}
use Rattle.vm_snapshot.specs.Texts.{above, input_text}
use Rattle.vm_snapshot.specs.Writing.{closing, byte_text, entry_text, entry_count, open_behind, later_text, later_open, text_at, count_at, open_at, text_from, count_from}

abbrev text_of : List InputLine → List ℕ
text_of lines = flat_map input_text lines

abbrev line_at : ℕ → Due → InputLine
line_at at due = record { step = at; due = due }

-- ---- lines behind one that stands open

abbrev joined_text : (step at : ℕ) → Due → List InputLine → List ℕ
joined_text step at (Bytes bytes) lines =
    if eqb at step then digits bytes ++ 10 ∷ text_of lines else 10 ∷ text_of (line_at at (Bytes bytes) ∷ lines)
joined_text step at Abort lines = 10 ∷ text_of (line_at at Abort ∷ lines)

abbrev open_text : Option ℕ → List InputLine → List ℕ
open_text None lines = text_of lines
open_text (Some step) [] = 10 ∷ []
open_text (Some step) (line ∷ lines) = joined_text step line.step line.due lines

abbrev joined_count : (step at : ℕ) → Due → List InputLine → ℕ
joined_count step at (Bytes bytes) lines = if eqb at step then length lines else suc (length lines)
joined_count step at Abort lines = suc (length lines)

abbrev open_count : Option ℕ → List InputLine → ℕ
open_count None lines = length lines
open_count (Some step) [] = 0
open_count (Some step) (line ∷ lines) = joined_count step line.step line.due lines

-- ---- a byte before lines

record Joined (step b : ℕ) (lines : List InputLine) : Type 0 where
  bytes : List ℕ
  others : List InputLine
  is : byte_before step b lines ≡ bytes_at step (b ∷ bytes) ∷ others
  text : open_text (Some step) lines ≡ digits bytes ++ 10 ∷ text_of others
  count : open_count (Some step) lines ≡ length others

joined_due : (step b at : ℕ) (due : Due) (lines : List InputLine) → Joined step b (line_at at due ∷ lines)
joined_due step b at Abort lines =
    record { bytes = []; others = line_at at Abort ∷ lines; is = refl; text = refl; count = refl }
joined_due step b at (Bytes bytes) lines =
    elim (cases_Bool (eqb at step)) [
      | inl same ↦
          let other : eqb step at ≡ true = eq-eqb step at (sym (eqb-true at step same)) in
          record { bytes = bytes; others = lines; is = rw other refl; text = rw same refl; count = rw same refl }
      | inr apart ↦
          let other : eqb step at ≡ false = ne_eqb step at (λ e. eqb-false at step apart (sym e)) in
          record { bytes = []; others = line_at at (Bytes bytes) ∷ lines; is = rw other refl; text = rw apart refl; count = rw apart refl }
    ]

joined : (step b : ℕ) (lines : List InputLine) → Joined step b lines
joined step b [] = record { bytes = []; others = []; is = refl; text = refl; count = refl }
joined step b (line ∷ lines) = joined_due step b line.step line.due lines

-- ---- one entry

regroup : (d x y z w : List ℕ) → ((d ++ x) ++ y) ++ (z ++ w) ≡ (d ++ (x ++ (y ++ z))) ++ w
regroup d x y z w =
    sym (append_assoc ((d ++ x) ++ y) z w)
    ∙ ap (λ (l : List ℕ). l ++ w) (append_assoc (d ++ x) y z ∙ append_assoc d x (y ++ z))

run_text : (step b : ℕ) (bytes : List ℕ) (others : List InputLine)
    → (codes "at " ++ decimal step ++ codes " hex " ++ hex2 b) ++ (digits bytes ++ 10 ∷ text_of others)
    ≡ text_of (bytes_at step (b ∷ bytes) ∷ others)
run_text step b bytes others =
    ap (λ (l : List ℕ). (codes "at " ++ decimal step ++ codes " hex " ++ hex2 b) ++ l) (sym (append_assoc (digits bytes) (10 ∷ []) (text_of others)))
    ∙ ap (λ (l : List ℕ). codes "at " ++ l) (regroup (decimal step) (codes " hex ") (hex2 b) (digits bytes ++ 10 ∷ []) (text_of others))

byte_new : (step b : ℕ) (lines : List InputLine)
    → (codes "at " ++ decimal step ++ codes " hex " ++ hex2 b) ++ open_text (Some step) lines ≡ text_of (byte_before step b lines)
byte_new step b lines =
    let j = joined step b lines in
    ap (λ (l : List ℕ). (codes "at " ++ decimal step ++ codes " hex " ++ hex2 b) ++ l) j.text
    ∙ (run_text step b j.bytes j.others ∙ ap text_of (sym j.is))

within_text : (last step b : ℕ) (bytes : List ℕ) (others : List InputLine) → eqb step last ≡ true
    → hex2 b ++ (digits bytes ++ 10 ∷ text_of others) ≡ open_text (Some last) (bytes_at step (b ∷ bytes) ∷ others)
within_text last step b bytes others e = rw e refl

apart_text : (last step b : ℕ) (bytes : List ℕ) (others : List InputLine) → eqb step last ≡ false
    → 10 ∷ text_of (bytes_at step (b ∷ bytes) ∷ others) ≡ open_text (Some last) (bytes_at step (b ∷ bytes) ∷ others)
apart_text last step b bytes others e = rw e refl

byte_after : (last step b : ℕ) (lines : List InputLine) (within : Bool) → eqb step last ≡ within
    → byte_text within (Some last) step b ++ open_text (Some step) lines ≡ open_text (Some last) (byte_before step b lines)
byte_after last step b lines true e =
    let j = joined step b lines in
    ap (λ (l : List ℕ). hex2 b ++ l) j.text ∙ (within_text last step b j.bytes j.others e ∙ ap (open_text (Some last)) (sym j.is))
byte_after last step b lines false e =
    let j = joined step b lines in
    ap (λ (l : List ℕ). 10 ∷ l) (byte_new step b lines ∙ ap text_of j.is)
    ∙ (apart_text last step b j.bytes j.others e ∙ ap (open_text (Some last)) (sym j.is))

entry_step : (open_line : Option ℕ) (step : ℕ) (what : Input) (lines : List InputLine)
    → entry_text open_line step what ++ open_text (open_behind step what) lines ≡ open_text open_line (entry_before step what lines)
entry_step None step (input.Byte b) lines = byte_new step b lines
entry_step (Some last) step (input.Byte b) lines = byte_after last step b lines (eqb step last) refl
entry_step None step input.Abort lines = refl
entry_step (Some last) step input.Abort lines = refl

within_count : (last step : ℕ) (bytes : List ℕ) (others : List InputLine) (within : Bool) → eqb step last ≡ within
    → (if within then 0 else 1) + length others ≡ open_count (Some last) (bytes_at step bytes ∷ others)
within_count last step bytes others true e = rw e (omega arith)
within_count last step bytes others false e = rw e (omega arith)

count_step : (open_line : Option ℕ) (step : ℕ) (what : Input) (lines : List InputLine)
    → entry_count open_line step what + open_count (open_behind step what) lines ≡ open_count open_line (entry_before step what lines)
count_step None step (input.Byte b) lines =
    let j = joined step b lines in
    ap (λ (n : ℕ). 1 + n) j.count ∙ (let e : 1 + length j.others ≡ suc (length j.others) = omega arith in e) ∙ ap length (sym j.is)
count_step (Some last) step (input.Byte b) lines =
    let j = joined step b lines in
    ap (λ (n : ℕ). (if eqb step last then 0 else 1) + n) j.count
    ∙ (within_count last step (b ∷ j.bytes) j.others (eqb step last) refl ∙ ap (open_count (Some last)) (sym j.is))
count_step None step input.Abort lines = omega arith
count_step (Some last) step input.Abort lines = omega arith

-- ---- all entries

abbrev ended : ℕ → List Entry → List InputLine
ended steps entries = lines_of (above steps entries)

texts : (steps : ℕ) (entries : List Entry) (open_line : Option ℕ) → text_from steps open_line entries ≡ open_text open_line (ended steps entries)
texts steps [] None = refl
texts steps [] (Some step) = refl
texts steps (entry ∷ entries) open_line =
    elim (cases_Bool (ltb steps entry.step)) [
      | inl later ↦
          rw later (ap (λ (l : List ℕ). entry_text open_line entry.step entry.input ++ l) (texts steps entries (open_behind entry.step entry.input))
          ∙ entry_step open_line entry.step entry.input (ended steps entries))
      | inr taken ↦ rw taken (texts steps entries open_line)
    ]

none_more : (n : ℕ) → 0 + n ≡ n
none_more n = omega arith

counts : (steps : ℕ) (entries : List Entry) (open_line : Option ℕ) → count_from steps open_line entries ≡ open_count open_line (ended steps entries)
counts steps [] None = refl
counts steps [] (Some step) = refl
counts steps (entry ∷ entries) open_line =
    elim (cases_Bool (ltb steps entry.step)) [
      | inl later ↦
          rw later (ap (λ (n : ℕ). entry_count open_line entry.step entry.input + n) (counts steps entries (open_behind entry.step entry.input))
          ∙ count_step open_line entry.step entry.input (ended steps entries))
      | inr taken ↦ rw taken (none_more (count_from steps open_line entries) ∙ counts steps entries open_line)
    ]

pub written : (steps : ℕ) (entries : List Entry) → text_from steps None entries ≡ flat_map input_text (lines_of (above steps entries))
written steps entries = texts steps entries None

pub counted : (steps : ℕ) (entries : List Entry) → count_from steps None entries ≡ length (lines_of (above steps entries))
counted steps entries = counts steps entries None

-- ---- entry by entry

pub here_then : (entries : List Entry) (place : ℕ) (entry : Entry) → slice_get entries place ≡ Some entry
    → drop place entries ≡ entry ∷ drop (place + 1) entries
here_then [] place entry is = absurd cc
here_then (e ∷ entries) zero entry is = let same : e ≡ entry = cc in ap (λ (x : Entry). x ∷ entries) same
here_then (e ∷ entries) (suc place) entry is =
    here_then entries place entry is ∙ ap (λ (n : ℕ). entry ∷ drop n (e ∷ entries)) (let h : suc (place + 1) ≡ suc place + 1 = omega arith in h)

pub there_is : (entries : List Entry) (place : ℕ) → place < length entries → slice_get entries place ≡ None → ⊥
there_is [] place inside none = omega arith
there_is (e ∷ entries) zero inside none = cc
there_is (e ∷ entries) (suc place) inside none = there_is entries place (omega arith) none

none_left : (entries : List Entry) (place : ℕ) → length entries ≤ place → drop place entries ≡ []
none_left [] zero past = refl
none_left [] (suc place) past = refl
none_left (e ∷ entries) zero past = absurd (omega arith)
none_left (e ∷ entries) (suc place) past = none_left entries place (omega arith)

count_on : (steps lines whole place : ℕ) (entries : List Entry) (open_line : Option ℕ) (at : Option Entry) → slice_get entries place ≡ at
    → place < length entries
    → lines + count_from steps open_line (drop place entries) ≡ whole
    → (lines + count_at steps open_line at) + count_from steps (open_at steps open_line at) (drop (place + 1) entries) ≡ whole
count_on steps lines whole place entries open_line None is inside h = absurd (there_is entries place inside is)
count_on steps lines whole place entries open_line (Some entry) is inside h =
    let here = ap (count_from steps open_line) (here_then entries place entry is) in omega (arith, h, here)

pub counted_more : (steps lines whole place : ℕ) (entries : List Entry) (open_line : Option ℕ) → place < length entries
    → lines + count_from steps open_line (drop place entries) ≡ whole
    → (lines + count_at steps open_line (slice_get entries place)) + count_from steps (open_at steps open_line (slice_get entries place))
    (drop (place + 1) entries) ≡ whole
counted_more steps lines whole place entries open_line inside h = count_on steps lines whole place entries open_line (slice_get entries place) refl inside h

pub counted_whole : (steps lines place : ℕ) (entries : List Entry) (open_line : Option ℕ) → length entries ≤ place
    → lines + count_from steps open_line (drop place entries) ≡ count_from steps None entries → lines ≡ length (lines_of (above steps entries))
counted_whole steps lines place entries open_line past h =
    let none = ap (count_from steps open_line) (none_left entries place past) in omega (arith, h, none, counted steps entries)

-- What was written, and what is still to come from a place on, make up the whole.
pub record Written (steps : ℕ) (entries : List Entry) (from to : Buffered) (old new : Option (List ℕ)) (before now : ℕ) (open_line : Option ℕ) (place : ℕ)
    : Type 0 where
  pub part : List ℕ
  pub buffers : Buffers from to old new before now part
  pub rest : part ++ text_from steps open_line (drop place entries) ≡ text_from steps None entries

text_on : (steps place : ℕ) (entries : List Entry) (part : List ℕ) (open_line : Option ℕ) (at : Option Entry) → slice_get entries place ≡ at
    → place < length entries
    → part ++ text_from steps open_line (drop place entries) ≡ text_from steps None entries
    → (part ++ text_at steps open_line at) ++ text_from steps (open_at steps open_line at) (drop (place + 1) entries) ≡ text_from steps None entries
text_on steps place entries part open_line None is inside h = absurd (there_is entries place inside is)
text_on steps place entries part open_line (Some entry) is inside h =
    append_assoc part (later_text steps open_line entry) (text_from steps (later_open steps open_line entry) (drop (place + 1) entries))
    ∙ (ap (λ (l : List Entry). part ++ text_from steps open_line l) (sym (here_then entries place entry is)) ∙ h)

pub written_more : {steps : ℕ} {entries : List Entry} {from to later : Buffered} {old new newer : Option (List ℕ)} {before now after : ℕ} {open_line : Option ℕ}
    {place : ℕ}
    → Written steps entries from to old new before now open_line place → place < length entries
    → Buffers to later new newer now after (text_at steps open_line (slice_get entries place))
    → Written steps entries from later old newer before after (open_at steps open_line (slice_get entries place)) (place + 1)
written_more {steps} {entries} {open_line = open_line} {place = place} w inside b = record {
  part = w.part ++ text_at steps open_line (slice_get entries place);
  buffers = buffers_then w.buffers b;
  rest = text_on steps place entries w.part open_line (slice_get entries place) refl inside w.rest;
}

pub written_whole : {steps : ℕ} {entries : List Entry} {from to later : Buffered} {old new newer : Option (List ℕ)} {before now after : ℕ}
    {open_line : Option ℕ} {place : ℕ}
    → Written steps entries from to old new before now open_line place → length entries ≤ place → Buffers to later new newer now after (closing open_line)
    → Buffers from later old newer before after (flat_map input_text (lines_of (above steps entries)))
written_whole {steps} {entries} {from} {later = later} {old = old} {newer = newer} {before = before} {after = after} {open_line = open_line} {place = place} w
    past b =
    let none = none_left entries place past in
    let text : w.part ++ closing open_line ≡ flat_map input_text (lines_of (above steps entries)) =
    ap (λ (l : List Entry). w.part ++ text_from steps open_line l) (sym none) ∙ (w.rest ∙ written steps entries) in
    subst (λ (t : List ℕ). Buffers from later old newer before after t) text (buffers_then w.buffers b)
