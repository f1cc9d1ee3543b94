-- A guest of which a snapshot can be written has lawful lines.
use Rattle.std.proofs.Common.{◌≡◌, ◌∙◌, ℕ, zero, suc, ◌+◌, ◌-◌, ◌*◌, ◌/◌, ◌%◌, ◌^◌, ◌≤◌, ◌<◌, max, min, not, eqb, ltb, Bool, true, false, List, [], ◌∷◌, ◌++◌, length, refl, ap, sym, subst, inl, inr, arith}
use Rattle.std.specs.Prelude.{All, IfSome, nat_lt, None, bit_and, slice_get, slice_index, slice_index_or}
use Rattle.std.specs.Int.{from_bool}
use Rattle.std.specs.List.{AllByRecursion, AllPairs, filter, list_any}
use Rattle.std.proofs.lemmas.Bool.{cases_Bool, cases_lt, and_from, le-leb, eq-eqb, eqb-false, eqb-true, ltb-true, ne_eqb}
use Rattle.std.proofs.lemmas.List.Elements.{All-head, All-tail, All-filter, All-weaker, recursion_from_All}
use Rattle.std.proofs.lemmas.List.Folds.{list_any-append}
use Rattle.std.proofs.lemmas.List.Sums.{count_by-le-length, length-filter}
use Rattle.std.proofs.lemmas.Nat.Bits.{and_high_mask}
use Rattle.mb_port.specs.declared.types.MmuReg.TheVariants.{Tc, Itt0, Itt1, Dtt0, Dtt1, Mmusr, Urp, Srp}
use Rattle.mb_model.specs.declared.kept.Kept.{Kept}
use Rattle.mb_model.specs.declared.outcome.RunState.{RunState}
use Rattle.mb_model.specs.declared.outcome.RunState.TheVariants.{Running, Stopped, Halted, Off}
use Rattle.mb_model.specs.Keeping.{Apart, NamesPages, entry_in, is_of}
use Rattle.mb_model.specs.Seen.{Seen}
use Rattle.mb_model.proofs.ApartLemmas.{head_differs, is_of-sym}
use Rattle.mb_saved.specs.Saved.{AgreesWith, IsLawful}
use Rattle.mb_script.specs.declared.entry.Entry.{Entry}
use Rattle.mb_script.specs.declared.input.Input.{Input}
use Rattle.mb_script.specs.declared.input.Input.TheVariants as input
use Rattle.mb_script.specs.Script.{Entries}
use Rattle.mb_spelling.specs.Decimals.{Range, from_to, is_in}
use Rattle.mb_spelling.specs.Hex.{among, any_number, masked}
use Rattle.mb_spelling.specs.Lists.{LawfulTimes}
use Rattle.mb_spelling.specs.Spelling.{before, chosen}
use Rattle.mb_walk.specs.Memory.{AreBytes}
use Rattle.vm_disk.specs.Disk.{DiskState, blocks_in}
use Rattle.vm_snapshot.specs.Fronts.{disk_of}
use Rattle.vm_snapshot.specs.Guests.{Front, Guest, address_registers, bit, control_registers, count, counts_64, data_registers, devices, disk, front, guest, longs, rams, registers, rows_in, states, status, steps_below, translation_registers}
use Rattle.vm_snapshot.specs.Inputs.{Abort, Bytes, Due, InputLine, MOST, byte, counts_32}
use Rattle.vm_snapshot.specs.Memory.{dump_byte, next_column}
use Rattle.vm_snapshot.specs.Outcomes.{devices_of, lines_in, progress_of, registers_of}
use Rattle.vm_snapshot.specs.Pages.{kept_counts, kept_line, kept_lines, with_kept}
use Rattle.vm_snapshot.specs.Runs.{byte_before, entries_of, entry_before, joined_to, lines_of}
use Rattle.vm_snapshot.specs.Scripts.{FitLines, InOrder, IsInput}
use Rattle.vm_snapshot.specs.Shown.{CanBeTold, HasBlocks, HasEntries, HasWidths, IsEntry, IsInputOfBytes, ShownGuest, saved_in}
use Rattle.vm_snapshot.specs.Texts.{above}
use Rattle.vm_snapshot.proofs.Runs.{lines_are_runs, lines_say}
use Rattle.vm_snapshot.proofs.SavedLines.{rows_lawful}
use Rattle.vm_snapshot.proofs.Scripts.{inputs_are_scripts}

pub in_from : (r : Range) (n : ℕ) → r.least ≤ n → n ≤ r.most → n % r.unit ≡ 0 → is_in r n ≡ true
in_from r n least most units = and_from _ _ (and_from _ _ (le-leb r.least n least) (le-leb n r.most most)) (eq-eqb (n % r.unit) 0 units)

-- ---- what is kept

-- none of these is of the page of one of those
Free : (before kept : List Kept) → Type 0
Free before [] = Unit {0}
Free before (k ∷ kept) = (list_any (is_of k.space k.page) before ≡ false) × Free before kept

free_more : (before : List Kept) (k : Kept) (kept : List Kept) → Free before kept → entry_in k.space k.page kept ≡ None → Free (before ++ k ∷ []) kept
unfolding Free
free_more before k [] free none = tt
free_more before k (other ∷ kept) free none =
    let parts = head_differs (is_of k.space k.page) other kept none in
    let apart : is_of other.space other.page k ≡ false = is_of-sym other k ∙ parts.0 in
    let any : list_any (is_of other.space other.page) (before ++ k ∷ []) ≡ false =
    list_any-append (is_of other.space other.page) before (k ∷ []) ∙ rw (free.0, apart) refl in
    (any, free_more before k kept free.1 parts.1)

free_first : (kept : List Kept) → Free [] kept
unfolding Free
free_first [] = tt
free_first (k ∷ kept) = (refl, free_first kept)

flags_small : (w s g m : Bool) → 8 * from_bool w + (4 * from_bool s + (2 * from_bool g + from_bool m)) < 16
flags_small true true true true = omega arith
flags_small true true true false = omega arith
flags_small true true false true = omega arith
flags_small true true false false = omega arith
flags_small true false true true = omega arith
flags_small true false true false = omega arith
flags_small true false false true = omega arith
flags_small true false false false = omega arith
flags_small false true true true = omega arith
flags_small false true true false = omega arith
flags_small false true false true = omega arith
flags_small false true false false = omega arith
flags_small false false true true = omega arith
flags_small false false true false = omega arith
flags_small false false false true = omega arith
flags_small false false false false = omega arith

all_kept : (before kept : List Kept) → Free before kept → Apart kept → All NamesPages kept
    → LawfulTimes (λ left kept. kept_line kept) with_kept (length kept) before kept
unfolding Free
all_kept before [] free apart named = tt
all_kept before (k ∷ kept) free apart named =
    let names = All-head NamesPages k kept named in
    let page : k.page / 16 ^ 5 ≡ 0 = (let h = names.0 in omega arith) in
    let frame : k.frame / 16 ^ 5 ≡ 0 = (let h = names.1 in omega arith) in
    let is_free : not (list_any (is_of k.space k.page) before) ≡ true = rw free.0 refl in (
      (tt, ((page, is_free), ((frame, refl), (flags_small k.w k.s k.g k.m, refl)))),
      all_kept (with_kept before k) kept (free_more before k kept free.1 apart.0) apart.1 (All-tail NamesPages k kept named),
    )

kept_lawful : (kept : List Kept) → length kept ≤ 256 → Apart kept → All NamesPages kept → kept_lines.IsLawful kept
kept_lawful kept few apart named =
    (in_from kept_counts (length kept) (omega arith) few (omega arith), all_kept [] kept (free_first kept) apart named)

-- ---- input

eqb_is : (a b : ℕ) → eqb a b ≡ true → a ≡ b
eqb_is a b e = eqb-true a b e

-- steps of 32 bits that never fall, from one on
InSteps : (last : ℕ) → Entries → Type 0
InSteps last [] = Unit {0}
InSteps last (entry ∷ entries) = (max 1 last ≤ entry.step) × (entry.step ≤ MOST) × InSteps entry.step entries

below : (a b : ℕ) (entries : Entries) → b ≤ a → InSteps a entries → InSteps b entries
unfolding InSteps
below a b [] le h = tt
below a b (entry ∷ entries) le h = (let first = h.0 in omega arith, h.1, h.2)

pairs_tail : (entry : Entry) (entries : Entries) → AllPairs (λ (earlier later : Entry). earlier.step ≤ later.step) (entry ∷ entries)
    → AllPairs (λ (earlier later : Entry). earlier.step ≤ later.step) entries
pairs_tail entry entries h = λ i j d before inside. h (suc i) (suc j) d (omega arith) (omega arith)

pairs_head : (entry : Entry) (entries : Entries) → AllPairs (λ (earlier later : Entry). earlier.step ≤ later.step) (entry ∷ entries)
    → All (λ (later : Entry). entry.step ≤ later.step) entries
pairs_head entry entries h = λ k d inside. h 0 (suc k) d (omega arith) (omega arith)

in_steps : (last : ℕ) (entries : Entries) → All (λ (entry : Entry). last ≤ entry.step) entries → All (λ (entry : Entry). 1 ≤ entry.step) entries
    → All (λ (entry : Entry). entry.step < 2 ^ 32) entries → AllPairs (λ (earlier later : Entry). earlier.step ≤ later.step) entries
    → InSteps last entries
unfolding InSteps
in_steps last [] least one most order = tt
in_steps last (entry ∷ entries) least one most order =
    let low = All-head (λ (e : Entry). last ≤ e.step) entry entries least in
    let first = All-head (λ (e : Entry). 1 ≤ e.step) entry entries one in
    let high = All-head (λ (e : Entry). e.step < 2 ^ 32) entry entries most in (
      omega arith,
      omega arith,
      in_steps entry.step entries (pairs_head entry entries order) (All-tail (λ (e : Entry). 1 ≤ e.step) entry entries one)
          (All-tail (λ (e : Entry). e.step < 2 ^ 32) entry entries most) (pairs_tail entry entries order),
    )

kept_in_steps : (test : Entry → Bool) (last : ℕ) (entries : Entries) → InSteps last entries → InSteps last (filter test entries)
unfolding InSteps
kept_in_steps test last [] h = tt
kept_in_steps test last (entry ∷ entries) h = elim (cases_Bool (test entry)) [
  | inl keeps ↦ rw keeps (h.0, h.1, kept_in_steps test entry.step entries h.2)
  | inr drops ↦ rw drops (below entry.step last (filter test entries) (let first = h.0 in omega arith) (kept_in_steps test entry.step entries h.2))
]

joined_order : (last step b at : ℕ) (due : Due) (lines : List InputLine) → max 1 last ≤ step → step ≤ MOST
    → InOrder step (record { step = at; due = due } ∷ lines) → InOrder last (joined_to step b at due lines)
joined_order last step b at Abort lines low high h = (low, high, h)
joined_order last step b at (Bytes bytes) lines low high h = elim (cases_Bool (eqb step at)) [
  | inl e ↦ rw e (low, high, subst (λ (n : ℕ). InOrder n lines) (sym (eqb_is step at e)) h.2)
  | inr e ↦ rw e (low, high, h)
]

before_order : (last step b : ℕ) (lines : List InputLine) → max 1 last ≤ step → step ≤ MOST → InOrder step lines → InOrder last (byte_before step b lines)
before_order last step b [] low high h = (low, high, tt)
before_order last step b (line ∷ lines) low high h = joined_order last step b line.step line.due lines low high h

entry_order : (last step : ℕ) (what : Input) (lines : List InputLine) → max 1 last ≤ step → step ≤ MOST → InOrder step lines
    → InOrder last (entry_before step what lines)
entry_order last step (input.Byte b) lines low high h = before_order last step b lines low high h
entry_order last step input.Abort lines low high h = (low, high, h)

lines_order : (last : ℕ) (entries : Entries) → InSteps last entries → InOrder last (lines_of entries)
unfolding InSteps
lines_order last [] h = tt
lines_order last (entry ∷ entries) h =
    entry_order last entry.step entry.input (lines_of entries) h.0 h.1 (lines_order entry.step entries h.2)

byte_fits : (b : ℕ) → b < 2 ^ 8 → byte.IsLawful b
byte_fits b small = ((omega arith), refl)

joined_fit : (step b at : ℕ) (due : Due) (lines : List InputLine) → b < 2 ^ 8 → FitLines (record { step = at; due = due } ∷ lines)
    → FitLines (joined_to step b at due lines)
joined_fit step b at Abort lines small h = ((byte_fits b small, tt), h)
joined_fit step b at (Bytes bytes) lines small h = elim (cases_Bool (eqb step at)) [
  | inl e ↦ rw e ((byte_fits b small, h.0), h.1)
  | inr e ↦ rw e ((byte_fits b small, tt), h)
]

before_fit : (step b : ℕ) (lines : List InputLine) → b < 2 ^ 8 → FitLines lines → FitLines (byte_before step b lines)
before_fit step b [] small h = ((byte_fits b small, tt), tt)
before_fit step b (line ∷ lines) small h = joined_fit step b line.step line.due lines small h

entry_fit : (step : ℕ) (what : Input) (lines : List InputLine) → IsInputOfBytes what → FitLines lines → FitLines (entry_before step what lines)
entry_fit step (input.Byte b) lines small h = before_fit step b lines small h
entry_fit step input.Abort lines small h = (tt, h)

lines_fit : (entries : Entries) → All (λ (entry : Entry). IsInputOfBytes entry.input) entries → FitLines (lines_of entries)
lines_fit [] h = tt
lines_fit (entry ∷ entries) h =
    let P = λ (e : Entry). IsInputOfBytes e.input in
    entry_fit entry.step entry.input (lines_of entries) (All-head P entry entries h) (lines_fit entries (All-tail P entry entries h))

pub is_input : (steps : ℕ) (script : Entries) → HasEntries script → IsInput (lines_of (above steps script))
is_input steps script h =
    let test = λ (entry : Entry). nat_lt steps entry.step in
    let longs = All-weaker IsEntry (λ (entry : Entry). entry.step < 2 ^ 32) (λ entry is. is.0) script h.entries in
    let order = kept_in_steps test 0 script
    (in_steps 0 script (λ k d inside. omega arith) h.lawful.from_one longs h.lawful.in_order) in
    let kept = length-filter test script in
    let most = count_by-le-length test script in
    let few = h.lawful.few in
    let said : length (entries_of (lines_of (above steps script))) ≡ length (above steps script) =
    ap (λ (es : Entries). length es) (lines_say (above steps script)) in
    record {
      runs = lines_are_runs (above steps script);
      order = lines_order 0 (above steps script) order;
      few = omega arith;
      fit = lines_fit (above steps script) (All-filter test (λ (entry : Entry). IsInputOfBytes entry.input) script
          (All-weaker IsEntry (λ (entry : Entry). IsInputOfBytes entry.input) (λ entry is. is.1) script h.entries));
    }

pub entry_at : (script : Entries) (place : ℕ) (d : Entry) → place < length script → IfSome (slice_get script place) IsEntry
    → IsEntry (slice_index_or script place d)
entry_at [] place d inside is = absurd (omega arith)
entry_at (entry ∷ script) zero d inside is = is
entry_at (entry ∷ script) (suc place) d inside is = entry_at script place d (omega arith) is

-- the first line is of a later step
FirstAbove : (steps : ℕ) → List InputLine → Type 0
FirstAbove steps [] = Unit {0}
FirstAbove steps (line ∷ lines) = steps < line.step

joined_above : (steps step b at : ℕ) (due : Due) (lines : List InputLine) → steps < step → FirstAbove steps (joined_to step b at due lines)
unfolding FirstAbove
joined_above steps step b at Abort lines h = h
joined_above steps step b at (Bytes bytes) lines h = elim (cases_Bool (eqb step at)) [
  | inl e ↦ rw e h
  | inr e ↦ rw e h
]

before_above : (steps step b : ℕ) (lines : List InputLine) → steps < step → FirstAbove steps (byte_before step b lines)
unfolding FirstAbove
before_above steps step b [] h = h
before_above steps step b (line ∷ lines) h = joined_above steps step b line.step line.due lines h

entry_above : (steps step : ℕ) (what : Input) (lines : List InputLine) → steps < step → FirstAbove steps (entry_before step what lines)
unfolding FirstAbove
entry_above steps step (input.Byte b) lines h = before_above steps step b lines h
entry_above steps step input.Abort lines h = h

first_above : (steps : ℕ) (script : Entries) → FirstAbove steps (lines_of (above steps script))
unfolding FirstAbove
first_above steps [] = tt
first_above steps (entry ∷ script) = elim (cases_Bool (ltb steps entry.step)) [
  | inl later ↦ rw later (entry_above steps entry.step entry.input (lines_of (above steps script)) (ltb-true steps entry.step later))
  | inr past ↦ rw past (first_above steps script)
]

steps_in : (steps : ℕ) (lines : List InputLine) → steps < 2 ^ 32 → FirstAbove steps lines → is_in (steps_below lines) steps ≡ true
unfolding FirstAbove
steps_in steps [] few above = in_from counts_32 steps (omega arith) (omega arith) (omega arith)
steps_in steps (line ∷ lines) few above = in_from (from_to 0 (line.step - 1)) steps (omega arith) (omega arith) (omega arith)

-- ---- the outcome

state_lawful : (state : RunState) → states.IsLawful state
state_lawful Running = refl
state_lawful Stopped = refl
state_lawful Halted = refl
state_lawful Off = refl

chosen_byte : (ends : Bool) (b : ℕ) → b < 2 ^ 8 → (chosen ends (before byte (10 ∷ [])) byte).IsLawful b
chosen_byte true b small = byte_fits b small
chosen_byte false b small = byte_fits b small

dump_lawful : (column : ℕ) (bytes : List ℕ) → AreBytes bytes → LawfulTimes dump_byte next_column (length bytes) column bytes
dump_lawful column [] h = tt
dump_lawful column (b ∷ bytes) h =
    let P = λ (b : ℕ). b < 2 ^ 8 in
    (chosen_byte _ b (All-head P b bytes h), dump_lawful (next_column column b) bytes (All-tail P b bytes h))

long_fits : (n : ℕ) → n < 2 ^ 32 → n / 16 ^ 8 ≡ 0
long_fits n small = omega arith

any_long : (n : ℕ) → n < 2 ^ 32 → (n / 16 ^ 8 ≡ 0) × (any_number 0 n ≡ true)
any_long n small = (long_fits n small, refl)

masked_long : (mask n : ℕ) → n < 2 ^ 32 → bit_and n mask ≡ n → (n / 16 ^ 8 ≡ 0) × (masked mask 0 n ≡ true)
masked_long mask n small e =
    let whole : mask / 16 ^ 0 ≡ mask = omega arith in
    (long_fits n small, eq-eqb (bit_and n (mask / 16 ^ 0)) n (ap (bit_and n) whole ∙ e))

-- the registers in a row
tabulate : ℕ → (ℕ → ℕ) → List ℕ
tabulate zero f = []
tabulate (suc n) f = f 0 ∷ tabulate n (λ i. f (suc i))

tabulated : (n : ℕ) (values : List ℕ) → length values ≡ n → tabulate n (slice_index values) ≡ values
unfolding tabulate
tabulated zero [] e = refl
tabulated zero (value ∷ values) e = absurd (omega arith)
tabulated (suc n) [] e = absurd (omega arith)
tabulated (suc n) (value ∷ values) e = ap (λ (l : List ℕ). value ∷ l) (tabulated n values (omega arith))

pub data_values_are : (seen : Seen) → HasWidths seen → (registers_of seen).data_values ≡ seen.cpu.regs.d
unfolding tabulate
data_values_are seen h = tabulated 8 seen.cpu.regs.d h.data_count

pub address_values_are : (seen : Seen) → HasWidths seen → (registers_of seen).address_values ≡ seen.cpu.regs.a
unfolding tabulate
address_values_are seen h = tabulated 7 seen.cpu.regs.a h.address_count

registers_lawful : (kept : List Kept) (seen : Seen) → HasWidths seen → IsLawful (saved_in kept seen) → registers.IsLawful (registers_of seen)
registers_lawful kept seen h l =
    let P = λ (n : ℕ). n < 2 ^ 32 in
    let data_longs = subst (All P) (sym (data_values_are seen h)) h.data_registers in
    let address_longs = subst (All P) (sym (address_values_are seen h)) h.address_registers in
    let d : AllByRecursion P (registers_of seen).data_values = recursion_from_All P (registers_of seen).data_values data_longs in
    let a : AllByRecursion P (registers_of seen).address_values = recursion_from_All P (registers_of seen).address_values address_longs in
    let c : AllByRecursion P (registers_of seen).control_values = recursion_from_All P (registers_of seen).control_values h.control_registers in
    let t : AllByRecursion P (registers_of seen).translation_values = recursion_from_All P (registers_of seen).translation_values h.translation_registers in
    let bits = l.bits in
    let d_lawful : (longs data_registers).IsLawful (registers_of seen).data_values = (
      any_long _ d.0,
      (
        any_long _ d.1.0,
        (
          any_long _ d.1.1.0,
          (
            any_long _ d.1.1.1.0,
            (
              any_long _ d.1.1.1.1.0,
              (
                any_long _ d.1.1.1.1.1.0,
                (
                  any_long _ d.1.1.1.1.1.1.0,
                  (
                    any_long _ d.1.1.1.1.1.1.1.0,
                    tt,
                  ),
                ),
              ),
            ),
          ),
        ),
      ),
    ) in
    let a_lawful : (longs address_registers).IsLawful (registers_of seen).address_values = (
      any_long _ a.0,
      (
        any_long _ a.1.0,
        (
          any_long _ a.1.1.0,
          (any_long _ a.1.1.1.0, (any_long _ a.1.1.1.1.0, (any_long _ a.1.1.1.1.1.0, (any_long _ a.1.1.1.1.1.1.0, tt)))),
        ),
      ),
    ) in
    let c_lawful : (longs control_registers).IsLawful (registers_of seen).control_values = (
      any_long _ c.0,
      (
        any_long _ c.1.0,
        (
          any_long _ c.1.1.0,
          (
            any_long _ c.1.1.1.0,
            (
              masked_long 0xF71F _ c.1.1.1.1.0 bits.status,
              (
                any_long _ c.1.1.1.1.1.0,
                (
                  masked_long 0x7 _ c.1.1.1.1.1.1.0 bits.source,
                  (masked_long 0x7 _ c.1.1.1.1.1.1.1.0 bits.destination, (masked_long 0x80008000 _ c.1.1.1.1.1.1.1.1.0 bits.caches, tt)),
                ),
              ),
            ),
          ),
        ),
      ),
    ) in
    let t_lawful : (longs translation_registers).IsLawful (registers_of seen).translation_values = (
      masked_long 0xC000 _ t.0 (bits.translation Tc),
      (
        masked_long 0xFFFFE364 _ t.1.0 (bits.translation Itt0),
        (
          masked_long 0xFFFFE364 _ t.1.1.0 (bits.translation Itt1),
          (
            masked_long 0xFFFFE364 _ t.1.1.1.0 (bits.translation Dtt0),
            (
              masked_long 0xFFFFE364 _ t.1.1.1.1.0 (bits.translation Dtt1),
              (
                masked_long 0xFFFFFFF7 _ t.1.1.1.1.1.0 (bits.translation Mmusr),
                (
                  masked_long 0xFFFFFE00 _ t.1.1.1.1.1.1.0 (bits.translation Urp),
                  (masked_long 0xFFFFFE00 _ t.1.1.1.1.1.1.1.0 (bits.translation Srp), tt),
                ),
              ),
            ),
          ),
        ),
      ),
    ) in
    (d_lawful, (a_lawful, (c_lawful, t_lawful)))

bit_long : (n : ℕ) → n < 2 → (n / 16 ^ 8 ≡ 0) × (bit 0 n ≡ true)
bit_long zero small = (omega arith, refl)
bit_long (suc zero) small = (omega arith, refl)
bit_long (suc (suc n)) small = absurd (omega arith)

-- one of two
first_of : (a b n : ℕ) → n ≡ a → among (a ∷ b ∷ []) 0 n ≡ true
first_of a b n e = rw (eq-eqb (a / 16 ^ 0) n (let whole : a / 16 ^ 0 ≡ a = omega arith in whole ∙ sym e)) refl

second_of : (a b n : ℕ) → n ≡ b → among (a ∷ b ∷ []) 0 n ≡ true
second_of a b n e = elim (cases_Bool (eqb (a / 16 ^ 0) n)) [
  | inl h ↦ rw h refl
  | inr h ↦ rw (h, eq-eqb (b / 16 ^ 0) n (let whole : b / 16 ^ 0 ≡ b = omega arith in whole ∙ sym e)) refl
]

among_status : (least n : ℕ) → n ≡ least + 4 * (n / 4 % 2) → among (least ∷ (least + 4) ∷ []) 0 n ≡ true
among_status least n e = elim (cases_Bool (eqb (n / 4 % 2) 0)) [
  | inl h ↦ first_of least (least + 4) n (let none : n / 4 % 2 ≡ 0 = eqb_is _ _ h in omega arith)
  | inr h ↦ second_of least (least + 4) n (let some = eqb-false (n / 4 % 2) 0 h in omega arith)
]

status_lawful : (queue : List ℕ) (n : ℕ) → AgreesWith queue n → (n / 16 ^ 8 ≡ 0) × (status queue 0 n ≡ true)
status_lawful [] n e = (omega (arith, e), among_status 2 n (omega (arith, e)))
status_lawful (b ∷ queue) n e =
    let some : eqb (suc (length queue)) 0 ≡ false = ne_eqb (suc (length queue)) 0 (λ none. omega (arith, none)) in
    let is : n ≡ 3 + 4 * (n / 4 % 2) = (let same : n ≡ from_bool (not (eqb (suc (length queue)) 0)) + 2 + 4 * (n / 4 % 2) = e in rw some at same) in
    (omega (arith, is), among_status 3 n is)

count_lawful : (period n : ℕ) → n ≤ period → (0 < period → 0 < n) → period < 2 ^ 32 → (n / 16 ^ 8 ≡ 0) × (count period 0 n ≡ true)
count_lawful period n most runs small =
    let least : min 1 period / 16 ^ 0 ≤ n = elim (cases_lt 0 period) [
      | inl some ↦ (let h = runs some in omega arith)
      | inr none ↦ omega arith
    ] in
    (omega arith, and_from _ _ (le-leb (min 1 period / 16 ^ 0) n least) (le-leb n (period / 16 ^ 0) (omega arith)))

devices_lawful : (kept : List Kept) (seen : Seen) → HasWidths seen → IsLawful (saved_in kept seen) → (devices seen.queue).IsLawful (devices_of seen)
devices_lawful kept seen h l = (
  bit_long seen.ctrl l.ctrl,
  (
    status_lawful seen.queue seen.status l.status,
    (any_long seen.period h.period, (count_lawful seen.period seen.count l.count l.runs h.period, bit_long seen.pending l.pending)),
  ),
)

-- ---- the guest

abbrev pub kib_of : Seen → ℕ
kib_of seen = length seen.ram / 1024

abbrev pub front_of : ShownGuest → Front
front_of g = record { ram = kib_of g.seen; kept = g.kept; input = lines_of (above g.seen.steps g.script) }

abbrev pub guest_of : ShownGuest → Guest
guest_of g = record {
  front = front_of g;
  progress = progress_of g.seen;
  registers = registers_of g.seen;
  devices = devices_of g.seen;
  lines = lines_in (kib_of g.seen) g.seen;
}

pub front_lawful : (g : ShownGuest) → CanBeTold g → front.IsLawful (front_of g)
front_lawful g t =
    let ram = t.lawful.ram in (
      in_from rams (kib_of g.seen) (let h = ram.0 in omega arith) (let h = ram.1 in omega arith) (let h = ram.2 in omega arith),
      (
        kept_lawful g.kept t.lawful.kept.few t.lawful.kept.apart t.lawful.kept.names,
        (inputs_are_scripts (lines_of (above g.seen.steps g.script))).1 (is_input g.seen.steps g.script t.script),
      ),
    )

pub whole : (g : ShownGuest) → CanBeTold g → 1024 * kib_of g.seen ≡ length g.seen.ram
whole g t = let h = t.lawful.ram.2 in omega arith

pub guest_lawful : (i : ℕ) (g : ShownGuest) → CanBeTold g → (guest i).IsLawful (guest_of g)
guest_lawful i g t =
    let seen = g.seen in
    let w = t.widths in
    let input = lines_of (above seen.steps g.script) in
    let rows = rows_in (kib_of seen) in
    let size = whole g t in
    let console = in_from (from_to 0 65536) (length seen.console) (omega arith) t.lawful.console (omega arith) in
    let lost = in_from counts_64 seen.lost (omega arith) (let h = w.lost in omega arith) (omega arith) in
    let queue = in_from (from_to 0 16) (length seen.queue) (omega arith) t.lawful.queue (omega arith) in (
      front_lawful g t,
      (
        (
          state_lawful seen.state,
          (
            steps_in seen.steps input w.steps (first_above seen.steps g.script),
            ((console, dump_lawful 0 seen.console w.console), (lost, (queue, dump_lawful 0 seen.queue w.queue))),
          ),
        ),
        (
          registers_lawful g.kept seen w t.lawful,
          (
            devices_lawful g.kept seen w t.lawful,
            rows_lawful rows 0 rows rows 0 seen.ram (omega arith) (omega arith) (omega arith) (omega arith) w.ram,
          ),
        ),
      ),
    )

-- ---- a disk

flag_small : (b : Bool) → from_bool b < 2
flag_small true = omega arith
flag_small false = omega arith

place_masked : (n : ℕ) → n % 4 ≡ 0 → n < 512 → bit_and n 0x1FC ≡ n
place_masked n four small = and_high_mask 9 2 (omega arith) n small ∙ (let e : n / 2 ^ 2 * 2 ^ 2 ≡ n = omega arith in e)

pub disk_lawful : (i : ℕ) (d : DiskState) → HasBlocks d → (disk i).IsLawful (disk_of d)
disk_lawful i d h =
    let is = h.disk in
    let rows = 32 * blocks_in d in
    let buffer : LawfulTimes dump_byte next_column 512 0 d.buffer =
    subst (λ (n : ℕ). LawfulTimes dump_byte next_column n 0 d.buffer) is.buffer (dump_lawful 0 d.buffer h.buffer) in (
      in_from (from_to 1 32768) (blocks_in d) is.some is.few (omega arith),
      (
        any_long d.block h.block,
        (
          bit_long (from_bool d.refused) (flag_small d.refused),
          (
            masked_long 0x1FC d.position (let w = is.within in omega arith) (place_masked d.position is.aligned is.within),
            (
              buffer,
              rows_lawful rows 0 rows rows 0 d.bytes (omega arith) (omega arith) (omega arith) (let e = is.whole in omega arith) h.bytes,
            ),
          ),
        ),
      ),
    )
