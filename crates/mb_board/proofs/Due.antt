-- Places in a script, and what arrives by its entries.
use Rattle.std.proofs.Common.{◌≡◌, ◌∙◌, ℕ, zero, suc, ◌+◌, ◌<◌, ◌≤◌, ◌≢◌, [], ◌∷◌, length, drop, refl, sym, ap, arith}
use Rattle.std.proofs.Common.{◌⊎◌, inl, inr, add-one, Bool, true, false, ◌&&◌, ◌||◌}
use Rattle.std.specs.Prelude.{Some, None, slice_get, ◌==◌, if◌then◌else◌}
use Rattle.std.proofs.lemmas.Option.{get_or_from_slice_get, slice_get_within, slice_get-get_or}
use Rattle.std.proofs.lemmas.List.{drop_all, get_or-drop, length-drop}
use Rattle.std.proofs.Math.Seq.{drop-cons}
use Rattle.std.proofs.lemmas.Bool.Decides.{nat_tests}
use Rattle.mb_script.specs.declared.entry.Entry.{Entry}
use Rattle.mb_script.specs.Script.{IsScript}
use Rattle.mb_devices.specs.Devices.{DeviceState}
use Rattle.def_machine.specs.Machine.{Entries, aborts, arrived, is_abort, taken_in}
use Rattle.def_runs.specs.Batches.{IsQuietAt}
use Rattle.mb_board.specs.Arrivals.{due_at, no_entry, IsNext}

-- ---- order

step_of_entry : (script : Entries) (place : ℕ) (entry : Entry) → slice_get script place ≡ Some entry → due_at script place ≡ entry.step
step_of_entry script place entry h = ap (λ (e : Entry). e.step) (get_or_from_slice_get script place entry no_entry h)

in_order : (script : Entries) (i j : ℕ) → IsScript script → i < j → j < length script → due_at script i ≤ due_at script j
in_order script i j is lt within = is.in_order i j no_entry lt within

cases : (i j : ℕ) → i ≤ j → (i < j) ⊎ (i ≡ j)
cases i j le = grind arith

-- the entries up to one of a step
pub past-through : (script : Entries) (place step : ℕ) (entry : Entry) → IsScript script → slice_get script place ≡ Some entry → entry.step ≤ step
    → (k : ℕ) → k < place + 1 → due_at script k ≤ step
past-through script place step entry is got le k lt =
    let here = step_of_entry script place entry got in
    let within = slice_get_within script place entry got in
    elim (cases k place (omega arith)) [
      | inl earlier ↦ let before = in_order script k place is earlier within in omega arith
      | inr same ↦ let there : due_at script k ≡ due_at script place = ap (λ (p : ℕ). due_at script p) same in omega arith
    ]

-- the entries from one of a later step on
pub later-from : (script : Entries) (place step : ℕ) (entry : Entry) → IsScript script → slice_get script place ≡ Some entry → step < entry.step
    → (k : ℕ) → place ≤ k → k < length script → step < due_at script k
later-from script place step entry is got lt k le within =
    let here = step_of_entry script place entry got in
    elim (cases place k le) [
      | inl later ↦ let behind = in_order script place k is later within in omega arith
      | inr same ↦ let there : due_at script place ≡ due_at script k = ap (λ (p : ℕ). due_at script p) same in omega arith
    ]

-- ---- arrivals

not_now : (step : ℕ) (entry : Entry) (d : DeviceState) → entry.step ≢ step → (if entry.step == step then taken_in entry.input d else d) ≡ d
not_now step entry d ne = grind (arith, nat_tests)

now : (step : ℕ) (entry : Entry) (d : DeviceState) → entry.step ≡ step → (if entry.step == step then taken_in entry.input d else d) ≡ taken_in entry.input d
now step entry d e = grind (arith, nat_tests)

-- entries of other steps bring nothing
pub arrived-past : (n step : ℕ) (script : Entries) (d : DeviceState) → ((k : ℕ) → k < n → due_at script k ≢ step)
    → arrived step (drop n script) d ≡ arrived step script d
arrived-past zero step script d ne = refl
arrived-past (suc n) step [] d ne = refl
arrived-past (suc n) step (entry ∷ script) d ne =
    let rest = arrived-past n step script d (λ k lt. ne (suc k) (omega arith)) in
    let first : entry.step ≢ step = ne 0 (omega arith) in
    rest ∙ ap (λ (u : DeviceState). arrived step script u) (sym (not_now step entry d first))

-- what arrives from the entry of this step on
arrived-here : (step : ℕ) (entry : Entry) (script : Entries) (d : DeviceState) → entry.step ≡ step
    → arrived step (entry ∷ script) d ≡ arrived step script (taken_in entry.input d)
arrived-here step entry script d e = ap (λ (u : DeviceState). arrived step script u) (now step entry d e)

-- an entry of this step brings what it has
cut_at : (script : Entries) (place : ℕ) (entry : Entry) → slice_get script place ≡ Some entry → drop place script ≡ entry ∷ drop (place + 1) script
cut_at script place entry got =
    let within = slice_get_within script place entry got in
    let here = get_or_from_slice_get script place entry no_entry got in
    rw (add-one, ← here) (drop-cons script place no_entry within)

pub arrived-next : (script : Entries) (place step : ℕ) (entry : Entry) (d : DeviceState) → slice_get script place ≡ Some entry → entry.step ≡ step
    → arrived step (drop place script) d ≡ arrived step (drop (place + 1) script) (taken_in entry.input d)
arrived-next script place step entry d got e =
    rw (cut_at script place entry got) (arrived-here step entry (drop (place + 1) script) d e)

-- no entry is left of this step
none_there : (script : Entries) (place step : ℕ) → ((k : ℕ) → place ≤ k → k < length script → step < due_at script k)
    → (k : ℕ) → k < length (drop place script) → due_at (drop place script) k ≢ step
none_there script place step later k lt e =
    let there : due_at (drop place script) k ≡ due_at script (place + k) =
    ap (λ (e : Entry). e.step) (get_or-drop place script k no_entry) in
    let within : place + k < length script = omega (arith, length-drop place script, lt) in
    let after = later (place + k) (omega arith) within in absurd (omega (arith, there, after, e))

pub arrived-none : (script : Entries) (place step : ℕ) (d : DeviceState) → ((k : ℕ) → place ≤ k → k < length script → step < due_at script k)
    → arrived step (drop place script) d ≡ d
arrived-none script place step d later =
    let rest = drop place script in
    sym (arrived-past (length rest) step rest d (none_there script place step later))
    ∙ ap (λ (xs : Entries). arrived step xs d) (drop_all (length rest) rest (omega arith))

-- ---- aborts

not_same : (step due : ℕ) → due ≢ step → (due == step) ≡ false
not_same step due ne = grind (arith, nat_tests)

is_same : (step due : ℕ) → due ≡ step → (due == step) ≡ true
is_same step due e = grind (arith, nat_tests)

-- entries of other steps bring none
pub aborts-past : (n step : ℕ) (script : Entries) → ((k : ℕ) → k < n → due_at script k ≢ step) → aborts step (drop n script) ≡ aborts step script
aborts-past zero step script ne = refl
aborts-past (suc n) step [] ne = refl
aborts-past (suc n) step (entry ∷ script) ne =
    let first : entry.step ≢ step = ne 0 (omega arith) in
    aborts-past n step script (λ k lt. ne (suc k) (omega arith))
    ∙ sym (ap (λ (b : Bool). (b && is_abort entry.input) || aborts step script) (not_same step entry.step first))

-- an entry of this step brings one, or those behind it do
aborts-here : (step : ℕ) (entry : Entry) (script : Entries) → entry.step ≡ step → aborts step (entry ∷ script) ≡ (is_abort entry.input || aborts step script)
aborts-here step entry script e = ap (λ (b : Bool). (b && is_abort entry.input) || aborts step script) (is_same step entry.step e)

pub aborts-next : (script : Entries) (place step : ℕ) (entry : Entry) → slice_get script place ≡ Some entry → entry.step ≡ step
    → aborts step (drop place script) ≡ (is_abort entry.input || aborts step (drop (place + 1) script))
aborts-next script place step entry got e =
    ap (aborts step) (cut_at script place entry got) ∙ aborts-here step entry (drop (place + 1) script) e

pub aborts-none : (script : Entries) (place step : ℕ) → ((k : ℕ) → place ≤ k → k < length script → step < due_at script k)
    → aborts step (drop place script) ≡ false
aborts-none script place step later =
    let rest = drop place script in
    sym (aborts-past (length rest) step rest (none_there script place step later))
    ∙ ap (aborts step) (drop_all (length rest) rest (omega arith))

-- so far, with one more and those that are left
so_far : (before here left : Bool) → (before || (here || left)) ≡ ((here || before) || left)
so_far true true left = refl
so_far true false left = refl
so_far false true left = refl
so_far false false left = refl

pub so_far-next : (script : Entries) (place step : ℕ) (entry : Entry) (before now : Bool) → slice_get script place ≡ Some entry → entry.step ≡ step
    → now ≡ (is_abort entry.input || before) → (now || aborts step (drop (place + 1) script)) ≡ (before || aborts step (drop place script))
so_far-next script place step entry before now got e is =
    let left = aborts step (drop (place + 1) script) in
    ap (λ (b : Bool). b || left) is ∙ sym (so_far before (is_abort entry.input) left)
    ∙ sym (ap (λ (b : Bool). before || b) (aborts-next script place step entry got e))

pub so_far-none : (before left : Bool) → left ≡ false → (before || left) ≡ before
so_far-none true left e = refl
so_far-none false left e = e

-- ---- places

-- there is an entry at each place inside
pub none-outside : (script : Entries) (place : ℕ) → slice_get script place ≡ None → place < length script → ⊥
none-outside script place none within =
    let some = slice_get-get_or script place no_entry within in (cc)

-- the entry at a place is of no step so far, and not of the next one: then all from there on are of later ones
pub later-behind : (script : Entries) (place taken : ℕ) (entry : Entry) → IsScript script → slice_get script place ≡ Some entry → entry.step ≢ taken + 1
    → ((k : ℕ) → place ≤ k → k < length script → taken < due_at script k)
    → (k : ℕ) → place ≤ k → k < length script → taken + 1 < due_at script k
later-behind script place taken entry is got ne later =
    let here = step_of_entry script place entry got in
    let open_yet = later place (omega arith) (slice_get_within script place entry got) in
    later-from script place (taken + 1) entry is got (omega arith)

-- there is none at a place that is not inside
pub later-outside : (script : Entries) (place taken : ℕ) → slice_get script place ≡ None
    → (k : ℕ) → place ≤ k → k < length script → taken + 1 < due_at script k
later-outside script place taken none k le lt = absurd (none-outside script place none (omega arith))

-- where no entry from the place on is of the next step, nothing arrives at it
pub quiet-at : (script : Entries) (place taken : ℕ) → IsNext script taken place → ((k : ℕ) → place ≤ k → k < length script → taken + 1 < due_at script k)
    → IsQuietAt script (taken + 1)
quiet-at script place taken at later =
    let past : (k : ℕ) → k < place → due_at script k ≢ taken + 1 = λ k lt e. let h = at.past k lt in absurd (omega (arith, h, e)) in
    record {
      devices = λ d. sym (arrived-past place (taken + 1) script d past) ∙ arrived-none script place (taken + 1) d later;
      unaborted = sym (aborts-past place (taken + 1) script past) ∙ aborts-none script place (taken + 1) later;
    }

pub stays-next : (script : Entries) (place taken : ℕ) → IsNext script taken place → ((k : ℕ) → place ≤ k → k < length script → taken + 1 < due_at script k)
    → IsNext script (taken + 1) place
stays-next script place taken at later = record {
  within = at.within;
  past = λ k lt. let h = at.past k lt in omega (arith, h);
  later = later;
}
