-- Each guest that a lawful snapshot says is one that can be saved.
use Rattle.std.proofs.Common.{◌≡◌, ℕ, zero, suc, ◌+◌, ◌*◌, ◌/◌, ◌^◌, ◌≤◌, ◌<◌, min, eqb, leb, Bool, true, false, List, [], ◌∷◌, ◌++◌, length, refl, sym, subst, ◌∙◌, arith, inl, inr}
use Rattle.std.specs.Prelude.{All, Option, Some, None, slice_get, slice_index, pred, not, ◌||◌, ◌⊎◌}
use Rattle.std.specs.List.{AllPairs, list_any}
use Rattle.std.proofs.lemmas.Bool.{cases_Bool, and_parts, eqb-true, leb-true, ne_eqb}
use Rattle.std.proofs.lemmas.List.Elements.{All-nil, All-cons, All-map, All-weaker}
use Rattle.std.proofs.lemmas.List.Folds.{list_any-append}
use Rattle.std.proofs.lemmas.List.Kept.{AllPairs-cons}
use Rattle.mb_port.specs.declared.types.MmuReg.{MmuReg}
use Rattle.mb_port.specs.declared.types.MmuReg.TheVariants.{Tc, Itt0, Itt1, Dtt0, Dtt1, Mmusr, Urp, Srp}
use Rattle.mb_port.specs.declared.types.Space.{Space}
use Rattle.mb_port.specs.Registers.{mmu_register}
use Rattle.mb_instr.specs.Control.{kept_bits}
use Rattle.mb_instr.specs.declared.control.ControlRegister.TheVariants as control
use Rattle.mb_model.specs.declared.kept.Kept.{Kept}
use Rattle.mb_model.specs.Keeping.{Apart, NamesPages, is_of}
use Rattle.mb_model.proofs.ApartLemmas.{is_of-sym, none_found}
use Rattle.mb_saved.specs.declared.line.RamLine.{RamLine}
use Rattle.mb_saved.specs.Saved.{AgreesWith, Fits, HasBits, IsLawful, IsLine}
use Rattle.mb_spelling.specs.Decimals.{from_to}
use Rattle.mb_spelling.specs.Ends.{LawfulChain}
use Rattle.mb_spelling.specs.Hex.{May, among}
use Rattle.mb_spelling.specs.Lists.{LawfulTimes, LawfulUntil}
use Rattle.mb_spelling.proofs.Ranges.{in_parts}
use Rattle.vm_snapshot.specs.Guests.{Disk, Guest, Registers, bit, control_registers, count, guest, guests, longs, rams, registers, status, translation_registers}
use Rattle.vm_snapshot.specs.Memory.{IsRow, row_lines}
use Rattle.vm_snapshot.specs.Pages.{kept_counts, kept_line, with_kept}
use Rattle.vm_snapshot.specs.Plans.{IsRead, Plan, cpu_of, guest_of, mmu_of, saved_of}
use Rattle.vm_snapshot.specs.declared.plan.SnapGuest.{SnapGuest}
use Rattle.vm_snapshot.proofs.Held.{masked_is, row_fits}

-- ---- registers

held_at : (fields : List (List ℕ × May)) (values : List ℕ) (i : ℕ) (field : List ℕ × May) → slice_get fields i ≡ Some field → (longs fields).IsLawful values
    → field.1 0 (slice_index values i) ≡ true
held_at [] values i field e l = absurd (let contrary : None ≡ Some field = e in cc)
held_at ((name, may) ∷ others) [] i field e l = absurd l
held_at ((name, may) ∷ others) (value ∷ values) zero field e l =
    let same : (name, may) ≡ field = cc in subst (λ (f : List ℕ × May). f.1 0 value ≡ true) same l.0.1
held_at ((name, may) ∷ others) (value ∷ values) (suc i) field e l = held_at others values i field e l.1

translation_bits : (r : Registers) → (longs translation_registers).IsLawful r.translation_values → (which : MmuReg)
    → Fits (kept_bits (control.Mmu which)) (mmu_register (mmu_of r) which)
translation_bits r l Tc = masked_is 0xC000 _ (held_at translation_registers r.translation_values 0 _ refl l)
translation_bits r l Itt0 = masked_is 0xFFFFE364 _ (held_at translation_registers r.translation_values 1 _ refl l)
translation_bits r l Itt1 = masked_is 0xFFFFE364 _ (held_at translation_registers r.translation_values 2 _ refl l)
translation_bits r l Dtt0 = masked_is 0xFFFFE364 _ (held_at translation_registers r.translation_values 3 _ refl l)
translation_bits r l Dtt1 = masked_is 0xFFFFE364 _ (held_at translation_registers r.translation_values 4 _ refl l)
translation_bits r l Mmusr = masked_is 0xFFFFFFF7 _ (held_at translation_registers r.translation_values 5 _ refl l)
translation_bits r l Urp = masked_is 0xFFFFFE00 _ (held_at translation_registers r.translation_values 6 _ refl l)
translation_bits r l Srp = masked_is 0xFFFFFE00 _ (held_at translation_registers r.translation_values 7 _ refl l)

has_bits : (stopped : Bool) (r : Registers) → registers.IsLawful r → HasBits (cpu_of stopped r) (mmu_of r)
has_bits stopped r l = record {
  status = masked_is 0xF71F _ (held_at control_registers r.control_values 4 _ refl l.1.1.0);
  source = masked_is 0x7 _ (held_at control_registers r.control_values 6 _ refl l.1.1.0);
  destination = masked_is 0x7 _ (held_at control_registers r.control_values 7 _ refl l.1.1.0);
  caches = masked_is 0x80008000 _ (held_at control_registers r.control_values 8 _ refl l.1.1.0);
  translation = translation_bits r l.1.1.1;
}

-- ---- what is kept

not_true : (b : Bool) → not b ≡ true → b ≡ false
not_true false e = refl
not_true true e = absurd (let contrary : false ≡ true = e in cc)

first_false : (a b : Bool) → (a || b) ≡ false → a ≡ false
first_false false b e = refl
first_false true b e = absurd (let contrary : true ≡ false = e in cc)

second_false : (a b : Bool) → (a || b) ≡ false → b ≡ false
second_false false b e = e
second_false true b e = absurd (let contrary : true ≡ false = e in cc)

-- an entry is among these
Known : Kept → List Kept → Type 0
Known k kept = (space : Space) (page : ℕ) → list_any (is_of space page) kept ≡ false → is_of space page k ≡ false

known_more : (k other : Kept) (kept : List Kept) → Known k kept → Known k (kept ++ other ∷ [])
unfolding Known
known_more k other kept known space page none =
    known space page (first_false _ (list_any (is_of space page) (other ∷ [])) (sym (list_any-append (is_of space page) kept (other ∷ [])) ∙ none))

known_last : (k : Kept) (kept : List Kept) → Known k (kept ++ k ∷ [])
unfolding Known
known_last k kept space page none =
    first_false (is_of space page k) false
    (second_false (list_any (is_of space page) kept) _ (sym (list_any-append (is_of space page) kept (k ∷ [])) ∙ none))

abbrev LawfulKept : (n : ℕ) (before kept : List Kept) → Type 0
LawfulKept n before kept = LawfulTimes (λ left kept. kept_line kept) with_kept n before kept

none_later : (n : ℕ) (k : Kept) (before later : List Kept) → Known k before → LawfulKept n before later → list_any (is_of k.space k.page) later ≡ false
unfolding Known
none_later n k before [] known l = refl
none_later zero k before (other ∷ later) known l = absurd l
none_later (suc n) k before (other ∷ later) known l =
    let apart : is_of k.space k.page other ≡ false =
    is_of-sym k other ∙ known other.space other.page (not_true (list_any (is_of other.space other.page) before) l.0.1.0.1) in
    let rest : list_any (is_of k.space k.page) later ≡ false = none_later n k (before ++ other ∷ []) later (known_more k other before known) l.1 in
    rw (apart, rest) refl

all_apart : (n : ℕ) (before kept : List Kept) → LawfulKept n before kept → Apart kept
all_apart n before [] l = tt
all_apart zero before (k ∷ kept) l = absurd l
all_apart (suc n) before (k ∷ kept) l =
    (none_found (is_of k.space k.page) kept (none_later n k (before ++ k ∷ []) kept (known_last k before) l.1), all_apart n (before ++ k ∷ []) kept l.1)

all_name : (n : ℕ) (before kept : List Kept) → LawfulKept n before kept → All NamesPages kept
all_name n before [] l = All-nil NamesPages
all_name zero before (k ∷ kept) l = absurd l
all_name (suc n) before (k ∷ kept) l =
    let page = l.0.1.0.0 in
    let frame = l.0.1.1.0.0 in
    All-cons NamesPages k kept (omega (arith, page), omega (arith, frame)) (all_name n (before ++ k ∷ []) kept l.1)

-- ---- lines of RAM

all_lines : (kib most from : ℕ) (lines : List RamLine) → LawfulUntil (row_lines (64 * kib)) most from lines → All (IsLine (1024 * kib)) lines
all_lines kib most from [] l = All-nil (IsLine (1024 * kib))
all_lines kib zero from (line ∷ lines) l = absurd l
all_lines kib (suc most) from (line ∷ lines) l =
    let is : IsRow (64 * kib) from line = l.1 in
    let fits = row_fits (64 * kib) from line is in
    All-cons (IsLine (1024 * kib)) line lines (record { aligned = is.aligned; inside = omega (arith, fits); count = is.count; some = is.some })
    (all_lines kib most _ lines l.2)

all_after : (rows most from low : ℕ) (lines : List RamLine) → low ≤ from → LawfulUntil (row_lines rows) most from lines
    → All (λ (line : RamLine). 16 * low ≤ line.at) lines
all_after rows most from low [] le l = All-nil (λ (line : RamLine). 16 * low ≤ line.at)
all_after rows zero from low (line ∷ lines) le l = absurd l
all_after rows (suc most) from low (line ∷ lines) le l =
    let is : IsRow rows from line = l.1 in
    let after = is.after in
    All-cons (λ (line : RamLine). 16 * low ≤ line.at) line lines (omega (arith, after))
    (all_after rows most (line.at / 16 + 1) low lines (omega (arith, after)) l.2)

all_rise : (rows most from : ℕ) (lines : List RamLine) → LawfulUntil (row_lines rows) most from lines
    → AllPairs (λ (first later : RamLine). first.at < later.at) lines
all_rise rows most from [] l = λ i j d before inside. absurd (omega arith)
all_rise rows zero from (line ∷ lines) l = absurd l
all_rise rows (suc most) from (line ∷ lines) l =
    AllPairs-cons (λ (first later : RamLine). first.at < later.at) line lines
    (All-weaker (λ (later : RamLine). 16 * (line.at / 16 + 1) ≤ later.at) (λ (later : RamLine). line.at < later.at) (λ later le. omega (arith, le)) lines
    (all_after rows most (line.at / 16 + 1) (line.at / 16 + 1) lines (omega arith) l.2)) (all_rise rows most (line.at / 16 + 1) lines l.2)

-- ---- devices

one_of : (a b n : ℕ) → among (a ∷ b ∷ []) 0 n ≡ true → (n ≡ a) ⊎ (n ≡ b)
one_of a b n e =
    let first : a / 16 ^ 0 ≡ a = omega arith in
    let second : b / 16 ^ 0 ≡ b = omega arith in
    elim (cases_Bool (eqb (a / 16 ^ 0) n)) [
      | inl h ↦ inl (sym (sym first ∙ eqb-true _ n h))
      | inr h ↦ elim (cases_Bool (eqb (b / 16 ^ 0) n)) [
        | inl g ↦ inr (sym (sym second ∙ eqb-true _ n g))
        | inr g ↦ absurd (let contrary : false ≡ true = rw (h, g) at e in cc)
      ]
    ]

is_bit : (n : ℕ) → bit 0 n ≡ true → n < 2
is_bit n e = elim (one_of 0 1 n e) [ inl h ↦ omega (arith, h) | inr h ↦ omega (arith, h) ]

agrees : (queue : List ℕ) (n : ℕ) → status queue 0 n ≡ true → AgreesWith queue n
agrees [] n e = elim (one_of 2 6 n e) [ inl h ↦ rw h refl | inr h ↦ rw h refl ]
agrees (b ∷ queue) n e =
    let some : eqb (suc (length queue)) 0 ≡ false = ne_eqb (suc (length queue)) 0 (λ none. omega (arith, none)) in
    elim (one_of 3 7 n e) [ inl h ↦ rw (h, some) refl | inr h ↦ rw (h, some) refl ]

counts_within : (period n : ℕ) → count period 0 n ≡ true → (n ≤ period) × (0 < period → 0 < n)
counts_within period n e =
    let parts = and_parts (leb (min 1 period / 16 ^ 0) n) (leb n (period / 16 ^ 0)) e in
    let least = leb-true (min 1 period / 16 ^ 0) n parts.0 in
    let most = leb-true n (period / 16 ^ 0) parts.1 in
    (omega (arith, most), λ some. omega (arith, least, some))

-- ---- a guest

guest_lawful : (i : ℕ) (g : Guest) → (guest i).IsLawful g → IsLawful (saved_of g)
guest_lawful i g l =
    let front = l.0 in
    let progress = l.1.0 in
    let devices = l.1.1.1.0 in
    let lines = l.1.1.1.1 in
    let ram = in_parts rams g.front.ram front.0 in
    let period = counts_within g.devices.period g.devices.count devices.1.1.1.0.1 in
    record {
      ram = (omega (arith, ram.0), omega (arith, ram.1), omega (arith, ram.2));
      bits = has_bits _ g.registers l.1.1.0;
      stopped = refl;
      kept = record {
        few = (in_parts kept_counts (length g.front.kept) front.1.0.0).1;
        names = all_name (length g.front.kept) [] g.front.kept front.1.0.1;
        apart = all_apart (length g.front.kept) [] g.front.kept front.1.0.1;
      };
      lines = all_lines g.front.ram _ 0 g.lines lines;
      in_order = all_rise (64 * g.front.ram) _ 0 g.lines lines;
      console = (in_parts (from_to 0 65536) (length g.progress.console) progress.1.1.0.0).1;
      queue = (in_parts (from_to 0 16) (length g.progress.queue) progress.1.1.1.1.0).1;
      status = agrees g.progress.queue g.devices.status devices.1.0.1;
      ctrl = is_bit g.devices.ctrl devices.0.1;
      count = period.0;
      runs = period.1;
      pending = is_bit g.devices.pending devices.1.1.1.1.1;
    }

all_lawful : (more i : ℕ) (list : List (Guest × Option Disk)) → LawfulChain guests more i list
    → All (λ (v : Guest × Option Disk). IsLawful (saved_of (v.0))) list
all_lawful more i [] l = absurd l
all_lawful zero i (v ∷ []) l = All-cons (λ (v : Guest × Option Disk). IsLawful (saved_of (v.0))) v [] (guest_lawful i (v.0) l.0) (All-nil _)
all_lawful zero i (v ∷ other ∷ list) l = absurd l
all_lawful (suc more) i (v ∷ list) l =
    All-cons (λ (v : Guest × Option Disk). IsLawful (saved_of (v.0))) v list (guest_lawful i (v.0) l.0) (all_lawful more (i + 1) list l.2)

pub plan_lawful : (text : List ℕ) (plan : Plan) → IsRead text plan → All (λ (g : SnapGuest). IsLawful g.saved) plan.guests
plan_lawful text plan read =
    let list = read.says.guests in
    subst (λ (p : Plan). All (λ (g : SnapGuest). IsLawful g.saved) p.guests) read.is_plan
    (All-map (λ (g : SnapGuest). IsLawful g.saved) guest_of list (all_lawful (pred (length list)) 1 list read.lawful.1.1.1.1))
