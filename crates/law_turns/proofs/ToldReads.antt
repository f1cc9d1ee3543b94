-- What the frame of an access error tells of the read that was refused.
use Rattle.std.proofs.Common.{◌≡◌, ◌∙◌, ℕ, ◌+◌, ◌/◌, ◌%◌, ◌^◌, ◌≤◌, ◌==◌, ◌&&◌, not, Bool, true, false, cond, refl, ap, sym, arith}
use Rattle.std.proofs.Common.{Option, Some, None, List}
use Rattle.std.specs.Prelude.{slice_get}
use Rattle.mb_port.specs.declared.types.Space.{Space}
use Rattle.mb_port.specs.declared.types.Space.TheVariants.{User, Super}
use Rattle.mb_port.specs.declared.types.Fault.{Fault}
use Rattle.mb_frames.specs.declared.frame.Access.{Access}
use Rattle.mb_frames.specs.declared.pend.Pend.{Pend}
use Rattle.mb_frames.specs.AccessFields.{access_bits}
use Rattle.mb_frames.specs.AccessFields.{bit_if, is_other_page}
use Rattle.mb_frames.specs.declared.status_bits.TheConstants.{CM, MA, ATC, LK, RW}
use Rattle.mb_frames.specs.AccessFields.{status, read_fields, write_fields, line_fields, movem_fields, no_fields}
use Rattle.mb_frames.specs.AccessFields.{with_writeback_1, with_writeback_2, with_writeback_3}
use Rattle.def_machine.specs.declared.reference.Reference.{Reference}
use Rattle.def_guests.specs.Refills.{told_by}
use Rattle.law_turns.specs.Reads.{is_read, is_code, read_of_access}
use Rattle.mb_frames.proofs.StatusBits.{access_bits-le}

-- ---- bits

abbrev of_bit : Bool → ℕ
of_bit b = cond b 1 0

abbrev word : (ma atc lk : Bool) (low : ℕ) → ℕ
word ma atc lk low = bit_if ma MA + bit_if atc ATC + low + bit_if lk LK + RW

record Told (w low : ℕ) (lk : Bool) : Type 0 where
  cm : w / 2 ^ 12 % 2 ≡ 0
  rw_ : w / 2 ^ 8 % 2 ≡ 1
  locked : w / 2 ^ 9 % 2 ≡ of_bit lk
  mode : w % 4 ≡ low % 4

told : (ma atc lk : Bool) (low : ℕ) → low ≤ 110 → Told (word ma atc lk low) low lk
told true true true low h = record { cm = omega arith; rw_ = omega arith; locked = omega arith; mode = omega arith }
told true true false low h = record { cm = omega arith; rw_ = omega arith; locked = omega arith; mode = omega arith }
told true false true low h = record { cm = omega arith; rw_ = omega arith; locked = omega arith; mode = omega arith }
told true false false low h = record { cm = omega arith; rw_ = omega arith; locked = omega arith; mode = omega arith }
told false true true low h = record { cm = omega arith; rw_ = omega arith; locked = omega arith; mode = omega arith }
told false true false low h = record { cm = omega arith; rw_ = omega arith; locked = omega arith; mode = omega arith }
told false false true low h = record { cm = omega arith; rw_ = omega arith; locked = omega arith; mode = omega arith }
told false false false low h = record { cm = omega arith; rw_ = omega arith; locked = omega arith; mode = omega arith }

low_mode : (len : ℕ) (space : Space) (code : Bool) → access_bits len space code % 4 ≡ cond code 2 1
low_mode len User true = omega arith
low_mode len User false = omega arith
low_mode len Super true = omega arith
low_mode len Super false = omega arith

tests : (cm rw_ lk : ℕ) (b : Bool) → cm ≡ 0 → rw_ ≡ 1 → lk ≡ of_bit b → (not (cm == 1) && (rw_ == 1 && not (lk == 1))) ≡ not b
tests cm rw_ lk true h k l = rw (h, k, l) refl
tests cm rw_ lk false h k l = rw (h, k, l) refl

code_test : (m : ℕ) (code : Bool) → m ≡ cond code 2 1 → (m == 2) ≡ code
code_test m true h = rw h refl
code_test m false h = rw h refl

-- ---- a refused read

-- where it is no locked check
abbrev pub unlocked : Option Reference → Option Reference
unlocked None = None
unlocked (Some r) = cond r.write None (Some r)

read_told : (f : Fault) (first page : ℕ)
    → (is_read (read_fields f first page) ≡ not f.write) × (is_code (read_fields f first page) ≡ f.code) × ((read_fields f first page).fa ≡ f.at)
read_told f first page =
    let ea = cond f.code f.at first in
    let low = access_bits f.len f.space f.code in
    let t = told (f.atc && is_other_page page f.at ea) f.atc f.write low (access_bits-le f.len f.space f.code) in
    (tests _ _ _ f.write t.cm t.rw_ t.locked, code_test _ f.code (t.mode ∙ low_mode f.len f.space f.code), refl)

pub read_is_told : (space : Space) (f g : Fault) (first page : ℕ) → g ≡ record f { space = space }
    → read_of_access space (Some (read_fields f first page)) ≡ unlocked (Some (told_by g))
read_is_told space f g first page same =
    let (is, code, at) = read_told f first page in
    let a = read_fields f first page in
    let ref : Bool → ℕ → Option Reference = λ c n. Some (record { code = c; space = space; at = n; write = false }) in
    ap (λ (b : Bool). cond b (ref (is_code a) a.fa) None) is
    ∙ ap (λ (c : Bool). cond (not f.write) (ref c a.fa) None) code ∙ ap (λ (n : ℕ). cond (not f.write) (ref f.code n) None) at
    ∙ by_write f.write
    ∙ ap (λ (x : Fault). unlocked (Some (told_by x))) (sym same)
  where
    by_write : (w : Bool) → cond (not w) (let r : Option Reference = Some (record { code = f.code; space = space; at = f.at; write = false }) in r) None
        ≡ unlocked (Some (record { code = f.code; space = space; at = f.at; write = w }))
    by_write true = refl
    by_write false = refl

-- ---- any other access

none_by : (space : Space) (a : Access) → is_read a ≡ false → read_of_access space (Some a) ≡ None
none_by space a h =
    ap (λ (b : Bool). cond b (let r : Option Reference = Some (record { code = is_code a; space = space; at = a.fa; write = false }) in r) None) h

no_rw : (ma atc : Bool) (low : ℕ) → low ≤ 110 → (bit_if ma MA + bit_if atc ATC + low) / 2 ^ 8 % 2 ≡ 0
no_rw true true low h = omega arith
no_rw true false low h = omega arith
no_rw false true low h = omega arith
no_rw false false low h = omega arith

no_read : (cm rw_ lk : ℕ) → rw_ ≡ 0 → (not (cm == 1) && (rw_ == 1 && not (lk == 1))) ≡ false
no_read cm rw_ lk h = rw h (by_test (not (cm == 1)))
  where
    by_test : (b : Bool) → (b && false) ≡ false
    by_test true = refl
    by_test false = refl

status_reads_none : (f : Fault) (start page : ℕ) → status f start page / 2 ^ 8 % 2 ≡ 0
status_reads_none f start page = no_rw (f.atc && is_other_page page f.at start) f.atc (access_bits f.len f.space f.code) (access_bits-le f.len f.space f.code)

pub write_reads_none : (space : Space) (f : Fault) (first page : ℕ) (items : List Pend) → read_of_access space (Some (write_fields f first items page)) ≡ None
write_reads_none space f first page items =
    none_by space (write_fields f first items page) (no_read _ _ _ (ap (λ (n : ℕ). n / 2 ^ 8 % 2) (ssw_stays f.space (slice_get items 0) (slice_get items 1)
    (slice_get items 2) (record no_fields { ea = first; ssw = status f first page; fa = f.at })) ∙ status_reads_none f first page))
  where
    ssw_1 : (space : Space) (o : Option Pend) (a : Access) → (with_writeback_1 space o a).ssw ≡ a.ssw
    ssw_1 space None a = refl
    ssw_1 space (Some p) a = refl

    ssw_2 : (space : Space) (o : Option Pend) (a : Access) → (with_writeback_2 space o a).ssw ≡ a.ssw
    ssw_2 space None a = refl
    ssw_2 space (Some p) a = refl

    ssw_3 : (space : Space) (o : Option Pend) (a : Access) → (with_writeback_3 space o a).ssw ≡ a.ssw
    ssw_3 space None a = refl
    ssw_3 space (Some p) a = refl

    ssw_stays : (space : Space) (o p q : Option Pend) (a : Access)
        → (with_writeback_1 space o (with_writeback_2 space p (with_writeback_3 space q a))).ssw ≡ a.ssw
    ssw_stays space o p q a =
        ssw_1 space o (with_writeback_2 space p (with_writeback_3 space q a)) ∙ ssw_2 space p (with_writeback_3 space q a) ∙ ssw_3 space q a

pub line_reads_none : (space : Space) (f : Fault) (line : List ℕ) (page : ℕ) → read_of_access space (Some (line_fields f line page)) ≡ None
line_reads_none space f line page = none_by space (line_fields f line page) (no_read _ _ _ (status_reads_none f f.at page))

with_cm : (ma atc load : Bool) (low : ℕ) → low ≤ 110 → (bit_if ma MA + bit_if atc ATC + low + CM + bit_if load RW) / 2 ^ 12 % 2 ≡ 1
with_cm true true true low h = omega arith
with_cm true true false low h = omega arith
with_cm true false true low h = omega arith
with_cm true false false low h = omega arith
with_cm false true true low h = omega arith
with_cm false true false low h = omega arith
with_cm false false true low h = omega arith
with_cm false false false low h = omega arith

continued : (cm rw_ lk : ℕ) → cm ≡ 1 → (not (cm == 1) && (rw_ == 1 && not (lk == 1))) ≡ false
continued cm rw_ lk h = rw h refl

pub movem_reads_none : (space : Space) (f : Fault) (first start done words next : ℕ) (load : Bool) (page : ℕ)
    → read_of_access space (Some (movem_fields f first start done words next load page)) ≡ None
movem_reads_none space f first start done words next load page =
    let a = movem_fields f first start done words next load page in
    none_by space a (continued (a.ssw / 2 ^ 12 % 2) (a.ssw / 2 ^ 8 % 2) (a.ssw / 2 ^ 9 % 2)
    (with_cm (f.atc && is_other_page page f.at start) f.atc load (access_bits f.len f.space f.code) (access_bits-le f.len f.space f.code)))
