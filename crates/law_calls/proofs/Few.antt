-- What routines are put together of, and how many calls they make.
use Rattle.std.specs.Prelude.{◌≡◌, ℕ, ◌+◌, ◌-◌, ◌≤◌, nat_le, Bool, true, false, Result, Ok, Err}
use Rattle.std.proofs.Common.{arith}
use Rattle.mb_port.specs.Routine.{Call, Routine, Return, Ask, Bus, run, choose, tried, ◌>>=◌, other_fault, failing, sure}
use Rattle.mb_ea.specs.declared.reading.ReadFault.{ReadFault}
use Rattle.def_instructions.specs.Ends.{OtherEnd, Cut, Unread, Stop, reading}
use Rattle.law_calls.specs.Calls.{calls, IsReadFault}

-- a part of a row, which may cut it short
abbrev pub Part : Type 0 → Type 1
Part A = Routine (Result A (Cut OtherEnd))

-- A row that was cut short so was refused a read.
abbrev pub CutUnread : Cut OtherEnd → Type 0
CutUnread (Unread refused) = Unit {0}
CutUnread (Stop stop) = IsReadFault stop.ended

abbrev pub PartUnread : {A : Type 0} → Result A (Cut OtherEnd) → Type 0
PartUnread (Ok a) = ⊥
PartUnread (Err c) = CutUnread c

module _ {S : Type 0} (bus : Bus S) where
  -- it makes at most so many calls
  pub record Few {A : Type 0} (n : ℕ) (m : Routine A) : Type 0 where
    pub few : (s : S) → calls bus m s ≤ n

  -- where it was refused a read
  pub record Early {A : Type 0} (n : ℕ) (m : Part A) : Type 0 where
    pub early : (s : S) → PartUnread ((run bus m s).0) → calls bus m s ≤ n

  -- it is never refused a read
  pub record Never {A : Type 0} (m : Part A) : Type 0 where
    pub never : (s : S) → PartUnread ((run bus m s).0) → ⊥

  -- ---- few calls

  pub few_done : {A : Type 0} (a : A) → Few 0 (Return a)
  few_done a = record { few = λ s. omega arith }

  pub few_none : {A : Type 0} (n : ℕ) (a : A) → Few n (Return a)
  few_none n a = record { few = λ s. omega arith }

  pub few_more : {A : Type 0} {a b : ℕ} {m : Routine A} → a ≤ b → Few a m → Few b m
  few_more le h = record { few = λ s. let first = h.few s in omega arith }

  pub few_ask : (c : Call) → Few 1 (Ask c)
  few_ask c = record { few = λ s. omega arith }

  tried_few : {A B E : Type 0} (n : ℕ) (r : Result A E) (f : A → Routine (Result B E)) (t : S) → ((a : A) → Few n (f a)) → calls bus (tried r f) t ≤ n
  tried_few n (Ok a) f t h = (h a).few t
  tried_few n (Err e) f t h = omega arith

  pub few_then : {A B E : Type 0} {a b : ℕ} {m : Routine (Result A E)} {f : A → Routine (Result B E)} → Few a m → ((x : A) → Few b (f x))
      → Few (a + b) (m >>= f)
  few_then {b = b} {m = m} {f} h more = record {
    few = λ s. let first = h.few s in let last = tried_few b ((run bus m s).0) f ((run bus m s).1) more in omega arith;
  }

  pub few_failing : {A E F : Type 0} {n : ℕ} {m : Routine (Result A E)} (g : E → F) → Few n m → Few n (failing g m)
  few_failing g h = record { few = λ s. let first = h.few s in omega arith }

  pub few_choose : {A : Type 0} {n : ℕ} {x y : Routine A} (b : Bool) → Few n x → Few n y → Few n (choose b x y)
  few_choose true h more = h
  few_choose false h more = more

  -- ---- rows that were refused a read

  pub never_early : {A : Type 0} {m : Part A} (n : ℕ) → Never m → Early n m
  never_early n h = record { early = λ s u. absurd (h.never s u) }

  pub early_none : {A : Type 0} (n : ℕ) (r : Result A (Cut OtherEnd)) → Early n (Return r)
  early_none n r = record { early = λ s u. omega arith }

  pub early_choose : {A : Type 0} {n : ℕ} {x y : Part A} (b : Bool) → Early n x → Early n y → Early n (choose b x y)
  early_choose true h more = h
  early_choose false h more = more

  read_early : {A B : Type 0} (n : ℕ) (r : Result A ReadFault) (f : A → Part B) (t : S) → ((a : A) → Early n (f a))
      → let m : Part B = tried (other_fault (λ refused. Unread refused) r) f in PartUnread ((run bus m t).0) → calls bus m t ≤ n
  read_early n (Ok a) f t h u = (h a).early t u
  read_early n (Err e) f t h u = omega arith

  -- a part that reads, and what follows it
  pub reading_then : {A B : Type 0} {a n : ℕ} {m : Routine (Result A ReadFault)} {f : A → Part B} → Few a m → nat_le a n ≡ true
      → ((x : A) → Early (n - a) (f x)) → Early n (reading m >>= f)
  reading_then {a = a} {n} {m} {f} h fits more = record {
    early = λ s u.
        let first = h.few s in
        let last = read_early (n - a) ((run bus m s).0) f ((run bus m s).1) more u in
        let le : a ≤ n = grind (arith, fits) in omega arith;
  }

  -- ---- rows that are refused none

  pub never_carried : {A : Type 0} (a : A) → Never (Return (Ok a))
  never_carried a = record { never = λ s u. u }

  never_tried : {A B : Type 0} (r : Result A (Cut OtherEnd)) (f : A → Part B) (t : S) → (PartUnread r → ⊥) → ((a : A) → Never (f a))
      → PartUnread ((run bus (tried r f) t).0) → ⊥
  never_tried (Ok a) f t h more u = (more a).never t u
  never_tried (Err e) f t h more u = h u

  pub never_then : {A B : Type 0} {m : Part A} {f : A → Part B} → Never m → ((a : A) → Never (f a)) → Never (m >>= f)
  never_then {m = m} {f} h more = record { never = λ s u. never_tried ((run bus m s).0) f ((run bus m s).1) (h.never s) more u }

  stops : {A E : Type 0} (how : E → OtherEnd) → ((e : E) → IsReadFault ((how e).ended) → ⊥) → (r : Result A E)
      → PartUnread (other_fault (λ e. Stop (how e)) r) → ⊥
  stops how h (Ok a) u = u
  stops how h (Err e) u = h e u

  -- a part whose fault ends the instruction otherwise
  pub never_stopping : {A E : Type 0} (how : E → OtherEnd) (m : Routine (Result A E)) → ((e : E) → IsReadFault ((how e).ended) → ⊥)
      → Never (failing (λ e. Stop (how e)) m)
  never_stopping how m h = record { never = λ s u. stops how h ((run bus m s).0) u }

  pub never_sure : {A : Type 0} (m : Routine A) → Never (sure m)
  never_sure m = record { never = λ s u. u }

  pub never_choose : {A : Type 0} {x y : Part A} (b : Bool) → Never x → Never y → Never (choose b x y)
  never_choose true h more = h
  never_choose false h more = more
