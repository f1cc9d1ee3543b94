-- What rows are put together of.
use Rattle.std.specs.Prelude.{refl, Result}
use Rattle.mb_port.specs.Routine.{Routine, ◌>>=◌, failing}
use Rattle.law_routines.specs.Twin.{Twin, Results}
use Rattle.law_routines.specs.Between.{Setting, Equal, between}
use Rattle.law_routines.proofs.Twinned.{twins_failing}
use Rattle.law_routines.proofs.Between.{twins_bind_same}
use Rattle.mb_instr.specs.declared.registers.Plain.{Plain}
use Rattle.mb_ea.specs.declared.reading.ReadFault.{ReadFault}
use Rattle.mb_writes.specs.declared.ends.WriteFault.{WriteFault}
use Rattle.def_instructions.specs.Ends.{OtherEnd, Cut, Unread, Stop, Rowed, restored, reading, writing}
use Rattle.law_twins.specs.Twins.{SameRead, SameWrite, SameStop}

-- both rows were cut short alike
abbrev pub SameCut : Setting → Cut OtherEnd → Cut OtherEnd → Type 0
SameCut x (Unread f) (Unread g) = SameRead x f g
SameCut x (Stop a) (Stop b) = SameStop x a b
SameCut x _ _ = ⊥

-- both were carried out alike, or cut short alike
abbrev pub SameRowed : Setting → Rowed → Rowed → Type 0
SameRowed x = Results Equal (SameCut x)

-- a row here and there
abbrev pub Rows : Setting → Routine Rowed → Routine Rowed → Type 1
Rows x m n = Twin (between x) Rowed Rowed (SameRowed x) m n

-- instructions that began with the same registers end alike, where their rows were cut short alike
pub restored_same : (x : Setting) (before : Plain) (c d : Cut OtherEnd) → SameCut x c d → SameStop x (restored before c) (restored before d)
restored_same x before (Unread f) (Unread g) h = (h, refl)
restored_same x before (Stop a) (Stop b) h = h
restored_same x before (Unread f) (Stop b) h = absurd h
restored_same x before (Stop a) (Unread g) h = absurd h

-- a part of one here and there, whose faults are related so
abbrev pub TwinParts : {A E : Type 0} → Setting → (E → E → Type 0) → Routine (Result A E) → Routine (Result A E) → Type 1
TwinParts {A} {E} x Ill m n = Twin (between x) (Result A E) (Result A E) (Results Equal Ill) m n

-- a part that reads
abbrev pub Reads : {A : Type 0} → Setting → Routine (Result A ReadFault) → Routine (Result A ReadFault) → Type 1
Reads x m n = TwinParts x (SameRead x) m n

-- a part that writes
abbrev pub Writes : {A : Type 0} → Setting → Routine (Result A WriteFault) → Routine (Result A WriteFault) → Type 1
Writes x m n = TwinParts x (SameWrite x) m n

-- a part whose fault cuts the row short
abbrev pub Stages : {A : Type 0} → Setting → Routine (Result A (Cut OtherEnd)) → Routine (Result A (Cut OtherEnd)) → Type 1
Stages x m n = TwinParts x (SameCut x) m n

-- a part, and what follows from its answer
pub then_twins : {A B E : Type 0} (x : Setting) (Ill : E → E → Type 0) {m n : Routine (Result A E)} {f g : A → Routine (Result B E)}
    → TwinParts x Ill m n → ((a : A) → TwinParts x Ill (f a) (g a)) → TwinParts x Ill (m >>= f) (n >>= g)
then_twins x Ill {m} {n} {f} {g} w more = twins_bind_same (between x) Ill Equal m n f g w more

-- a part whose fault is told in other words
pub failing_twins : {A E F : Type 0} (x : Setting) (Ill : E → E → Type 0) (Worse : F → F → Type 0) {how : E → F} {m n : Routine (Result A E)}
    → ((e f : E) → Ill e f → Worse (how e) (how f)) → TwinParts x Ill m n → TwinParts x Worse (failing how m) (failing how n)
failing_twins x Ill Worse {how} {m} {n} same w = twins_failing (between x) Equal Ill Worse how how m n same w

pub reading_twins : {A : Type 0} (x : Setting) {m n : Routine (Result A ReadFault)} → Reads x m n → Stages x (reading m) (reading n)
reading_twins x w = failing_twins x (SameRead x) (SameCut x) (λ e f h. h) w

pub writing_twins : {A : Type 0} (x : Setting) (p : Plain) {m n : Routine (Result A WriteFault)} → Writes x m n → Stages x (writing p m) (writing p n)
writing_twins x p w = failing_twins x (SameWrite x) (SameCut x) (λ e f h. (h, refl)) w
