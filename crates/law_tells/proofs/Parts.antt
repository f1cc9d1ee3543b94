-- What rows are put together of.
use Rattle.std.specs.Prelude.{refl, Result, Ok, Err}
use Rattle.std.proofs.Common.{inr}
use Rattle.mb_port.specs.Routine.{Routine, Return, ◌>>=◌, ◌>>◌, sure}
use Rattle.mb_port.specs.declared.types.Space.{Space}
use Rattle.law_routines.specs.Refusal.{Fact, Ends}
use Rattle.law_routines.specs.Tree.{tree_of}
use Rattle.law_routines.proofs.Told.{tells_ok, tells_err, tells_bind, tells_failing, tells_weaker, tells_sure}
use Rattle.mb_instr.specs.declared.registers.Plain.{Plain}
use Rattle.mb_ea.specs.declared.reading.ReadFault.{ReadFault}
use Rattle.mb_writes.specs.declared.ends.WriteFault.{WriteFault}
use Rattle.mb_writes.specs.declared.ends.Ended.TheVariants as ended
use Rattle.mb_writes.specs.declared.transfers.Movem.{Movem}
use Rattle.mb_writes.specs.Writing.{write_pieces_of}
use Rattle.def_instructions.specs.Ends.{Carried, OtherEnd, Cut, Unread, Stop, Rowed, restored, restoring, reading, writing}
use Rattle.law_tells.specs.Guarded.{Guarded, quiet}
use Rattle.law_tells.specs.Left.{Left, Answered, IsRest, SameCalls, Telling}
use Rattle.law_tells.proofs.Resumed.{goes_to_end}

-- a part that reads: where it is refused, nothing was written
abbrev pub ReadLeft : {S A : Type 0} → Guarded S → Fact S A ReadFault
ReadLeft x rest t refused = Answered x rest t refused.fault × x.unwritten t

-- and its answer is of P
abbrev pub Reads : {S A : Type 0} → Guarded S → (A → Type 0) → Routine (Result A ReadFault) → Type 0
Reads x P m = Telling x (quiet x) m (ReadLeft x) (λ a s. quiet x s × P a)

-- a part that writes, and answers this where it does not answer earlier without any call
abbrev pub StoreLeft : {S A : Type 0} → Guarded S → Space → A → Fact S A WriteFault
StoreLeft x space a rest t refused =
    Answered x rest t refused.fault × SameCalls rest (write_pieces_of space refused.first refused.rest.items >> Return (Ok a))
    × IsRest refused.rest.items

abbrev pub Writes : {S A : Type 0} → Guarded S → Space → A → Routine (Result A WriteFault) → Type 0
Writes x space a m = Telling x x.serving m (StoreLeft x space a) (λ b s. x.serving s)

-- what is left of an instruction that began with these registers, where its row was cut short
abbrev pub RowLeft : {S : Type 0} → Guarded S → Space → Plain → (Movem → Type 0) → Fact S Carried (Cut OtherEnd)
RowLeft x space before moves rest t cut = Left x space before moves (restoring before rest) t (restored before cut)

-- the row of such an instruction
abbrev pub RowTells : {S : Type 0} → Guarded S → Space → Plain → (Movem → Type 0) → Routine Rowed → Type 0
RowTells x space before moves m = Telling x (quiet x) m (RowLeft x space before moves) (λ done s. x.serving s)

-- the end of a row, where it may have written something already
abbrev pub Tail : {S : Type 0} → Guarded S → Space → Plain → (Movem → Type 0) → Routine Rowed → Type 0
Tail x space before moves m = Telling x x.serving m (RowLeft x space before moves) (λ done s. x.serving s)

-- a part that is never refused a call
abbrev pub Calm : {S A : Type 0} → Guarded S → Routine (Result A (Cut OtherEnd)) → Type 0
Calm x m = Telling x x.serving m (λ rest t e. ⊥) (λ a s. x.serving s)

-- what is known of an answer
pub knowing : {S A E : Type 0} (x : Guarded S) (before : S → Type 0) (P : Type 0) (m : Routine (Result A E)) (fact : Fact S A E) (after : A → S → Type 0)
    → (P → Telling x before m fact after) → Telling x (λ s. before s × P) m fact after
knowing x before P m fact after h = record { told = λ s q. (h q.1).told s q.0; lawfully = λ s q. (h q.1).lawfully s q.0 }

module _ {S : Type 0} (x : Guarded S) (space : Space) where
  -- a part that reads, and what follows from its answer
  pub reads_then : {A B : Type 0} {P : A → Type 0} {Q : B → Type 0} {m : Routine (Result A ReadFault)} {f : A → Routine (Result B ReadFault)}
      → Reads x P m → ((a : A) → P a → Reads x Q (f a)) → Reads x Q (m >>= f)
  reads_then {P = P} {m = m} {f} h more = tells_bind m f h (λ a. knowing x (quiet x) (P a) (f a) _ _ (more a))

  pub reads_none : {A : Type 0} {P : A → Type 0} (a : A) → P a → Reads x P (Return (Ok a))
  reads_none a h = tells_ok a (λ s p. (p, h))

  -- an instruction that ends with no call, carried out
  pub row_done : {p : Plain} {moves : Movem → Type 0} (done : Carried) → RowTells x space p moves (Return (Ok done))
  row_done done = tells_ok done (λ s p. p.0)

  -- with no call, carried out or not
  pub row_ends : {p : Plain} {moves : Movem → Type 0} (end : Rowed) → RowTells x space p moves (Return end)
  row_ends (Ok done) = row_done done
  row_ends (Err cut) = tells_err cut

  -- an instruction that first reads
  pub row_reading : {A : Type 0} {P : A → Type 0} {p : Plain} {moves : Movem → Type 0} {m : Routine (Result A ReadFault)} {f : A → Routine Rowed}
      → Reads x P m → ((a : A) → P a → RowTells x space p moves (f a)) → RowTells x space p moves (reading m >>= f)
  row_reading {P = P} {p} {m = m} {f} h more = tells_bind (reading m) f
      (tells_failing (λ refused. Unread refused) m
      (tells_weaker m h (λ s q. q) (λ rest t e told. (told.0, (told.1, refl))) (λ a t q. q)))
      (λ a. knowing x (quiet x) (P a) (f a) _ _ (more a))

  -- ---- the end of an instruction

  pub row_tail : {p : Plain} {moves : Movem → Type 0} {m : Routine Rowed} → Tail x space p moves m → RowTells x space p moves m
  row_tail {m = m} h = tells_weaker m h (λ s q. q.0) (λ rest t e told. told) (λ a t q. q)

  pub tail_done : {p : Plain} {moves : Movem → Type 0} (done : Carried) → Tail x space p moves (Return (Ok done))
  tail_done done = tells_ok done (λ s q. q)

  -- it writes last
  pub tail_writing : {A : Type 0} {p : Plain} {moves : Movem → Type 0} {m : Routine (Result A WriteFault)} (a : A) (done : A → Carried)
      → Writes x space a m → Tail x space p moves (writing (done a).plain m >>= λ b. Return (Ok (done b)))
  tail_writing {p = p} {m = m} a done h = tells_bind (writing (done a).plain m) (λ b. Return (Ok (done b)))
      (tells_failing (λ refused. Stop (record { ended = ended.WriteFault refused; plain = (done a).plain })) m
      (tells_weaker m h (λ s q. q)
      (λ rest t e told. (
        told.0,
        inr (
          told.2,
          done a,
          refl,
          goes_to_end _ (restored p) a done (tree_of (write_pieces_of space e.first e.rest.items)) (tree_of rest) told.1,
        ),
      ))
      (λ b t q. q)))
      (λ b. tells_ok (done b) (λ s q. q))

  pub row_writing : {A : Type 0} {p : Plain} {moves : Movem → Type 0} {m : Routine (Result A WriteFault)} (a : A) (done : A → Carried)
      → Writes x space a m → RowTells x space p moves (writing (done a).plain m >>= λ b. Return (Ok (done b)))
  row_writing a done h = row_tail (tail_writing a done h)

  -- ---- parts that are never refused a call, as the end of an instruction has them

  pub calm_sure : {A : Type 0} {m : Routine A} → Ends x.lawful x.allowed x.bus x.serving m (λ a s. x.serving s) → Calm x (sure m)
  calm_sure {m = m} h = tells_sure m h

  pub calm_then : {A B : Type 0} {m : Routine (Result A (Cut OtherEnd))} {n : Routine (Result B (Cut OtherEnd))} → Calm x m → Calm x n → Calm x (m >> n)
  calm_then {m = m} {n} h more = tells_bind m (λ a. n) h (λ a. more)

  pub tail_then : {A : Type 0} {p : Plain} {moves : Movem → Type 0} {m : Routine (Result A (Cut OtherEnd))} {f : A → Routine Rowed}
      → Calm x m → ((a : A) → Tail x space p moves (f a)) → Tail x space p moves (m >>= f)
  tail_then {m = m} {f} h more = tells_bind m f (tells_weaker m h (λ s q. q) (λ rest t e never. absurd never) (λ a t q. q)) more
