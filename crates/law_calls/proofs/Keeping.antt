-- What routines are put together of, and what their answers have.
use Rattle.std.specs.Prelude.{ℕ, ◌-◌, nat_lt, Bool, true, false, Result, Ok, Err, if◌then◌else◌}
use Rattle.mb_port.specs.Routine.{Routine, Return, Bus, run, choose, tried, ◌>>=◌, other_fault, failing, sure}
use Rattle.mb_port.specs.declared.types.Space.{Space}
use Rattle.mb_instr.specs.declared.size.Size.{Size}
use Rattle.mb_instr.specs.declared.operand.Ea.{Ea}
use Rattle.mb_instr.specs.declared.operand.Ea.TheVariants.{Dn, An, Ind, Post, Pre, Disp, Index, AbsW, AbsL, PcDisp, PcIndex, Imm}
use Rattle.mb_instr.specs.declared.registers.Plain.{Plain}
use Rattle.mb_instr.specs.Sizes.{bytes_of}
use Rattle.mb_instr.specs.Registers.{with_register, with_data_register, with_address_register}
use Rattle.mb_ea.specs.declared.addresses.Target.{Target}
use Rattle.mb_ea.specs.declared.addresses.Target.TheVariants.{Reg, Memory, Value}
use Rattle.mb_ea.specs.declared.reading.ReadFault.{ReadFault}
use Rattle.mb_ea.specs.Resolve.{Resolved, resolve_of}
use Rattle.mb_writes.specs.declared.ends.Ended.{Ended}
use Rattle.mb_writes.specs.declared.ends.Ended.TheVariants as ended
use Rattle.mb_writes.specs.Writing.{write_operand_of}
use Rattle.def_instructions.specs.Ends.{OtherEnd, Carried, Cut, Rowed, Unread, Stop, ending, reading}
use Rattle.def_instructions.specs.Operands.{Fetched, store_of, fetch_operand_of, finish_with_of, push_of}
use Rattle.law_calls.specs.Codes.{HasFiveCodes}

-- an answer is so, or the fault in its place
abbrev pub Is : {A E : Type 0} → (A → Type 0) → (E → Type 0) → Result A E → Type 0
Is P F (Ok a) = P a
Is P F (Err e) = F e

-- nothing is said of it
abbrev pub Whatever : {A : Type 0} → A → Type 0
Whatever a = Unit {0}

-- five codes are left by a row that was carried out, and by one that was cut short
abbrev pub CodesLeft : Carried → Type 0
CodesLeft done = HasFiveCodes done.plain

abbrev pub CutLeft : Cut OtherEnd → Type 0
CutLeft (Unread refused) = Unit {0}
CutLeft (Stop stop) = HasFiveCodes stop.plain

pub either_plain : (b : Bool) (p q : Plain) → HasFiveCodes p → HasFiveCodes q → HasFiveCodes (if b then p else q)
either_plain true p q h k = h
either_plain false p q h k = k

pub either_row : (b : Bool) (r q : Rowed) → Is CodesLeft CutLeft r → Is CodesLeft CutLeft q → Is CodesLeft CutLeft (if b then r else q)
either_row true r q h k = h
either_row false r q h k = k

pub register_five : (p : Plain) (n value : ℕ) → HasFiveCodes p → HasFiveCodes (with_register p n value)
register_five p n value h = either_plain (nat_lt n 8) (with_data_register p n value) (with_address_register p (n - 8) value) h h

module _ {S : Type 0} (bus : Bus S) where
  -- what it answers is so, and a fault in its place
  pub record Answers {A E : Type 0} (P : A → Type 0) (F : E → Type 0) (m : Routine (Result A E)) : Type 0 where
    pub answers : (s : S) → Is P F ((run bus m s).0)

  any : {A E : Type 0} (r : Result A E) → Is Whatever Whatever r
  any (Ok a) = tt
  any (Err e) = tt

  pub answers_any : {A E : Type 0} (m : Routine (Result A E)) → Answers Whatever Whatever m
  answers_any m = record { answers = λ s. any ((run bus m s).0) }

  pub answers_done : {A E : Type 0} {P : A → Type 0} {F : E → Type 0} (r : Result A E) → Is P F r → Answers P F (Return r)
  answers_done r h = record { answers = λ s. h }

  pub answers_sure : {A E : Type 0} {F : E → Type 0} (m : Routine A) → Answers {E = E} Whatever F (sure m)
  answers_sure m = record { answers = λ s. tt }

  pub answers_choose : {A E : Type 0} {P : A → Type 0} {F : E → Type 0} {x y : Routine (Result A E)} (b : Bool) → Answers P F x → Answers P F y
      → Answers P F (choose b x y)
  answers_choose true h k = h
  answers_choose false h k = k

  tried_answers : {A B E : Type 0} {P : A → Type 0} {Q : B → Type 0} {F : E → Type 0} (r : Result A E) (f : A → Routine (Result B E)) (t : S)
      → Is P F r → ((a : A) → P a → Answers Q F (f a)) → Is Q F ((run bus (tried r f) t).0)
  tried_answers (Ok a) f t h more = (more a h).answers t
  tried_answers (Err e) f t h more = h

  pub answers_then : {A B E : Type 0} {P : A → Type 0} {Q : B → Type 0} {F : E → Type 0} {m : Routine (Result A E)}
      {f : A → Routine (Result B E)} → Answers P F m → ((a : A) → P a → Answers Q F (f a)) → Answers Q F (m >>= f)
  answers_then {m = m} {f} h more = record { answers = λ s. tried_answers ((run bus m s).0) f ((run bus m s).1) (h.answers s) more }

  other_answers : {A E G : Type 0} (P : A → Type 0) (F : E → Type 0) (H : G → Type 0) (g : E → G) (r : Result A E) → ((e : E) → F e → H (g e))
      → Is P F r → Is P H (other_fault g r)
  other_answers P F H g (Ok a) k h = h
  other_answers P F H g (Err e) k h = k e h

  pub answers_failing : {A E G : Type 0} {P : A → Type 0} {F : E → Type 0} {H : G → Type 0} (g : E → G) {m : Routine (Result A E)}
      → ((e : E) → F e → H (g e)) → Answers P F m → Answers P H (failing g m)
  answers_failing {P = P} {F} {H} g {m = m} k h = record { answers = λ s. other_answers P F H g ((run bus m s).0) k (h.answers s) }

  -- ---- rows and their parts

  -- it leaves five codes
  abbrev pub CodesRow : Routine Rowed → Type 0
  CodesRow m = Answers CodesLeft CutLeft m

  -- a part that reads, and what follows it
  pub reading_codes : {A : Type 0} {P : A → Type 0} {m : Routine (Result A ReadFault)} {f : A → Routine Rowed} → Answers P Whatever m
      → ((a : A) → P a → CodesRow (f a)) → CodesRow (reading m >>= f)
  reading_codes h more = answers_then (answers_failing (λ refused. Unread refused) (λ refused u. tt) h) more

  -- a part whose fault ends the instruction with these registers
  pub ending_codes : {A E : Type 0} {P : A → Type 0} (how : E → Ended) (after : Plain) {m : Routine (Result A E)} → HasFiveCodes after
      → Answers P Whatever m → Answers P CutLeft (ending how after m)
  ending_codes how after five h = answers_failing (λ fault. Stop (record { ended = how fault; plain = after })) (λ fault u. five) h

  -- ---- operands

  abbrev pub Resolves : Routine (Result Resolved ReadFault) → Type 0
  Resolves m = Answers (λ resolved. HasFiveCodes resolved.plain) Whatever m

  pub resolve_codes : (space : Space) (ea : Ea) (size : Size) (word_at : ℕ) (p : Plain) → HasFiveCodes p → Resolves (resolve_of ea size word_at space p)
  unfolding resolve_of
  resolve_codes space (Index n e) size word_at p h = answers_then (answers_any _) (λ at u. answers_done _ h)
  resolve_codes space (PcIndex e) size word_at p h = answers_then (answers_any _) (λ at u. answers_done _ h)
  resolve_codes space (Dn n) size word_at p h = answers_done _ h
  resolve_codes space (An n) size word_at p h = answers_done _ h
  resolve_codes space (Ind n) size word_at p h = answers_done _ h
  resolve_codes space (Post n) size word_at p h = answers_done _ h
  resolve_codes space (Pre n) size word_at p h = answers_done _ h
  resolve_codes space (Disp n d) size word_at p h = answers_done _ h
  resolve_codes space (AbsW a) size word_at p h = answers_done _ h
  resolve_codes space (AbsL a) size word_at p h = answers_done _ h
  resolve_codes space (PcDisp d) size word_at p h = answers_done _ h
  resolve_codes space (Imm v) size word_at p h = answers_done _ h

  abbrev pub Fetches : Routine (Result Fetched ReadFault) → Type 0
  Fetches m = Answers (λ operand. HasFiveCodes operand.plain) Whatever m

  pub fetched_codes : (space : Space) (size : Size) (ea : Ea) (word_at : ℕ) (p : Plain) → HasFiveCodes p
      → Fetches (fetch_operand_of size ea word_at space p)
  fetched_codes space size ea word_at p h = answers_then (resolve_codes space ea size word_at p h) (λ resolved five.
      answers_then (answers_any _) (λ value u. answers_done _ five))

  -- ---- the last parts of instructions, which write

  store_codes : (space : Space) (target : Target) (size : Size) (value : ℕ) (after : Plain) → HasFiveCodes after
      → Answers HasFiveCodes Whatever (store_of target size value space after)
  store_codes space (Reg n) size value after h = answers_done _ (register_five after n _ h)
  store_codes space (Memory at) size value after h = answers_then (answers_any (write_operand_of space at (bytes_of size) value)) (λ done u. answers_done _ h)
  store_codes space (Value v) size value after h = answers_done _ h

  pub finish_codes : (space : Space) (target : Target) (size : Size) (value : ℕ) (after : Plain) → HasFiveCodes after
      → CodesRow (finish_with_of target size value space after)
  finish_codes space target size value after h =
      answers_then (ending_codes (λ refused. ended.WriteFault refused) after h (store_codes space target size value after h))
      (λ done five. answers_done _ five)

  pub push_codes : (space : Space) (value top : ℕ) (after : Plain) → HasFiveCodes after → Answers Whatever CutLeft (push_of value top space after)
  push_codes space value top after h = ending_codes (λ refused. ended.WriteFault refused) after h (answers_any (write_operand_of space top 4 value))
