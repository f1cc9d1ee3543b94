-- An instruction that was carried out by its short form is the step's.
use Rattle.std.proofs.Common.{◌≡◌, ◌∙◌, ℕ, ◌<◌, ◌+◌, ◌/◌, ◌%◌, ◌^◌, length, refl, ap, sym, subst, Bool, true, false, List, Option, Some, None}
use Rattle.std.proofs.Common.{IfSome, IfNone, Ok, inl, inr}
use Rattle.std.specs.Prelude.{is_some}
use Rattle.mb_port.specs.Routine.{Bus, Call, run}
use Rattle.mb_port.specs.declared.types.Space.{Space}
use Rattle.mb_instr.specs.declared.instruction.Instr.{Instr}
use Rattle.mb_instr.specs.declared.instruction.Instr.TheVariants as instr
use Rattle.mb_instr.specs.declared.registers.Plain.{Plain}
use Rattle.mb_instr.specs.Codes.{IsInstr}
use Rattle.mb_instr.specs.Registers.{plain_of}
use Rattle.mb_model.specs.declared.processor.Cpu.{Cpu}
use Rattle.mb_model.specs.Status.{space_of}
use Rattle.mb_decode.specs.declared.front.Decoded.{Decoded}
use Rattle.def_instructions.specs.Attempt.{by_decoded, past}
use Rattle.def_instructions.specs.Ends.{Performed, closed}
use Rattle.def_processor.specs.SystemEnds.{with_registers}
use Rattle.def_processor.specs.Raise.{Stepped, is_due, trace_if_of}
use Rattle.def_processor.specs.declared.Finish.TheVariants as finish
use Rattle.def_processor.specs.Step.{execute_of, finish_instruction_of}
use Rattle.mb_table.specs.declared.short.Short.{Short}
use Rattle.mb_table.specs.FirstWords.{alone}
use Rattle.mb_table.specs.Short.{meaning, meaning_with, meaning_with_long, IsAlone, IsWith, IsWithLong, IsShort}
use Rattle.mb_short.specs.Changed.{Follows}
use Rattle.mb_short.specs.Taken.{Goes, GoesBy, LongComes, IsDone}
use Rattle.law_calls.specs.Codes.{LeavesFiveCodes}
use Rattle.law_calls.proofs.Rows.{perform_codes}
use Rattle.mb_step.specs.Fetching.{behind, found_executed}
use Rattle.mb_step.proofs.Fetches.{is_whole, two_words, three_words}
use Rattle.mb_step.proofs.Registers.{same_space, same_due, same_counter, registers_over, plain_again}

-- what follows an instruction that went
abbrev pub after : {S : Type 0} → Bus S → Cpu → Bool → Plain → S → Stepped × S
after bus cpu flow q t = run bus (trace_if_of finish.Went (is_due cpu.regs.sr flow) cpu.regs.pc (with_registers q cpu)) t

abbrev finished : {S : Type 0} → Bus S → Cpu → Instr → Performed × S → Stepped × S
finished bus cpu i r = run bus (finish_instruction_of i (closed r.0).0 cpu (with_registers (closed r.0).1 cpu)) r.1

executed : {S : Type 0} (bus : Bus S) (cpu : Cpu) (i : Instr) (n : ℕ) (flow : Bool) (q : Plain) (s t : S)
    → Goes bus i n (space_of cpu) (plain_of cpu.regs) s flow q t → run bus (execute_of i n cpu) s ≡ after bus cpu flow q t
executed bus cpu (instr.Move i) n flow q s t h = ap (finished bus cpu (instr.Move i)) h
executed bus cpu (instr.Arith i) n flow q s t h = ap (finished bus cpu (instr.Arith i)) h
executed bus cpu (instr.Flow i) n flow q s t h = ap (finished bus cpu (instr.Flow i)) h
executed bus cpu (instr.System i) n flow q s t h = absurd (let e = ap (λ (r : Performed × _). r.0) h in let z : ⊥ = cc in z)

-- by itself
alone_went : {S : Type 0} (bus : Bus S) (cpu : Cpu) (first : ℕ) (m : Option Instr) (flow : Bool) (q : Plain) (s t : S)
    → IfSome m (IsAlone first) → GoesBy bus m 1 (space_of cpu) (plain_of cpu.regs) s flow q t
    → run bus (found_executed cpu (by_decoded (alone first) (behind cpu first))) s ≡ after bus cpu flow q t
alone_went bus cpu first None flow q s t right h = absurd h
alone_went bus cpu first (Some i) flow q s t right h =
    is_whole bus cpu (behind cpu first) s (alone first) i 1 right.0 ∙ executed bus cpu i 1 flow q s t h

-- with the second word
with_went : {S : Type 0} (bus : Bus S) (cpu : Cpu) (first word : ℕ) (m : Option Instr) (flow : Bool) (q : Plain) (s t : S)
    → IfSome m (IsWith first word) → bus (Call.Fetch (space_of cpu) ((cpu.regs.pc + 2) % 2 ^ 32)) s ≡ (Ok word, s)
    → GoesBy bus m 2 (space_of cpu) (plain_of cpu.regs) s flow q t
    → run bus (found_executed cpu (by_decoded (alone first) (behind cpu first))) s ≡ after bus cpu flow q t
with_went bus cpu first word None flow q s t right came h = absurd h
with_went bus cpu first word (Some i) flow q s t right came h =
    ap (λ (d : Decoded). run bus (found_executed cpu (by_decoded d (behind cpu first))) s) right.0
    ∙ two_words bus cpu (space_of cpu) first word s s i refl came right.1
    ∙ executed bus cpu i 2 flow q s t h

-- with the second and the third
long_went : {S : Type 0} (bus : Bus S) (cpu : Cpu) (first value : ℕ) (m : Option Instr) (flow : Bool) (q : Plain) (s t : S)
    → IfSome m (IsWithLong first value) → LongComes bus (space_of cpu) (plain_of cpu.regs) s value
    → GoesBy bus m 3 (space_of cpu) (plain_of cpu.regs) s flow q t
    → run bus (found_executed cpu (by_decoded (alone first) (behind cpu first))) s ≡ after bus cpu flow q t
long_went bus cpu first value None flow q s t right came h = absurd h
long_went bus cpu first value (Some i) flow q s t right came h =
    ap (λ (d : Decoded). run bus (found_executed cpu (by_decoded d (behind cpu first))) s) right.0
    ∙ three_words bus cpu first (value / 2 ^ 16) (value % 2 ^ 16) s s s i came.0 came.1 right.1 right.2
    ∙ executed bus cpu i 3 flow q s t h

pub went : {S : Type 0} (bus : Bus S) (cpu : Cpu) (first : ℕ) (short : Short) (flow : Bool) (q : Plain) (s t : S)
    → IsShort first short → IsDone bus short (space_of cpu) (plain_of cpu.regs) s flow q t
    → run bus (found_executed cpu (by_decoded (alone first) (behind cpu first))) s ≡ after bus cpu flow q t
went bus cpu first short flow q s t right (inl h) = alone_went bus cpu first (meaning short) flow q s t right.0 h
went bus cpu first short flow q s t right (inr (inl (word, range, came, h))) =
    with_went bus cpu first word (meaning_with word short) flow q s t (right.1 word range) came h
went bus cpu first short flow q s t right (inr (inr (value, range, came, h))) =
    long_went bus cpu first value (meaning_with_long value short) flow q s t (right.2 value range) came h

-- a processor that works on the registers apart: `value` is the processor put together
pub went_apart : {S : Type 0} (bus : Bus S) (cpu value : Cpu) (before now : Plain) (first : ℕ) (short : Short) (flow : Bool) (s t : S)
    (stepped : Stepped × S) → with_registers before cpu ≡ value → length before.a ≡ 8 → before.ccr < 32 → IsShort first short
    → IsDone bus short (space_of cpu) before s flow now t
    → run bus (trace_if_of finish.Went (is_due cpu.regs.sr flow) before.pc (with_registers now cpu)) t ≡ stepped
    → run bus (found_executed value (by_decoded (alone first) (behind value first))) s ≡ stepped
went_apart bus cpu value before now first short flow s t stepped k len less right done h =
    let whole = with_registers before cpu in
    let by_space = subst (λ (space : Space). IsDone bus short space before s flow now t) (same_space before cpu) done in
    let by_plain = subst (λ (p : Plain). IsDone bus short (space_of whole) p s flow now t) (sym (plain_again before cpu len less)) by_space in
    ap (λ (c : Cpu). run bus (found_executed c (by_decoded (alone first) (behind c first))) s) (sym k)
    ∙ went bus whole first short flow now s t right by_plain
    ∙ ap (λ (b : Bool). run bus (trace_if_of finish.Went b before.pc (with_registers now whole)) t) (sym (same_due before cpu flow))
    ∙ ap (λ (c : Cpu). run bus (trace_if_of finish.Went (is_due cpu.regs.sr flow) before.pc c) t) (registers_over before now cpu)
    ∙ h

-- what was carried out has left five condition codes
goes_codes : {S : Type 0} (bus : Bus S) (m : Option Instr) (n : ℕ) (space : Space) (p q : Plain) (s t : S) (flow : Bool) → p.ccr < 32
    → GoesBy bus m n space p s flow q t → q.ccr < 32
goes_codes bus None n space p q s t flow less h = absurd h
goes_codes bus (Some i) n space p q s t flow less h =
    subst (λ (r : Performed × _). LeavesFiveCodes r.0) h (perform_codes bus space i p.pc (past n p) s less)

pub done_codes : {S : Type 0} (bus : Bus S) (short : Short) (space : Space) (p q : Plain) (s t : S) (flow : Bool) → p.ccr < 32
    → IsDone bus short space p s flow q t → q.ccr < 32
done_codes bus short space p q s t flow less (inl h) = goes_codes bus (meaning short) 1 space p q s t flow less h
done_codes bus short space p q s t flow less (inr (inl (word, range, came, h))) =
    goes_codes bus (meaning_with word short) 2 space p q s t flow less h
done_codes bus short space p q s t flow less (inr (inr (value, range, came, h))) =
    goes_codes bus (meaning_with_long value short) 3 space p q s t flow less h

-- and what was not has left all as it was
pub codes_after : {S : Type 0} (bus : Bus S) (short : Short) (space : Space) (p q : Plain) (s t : S) (went : Option Bool) → p.ccr < 32
    → IfSome went (λ flow. IsDone bus short space p s flow q t) → IfNone went (q ≡ p) → q.ccr < 32
codes_after bus short space p q s t (Some flow) less done undone = done_codes bus short space p q s t flow less done
codes_after bus short space p q s t None less done undone = subst (λ (r : Plain). r.ccr < 32) (sym undone) less

-- and where no trace is due
pub untraced_went : {S : Type 0} (bus : Bus S) (cpu value : Cpu) (before now : Plain) (first : ℕ) (short : Short) (went : Option Bool) (s t : S)
    → with_registers before cpu ≡ value → length before.a ≡ 8 → before.ccr < 32 → IsShort first short → is_some went ≡ true
    → IfSome went (λ flow. IsDone bus short (space_of cpu) before s flow now t) → ((flow : Bool) → is_due value.regs.sr flow ≡ false)
    → run bus (found_executed value (by_decoded (alone first) (behind value first))) s ≡ ((finish.Went, with_registers now cpu), t)
untraced_went bus cpu value before now first short None s t k len less right is done untraced = absurd (let z : ⊥ = cc in z)
untraced_went bus cpu value before now first short (Some flow) s t k len less right is done untraced =
    let due : is_due cpu.regs.sr flow ≡ false =
    same_due before cpu flow ∙ ap (λ (c : Cpu). is_due c.regs.sr flow) k ∙ untraced flow in
    went_apart bus cpu value before now first short flow s t ((finish.Went, with_registers now cpu), t) k len less right done
    (ap (λ (b : Bool). run bus (trace_if_of finish.Went b before.pc (with_registers now cpu)) t) due)

-- what has followed the registers apart has followed those put together
pub followed_apart : {S : Type 0} (by : S → List ℕ → List ℕ → Type 0) (s t : S) (cpu value after : Cpu) (before now : Plain)
    → with_registers before cpu ≡ value → with_registers now cpu ≡ after → length before.a ≡ 8 → before.ccr < 32 → length now.a ≡ 8
    → now.ccr < 32 → (Follows by s before → Follows by t now) → Follows by s (plain_of value.regs) → Follows by t (plain_of after.regs)
followed_apart by s t cpu value after before now k j len less eight few told h =
    let first : plain_of value.regs ≡ before = sym (ap (λ (x : Cpu). plain_of x.regs) k) ∙ plain_again before cpu len less in
    let second : now ≡ plain_of after.regs = sym (plain_again now cpu eight few) ∙ ap (λ (x : Cpu). plain_of x.regs) j in
    subst (λ (q : Plain). Follows by t q) second (told (subst (λ (p : Plain). Follows by s p) first h))

-- ---- what a right form is, is in the table of instructions

alone_valid : (first : ℕ) (m : Option Instr) → IfSome m (IsAlone first) → IfSome m IsInstr
alone_valid first None h = h
alone_valid first (Some i) h = h.1

with_valid : (first word : ℕ) (m : Option Instr) → IfSome m (IsWith first word) → IfSome m IsInstr
with_valid first word None h = h
with_valid first word (Some i) h = h.2

long_valid : (first value : ℕ) (m : Option Instr) → IfSome m (IsWithLong first value) → IfSome m IsInstr
long_valid first value None h = h
long_valid first value (Some i) h = h.3

pub valid : (first : ℕ) (short : Short) → IsShort first short → IfSome (meaning short) IsInstr
valid first short right = alone_valid first (meaning short) right.0

pub valid_with : (first : ℕ) (short : Short) → IsShort first short → (word : ℕ) → word < 2 ^ 16 → IfSome (meaning_with word short) IsInstr
valid_with first short right word range = with_valid first word (meaning_with word short) (right.1 word range)

pub valid_long : (first : ℕ) (short : Short) → IsShort first short → (value : ℕ) → value < 2 ^ 32 → IfSome (meaning_with_long value short) IsInstr
valid_long first short right value range = long_valid first value (meaning_with_long value short) (right.2 value range)

-- the counter of a processor that works on the registers apart
pub even_apart : (before : Plain) (cpu value : Cpu) → with_registers before cpu ≡ value → value.regs.pc % 2 ≡ 0 → before.pc % 2 ≡ 0
even_apart before cpu value k e = ap (λ (n : ℕ). n % 2) (same_counter before cpu ∙ ap (λ (c : Cpu). c.regs.pc) k) ∙ e
