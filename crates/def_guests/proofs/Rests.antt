-- A step that was left in the middle goes on as its finish.
use Rattle.std.proofs.Common.{◌≡◌, ◌∙◌, ℕ, ◌-◌, ◌+◌, ◌/◌, ◌%◌, ◌^◌, ◌==◌, List, [], ◌∷◌, Result, Ok, Err, refl, ap, sym, Bool, false, arith}
use Rattle.std.specs.Prelude.{if◌then◌else◌, not, ◌&&◌}
use Rattle.mb_port.specs.Routine.{Bus, Routine, Return, Then, ReadMmu, Write, WriteLine, run, either, caught, tried, other_fault, write_line}
use Rattle.mb_port.specs.declared.types.Space.{Space}
use Rattle.mb_port.specs.declared.types.Space.TheVariants.{User, Super}
use Rattle.mb_port.specs.declared.types.Fault.{Fault}
use Rattle.mb_instr.specs.declared.instruction.Instr.{Instr}
use Rattle.mb_instr.specs.declared.registers.Plain.{Plain}
use Rattle.mb_frames.specs.declared.pend.Pend.{Pend}
use Rattle.mb_frames.specs.AccessFields.{piece_of, access_fields}
use Rattle.mb_model.specs.declared.processor.Cpu.{Cpu}
use Rattle.mb_model.specs.Status.{space_of}
use Rattle.mb_model.specs.Pages.{page_size_by}
use Rattle.mb_writes.specs.declared.ends.WriteFault.{WriteFault}
use Rattle.mb_writes.specs.declared.ends.Ended.TheVariants as ended
use Rattle.mb_writes.specs.Transfers.{movem_in, refused_transfer}
use Rattle.mb_writes.specs.Moving.{Halfway, transfer_of}
use Rattle.mb_writes.specs.Writing.{write_fault_at, write_pieces_of}
use Rattle.def_processor.specs.declared.Finish.{Finish}
use Rattle.def_processor.specs.declared.Finish.TheVariants as finish
use Rattle.def_instructions.specs.Ends.{Carried, OtherEnd, Performed}
use Rattle.def_processor.specs.SystemEnds.{with_registers}
use Rattle.def_processor.specs.Raise.{Stepped, traces_all, is_due, cause_at, raise_of, trace_if_of, access_error_of, with_ct}
use Rattle.def_processor.specs.Step.{finish_unfinished_of, finish_unwritten_of, finish_unwritten_line_of, finish_untransferred_of, movem_words, is_flow, step_of}
use Rattle.law_tells.specs.Left.{completing_writes, completing_line, completing_transfers}
use Rattle.law_attempts.specs.Attempts.{IsUntraced, attempted_by, finished_by}
use Rattle.law_attempts.proofs.Attempts.{attempt_then_finish}
use Rattle.def_runs.specs.Finishes.{finish_writes_of, finish_line_of, finish_movem_of, moved_on, at_next}
use Rattle.def_guests.specs.Rests.{TrapsAreFinished, Begins, HandsOn, DeniedWritesGoOn, DeniedLinesGoOn, DeniedTransfersGoOn}

-- ---- what follows an answer

either_alike : {S A B E : Type 0} (bus : Bus S) (g : E → Routine B) (f h : A → Routine B) → ((a : A) (t : S) → run bus (f a) t ≡ run bus (h a) t)
    → (r : Result A E) (t : S) → run bus (either r g f) t ≡ run bus (either r g h) t
either_alike bus g f h same (Ok a) t = same a t
either_alike bus g f h same (Err e) t = refl

-- no trace is due
untraced : {S : Type 0} (bus : Bus S) (so_far : Finish) (due : Bool) (at : ℕ) (cpu : Cpu) (t : S) → due ≡ false
    → run bus (trace_if_of so_far due at cpu) t ≡ ((so_far, cpu), t)
untraced bus so_far due at cpu t h = rw h refl

never_due : (before : Cpu) (flow : Bool) → IsUntraced before → is_due before.regs.sr flow ≡ false
never_due before flow h = rw (h.all, h.flow) refl

-- the step of an instruction by its finish
pub step_is : {S : Type 0} (bus : Bus S) (level : ℕ) (cpu : Cpu) (s : S) (i : Instr) (q : Performed × S) → Begins bus level cpu s i
    → attempted_by bus cpu s ≡ q → run bus (step_of level cpu) s ≡ finished_by bus i cpu q
step_is bus level cpu s i q b e =
    attempt_then_finish bus level cpu s i b.masked b.untraced.going b.found b.attempted ∙ ap (finished_by bus i cpu) e

-- ---- traps

pub traps_are_finished : {S : Type 0} → TrapsAreFinished S
traps_are_finished i vector before cpu h bus s =
    let kept = with_registers before cpu in
    let m = raise_of false (cause_at vector cpu.regs.pc kept.regs.pc) kept cpu in
    let r = run bus m s in
    either_alike bus (λ (stepped : Stepped). Return stepped)
    (λ (handler : Cpu). trace_if_of (finish.Entered vector) (traces_all kept.regs.sr) kept.regs.pc handler)
    (λ (handler : Cpu). Return (finish.Entered vector, handler))
    (λ handler t. untraced bus (finish.Entered vector) (traces_all kept.regs.sr) kept.regs.pc handler t h.all) r.0 r.1

-- ---- pending writes

-- a refused write has something left
abbrev HasLeft : Result (Unit {0}) WriteFault → Type 0
HasLeft (Ok done) = Unit {0}
HasLeft (Err refused) = (p : Pend) × (ps : List Pend) × (refused.rest.items ≡ p ∷ ps)

left_behind : {S : Type 0} (bus : Bus S) (space : Space) (first : ℕ) (p : Pend) (ps : List Pend)
    → ((t : S) → HasLeft (run bus (write_pieces_of space first ps) t).0)
    → (r : Result (Unit {0}) Fault) (t : S)
    → HasLeft (run bus (tried (other_fault (write_fault_at first (p ∷ ps)) r) (λ _. write_pieces_of space first ps)) t).0
left_behind bus space first p ps more (Ok done) t = more t
left_behind bus space first p ps more (Err fault) t = (p, ps, refl)

writes_leave : {S : Type 0} (bus : Bus S) (space : Space) (first : ℕ) (pending : List Pend) (s : S)
    → HasLeft (run bus (write_pieces_of space first pending) s).0
writes_leave bus space first [] s = tt
writes_leave bus space first (p ∷ ps) s =
    left_behind bus space first p ps (λ t. writes_leave bus space first ps t) (bus (Write space (piece_of p) p.value) s).0
    (bus (Write space (piece_of p) p.value) s).1

unwritten_here : (due : Bool) (refused : WriteFault) (items : List Pend) (p : Pend) (ps : List Pend) (before cpu : Cpu) → items ≡ p ∷ ps
    → finish_unwritten_of due refused items before cpu ≡ finish_unfinished_of due refused cpu
unwritten_here due refused items p ps before cpu h = ap (λ (l : List Pend). finish_unwritten_of due refused l before cpu) h

-- the condition codes leave S alone
same_high : (sr ccr : ℕ) → (sr - sr % 2 ^ 5 + ccr % 2 ^ 5) / 2 ^ 13 ≡ sr / 2 ^ 13
same_high sr ccr = omega arith

pub same_space : (p : Plain) (cpu : Cpu) → space_of (with_registers p cpu) ≡ space_of cpu
same_space p cpu = ap (λ (n : ℕ). if n % 2 == 1 then Super else User) (same_high cpu.regs.sr p.ccr)

-- a refused write's fault, as the end of the instruction
abbrev refusing_write : Carried → WriteFault → OtherEnd
refusing_write done refused = record { ended = ended.WriteFault refused; plain = done.plain }

-- by what the writes answered
written_finish : {S : Type 0} (bus : Bus S) (i : Instr) (before : Cpu) (done : Carried) → IsUntraced before
    → (r : Result (Unit {0}) WriteFault) (t : S) → HasLeft r
    → let cpu = with_registers done.plain before in
    finished_by bus i before (run bus (tried (other_fault (refusing_write done) r) (λ _. Return (Ok done))) t)
    ≡ run bus (either r (λ refused. finish_unfinished_of false refused cpu) (λ end. Return (finish.Went, cpu))) t
written_finish bus i before done h (Ok end) t left =
    untraced bus finish.Went (is_due before.regs.sr done.flow) before.regs.pc (with_registers done.plain before) t (never_due before done.flow h)
written_finish bus i before done h (Err refused) t (p, ps, e) =
    let cpu = with_registers done.plain before in
    ap (λ (m : Routine Stepped). run bus m t) (unwritten_here (is_due before.regs.sr (is_flow i)) refused refused.rest.items p ps before cpu e)
    ∙ ap (λ (due : Bool). run bus (finish_unfinished_of due refused cpu) t) (never_due before (is_flow i) h)

pub writes_are_finished : {S : Type 0} (bus : Bus S) (i : Instr) (before : Cpu) (first : ℕ) (pending : List Pend) (done : Carried) (s : S) → IsUntraced before
    → finished_by bus i before (run bus (completing_writes (space_of before) first pending done) s)
    ≡ run bus (finish_writes_of pending first (with_registers done.plain before)) s
writes_are_finished bus i before first pending done s h =
    let w = run bus (write_pieces_of (space_of before) first pending) s in
    let cpu = with_registers done.plain before in
    written_finish bus i before done h w.0 w.1 (writes_leave bus (space_of before) first pending s)
    ∙ ap (λ (space : Space). run bus
    (caught (write_pieces_of space first pending) (λ refused. finish_unfinished_of false refused cpu) (λ end. Return (finish.Went, cpu))) s)
    (sym (same_space done.plain before))

pub denied_writes_go_on : {S : Type 0} → DeniedWritesGoOn S
denied_writes_go_on bus level cpu s t i first pieces done b e =
    step_is bus level cpu s i (run bus (completing_writes (space_of cpu) first pieces done) t) b e
    ∙ writes_are_finished bus i cpu first pieces done t b.untraced

-- ---- a line

abbrev refusing_line : List ℕ → Carried → Fault → OtherEnd
refusing_line line done fault = record { ended = ended.LineFault fault line; plain = done.plain }

lined_finish : {S : Type 0} (bus : Bus S) (i : Instr) (before : Cpu) (line : List ℕ) (done : Carried) → IsUntraced before
    → (r : Result (Unit {0}) Fault) (t : S)
    → let cpu = with_registers done.plain before in
    finished_by bus i before (run bus (tried (other_fault (refusing_line line done) r) (λ _. Return (Ok done))) t)
    ≡ run bus (either r (λ fault. finish_unwritten_line_of false fault line cpu) (λ end. Return (finish.Went, cpu))) t
lined_finish bus i before line done h (Ok end) t =
    untraced bus finish.Went (is_due before.regs.sr done.flow) before.regs.pc (with_registers done.plain before) t (never_due before done.flow h)
lined_finish bus i before line done h (Err fault) t =
    ap (λ (due : Bool). run bus (finish_unwritten_line_of due fault line (with_registers done.plain before)) t) h.all

pub lines_are_finished : {S : Type 0} (bus : Bus S) (i : Instr) (before : Cpu) (at : ℕ) (line : List ℕ) (done : Carried) (s : S) → IsUntraced before
    → finished_by bus i before (run bus (completing_line (space_of before) at line done) s)
    ≡ run bus (finish_line_of at line (with_registers done.plain before)) s
lines_are_finished bus i before at line done s h =
    let w = bus (WriteLine (space_of before) at line) s in
    let cpu = with_registers done.plain before in
    lined_finish bus i before line done h w.0 w.1
    ∙ ap (λ (space : Space). run bus
    (caught (write_line space at line) (λ fault. finish_unwritten_line_of false fault line cpu) (λ end. Return (finish.Went, cpu))) s)
    (sym (same_space done.plain before))

pub denied_lines_go_on : {S : Type 0} → DeniedLinesGoOn S
denied_lines_go_on bus level cpu s t i at line done b e =
    step_is bus level cpu s i (run bus (completing_line (space_of cpu) at line done) t) b e
    ∙ lines_are_finished bus i cpu at line done t b.untraced

-- ---- a MOVEM

moved_finish : {S : Type 0} (bus : Bus S) (i : Instr) (before now : Cpu) → IsUntraced before → HandsOn before now → (r : Result Plain Halfway) (t : S)
    → finished_by bus i before
    (run bus (tried (other_fault (λ half. record { ended = ended.Movem half.fault; plain = half.plain }) r)
    (λ moved. Return (Ok (record { flow = false; plain = moved })))) t)
    ≡ run bus (moved_on (movem_words i) now r) t
moved_finish bus i before now h on (Ok p) t =
    untraced bus finish.Went (is_due before.regs.sr false) before.regs.pc (with_registers p before) t (never_due before false h)
    ∙ ap (λ (c : Cpu). ((finish.Went, c), t)) (sym (on.others p))
moved_finish bus i before now h on (Err half) t =
    let words = movem_words i in
    ap (λ (due : Bool). run bus (finish_untransferred_of due half.fault words before (with_registers half.plain before)) t) h.all
    ∙ ap (λ (c : Cpu). run bus (finish_untransferred_of false half.fault words before c) t) (sym (on.others half.plain))
    ∙ (let page = page_size_by (bus ReadMmu t).0 in
    ap (λ (at : ℕ). run bus (access_error_of at (with_ct (false && not (movem_in words).is_load)
    (access_fields (refused_transfer half.fault words (with_registers half.plain now).regs.pc) page)) (with_registers half.plain now)) (bus ReadMmu t).1)
    (sym on.pc))

pub movems_are_finished : {S : Type 0} (bus : Bus S) (i : Instr) (before now : Cpu) (ea done next : ℕ) (s : S) → IsUntraced before → HandsOn before now
    → finished_by bus i before (run bus (completing_transfers (movem_in (movem_words i)) ea done (space_of before) (at_next next now)) s)
    ≡ run bus (finish_movem_of (movem_words i) ea done next now) s
movems_are_finished bus i before now ea done next s h on =
    let w = run bus (transfer_of (movem_in (movem_words i)) ea done (space_of before) (at_next next now)) s in
    moved_finish bus i before now h on w.0 w.1
    ∙ ap (λ (x : Space). run bus (Then (transfer_of (movem_in (movem_words i)) ea done x (at_next next now)) (moved_on (movem_words i) now)) s) (sym on.space)

pub denied_transfers_go_on : {S : Type 0} → DeniedTransfersGoOn S
denied_transfers_go_on bus level cpu now s t i ea done next b on e =
    step_is bus level cpu s i (run bus (completing_transfers (movem_in (movem_words i)) ea done (space_of cpu) (at_next next now)) t) b e
    ∙ movems_are_finished bus i cpu now ea done next t b.untraced on
