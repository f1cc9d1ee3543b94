-- What the handler of an exception begins with, and that an entry comes to it.
use Rattle.std.proofs.Common.{◌≡◌, ◌∙◌, ◌<◌, ℕ, ◌*◌, ◌/◌, ◌%◌, ◌^◌, ◌==◌, Bool, true, false, not, cond, Ok, Err, refl, ap, arith}
use Rattle.std.specs.Prelude.{◌&&◌, Option, Some, None, Result}
use Rattle.mb_port.specs.Routine.{Bus, Return, Then, run, either}
use Rattle.mb_port.specs.declared.types.Space.TheVariants.{Super}
use Rattle.mb_port.specs.declared.types.Fault.{Fault}
use Rattle.mb_instr.specs.declared.registers.Regs.{Regs}
use Rattle.mb_instr.specs.Registers.{is_master}
use Rattle.mb_frames.specs.declared.frame.Access.{Access}
use Rattle.mb_model.specs.declared.processor.Cpu.{Cpu}
use Rattle.mb_ea.specs.declared.reading.ReadFault.{ReadFault}
use Rattle.mb_ea.specs.Addresses.{sum}
use Rattle.mb_ea.specs.Reading.{read_operand_of}
use Rattle.def_processor.specs.declared.entering.Cause.{Cause}
use Rattle.def_processor.specs.declared.entering.Entered.{Entered}
use Rattle.def_processor.specs.declared.entering.Entered.TheVariants as entered
use Rattle.def_processor.specs.Entry.{is_interrupt, supervised, without_master, with_mask, frame_of, throwaway_of, Stacked, stacked, frames_of, with_second}
use Rattle.def_processor.specs.Entry.{Places, check_frames_of, put_frames_of, unstacked, go_to_handler_of, awake}
use Rattle.law_settings.specs.Entries.{at_handler, EntryIsAtHandler, last_frame, HandlersAreSupervisors, HandlersTraceNothing, HandlersTraceNoFlow}
use Rattle.law_settings.specs.Entries.{HandlersHaveCodes, HandlersHaveMask, HandlersHaveMaster, HandlersHaveFrames}

-- ---- the status register of a handler, by whether the cause is an interrupt, and M

abbrev sr_by : Bool → Bool → ℕ → ℕ → ℕ
sr_by true true level sr = without_master (with_mask level (supervised sr))
sr_by true false level sr = with_mask level (supervised sr)
sr_by false m level sr = supervised sr

-- the bits from S on are 1: S alone is set
top_supervised : (sr : ℕ) → supervised sr / 2 ^ 13 ≡ 1
top_supervised sr = omega arith

top_masked : (level sr : ℕ) → level < 8 → with_mask level sr / 2 ^ 13 ≡ sr / 2 ^ 13
top_masked level sr small = omega arith

top_without : (sr : ℕ) → without_master sr / 2 ^ 13 ≡ sr / 2 ^ 13
top_without sr = omega arith

top_by : (i m : Bool) (level sr : ℕ) → level < 8 → sr_by i m level sr / 2 ^ 13 ≡ 1
top_by true true level sr small =
    top_without (with_mask level (supervised sr)) ∙ top_masked level (supervised sr) small ∙ top_supervised sr
top_by true false level sr small = top_masked level (supervised sr) small ∙ top_supervised sr
top_by false m level sr small = top_supervised sr

codes_supervised : (sr : ℕ) → supervised sr % 2 ^ 8 ≡ sr % 2 ^ 8
codes_supervised sr = omega arith

codes_masked : (level sr : ℕ) → with_mask level sr % 2 ^ 8 ≡ sr % 2 ^ 8
codes_masked level sr = omega arith

codes_without : (sr : ℕ) → without_master sr % 2 ^ 8 ≡ sr % 2 ^ 8
codes_without sr = omega arith

codes_by : (i m : Bool) (level sr : ℕ) → sr_by i m level sr % 2 ^ 8 ≡ sr % 2 ^ 8
codes_by true true level sr =
    codes_without (with_mask level (supervised sr)) ∙ codes_masked level (supervised sr) ∙ codes_supervised sr
codes_by true false level sr = codes_masked level (supervised sr) ∙ codes_supervised sr
codes_by false m level sr = codes_supervised sr

mask_supervised : (sr : ℕ) → supervised sr / 2 ^ 8 % 2 ^ 3 ≡ sr / 2 ^ 8 % 2 ^ 3
mask_supervised sr = omega arith

mask_masked : (level sr : ℕ) → level < 8 → with_mask level sr / 2 ^ 8 % 2 ^ 3 ≡ level
mask_masked level sr small = omega arith

mask_without : (sr : ℕ) → without_master sr / 2 ^ 8 % 2 ^ 3 ≡ sr / 2 ^ 8 % 2 ^ 3
mask_without sr = omega arith

mask_by : (i m : Bool) (level sr : ℕ) → level < 8 → sr_by i m level sr / 2 ^ 8 % 2 ^ 3 ≡ cond i level (sr / 2 ^ 8 % 2 ^ 3)
mask_by true true level sr small = mask_without (with_mask level (supervised sr)) ∙ mask_masked level (supervised sr) small
mask_by true false level sr small = mask_masked level (supervised sr) small
mask_by false m level sr small = mask_supervised sr

master_supervised : (sr : ℕ) → supervised sr / 2 ^ 12 % 2 ≡ sr / 2 ^ 12 % 2
master_supervised sr = omega arith

master_masked : (level sr : ℕ) → level < 8 → with_mask level sr / 2 ^ 12 % 2 ≡ sr / 2 ^ 12 % 2
master_masked level sr small = omega arith

master_without : (sr : ℕ) → without_master sr / 2 ^ 12 % 2 ≡ 0
master_without sr = omega arith

is_set : (sr bit : ℕ) → sr / 2 ^ 12 % 2 ≡ bit → is_master sr ≡ (bit == 1)
is_set sr bit e = ap (λ (n : ℕ). n == 1) e

master_by : (i m : Bool) (level sr : ℕ) → level < 8 → is_master sr ≡ m → is_master (sr_by i m level sr) ≡ (not i && m)
master_by true true level sr small e = is_set (without_master (with_mask level (supervised sr))) 0 (master_without (with_mask level (supervised sr)))
master_by true false level sr small e =
    is_set (with_mask level (supervised sr)) (sr / 2 ^ 12 % 2) (master_masked level (supervised sr) small ∙ master_supervised sr) ∙ e
master_by false m level sr small e = is_set (supervised sr) (sr / 2 ^ 12 % 2) (master_supervised sr) ∙ e

-- ---- the registers of a handler

abbrev top_of : Bool → Regs → ℕ
top_of m r = cond m r.msp r.isp

abbrev first_by : Bool → Cause → Regs → Stacked
first_by m c r = stacked (frame_of r.sr c) (top_of m r)

abbrev second_by : Bool → Bool → Cause → Regs → Option Stacked
second_by i m c r = cond (i && m) (Some (stacked (throwaway_of r.sr c) r.isp)) None

abbrev lowered : Bool → ℕ → Regs → Regs
lowered m top r = cond m (record r { msp = top }) (record r { isp = top })

abbrev regs_by : Bool → Bool → Cause → Regs → Regs
regs_by i m c r =
    let low = lowered m (first_by m c r).at r in
    with_second (second_by i m c r) (record low { sr = cond i (with_mask c.level (supervised r.sr)) (supervised r.sr); pc = c.pc })

status_by : (i m : Bool) (c : Cause) (r : Regs) → (regs_by i m c r).sr ≡ sr_by i m c.level r.sr
status_by true true c r = refl
status_by true false c r = refl
status_by false true c r = refl
status_by false false c r = refl

status : (c : Cause) (cpu : Cpu) → (at_handler c cpu).regs.sr ≡ sr_by (is_interrupt c) (is_master cpu.regs.sr) c.level cpu.regs.sr
unfolding frames_of
status c cpu = status_by (is_interrupt c) (is_master cpu.regs.sr) c cpu.regs

top : (c : Cause) (cpu : Cpu) → c.level < 8 → (at_handler c cpu).regs.sr / 2 ^ 13 ≡ 1
top c cpu small =
    ap (λ (sr : ℕ). sr / 2 ^ 13) (status c cpu) ∙ top_by (is_interrupt c) (is_master cpu.regs.sr) c.level cpu.regs.sr small

pub supervisors : HandlersAreSupervisors
supervisors c cpu small = ap (λ (n : ℕ). n % 2 == 1) (top c cpu small)

no_t1 : (sr : ℕ) → sr / 2 ^ 13 ≡ 1 → sr / 2 ^ 15 % 2 ≡ 0
no_t1 sr e = omega arith

no_t0 : (sr : ℕ) → sr / 2 ^ 13 ≡ 1 → sr / 2 ^ 14 % 2 ≡ 0
no_t0 sr e = omega arith

pub trace_nothing : HandlersTraceNothing
trace_nothing c cpu small = ap (λ (n : ℕ). n == 1) (no_t1 (at_handler c cpu).regs.sr (top c cpu small))

pub trace_no_flow : HandlersTraceNoFlow
trace_no_flow c cpu small = ap (λ (n : ℕ). n == 1) (no_t0 (at_handler c cpu).regs.sr (top c cpu small))

pub have_codes : HandlersHaveCodes
have_codes c cpu small =
    ap (λ (sr : ℕ). sr % 2 ^ 8) (status c cpu) ∙ codes_by (is_interrupt c) (is_master cpu.regs.sr) c.level cpu.regs.sr

pub have_mask : HandlersHaveMask
have_mask c cpu small =
    ap (λ (sr : ℕ). sr / 2 ^ 8 % 2 ^ 3) (status c cpu) ∙ mask_by (is_interrupt c) (is_master cpu.regs.sr) c.level cpu.regs.sr small

pub have_master : HandlersHaveMaster
have_master c cpu small =
    ap (λ (sr : ℕ). is_master sr) (status c cpu) ∙ master_by (is_interrupt c) (is_master cpu.regs.sr) c.level cpu.regs.sr small refl

stack_by : (i m : Bool) (c : Cause) (r : Regs) → let h = regs_by i m c r in
    cond (not i && m) h.msp h.isp ≡ last_frame (first_by m c r) (second_by i m c r)
stack_by true true c r = refl
stack_by true false c r = refl
stack_by false true c r = refl
stack_by false false c r = refl

pub have_frames : HandlersHaveFrames
unfolding frames_of
have_frames c cpu small =
    let h = (at_handler c cpu).regs in
    ap (λ (s : Bool). cond s (cond (is_master h.sr) h.msp h.isp) h.usp) (supervisors c cpu small)
    ∙ ap (λ (m : Bool). cond m h.msp h.isp) (have_master c cpu small)
    ∙ stack_by (is_interrupt c) (is_master cpu.regs.sr) c cpu.regs

-- ---- an entry

-- the processor with the PC of its handler
abbrev going_to : ℕ → Cpu → Cpu
going_to pc begun = record begun { regs = record begun.regs { pc = pc } }

abbrev IsGoing : Cpu → Entered × Cpu → Type 0
IsGoing begun r = r.0 ≡ entered.Done → (pc : ℕ) × (r.1 ≡ going_to pc begun)

-- the vector was read, or not
found : {S : Type 0} (bus : Bus S) (begun : Cpu) (q : Result ℕ ReadFault) (t : S)
    → IsGoing begun (run bus (either q (λ refused. Return (entered.DoubleFault, begun)) (λ pc. Return (entered.Done, going_to pc begun))) t).0
found bus begun (Ok pc) t h = (pc, refl)
found bus begun (Err refused) t h = absurd (cc h)

refused : (access : Option Access) (fault : Fault) (c : Cause) (cpu begun : Cpu) → IsGoing begun (unstacked access fault c cpu)
refused (Some access) fault c cpu begun h = absurd (cc h)
refused None fault c cpu begun h = absurd (cc h)

-- the frames were checked, or not
checked : {S : Type 0} (bus : Bus S) (c : Cause) (cpu : Cpu) (q : Result Places Fault) (t : S)
    → IsGoing (at_handler c cpu) (run bus (either q
    (λ fault. Return (unstacked c.access fault c (awake cpu)))
    (λ places. Then (put_frames_of (frames_of c cpu.regs) places) (λ done. go_to_handler_of c (at_handler c cpu)))) t).0
checked bus c cpu (Ok places) t =
    let u = (run bus (put_frames_of (frames_of c cpu.regs) places) t).1 in
    let read = run bus (read_operand_of Super (sum cpu.vbr (4 * c.vector)) 4) u in
    found bus (at_handler c cpu) read.0 read.1
checked bus c cpu (Err fault) t = refused c.access fault c (awake cpu) (at_handler c cpu)

pub entry_is_at_handler : {S : Type 0} → EntryIsAtHandler S
entry_is_at_handler bus c cpu s =
    let check = run bus (check_frames_of (frames_of c cpu.regs)) s in checked bus c cpu check.0 check.1
