-- RTE takes the frames that are seen.
use Rattle.std.proofs.Common.{◌≡◌, ℕ, ◌+◌, ◌-◌, ◌*◌, ◌%◌, ◌^◌, ◌<◌, ◌≤◌, ◌==◌, ◌&&◌, not, Bool, true, false, if◌then◌else◌, List, [], length, drop, refl, ap, sym, ◌∙◌, subst, arith, Option, Some, None, Result, Ok, Err}
use Rattle.mb_port.specs.Routine.{Bus, Routine, Return, run, tried, choose, other_fault}
use Rattle.mb_instr.specs.declared.registers.Regs.{Regs}
use Rattle.mb_instr.specs.Registers.{is_supervisor, is_master, active_stack}
use Rattle.mb_frames.specs.declared.frame.Access.{Access}
use Rattle.mb_frames.specs.declared.frame.Frame.{Frame}
use Rattle.mb_frames.specs.declared.frame.Frame.TheVariants as frame
use Rattle.mb_frames.specs.Layout.{IsFrame, format_of, frame_bytes, frame_length, pc_of, sr_of}
use Rattle.mb_frames.proofs.RoundTrip.{length-frame_bytes}
use Rattle.mb_model.specs.declared.processor.Cpu.{Cpu}
use Rattle.mb_model.specs.Status.{kept_status}
use Rattle.mb_ea.specs.Addresses.{sum, difference}
use Rattle.mb_ea.specs.declared.reading.ReadFault.{ReadFault}
use Rattle.mb_writes.specs.declared.ends.Ended.{Ended}
use Rattle.mb_writes.specs.declared.ends.Ended.TheVariants as ended
use Rattle.def_processor.specs.declared.entering.Cause.{Cause}
use Rattle.def_processor.specs.Entry.{has_address, is_interrupt, supervised, with_mask, frame_with, frame_of, throwaway_of, thrown_sr, stacked, with_second, frames_of, Frames}
use Rattle.def_processor.specs.Return.{Head, Taken, read_head_of, read_longs_of, access_of_longs, continues, can_continue, restore_of, drop_bytes_of, format_error, read_or_end, access_or_format_error, take_frame_of, take_second_of, take_throwaway_of, take_frames_of}
use Rattle.law_returns.specs.Keeping.{Placing, Viewing, Shows, Keeps}
use Rattle.law_returns.specs.Returns.{IsLawfulCause, AreSeen, taken_back, CanReturn, FramesAreTaken}
use Rattle.law_returns.proofs.Readings.{Gives, followed, at_once, shown_still, shown_behind}
use Rattle.law_returns.proofs.Longs.{longs_in, reads_longs, fields_among}
use Rattle.law_returns.proofs.Heads.{head_from, reads_head, fields_of_frame}
use Rattle.law_returns.proofs.Status.{master_supervised, master_masked, master_without, thrown_supervisor, thrown_master}
use Rattle.law_returns.proofs.Bytes.{frame_is_bytes}
use Rattle.mb_frames.specs.declared.places.TheConstants.{LONGEST, LONGS}

-- the frames by which RTE returns, and the fields that they have
abbrev Returns : Frame → Type 0
Returns (frame.Short sr pc offset) = Unit {0}
Returns (frame.Throwaway sr pc offset) = ⊥
Returns (frame.Address sr pc offset address) = Unit {0}
Returns (frame.Access sr pc offset access) = Unit {0}

abbrev access_of : Frame → Option Access
access_of (frame.Short sr pc offset) = None
access_of (frame.Throwaway sr pc offset) = None
access_of (frame.Address sr pc offset address) = None
access_of (frame.Access sr pc offset access) = Some access

-- the frame of a cause is one
record IsOf (f : Frame) (saved counter : ℕ) (fields : Option Access) : Type 0 where
  returns : Returns f
  sr : sr_of f ≡ saved
  pc : pc_of f ≡ counter
  access : access_of f ≡ fields

by_address : (b : Bool) (sr pc offset address : ℕ) → IsOf (if b then frame.Address sr pc offset address else frame.Short sr pc offset) sr pc None
by_address true sr pc offset address = record { returns = tt; sr = refl; pc = refl; access = refl }
by_address false sr pc offset address = record { returns = tt; sr = refl; pc = refl; access = refl }

of_cause : (a : Option Access) (sr : ℕ) (c : Cause) → IsOf (frame_with a sr c) sr c.pc a
of_cause (Some a) sr c = record { returns = tt; sr = refl; pc = refl; access = refl }
of_cause None sr c = by_address (has_address c.vector) sr c.pc (4 * c.vector) c.address

judged_by : (goes can : Bool) (x : Result Taken Ended) (y : Result Taken Ended) → (goes ≡ true → can ≡ true) → (if goes && not can then x else y) ≡ y
judged_by false can x y h = refl
judged_by true can x y h = rw (h refl) refl

no_second : (f : Frame) → Returns f → (format_of f == 1) ≡ false
no_second (frame.Short sr pc offset) h = refl
no_second (frame.Throwaway sr pc offset) h = absurd h
no_second (frame.Address sr pc offset address) h = refl
no_second (frame.Access sr pc offset access) h = refl

abbrev taken_by : Frame → Regs → Taken
taken_by f r = record { regs = restore_of (format_of f) (head_from f) r; access = access_of f }

module _ (S : Type 0) (bus : Bus S) (place : Placing S) (view : Viewing S) (keeps : Keeps bus place view) where
  not_refused : {A : Type 0} (m : Routine (Result A ReadFault)) (s : S) (a : A) → Gives bus place view m s (Ok a)
      → Gives bus place view (read_or_end m) s (Ok a)
  not_refused m s a h =
      followed bus place view m (λ r. Return (other_fault (λ refused. ended.ReadFault refused) r)) s (Ok a) (Ok a) h (at_once bus place view _ (Ok a))

  -- the frame that is returned by
  frame_given : (f : Frame) (r : Regs) (s : S) → Returns f → IsFrame f → CanReturn (access_of f)
      → Shows (view s) (active_stack r) (length (frame_bytes f)) (frame_bytes f)
      → Gives bus place view (take_frame_of (head_from f) r) s (Ok (taken_by f r))
  frame_given (frame.Short sr pc offset) r s is lawful can h = at_once bus place view s _
  frame_given (frame.Throwaway sr pc offset) r s is lawful can h = absurd is
  frame_given (frame.Address sr pc offset address) r s is lawful can h = at_once bus place view s _
  frame_given (frame.Access sr pc offset a) r s is lawful can h =
      let f = frame.Access sr pc offset a in
      let b = frame_bytes f in
      let count : length b ≡ LONGEST = length-frame_bytes f in
      let top = active_stack r in
      let back = restore_of 7 (head_from f) r in
      let longs = longs_in LONGS (drop 8 b) in
      let behind : Shows (view s) (sum top 8) (4 * LONGS) (drop 8 b) = λ k l. shown_behind (view s) top (length b) 8 b (omega arith) h k (omega arith) in
      let read = not_refused (read_longs_of LONGS (sum top 8) []) s longs
      (reads_longs S bus place view keeps LONGS (sum top 8) [] (drop 8 b) s (omega arith) behind) in
      let fields : access_of_longs longs ≡ a = fields_among b (frame_is_bytes f) ∙ fields_of_frame sr pc offset a lawful in
      let judgement : access_or_format_error (access_of_longs longs) back ≡ Ok (record { regs = back; access = Some a }) =
      ap (λ (x : Access). access_or_format_error x back) fields ∙ judged_by (continues a) (can_continue a) _ _ can in
      let next : Result (List ℕ) Ended → Routine (Result Taken Ended) = λ q. tried q (λ longs. Return (access_or_format_error (access_of_longs longs) back)) in
      followed bus place view (read_or_end (read_longs_of LONGS (sum top 8) [])) next s (Ok longs) _ read
      (subst (λ (x : Result Taken Ended). Gives bus place view (next (Ok longs)) (run bus (read_or_end (read_longs_of LONGS (sum top 8) [])) s).1 x)
      judgement (at_once bus place view _ (access_or_format_error (access_of_longs longs) back)))

  -- one frame
  one_given : (f : Frame) (r : Regs) (s : S) → Returns f → IsFrame f → CanReturn (access_of f)
      → Shows (view s) (active_stack r) (length (frame_bytes f)) (frame_bytes f)
      → Gives bus place view (take_frames_of r) s (Ok (taken_by f r))
  one_given f r s is lawful can h =
      let m = read_head_of (active_stack r) in
      let next : Result Head Ended → Routine (Result Taken Ended) =
      λ q. tried q (λ head. choose (head.format == 1) (take_throwaway_of head r) (take_frame_of head r)) in
      let head = not_refused m s (head_from f) (reads_head S bus place view keeps (active_stack r) f s lawful h) in
      let t = (run bus (read_or_end m) s).1 in
      let later = frame_given f r t is lawful can (shown_still place view s t (active_stack r) (length (frame_bytes f)) (frame_bytes f) head.keeps h) in
      followed bus place view (read_or_end m) next s (Ok (head_from f)) _ head
      (subst (λ (b : Bool). Gives bus place view (choose b (take_throwaway_of (head_from f) r) (take_frame_of (head_from f) r)) t (Ok (taken_by f r)))
      (sym (no_second f is)) later)

  -- a throwaway frame, and one below it
  two_given : (sr pc offset : ℕ) (f : Frame) (r : Regs) (s : S) → Returns f → IsFrame f → IsFrame (frame.Throwaway sr pc offset) → CanReturn (access_of f)
      → is_supervisor (kept_status sr) ≡ true
      → Shows (view s) (active_stack r) (length (frame_bytes (frame.Throwaway sr pc offset))) (frame_bytes (frame.Throwaway sr pc offset))
      → (let below : Regs = record (drop_bytes_of 8 r) { sr = kept_status sr } in
      Shows (view s) (active_stack below) (length (frame_bytes f)) (frame_bytes f)
      → Gives bus place view (take_frames_of r) s (Ok (taken_by f below)))
  two_given sr pc offset f r s is lawful thrown can super seen h =
      let low : Regs = record (drop_bytes_of 8 r) { sr = kept_status sr } in
      let above = frame.Throwaway sr pc offset in
      let m = read_head_of (active_stack r) in
      let next : Result Head Ended → Routine (Result Taken Ended) =
      λ q. tried q (λ head. choose (head.format == 1) (take_throwaway_of head r) (take_frame_of head r)) in
      let head = not_refused m s (head_from above) (reads_head S bus place view keeps (active_stack r) above s thrown seen) in
      let t = (run bus (read_or_end m) s).1 in
      let in_t = shown_still place view s t (active_stack low) (length (frame_bytes f)) (frame_bytes f) head.keeps h in
      let k = read_head_of (active_stack low) in
      let second = not_refused k t (head_from f) (reads_head S bus place view keeps (active_stack low) f t lawful in_t) in
      let u = (run bus (read_or_end k) t).1 in
      let in_u = shown_still place view t u (active_stack low) (length (frame_bytes f)) (frame_bytes f) second.keeps in_t in
      let last = frame_given f low u is lawful can in_u in
      let then_taken : Result Head Ended → Routine (Result Taken Ended) = λ q. tried q (λ head. take_frame_of head low) in
      let both = followed bus place view (read_or_end k) then_taken t (Ok (head_from f)) _ second last in
      followed bus place view (read_or_end m) next s (Ok (head_from above)) _ head
      (subst (λ (b : Bool). Gives bus place view (choose b (take_second_of low) (Return (Err format_error))) t (Ok (taken_by f low))) (sym super) both)

-- ---- the registers

abbrev back_to : Regs → ℕ → Regs → Regs
back_to before pc r = record r { sr = before.sr; pc = pc; isp = before.isp; msp = before.msp }

up_again : (top n : ℕ) → top < 2 ^ 32 → n ≤ LONGEST → ((top + (2 ^ 32 - n)) % 2 ^ 32 + n) % 2 ^ 32 ≡ top
up_again top n h k = omega arith

from_master : (format n pc : ℕ) (head : Head) (before r : Regs) → is_supervisor r.sr ≡ true → is_master r.sr ≡ true
    → frame_length format ≡ n → n ≤ LONGEST → before.msp < 2 ^ 32 → head.sr ≡ before.sr → head.pc ≡ pc
    → r.isp ≡ before.isp → r.msp ≡ difference before.msp n → restore_of format head r ≡ back_to before pc r
from_master format n pc head before r s m len few small sr at isp msp =
    let top : sum r.msp (frame_length format) ≡ before.msp = ap (λ (x : ℕ). sum x (frame_length format)) msp
    ∙ ap (λ (k : ℕ). sum (difference before.msp n) k) len ∙ up_again before.msp n small few in
    rw (s, m, top, sr, at, isp) refl

from_interrupt : (format n pc : ℕ) (head : Head) (before r : Regs) → is_supervisor r.sr ≡ true → is_master r.sr ≡ false
    → frame_length format ≡ n → n ≤ LONGEST → before.isp < 2 ^ 32 → head.sr ≡ before.sr → head.pc ≡ pc
    → r.msp ≡ before.msp → r.isp ≡ difference before.isp n → restore_of format head r ≡ back_to before pc r
from_interrupt format n pc head before r s m len few small sr at msp isp =
    let top : sum r.isp (frame_length format) ≡ before.isp = ap (λ (x : ℕ). sum x (frame_length format)) isp
    ∙ ap (λ (k : ℕ). sum (difference before.isp n) k) len ∙ up_again before.isp n small few in
    rw (s, m, top, sr, at, msp) refl

-- ---- the two cases of an entry

-- the frames of a cause, by whether it is an interrupt and by M
abbrev frames_by : (i m : Bool) → Cause → Regs → Frames
frames_by i m c r = record {
  first = stacked (frame_of r.sr c) (if m then r.msp else r.isp);
  second = if i && m then Some (stacked (throwaway_of r.sr c) r.isp) else None;
}

abbrev settled_by : (i m : Bool) → Cause → Regs → Regs
settled_by i m c r =
    with_second (frames_by i m c r).second
    (record (if m then record r { msp = (frames_by i m c r).first.at } else record r { isp = (frames_by i m c r).first.at }) {
      sr = if i then with_mask c.level (supervised r.sr) else supervised r.sr;
      pc = c.pc;
    })

pub record IsBack (h back : Regs) : Type 0 where
  pub supervisor : is_supervisor back.sr ≡ true
  pub master : is_master back.sr ≡ is_master h.sr
  pub isp : back.isp ≡ h.isp
  pub msp : back.msp ≡ h.msp

one_status : (i m : Bool) (level sr : ℕ) → level < 8 → is_master sr ≡ m → is_master (if i then with_mask level (supervised sr) else supervised sr) ≡ m
one_status true m level sr small h = master_masked level (supervised sr) small ∙ master_supervised sr ∙ h
one_status false m level sr small h = master_supervised sr ∙ h

few_bytes : (f : Frame) → length (frame_bytes f) ≤ LONGEST
few_bytes f = let e = length-frame_bytes f in let h : frame_length (format_of f) ≤ LONGEST = grind arith in omega arith

module _ (S : Type 0) (bus : Bus S) (place : Placing S) (view : Viewing S) (keeps : Keeps bus place view) (c : Cause) (cpu back : Cpu)
    (lawful : IsLawfulCause c cpu) (can : CanReturn c.access) where
  -- the frame on the active stack, with what is taken from there
  abbrev OnStack : S → Regs → Type 0
  OnStack s r = Shows (view s) (active_stack r) (length (frame_bytes (frame_of cpu.regs.sr c))) (frame_bytes (frame_of cpu.regs.sr c))

  abbrev Restores : Regs → Type 0
  Restores r = restore_of (format_of (frame_of cpu.regs.sr c)) (head_from (frame_of cpu.regs.sr c)) r ≡ back_to cpu.regs c.pc back.regs

  finish_one : (s : S) → OnStack s back.regs → Restores back.regs → (run bus (take_frames_of back.regs) s).0 ≡ Ok (taken_back c cpu back)
  finish_one s seen regs =
      let f = frame_of cpu.regs.sr c in
      let is = of_cause c.access cpu.regs.sr c in
      let may : CanReturn (access_of f) = subst CanReturn (sym is.access) can in
      let given = one_given S bus place view keeps f back.regs s is.returns lawful.frame may seen in
      given.answers ∙ ap (λ (a : Option Access). (let q : Result Taken Ended = Ok (record {
        regs = restore_of (format_of f)
            (head_from f) back.regs;
        access = a;
      }) in q)) is.access
      ∙ ap (λ (r : Regs). (let q : Result Taken Ended = Ok (record { regs = r; access = c.access }) in q)) regs

  saved : kept_status (sr_of (frame_of cpu.regs.sr c)) ≡ cpu.regs.sr
  saved = let is = of_cause c.access cpu.regs.sr c in ap kept_status is.sr ∙ lawful.status

  pub by_cases : (i m : Bool) (s : S) → is_master cpu.regs.sr ≡ m → AreSeen (view s) (frames_by i m c cpu.regs) → IsBack (settled_by i m c cpu.regs) back.regs
      → (run bus (take_frames_of back.regs) s).0 ≡ Ok (taken_back c cpu back)
  by_cases false false s m seen h =
      let f = frame_of cpu.regs.sr c in
      let is = of_cause c.access cpu.regs.sr c in
      let n = length (frame_bytes f) in
      let master : is_master back.regs.sr ≡ false = h.master ∙ one_status false false c.level cpu.regs.sr lawful.level m in
      let top : active_stack back.regs ≡ difference cpu.regs.isp n = rw (h.supervisor, master) h.isp in
      finish_one s (subst (λ (x : ℕ). Shows (view s) x n (frame_bytes f)) (sym top) seen.first)
      (from_interrupt (format_of f) n c.pc (head_from f) cpu.regs back.regs h.supervisor master
      (sym (length-frame_bytes f)) (few_bytes f) lawful.isp saved is.pc h.msp h.isp)
  by_cases false true s m seen h =
      let f = frame_of cpu.regs.sr c in
      let is = of_cause c.access cpu.regs.sr c in
      let n = length (frame_bytes f) in
      let master : is_master back.regs.sr ≡ true = h.master ∙ one_status false true c.level cpu.regs.sr lawful.level m in
      let top : active_stack back.regs ≡ difference cpu.regs.msp n = rw (h.supervisor, master) h.msp in
      finish_one s (subst (λ (x : ℕ). Shows (view s) x n (frame_bytes f)) (sym top) seen.first)
      (from_master (format_of f) n c.pc (head_from f) cpu.regs back.regs h.supervisor master
      (sym (length-frame_bytes f)) (few_bytes f) lawful.msp saved is.pc h.isp h.msp)
  by_cases true false s m seen h =
      let f = frame_of cpu.regs.sr c in
      let is = of_cause c.access cpu.regs.sr c in
      let n = length (frame_bytes f) in
      let master : is_master back.regs.sr ≡ false = h.master ∙ one_status true false c.level cpu.regs.sr lawful.level m in
      let top : active_stack back.regs ≡ difference cpu.regs.isp n = rw (h.supervisor, master) h.isp in
      finish_one s (subst (λ (x : ℕ). Shows (view s) x n (frame_bytes f)) (sym top) seen.first)
      (from_interrupt (format_of f) n c.pc (head_from f) cpu.regs back.regs h.supervisor master
      (sym (length-frame_bytes f)) (few_bytes f) lawful.isp saved is.pc h.msp h.isp)
  by_cases true true s m seen h =
      let f = frame_of cpu.regs.sr c in
      let is = of_cause c.access cpu.regs.sr c in
      let n = length (frame_bytes f) in
      let r = back.regs in
      let sr = thrown_sr cpu.regs.sr in
      let above = throwaway_of cpu.regs.sr c in
      let master : is_master r.sr ≡ false = h.master ∙ master_without (with_mask c.level (supervised cpu.regs.sr)) in
      let top : active_stack r ≡ difference cpu.regs.isp 8 = rw (h.supervisor, master) (h.isp ∙ ap (difference cpu.regs.isp) (length-frame_bytes above)) in
      let low : Regs = record (drop_bytes_of 8 r) { sr = kept_status sr } in
      let isp : sum (active_stack r) 8 ≡ cpu.regs.isp = ap (λ (x : ℕ). sum x 8) top ∙ up_again cpu.regs.isp 8 lawful.isp (omega arith) in
      let low_is : low ≡ record r { sr = kept_status sr; isp = cpu.regs.isp } = rw (h.supervisor, master) (let e : sum r.isp 8 ≡ cpu.regs.isp = rw
      (h.supervisor, master) at isp in rw e refl) in
      let super : is_supervisor (kept_status sr) ≡ true = thrown_supervisor cpu.regs.sr in
      let low_master : is_master (kept_status sr) ≡ true = thrown_master cpu.regs.sr ∙ m in
      let below : Regs = record r { sr = kept_status sr; isp = cpu.regs.isp } in
      let below_top : active_stack below ≡ difference cpu.regs.msp n = rw (super, low_master) h.msp in
      let low_top : active_stack low ≡ difference cpu.regs.msp n = ap active_stack low_is ∙ below_top in
      let first : Shows (view s) (active_stack low) n (frame_bytes f) = subst (λ (x : ℕ). Shows (view s) x n (frame_bytes f)) (sym low_top) seen.first in
      let second : Shows (view s) (active_stack r) (length (frame_bytes above)) (frame_bytes above) =
      subst (λ (x : ℕ). Shows (view s) x (length (frame_bytes above)) (frame_bytes above))
      (sym (let e : active_stack r ≡ difference cpu.regs.isp (length (frame_bytes above)) = rw (h.supervisor, master) h.isp in e)) seen.second in
      let may : CanReturn (access_of f) = subst CanReturn (sym is.access) can in
      let given = two_given S bus place view keeps sr c.pc (4 * c.vector) f r s is.returns lawful.frame lawful.thrown may super second first in
      let regs : restore_of (format_of f) (head_from f) below ≡ back_to cpu.regs c.pc back.regs =
      from_master (format_of f) n c.pc (head_from f) cpu.regs below super low_master
      (sym (length-frame_bytes f)) (few_bytes f) lawful.msp saved is.pc refl h.msp in
      given.answers ∙ ap (λ (a : Option Access). (let q : Result Taken Ended = Ok (record {
        regs = restore_of (format_of f)
            (head_from f) low;
        access = a;
      }) in q)) is.access
      ∙ ap (λ (x : Regs). (let q : Result Taken Ended = Ok (record { regs = restore_of (format_of f) (head_from f) x; access = c.access }) in q)) low_is
      ∙ ap (λ (x : Regs). (let q : Result Taken Ended = Ok (record { regs = x; access = c.access }) in q)) regs

pub frames_are_taken : (S : Type 0) → FramesAreTaken S
unfolding frames_of
frames_are_taken S bus place view c cpu back s keeps lawful seen h can =
    by_cases S bus place view keeps c cpu back lawful can (is_interrupt c) (is_master cpu.regs.sr) s refl seen
    (record { supervisor = h.supervisor; master = h.master; isp = h.isp; msp = h.msp })
