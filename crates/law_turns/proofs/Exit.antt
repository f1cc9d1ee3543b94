-- A step that the board leaves by an exception.
use Rattle.std.proofs.Common.{◌≡◌, ◌∙◌, ℕ, ◌+◌, ◌-◌, ◌*◌, ◌^◌, ◌<◌, ◌≤◌, Bool, true, false, cond, List, [], ◌∷◌, ◌++◌, length, take, drop, Option, Some, None}
use Rattle.std.proofs.Common.{◌⊎◌, arith, refl, ap, sym, subst, inl, inr, Ok, Err}
use Rattle.std.proofs.lemmas.List.{length-take}
use Rattle.mb_port.specs.Routine.{run}
use Rattle.mb_port.specs.declared.types.Space.{Space}
use Rattle.mb_port.specs.declared.types.Mmu.{Mmu}
use Rattle.mb_instr.specs.declared.instruction.Instr.{Instr}
use Rattle.mb_instr.specs.declared.registers.Plain.{Plain}
use Rattle.mb_instr.specs.declared.registers.Regs.{Regs}
use Rattle.mb_instr.specs.Registers.{is_supervisor, is_master, active_stack, plain_of}
use Rattle.mb_frames.specs.declared.frame.Access.{Access}
use Rattle.mb_frames.specs.declared.frame.Frame.{Frame}
use Rattle.mb_frames.specs.declared.frame.Frame.TheVariants as frame
use Rattle.mb_frames.specs.Layout.{frame_bytes, IsFrame, BeginsWith, pc_of, sr_of}
use Rattle.mb_model.specs.declared.processor.Cpu.{Cpu}
use Rattle.mb_model.specs.Status.{space_of}
use Rattle.mb_walk.specs.Memory.{overwritten, part}
use Rattle.mb_walk.proofs.MemoryLemmas.{length-overwritten}
use Rattle.mb_writes.specs.declared.ends.Ended.{Ended}
use Rattle.mb_writes.specs.declared.ends.Ended.TheVariants as ended
use Rattle.def_processor.specs.declared.entering.Cause.{Cause}
use Rattle.def_processor.specs.declared.Finish.{Finish}
use Rattle.def_processor.specs.declared.Finish.TheVariants as finish
use Rattle.mb_writes.specs.declared.transfers.Movem.{Movem}
use Rattle.def_instructions.specs.Ends.{Performed, closed}
use Rattle.def_instructions.specs.Attempt.{fetched_of}
use Rattle.def_processor.specs.SystemEnds.{with_registers}
use Rattle.def_processor.specs.Entry.{frames_of, frame_of, frame_with, has_address}
use Rattle.def_processor.specs.Step.{interrupt_mask, step_of, rank}
use Rattle.mb_devices.specs.Devices.{DeviceState, ticked, level_of}
use Rattle.def_machine.specs.World.{World}
use Rattle.def_machine.specs.declared.reference.Reference.{Reference}
use Rattle.def_machine.specs.Access.{untranslated}
use Rattle.def_machine.specs.Machine.{Machine, arrived, state_after, takes_steps, asked}
use Rattle.def_machine.specs.Enters.{IsUntranslated, HasRoom, supervising}
use Rattle.law_attempts.specs.Attempts.{IsUntraced, NoOther, fetched_by}
use Rattle.mb_walk.proofs.Parts.{drop-over}
use Rattle.def_processor.specs.Raise.{Stepped, step_end}
use Rattle.law_tells.specs.Laws.{moves_fetched}
use Rattle.law_leave.specs.Exits.{left, Exit, exit_of, IsEnd, IsBelow}
use Rattle.vm_shadow.specs.Mapped.{root_of}
use Rattle.vm_shadow.specs.declared.area.TheConstants.{AREA_BYTES}
use Rattle.def_guests.specs.Guests.{Guest}
use Rattle.def_guests.specs.Held.{held_bus}
use Rattle.def_guests.specs.Bus.{guest_bus}
use Rattle.law_mirror.specs.Related.{Site, Related}
use Rattle.law_mirror.specs.Laws.{board_bus}
use Rattle.law_mirror.specs.Ready.{native_mmu}
use Rattle.law_held.specs.Denied.{HasNone, IsFaultless, AttemptGoesOn, IsAllowed, IsDenied, by_held, by_guest}
use Rattle.def_guests.specs.Refills.{read_in, denied_read, can_refill, after_access, refilled_at}
use Rattle.law_turns.specs.Reads.{read_of_access}
use Rattle.law_turns.proofs.ToldReads.{unlocked}
use Rattle.law_held.specs.Sound.{Sound, OnlyRam}
use Rattle.law_mirror.proofs.Ready.{native_translation}
use Rattle.law_leave.proofs.Exits.{frames_leave_ready}
use Rattle.def_guests.specs.declared.class.Class.{Class}
use Rattle.def_guests.specs.declared.class.Class.TheVariants as class
use Rattle.def_guests.specs.declared.class.Class.TheVariants.{Retired}
use Rattle.def_guests.specs.Classes.{class_of_end}
use Rattle.def_guests.specs.Turns.{step_class_at_first, bus_side}
use Rattle.def_runs.specs.Native.{user_step}
use Rattle.law_turns.specs.Retire.{HasRegisters}
use Rattle.def_guests.specs.Rests.{rest_of}
use Rattle.def_guests.specs.Exits.{frame_access, handed_by, rest_by_frame}
use Rattle.law_turns.specs.Exit.{left_guest, Leaves, IsExitClass, LeftSteps}
use Rattle.law_turns.proofs.Lists.{between}
use Rattle.law_turns.proofs.Rest.{steps_go_on}
use Rattle.law_turns.proofs.Room.{by_format, OnStack, on_stack, has_room}
use Rattle.law_turns.proofs.FrameFits.{read_as, exit_fits}
use Rattle.law_turns.specs.Lawful.{LeavesLawful}
use Rattle.law_turns.proofs.Lawful.{lawful_exit}
use Rattle.law_turns.proofs.ExitIs.{ExitIs, exit_is}
use Rattle.law_turns.proofs.Retire.{is_attempt, masked_by, class_held, off_ticked, end_of_held, mirrored_by, related_devices, user_later, user_step_is}
use Rattle.law_turns.specs.Batch.{IsTried}
use Rattle.law_turns.proofs.Usual.{IsUsual, usual_end}
use Rattle.law_leave.specs.Steps.{LeavesBy, Mirrored}
use Rattle.law_mirror.specs.Attempts.{Stays}
use Rattle.law_mirror.proofs.Mirrors.{sound_of}
use Rattle.law_held.proofs.Attempts.{attempts_go_on}
use Rattle.law_leave.specs.Fits.{IsLong}
use Rattle.law_leave.proofs.FitEnds.{ends_fit}
use Rattle.law_leave.proofs.Steps.{in_it, steps_leave}
use Rattle.def_guests.proofs.Exits.{found_instr}
use Rattle.mb_frames.specs.declared.places.TheConstants.{LONGEST}

-- ---- what is handed back

-- the registers once the exception is entered
pub record Entered (e : Exit) (top : ℕ) (r : Regs) : Type 0 where
  pub d : r.d ≡ e.cpu.regs.d
  pub a : r.a ≡ e.cpu.regs.a
  pub usp : r.usp ≡ e.cpu.regs.usp
  pub isp : r.isp ≡ top

entered_by : (e : Exit) (b : World) → is_master e.cpu.regs.sr ≡ false → (frames_of e.cause e.cpu.regs).second ≡ None
    → Entered e (frames_of e.cause e.cpu.regs).first.at (left e b).0.1.regs
entered_by e b master one =
    let f = frames_of e.cause e.cpu.regs in
    rw one (rw master (record { d = refl; a = refl; usp = refl; isp = refl }))

frame_is : (o : Option Access) (sr : ℕ) (c : Cause) → (pc_of (frame_with o sr c) ≡ c.pc) × (sr_of (frame_with o sr c) ≡ sr)
    × (frame_access (frame_with o sr c) ≡ o)
frame_is (Some access) sr c = (refl, refl, refl)
frame_is None sr c = by_address (has_address c.vector)
  where
    by_address : (b : Bool) → let f = cond b (frame.Address sr c.pc (4 * c.vector) c.address) (frame.Short sr c.pc (4 * c.vector)) in
        (pc_of f ≡ c.pc) × (sr_of f ≡ sr) × (frame_access f ≡ (let o : Option Access = None in o))
    by_address true = (refl, refl, refl)
    by_address false = (refl, refl, refl)

user_stack : (r : Regs) → is_supervisor r.sr ≡ false → active_stack r ≡ r.usp
user_stack r h = ap (λ (b : Bool). cond b (cond (is_master r.sr) r.msp r.isp) r.usp) h

handed_is : (e : Exit) (top : ℕ) (r : Regs) → Entered e top r → is_supervisor e.cpu.regs.sr ≡ false
    → handed_by r (frame_of e.cpu.regs.sr e.cause) ≡ record (plain_of e.cpu.regs) { pc = e.cause.pc }
handed_is e top r h user =
    let (pc, sr, access) = frame_is e.cause.access e.cpu.regs.sr e.cause in
    rw h.d (rw h.a (rw h.usp (rw pc (rw sr (rw (user_stack e.cpu.regs user) refl)))))

-- ---- the frame in memory

drop_front : (xs ys : List ℕ) → drop (length xs) (xs ++ ys) ≡ ys
drop_front [] ys = refl
drop_front (x ∷ xs) ys = drop_front xs ys

assoc : (xs ys zs : List ℕ) → (xs ++ ys) ++ zs ≡ xs ++ (ys ++ zs)
assoc [] ys zs = refl
assoc (x ∷ xs) ys zs = ap (λ (l : List ℕ). x ∷ l) (assoc xs ys zs)

stands_at : (ram bytes : List ℕ) (at : ℕ) → at ≤ length ram → drop at (overwritten ram at bytes) ≡ bytes ++ drop (at + length bytes) ram
stands_at ram bytes at h =
    let n : length (take at ram) ≡ at = (let e = length-take at ram in omega arith) in
    ap (λ (l : List ℕ). drop at l) (assoc (take at ram) bytes (drop (at + length bytes) ram))
    ∙ ap (λ (k : ℕ). drop k (take at ram ++ (bytes ++ drop (at + length bytes) ram))) (sym n) ∙ drop_front (take at ram) (bytes ++ drop (at + length bytes) ram)

begins : (bytes rest : List ℕ) (f : Frame) → bytes ≡ frame_bytes f → BeginsWith (bytes ++ rest) f
begins bytes rest f e =
    ap (λ (b : List ℕ). b ++ rest) e ∙ ap (λ (r : List ℕ). frame_bytes f ++ r)
    (sym (ap (λ (b : List ℕ). drop (length (frame_bytes f)) (b ++ rest)) e ∙ drop_front (frame_bytes f) rest))

-- ---- the board's step

-- the translation that the monitor sets leaves supervisor operands alone
open_by : (root : ℕ) (mmu : Mmu) → mmu ≡ native_mmu root → IsUntranslated mmu
open_by root mmu h = λ at write l. subst (λ (m : Mmu). untranslated m (supervising at write) ≡ Some false) (sym h) (native_translation root at false write l).1

-- The exception that the board enters, and what is known of it.
pub record BoardLeft (x : Site) (level own_level : ℕ) (i : Instr) (cpu : Cpu) (w : World) (guest : Cpu) (g : Guest) : Type 0 where
  pub e : Exit
  -- the board before it
  pub world : World
  pub stays : Stays x w g world (by_held x.space (plain_of guest.regs) g).1
  pub native : run board_bus (step_of level cpu) w ≡ left e world
  pub is : ExitIs x.space i own_level guest cpu (end_of_held x guest g).0 (end_of_held x guest g).1 e
  pub stack : OnStack e.cause e.cpu e.cpu.regs.isp
  pub room : HasRoom world e.cause e.cpu
  pub fits : IsFrame (frame_of e.cpu.regs.sr e.cause)
  pub lawful : LeavesLawful e.cause.access
  pub related : Related x (left e world).1 (by_held x.space (plain_of guest.regs) g).1

is_end : (end : Ended) → (class_of_end end ≡ Retired → ⊥) → IsEnd end
is_end (ended.Done f) never = never refl
is_end (ended.Trap v) never = tt
is_end (ended.Refused v) never = tt
is_end (ended.ReadFault f) never = tt
is_end (ended.WriteFault f) never = tt
is_end (ended.LineFault f line) never = tt
is_end (ended.Movem f) never = tt

board_left : (x : Site) (root level own_level : ℕ) (i : Instr) (cpu : Cpu) (w : World) (guest : Cpu) (g : Guest) → Mirrored x cpu guest → Related x w g
    → w.mmu ≡ native_mmu root → cpu.regs.sr < 2 ^ 16 → is_master cpu.regs.sr ≡ false → cpu.vbr ≡ 0 → LONGEST ≤ cpu.regs.isp → cpu.regs.isp ≤ x.base
    → 1024 ≤ x.base → length w.ram ≤ 2 ^ 32 → rank level ≤ interrupt_mask cpu → NoOther i (fetched_by held_bus guest g).0
    → (class_of_end (end_of_held x guest g).0 ≡ Retired → ⊥) → BoardLeft x level own_level i cpu w guest g
board_left x root level own_level i cpu w guest g m related mmu status master vbr low below table small masked other never =
    let k = end_of_held x guest g in
    let p = k.1 in
    let by : LeavesBy x level i cpu w g k (by_held x.space (plain_of guest.regs) g).1 =
    steps_leave x level cpu guest w g i m related masked other (is_end k.0 never) in
    let goes = (attempts_go_on x.space x.size (plain_of guest.regs) g m.longs m.counter (sound_of x w g related)).0 in
    let usual : IsUsual k.0 = usual_end x x.space (moves_fetched held_bus x.space (plain_of guest.regs).pc g) g (by_held x.space (plain_of guest.regs) g)
    (by_guest x.space (plain_of guest.regs) g) by.ended by.same goes in
    let e = exit_of i by.ended cpu (with_registers p cpu) in
    let found : NoOther i (run held_bus (fetched_of x.space guest.regs.pc) g).0 =
    subst (λ (s : Space). NoOther i (run held_bus (fetched_of s guest.regs.pc) g).0) m.present other in
    let said = ends_fit x.space x.size (plain_of guest.regs) g i m.longs m.counter (sound_of x w g related) found (is_end k.0 never) in
    let counter : IsLong cpu.regs.pc = subst IsLong (sym (ap (λ (r : Plain). r.pc) m.plain)) m.counter in
    let is = exit_is x i own_level guest cpu p m.board_untraced m.user (ap (λ (r : Plain). r.pc) m.plain) by.ended k.0 by.same usual never in
    let inside : x.base ≤ length w.ram = (let h = related.under in let z : x.slots.area + AREA_BYTES ≤ length w.ram = related.maps.inside in omega arith) in
    let count : length by.world.ram ≡ length w.ram = by.stays.outside.count in
    let isp : e.cpu.regs.isp ≡ cpu.regs.isp = is.from.isp in
    let is_master_e : is_master e.cpu.regs.sr ≡ false = is.from.master ∙ master in
    let stack = on_stack e.cause e.cpu is.alone is_master_e (omega arith) (omega arith) in
    let room = has_room by.world e.cause e.cpu is.alone is_master_e (omega arith) (omega arith) (omega arith) (omega arith) (is.from.vbr
    ∙ vbr) is.small (omega arith) in
    let below_e : IsBelow x e = (let h = stack.ends in omega arith) in
    let opened = open_by root by.world.mmu (by.stays.outside.mmu ∙ mmu) in
    record {
      e = e;
      world = by.world;
      stays = by.stays;
      native = by.by opened room;
      is = is;
      stack = stack;
      room = room;
      fits = exit_fits x i cpu p m.board_untraced status counter said.1 by.ended k.0 by.same usual said.0 (is_end k.0 never);
      lawful = lawful_exit x i cpu p m.board_untraced by.ended k.0 by.same usual said.0 (is_end k.0 never);
      related = frames_leave_ready x by.world (by_held x.space (plain_of guest.regs) g).1 e by.stays.related room below_e;
    }

-- the guest's own step, in the space of the site
goes_on_in : (x : Site) (level : ℕ) (i : Instr) (guest : Cpu) (g : Guest) → IsUntraced guest → length guest.regs.a ≡ 7 → HasRegisters (plain_of guest.regs)
    → Sound x.size g
    → rank level ≤ interrupt_mask guest → NoOther i (fetched_by held_bus guest g).0 → (space : Space) → space_of guest ≡ space → let k =
    by_held space (plain_of guest.regs) g in
    (class_of_end (closed k.0).0 ≡ Retired → ⊥)
    → run guest_bus (step_of level guest) g ≡ run guest_bus (rest_of level guest i (closed k.0).0 (closed k.0).1) k.1
goes_on_in x level i guest g plain seven regs sound masked other space here =
    subst (λ (s : Space). let k = by_held s (plain_of guest.regs) g in
    (class_of_end (closed k.0).0 ≡ Retired → ⊥)
    → run guest_bus (step_of level guest) g ≡ run guest_bus (rest_of level guest i (closed k.0).0 (closed k.0).1) k.1) here
    (λ never. steps_go_on x.size level guest g i plain seven regs sound masked other never)

-- on and awake, it goes on behind an exception
entered_after : (vector : ℕ) (cpu : Cpu) (d : DeviceState) → d.off ≡ false → cpu.stopped ≡ false
    → takes_steps (state_after (step_end (finish.Entered vector)) cpu d) ≡ true
entered_after vector cpu d h k = rw h (rw k refl)

is_tried : (c : Class) → IsExitClass c → IsTried c
is_tried class.Privileged h = tt
is_tried class.Trapped h = tt
is_tried class.Denied h = tt
is_tried class.Entered h = absurd h
is_tried class.Idle h = absurd h
is_tried class.Traced h = absurd h
is_tried class.Retired h = absurd h

-- the guest as it was left is the held one
left_is : (x : Site) (ram : List ℕ) (g k : Guest) → OnlyRam g k → part ram x.base x.size ≡ k.world.ram → left_guest x ram g ≡ k
left_is x ram g k only e = ap (λ (r : List ℕ). (let o : Guest = record g { world = record g.world { ram = r } } in o)) e ∙ sym only

-- ---- the read that is refilled

read_in_closed : (q : Performed) → read_in (closed q).0 ≡ denied_read q
read_in_closed (Ok done) = refl
read_in_closed (Err stop) = refl

locked_not : (g : Guest) (r : Reference) → r.write ≡ true → can_refill g r ≡ false
locked_not g r e = rw e refl

-- a locked check is none
unlocked_same : (g : Guest) (o : Option Reference) → refilled_at g (unlocked o) ≡ refilled_at g o
unlocked_same g None = refl
unlocked_same g (Some r) = by_write r.write refl
  where
    by_write : (b : Bool) → r.write ≡ b → refilled_at g (unlocked (Some r)) ≡ refilled_at g (Some r)
    by_write true e =
        ap (λ (b : Bool). refilled_at g (cond b None (Some r))) e
        ∙ sym (ap (λ (b : Bool). cond b (Some (after_access r g)) None) (locked_not g r e))
    by_write false e = ap (λ (b : Bool). refilled_at g (cond b None (Some r))) e

refilled_there : (g now : Guest) (o : Option Reference) → ((r : Reference) → o ≡ Some r → now ≡ g) → refilled_at now o ≡ refilled_at g o
refilled_there g now None same = refl
refilled_there g now (Some r) same = ap (λ (h : Guest). refilled_at h (Some r)) (same r refl)

-- where a read was denied, nothing has changed
still_by : (space : Space) (moves : Movem → Type 0) (g now : Guest) (end : Ended) (after : Plain) (whole : Performed × Guest) (r : Reference)
    → AttemptGoesOn space moves g now end after whole → read_in end ≡ Some r → now ≡ g
still_by space moves g now (ended.ReadFault refused) after whole r goes e = goes
still_by space moves g now (ended.Done flow) after whole r goes e = absurd goes
still_by space moves g now (ended.Trap vector) after whole r goes e = absurd goes
still_by space moves g now (ended.Refused vector) after whole r goes e = absurd goes
still_by space moves g now (ended.WriteFault refused) after whole r goes e = absurd (let z : ⊥ = cc in z)
still_by space moves g now (ended.LineFault fault line) after whole r goes e = absurd (let z : ⊥ = cc in z)
still_by space moves g now (ended.Movem refused) after whole r goes e = absurd (let z : ⊥ = cc in z)

none_reads : (end : Ended) (r : Reference) → HasNone end → read_in end ≡ Some r → ⊥
none_reads (ended.Done flow) r h e = let z : ⊥ = cc in z
none_reads (ended.Trap vector) r h e = let z : ⊥ = cc in z
none_reads (ended.Refused vector) r h e = let z : ⊥ = cc in z
none_reads (ended.ReadFault refused) r h e = h
none_reads (ended.WriteFault refused) r h e = h
none_reads (ended.LineFault fault line) r h e = h
none_reads (ended.Movem refused) r h e = h

faultless_reads : (q : Performed) (r : Reference) → IsFaultless q → denied_read q ≡ Some r → ⊥
faultless_reads (Ok done) r h e = let z : ⊥ = cc in z
faultless_reads (Err stop) r h e = none_reads stop.ended r h e

denied_still : (space : Space) (moves : Movem → Type 0) (g : Guest) (held own : Performed × Guest) (r : Reference)
    → IsAllowed g held own ⊎ IsDenied space moves g held own → denied_read held.0 ≡ Some r → held.1 ≡ g
denied_still space moves g held own r (inl (same, none, leaves)) e = absurd (faultless_reads held.0 r none e)
denied_still space moves g held own r (inr (stop, is, goes)) e =
    still_by space moves g held.1 stop.ended stop.plain own r goes (sym (ap denied_read is) ∙ e)

unlocked_some : (o : Option Reference) (r : Reference) → unlocked o ≡ Some r → (q : Reference) × (o ≡ Some q)
unlocked_some None r e = absurd (let z : None ≡ Some r = e in let y : ⊥ = cc in y)
unlocked_some (Some q) r e = (q, refl)

pub left_steps : LeftSteps
left_steps x script m g b fur regs seven is_left =
    let d = ticked m.world.devices in
    let dev = arrived (g.machine.steps + 1) script g.machine.world.devices in
    let w = record m.world { devices = d } in
    let guest = g.machine.cpu in
    let h : Guest = record { world = record g.machine.world { devices = ticked dev }; shadow = g.shadow } in
    let related = related_devices x m.world (bus_side g) d (ticked dev) b.related in
    let sound = sound_of x w h related in
    let k = by_held x.space (plain_of guest.regs) h in
    let goes = (attempts_go_on x.space x.size (plain_of guest.regs) h regs.longs regs.counter sound).0 in
    let found = (fetched_by held_bus guest h).0 in
    let i = found_instr found in
    let level = asked script (g.machine.steps + 1) (ticked dev) in
    let c = step_class_at_first script g in
    let attempt = is_attempt level guest h c refl (is_tried c is_left) in
    let held : class_of_end (closed k.0).0 ≡ c = class_held x guest h c b.present regs sound attempt.of in
    let never : class_of_end (closed k.0).0 ≡ Retired → ⊥ = λ z. subst IsExitClass (sym held ∙ z) is_left in
    let bl = board_left x (root_of x.slots.area x.space) (level_of d) level i m.cpu w guest h (mirrored_by x m g b regs attempt.plain) related
    fur.mmu fur.status fur.master fur.vectors fur.stack fur.below fur.table fur.small (masked_by m.cpu d b.mask) (in_it found) never in
    let e = bl.e in
    let q = bl.world in
    let l = left e q in
    let f = frame_of e.cpu.regs.sr e.cause in
    let stays = bl.stays in
    let off : l.1.devices.off ≡ false = ap (λ (o : DeviceState). o.off) stays.outside.devices ∙ off_ticked m.world.devices ∙ b.on in
    let entered = entered_by e q (bl.is.from.master ∙ fur.master) bl.stack.one in
    let (pc, sr, access) = frame_is e.cause.access e.cpu.regs.sr e.cause in
    let given : handed_by l.0.1.regs f ≡ record (plain_of e.cpu.regs) { pc = e.cause.pc } =
    handed_is e (frames_of e.cause e.cpu.regs).first.at l.0.1.regs entered bl.is.from.user in
    let same : left_guest x l.1.ram h ≡ k.1 = left_is x l.1.ram h k.1 stays.only bl.related.ram in
    let at = (frames_of e.cause e.cpu.regs).first.at in
    let bytes = (frames_of e.cause e.cpu.regs).first.bytes in
    let fits : at + length bytes ≤ length q.ram = bl.room.fits in
    let top : at + length bytes ≡ m.cpu.regs.isp = bl.stack.ends ∙ bl.is.from.isp in
    let room : x.base + x.size ≤ length q.ram = (let h = b.related.under in let z : x.slots.area + AREA_BYTES ≤ length m.world.ram = b.related.maps.inside in
    let e : length q.ram ≡ length m.world.ram = stays.outside.count in omega arith) in
    let whole : x.base + LONGEST ≤ length q.ram = (let h = b.related.under in let z : x.slots.area + AREA_BYTES ≤ length m.world.ram = b.related.maps.inside in
    let e : length q.ram ≡ length m.world.ram = stays.outside.count in omega arith) in
    let begun : BeginsWith (drop l.0.1.regs.isp l.1.ram) f = subst (λ (n : ℕ). BeginsWith (drop n l.1.ram) f) (sym entered.isp)
    (subst (λ (r : List ℕ). BeginsWith r f) (sym (stands_at q.ram bytes at (omega arith)))
    (begins bytes (drop (at + length bytes) q.ram) f bl.stack.bytes)) in
    let s : Finish × Machine = user_later m l in
    let is_s : user_step m ≡ s = user_step_is m ∙ ap (λ (r : Stepped × World). user_later m r) bl.native in
    subst (λ (v : Finish × Machine). Leaves x script m g v) (sym is_s) (record {
      vector = e.cause.vector;
      entered = refl;
      class = bl.is.class ∙ held;
      running = entered_after e.cause.vector l.0.1 l.1.devices off refl;
      frame = f;
      stands = begun;
      room = (let a = entered.isp in let b = top in let c = fur.below in let d = length-overwritten q.ram at bytes fits in let e = whole in omega arith);
      fits = bl.fits;
      lawful = subst LeavesLawful (sym access) bl.lawful;
      read_back = λ n enough. read_as l.1.ram l.0.1.regs.isp f n bl.fits begun (let few = by_format f in omega arith);
      rest = λ wide. goes_on_in x level i guest h attempt.plain seven regs sound attempt.masked (in_it found) x.space b.present never
          ∙ sym (bl.is.rest (ap (λ (a : List ℕ). length a) (sym entered.a) ∙ wide) (handed_by l.0.1.regs f) given k.1)
          ∙ ap (λ (a : Option Access). run guest_bus (rest_by_frame e.cause.vector a level guest (handed_by l.0.1.regs f)) k.1) (sym access)
          ∙ ap (λ (n : Guest). run guest_bus (rest_by_frame e.cause.vector (frame_access f) level guest (handed_by l.0.1.regs f)) n) (sym same);
      still = λ r e. let (q, read) = unlocked_some (denied_read k.0) r
          (sym (ap (read_of_access x.space) access ∙ bl.is.read ∙ ap unlocked (read_in_closed k.0)) ∙ e) in
          same ∙ denied_still x.space (moves_fetched held_bus x.space (plain_of guest.regs).pc h) h k (by_guest x.space (plain_of guest.regs) h) q goes read;
      again = ap (refilled_at (left_guest x l.1.ram h)) (ap (read_of_access x.space) access ∙ bl.is.read ∙ ap unlocked (read_in_closed k.0))
          ∙ ap (λ (n : Guest). refilled_at n (unlocked (denied_read k.0))) same ∙ unlocked_same k.1 (denied_read k.0)
          ∙ refilled_there h k.1 (denied_read k.0) (λ r e.
          denied_still x.space (moves_fetched held_bus x.space (plain_of guest.regs).pc h) h k (by_guest x.space (plain_of guest.regs) h) r goes e)
          ∙ ap (λ (s : Space). refilled_at h (denied_read (by_held s (plain_of guest.regs) h).0)) (sym b.present);
      related = subst (λ (n : Guest). Related x l.1 n) (sym same) bl.related;
      mmu = stays.outside.mmu;
      on = off;
      count = length-overwritten q.ram at bytes fits ∙ stays.outside.count;
      between = λ n low high.
          ap (λ (r : List ℕ). take (x.base - n) r) (drop-over q.ram bytes n at (let z = top in omega arith) (let z = room in omega arith))
          ∙ between q.ram m.world.ram x.base n stays.outside.below high;
      above = drop-over q.ram bytes (x.base + x.size) at (let z = top in let y = fur.below in omega arith) (let z = room in omega arith) ∙ stays.outside.above;
    })
