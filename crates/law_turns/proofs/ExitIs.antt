-- The exception of an end: what its cause and its frame say.
use Rattle.std.proofs.Common.{◌≡◌, ◌∙◌, ℕ, ◌<◌, ◌≤◌, ◌==◌, Bool, true, false, cond, List, [], ◌∷◌, length, take, not, ◌&&◌, Some, arith, refl, ap, sym, subst}
use Rattle.mb_port.specs.Routine.{Routine, run}
use Rattle.mb_instr.specs.declared.instruction.Instr.{Instr}
use Rattle.mb_instr.specs.declared.registers.Plain.{Plain}
use Rattle.mb_instr.specs.declared.vectors.TheConstants.{ACCESS_ERROR}
use Rattle.mb_instr.specs.Registers.{is_supervisor, plain_of}
use Rattle.mb_frames.specs.declared.frame.Access.{Access}
use Rattle.mb_frames.specs.declared.pend.Pend.{Pend}
use Rattle.mb_frames.specs.AccessFields as fields
use Rattle.mb_frames.specs.AccessFields.{write_fields, line_fields, access_fields}
use Rattle.mb_writes.specs.Transfers.{movem_in, transfer_at, refused_transfer}
use Rattle.mb_port.specs.declared.types.Fault.{Fault}
use Rattle.mb_port.specs.declared.types.Space.{Space}
use Rattle.mb_model.specs.declared.processor.Cpu.{Cpu}
use Rattle.mb_ea.specs.declared.reading.ReadFault.{ReadFault}
use Rattle.mb_writes.specs.declared.ends.WriteFault.{WriteFault}
use Rattle.mb_writes.specs.declared.ends.MovemFault.{MovemFault}
use Rattle.mb_writes.specs.declared.ends.Ended.{Ended}
use Rattle.mb_writes.specs.declared.ends.Ended.TheVariants as ended
use Rattle.def_processor.specs.SystemEnds.{with_registers}
use Rattle.def_processor.specs.Raise.{Stepped, traces_all, is_due, with_ct, cause_at}
use Rattle.mb_model.specs.declared.pages.TheConstants.{PAGE_SIZE}
use Rattle.def_processor.specs.Step.{movem_words, is_flow}
use Rattle.law_twins.specs.Twins.{SameEnd}
use Rattle.law_attempts.specs.Attempts.{IsUntraced}
use Rattle.def_guests.specs.Guests.{Guest}
use Rattle.def_guests.specs.Bus.{guest_bus}
use Rattle.law_mirror.specs.Related.{Site, setting}
use Rattle.law_leave.specs.Exits.{Exit, writing_exit, exit_of}
use Rattle.def_guests.specs.declared.class.Class.TheVariants.{Privileged, Trapped, Retired}
use Rattle.def_guests.specs.Classes.{class_of_end}
use Rattle.def_runs.specs.Finishes.{finish_trap_of, finish_writes_of, finish_line_of, finish_movem_of}
use Rattle.def_runs.specs.Frames.{left_in}
use Rattle.def_runs.specs.declared.left.LeftOver.{LeftOver}
use Rattle.def_runs.specs.declared.left.LeftOver.TheVariants.{Again, Writes, Line, Movem}
use Rattle.def_guests.specs.Refills.{read_in}
use Rattle.law_turns.specs.Reads.{read_of_access}
use Rattle.law_turns.proofs.ToldReads.{unlocked, read_is_told, write_reads_none, line_reads_none, movem_reads_none}
use Rattle.law_turns.proofs.Rest.{with_counter}
use Rattle.law_turns.proofs.Usual.{IsUsual}
use Rattle.def_runs.specs.Telling.{AreOwn}
use Rattle.law_turns.specs.Registers.{IsFrom}
use Rattle.def_guests.specs.Rests.{left_pieces, rest_by, rest_of}
use Rattle.def_guests.specs.Exits.{is_refusal, class_of_vector, rest_without, rest_by_frame}
use Rattle.def_runs.proofs.Writebacks.{frames_tell}
use Rattle.mb_instr.proofs.PlainRegisters.{plain_again, tidy}
use Rattle.law_turns.proofs.Registers.{is_set, registers_tidy, seven_set}
use Rattle.law_leave.proofs.Steps.{never_due}

is_itself : (cpu : Cpu) → is_supervisor cpu.regs.sr ≡ false → IsFrom cpu cpu
is_itself cpu user = record { isp = refl; master = refl; vbr = refl; user = user; upper = refl }

over : (m n : Routine Stepped) (h : Guest) → m ≡ n → run guest_bus m h ≡ run guest_bus n h
over m n h e = ap (λ (r : Routine Stepped). run guest_bus r h) e

pub record ExitIs (space : Space) (i : Instr) (level : ℕ) (guest cpu : Cpu) (end : Ended) (p : Plain) (e : Exit) : Type 0 where
  pub alone : e.cause.level ≡ 0
  pub small : e.cause.vector < 256
  pub class : class_of_vector e.cause.vector ≡ class_of_end end
  pub from : IsFrom cpu e.cpu
  pub read : read_of_access space e.cause.access ≡ unlocked (read_in end)
  -- a processor has seven address registers beside its stacks
  pub rest : length e.cpu.regs.a ≡ 7 → (q : Plain) → q ≡ record (plain_of e.cpu.regs) { pc = e.cause.pc }
      → (h : Guest) → run guest_bus (rest_by_frame e.cause.vector e.cause.access level guest q) h ≡ run guest_bus (rest_of level guest i end p) h

-- the registers that are handed on, with a PC
set_to : (p : Plain) (cpu : Cpu) (pc : ℕ) (q : Plain) → q ≡ record (plain_of (with_registers p cpu).regs) { pc = pc } → q ≡ record (tidy p) { pc = pc }
set_to p cpu pc q e = e ∙ ap (λ (r : Plain). (let o : Plain = record r { pc = pc } in o)) (plain_again cpu.regs p)

-- with the PC behind the instruction
set_behind : (p : Plain) (cpu : Cpu) (q : Plain) → q ≡ record (plain_of (with_registers p cpu).regs) { pc = (with_registers p cpu).regs.pc } → q ≡ tidy p
set_behind p cpu q e =
    set_to p cpu (with_registers p cpu).regs.pc q e ∙ ap (λ (n : ℕ). (let o : Plain = record (tidy p) { pc = n } in o)) (with_counter p cpu)

-- what was left, by the registers that were read back
rest_tidy : (l : LeftOver) (level : ℕ) (guest : Cpu) (p : Plain) → length (take 7 p.a) ≡ 7 → rest_by l level guest (tidy p) ≡ rest_by l level guest p
rest_tidy Again level guest p h = refl
rest_tidy (Writes pending first) level guest p h = ap (finish_writes_of pending.items first) (registers_tidy p guest h)
rest_tidy (Line at line) level guest p h = ap (finish_line_of at line) (registers_tidy p guest h)
rest_tidy (Movem words ea done next) level guest p h = ap (finish_movem_of words ea done next) (registers_tidy p guest h)

class_by : (v : ℕ) (r : Bool) → (v == ACCESS_ERROR) ≡ false → is_refusal v ≡ r → class_of_vector v ≡ cond r Privileged Trapped
class_by v r h k = rw h (rw k refl)

left_by : (level : ℕ) (guest : Cpu) (q : Plain) (a : Access) (l : LeftOver) → left_in a ≡ l → rest_by (left_in a) level guest q ≡ rest_by l level guest q
left_by level guest q a l e = ap (λ (o : LeftOver). rest_by o level guest q) e

pub no_trace : (due : Bool) (a : Access) → due ≡ false → with_ct due a ≡ a
no_trace due a h = rw h refl

module _ (x : Site) (i : Instr) (level : ℕ) (guest cpu : Cpu) (p : Plain) (plain : IsUntraced cpu) (user : is_supervisor cpu.regs.sr ≡ false)
    (counter : cpu.regs.pc ≡ (plain_of guest.regs).pc) where
  abbrev Is : Ended → Exit → Type 0
  Is end e = ExitIs x.space i level guest cpu end p e

  abbrev after : Cpu
  after = with_registers p cpu

  trap_is : (v : ℕ) → IsUsual (ended.Trap v) → Is (ended.Trap v) (exit_of i (ended.Trap v) cpu after)
  trap_is v u = record {
    alone = refl;
    small = u.0;
    class = class_by v false u.1 u.2;
    from = is_set p cpu user;
    read = refl;
    rest = λ seven q e now. over _ _ now (
        ap (λ (b : Bool). rest_without b v level guest q) u.2
        ∙ ap (λ (r : Plain). finish_trap_of (cause_at v r.pc guest.regs.pc) (plain_of guest.regs) (with_registers r guest)) (set_behind p cpu q e)
        ∙ ap (finish_trap_of (cause_at v p.pc guest.regs.pc) (plain_of guest.regs)) (registers_tidy p guest (seven_set p cpu seven)));
  }

  refused_is : (v : ℕ) → IsUsual (ended.Refused v) → Is (ended.Refused v) (exit_of i (ended.Refused v) cpu after)
  refused_is v u = record {
    alone = refl;
    small = u.0;
    class = class_by v true u.1 u.2;
    from = is_itself cpu user;
    read = refl;
    rest = λ _ q e now. over _ _ now (ap (λ (b : Bool). rest_without b v level guest q) u.2);
  }

  read_is : (f g : ReadFault) → g.fault ≡ record f.fault { space = x.space } → Is (ended.ReadFault g) (exit_of i (ended.ReadFault f) cpu after)
  read_is f g same = record {
    alone = refl;
    small = omega arith;
    class = refl;
    from = is_itself cpu user;
    read = read_is_told x.space f.fault g.fault f.first PAGE_SIZE same;
    rest = λ _ q e now. over _ _ now (ap (λ (o : LeftOver). rest_by o level guest q) (frames_tell (fields.Read f.fault f.first) PAGE_SIZE tt));
  }

  write_is : (due : Bool) (f : WriteFault) (g : WriteFault) (items : List Pend) → due ≡ false → f.rest.items ≡ items → g.rest.items ≡ items → f.first ≡ g.first
      → IsUsual (ended.WriteFault g)
      → Is (ended.WriteFault g) (writing_exit due f items cpu after)
  write_is due f g [] none e h first u = record {
    alone = refl;
    small = omega arith;
    class = refl;
    from = is_itself cpu user;
    read = write_reads_none x.space f.fault f.first PAGE_SIZE [];
    rest = λ _ q e now. over _ _ now (
        ap (λ (o : LeftOver). rest_by o level guest q) (frames_tell (fields.Write f.fault f.first []) PAGE_SIZE (omega arith, tt))
        ∙ ap (λ (ps : List Pend). rest_by (left_pieces ps g.first) level guest p) (sym h));
  }
  write_is due f g (piece ∷ pieces) none e h first u = record {
    alone = refl;
    small = omega arith;
    class = refl;
    from = is_set p cpu user;
    read = ap (λ (a : Access). read_of_access x.space (Some a)) (no_trace due (write_fields f.fault f.first f.rest.items PAGE_SIZE) none)
        ∙ write_reads_none x.space f.fault f.first PAGE_SIZE f.rest.items;
    rest = λ seven q k now. over _ _ now (
        let own = subst (λ (ps : List Pend). (length ps ≤ 3) × AreOwn ps) h u in
        ap (λ (a : Access). rest_by (left_in a) level guest q) (no_trace due (write_fields f.fault f.first f.rest.items PAGE_SIZE) none)
        ∙ ap (λ (ps : List Pend). rest_by (left_in (write_fields f.fault f.first ps PAGE_SIZE)) level guest q) e
        ∙ ap (λ (o : LeftOver). rest_by o level guest q) (frames_tell (fields.Write f.fault f.first (piece ∷ pieces)) PAGE_SIZE own)
        ∙ ap (λ (n : ℕ). rest_by (Writes (record { items = piece ∷ pieces }) n) level guest q) first
        ∙ ap (λ (r : Plain). rest_by (Writes (record { items = piece ∷ pieces }) g.first) level guest r) (set_behind p cpu q k)
        ∙ rest_tidy (Writes (record { items = piece ∷ pieces }) g.first) level guest p (seven_set p cpu seven)
        ∙ ap (λ (ps : List Pend). rest_by (left_pieces ps g.first) level guest p) (sym h));
  }

  line_is : (f g : Fault) (longs : List ℕ) → g.at ≡ f.at → length longs ≡ 4 → Is (ended.LineFault g longs) (exit_of i (ended.LineFault f longs) cpu after)
  line_is f g longs same four = record {
    alone = refl;
    small = omega arith;
    class = refl;
    from = is_set p cpu user;
    read = ap (λ (a : Access). read_of_access x.space (Some a)) (no_trace (traces_all cpu.regs.sr) (line_fields f longs PAGE_SIZE) plain.all)
        ∙ line_reads_none x.space f longs PAGE_SIZE;
    rest = λ seven q k now. over _ _ now (
        ap (λ (a : Access). rest_by (left_in a) level guest q) (no_trace (traces_all cpu.regs.sr) (line_fields f longs PAGE_SIZE) plain.all)
        ∙ ap (λ (o : LeftOver). rest_by o level guest q) (frames_tell (fields.Line f longs) PAGE_SIZE four)
        ∙ ap (λ (n : ℕ). rest_by (Line n longs) level guest q) (sym same)
        ∙ ap (λ (r : Plain). rest_by (Line g.at longs) level guest r) (set_behind p cpu q k)
        ∙ rest_tidy (Line g.at longs) level guest p (seven_set p cpu seven));
  }

  movem_is : (f g : MovemFault) → f.first ≡ g.first → f.done ≡ g.done → Is (ended.Movem g) (exit_of i (ended.Movem f) cpu after)
  movem_is f g first done = record {
    alone = refl;
    small = omega arith;
    class = refl;
    from = is_set p cpu user;
    read =
        let moved = refused_transfer f (movem_words i) after.regs.pc in
        ap (λ (b : Bool). read_of_access x.space (Some (with_ct (b && not (movem_in (movem_words i)).is_load) (access_fields moved PAGE_SIZE)))) plain.all
        ∙ (let m = movem_in (movem_words i) in
        movem_reads_none x.space f.fault f.first (transfer_at m f.first f.done) f.done (movem_words i) after.regs.pc m.is_load PAGE_SIZE);
    rest = λ seven q k now. over _ _ now (
        let words = movem_words i in
        let own : Plain = record p { pc = (plain_of guest.regs).pc } in
        let is : q ≡ tidy own = set_to p cpu cpu.regs.pc q k ∙ ap (λ (n : ℕ). (let o : Plain = record (tidy p) { pc = n } in o)) counter in
        let moved = refused_transfer f words after.regs.pc in
        ap (λ (b : Bool). rest_by (left_in (with_ct (b && not (movem_in words).is_load) (access_fields moved PAGE_SIZE))) level guest q) plain.all
        ∙ ap (λ (o : LeftOver). rest_by o level guest q) (frames_tell moved PAGE_SIZE tt)
        ∙ ap (λ (n : ℕ). rest_by (Movem words f.first f.done n) level guest q) (with_counter p cpu)
        ∙ ap (λ (n : ℕ). rest_by (Movem words n f.done p.pc) level guest q) first
        ∙ ap (λ (n : ℕ). rest_by (Movem words g.first n p.pc) level guest q) done
        ∙ ap (λ (r : Plain). rest_by (Movem words g.first g.done p.pc) level guest r) is
        ∙ rest_tidy (Movem words g.first g.done p.pc) level guest own (seven_set p cpu seven));
  }

  pub exit_is : (e k : Ended) → SameEnd (setting x) e k → IsUsual k → (class_of_end k ≡ Retired → ⊥) → Is k (exit_of i e cpu after)
  exit_is (ended.Done f) (ended.Done g) same u never = absurd (never refl)
  exit_is (ended.Trap v) (ended.Trap w) same u never =
      subst (λ (n : ℕ). Is (ended.Trap w) (exit_of i (ended.Trap n) cpu after)) (sym same.0) (trap_is w u)
  exit_is (ended.Refused v) (ended.Refused w) same u never =
      subst (λ (n : ℕ). Is (ended.Refused w) (exit_of i (ended.Refused n) cpu after)) (sym same.1) (refused_is w u)
  exit_is (ended.ReadFault f) (ended.ReadFault g) same u never = read_is f g same.fault.1
  exit_is (ended.WriteFault f) (ended.WriteFault g) same u never =
      write_is (is_due cpu.regs.sr (is_flow i)) f g f.rest.items (never_due cpu (is_flow i) plain) refl (sym (ap (λ r. r.items) same.rest)) same.first u
  exit_is (ended.LineFault f l) (ended.LineFault g o) same u never =
      subst (λ (longs : List ℕ). Is (ended.LineFault g o) (exit_of i (ended.LineFault f longs) cpu after)) (sym same.1)
      (line_is f g o (ap (λ (r : Fault). r.at) same.0.1) u)
  exit_is (ended.Movem f) (ended.Movem g) same u never = movem_is f g same.first same.done
  exit_is _ _ same u never = absurd same
