-- The board enters the exception of an end.
use Rattle.std.proofs.Common.{◌≡◌, ℕ, ◌+◌, ◌-◌, ◌%◌, ◌≤◌, ◌&&◌, not, Bool, false, List, [], ◌∷◌, length, take, refl, ap, ◌∙◌, arith, Ok}
use Rattle.mb_port.specs.Routine.{Return, run, either}
use Rattle.mb_frames.specs.declared.frame.Access.{Access}
use Rattle.mb_frames.specs.declared.pend.Pend.{Pend}
use Rattle.mb_frames.specs.AccessFields.{read_fields, write_fields, line_fields, access_fields}
use Rattle.mb_model.specs.declared.processor.Cpu.{Cpu}
use Rattle.mb_model.specs.Keeping.{rule_a}
use Rattle.mb_model.specs.Pages.{page_size_by, has_big_pages}
use Rattle.mb_model.specs.declared.pages.TheConstants.{PAGE_SIZE}
use Rattle.mb_walk.proofs.MemoryLemmas.{length-overwritten}
use Rattle.mb_walk.proofs.Parts.{drop-over}
use Rattle.mb_writes.specs.declared.ends.WriteFault.{WriteFault}
use Rattle.mb_writes.specs.declared.ends.Ended.TheVariants as ended
use Rattle.mb_writes.specs.Transfers.{movem_in, refused_transfer}
use Rattle.def_processor.specs.declared.entering.Cause.{Cause}
use Rattle.def_processor.specs.declared.Finish.TheVariants as finish
use Rattle.def_processor.specs.Entry.{Entrance, frames_of}
use Rattle.def_processor.specs.Raise.{Stepped, Raised, traces_all, is_due, ends_step, access_cause, access_error_of, cause_at, raised, raise_of, trace_if_of}
use Rattle.def_processor.specs.Raise.{raise_trap_of, refuse_of, with_ct}
use Rattle.def_processor.specs.Step.{by_page_size, movem_words, finish_unread_of, finish_unwritten_of, is_flow}
use Rattle.law_attempts.specs.Attempts.{IsUntraced}
use Rattle.def_machine.specs.World.{World}
use Rattle.def_machine.specs.Enters.{IsUntranslated, HasRoom}
use Rattle.def_machine.proofs.Bytes.{bytes-overwritten}
use Rattle.def_machine.proofs.Enters.{enters_stacked, frames_are_bytes}
use Rattle.vm_shadow.specs.declared.area.TheConstants.{AREA_BYTES}
use Rattle.law_mirror.specs.Laws.{board_bus}
use Rattle.law_mirror.proofs.Ready.{stays_ready}
use Rattle.law_leave.specs.Exits.{writing_exit, left, BoardLeaves, FramesLeaveReady}

module _ (b : World) (small : has_big_pages b.mmu ≡ false) (o : IsUntranslated b.mmu) where
  access_entered : (pc : ℕ) (access : Access) (cpu : Cpu) → HasRoom b (access_cause pc access) cpu
      → run board_bus (access_error_of pc access cpu) b ≡ left (record { cause = access_cause pc access; cpu = cpu }) b
  access_entered pc access cpu room =
      ap (λ (q : Entrance × World). (let s : Stepped × World = ((ends_step q.0.0, q.0.1), q.1) in s))
      (enters_stacked rule_a b (access_cause pc access) cpu o room)

  by_page : page_size_by b.mmu ≡ PAGE_SIZE
  by_page = rw small refl

  sized_entered : (pc : ℕ) (access : ℕ → Access) (cpu : Cpu) → HasRoom b (access_cause pc (access PAGE_SIZE)) cpu
      → run board_bus (by_page_size (λ page. access_error_of pc (access page) cpu)) b
      ≡ left (record { cause = access_cause pc (access PAGE_SIZE); cpu = cpu }) b
  sized_entered pc access cpu room =
      ap (λ (page : ℕ). run board_bus (access_error_of pc (access page) cpu) b) by_page ∙ access_entered pc (access PAGE_SIZE) cpu room

  raise_entered : (is_trace : Bool) (c : Cause) (kept cpu : Cpu) → HasRoom b c cpu
      → let e = left (record { cause = c; cpu = cpu }) b in run board_bus (raise_of is_trace c kept cpu) b ≡ (Ok (e.0.1), e.1)
  raise_entered is_trace c kept cpu room =
      ap (λ (q : Entrance × World). run board_bus (raised is_trace kept q.0.0 q.0.1) q.1) (enters_stacked rule_a b c cpu o room)

  refused_entered : (vector : ℕ) (before : Cpu) → let at = before.regs.pc in let c = cause_at vector at (at - at % 2) in HasRoom b c before
      → run board_bus (refuse_of vector before) b ≡ left (record { cause = c; cpu = before }) b
  unfolding refuse_of
  refused_entered vector before room =
      let at = before.regs.pc in
      ap (λ (q : Raised × World). run board_bus (either q.0 (λ stepped. Return stepped) (λ cpu. Return (finish.Entered vector, cpu))) q.1)
      (raise_entered false (cause_at vector at (at - at % 2)) before before room)

  trap_entered : (vector : ℕ) (before after : Cpu) → IsUntraced before → let c = cause_at vector after.regs.pc before.regs.pc in HasRoom b c after
      → run board_bus (raise_trap_of vector before after) b ≡ left (record { cause = c; cpu = after }) b
  trap_entered vector before after plain room =
      let c = cause_at vector after.regs.pc before.regs.pc in
      let e = left (record { cause = c; cpu = after }) b in
      ap (λ (q : Raised × World). run board_bus (either q.0 (λ stepped. Return stepped)
      (λ handler. trace_if_of (finish.Entered vector) (traces_all before.regs.sr) before.regs.pc handler)) q.1)
      (raise_entered false c before after room)
      ∙ ap (λ (t : Bool). run board_bus (trace_if_of (finish.Entered vector) t before.regs.pc e.0.1) e.1) plain.all

  write_entered : (due : Bool) (refused : WriteFault) (rest : List Pend) (before after : Cpu) → let e = writing_exit due refused rest before after in
      HasRoom b e.cause e.cpu
      → run board_bus (finish_unwritten_of due refused rest before after) b ≡ left e b
  write_entered due refused [] before after room =
      sized_entered before.regs.pc (λ page. write_fields refused.fault refused.first [] page) before room
  write_entered due refused (piece ∷ pieces) before after room =
      sized_entered after.regs.pc (λ page. with_ct due (write_fields refused.fault refused.first refused.rest.items page)) after room

pub board_leaves : BoardLeaves
unfolding finish_unread_of
board_leaves b i (ended.Done flow) before after plain end small o room = absurd end
board_leaves b i (ended.Trap vector) before after plain end small o room = trap_entered b small o vector before after plain room
board_leaves b i (ended.Refused vector) before after plain end small o room = refused_entered b small o vector before room
board_leaves b i (ended.ReadFault f) before after plain end small o room =
    sized_entered b small o before.regs.pc (λ page. read_fields f.fault f.first page) before room
board_leaves b i (ended.WriteFault f) before after plain end small o room =
    write_entered b small o (is_due before.regs.sr (is_flow i)) f f.rest.items before after room
board_leaves b i (ended.LineFault fault line) before after plain end small o room =
    sized_entered b small o after.regs.pc (λ page. with_ct (traces_all before.regs.sr) (line_fields fault line page)) after room
board_leaves b i (ended.Movem f) before after plain end small o room =
    let words = movem_words i in
    sized_entered b small o before.regs.pc (λ page.
    with_ct (traces_all before.regs.sr && not (movem_in words).is_load) (access_fields (refused_transfer f words after.regs.pc) page)) after room

pub frames_leave_ready : FramesLeaveReady
frames_leave_ready x b g e r room below =
    let f = (frames_of e.cause e.cpu.regs).first in
    let w = (left e b).1 in
    let under : x.base + x.size ≤ x.slots.area = r.under in
    let inside : x.slots.area + AREA_BYTES ≤ length b.ram = r.maps.inside in
    stays_ready x b w g r (bytes-overwritten b.ram f.at f.bytes r.bytes (frames_are_bytes e.cause e.cpu)) (length-overwritten b.ram f.at f.bytes room.fits)
    (ap (λ (m : List ℕ). take x.size m) (drop-over b.ram f.bytes x.base f.at below (omega arith)))
    (ap (λ (m : List ℕ). take AREA_BYTES m) (drop-over b.ram f.bytes x.slots.area f.at (omega arith) (omega arith))) refl refl
