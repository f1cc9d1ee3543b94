-- The frame of a step that the board left names what buses may be asked for.
use Rattle.std.proofs.Common.{◌≡◌, ◌∙◌, ℕ, suc, ◌≤◌, ◌%◌, Bool, false, List, [], ◌∷◌, length, not, ◌&&◌, arith, refl, ap, sym, subst}
use Rattle.mb_port.specs.declared.types.Fault.{Fault}
use Rattle.mb_instr.specs.declared.instruction.Instr.{Instr}
use Rattle.mb_instr.specs.declared.registers.Plain.{Plain}
use Rattle.mb_frames.specs.declared.frame.Access.{Access}
use Rattle.mb_frames.specs.declared.pend.Pend.{Pend}
use Rattle.mb_frames.specs.AccessFields as fields
use Rattle.mb_frames.specs.AccessFields.{write_fields, line_fields, access_fields}
use Rattle.mb_model.specs.declared.processor.Cpu.{Cpu}
use Rattle.mb_model.specs.declared.pages.TheConstants.{PAGE_SIZE}
use Rattle.mb_writes.specs.Writing.{ArePending}
use Rattle.mb_writes.specs.Transfers.{count_of, mask_in, movem_in, refused_transfer}
use Rattle.mb_writes.specs.declared.ends.WriteFault.{WriteFault}
use Rattle.mb_writes.specs.declared.ends.Ended.{Ended}
use Rattle.mb_writes.specs.declared.ends.Ended.TheVariants as ended
use Rattle.def_processor.specs.SystemEnds.{with_registers}
use Rattle.def_processor.specs.Raise.{traces_all, is_due, with_ct}
use Rattle.def_processor.specs.Step.{movem_words, is_flow}
use Rattle.law_twins.specs.Twins.{SameEnd}
use Rattle.law_attempts.specs.Attempts.{IsUntraced}
use Rattle.def_runs.specs.Telling.{AreOwn}
use Rattle.def_runs.specs.Frames.{left_in}
use Rattle.def_runs.specs.declared.left.LeftOver.{LeftOver}
use Rattle.def_runs.proofs.Writebacks.{frames_tell}
use Rattle.law_mirror.specs.Related.{Site, setting}
use Rattle.law_leave.specs.Exits.{Exit, IsEnd, writing_exit, exit_of}
use Rattle.law_leave.specs.Fits.{EndFits}
use Rattle.law_turns.specs.Lawful.{IsLawfulLeftOver, LeavesLawful}
use Rattle.law_turns.proofs.Usual.{IsUsual}
use Rattle.law_turns.proofs.ExitIs.{no_trace}
use Rattle.law_leave.proofs.Steps.{never_due}

-- pieces with values within them are pieces
pieces_pend : (ps : List Pend) → AreOwn ps → ArePending ps
pieces_pend [] own = tt
pieces_pend (p ∷ ps) own = (own.0.piece, pieces_pend ps own.1)

told : (l : LeftOver) (a : Access) → left_in a ≡ l → IsLawfulLeftOver l → IsLawfulLeftOver (left_in a)
told l a e h = subst IsLawfulLeftOver (sym e) h

-- the frame of an exit
abbrev IsLawfulExit : Exit → Type 0
IsLawfulExit e = LeavesLawful e.cause.access

module _ (x : Site) (i : Instr) (cpu : Cpu) (p : Plain) (plain : IsUntraced cpu) where
  abbrev after : Cpu
  after = with_registers p cpu

  write_lawful : (due : Bool) (f : WriteFault) (items : List Pend) → due ≡ false → f.rest.items ≡ items → length items ≤ 3 → AreOwn items
      → IsLawfulExit (writing_exit due f items cpu after)
  write_lawful due f [] none is few own =
      told _ (access_fields (fields.Write f.fault f.first []) PAGE_SIZE) (frames_tell (fields.Write f.fault f.first []) PAGE_SIZE (few, own)) tt
  write_lawful due f (piece ∷ pieces) none is few own =
      let rest = f.rest.items in
      told _ (with_ct due (write_fields f.fault f.first rest PAGE_SIZE))
      (ap left_in (no_trace due (write_fields f.fault f.first rest PAGE_SIZE) none)
      ∙ ap (λ (ps : List Pend). left_in (write_fields f.fault f.first ps PAGE_SIZE)) is
      ∙ frames_tell (fields.Write f.fault f.first (piece ∷ pieces)) PAGE_SIZE (few, own))
      (pieces_pend (piece ∷ pieces) own)

  -- from what the held guest's end says
  pub lawful_exit : (e k : Ended) → SameEnd (setting x) e k → IsUsual k → EndFits i k → IsEnd k → IsLawfulExit (exit_of i e cpu after)
  lawful_exit (ended.Done f) (ended.Done g) same u fits end = absurd end
  lawful_exit (ended.Trap v) (ended.Trap w) same u fits end = tt
  lawful_exit (ended.Refused v) (ended.Refused w) same u fits end = tt
  lawful_exit (ended.ReadFault f) (ended.ReadFault g) same u fits end =
      told _ (access_fields (fields.Read f.fault f.first) PAGE_SIZE) (frames_tell (fields.Read f.fault f.first) PAGE_SIZE tt) tt
  lawful_exit (ended.WriteFault f) (ended.WriteFault g) same u fits end =
      let rest = sym (ap (λ r. r.items) same.rest) in
      let usual = subst (λ (ps : List Pend). (length ps ≤ 3) × AreOwn ps) rest u in
      write_lawful (is_due cpu.regs.sr (is_flow i)) f f.rest.items (never_due cpu (is_flow i) plain) refl usual.0 usual.1
  lawful_exit (ended.LineFault f l) (ended.LineFault g o) same u fits end =
      told _ (with_ct (traces_all cpu.regs.sr) (line_fields f l PAGE_SIZE))
      (ap left_in (no_trace (traces_all cpu.regs.sr) (line_fields f l PAGE_SIZE) plain.all)
      ∙ frames_tell (fields.Line f l) PAGE_SIZE (subst (λ (longs : List ℕ). length longs ≡ 4) (sym same.1) u))
      (subst (λ (at : ℕ). at % 16 ≡ 0) (ap (λ (r : Fault). r.at) same.0.1) fits.0.0)
  lawful_exit (ended.Movem f) (ended.Movem g) same u fits end =
      let words = movem_words i in
      let moved = refused_transfer f words after.regs.pc in
      let due = traces_all cpu.regs.sr && not (movem_in words).is_load in
      let none : due ≡ false = ap (λ (b : Bool). b && not (movem_in words).is_load) plain.all in
      let few = subst (λ (n : ℕ). suc n ≤ count_of (mask_in words)) (sym same.done) fits.4 in
      told _ (with_ct due (access_fields moved PAGE_SIZE))
      (ap left_in (no_trace due (access_fields moved PAGE_SIZE) none) ∙ frames_tell moved PAGE_SIZE tt) (omega (arith, few))
  lawful_exit _ _ same u fits end = absurd same
