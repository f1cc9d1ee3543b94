-- The frame of an exit: each field fits.
use Rattle.std.proofs.Common.{◌≡◌, ◌⊎◌, ℕ, zero, suc, ◌+◌, ◌-◌, ◌*◌, ◌%◌, ◌^◌, ◌<◌, ◌≤◌, ◌&&◌, Bool, true, false, cond, not, List, [], ◌∷◌, ◌++◌, length, take, drop}
use Rattle.std.proofs.Common.{slice_index, slice_range, arith, refl, ap, sym, ◌∙◌, subst, inl, inr, Some}
use Rattle.std.specs.List.{AllByRecursion}
use Rattle.std.proofs.lemmas.List.{get_or_past}
use Rattle.std.proofs.lemmas.List.Elements.{All-get_or, All-from_recursion}
use Rattle.mb_port.specs.declared.types.Space.{Space}
use Rattle.mb_port.specs.declared.types.Fault.{Fault}
use Rattle.mb_port.specs.Pieces.{IsPiece}
use Rattle.mb_instr.specs.declared.instruction.Instr.{Instr}
use Rattle.mb_instr.specs.declared.registers.Plain.{Plain}
use Rattle.mb_instr.specs.Registers.{with_ccr}
use Rattle.mb_frames.specs.declared.frame.Access.{Access}
use Rattle.mb_frames.specs.declared.frame.Frame.{Frame}
use Rattle.mb_frames.specs.declared.frame.Frame.TheVariants as frame
use Rattle.mb_frames.specs.declared.pend.Pend.{Pend}
use Rattle.mb_frames.specs.Layout.{Fits, fields_of, fields_of_access, frame_bytes, IsFrame, BeginsWith}
use Rattle.mb_frames.specs.Reading.{frame_in}
use Rattle.mb_frames.specs.AccessFields.{bit_if}
use Rattle.mb_frames.specs.declared.status_bits.TheConstants.{CM, LK, RW}
use Rattle.mb_frames.specs.AccessFields.{status, writeback_status, piece_of, register_aligned, memory_aligned}
use Rattle.mb_frames.specs.AccessFields.{read_fields, write_fields, line_fields, movem_fields, access_fields}
use Rattle.mb_frames.proofs.RoundTrip.{frame_in-begins}
use Rattle.mb_model.specs.declared.processor.Cpu.{Cpu}
use Rattle.mb_model.specs.declared.pages.TheConstants.{PAGE_SIZE}
use Rattle.mb_writes.specs.declared.ends.WriteFault.{WriteFault}
use Rattle.mb_writes.specs.declared.ends.Ended.{Ended}
use Rattle.mb_writes.specs.declared.ends.Ended.TheVariants as ended
use Rattle.mb_writes.specs.Transfers.{movem_in, refused_transfer}
use Rattle.def_processor.specs.SystemEnds.{with_registers}
use Rattle.def_processor.specs.Entry.{has_address, frame_of}
use Rattle.def_processor.specs.Raise.{traces_all, is_due, with_ct, access_cause, cause_at}
use Rattle.def_processor.specs.Step.{movem_words, is_flow}
use Rattle.law_attempts.specs.Attempts.{IsUntraced}
use Rattle.law_routines.specs.Between.{SameFault}
use Rattle.law_twins.specs.Twins.{SameEnd}
use Rattle.law_tells.specs.Laws.{AreLongs}
use Rattle.def_runs.specs.Telling.{AreOwn}
use Rattle.law_mirror.specs.Related.{Site, setting}
use Rattle.law_leave.specs.Exits.{Exit, writing_exit, exit_of, IsEnd}
use Rattle.law_leave.specs.Fits.{IsLong, HaveAddresses, EndFits}
use Rattle.law_turns.proofs.Usual.{IsUsual}
use Rattle.law_turns.proofs.ExitIs.{no_trace}
use Rattle.mb_frames.proofs.StatusBits.{access_bits-le, bit_if-le, status-le}
use Rattle.law_leave.proofs.Steps.{never_due}

-- ---- read back

take_front : (n : ℕ) (xs ys : List ℕ) → length xs ≤ n → (zs : List ℕ) × (take n (xs ++ ys) ≡ xs ++ zs)
take_front n [] ys h = (take n ys, refl)
take_front zero (x ∷ xs) ys h = absurd (omega arith)
take_front (suc n) (x ∷ xs) ys h = let (zs, e) = take_front n xs ys (omega arith) in (zs, ap (λ (l : List ℕ). x ∷ l) e)

-- so many bytes that begin with a frame are read as that frame
pub read_as : (ram : List ℕ) (at : ℕ) (f : Frame) (n : ℕ) → IsFrame f → BeginsWith (drop at ram) f → length (frame_bytes f) ≤ n
    → frame_in (slice_range ram at (at + n)) ≡ Some f
read_as ram at f n fits begins h =
    let b = drop at ram in
    let (zs, e) = take_front n (frame_bytes f) (drop (length (frame_bytes f)) b) h in
    ap (λ (k : ℕ). frame_in (take k b)) (let z : at + n - at ≡ n = omega arith in z)
    ∙ frame_in-begins (take n b) f zs fits (ap (λ (l : List ℕ). take n l) begins ∙ e)

-- ---- words

writeback_small : (space : Space) (len : ℕ) → writeback_status space len < 2 ^ 16
writeback_small space len = let c = access_bits-le len space false in omega arith

-- ---- pieces

value_small : (len value : ℕ) → len ≤ 4 → value % 2 ^ (8 * len) < 2 ^ 32
value_small zero value h = omega arith
value_small (suc zero) value h = omega arith
value_small (suc (suc zero)) value h = omega arith
value_small (suc (suc (suc zero))) value h = omega arith
value_small (suc (suc (suc (suc zero)))) value h = omega arith
value_small (suc (suc (suc (suc (suc len))))) value h = absurd (omega arith)

laid_by : (place len value : ℕ) → 0 < len → place + len ≤ 4 → value % 2 ^ (8 * len) * 2 ^ (8 * (4 - place - len)) < 2 ^ 32
laid_by place zero value some h = absurd (omega arith)
laid_by zero (suc zero) value some h = omega arith
laid_by (suc zero) (suc zero) value some h = omega arith
laid_by (suc (suc zero)) (suc zero) value some h = omega arith
laid_by (suc (suc (suc zero))) (suc zero) value some h = omega arith
laid_by (suc (suc (suc (suc place)))) (suc len) value some h = absurd (omega arith)
laid_by zero (suc (suc zero)) value some h = omega arith
laid_by (suc zero) (suc (suc zero)) value some h = omega arith
laid_by (suc (suc zero)) (suc (suc zero)) value some h = omega arith
laid_by (suc (suc (suc place))) (suc (suc len)) value some h = absurd (omega arith)
laid_by zero (suc (suc (suc zero))) value some h = omega arith
laid_by (suc zero) (suc (suc (suc zero))) value some h = omega arith
laid_by (suc (suc place)) (suc (suc (suc len))) value some h = absurd (omega arith)
laid_by zero (suc (suc (suc (suc zero)))) value some h = omega arith
laid_by (suc place) (suc (suc (suc (suc len)))) value some h = absurd (omega arith)
laid_by zero (suc (suc (suc (suc (suc len))))) value some h = absurd (omega arith)

memory_small : (p : Pend) → IsPiece (piece_of p) → IsLong (memory_aligned p)
memory_small p h = laid_by (p.at % 4) p.len p.value h.0 (let e : p.at % 4 + p.len ≤ 4 = grind arith in e)

register_small : (p : Pend) → IsPiece (piece_of p) → IsLong (register_aligned p)
register_small p h = value_small p.len p.value h.1

index_long : (xs : List ℕ) (n : ℕ) → AreLongs xs → IsLong (slice_index xs n)
index_long xs n h = by_place (let e : (n < length xs) ⊎ (length xs ≤ n) = grind arith in e)
  where
    by_place : (n < length xs) ⊎ (length xs ≤ n) → IsLong (slice_index xs n)
    by_place (inl inside) = All-get_or IsLong xs n 0 inside h
    by_place (inr past) = subst IsLong (sym (get_or_past xs n 0 past)) (omega arith)

-- ---- the fields of an access error

abbrev pub AccessFits : Access → Type 0
AccessFits a = AllByRecursion Fits (fields_of_access a)

-- by the fields in their order
by_fields : (a : Access) → IsLong a.ea → a.ssw < 2 ^ 16 → a.wb3s < 2 ^ 16 → a.wb2s < 2 ^ 16 → a.wb1s < 2 ^ 16 → IsLong a.fa → IsLong a.wb3a → IsLong a.wb3d
    → IsLong a.wb2a → IsLong a.wb2d → IsLong a.wb1a → IsLong a.wb1d → IsLong a.pd1 → IsLong a.pd2 → IsLong a.pd3 → AccessFits a
by_fields a ea ssw wb3s wb2s wb1s fa wb3a wb3d wb2a wb2d wb1a wb1d pd1 pd2 pd3 =
    (ea, (ssw, (wb3s, (wb2s, (wb1s, (fa, (wb3a, (wb3d, (wb2a, (wb2d, (wb1a, (wb1d, (pd1, (pd2, (pd3, tt)))))))))))))))

word : 0 < 2 ^ 16
word = omega arith

long : 0 < 2 ^ 32
long = omega arith

read_fit : (fault : Fault) (first : ℕ) → IsLong fault.at → IsLong first → AccessFits (read_fields fault first PAGE_SIZE)
read_fit fault first at begins =
    let ea = cond fault.code fault.at first in
    let status : status fault ea PAGE_SIZE + bit_if fault.write LK + RW < 2 ^ 16 =
    (let a = status-le fault ea PAGE_SIZE in let b = bit_if-le fault.write LK in omega arith) in
    by_fields (read_fields fault first PAGE_SIZE) (by_kind fault.code) status word word word at long long long long long long long long long
  where
    by_kind : (b : Bool) → IsLong (cond b fault.at first)
    by_kind true = at
    by_kind false = begins

write_fit : (fault : Fault) (first : ℕ) (rest : List Pend) → IsLong fault.at → IsLong first → length rest ≤ 3 → AreOwn rest → HaveAddresses rest
    → AccessFits (write_fields fault first rest PAGE_SIZE)
write_fit fault first [] at begins few own have =
    let status : status fault first PAGE_SIZE < 2 ^ 16 = (let a = status-le fault first PAGE_SIZE in omega arith) in
    by_fields (write_fields fault first [] PAGE_SIZE) begins status word word word at long long long long long long long long long
write_fit fault first (p ∷ []) at begins few own have =
    let status : status fault first PAGE_SIZE < 2 ^ 16 = (let a = status-le fault first PAGE_SIZE in omega arith) in
    let one = writeback_small fault.space p.len in
    by_fields (write_fields fault first (p ∷ []) PAGE_SIZE) begins status word word one at long long long long
    have.0 (memory_small p own.0.piece) long long long
write_fit fault first (p ∷ q ∷ []) at begins few own have =
    let status : status fault first PAGE_SIZE < 2 ^ 16 = (let a = status-le fault first PAGE_SIZE in omega arith) in
    let one = writeback_small fault.space p.len in
    let two = writeback_small fault.space q.len in
    by_fields (write_fields fault first (p ∷ q ∷ []) PAGE_SIZE) begins status word two one at long long have.1.0 (register_small q own.1.0.piece)
    have.0 (memory_small p own.0.piece) long long long
write_fit fault first (p ∷ q ∷ r ∷ []) at begins few own have =
    let status : status fault first PAGE_SIZE < 2 ^ 16 = (let a = status-le fault first PAGE_SIZE in omega arith) in
    let one = writeback_small fault.space p.len in
    let two = writeback_small fault.space q.len in
    let three = writeback_small fault.space r.len in
    by_fields (write_fields fault first (p ∷ q ∷ r ∷ []) PAGE_SIZE) begins status three two one at have.1.1.0 (register_small r own.1.1.0.piece)
    have.1.0 (register_small q own.1.0.piece) have.0 (memory_small p own.0.piece) long long long
write_fit fault first (p ∷ q ∷ r ∷ o ∷ rest) at begins few own have = absurd (omega arith)

line_fit : (fault : Fault) (line : List ℕ) → IsLong fault.at → AreLongs line → AccessFits (line_fields fault line PAGE_SIZE)
line_fit fault line at longs =
    let status : status fault fault.at PAGE_SIZE < 2 ^ 16 = (let a = status-le fault fault.at PAGE_SIZE in omega arith) in
    by_fields (line_fields fault line PAGE_SIZE) at status word word (writeback_small fault.space 16) at long long long long at (index_long line 0 longs)
    (index_long line 1 longs) (index_long line 2 longs) (index_long line 3 longs)

movem_fit : (fault : Fault) (first start done words next : ℕ) (is_load : Bool) → IsLong fault.at → IsLong first → done < 16 → IsLong words → IsLong next
    → AccessFits (movem_fields fault first start done words next is_load PAGE_SIZE)
movem_fit fault first start done words next is_load at begins few is goes =
    let status : status fault start PAGE_SIZE + CM + bit_if is_load RW < 2 ^ 16 =
    (let a = status-le fault start PAGE_SIZE in let b = bit_if-le is_load RW in omega arith) in
    let count : IsLong done = omega arith in
    by_fields (movem_fields fault first start done words next is_load PAGE_SIZE) begins status word word word at long long long long long long goes is count

-- ---- frames

access_frame : (sr pc : ℕ) (a : Access) → sr < 2 ^ 16 → IsLong pc → AccessFits a → IsFrame (frame_of sr (access_cause pc a))
access_frame sr pc a s h fits =
    (omega arith, All-from_recursion Fits (fields_of (frame.Access sr pc 8 a)) (s, (h, ((let e : 7 * 4096 + 8 < 2 ^ 16 = omega arith in e), fits))))

plain_frame : (sr pc at vector : ℕ) → sr < 2 ^ 16 → IsLong pc → IsLong at → vector < 256 → IsFrame (frame_of sr (cause_at vector pc at))
plain_frame sr pc at vector s h k small = by_address (has_address vector)
  where
    offset : 4 * vector < 4096
    offset = omega arith

    by_address : (b : Bool) → IsFrame (cond b (frame.Address sr pc (4 * vector) at) (frame.Short sr pc (4 * vector)))
    by_address true = (
      offset,
      All-from_recursion Fits (fields_of (frame.Address sr pc (4 * vector) at))
          (s, (h, ((let e : 2 * 4096 + 4 * vector < 2 ^ 16 = omega arith in e), (k, tt)))),
    )
    by_address false = (
      offset,
      All-from_recursion Fits (fields_of (frame.Short sr pc (4 * vector)))
          (s, (h, ((let e : 0 * 4096 + 4 * vector < 2 ^ 16 = omega arith in e), tt))),
    )

-- ---- exits

set_small : (sr ccr : ℕ) → sr < 2 ^ 16 → with_ccr sr ccr < 2 ^ 16
set_small sr ccr h = omega arith

-- the frame of an exit
abbrev FrameFits : Exit → Type 0
FrameFits e = IsFrame (frame_of e.cpu.regs.sr e.cause)

same_at : (x : Site) (f g : Fault) → SameFault (setting x) f g → IsLong g.at → IsLong f.at
same_at x f g same h = subst IsLong (ap (λ (o : Fault). o.at) same.1) h

module _ (x : Site) (i : Instr) (cpu : Cpu) (p : Plain) (plain : IsUntraced cpu) (status : cpu.regs.sr < 2 ^ 16) (counter : IsLong cpu.regs.pc)
    (next : IsLong p.pc) where
  abbrev after : Cpu
  after = with_registers p cpu

  write_exit_fits : (due : Bool) (f : WriteFault) (items : List Pend) → due ≡ false → f.rest.items ≡ items → IsLong f.fault.at → IsLong f.first
      → length items ≤ 3 → AreOwn items → HaveAddresses items
      → FrameFits (writing_exit due f items cpu after)
  write_exit_fits due f [] none is at begins few own have =
      access_frame cpu.regs.sr cpu.regs.pc _ status counter (write_fit f.fault f.first [] at begins few own have)
  write_exit_fits due f (piece ∷ pieces) none is at begins few own have =
      let rest = f.rest.items in
      let fits : AccessFits (write_fields f.fault f.first rest PAGE_SIZE) =
      subst (λ (ps : List Pend). AccessFits (write_fields f.fault f.first ps PAGE_SIZE)) (sym is)
      (write_fit f.fault f.first (piece ∷ pieces) at begins few own have) in
      access_frame after.regs.sr after.regs.pc (with_ct due (write_fields f.fault f.first rest PAGE_SIZE)) (set_small cpu.regs.sr p.ccr status) next
      (subst AccessFits (sym (no_trace due (write_fields f.fault f.first rest PAGE_SIZE) none)) fits)

  -- from what the held guest's end says
  pub exit_fits : (e k : Ended) → SameEnd (setting x) e k → IsUsual k → EndFits i k → IsEnd k → FrameFits (exit_of i e cpu after)
  exit_fits (ended.Done f) (ended.Done g) same u fits end = absurd end
  exit_fits (ended.Trap v) (ended.Trap w) same u fits end =
      plain_frame after.regs.sr after.regs.pc cpu.regs.pc v (set_small cpu.regs.sr p.ccr status) next counter (subst (λ (n : ℕ). n < 256) (sym same.0) u.0)
  exit_fits (ended.Refused v) (ended.Refused w) same u fits end =
      let at = cpu.regs.pc in
      plain_frame cpu.regs.sr at (at - at % 2) v status counter (omega arith) (subst (λ (n : ℕ). n < 256) (sym same.1) u.0)
  exit_fits (ended.ReadFault f) (ended.ReadFault g) same u fits end =
      access_frame cpu.regs.sr cpu.regs.pc _ status counter
      (read_fit f.fault f.first (same_at x f.fault g.fault same.fault fits.0) (subst IsLong (sym same.first) fits.1))
  exit_fits (ended.WriteFault f) (ended.WriteFault g) same u fits end =
      let rest = sym (ap (λ r. r.items) same.rest) in
      let usual = subst (λ (ps : List Pend). (length ps ≤ 3) × AreOwn ps) rest u in
      write_exit_fits (is_due cpu.regs.sr (is_flow i)) f f.rest.items (never_due cpu (is_flow i) plain) refl
      (same_at x f.fault g.fault same.fault fits.0) (subst IsLong (sym same.first) fits.1) usual.0 usual.1 (subst HaveAddresses rest fits.2)
  exit_fits (ended.LineFault f l) (ended.LineFault g o) same u fits end =
      let longs : AreLongs l = subst AreLongs (sym same.1) fits.1 in
      access_frame after.regs.sr after.regs.pc (with_ct (traces_all cpu.regs.sr) (line_fields f l PAGE_SIZE)) (set_small cpu.regs.sr p.ccr status) next
      (subst AccessFits (sym (no_trace (traces_all cpu.regs.sr) (line_fields f l PAGE_SIZE) plain.all)) (line_fit f l (same_at x f g same.0 fits.0.1) longs))
  exit_fits (ended.Movem f) (ended.Movem g) same u fits end =
      let words = movem_words i in
      let fields = access_fields (refused_transfer f words after.regs.pc) PAGE_SIZE in
      let due = traces_all cpu.regs.sr && not (movem_in words).is_load in
      let none : due ≡ false = ap (λ (b : Bool). b && not (movem_in words).is_load) plain.all in
      access_frame after.regs.sr cpu.regs.pc (with_ct due fields) (set_small cpu.regs.sr p.ccr status) counter
      (subst AccessFits (sym (no_trace due fields none))
      (movem_fit f.fault f.first _ f.done words after.regs.pc _ (same_at x f.fault g.fault same.fault fits.0) (subst IsLong (sym same.first) fits.1)
      (subst (λ (n : ℕ). n < 16) (sym same.done) fits.2) fits.3 next))
  exit_fits _ _ same u fits end = absurd same
