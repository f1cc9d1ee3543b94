-- A frame has room on the interrupt stack.
use Rattle.std.proofs.Common.{◌≡◌, ◌∙◌, ℕ, ◌+◌, ◌*◌, ◌%◌, ◌^◌, ◌<◌, ◌≤◌, Bool, false, cond, length, None, arith, refl, ap, sym, subst}
use Rattle.mb_instr.specs.Registers.{is_master}
use Rattle.mb_frames.specs.declared.frame.Frame.{Frame}
use Rattle.mb_frames.specs.declared.frame.Frame.TheVariants as frame
use Rattle.mb_frames.specs.Layout.{frame_bytes}
use Rattle.mb_frames.proofs.RoundTrip.{length-frame_bytes}
use Rattle.mb_model.specs.declared.processor.Cpu.{Cpu}
use Rattle.mb_ea.specs.Addresses.{difference, sum}
use Rattle.def_processor.specs.declared.entering.Cause.{Cause}
use Rattle.def_processor.specs.Entry.{frames_of, frame_of}
use Rattle.def_machine.specs.World.{World}
use Rattle.def_machine.specs.Enters.{HasRoom}
use Rattle.def_processor.specs.Return.{low}
use Rattle.mb_frames.specs.declared.places.TheConstants.{LONGEST}

pub by_format : (f : Frame) → length (frame_bytes f) ≤ LONGEST
by_format (frame.Short sr pc offset) = let h = length-frame_bytes (frame.Short sr pc offset) in omega arith
by_format (frame.Throwaway sr pc offset) = let h = length-frame_bytes (frame.Throwaway sr pc offset) in omega arith
by_format (frame.Address sr pc offset address) = let h = length-frame_bytes (frame.Address sr pc offset address) in omega arith
by_format (frame.Access sr pc offset access) = let h = length-frame_bytes (frame.Access sr pc offset access) in omega arith

-- a frame on the interrupt stack
pub record OnStack (c : Cause) (cpu : Cpu) (top : ℕ) : Type 0 where
  pub one : (frames_of c cpu.regs).second ≡ None
  pub bytes : (frames_of c cpu.regs).first.bytes ≡ frame_bytes (frame_of cpu.regs.sr c)
  pub ends : (frames_of c cpu.regs).first.at + length (frames_of c cpu.regs).first.bytes ≡ top

pub on_stack : (c : Cause) (cpu : Cpu) → c.level ≡ 0 → is_master cpu.regs.sr ≡ false → LONGEST ≤ cpu.regs.isp → cpu.regs.isp < 2 ^ 32
    → OnStack c cpu cpu.regs.isp
unfolding frames_of
on_stack c cpu level master room small =
    let f = frame_of cpu.regs.sr c in
    let n = length (frame_bytes f) in
    let least : n ≤ LONGEST = by_format f in
    record {
      one = rw level refl;
      bytes = refl;
      ends = ap (λ (m : Bool). difference (cond m cpu.regs.msp cpu.regs.isp) n + n) master
          ∙ (let e : difference cpu.regs.isp n + n ≡ cpu.regs.isp = omega arith in e);
    }

pub has_room : (b : World) (c : Cause) (cpu : Cpu) → c.level ≡ 0 → is_master cpu.regs.sr ≡ false → LONGEST ≤ cpu.regs.isp → cpu.regs.isp < 2 ^ 32
    → cpu.regs.isp ≤ length b.ram → length b.ram ≤ 2 ^ 32 → cpu.vbr ≡ 0 → c.vector < 256 → 1024 ≤ length b.ram → HasRoom b c cpu
has_room b c cpu level master room low inside small vbr vector table =
    let s = on_stack c cpu level master room low in
    record {
      one = s.one;
      fits = let e = s.ends in omega arith;
      small = small;
      aligned = ap (λ (v : ℕ). sum v (4 * c.vector) % 4) vbr ∙ (let e : sum 0 (4 * c.vector) % 4 ≡ 0 = omega arith in e);
      vector = subst (λ (v : ℕ). sum v (4 * c.vector) + 4 ≤ length b.ram) (sym vbr) (let e : sum 0 (4 * c.vector) + 4 ≤ length b.ram = omega arith in e);
    }
