use Rattle.std.proofs.Common.{◌≡◌, sym, ap, ◌∙◌, inr}
use Rattle.mb_port.specs.Routine.{run}
use Rattle.mb_model.specs.declared.processor.Cpu.{Cpu}
use Rattle.def_processor.specs.Entry as entry
use Rattle.def_processor.specs.Entry.{frames_of, handler_regs, put_frames_of}
use Rattle.mb_entry.specs.Places.{places_seen}
use Rattle.mb_entry.specs.Stacks.{frames_seen}
use Rattle.mb_entry.proofs.Faulted.{of_the_fault, both_halted, halted_stays}
use Rattle.mb_entry.proofs.entering.enter.Goals as goal

pub returns-in-Err-clause-unwritten : goal.returns-in-Err-clause-unwritten
returns-in-Err-clause-unwritten g c =
    of_the_fault c.unstacked.result c.in-Err.fault _ c.unstacked.ensures.told
    (rw (sym c.frames_for-frames.ensures) c.in-Err.ensures.means)

pub returns-in-Ok-clause-halts : goal.returns-in-Ok-clause-halts
returns-in-Ok-clause-halts g c =
    let frames = frames_seen c.frames_for-frames.result in
    let places = places_seen c.check_frames.new.places in
    let is : frames ≡ frames_of c.args.cause.now c.args.cpu.now.regs = c.frames_for-frames.ensures in
    let put : g.P.Port.world c.put_frames.new.port ≡ (run g.P.Port.bus (put_frames_of frames places) (g.P.Port.world c.check_frames.new.port)).1 =
    ap (λ q. q.1) (sym c.put_frames.ensures.means) in
    both_halted c.go_to_handler.result _ _ _ c.go_to_handler.ensures.unread
    (halted_stays c.go_to_handler.result _ c.go_to_handler.new.cpu c.go_to_handler.ensures.went)
    (λ unread same. inr (record {
      places = places;
      between = g.P.Port.world c.check_frames.new.port;
      checked = rw (sym is) c.in-Ok.ensures.means;
      unread = rw (sym is, sym put) unread;
      regs = ap (λ (cpu : Cpu). cpu.regs) same ∙ c.set_handler_regs.ensures ∙ ap (λ (f : entry.Frames). handler_regs c.args.cause.now f c.args.cpu.now.regs) is;
    }))
