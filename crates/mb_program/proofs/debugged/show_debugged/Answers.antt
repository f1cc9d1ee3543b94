use Rattle.std.proofs.Common.{arith}
use Rattle.mb_program.specs.Around.{sink_seen}
use Rattle.mb_program.proofs.DebugLemmas.{begins_steps, debugged_cut, debugged_done, fits_by, numbered_there}
use Rattle.mb_program.proofs.debugged.show_debugged.Goals as goal

pub debug-requires-clause-bound : goal.debug-requires-clause-bound
debug-requires-clause-bound g c =
    let (guest, is) = numbered_there c.args.number c.args.debugged.session.guests c.requires.number.0 c.requires.number.1 in
    let none = begins_steps guest c.in-Ok.lone (c.in-Ok.ensures guest is) in
    omega (arith, none)

pub debug-requires-clause-seated : goal.debug-requires-clause-seated
debug-requires-clause-seated g c =
    let (guest, is) = numbered_there c.args.number c.args.debugged.session.guests c.requires.number.0 c.requires.number.1 in
    (c.in-Ok.ensures guest is).seated

pub returns-in-Ok-debug : goal.returns-in-Ok-debug
returns-in-Ok-debug g c =
    let s = c.args.debugged.session in
    debugged_done c.args.number s c.args.debugged.commands c.in-Ok.lone c.debug.new.self (sink_seen g.O.Sink c.args.out.now)
    (sink_seen g.O.Sink c.debug.new.out) c.args.native.now c.debug.new.native
    (fits_by s c.in_default.field-0 _ c.in_default.ensures.oversize) c.requires.number.0 c.requires.number.1 c.in-Ok.ensures
    c.in-Ok-debug.ensures.prints c.in-Ok-debug.ensures.come c.in-Ok-debug.ensures.native

pub returns : goal.returns
returns g c =
    let s = c.args.debugged.session in
    debugged_cut c.args.number s c.args.debugged.commands c.in-Ok.lone (sink_seen g.O.Sink c.args.out.now)
    (sink_seen g.O.Sink c.debug.new.out) c.args.native.now c.debug.new.native
    (fits_by s c.in_default.field-0 _ c.in_default.ensures.oversize) c.requires.number.0 c.requires.number.1 c.in-Ok.ensures
    c.in-Err-debug.ensures.prints
