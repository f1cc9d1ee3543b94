use Rattle.std.proofs.Common.{◌≡◌, ◌-◌, [], length}
use Rattle.mb_port.specs.Routine.{run}
use Rattle.def_processor.specs.Return.{read_longs_of}
use Rattle.mb_entry.proofs.taking.read_longs.Given as goal
use Rattle.mb_frames.specs.declared.places.TheConstants.{LONGS}

-- the longs that are left do what all do
abbrev pub invariant-loop-i : goal.invariant-loop-i
invariant-loop-i g l = record {
  told : run g.P.Port.bus (read_longs_of (LONGS - l.i) l.at l.longs.items) (g.P.Port.world l.port)
      ≡ run g.P.Port.bus (read_longs_of LONGS l.fn.at []) (g.P.Port.world l.fn.port);
  all : length l.longs.items ≡ l.i;
  rest : g.P.Port.rest l.port ≡ g.P.Port.rest l.fn.port;
}
