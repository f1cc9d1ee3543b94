use Rattle.std.proofs.Common.{◌≡◌, ◌-◌, ◌≤◌, drop, length}
use Rattle.vm_port.specs.Parts.{world_of, beyond_of, tables_of}
use Rattle.def_guests.specs.Bus.{dropped_all}
use Rattle.vm_port.proofs.port.GuestPort.leave_all.Given as goal

abbrev pub invariant-loop-k : goal.invariant-loop-k
invariant-loop-k g l = record {
  kept : l.self.tlb.now ≡ l.fn.self.tlb.now;
  shadow : dropped_all l.what (drop l.place l.fn.self.tlb.now) (tables_of l.self) ≡ dropped_all l.what l.fn.self.tlb.now (tables_of l.fn.self);
  world : world_of l.self ≡ world_of l.fn.self;
  beyond : beyond_of l.self ≡ beyond_of l.fn.self;
  low : l.place ≤ length l.fn.self.tlb.now;
}

abbrev pub decreases-loop-k : goal.decreases-loop-k
decreases-loop-k g l = length l.self.tlb.now - l.place
