-- What an outcome shows, as values.
use Rattle.std.specs.Prelude.{ℕ, List}
use Rattle.mb_port.specs.declared.types.Mmu.{Mmu}
use Rattle.mb_model.specs.declared.processor.Cpu.{Cpu}
use Rattle.mb_model.specs.declared.outcome.RunState.{RunState}
use Rattle.mb_model.specs.declared.outcome.Outcome.{Outcome}

pub record Seen : Type 0 where
  pub cpu : Cpu
  pub mmu : Mmu
  pub console : List ℕ
  pub lost : ℕ
  pub queue : List ℕ
  pub ctrl : ℕ
  pub status : ℕ
  pub period : ℕ
  pub count : ℕ
  pub pending : ℕ
  pub steps : ℕ
  pub state : RunState
  pub ram : List ℕ

abbrev pub seen_of : Outcome → Seen
seen_of o = record {
  cpu = o.cpu.now;
  mmu = o.mmu.now;
  console = o.console.now;
  lost = o.lost;
  queue = o.queue.items;
  ctrl = o.ctrl;
  status = o.status;
  period = o.period;
  count = o.count;
  pending = o.pending;
  steps = o.steps;
  state = o.state;
  ram = o.ram.now;
}
