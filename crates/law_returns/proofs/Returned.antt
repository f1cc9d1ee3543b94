-- RTE after an entry.
use Rattle.std.proofs.Common.{◌≡◌, Bool, refl, ap, ◌∙◌, Option, Some, None, Result}
use Rattle.mb_port.specs.Routine.{Bus, Return, Then, run, choose, either}
use Rattle.mb_frames.specs.declared.frame.Access.{Access}
use Rattle.mb_model.specs.declared.processor.Cpu.{Cpu}
use Rattle.mb_writes.specs.declared.ends.Ended.{Ended}
use Rattle.def_processor.specs.Return.{Taken, Held, go_on_of, take_frames_of, resumed_of, done_with_flow}
use Rattle.law_returns.specs.Returns.{IsPlain, CanReturn, given_back, held_of, EntryIsReturned}
use Rattle.law_returns.proofs.Entries.{entry_is_seen}
use Rattle.law_returns.proofs.Taken.{frames_are_taken}

can_return : (a : Option Access) → IsPlain a → CanReturn a
can_return None h = tt
can_return (Some a) h = λ goes. let no : ⊥ = cc in absurd no

resumed : (S : Type 0) (bus : Bus S) (a : Option Access) (cpu : Cpu) (s : S) → IsPlain a
    → (run bus (resumed_of a cpu) s).0 ≡ record { ended = done_with_flow; cpu = cpu; held = held_of a cpu.regs.pc }
resumed S bus None cpu s h = refl
resumed S bus (Some a) cpu s h =
    let held : Option Held = Some (record { access = a; pc = cpu.regs.pc }) in
    ap (λ (b : Bool). (run bus (Then (choose b (go_on_of a cpu) (Return (done_with_flow, cpu)))
    (λ done. Return (record { ended = done.0; cpu = done.1; held = held }))) s).0) h

pub entry_is_returned : (S : Type 0) → EntryIsReturned S
entry_is_returned S bus place view c cpu back s t keeps lawful apart done stay h plain =
    let seen = stay (entry_is_seen S bus place view c cpu s keeps lawful apart done) in
    let taken = frames_are_taken S bus place view c cpu back t keeps lawful seen h (can_return c.access plain) in
    let u = (run bus (take_frames_of back.regs) t).1 in
    ap (λ (r : Result Taken Ended). (run bus
    (either r (λ ended. Return (record { ended = ended; cpu = back; held = None }))
    (λ taken. resumed_of taken.access (record back { regs = taken.regs }))) u).0) taken
    ∙ resumed S bus c.access (record back { regs = given_back c cpu.regs back.regs }) u plain
