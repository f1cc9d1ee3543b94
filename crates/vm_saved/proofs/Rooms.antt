-- Queue, console and timer keep to their room, whatever a machine does and whatever arrives.
use Rattle.std.proofs.Common.{◌≡◌, ◌==◌, ℕ, Bool, true, false, List, [], ◌∷◌, ◌+◌, ◌≤◌, length, refl, sym, subst, nat_lt, inl, inr, arith, zero, suc}
use Rattle.std.specs.Prelude.{Option, Some, None, if◌then◌else◌, unwrap_or, ◌-◌, drop}
use Rattle.std.proofs.lemmas.Bool.{cases_Bool}
use Rattle.std.proofs.lemmas.Bool.Decides.{nat_tests}
use Rattle.std.proofs.lemmas.List.{length-append, length-drop}
use Rattle.mb_port.specs.declared.types.Place.{Place}
use Rattle.mb_port.specs.declared.types.Space.{Space}
use Rattle.mb_port.specs.Routine.{Call, Fetch, Read, Write, ReadLine, WriteLine, Probe, Get, Put, ReadMmu, SetMmu, FlushKept, Test, ResetDevices}
use Rattle.law_routines.specs.Keeps.{Keeps}
use Rattle.law_routines.proofs.Kept.{run_keeps}
use Rattle.mb_model.specs.Keeping.{Rule}
use Rattle.mb_model.specs.Pages.{page_of}
use Rattle.mb_devices.specs.declared.register.Register.{Register}
use Rattle.mb_devices.specs.declared.register.Register.TheVariants.{Data, Status, Ctrl, Period, Count, Ack, Power, Size, Disk}
use Rattle.mb_devices.specs.declared.devices.TheConstants.{QUEUE_ROOM, CONSOLE_ROOM}
use Rattle.mb_devices.specs.Devices.{DeviceState, received, reset_of, sent, ticked, timer_counted}
use Rattle.mb_devices.specs.Registers.{register_row}
use Rattle.mb_script.specs.declared.input.Input.{Input}
use Rattle.mb_script.specs.declared.input.Input.TheVariants.{Byte, Abort}
use Rattle.def_processor.specs.Step.{step_of}
use Rattle.def_machine.specs.declared.reference.Reference.{Reference}
use Rattle.def_machine.specs.World.{World}
use Rattle.def_machine.specs.Access.{matched, translated}
use Rattle.def_machine.specs.Bus.{bus_of, read_at, read_by, tested_by, written_at, written_by, wrote}
use Rattle.def_machine.specs.Machine.{Entries, Machine, arrived, asked_of, begun, run_of, stepped, taken_in, takes_steps}
use Rattle.def_machine.specs.Places.{Stand, memory, register, nowhere, taken, taken_at, stand_of, stored, stored_at, checked, taken_line, stored_line}
use Rattle.def_machine.proofs.Refusals.{translated-beside}
use Rattle.vm_saved.specs.Lawful.{HaveRoom}
use Rattle.vm_saved.proofs.Runs.{going_run, halted_run, nothing_run}

-- ---- the devices

either_room : (b : Bool) (a c : DeviceState) → HaveRoom a → HaveRoom c → HaveRoom (if b then a else c)
either_room true a c h g = h
either_room false a c h g = g

-- devices that differ in what has no room
same_room : (d e : DeviceState) → e.queue ≡ d.queue → e.console ≡ d.console → e.period ≡ d.period → e.count ≡ d.count → HaveRoom d → HaveRoom e
same_room d e queue console period count h = record {
  queue = subst (λ (l : List ℕ). length l ≤ QUEUE_ROOM) (sym queue) h.queue;
  console = subst (λ (l : List ℕ). length l ≤ CONSOLE_ROOM) (sym console) h.console;
  count = let most = h.count in omega arith;
  runs = λ some. let one = h.runs (omega arith) in omega arith;
}

received_room : (byte : ℕ) (d : DeviceState) → HaveRoom d → HaveRoom (received byte d)
received_room byte d h = elim (cases_Bool (nat_lt (length d.queue) QUEUE_ROOM)) [
  | inl holds ↦
      let less : length d.queue + 1 ≤ QUEUE_ROOM = grind (arith, nat_tests) in
      let more = length-append d.queue (byte ∷ []) in
      rw holds (record { queue = omega arith; console = h.console; count = h.count; runs = h.runs })
  | inr fails ↦ rw fails (record { queue = h.queue; console = h.console; count = h.count; runs = h.runs })
]

sent_room : (byte : ℕ) (d : DeviceState) → HaveRoom d → HaveRoom (sent byte d)
sent_room byte d h = elim (cases_Bool (nat_lt (length d.console) CONSOLE_ROOM)) [
  | inl holds ↦
      let less : length d.console + 1 ≤ CONSOLE_ROOM = grind (arith, nat_tests) in
      let more = length-append d.console (byte ∷ []) in
      rw holds (record { queue = h.queue; console = omega arith; count = h.count; runs = h.runs })
  | inr fails ↦ rw fails (record { queue = h.queue; console = h.console; count = h.count; runs = h.runs })
]

fewer_room : (d : DeviceState) → HaveRoom d → HaveRoom (record d { queue = drop 1 d.queue })
fewer_room d h =
    let fewer = length-drop 1 d.queue in
    let most = h.queue in record { queue = omega arith; console = h.console; count = h.count; runs = h.runs }

counted_room : (d : DeviceState) → HaveRoom d → HaveRoom (timer_counted d)
counted_room d h = elim (cases_Bool (d.count - 1 == 0)) [
  | inl holds ↦ rw holds (record { queue = h.queue; console = h.console; count = omega arith; runs = λ some. some })
  | inr fails ↦
      let left : 1 ≤ d.count - 1 = grind (arith, nat_tests) in
      let most = h.count in rw fails (record { queue = h.queue; console = h.console; count = omega arith; runs = λ some. omega arith })
]

ticked_room : (d : DeviceState) → HaveRoom d → HaveRoom (ticked d)
unfolding ticked
ticked_room d h = either_room (d.period == 0) d (timer_counted d) h (counted_room d h)

reset_room : (d : DeviceState) → HaveRoom d → HaveRoom (reset_of d)
reset_room d h = record { queue = omega arith; console = h.console; count = omega arith; runs = λ some. some }

read_room : (r : Register) (d : DeviceState) → HaveRoom d → HaveRoom ((register_row r).after_read d)
read_room Data d h = fewer_room d h
read_room Status d h = h
read_room Ctrl d h = h
read_room Period d h = h
read_room Count d h = h
read_room Ack d h = h
read_room Power d h = h
read_room Size d h = h
read_room (Disk r) d h = same_room d _ refl refl refl refl h

written_room : (r : Register) (value : ℕ) (d : DeviceState) → HaveRoom d → HaveRoom ((register_row r).written value d)
written_room Data value d h = sent_room _ d h
written_room Status value d h = same_room d _ refl refl refl refl h
written_room Ctrl value d h = same_room d _ refl refl refl refl h
written_room Period value d h = record { queue = h.queue; console = h.console; count = omega arith; runs = λ some. some }
written_room Count value d h = h
written_room Ack value d h = same_room d _ refl refl refl refl h
written_room Power value d h = either_room (value == 1) _ d (same_room d _ refl refl refl refl h) h
written_room Size value d h = h
written_room (Disk r) value d h = same_room d _ refl refl refl refl h

-- ---- places

abbrev WorldHasRoom : World → Type 0
WorldHasRoom w = HaveRoom w.devices

-- a world with room, or none
abbrev IfRoom : Option World → Type 0
IfRoom (Some w) = WorldHasRoom w
IfRoom None = Unit {0}

taken_at_room : (s : Stand) (place : Place) (w : World) → WorldHasRoom w → WorldHasRoom (taken_at s place w).1
taken_at_room memory place w h = h
taken_at_room (register r) place w h = read_room r w.devices h
taken_at_room nowhere place w h = h

stored_at_room : (s : Stand) (place : Place) (value : ℕ) (w : World) → WorldHasRoom w → IfRoom (stored_at s place value w)
stored_at_room memory place value w h = h
stored_at_room (register r) place value w h = written_room r value w.devices h
stored_at_room nowhere place value w h = tt

line_if_room : (b : Bool) (w : World) → WorldHasRoom w → IfRoom (if b then Some w else None)
line_if_room true w h = h
line_if_room false w h = tt

-- ---- the calls

translated_room : (rule : Rule) (r : Reference) (w : World) → WorldHasRoom w → WorldHasRoom (translated rule r w).1
translated_room rule r w h = subst HaveRoom (sym (translated-beside rule r w).devices) h

read_at_room : {A : Type 0} → (r : Reference) (len : ℕ) (take : Place → World → Option A × World) (o : Option ℕ) (w : World)
    → ((place : Place) (u : World) → WorldHasRoom u → WorldHasRoom (take place u).1) → WorldHasRoom w → WorldHasRoom (read_at r len take o w).1
read_at_room r len take (Some at) w keeps h = keeps _ w h
read_at_room r len take None w keeps h = h

read_by_room : {A : Type 0} → (rule : Rule) (r : Reference) (len : ℕ) (take : Place → World → Option A × World) (w : World)
    → ((place : Place) (u : World) → WorldHasRoom u → WorldHasRoom (take place u).1) → WorldHasRoom w → WorldHasRoom (read_by rule r len take w).1
read_by_room rule r len take w keeps h = read_at_room r len take _ _ keeps (translated_room rule r w h)

wrote_room : (w : World) (o : Option World) (fault : _) → IfRoom o → WorldHasRoom w → WorldHasRoom (wrote w o fault).1
wrote_room w (Some after) fault h g = h
wrote_room w None fault h g = g

written_at_room : (r : Reference) (len : ℕ) (store : Place → World → Option World) (o : Option ℕ) (w : World)
    → ((place : Place) (u : World) → WorldHasRoom u → IfRoom (store place u)) → WorldHasRoom w → WorldHasRoom (written_at r len store o w).1
written_at_room r len store (Some at) w keeps h = wrote_room w _ _ (keeps _ w h) h
written_at_room r len store None w keeps h = h

written_by_room : (rule : Rule) (r : Reference) (len : ℕ) (store : Place → World → Option World) (w : World)
    → ((place : Place) (u : World) → WorldHasRoom u → IfRoom (store place u)) → WorldHasRoom w → WorldHasRoom (written_by rule r len store w).1
written_by_room rule r len store w keeps h = written_at_room r len store _ _ keeps (translated_room rule r w h)

or_stay_room : (o : Option World) (w : World) → IfRoom o → WorldHasRoom w → WorldHasRoom (unwrap_or o w)
or_stay_room (Some after) w h g = h
or_stay_room None w h g = g

tested_room : (w : World) (space : Space) (page : ℕ) (write : Bool) (o : Option Bool) → WorldHasRoom w → WorldHasRoom (tested_by w space page write o).1
tested_room w space page write (Some protected) h = h
tested_room w space page write None h = h

bus_room : (rule : Rule) (c : Call) (w : World) → WorldHasRoom w → WorldHasRoom ((bus_of rule c w).1)
bus_room rule (Fetch space at) w h = read_by_room rule _ _ taken w (λ place u. taken_at_room _ place u) h
bus_room rule (Read space p) w h = read_by_room rule _ _ taken w (λ place u. taken_at_room _ place u) h
bus_room rule (Write space p value) w h =
    written_by_room rule _ _ (λ place. stored place value) w (λ place u. stored_at_room _ place value u) h
bus_room rule (ReadLine space at) w h = read_by_room rule _ _ taken_line w (λ place u g. g) h
bus_room rule (WriteLine space at line) w h =
    written_by_room rule _ _ (λ place. stored_line place line) w (λ place u g. line_if_room _ _ g) h
bus_room rule (Probe space p) w h = read_by_room rule _ _ checked w (λ place u g. g) h
bus_room rule (Get place) w h = taken_at_room _ place w h
bus_room rule (Put place value) w h = or_stay_room (stored place value w) w (stored_at_room (stand_of w place) place value w h) h
bus_room rule ReadMmu w h = h
bus_room rule (SetMmu which value) w h = h
bus_room rule (FlushKept what) w h = h
bus_room rule (Test space at write) w h = tested_room w space (page_of at) write (matched false w.mmu space (page_of at)) h
bus_room rule ResetDevices w h = reset_room w.devices h

keeps : (rule : Rule) → Keeps WorldHasRoom (bus_of rule)
keeps rule = record { call = λ c w h. bus_room rule c w h }

-- ---- steps and runs

taken_in_room : (one : Input) (d : DeviceState) → HaveRoom d → HaveRoom (taken_in one d)
taken_in_room (Byte byte) d h = received_room byte d h
taken_in_room Abort d h = h

arrived_room : (step : ℕ) (script : Entries) (d : DeviceState) → HaveRoom d → HaveRoom (arrived step script d)
arrived_room step [] d h = h
arrived_room step (entry ∷ script) d h =
    arrived_room step script _ (either_room (entry.step == step) _ d (taken_in_room entry.input d h) h)

stepped_room : (rule : Rule) (script : Entries) (m : Machine) → HaveRoom m.world.devices → HaveRoom (stepped rule script m).world.devices
stepped_room rule script m h =
    let b = begun script m in
    run_keeps (keeps rule) (step_of (asked_of script b) b.cpu) b.world
    (ticked_room _ (arrived_room (m.steps + 1) script m.world.devices h))

pub runs_keep_room : (rule : Rule) (script : Entries) (n : ℕ) (m : Machine) → HaveRoom m.world.devices
    → HaveRoom (run_of rule script n m).world.devices
runs_keep_room rule script zero m h = subst (λ (x : Machine). HaveRoom x.world.devices) (sym (nothing_run rule script m)) h
runs_keep_room rule script (suc n) m h = elim (cases_Bool (takes_steps m.state)) [
  | inl going ↦
      subst (λ (x : Machine). HaveRoom x.world.devices) (sym (going_run rule script n m going))
      (runs_keep_room rule script n (stepped rule script m) (stepped_room rule script m h))
  | inr still ↦ subst (λ (x : Machine). HaveRoom x.world.devices) (sym (halted_run rule script (suc n) m still)) h
]
