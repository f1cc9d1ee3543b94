-- The devices keep their build, whatever a machine does and whatever arrives.
use Rattle.std.proofs.Common.{◌≡◌, ◌∙◌, ◌==◌, ℕ, Bool, true, false, List, [], ◌∷◌, ◌+◌, length, refl, ap, nat_lt}
use Rattle.std.specs.Prelude.{Option, Some, None, if◌then◌else◌, unwrap_or, option_map, is_some, ◌-◌}
use Rattle.mb_port.specs.declared.types.Place.{Place}
use Rattle.mb_port.specs.declared.types.Space.{Space}
use Rattle.mb_port.specs.Routine.{Fetch, Read, Write, ReadLine, WriteLine, Probe, Get, Put, ReadMmu, SetMmu, FlushKept, Test, ResetDevices}
use Rattle.mb_model.specs.Keeping.{Rule}
use Rattle.mb_devices.specs.declared.register.Register.{Register}
use Rattle.mb_devices.specs.declared.register.Register.TheVariants.{Data, Status, Ctrl, Period, Count, Ack, Power, Size, Disk}
use Rattle.mb_devices.specs.Devices.{DeviceState, built, received, reset_of, sent, ticked, timer_counted}
use Rattle.vm_disk.specs.Disk.{DiskState, rested}
use Rattle.vm_disk.specs.Registers.{disk_row}
use Rattle.mb_devices.specs.declared.devices.TheConstants.{QUEUE_ROOM, CONSOLE_ROOM}
use Rattle.mb_devices.specs.Registers.{powered, register_row}
use Rattle.def_machine.specs.declared.reference.Reference.{Reference}
use Rattle.def_machine.specs.World.{World}
use Rattle.def_machine.specs.Places.{Stand, memory, register, nowhere, taken, taken_at, stored, stored_at, checked, taken_line, stored_line}
use Rattle.def_machine.specs.Access.{translated}
use Rattle.def_machine.specs.Bus.{read_at, read_by, written_at, written_by, wrote, tested, tested_by}
use Rattle.def_machine.proofs.Refusals.{translated-beside}
use Rattle.def_machine.proofs.RunsLeave.{runs_leave}
use Rattle.def_machine.specs.Laws.{StartsHaveTheBuild, CallsLeaveTheBuild, RunsLeaveTheBuild}
use Rattle.mb_script.specs.declared.input.Input.{Input}
use Rattle.mb_script.specs.declared.input.Input.TheVariants.{Byte, Abort}
use Rattle.def_machine.specs.Machine.{Entries, Machine, arrived, begun, reset_with, taken_in}

abbrev build_of : World → ℕ × Bool
build_of w = built w.devices

-- ---- the devices

built-either : (b : Bool) (a c : DeviceState) (n : ℕ × Bool) → built a ≡ n → built c ≡ n → built (if b then a else c) ≡ n
built-either true a c n h g = h
built-either false a c n h g = g

some_mapped : (f : DiskState → DiskState) (o : Option DiskState) → is_some (option_map f o) ≡ is_some o
some_mapped f None = refl
some_mapped f (Some d) = refl

-- what happens to a disk leaves it attached
built-mapped : (f : DiskState → DiskState) (d : DeviceState) → built (record d { disk = option_map f d.disk }) ≡ built d
built-mapped f d = ap (λ (has_disk : Bool). (let build : ℕ × Bool = (d.ram, has_disk) in build)) (some_mapped f d.disk)

built-reset : (d : DeviceState) → built (reset_of d) ≡ built d
built-reset d = built-mapped rested d

built-counted : (d : DeviceState) → built (timer_counted d) ≡ built d
built-counted d = built-either (d.count - 1 == 0) _ _ (built d) refl refl

built-ticked : (d : DeviceState) → built (ticked d) ≡ built d
unfolding ticked
built-ticked d = built-either (d.period == 0) d (timer_counted d) (built d) refl (built-counted d)

built-sent : (byte : ℕ) (d : DeviceState) → built (sent byte d) ≡ built d
built-sent byte d = built-either (nat_lt (length d.console) CONSOLE_ROOM) _ _ (built d) refl refl

built-powered : (value : ℕ) (d : DeviceState) → built (powered value d) ≡ built d
built-powered value d = built-either (value == 1) _ _ (built d) refl refl

built-after_read : (r : Register) (d : DeviceState) → built ((register_row r).after_read d) ≡ built d
built-after_read Data d = refl
built-after_read Status d = refl
built-after_read Ctrl d = refl
built-after_read Period d = refl
built-after_read Count d = refl
built-after_read Ack d = refl
built-after_read Power d = refl
built-after_read Size d = refl
built-after_read (Disk r) d = built-mapped (disk_row r).after_read d

built-written : (r : Register) (value : ℕ) (d : DeviceState) → built ((register_row r).written value d) ≡ built d
built-written Data value d = built-sent _ d
built-written Status value d = refl
built-written Ctrl value d = refl
built-written Period value d = refl
built-written Count value d = refl
built-written Ack value d = refl
built-written Power value d = built-powered value d
built-written Size value d = refl
built-written (Disk r) value d = built-mapped ((disk_row r).written value) d

-- ---- places

built-taken_at : (s : Stand) (place : Place) (w : World) → build_of (taken_at s place w).1 ≡ build_of w
built-taken_at memory place w = refl
built-taken_at (register r) place w = built-after_read r w.devices
built-taken_at nowhere place w = refl

built-taken : (place : Place) (w : World) → build_of (taken place w).1 ≡ build_of w
built-taken place w = built-taken_at _ place w

built-taken_line : (place : Place) (w : World) → build_of (taken_line place w).1 ≡ build_of w
built-taken_line place w = refl

-- a world of this build, or none
abbrev IfBuilt : ℕ × Bool → Option World → Type 0
IfBuilt n (Some w) = build_of w ≡ n
IfBuilt n None = Unit {0}

built-stored_at : (s : Stand) (place : Place) (value : ℕ) (w : World) → IfBuilt (build_of w) (stored_at s place value w)
built-stored_at memory place value w = refl
built-stored_at (register r) place value w = built-written r value w.devices
built-stored_at nowhere place value w = tt

built-stored : (place : Place) (value : ℕ) (w : World) → IfBuilt (build_of w) (stored place value w)
built-stored place value w = built-stored_at _ place value w

built-if : (b : Bool) (w : World) (n : ℕ × Bool) → build_of w ≡ n → IfBuilt n (if b then Some w else None)
built-if true w n h = h
built-if false w n h = tt

built-stored_line : (place : Place) (line : List ℕ) (w : World) → IfBuilt (build_of w) (stored_line place line w)
built-stored_line place line w = built-if _ _ (build_of w) refl

-- ---- the calls

built-translated : (rule : Rule) (r : Reference) (w : World) → build_of (translated rule r w).1 ≡ build_of w
built-translated rule r w = ap built (translated-beside rule r w).devices

built-read_at : {A : Type 0} → (r : Reference) (len : ℕ) (take : Place → World → Option A × World) (o : Option ℕ) (w : World)
    → ((place : Place) (u : World) → build_of (take place u).1 ≡ build_of u) → build_of (read_at r len take o w).1 ≡ build_of w
built-read_at r len take (Some at) w stays = stays _ w
built-read_at r len take None w stays = refl

built-read_by : {A : Type 0} → (rule : Rule) (r : Reference) (len : ℕ) (take : Place → World → Option A × World) (w : World)
    → ((place : Place) (u : World) → build_of (take place u).1 ≡ build_of u) → build_of (read_by rule r len take w).1 ≡ build_of w
built-read_by rule r len take w stays = built-read_at r len take _ _ stays ∙ built-translated rule r w

built-wrote : (w : World) (o : Option World) (fault : _) → IfBuilt (build_of w) o → build_of (wrote w o fault).1 ≡ build_of w
built-wrote w (Some after) fault h = h
built-wrote w None fault h = refl

built-written_at : (r : Reference) (len : ℕ) (store : Place → World → Option World) (o : Option ℕ) (w : World)
    → ((place : Place) (u : World) → IfBuilt (build_of u) (store place u)) → build_of (written_at r len store o w).1 ≡ build_of w
built-written_at r len store (Some at) w stays = built-wrote w _ _ (stays _ w)
built-written_at r len store None w stays = refl

built-written_by : (rule : Rule) (r : Reference) (len : ℕ) (store : Place → World → Option World) (w : World)
    → ((place : Place) (u : World) → IfBuilt (build_of u) (store place u)) → build_of (written_by rule r len store w).1 ≡ build_of w
built-written_by rule r len store w stays = built-written_at r len store _ _ stays ∙ built-translated rule r w

built-or_stay : (o : Option World) (w : World) → IfBuilt (build_of w) o → build_of (unwrap_or o w) ≡ build_of w
built-or_stay (Some after) w h = h
built-or_stay None w h = refl

built-tested_by : (w : World) (space : Space) (page : ℕ) (write : Bool) (o : Option Bool)
    → build_of (tested_by w space page write o).1 ≡ build_of w
built-tested_by w space page write (Some protected) = refl
built-tested_by w space page write None = refl

built-tested : (space : Space) (page : ℕ) (write : Bool) (w : World) → build_of (tested space page write w).1 ≡ build_of w
built-tested space page write w = built-tested_by w space page write _

pub built-bus : CallsLeaveTheBuild
built-bus rule (Fetch space at) w = built-read_by rule _ _ taken w built-taken
built-bus rule (Read space p) w = built-read_by rule _ _ taken w built-taken
built-bus rule (Write space p value) w =
    built-written_by rule _ _ (λ place. stored place value) w (λ place u. built-stored place value u)
built-bus rule (ReadLine space at) w = built-read_by rule _ _ taken_line w built-taken_line
built-bus rule (WriteLine space at line) w =
    built-written_by rule _ _ (λ place. stored_line place line) w (λ place u. built-stored_line place line u)
built-bus rule (Probe space p) w = built-read_by rule _ _ checked w (λ place u. refl)
built-bus rule (Get place) w = built-taken place w
built-bus rule (Put place value) w = built-or_stay _ w (built-stored place value w)
built-bus rule ReadMmu w = refl
built-bus rule (SetMmu which value) w = refl
built-bus rule (FlushKept what) w = refl
built-bus rule (Test space at write) w = built-tested space _ write w
built-bus rule ResetDevices w = built-reset w.devices

-- ---- steps and runs

built-received : (byte : ℕ) (d : DeviceState) → built (received byte d) ≡ built d
built-received byte d = built-either (nat_lt (length d.queue) QUEUE_ROOM) _ _ (built d) refl refl

built-taken_in : (one : Input) (d : DeviceState) → built (taken_in one d) ≡ built d
built-taken_in (Byte byte) d = built-received byte d
built-taken_in Abort d = refl

built-arrived : (step : ℕ) (script : Entries) (d : DeviceState) → built (arrived step script d) ≡ built d
built-arrived step [] d = refl
built-arrived step (entry ∷ script) d =
    built-arrived step script _ ∙ built-either (entry.step == step) _ _ (built d) (built-taken_in entry.input d) refl

built-begun : (script : Entries) (m : Machine) → build_of (begun script m).world ≡ build_of m.world
built-begun script m = built-ticked _ ∙ built-arrived (m.steps + 1) script m.world.devices

pub built-run : RunsLeaveTheBuild
built-run rule = runs_leave build_of rule (built-bus rule) built-begun

pub built-start : StartsHaveTheBuild
unfolding reset_with
built-start rule opening size = refl
