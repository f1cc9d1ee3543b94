-- The guests of a snapshot, before they go on and after.
use Rattle.std.proofs.Common.{◌≡◌, ◌∙◌, ℕ, zero, suc, ◌+◌, ◌*◌, ◌<◌, ◌≤◌, List, [], ◌∷◌, ◌++◌, append_assoc, length, map, take, drop, refl, sym, ap, subst, arith, Option, Some, None, sum_by, length-drop}
use Rattle.std.specs.Prelude.{All, IfSome, slice_get}
use Rattle.std.proofs.lemmas.List.{append-nil, length-map, take_all}
use Rattle.std.proofs.lemmas.List.Elements.{All-cons, All-head, All-nil, All-tail}
use Rattle.std.proofs.lemmas.List.Sums.{sum_by-cons}
use Rattle.mb_model.specs.Keeping.{rule_k}
use Rattle.vm_disk.specs.Disk.{DiskState}
use Rattle.mb_devices.specs.Devices.{DeviceState, attached}
use Rattle.mb_saved.specs.Saved.{IsLawful}
use Rattle.mb_spelling.specs.Decimals.{from_to}
use Rattle.mb_spelling.proofs.Ranges.{in_parts}
use Rattle.def_machine.specs.Machine.{Machine, diskless, reset_with, start, with_devices}
use Rattle.def_runs.specs.Native.{NativeState}
use Rattle.def_guests.specs.Rounds.{Member, left}
use Rattle.def_guests.specs.Turns.{steps_in}
use Rattle.vm_guest.specs.Session.{GuestAtStart, IsGuest, IsSession, SessionAtStart}
use Rattle.vm_saved.specs.Saved.{machine_of}
use Rattle.vm_saved.proofs.Counted.{counts_are_steps_since}
use Rattle.vm_saved.proofs.Saving.{starts_can_be_saved}
use Rattle.vm_slices.specs.Adopting.{CanAdopt, begun}
use Rattle.vm_slices.specs.Counting.{AreCounted, exits_by, retired_by, steps_by}
use Rattle.vm_slices.specs.Members.{after_rounds, devices_of, machine_at_end, machines_of, member_at_start, tallies_of, tally_at_end}
use Rattle.vm_slices.specs.Lending.{with_devices_at}
use Rattle.vm_slices.specs.declared.host_guest.HostGuest.{HostGuest}
use Rattle.vm_slices.specs.Places.{member_of, members_of, with_member}
use Rattle.vm_snapshot.specs.Guests.{boards}
use Rattle.vm_snapshot.specs.Inputs.{MOST}
use Rattle.vm_snapshot.specs.Plans.{Plan, guest_of}
use Rattle.vm_snapshot.specs.declared.plan.SnapGuest.{SnapGuest}
use Rattle.mb_files.specs.Snapshots.{IsSaid}
use Rattle.mb_program.specs.Direct.{AreCarriedOut, steps_hosted}
use Rattle.mb_program.specs.Saves.{resumed_guest, resumed_guests, seat_of, session_of}
use Rattle.mb_program.specs.Saved.{CanAllBecome, CanBecome, HasNoDisk, Left, all_become, become, disked, left_of, left_said}
use Rattle.mb_program.specs.declared.resumed.LeftMachine.{LeftMachine}
use Rattle.mb_program.proofs.CompareLemmas.{at_left, mapped_at}
use Rattle.mb_program.proofs.RunLemmas.{steps_sum}
use Rattle.mb_program.proofs.SaveLemmas.{carried_by}

-- ---- guests of a snapshot, parted one by one

pub one_parted : {X Y : Type 0} (f : X → Y) (done : List Y) (x : X) (rest all : List X) (y : Y) → done ++ map f (x ∷ rest) ≡ map f all
    → y ≡ f x → (done ++ y ∷ []) ++ map f rest ≡ map f all
one_parted f done x rest all y so_far is =
    ap (λ z. (done ++ z ∷ []) ++ map f rest) is ∙ append_assoc done (f x ∷ []) (map f rest) ∙ so_far

pub all_parted : {X Y : Type 0} (f : X → Y) (done : List Y) (rest all : List X) → done ++ map f rest ≡ map f all → length rest ≡ 0
    → done ≡ map f all
all_parted f done [] all so_far none = sym (append-nil done) ∙ so_far
all_parted f done (x ∷ rest) all so_far none = absurd (omega (arith, none))

-- ---- the session that they make

seat_ok : (more : ℕ) (g : SnapGuest) → IsLawful g.saved → IsGuest (seat_of more g)
seat_ok more g l = record { ram = (l.ram.0, l.ram.1, l.ram.2); image = All-nil _ }

seats_ok : (more : ℕ) (guests : List SnapGuest) → All (λ (g : SnapGuest). IsLawful g.saved) guests → All IsGuest (map (seat_of more) guests)
seats_ok more [] all = All-nil IsGuest
seats_ok more (g ∷ guests) all =
    All-cons IsGuest (seat_of more g) (map (seat_of more) guests) (seat_ok more g (All-head (λ (g : SnapGuest). IsLawful g.saved) g guests all))
    (seats_ok more guests (All-tail (λ (g : SnapGuest). IsLawful g.saved) g guests all))

pub session_ok : (more : ℕ) (plan : Plan) → IsSaid plan → All (λ (g : SnapGuest). IsLawful g.saved) plan.guests → IsSession (session_of more plan)
session_ok more plan (text, read) lawful =
    let says = read.says in
    let board = in_parts boards says.board read.lawful.0 in
    let slice = in_parts (from_to 1 MOST) says.slice read.lawful.1.0 in
    let count = in_parts (from_to 1 16) (length says.guests) read.lawful.1.1.1.0 in
    let same_board : says.board ≡ plan.board = ap (λ (p : Plan). p.board) read.is_plan in
    let same_slice : says.slice ≡ plan.slice = ap (λ (p : Plan). p.slice) read.is_plan in
    let many : length says.guests ≡ length (map (seat_of more) plan.guests) =
    sym (length-map says.guests guest_of) ∙ ap (λ (p : Plan). length p.guests) read.is_plan ∙ sym (length-map plan.guests (seat_of more)) in
    let least = board.0 in
    let most = board.1 in
    let units = board.2 in
    let some = slice.0 in
    let few = count.1 in
    let one = count.0 in
    record {
      board = (omega (arith, least, same_board), omega (arith, most, same_board), omega (arith, units, same_board));
      slice = omega (arith, some, same_slice);
      some = omega (arith, one, many);
      few = omega (arith, few, many);
      guests = seats_ok more plan.guests lawful;
    }

-- its size can be told in bytes
pub board_small : (plan : Plan) → IsSaid plan → plan.board ≤ 65536
board_small plan (text, read) =
    let board = in_parts boards read.says.board read.lawful.0 in
    let most = board.1 in
    let same : read.says.board ≡ plan.board = ap (λ (p : Plan). p.board) read.is_plan in
    omega (arith, most, same)

pub session_so : (more : ℕ) (plan : Plan) (seats : List GuestAtStart) (session : SessionAtStart) → seats ≡ map (seat_of more) plan.guests
    → session ≡ record { board = 1024 * plan.board; slice = plan.slice; guests = seats } → session ≡ session_of more plan
session_so more plan seats session are is =
    is ∙ ap (λ (guests : List GuestAtStart). (let s : SessionAtStart = record { board = 1024 * plan.board; slice = plan.slice; guests = guests } in s)) are

-- ---- one among all

abbrev lent_to : DeviceState → Member → Member
lent_to devices m = record m { guest = record m.guest { machine = with_devices m.guest.machine devices } }

pub count_with : (k : ℕ) (f : Member → Member) (members : List Member) → length (with_member k f members) ≡ length members
count_with k f [] = refl
count_with zero f (m ∷ members) = refl
count_with (suc k) f (m ∷ members) = ap suc (count_with k f members)

with_twice : (k : ℕ) (f g : Member → Member) (members : List Member)
    → with_member k f (with_member k g members) ≡ with_member k (λ m. f (g m)) members
with_twice k f g [] = refl
with_twice zero f g (m ∷ members) = refl
with_twice (suc k) f g (m ∷ members) = ap (λ ms. m ∷ ms) (with_twice k f g members)

holds_with : (P : Member → Type 0) (k : ℕ) (g : Member → Member) (members : List Member) → IfSome (slice_get members k) (λ m. P (g m))
    → IfSome (slice_get (with_member k g members) k) P
holds_with P k g [] holds = tt
holds_with P zero g (m ∷ members) holds = holds
holds_with P (suc k) g (m ∷ members) holds = holds_with P k g members holds

weaker_at : (P Q : Member → Type 0) (k : ℕ) (members : List Member) → ((m : Member) → P m → Q m) → IfSome (slice_get members k) P
    → IfSome (slice_get members k) Q
weaker_at P Q k [] each holds = tt
weaker_at P Q zero (m ∷ members) each holds = each m holds
weaker_at P Q (suc k) (m ∷ members) each holds = weaker_at P Q k members each holds

-- a guest whose devices are others
members_lent : (k : ℕ) (devices : DeviceState) (gs : List HostGuest) (ram : List ℕ)
    → members_of (with_devices_at k devices gs) ram ≡ with_member k (lent_to devices) (members_of gs ram)
members_lent k devices [] ram = refl
members_lent zero devices (g ∷ gs) ram = refl
members_lent (suc k) devices (g ∷ gs) ram = ap (λ ms. member_of ram g ∷ ms) (members_lent k devices gs ram)

lent_at : (k : ℕ) (disk : DiskState) (devices : DeviceState) (members : List Member) → slice_get (devices_of members) k ≡ Some devices
    → with_member k (lent_to (attached disk devices)) members ≡ with_member k (disked (Some disk)) members
lent_at k disk devices [] is = refl
lent_at zero disk devices (m ∷ members) is =
    let same : devices ≡ m.guest.machine.world.devices = cc in
    ap (λ (d : DeviceState). lent_to (attached disk d) m ∷ members) same
lent_at (suc k) disk devices (m ∷ members) is = ap (λ ms. m ∷ ms) (lent_at k disk devices members is)

-- the one at a place has had a disk attached,
pub disk_attached : (k : ℕ) (disk : DiskState) (devices : DeviceState) (gs : List HostGuest) (ram : List ℕ)
    → slice_get (devices_of (members_of gs ram)) k ≡ Some devices
    → members_of (with_devices_at k (attached disk devices) gs) ram ≡ with_member k (disked (Some disk)) (members_of gs ram)
disk_attached k disk devices gs ram is = members_lent k (attached disk devices) gs ram ∙ lent_at k disk devices (members_of gs ram) is

-- which has none,
pub none_there : (k : ℕ) (devices : DeviceState) (members : List Member) → IfSome (slice_get members k) HasNoDisk
    → slice_get (devices_of members) k ≡ Some devices → devices.disk ≡ None
none_there k devices [] without is = absurd cc
none_there zero devices (m ∷ members) without is =
    let same : m.guest.machine.world.devices ≡ devices = cc in ap (λ (d : DeviceState). d.disk) (sym same) ∙ without
none_there (suc k) devices (m ∷ members) without is = none_there k devices members without is

-- or has none and stays
pub stays_without : (k : ℕ) (members : List Member) → IfSome (slice_get members k) HasNoDisk → members ≡ with_member k (disked None) members
stays_without k [] without = refl
stays_without zero (m ∷ members) without = ap (λ (disk : Option DiskState). disked disk m ∷ members) without
stays_without (suc k) (m ∷ members) without = ap (λ ms. m ∷ ms) (stays_without k members without)

-- One that can become a saved machine has no disk,
pub has_none : (left : Left) (k : ℕ) (members : List Member) → IfSome (slice_get members k) (CanBecome left)
    → IfSome (slice_get members k) HasNoDisk
has_none left k members can = weaker_at (CanBecome left) HasNoDisk k members (λ m is. is.diskless) can

-- can adopt the machine with its disk,
pub adopts : (left : Left) (k : ℕ) (members : List Member) → IfSome (slice_get members k) (CanBecome left)
    → IfSome (slice_get (with_member k (disked left.disk) members) k) (CanAdopt left.saved)
adopts left k members can =
    holds_with (CanAdopt left.saved) k (disked left.disk) members
    (weaker_at (CanBecome left) (λ m. CanAdopt left.saved (disked left.disk m)) k members
    (λ m is. record { fresh = is.adopts.fresh; size = is.adopts.size }) can)

-- and is it then.
pub becomes : (left : Left) (k : ℕ) (members : List Member)
    → with_member k (begun left.saved) (with_member k (disked left.disk) members) ≡ with_member k (become left) members
becomes left k members = with_twice k (begun left.saved) (disked left.disk) members

-- ---- each becomes its saved machine

seat_size : (more : ℕ) (g : SnapGuest) → IsLawful g.saved → length (start rule_k (diskless []) g.saved.ram).world.ram ≡ g.saved.ram
unfolding reset_with
seat_size more g l =
    let units = l.ram.2 in
    sym (starts_can_be_saved (diskless []) g.saved.ram (omega (arith, units)) (All-nil _)).shown

seat_becomes : (more : ℕ) (g : SnapGuest) → IsLawful g.saved → CanBecome (left_of g) (member_at_start (seat_of more g))
unfolding reset_with
seat_becomes more g l = record { diskless = refl; adopts = record { fresh = refl; size = seat_size more g l } }

seats_become : (more : ℕ) (guests : List SnapGuest) → All (λ (g : SnapGuest). IsLawful g.saved) guests
    → CanAllBecome (map left_of guests) (map member_at_start (map (seat_of more) guests))
seats_become more [] all = tt
seats_become more (g ∷ guests) all =
    let lawful = All-head (λ (g : SnapGuest). IsLawful g.saved) g guests all in
    (seat_becomes more g lawful, lawful, seats_become more guests (All-tail (λ (g : SnapGuest). IsLawful g.saved) g guests all))

-- the members of that session can
pub all_can : (more : ℕ) (plan : Plan) (lefts : List Left) (session : SessionAtStart) (before : List Member) → lefts ≡ map left_of plan.guests
    → session ≡ session_of more plan → before ≡ map member_at_start session.guests → All (λ (g : SnapGuest). IsLawful g.saved) plan.guests
    → CanAllBecome lefts before
all_can more plan lefts session before are is begun lawful =
    let seated : before ≡ map member_at_start (map (seat_of more) plan.guests) =
    begun ∙ ap (λ (s : SessionAtStart). map member_at_start s.guests) is in
    subst (λ ls. CanAllBecome ls before) (sym are)
    (subst (λ ms. CanAllBecome (map left_of plan.guests) ms) (sym seated) (seats_become more plan.guests lawful))

all_have_become : (more : ℕ) (guests : List SnapGuest)
    → all_become (map left_of guests) (map member_at_start (map (seat_of more) guests)) ≡ map (resumed_guest more) guests
all_have_become more [] = refl
all_have_become more (g ∷ guests) = ap (λ ms. resumed_guest more g ∷ ms) (all_have_become more guests)

pub resumed_so : (more : ℕ) (plan : Plan) (lefts : List Left) (before after : List Member) → lefts ≡ map left_of plan.guests
    → before ≡ map member_at_start (map (seat_of more) plan.guests) → after ≡ all_become lefts before → after ≡ resumed_guests more plan
resumed_so more plan lefts before after are begun is =
    is ∙ ap (λ ls. all_become ls before) are ∙ ap (λ ms. all_become (map left_of plan.guests) ms) begun ∙ all_have_become more plan.guests

-- ---- one machine after the other

-- What becomes of the one at a place, once those before it have become theirs.
pub record BecomesNext (lefts : List Left) (members before : List Member) (k : ℕ) (left : Left) : Type 0 where
  pub there : k < length before
  pub few : length before ≡ length members
  pub can : IfSome (slice_get before k) (CanBecome left)
  pub lawful : IsLawful left.saved
  pub next : with_member k (become left) before ≡ all_become (take (suc k) lefts) members

becomes_next : (lefts : List Left) (members : List Member) (k : ℕ) (left : Left) → CanAllBecome lefts members → slice_get lefts k ≡ Some left
    → BecomesNext lefts members (all_become (take k lefts) members) k left
becomes_next [] members k left can is = absurd cc
becomes_next (l ∷ lefts) [] k left can is = absurd can
becomes_next (l ∷ lefts) (m ∷ members) zero left can is =
    let same : l ≡ left = cc in
    record {
      there = omega arith;
      few = refl;
      can = subst (λ (x : Left). CanBecome x m) same can.0;
      lawful = subst (λ (x : Left). IsLawful x.saved) same can.1;
      next = ap (λ (x : Left). become x m ∷ members) (sym same);
    }
becomes_next (l ∷ lefts) (m ∷ members) (suc k) left can is =
    let rest = becomes_next lefts members k left can.2 is in
    let there = rest.there in
    record {
      there = omega (arith, there);
      few = ap suc rest.few;
      can = rest.can;
      lawful = rest.lawful;
      next = ap (λ ms. become l m ∷ ms) rest.next;
    }

-- the next of the machines that are left behind a place
pub next_becomes : (machines : List LeftMachine) (members before : List Member) (k : ℕ) (machine : LeftMachine) (rest : List LeftMachine)
    → CanAllBecome (map left_said machines) members → drop k machines ≡ machine ∷ rest
    → before ≡ all_become (take k (map left_said machines)) members → BecomesNext (map left_said machines) members before k (left_said machine)
next_becomes machines members before k machine rest can is so_far =
    let here = mapped_at left_said machines k machine (at_left machines k machine rest is) in
    subst (λ (ms : List Member). BecomesNext (map left_said machines) members ms k (left_said machine)) (sym so_far)
    (becomes_next (map left_said machines) members k (left_said machine) can here)

-- all have, where none is left
pub all_became : (machines : List LeftMachine) (members : List Member) (k : ℕ) (rest : List LeftMachine) → drop k machines ≡ rest → length rest ≡ 0
    → all_become (take k (map left_said machines)) members ≡ all_become (map left_said machines) members
all_became machines members k rest is none =
    let count : length (drop k machines) ≡ 0 = ap (λ ms. length ms) is ∙ none in
    ap (λ ls. all_become ls members)
    (take_all k (map left_said machines) (omega (arith, length-map machines left_said, length-drop k machines, count)))

-- ---- what is counted

none_retired : (more : ℕ) (guests : List SnapGuest) → retired_by (map (resumed_guest more) guests) ≡ 0
none_retired more [] = refl
none_retired more (g ∷ guests) = omega (arith, none_retired more guests)

none_left : (more : ℕ) (guests : List SnapGuest) → exits_by (map (resumed_guest more) guests) ≡ 0
none_left more [] = refl
none_left more (g ∷ guests) = omega (arith, none_left more guests)

-- one has taken the steps that are counted, and those before
one_taken : (more : ℕ) (g : SnapGuest)
    → (machine_at_end (resumed_guest more g)).steps ≡ g.saved.steps + steps_in (tally_at_end (resumed_guest more g))
one_taken more g =
    let taken = counts_are_steps_since g.script (left (resumed_guest more g)) (machine_of g.disk g.saved) in
    omega (arith, taken)

all_taken : (more : ℕ) (guests : List SnapGuest)
    → sum_by (λ (m : Machine). m.steps) (map machine_at_end (map (resumed_guest more) guests))
    ≡ steps_by (map (resumed_guest more) guests) + sum_by steps_in (map tally_at_end (map (resumed_guest more) guests))
all_taken more [] = refl
all_taken more (g ∷ guests) =
    let m = resumed_guest more g in
    let one = one_taken more g in
    let rest = all_taken more guests in
    let steps = sum_by-cons (λ (m : Machine). m.steps) (machine_at_end m) (map machine_at_end (map (resumed_guest more) guests)) in
    let counts = sum_by-cons steps_in (tally_at_end m) (map tally_at_end (map (resumed_guest more) guests)) in
    omega (arith, one, rest, steps, counts)

pub counted_on_so : (more : ℕ) (plan : Plan) (slice : ℕ) (before after : List Member) (native native_after : NativeState)
    → before ≡ resumed_guests more plan → slice ≡ plan.slice → machines_of after ≡ map machine_at_end before
    → tallies_of after ≡ map tally_at_end before → AreCounted before after (after_rounds slice before).marks
    (after_rounds slice before).exceptions native native_after
    → AreCarriedOut (steps_hosted (map tally_at_end (resumed_guests more plan)) (after_rounds plan.slice (resumed_guests more plan))) native native_after
counted_on_so more plan slice before after native native_after begun same run ended counted =
    let members = resumed_guests more plan in
    let taken : steps_by after ≡ steps_by members + sum_by steps_in (map tally_at_end members) =
    steps_sum after ∙ ap (λ ms. sum_by (λ (m : Machine). m.steps) ms) (run ∙ ap (λ ms. map machine_at_end ms) begun) ∙ all_taken more plan.guests in
    let here = subst (λ ms. AreCounted ms after (after_rounds slice ms).marks (after_rounds slice ms).exceptions native native_after) begun counted in
    let marked = subst (λ n. AreCounted members after (after_rounds n members).marks (after_rounds n members).exceptions native native_after) same here in
    carried_by members after (map tally_at_end members) (after_rounds plan.slice members) native native_after
    (none_retired more plan.guests) (none_left more plan.guests) taken (ended ∙ ap (λ ms. map tally_at_end ms) begun) marked
