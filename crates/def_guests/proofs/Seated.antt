-- Turns of guests on one board: two turns as one, and that they have no part in each other.
use Rattle.std.proofs.Common.{◌≡◌, ◌∙◌, ℕ, ◌+◌, ◌-◌, ◌≤◌, List, [], ◌∷◌, ◌++◌, take, drop, refl, ap, sym, subst, inl, inr, arith}
use Rattle.std.proofs.lemmas.List.{append-nil, take-take, drop-take, drop-drop}
use Rattle.mb_instr.specs.declared.registers.Plain.{Plain}
use Rattle.def_machine.specs.Machine.{Machine, Entries}
use Rattle.mb_walk.specs.Memory.{part}
use Rattle.vm_shadow.specs.Shadows.{Shadowed}
use Rattle.vm_shadow.specs.Mapped.{shadowed}
use Rattle.vm_shadow.specs.declared.area.TheConstants.{AREA_BYTES}
use Rattle.vm_shadow.proofs.Alone.{tables_are_of_the_area}
use Rattle.def_runs.specs.Marks.{trail}
use Rattle.def_guests.specs.Guests.{Truthful}
use Rattle.def_guests.specs.Turns.{Guested, bus_side, turn_of}
use Rattle.def_guests.specs.Seats.{on_board, own, Seat, end_of, guested_on, machine_on, turned_on, IsSeated, OnlyWithin}
use Rattle.def_guests.specs.declared.limits.TheConstants.{MONITOR_BYTES}
use Rattle.def_guests.specs.Stages.{LieApart}
use Rattle.def_guests.specs.Laws.{NothingIsTaken, TakesAdd, with_before}
use Rattle.def_guests.proofs.TurnLaws.{nothing_turned, turns_add, marks_stay_before}
use Rattle.def_guests.proofs.Trails.{trail_append}

-- ---- parts of memory

inside : (x : List ℕ) (b m a k : ℕ) → a + k ≤ m → take k (drop a (part x b m)) ≡ part x (b + a) k
inside x b m a k h =
    ap (λ (n : ℕ). take k (drop a (take n (drop b x)))) (let e : m ≡ a + (m - a) = omega arith in e)
    ∙ ap (take k) (drop-take a (m - a) (drop b x)) ∙ take-take k (m - a) (drop a (drop b x)) (omega arith) ∙ ap (take k) (drop-drop a b x)

inside_at : (x : List ℕ) (b m at k : ℕ) → b ≤ at → at + k ≤ b + m → take k (drop (at - b) (part x b m)) ≡ part x at k
inside_at x b m at k h l =
    inside x b m (at - b) k (omega arith) ∙ ap (λ (n : ℕ). part x n k) (let e : b + (at - b) ≡ at = omega arith in e)

-- what lies in a part that stays, stays
stays_inside : (x y : List ℕ) (b m at k : ℕ) → part y b m ≡ part x b m → b ≤ at → at + k ≤ b + m → part y at k ≡ part x at k
stays_inside x y b m at k e h l =
    sym (inside_at y b m at k h l) ∙ ap (λ (p : List ℕ). take k (drop (at - b) p)) e ∙ inside_at x b m at k h l

above_at : (x : List ℕ) (b at k : ℕ) → b ≤ at → take k (drop (at - b) (drop b x)) ≡ part x at k
above_at x b at k h =
    ap (take k) (drop-drop (at - b) b x) ∙ ap (λ (n : ℕ). part x n k) (let e : b + (at - b) ≡ at = omega arith in e)

stays_above : (x y : List ℕ) (b at k : ℕ) → drop b y ≡ drop b x → b ≤ at → part y at k ≡ part x at k
stays_above x y b at k e h = sym (above_at y b at k h) ∙ ap (λ (p : List ℕ). take k (drop (at - b) p)) e ∙ above_at x b at k h

-- ---- a guest that another's turn leaves alone

-- any part of its RAM and area
left_alone : (g h : Seat) (x y : List ℕ) → OnlyWithin g x y → LieApart g h → MONITOR_BYTES ≤ g.base → MONITOR_BYTES ≤ h.base
    → (at k : ℕ) → h.base ≤ at → at + k ≤ end_of h → part y at k ≡ part x at k
left_alone g h x y w (inl above) r s at k l m = stays_above x y (end_of g) at k w.above (omega arith)
left_alone g h x y w (inr below) r s at k l m =
    stays_inside x y MONITOR_BYTES (g.base - MONITOR_BYTES) at k w.below (omega arith) (omega arith)

pub record Alone (h : Seat) (x y : List ℕ) : Type 0 where
  pub guest : guested_on h y ≡ guested_on h x
  pub seated : IsSeated h y

guested_alone : (h : Seat) (x y : List ℕ) → machine_on h y ≡ machine_on h x → shadowed h.slots y ≡ shadowed h.slots x
    → guested_on h y ≡ guested_on h x
guested_alone h x y m t =
    ap (λ (n : Machine). record { machine = n; shadow = own h.base (shadowed h.slots y) }) m
    ∙ ap (λ (z : Shadowed). record { machine = machine_on h x; shadow = own h.base z }) t

pub alone : (g h : Seat) (x y : List ℕ) → OnlyWithin g x y → LieApart g h → MONITOR_BYTES ≤ g.base → IsSeated h x → Alone h x y
alone g h x y w apart behind s =
    let ram = left_alone g h x y w apart behind s.behind h.base h.size (omega arith) (omega arith) in
    let bytes = left_alone g h x y w apart behind s.behind h.slots.area AREA_BYTES
    (let e = s.area in omega arith) (let e = s.area in omega arith) in
    let maps = tables_are_of_the_area h.slots x y s.maps (let e = s.area in let r = s.inside in let c = w.count in omega arith) bytes in
    let machine : machine_on h y ≡ machine_on h x = ap (λ (m : List ℕ). record {
      cpu = h.cpu;
      world = record { ram = m; mmu = h.mmu; devices = h.devices; kept = h.kept ∷ [] };
      steps = h.steps;
      state = h.state;
    }) ram in
    let guest = guested_alone h x y machine maps.1 in record {
      guest = guest;
      seated = record {
        aligned = s.aligned;
        whole = s.whole;
        behind = s.behind;
        inside = let r = s.inside in let c = w.count in omega arith;
        area = s.area;
        maps = maps.0;
        tables = maps.1 ∙ s.tables ∙ ap (λ (z : Shadowed). on_board h.base (own h.base z)) (sym maps.1);
        truthful = subst (λ (t : Guested). Truthful h.size (bus_side t)) (sym guest) s.truthful;
      };
    }

-- ---- a turn of n and then one of m is a turn of n + m

pub turned_add : (script : Entries) (n m : ℕ) (s t u : Seat) (x y z : List ℕ) (first second : List Plain) (p q : ℕ)
    → turned_on t y first p ≡ turn_of script n (turned_on s x [] 0) → turned_on u z second q ≡ turn_of script m (turned_on t y [] 0)
    → turned_on u z (first ++ second) (p + q) ≡ turn_of script (n + m) (turned_on s x [] 0)
turned_add script n m s t u x y z first second p q e f =
    ap (with_before first p) f ∙ sym (marks_stay_before script m first p (turned_on t y [] 0))
    ∙ ap (λ (marks : List Plain). turn_of script m (turned_on t y marks (p + 0))) (append-nil first)
    ∙ ap (λ (e : ℕ). turn_of script m (turned_on t y first e)) (let z : p + 0 ≡ p = omega arith in z)
    ∙ ap (turn_of script m) e ∙ sym (turns_add script n m (turned_on s x [] 0))

pub takes_add : TakesAdd
takes_add n m s t u a b =
    let base = a.same.base in
    let size = a.same.size in
    let end : end_of t.guest ≡ end_of s.guest = omega arith in record {
      marks = a.marks ++ b.marks;
      left_times = a.left_times + b.left_times;
      turned = turned_add s.guest.script n m s.guest t.guest u.guest s.ram t.ram u.ram a.marks b.marks a.left_times b.left_times a.turned
          (b.turned ∙ ap (λ (script : Entries). turn_of script m (turned_on t.guest t.ram [] 0)) a.same.script);
      same = record {
        script = b.same.script ∙ a.same.script;
        base = b.same.base ∙ a.same.base;
        size = b.same.size ∙ a.same.size;
        area = b.same.area ∙ a.same.area;
      };
      seated = b.seated;
      within = record {
        count = b.within.count ∙ a.within.count;
        below = subst (λ (k : ℕ). part u.ram MONITOR_BYTES (k - MONITOR_BYTES) ≡ part t.ram MONITOR_BYTES (k - MONITOR_BYTES)) base b.within.below
            ∙ a.within.below;
        above = subst (λ (k : ℕ). drop k u.ram ≡ drop k t.ram) end b.within.above ∙ a.within.above;
      };
      retired = let p = a.retired in let q = b.retired in omega arith;
      trail = b.trail ∙ ap (λ (k : ℕ). trail k b.marks) a.trail ∙ sym (trail_append s.native.trail a.marks b.marks);
      exceptions = let p = a.exceptions in let q = b.exceptions in omega arith;
    }

pub nothing_is_taken : NothingIsTaken
unfolding trail
nothing_is_taken s seated = record {
  marks = [];
  left_times = 0;
  turned = sym (nothing_turned s.guest.script (turned_on s.guest s.ram [] 0));
  same = record { script = refl; base = refl; size = refl; area = refl };
  seated = seated;
  within = record { count = refl; below = refl; above = refl };
  retired = refl;
  trail = refl;
  exceptions = omega arith;
}
