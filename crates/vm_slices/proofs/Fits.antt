-- Guests that fit on a board, prepared one after the other.
use Rattle.std.proofs.Common.{◌≡◌, ◌∙◌, ℕ, zero, suc, ◌+◌, ◌*◌, ◌%◌, ◌^◌, ◌≤◌, ◌<◌, List, [], ◌∷◌, ◌++◌, length}
use Rattle.std.proofs.Common.{get_or, drop, map, refl, ap, sym, subst, arith, append_assoc}
use Rattle.std.specs.Prelude.{All, sum_by}
use Rattle.std.proofs.lemmas.List.{append-nil, length-map, map-append}
use Rattle.std.proofs.lemmas.List.Elements.{All-nil, All-push}
use Rattle.std.proofs.lemmas.List.Sums.{sum_by-cons}
use Rattle.vm_shadow.specs.declared.area.TheConstants.{AREA_BYTES}
use Rattle.def_guests.specs.Seats.{Seat, end_of, IsSeated}
use Rattle.def_guests.specs.Stages.{AllSeated}
use Rattle.def_guests.specs.declared.limits.TheConstants.{MONITOR_BYTES}
use Rattle.def_guests.specs.Rounds.{Member}
use Rattle.vm_guest.specs.Memory.{OnlyBetween}
use Rattle.vm_guest.specs.Session.{GuestAtStart, IsGuest}
use Rattle.vm_slices.specs.declared.host_guest.HostGuest.{HostGuest}
use Rattle.vm_slices.specs.Fit.{share_of, need_of}
use Rattle.vm_slices.specs.Members.{member_at_start, IsBounded}
use Rattle.vm_slices.specs.Places.{member_of, members_of, seats_of}
use Rattle.vm_slices.proofs.Places.{further, bounded_behind}

-- ---- numbers

rest_of : (P : GuestAtStart → Type 0) (g : GuestAtStart) (gs : List GuestAtStart) → All P (g ∷ gs) → All P gs
rest_of P g gs all k d less = all (suc k) d (omega arith)

-- sixteen guests need less than 2 ^ 32 bytes
shares_fit : (gs : List GuestAtStart) → All IsGuest gs → sum_by share_of gs ≤ 16842752 * length gs
shares_fit [] all = omega arith
shares_fit (g ∷ gs) all =
    let own = (all zero g (omega arith)).ram.1 in
    let rest = shares_fit gs (rest_of IsGuest g gs all) in
    let sum = sum_by-cons share_of g gs in omega arith

pub need_fits : (gs : List GuestAtStart) → All IsGuest gs → length gs ≤ 16 → need_of gs < 2 ^ 32
need_fits gs all few = let sum = shares_fit gs all in omega arith

pub shares_from : (gs : List GuestAtStart) (i : ℕ) (g : GuestAtStart) → i < length gs → g ≡ get_or gs i g
    → sum_by share_of (drop i gs) ≡ share_of g + sum_by share_of (drop (i + 1) gs)
shares_from [] i g less is = absurd (omega arith)
shares_from (k ∷ ks) zero g less is =
    sum_by-cons share_of k ks ∙ ap (λ (a : GuestAtStart). share_of a + sum_by share_of ks) (sym is)
shares_from (k ∷ ks) (suc i) g less is =
    shares_from ks i g (omega arith) is
    ∙ ap (λ (n : ℕ). share_of g + sum_by share_of (drop n (k ∷ ks))) (let e : suc (i + 1) ≡ suc i + 1 = omega arith in e)

pub no_shares : (gs : List GuestAtStart) (i : ℕ) → length gs ≤ i → sum_by share_of (drop i gs) ≡ 0
no_shares [] zero more = refl
no_shares [] (suc i) more = refl
no_shares (k ∷ ks) zero more = absurd (omega arith)
no_shares (k ∷ ks) (suc i) more = no_shares ks i (omega arith)

-- ---- one after the other

-- so many guests are prepared, and there is room for the others
pub record Stands (all rest : List GuestAtStart) (hosts : List HostGuest) (base : ℕ) (ram : List ℕ) : Type 0 where
  pub guests : All IsGuest rest
  pub members : members_of hosts ram ++ map member_at_start rest ≡ map member_at_start all
  pub stand : AllSeated (seats_of hosts) ram
  pub bounds : All IsBounded (members_of hosts ram)
  pub before : All (λ (g : Seat). end_of g ≤ base) (seats_of hosts)
  pub aligned : base % 65536 ≡ 0
  pub behind : MONITOR_BYTES ≤ base
  pub room : base + sum_by share_of rest ≤ length ram

pub first_stands : (all : List GuestAtStart) (ram : List ℕ) → All IsGuest all → need_of all ≤ length ram → Stands all all [] MONITOR_BYTES ram
first_stands all ram guests room =
    record {
      guests = guests;
      members = refl;
      stand = record { seated = All-nil (λ (g : Seat). IsSeated g ram); apart = λ i j d less inside. absurd (omega arith) };
      bounds = All-nil IsBounded;
      before = All-nil (λ (g : Seat). end_of g ≤ MONITOR_BYTES);
      aligned = refl;
      behind = omega arith;
      room = room;
    }

-- the next one has room
pub next_guest : (all rest : List GuestAtStart) (g : GuestAtStart) (hosts : List HostGuest) (base : ℕ) (ram : List ℕ)
    → Stands all (g ∷ rest) hosts base ram → IsGuest g × (base + g.ram + AREA_BYTES ≤ length ram)
next_guest all rest g hosts base ram s =
    let sum = sum_by-cons share_of g rest in let room = s.room in (s.guests zero g (omega arith), omega arith)

-- and is prepared
pub next_stands : (all rest : List GuestAtStart) (g : GuestAtStart) (hosts : List HostGuest) (h : HostGuest) (base : ℕ) (x y : List ℕ)
    → Stands all (g ∷ rest) hosts base x → member_of y h ≡ member_at_start g → h.guest.base ≡ base → h.guest.size ≡ g.ram
    → IsSeated h.guest y → h.bound < 2 ^ 32 → OnlyBetween base (base + g.ram + AREA_BYTES) x y
    → Stands all rest (hosts ++ h ∷ []) (base + g.ram + AREA_BYTES) y
next_stands all rest g hosts h base x y s start at size seated bound between =
    let end : base + g.ram + AREA_BYTES ≡ end_of h.guest = omega arith in
    let behind = s.behind in
    let own : OnlyBetween h.guest.base (end_of h.guest) x y =
    subst (λ (n : ℕ). OnlyBetween h.guest.base n x y) end (subst (λ (n : ℕ). OnlyBetween n (base + g.ram + AREA_BYTES) x y) (sym at) between) in
    let here : All (λ (k : Seat). end_of k ≤ h.guest.base) (seats_of hosts) = subst (λ (n : ℕ). All (λ (k : Seat). end_of k ≤ n) (seats_of hosts)) (sym at) s.before in
    let joined = further hosts h x y s.stand here seated own in
    let ram = (s.guests zero g (omega arith)).ram in
    let whole = ram.2 in
    let aligned = s.aligned in
    let sum = sum_by-cons share_of g rest in
    let room = s.room in
    let count = between.count in
    record {
      guests = rest_of IsGuest g rest s.guests;
      members = ap (λ (ms : List Member). ms ++ map member_at_start rest) joined.1
          ∙ append_assoc (members_of hosts x) (member_of y h ∷ []) (map member_at_start rest)
          ∙ ap (λ (m : Member). members_of hosts x ++ m ∷ map member_at_start rest) start
          ∙ s.members;
      stand = joined.0;
      bounds = subst (λ (ms : List Member). All IsBounded ms) (sym joined.1) (bounded_behind (members_of hosts x) (member_of y h) s.bounds bound);
      before = subst (All (λ (k : Seat). end_of k ≤ base + g.ram + AREA_BYTES)) (sym (map-append (λ (a : HostGuest). a.guest) hosts (h ∷ [])))
          (All-push (λ (k : Seat). end_of k ≤ base + g.ram + AREA_BYTES) (seats_of hosts) h.guest
          (λ i d less. let first = s.before i d less in omega arith) (omega arith));
      aligned = omega arith;
      behind = omega arith;
      room = omega arith;
    }

nothing_more : {A : Type 0} (xs : List A) → length xs ≡ 0 → xs ≡ []
nothing_more [] e = refl
nothing_more (x ∷ xs) e = absurd (omega arith)

-- all of them are
pub all_stand : (all rest : List GuestAtStart) (hosts : List HostGuest) (base : ℕ) (ram : List ℕ) → Stands all rest hosts base ram
    → length rest ≡ 0 → members_of hosts ram ≡ map member_at_start all
all_stand all rest hosts base ram s none =
    sym (append-nil (members_of hosts ram))
    ∙ ap (λ (gs : List GuestAtStart). members_of hosts ram ++ map member_at_start gs) (sym (nothing_more rest none)) ∙ s.members

-- there are as many
pub as_many : (all : List GuestAtStart) (hosts : List HostGuest) (ram : List ℕ) → members_of hosts ram ≡ map member_at_start all
    → length hosts ≡ length all
as_many all hosts ram e = sym (length-map hosts (member_of ram)) ∙ ap (λ (ms : List Member). length ms) e ∙ length-map all member_at_start
