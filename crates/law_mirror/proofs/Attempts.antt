-- A whole attempt, and its parts.
use Rattle.std.proofs.Common.{◌≡◌, refl, ap, ◌∙◌, subst, arith, Ok, Err}
use Rattle.mb_port.specs.Routine.{Routine, Return, Ask, Then, Bus, run, Call, Fetch, Read, Write, ReadLine, WriteLine, Probe, Get, Put, ReadMmu, SetMmu}
use Rattle.mb_port.specs.Routine.{FlushKept, Test, ResetDevices}
use Rattle.mb_port.specs.declared.types.Space.TheVariants.{User}
use Rattle.law_routines.specs.Until.{Until, Ended, then_until, run_until, AlongUntil}
use Rattle.law_routines.specs.Between.{between, call_here, IsThere}
use Rattle.law_routines.specs.Twin.{MeetsOn, AlikeOn, Twin, Results}
use Rattle.law_routines.proofs.Twinned.{twins_meet}
use Rattle.law_routines.proofs.TwinTrees.{met_meets_on}
use Rattle.def_instructions.specs.Attempt.{FoundInstr, attempt_of, fetched_of}
use Rattle.law_twins.specs.Twins.{SamePerformed}
use Rattle.law_twins.proofs.Step.{SameFound as TwinFound, SameUnfound, attempt_twins, fetched_twins, perform_twins, may_refuse}
use Rattle.law_tells.proofs.Step.{attempt_tells, fetched_tells, perform_tells}
use Rattle.def_machine.specs.World.{World}
use Rattle.def_instructions.specs.Rows.{perform_of}
use Rattle.def_guests.specs.Guests.{Guest}
use Rattle.def_guests.specs.Held.{held_bus}
use Rattle.law_mirror.specs.Related.{setting, Related, Site}
use Rattle.law_mirror.specs.Laws.{board_bus, lawful, always, Outside}
use Rattle.law_mirror.proofs.Guard.{is_alike, never_refusing, board_guards}
use Rattle.law_held.specs.Sound.{OnlyRam}
use Rattle.law_mirror.proofs.Mirrors.{sound_of}
use Rattle.law_held.specs.Lawful.{IsAttemptCall}
use Rattle.law_mirror.proofs.Inside.{stays_inside}
use Rattle.law_mirror.specs.Attempts.{Stays, AttemptsStay, SameFound, FetchesStay, RowsStay}
use Rattle.law_held.proofs.Keeps.{held_keeps}

-- where all is allowed, a routine comes to its end
pub ends_always : {S A : Type 0} (bus : Bus S) (m : Routine A) (s : S) → run_until always bus m s ≡ Ended ((run bus m s).0) ((run bus m s).1)
ends_always bus (Return a) s = refl
ends_always bus (Ask c) s = refl
ends_always {S = S} bus (Then {A = A} m f) s =
    ap (λ (u : Until S A). then_until u (λ a t. run_until always bus (f a) t) f) (ends_always bus m s)
    ∙ ends_always bus (f ((run bus m s).0)) ((run bus m s).1)

-- ---- along an attempt

-- the guest's call is lawful where the board's is
lawful_there : (x : Site) (d : Call) → IsThere (setting x) d → IsAttemptCall User x.base x.size (call_here (setting x) d) → IsAttemptCall x.space 0 x.size d
lawful_there x (Fetch of at) s l = (s, l.1, l.2)
lawful_there x (Read of p) s l = (s, l.1, l.2)
lawful_there x (Write of p value) s l = (s, l.1, l.2)
lawful_there x (ReadLine of at) s l = (s, l.1, l.2)
lawful_there x (WriteLine of at line) s l = (s, l.1, l.2, l.3)
lawful_there x (Probe of p) s l = (s, l.1, l.2)
lawful_there x (Get place) s l = let h = l.1 in (omega arith, omega arith)
lawful_there x (Put place value) s l = let h = l.1 in (omega arith, omega arith)
lawful_there x ReadMmu s l = absurd s
lawful_there x (SetMmu which value) s l = absurd s
lawful_there x (FlushKept what) s l = absurd s
lawful_there x (Test of at write) s l = absurd s
lawful_there x ResetDevices s l = absurd s

outside_both : (x : Site) (b u w : World) → Outside x b u → Outside x u w → Outside x b w
outside_both x b u w o p = record {
  count = p.count ∙ o.count;
  below = p.below ∙ o.below;
  above = p.above ∙ o.above;
  mmu = p.mmu ∙ o.mmu;
  devices = p.devices ∙ o.devices;
}

only_both : (g h k : Guest) → OnlyRam g h → OnlyRam h k → OnlyRam g k
only_both g h k e f = f ∙ ap (λ (q : Guest). record q { world = record q.world { ram = k.world.ram } }) e

pub stays_alike : (x : Site) (b0 : World) (g0 : Guest) → AlikeOn (between (setting x)) (Stays x b0 g0) (lawful x) always always board_bus held_bus
stays_alike x b0 g0 = record {
  leave = λ d b g r s l. refl;
  answer = λ d b g r s l h. (is_alike x).answer d b g r.related s l h;
  kept = λ d b g r s l h. record {
    related = (is_alike x).kept d b g r.related s l h;
    outside = outside_both x b0 b ((board_bus (call_here (setting x) d) b).1) r.outside (stays_inside x (call_here (setting x) d) b (g, r.related) l);
    only = only_both g0 g ((held_bus d g).1) r.only (held_keeps x.space x.size d g (sound_of x b g r.related) (lawful_there x d s l));
  };
}

pub starts_staying : (x : Site) (b : World) (g : Guest) → Related x b g → Stays x b g b g
starts_staying x b g r = record { related = r; outside = record { count = refl; below = refl; above = refl; mmu = refl; devices = refl }; only = refl }

-- what twins do on the board and at the held guest
pub twins_stay : {A B : Type 0} (x : Site) (Rel : A → B → Type 0) (m : Routine A) (n : Routine B) → Twin (between (setting x)) A B Rel m n
    → (b : World) (g : Guest) → Related x b g → AlongUntil (lawful x) always board_bus m b
    → Rel ((run board_bus m b).0) ((run held_bus n g).0) × Stays x b g ((run board_bus m b).1) ((run held_bus n g).1)
twins_stay {A = A} {B = B} x Rel m n twins b g r along =
    let k = between (setting x) in
    let met = met_meets_on k (Stays x b g) Rel _ _
    (twins_meet k (Stays x b g) (lawful x) always always board_bus held_bus (stays_alike x b g) A B Rel m n twins b g (starts_staying x b g r) along) in
    subst (λ (v : Until Guest B). MeetsOn k (Stays x b g) Rel (Ended ((run board_bus m b).0) ((run board_bus m b).1)) v) (ends_always held_bus n g)
    (subst (λ (u : Until World A). MeetsOn k (Stays x b g) Rel u (run_until always held_bus n g)) (ends_always board_bus m b) met)

pub attempts_stay : AttemptsStay
attempts_stay x p b g longs lt r =
    twins_stay x (SamePerformed (setting x)) (attempt_of User p) (attempt_of x.space p) (attempt_twins (setting x) p refl) b g r
    ((attempt_tells (never_refusing x) User (board_guards x) p b longs lt).lawfully b (((g, r), tt), refl))

-- the twins of a fetch say that the table has what is found, too
same_found : (x : Site) (a b : FoundInstr) → Results TwinFound (SameUnfound (setting x)) a b → SameFound (setting x) a b
same_found x (Ok found) (Ok other) same = same.0
same_found x (Ok found) (Err e) same = absurd same
same_found x (Err e) (Ok other) same = absurd same
same_found x (Err e) (Err f) same = same

pub fetches_stay : FetchesStay
fetches_stay x pc b g lt r =
    let both = twins_stay x (Results TwinFound (SameUnfound (setting x))) (fetched_of User pc) (fetched_of x.space pc) (fetched_twins (setting x) pc refl) b g r
    ((fetched_tells (never_refusing x) User (board_guards x) pc lt).lawfully b ((g, r), tt)) in
    (same_found x ((run board_bus (fetched_of User pc) b).0) ((run held_bus (fetched_of x.space pc) g).0) both.0, both.1)

pub rows_stay : RowsStay
rows_stay x i at p b g is longs r =
    twins_stay x (SamePerformed (setting x)) (perform_of i at User p) (perform_of i at x.space p)
    (perform_twins (setting x) i at p is (may_refuse (setting x) i refl)) b g r
    ((perform_tells (never_refusing x) User (board_guards x) i at p is longs).lawfully b ((g, r), tt))
