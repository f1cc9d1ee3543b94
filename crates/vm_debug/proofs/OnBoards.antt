-- A debugger's guest on a board: how far it has come, and one command behind others.
use Rattle.std.proofs.Common.{◌≡◌, ◌∙◌, ℕ, zero, suc, ◌+◌, ◌-◌, ◌≤◌, List, [], ◌∷◌, ◌++◌, refl, ap, sym, subst, true, false, inl, inr, arith}
use Rattle.std.specs.Prelude.{◌&&◌, ◌||◌, not}
use Rattle.std.proofs.lemmas.Bool.{cases_Bool}
use Rattle.mb_model.specs.declared.outcome.RunState.{RunState}
use Rattle.mb_model.specs.declared.outcome.RunState.TheVariants.{Running, Stopped, Halted, Off}
use Rattle.mb_model.specs.Keeping.{rule_k}
use Rattle.def_machine.specs.Machine.{Entries, Machine, run_of, takes_steps}
use Rattle.def_runs.specs.Native.{NativeState}
use Rattle.def_guests.specs.Turns.{Turned, turn_of}
use Rattle.def_guests.specs.Seats.{turned_on, IsSeated, Scene, Takes}
use Rattle.def_guests.proofs.ByRule.{turns_by_rule}
use Rattle.def_guests.proofs.Seated.{takes_add, nothing_is_taken}
use Rattle.def_guests.proofs.TurnLaws.{halted_turn, nothing_turned, turns_add}
use Rattle.vm_guest.specs.Turns.{RisesByAtMost}
use Rattle.vm_saved.proofs.Runs.{going_runs_count, halted_run}
use Rattle.vm_debug.specs.declared.command.Command.{Command}
use Rattle.vm_debug.specs.declared.command.Command.TheVariants.{Step, Go, Break, Clear, Regs, Mem, Kept}
use Rattle.vm_debug.specs.Debugs.{Course, Debugging, after, debugged, ends_at, going_on, is_running, printed, printed_by, stands, up_to}
use Rattle.vm_debug.specs.Debugs.{with_break, without_break}
use Rattle.vm_debug.specs.Boards.{machine_at, course_of, debugging_of, HasBecome, HasCome, OnesAreATurn, TurnsEndThere}
use Rattle.vm_debug.proofs.Debugging.{going_stays, going_ends, going_further, going_ends_first, bound_is_kept, commands_add, texts_add}
use Rattle.vm_debug.proofs.Debugging.{courses_go_on, same_after, within_bound}

pub ones_are_a_turn : OnesAreATurn
ones_are_a_turn zero s t seated same = subst (Takes 0 s) same (nothing_is_taken s seated)
ones_are_a_turn (suc n) s t seated (u, first, rest) =
    subst (λ (k : ℕ). Takes k s t) (let e : 1 + n ≡ suc n = omega arith in e)
    (takes_add 1 n s u t first (ones_are_a_turn n u t first.seated rest))

-- the same turn, where its steps come to the same
as_many : (n k : ℕ) (s t : Scene) → turn_of s.guest.script n (turned_on s.guest s.ram [] 0) ≡ turn_of s.guest.script k (turned_on s.guest s.ram [] 0)
    → Takes n s t → Takes k s t
as_many n k s t same takes = record {
  marks = takes.marks;
  left_times = takes.left_times;
  turned = takes.turned ∙ same;
  same = takes.same;
  seated = takes.seated;
  within = takes.within;
  retired = takes.retired;
  trail = takes.trail;
  exceptions = takes.exceptions;
}

ended : (script : Entries) (j n : ℕ) (x : Turned) → j ≤ n → takes_steps (turn_of script j x).guest.machine.state ≡ false
    → turn_of script n x ≡ turn_of script j x
ended script j n x few still =
    ap (λ (k : ℕ). turn_of script k x) (let e : n ≡ j + (n - j) = omega arith in e)
    ∙ turns_add script j (n - j) x ∙ halted_turn script (n - j) (turn_of script j x) still

pub turns_end_there : TurnsEndThere
turns_end_there j n s t few still takes =
    as_many n j s t (ended s.guest.script j n (turned_on s.guest s.ram [] 0) few still) takes

-- ---- how far a guest has come

taken_machine : (n : ℕ) (s t : Scene) → Takes n s t → machine_at t ≡ run_of rule_k s.guest.script n (machine_at s)
taken_machine n s t takes =
    ap (λ (u : Turned). u.guest.machine) takes.turned ∙ turns_by_rule s.guest.script n (turned_on s.guest s.ram [] 0)

-- one that takes more has taken all of them
all_taken : (n : ℕ) (s t : Scene) → Takes n s t → takes_steps t.guest.state ≡ true → t.guest.steps ≡ s.guest.steps + n
all_taken n s t takes going =
    let same = taken_machine n s t takes in
    ap (λ (m : Machine). m.steps) same
    ∙ going_runs_count rule_k s.guest.script n (machine_at s) (ap (λ (m : Machine). takes_steps m.state) (sym same) ∙ going)

-- one that takes none stays
none_taken : (n : ℕ) (s t : Scene) → Takes n s t → takes_steps s.guest.state ≡ false → takes_steps t.guest.state ≡ false
none_taken n s t takes still =
    ap (λ (m : Machine). takes_steps m.state) (taken_machine n s t takes ∙ halted_run rule_k s.guest.script n (machine_at s) still) ∙ still

-- it has also taken any more steps
more_taken : (n k : ℕ) (s t : Scene) → Takes n s t → takes_steps t.guest.state ≡ false → n ≤ k → Takes k s t
more_taken n k s t takes still few =
    let x = turned_on s.guest s.ram [] 0 in
    as_many n k s t
    (sym (ended s.guest.script n k x few (ap (λ (u : Turned). takes_steps u.guest.machine.state) (sym takes.turned) ∙ still))) takes

-- and before that none
no_more_taken : (n : ℕ) (s t : Scene) → Takes n s t → takes_steps s.guest.state ≡ false → Takes 0 s t
no_more_taken n s t takes still =
    let x = turned_on s.guest s.ram [] 0 in
    as_many n 0 s t (halted_turn s.guest.script n x still ∙ sym (nothing_turned s.guest.script x)) takes

not_gone : (s : Scene) → IsSeated s.guest s.ram → HasCome s s.guest.steps s
not_gone s seated =
    subst (λ (n : ℕ). Takes n s s) (let e : 0 ≡ s.guest.steps - s.guest.steps = omega arith in e) (nothing_is_taken s seated)

-- a turn brings it so much further
comes_by : (n : ℕ) (s t : Scene) → Takes n s t → HasCome s (s.guest.steps + n) t
comes_by n s t takes =
    subst (λ (k : ℕ). Takes k s t) (let e : n ≡ s.guest.steps + n - s.guest.steps = omega arith in e) takes

comes_further : (begun : Scene) (steps n : ℕ) (s t : Scene) → begun.guest.steps ≤ steps → HasCome begun steps s → Takes n s t
    → HasCome begun (steps + n) t
comes_further begun steps n s t least come taken =
    let from = begun.guest.steps in
    subst (λ (k : ℕ). Takes k begun t) (let e : steps - from + n ≡ steps + n - from = omega arith in e)
    (takes_add (steps - from) n begun s t come taken)

-- ---- `go` at once

ends_still : (state : RunState) (pc : ℕ) → ((is_running state && stands pc []) || not (takes_steps state)) ≡ true → takes_steps state ≡ false
ends_still Running pc h = absurd (cc h)
ends_still Stopped pc h = absurd (cc h)
ends_still Halted pc h = refl
ends_still Off pc h = refl

-- without break points it ends where no more steps are taken
pub goes_at_once : (n : ℕ) (s t : Scene) → Takes n s t → HasCome s (going_on (course_of s) [] s.guest.steps n) t
goes_at_once n s t taken =
    let course = course_of s in
    let from = s.guest.steps in
    let end = going_on course [] from n in
    let r = going_ends_first course [] from n in
    let low = r.least in
    let most = r.most in
    let all = comes_by n s t taken in
    elim r.ended [
      | inl holds ↦
          let m = course end in
          let still : takes_steps m.state ≡ false = ends_still m.state m.cpu.regs.pc holds in
          let there : takes_steps (turn_of s.guest.script (end - from) (turned_on s.guest s.ram [] 0)).guest.machine.state ≡ false =
          ap (λ (x : Machine). takes_steps x.state) (turns_by_rule s.guest.script (end - from) (turned_on s.guest s.ram [] 0)) ∙ still in
          turns_end_there (end - from) (from + n - from) s t (omega arith) there all
      | inr e ↦ subst (λ (k : ℕ). HasCome s k t) (sym e) all
    ]

-- ---- `go` by turns of one step

-- It has taken so many turns of at most so many, and goes on from there.
pub record GoesOn (breaks : List ℕ) (limit step : ℕ) (s now : Scene) : Type 0 where
  pub come : HasCome s (s.guest.steps + step) now
  pub goes : going_on (course_of s) breaks (s.guest.steps + step) (limit - step) ≡ going_on (course_of s) breaks s.guest.steps limit

pub goes_first : (breaks : List ℕ) (limit : ℕ) (s : Scene) → IsSeated s.guest s.ram → GoesOn breaks limit 0 s s
goes_first breaks limit s seated =
    let none : s.guest.steps ≡ s.guest.steps + 0 = omega arith in record {
      come = subst (λ (k : ℕ). HasCome s k s) none (not_gone s seated);
      goes = ap (λ (k : ℕ). going_on (course_of s) breaks k (limit - 0)) (sym none)
          ∙ ap (going_on (course_of s) breaks s.guest.steps) (let e : limit - 0 ≡ limit = omega arith in e);
    }

-- one turn more
once_more : (step : ℕ) (s now u : Scene) → HasCome s (s.guest.steps + step) now → Takes 1 now u → HasCome s (s.guest.steps + step + 1) u
once_more step s now u come taken = comes_further s (s.guest.steps + step) 1 now u (omega arith) come taken

on_course : (k : ℕ) (s u : Scene) → HasCome s k u → machine_at u ≡ course_of s k
on_course k s u come = taken_machine (k - s.guest.steps) s u come

-- behind which it goes on
pub goes_further : (breaks : List ℕ) (limit step : ℕ) (s now u : Scene) → suc step ≤ limit → GoesOn breaks limit step s now → Takes 1 now u
    → ends_at breaks (machine_at u) ≡ false → GoesOn breaks limit (step + 1) s u
goes_further breaks limit step s now u less before taken on =
    let course = course_of s in
    let k = s.guest.steps + step in
    let come = once_more step s now u before.come taken in
    let fails : ends_at breaks (course (k + 1)) ≡ false = ap (ends_at breaks) (sym (on_course (k + 1) s u come)) ∙ on in
    let next : k + 1 ≡ s.guest.steps + (step + 1) = omega arith in record {
      come = subst (λ (n : ℕ). HasCome s n u) next come;
      goes = ap (λ (n : ℕ). going_on course breaks n (limit - (step + 1))) (sym next)
          ∙ sym (going_further course breaks k (limit - (step + 1)) fails)
          ∙ ap (going_on course breaks k) (let e : suc (limit - (step + 1)) ≡ limit - step = omega arith in e) ∙ before.goes;
    }

-- or at which it ends
pub goes_to_end : (breaks : List ℕ) (limit step : ℕ) (s now u : Scene) → suc step ≤ limit → GoesOn breaks limit step s now → Takes 1 now u
    → ends_at breaks (machine_at u) ≡ true → HasCome s (going_on (course_of s) breaks s.guest.steps limit) u
goes_to_end breaks limit step s now u less before taken ends =
    let course = course_of s in
    let k = s.guest.steps + step in
    let come = once_more step s now u before.come taken in
    let holds : ends_at breaks (course (k + 1)) ≡ true = ap (ends_at breaks) (sym (on_course (k + 1) s u come)) ∙ ends in
    let end : k + 1 ≡ going_on course breaks s.guest.steps limit =
    sym (going_ends course breaks k (limit - (step + 1)) holds)
    ∙ ap (going_on course breaks k) (let e : suc (limit - (step + 1)) ≡ limit - step = omega arith in e) ∙ before.goes in
    subst (λ (n : ℕ). HasCome s n u) end come

-- all are taken
pub goes_all : (breaks : List ℕ) (limit step : ℕ) (s now : Scene) → limit ≤ step → GoesOn breaks limit step s now
    → HasCome s (going_on (course_of s) breaks s.guest.steps limit) now
goes_all breaks limit step s now all before =
    let course = course_of s in
    let k = s.guest.steps + step in
    subst (λ (n : ℕ). HasCome s n now)
    (sym (going_stays course breaks k) ∙ ap (going_on course breaks k) (let e : 0 ≡ limit - step = omega arith in e) ∙ before.goes) before.come

-- ---- one command behind others

-- after a command the break points are a function of those before it
breaks_after : (course other : Course) (bound : ℕ) (c : Command) (d e : Debugging) → d.breaks ≡ e.breaks
    → (after course bound c d).breaks ≡ (after other bound c e).breaks
breaks_after course other bound (Step n) d e same = same
breaks_after course other bound (Go n) d e same = same
breaks_after course other bound (Break at) d e same = ap (with_break at) same
breaks_after course other bound (Clear at) d e same = ap (without_break at) same
breaks_after course other bound Regs d e same = same
breaks_after course other bound (Mem at count) d e same = same
breaks_after course other bound Kept d e same = same

-- what the debugger has come to
abbrev pub come_to : (bound : ℕ) → List Command → Scene → List ℕ → Debugging
come_to bound commands s breaks = debugged (course_of s) bound commands (debugging_of s breaks)

one_more : (bound : ℕ) (commands : List Command) (c : Command) (s : Scene) (breaks : List ℕ)
    → come_to bound (commands ++ c ∷ []) s breaks ≡ after (course_of s) bound c (come_to bound commands s breaks)
unfolding debugged
one_more bound commands c s breaks = commands_add (course_of s) bound commands (c ∷ []) (debugging_of s breaks)

-- the guest goes on along the first course
goes_on : (bound : ℕ) (c : Command) (begun s t : Scene) (b : List ℕ) (d : Debugging) → begun.guest.steps ≤ d.steps → d.steps ≤ bound
    → b ≡ d.breaks → HasCome begun d.steps s → HasCome s (after (course_of s) bound c (debugging_of s b)).steps t
    → takes_steps s.guest.state ≡ true → HasCome begun (after (course_of begun) bound c d).steps t
goes_on bound c begun s t b d least most same come taken going =
    let script = begun.guest.script in
    let from = d.steps in
    let all = all_taken (from - begun.guest.steps) begun s come going in
    let count : s.guest.steps ≡ from = omega arith in
    let here : debugging_of s b ≡ d =
    ap (λ (k : ℕ). (let x : Debugging = record { steps = k; breaks = b } in x)) count
    ∙ ap (λ (l : List ℕ). (let x : Debugging = record { steps = from; breaks = l } in x)) same in
    let agree : (k : ℕ) → from ≤ k → k ≤ bound → course_of s k ≡ course_of begun k = λ k low high.
    ap (λ (e : Entries). run_of rule_k e (k - s.guest.steps) (machine_at s)) come.same.script
    ∙ ap (λ (m : Machine). run_of rule_k script (k - m.steps) m) (taken_machine (from - begun.guest.steps) begun s come)
    ∙ courses_go_on script (machine_at begun) from k least low in
    let course = course_of begun in
    let later : after (course_of s) bound c (debugging_of s b) ≡ after course bound c d =
    ap (after (course_of s) bound c) here ∙ same_after (course_of s) course bound c d most agree in
    let on : Takes ((after course bound c d).steps - s.guest.steps) s t = subst (λ (x : Debugging). Takes (x.steps - s.guest.steps) s t) later taken in
    let low = (within_bound course bound c d most).least in
    subst (λ (k : ℕ). HasCome begun k t) (let e : from + ((after course bound c d).steps - s.guest.steps) ≡ (after course bound c d).steps = omega arith in e)
    (comes_further begun from ((after course bound c d).steps - s.guest.steps) s t least come on)

-- one that takes no steps stays where it is
stays_there : (bound : ℕ) (c : Command) (begun s t : Scene) (n : ℕ) (d : Debugging) → begun.guest.steps ≤ d.steps → d.steps ≤ bound
    → HasCome begun d.steps s → Takes n s t → takes_steps s.guest.state ≡ false → HasCome begun (after (course_of begun) bound c d).steps t
stays_there bound c begun s t n d least most come taken still =
    let from = begun.guest.steps in
    let low = (within_bound (course_of begun) bound c d most).least in
    let there = takes_add (d.steps - from) 0 begun s t come (no_more_taken n s t taken still) in
    more_taken (d.steps - from + 0) ((after (course_of begun) bound c d).steps - from) begun t there (none_taken n s t taken still) (omega arith)

-- what the guest has come to, it has become
become : (d : Debugging) (s t : Scene) (breaks : List ℕ) → HasCome s d.steps t → breaks ≡ d.breaks → HasBecome d s t breaks
become d s t breaks come same = record { takes = come; machine = on_course d.steps s t come; breaks = same }

pub does_one_more : (bound : ℕ) (commands : List Command) (c : Command) (begun s t : Scene) (first b later : List ℕ) → begun.guest.steps ≤ bound
    → HasBecome (come_to bound commands begun first) begun s b → HasBecome (after (course_of s) bound c (debugging_of s b)) s t later
    → HasBecome (come_to bound (commands ++ c ∷ []) begun first) begun t later
does_one_more bound commands c begun s t first b later within before more =
    let d = come_to bound commands begun first in
    let next = after (course_of begun) bound c d in
    let stay = bound_is_kept (course_of begun) bound commands (debugging_of begun first) within in
    let come : HasCome begun next.steps t = elim (cases_Bool (takes_steps s.guest.state)) [
      | inl going ↦ goes_on bound c begun s t b d stay.least stay.most before.breaks before.takes more.takes going
      | inr still ↦
          stays_there bound c begun s t ((after (course_of s) bound c (debugging_of s b)).steps - s.guest.steps) d stay.least stay.most
          before.takes more.takes still
    ] in
    let same : later ≡ next.breaks =
    more.breaks ∙ breaks_after (course_of s) (course_of begun) bound c (debugging_of s b) d before.breaks in
    subst (λ (x : Debugging). HasBecome x begun t later) (sym (one_more bound commands c begun first)) (become next begun t later come same)

-- what they print is what it prints by itself, between the lines of those before it and of those behind it
pub text_behind : (bound : ℕ) (commands others : List Command) (c : Command) (begun s t : Scene) (first b later : List ℕ)
    → HasBecome (come_to bound commands begun first) begun s b → HasBecome (come_to bound (commands ++ c ∷ []) begun first) begun t later
    → printed (course_of begun) bound (commands ++ c ∷ others) (debugging_of begun first)
    ≡ printed (course_of begun) bound commands (debugging_of begun first) ++ (printed_by c b (machine_at t)
    ++ printed (course_of begun) bound others (after (course_of begun) bound c (come_to bound commands begun first)))
unfolding printed
text_behind bound commands others c begun s t first b later before done =
    let course = course_of begun in
    let d = come_to bound commands begun first in
    let next = after course bound c d in
    let lines = printed course bound commands (debugging_of begun first) in
    let there : course next.steps ≡ machine_at t =
    sym (done.machine ∙ ap (λ (x : Debugging). course x.steps) (one_more bound commands c begun first)) in
    texts_add course bound commands (c ∷ others) (debugging_of begun first)
    ∙ ap (λ (x : List ℕ). lines ++ (printed_by c x (course next.steps) ++ printed course bound others next)) (sym before.breaks)
    ∙ ap (λ (m : Machine). lines ++ (printed_by c b m ++ printed course bound others next)) there

-- before all of them
pub nothing_done : (bound : ℕ) (s : Scene) (breaks : List ℕ) → IsSeated s.guest s.ram → HasBecome (come_to bound [] s breaks) s s breaks
unfolding debugged
nothing_done bound s breaks seated = become (debugging_of s breaks) s s breaks (not_gone s seated) refl

-- ---- what boards count

pub no_rise : (steps : ℕ) (x : NativeState) → RisesByAtMost steps steps x x
no_rise steps x = (omega arith, omega arith)

pub rises_on : (a b c : ℕ) (x y z : NativeState) → RisesByAtMost a b x y → RisesByAtMost b c y z → RisesByAtMost a c x z
rises_on a b c x y z p q =
    let p0 = p.0 in
    let p1 = p.1 in
    let q0 = q.0 in
    let q1 = q.1 in (omega arith, omega arith)

-- ---- each command

pub steps_by : (bound n limit : ℕ) (s t : Scene) (breaks : List ℕ) → limit ≡ up_to bound s.guest.steps n → Takes limit s t
    → HasBecome (after (course_of s) bound (Step n) (debugging_of s breaks)) s t breaks
steps_by bound n limit s t breaks same takes =
    become (after (course_of s) bound (Step n) (debugging_of s breaks)) s t breaks
    (subst (λ (k : ℕ). HasCome s (s.guest.steps + k) t) same (comes_by limit s t takes)) refl

pub goes_by : (bound n limit : ℕ) (s t : Scene) (breaks : List ℕ) → limit ≡ up_to bound s.guest.steps n
    → HasCome s (going_on (course_of s) breaks s.guest.steps limit) t
    → HasBecome (after (course_of s) bound (Go n) (debugging_of s breaks)) s t breaks
goes_by bound n limit s t breaks same come =
    become (after (course_of s) bound (Go n) (debugging_of s breaks)) s t breaks
    (subst (λ (k : ℕ). HasCome s (going_on (course_of s) breaks s.guest.steps k) t) same come) refl

-- a command that leaves the guest alone
pub only_breaks : (s : Scene) (breaks later : List ℕ) → IsSeated s.guest s.ram → later ≡ breaks → HasBecome (debugging_of s breaks) s s later
only_breaks s breaks later seated same = become (debugging_of s breaks) s s later (not_gone s seated) same
