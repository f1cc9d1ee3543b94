-- Commands that were carried out, and their lines in a sink.
use Rattle.std.proofs.Common.{◌≡◌, ◌∙◌, ℕ, suc, ◌+◌, ◌≤◌, ◌<◌, List, [], ◌∷◌, ◌++◌, length, take, drop, get_or, refl, ap, sym, subst}
use Rattle.std.specs.Prelude.{Option}
use Rattle.std.proofs.lemmas.List.{append-nil, take_more, take-append-drop}
use Rattle.std.proofs.Math.Seq.{drop-cons}
use Rattle.mb_outside.specs.Prints.{Printed, PrintedPart}
use Rattle.mb_outside.proofs.PrintLemmas.{printed_then, part_then, part_more}
use Rattle.def_guests.specs.Seats.{IsSeated, Scene}
use Rattle.vm_guest.specs.Turns.{RisesByAtMost}
use Rattle.vm_debug.specs.declared.command.Command.{Command}
use Rattle.vm_debug.specs.Debugs.{after, printed, printed_by}
use Rattle.vm_debug.specs.Boards.{machine_at, course_of, debugging_of, HasBecome, IsCut}
use Rattle.vm_debug.proofs.OnBoards.{come_to, does_one_more, text_behind, nothing_done, no_rise, rises_on}
use Rattle.mb_report.proofs.BufferLemmas.{grows_nothing}

-- They were, and the sink took their lines.
pub record Carried (bound : ℕ) (commands : List Command) (s t : Scene) (breaks later : List ℕ) (o p : Option (List ℕ)) (f g : ℕ) : Type 0 where
  pub does : HasBecome (come_to bound commands s breaks) s t later
  pub prints : Printed o p f g (printed (course_of s) bound commands (debugging_of s breaks))
  pub few : t.guest.steps ≤ bound
  pub native : RisesByAtMost s.guest.steps t.guest.steps s.native t.native

pub carried_none : (bound : ℕ) (s : Scene) (breaks : List ℕ) (o : Option (List ℕ)) (f : ℕ) → s.guest.steps ≤ bound → IsSeated s.guest s.ram
    → Carried bound [] s s breaks breaks o o f f
unfolding printed
carried_none bound s breaks o f within seated = record {
  does = nothing_done bound s breaks seated;
  prints = record { same = refl; grows = grows_nothing o };
  few = within;
  native = no_rise s.guest.steps s.native;
}

-- one more is
pub carried_more : {bound : ℕ} {commands : List Command} (c : Command) {s t u : Scene} {breaks b later : List ℕ}
    {o p q : Option (List ℕ)} {f g h : ℕ} → s.guest.steps ≤ bound → Carried bound commands s t breaks b o p f g
    → HasBecome (after (course_of t) bound c (debugging_of t b)) t u later → Printed p q g h (printed_by c b (machine_at u))
    → u.guest.steps ≤ bound → RisesByAtMost t.guest.steps u.guest.steps t.native u.native
    → Carried bound (commands ++ c ∷ []) s u breaks later o q f h
unfolding printed
carried_more {bound} {commands} c {s} {t} {u} {breaks} {b} {later} {o} {p} {q} {f} {g} {h} within before more text few rises =
    let done = does_one_more bound commands c s t u breaks b later within before.does more in
    let lines = printed_by c b (machine_at u) in record {
      does = done;
      prints = subst (Printed o q f h) (sym (text_behind bound commands [] c s t u breaks b later before.does done))
          (printed_then before.prints (subst (Printed p q g h) (sym (append-nil lines)) text));
      few = few;
      native = rises_on s.guest.steps t.guest.steps u.guest.steps s.native t.native u.native before.native rises;
    }

-- one more is, and of its lines the sink took a first part;
pub cut_at : {bound : ℕ} {commands : List Command} (c : Command) (others : List Command) {s t u : Scene} {breaks b later : List ℕ}
    {o p q : Option (List ℕ)} {f g h : ℕ} → s.guest.steps ≤ bound → Carried bound commands s t breaks b o p f g
    → HasBecome (after (course_of t) bound c (debugging_of t b)) t u later → PrintedPart p q g h (printed_by c b (machine_at u))
    → IsCut bound (commands ++ c ∷ others) s u breaks later o q f h
cut_at {bound} {commands} c others {s} {t} {u} {breaks} {b} {later} {o} {p} {q} {f} {g} {h} within before more text = record {
  first = commands;
  last = c;
  others = others;
  whole = refl;
  does = does_one_more bound commands c s t u breaks b later within before.does more;
  between = p;
  taken = before.prints.grows;
  cut = subst (λ (x : List ℕ). PrintedPart p q f h (printed_by c x (machine_at u))) before.does.breaks
      (subst (λ (n : ℕ). PrintedPart p q n h (printed_by c b (machine_at u))) before.prints.same text);
}

-- that is a first part of all lines
pub part_of_all : {bound : ℕ} {commands : List Command} (c : Command) (others : List Command) {s t u : Scene} {breaks b later : List ℕ}
    {o p q : Option (List ℕ)} {f g h : ℕ} → s.guest.steps ≤ bound → Carried bound commands s t breaks b o p f g
    → HasBecome (after (course_of t) bound c (debugging_of t b)) t u later → PrintedPart p q g h (printed_by c b (machine_at u))
    → PrintedPart o q f h (printed (course_of s) bound (commands ++ c ∷ others) (debugging_of s breaks))
part_of_all {bound} {commands} c others {s} {t} {u} {breaks} {b} {later} {o} {p} {q} {f} {g} {h} within before more text =
    let done = does_one_more bound commands c s t u breaks b later within before.does more in
    subst (PrintedPart o q f h) (sym (text_behind bound commands others c s t u breaks b later before.does done))
    (part_then before.prints
    (part_more (printed (course_of s) bound others (after (course_of s) bound c (come_to bound commands s breaks))) text))

-- ---- in a list of commands

-- those up to one, and that one
pub up_to_one : (commands : List Command) (i : ℕ) (d : Command) → i < length commands
    → take (i + 1) commands ≡ take i commands ++ get_or commands i d ∷ []
up_to_one commands i d less = take_more commands i d less

-- and those behind it
pub with_others : (commands : List Command) (i : ℕ) (d : Command) → i < length commands
    → commands ≡ take i commands ++ get_or commands i d ∷ drop (suc i) commands
with_others commands i d less =
    sym (take-append-drop i commands) ∙ ap (λ (cs : List Command). take i commands ++ cs) (drop-cons commands i d less)
