-- Whatever turns there are on a board, each guest comes to where its own steps bring it.
use Rattle.std.proofs.Common.{◌≡◌, ◌≢◌, ◌∙◌, ℕ, ◌+◌, ◌<◌, ◌==◌, List, [], ◌∷◌, ◌++◌, get_or, set, slice_get, Some, All, AllPairs, refl, ap, sym, subst}
use Rattle.std.proofs.Common.{cond, inl, inr, arith}
use Rattle.std.proofs.lemmas.Bool.{cases_eq, cases_lt}
use Rattle.std.proofs.lemmas.Bool.Decides.{nat_tests}
use Rattle.std.proofs.lemmas.Grind.{get_or-set_at}
use Rattle.std.proofs.lemmas.List.{get_or-set_same, get_or-set_other, length-set}
use Rattle.std.proofs.lemmas.Option.{get_or_from_slice_get, same_Some, slice_get-get_or, slice_get_within}
use Rattle.def_machine.specs.Machine.{Entries}
use Rattle.def_guests.specs.Turns.{Guested, Turned, turn_of}
use Rattle.def_guests.specs.Seats.{Seat, end_of, turned_on, IsSame, IsSeated, OnlyWithin}
use Rattle.def_guests.specs.Stages.{LieApart, Stage, AllSeated, TakesTurn, steps_for, HasTaken}
use Rattle.def_guests.specs.Laws.{OthersStay, TurnsAreIndependent, PreparedGuestsRunAlone}
use Rattle.def_guests.proofs.ByRule.{guests_run_alone}
use Rattle.def_guests.proofs.TurnLaws.{nothing_turned}
use Rattle.def_guests.proofs.Seated.{Alone, alone, turned_add}

-- ---- the guests at two places

pub seated_at : (gs : List Seat) (x : List ℕ) (i : ℕ) (g : Seat) → AllSeated gs x → slice_get gs i ≡ Some g → IsSeated g x
seated_at gs x i g all here =
    subst (λ (k : Seat). IsSeated k x) (get_or_from_slice_get gs i g g here) (all.seated i g (slice_get_within gs i g here))

apart_before : (gs : List Seat) (i j : ℕ) (g h : Seat) → AllPairs LieApart gs → i < j → slice_get gs i ≡ Some g → slice_get gs j ≡ Some h → LieApart g h
apart_before gs i j g h apart less here there =
    subst (λ (k : Seat). LieApart k h) (get_or_from_slice_get gs i g g here)
    (subst (LieApart (get_or gs i g)) (get_or_from_slice_get gs j h g there) (apart i j g less (slice_get_within gs j h there)))

pub other_way : (g h : Seat) → LieApart g h → LieApart h g
other_way g h (inl above) = inr above
other_way g h (inr below) = inl below

apart_at : (gs : List Seat) (i j : ℕ) (g h : Seat) → AllPairs LieApart gs → i ≢ j → slice_get gs i ≡ Some g → slice_get gs j ≡ Some h → LieApart g h
apart_at gs i j g h apart ne here there = elim (cases_lt i j) [
  | inl less ↦ apart_before gs i j g h apart less here there
  | inr more ↦ other_way h g (apart_before gs j i h g apart (elim (cases_eq i j) [ inl e ↦ absurd (ne e) | inr other ↦ omega arith ]) there here)
]

set_here : (gs : List Seat) (i : ℕ) (g h : Seat) → slice_get gs i ≡ Some g → slice_get (set gs i h) i ≡ Some h
set_here gs i g h here =
    let less = slice_get_within gs i g here in
    let count = length-set gs i h in
    slice_get-get_or (set gs i h) i h (omega arith) ∙ ap Some (get_or-set_same gs i h h less)

set_there : (gs : List Seat) (i j : ℕ) (h k : Seat) → j ≢ i → slice_get gs j ≡ Some k → slice_get (set gs i h) j ≡ Some k
set_there gs i j h k ne there =
    let less = slice_get_within gs j k there in
    let count = length-set gs i h in
    slice_get-get_or (set gs i h) j k (omega arith) ∙ ap Some (get_or-set_other gs i j h k ne ∙ get_or_from_slice_get gs j k k there)

-- ---- one guest changes

record SameSpan (g h : Seat) : Type 0 where
  pub base : h.base ≡ g.base
  pub end : end_of h ≡ end_of g

still_apart : (g h g' h' : Seat) → SameSpan g g' → SameSpan h h' → LieApart g h → LieApart g' h'
still_apart g h g' h' p q (inl a) = inl (let e = p.end in let b = q.base in omega arith)
still_apart g h g' h' p q (inr a) = inr (let e = q.end in let b = p.base in omega arith)

module _ (gs : List Seat) (i : ℕ) (g h : Seat) (x y : List ℕ) (all : AllSeated gs x) (here : slice_get gs i ≡ Some g) (same : IsSame g h)
    (seated : IsSeated h y) (within : OnlyWithin g x y) where
  other_alone : (j : ℕ) (k : Seat) → j ≢ i → slice_get gs j ≡ Some k → Alone k x y
  other_alone j k ne there =
      alone g k x y within (apart_at gs i j g k all.apart (λ e. ne (sym e)) here there) (seated_at gs x i g all here).behind (seated_at gs x j k all there)

  all_seated : All (λ (k : Seat). IsSeated k y) (set gs i h)
  all_seated j d less =
      let own = slice_get_within gs i g here in
      let count = length-set gs i h in
      elim (cases_eq j i) [
        | inl e ↦ subst (λ (k : Seat). IsSeated k y) (sym (get_or-set_at gs i j h d e own)) seated
        | inr ne ↦
            subst (λ (k : Seat). IsSeated k y) (sym (get_or-set_other gs i j h d ne))
            (other_alone j (get_or gs j d) ne (slice_get-get_or gs j d (omega arith))).seated
      ]

  own_span : SameSpan g h
  own_span = record { base = same.base; end = let b = same.base in let z = same.size in omega arith }

  same_span : (j : ℕ) (d : Seat) → SameSpan (get_or gs j d) (get_or (set gs i h) j d)
  same_span j d = elim (cases_eq j i) [
    | inl e ↦
        subst (SameSpan (get_or gs j d)) (sym (get_or-set_at gs i j h d e (slice_get_within gs i g here)))
        (subst (λ (k : Seat). SameSpan k h) (sym (ap (λ (n : ℕ). get_or gs n d) e ∙ get_or_from_slice_get gs i g d here)) own_span)
    | inr ne ↦ subst (SameSpan (get_or gs j d)) (sym (get_or-set_other gs i j h d ne)) (record { base = refl; end = refl })
  ]

  all_apart : AllPairs LieApart (set gs i h)
  all_apart a b d less inside =
      let count = length-set gs i h in
      still_apart (get_or gs a d) (get_or gs b d) (get_or (set gs i h) a d) (get_or (set gs i h) b d) (same_span a d) (same_span b d)
      (all.apart a b d less (omega arith))

pub others_stay : OthersStay
others_stay gs i g h x y all here same seated within = (
  record { seated = all_seated gs i g h x y all here same seated within; apart = all_apart gs i g h x y all here same seated within },
  λ j k ne there. (other_alone gs i g h x y all here same seated within j k ne there).guest,
)

-- ---- turns

turn_leaves : (i n : ℕ) (s u : Stage) → AllSeated s.guests s.ram → TakesTurn i n s u
    → AllSeated u.guests u.ram
    × ((j : ℕ) (k : Seat) → j ≢ i → slice_get s.guests j ≡ Some k → turned_on k u.ram [] 0 ≡ turned_on k s.ram [] 0)
turn_leaves i n s u all t =
    let stay = others_stay s.guests i t.before t.after s.ram u.ram all t.here t.turn.same t.turn.seated t.turn.within in (
      subst (λ (gs : List Seat). AllSeated gs u.ram) (sym t.others) stay.0,
      λ j k ne there. ap (λ (g : Guested). record { guest = g; tally = k.tally; marks = []; exceptions = 0 }) (stay.1 j k ne there),
    )

own_steps : (j i n more : ℕ) → i ≡ j → n + more ≡ (cond (i == j) n 0) + more
own_steps j i n more e = grind (arith, nat_tests)

no_steps : (j i n more : ℕ) → i ≢ j → more ≡ (cond (i == j) n 0) + more
no_steps j i n more ne = grind (arith, nat_tests)

-- the guest that takes a turn
own_taken : (i n more : ℕ) (s u t : Stage) (turn : TakesTurn i n s u) → HasTaken i more turn.after u t → HasTaken i (n + more) turn.before s t
own_taken i n more s u t turn later =
    let g = turn.before in
    let h = turn.after in record {
      now = later.now;
      here = later.here;
      marks = turn.turn.marks ++ later.marks;
      exceptions = turn.turn.left_times + later.exceptions;
      turned = turned_add g.script n more g h later.now s.ram u.ram t.ram turn.turn.marks later.marks turn.turn.left_times later.exceptions
          turn.turn.turned (later.turned ∙ ap (λ (script : Entries). turn_of script more (turned_on h u.ram [] 0)) turn.turn.same.script);
    }

-- a guest at a place goes on from there
reached_on : (i n : ℕ) (s u t : Stage) → AllSeated s.guests s.ram → TakesTurn i n s u → (j more : ℕ)
    → ((h : Seat) → slice_get u.guests j ≡ Some h → HasTaken j more h u t) → (g : Seat) → slice_get s.guests j ≡ Some g
    → HasTaken j ((cond (i == j) n 0) + more) g s t
reached_on i n s u t all turn j more later g here = elim (cases_eq i j) [
  | inl is ↦
      let same : turn.before ≡ g = same_Some turn.before g (sym turn.here ∙ ap (λ (k : ℕ). slice_get s.guests k) is ∙ here) in
      let now : slice_get u.guests i ≡ Some turn.after =
      ap (λ (gs : List Seat). slice_get gs i) turn.others ∙ set_here s.guests i turn.before turn.after turn.here in
      let own : (h : Seat) → slice_get u.guests i ≡ Some h → HasTaken i more h u t =
      subst (λ (k : ℕ). (h : Seat) → slice_get u.guests k ≡ Some h → HasTaken k more h u t) (sym is) later in
      subst (λ (k : ℕ). HasTaken j k g s t) (own_steps j i n more is) (
      subst (λ (k : ℕ). HasTaken k (n + more) g s t) is (
      subst (λ (h : Seat). HasTaken i (n + more) h s t) same (own_taken i n more s u t turn (own turn.after now))))
  | inr ne ↦
      let now : slice_get u.guests j ≡ Some g =
      ap (λ (gs : List Seat). slice_get gs j) turn.others ∙ set_there s.guests i j turn.after g (λ e. ne (sym e)) here in
      let rest = later g now in
      subst (λ (k : ℕ). HasTaken j k g s t) (no_steps j i n more ne) (record {
        now = rest.now;
        here = rest.here;
        marks = rest.marks;
        exceptions = rest.exceptions;
        turned = rest.turned ∙ ap (turn_of g.script more) ((turn_leaves i n s u all turn).1 j g (λ e. ne (sym e)) here);
      })
]

pub turns_are_independent : TurnsAreIndependent
turns_are_independent [] s t all same =
    subst (λ (r : Stage). AllSeated r.guests r.ram × ((j : ℕ) (g : Seat) → slice_get s.guests j ≡ Some g → HasTaken j 0 g s r)) same (
      all,
      λ j g here. record {
        now = g;
        here = here;
        marks = [];
        exceptions = 0;
        turned = sym (nothing_turned g.script (turned_on g s.ram [] 0));
      },
    )
turns_are_independent (turn ∷ turns) s t all (u, taken, rest) =
    let later = turns_are_independent turns u t (turn_leaves turn.0 turn.1 s u all taken).0 rest in
    (later.0, λ j g here. reached_on turn.0 turn.1 s u t all taken j (steps_for j turns) (later.1 j) g here)

pub prepared_guests_run_alone : PreparedGuestsRunAlone
prepared_guests_run_alone turns s t all taken j g here opening size is =
    let n = steps_for j turns in
    let own = (turns_are_independent turns s t all taken).1 j g here in
    let whole = own.turned ∙ ap (turn_of g.script n) is in (
      own.now,
      own.here,
      record {
        machine = ap (λ (u : Turned). u.guest.machine) whole ∙ guests_run_alone opening g.script size n;
        tally = ap (λ (u : Turned). u.tally) whole;
      },
    )
