-- Turns in an order: those of a guest are one.
use Rattle.std.proofs.Common.{◌≡◌, ◌∙◌, ℕ, zero, suc, ◌+◌, ◌-◌, ◌≤◌, ◌<◌, ◌==◌, min, List, [], ◌∷◌, ◌++◌, length, drop, get_or, map, refl, ap, sym, subst}
use Rattle.std.proofs.Common.{true, false, inl, inr, drop-cons, arith}
use Rattle.std.specs.Prelude.{All}
use Rattle.std.proofs.lemmas.Bool.{cases_Bool}
use Rattle.std.proofs.lemmas.Bool.Decides.{nat_tests}
use Rattle.mb_instr.specs.declared.registers.Plain.{Plain}
use Rattle.mb_script.specs.declared.turn.Turn.{Turn}
use Rattle.mb_model.specs.Keeping.{rule_k}
use Rattle.def_machine.specs.Machine.{Machine, run_of, takes_steps}
use Rattle.def_runs.specs.Native.{NativeState}
use Rattle.def_guests.specs.Turns.{Tally, Turned, turn_of}
use Rattle.def_guests.specs.Rounds.{Member, Hosted, left, left_of_all, opened, closed_by, whole_turn}
use Rattle.def_guests.proofs.ByRule.{turns_by_rule}
use Rattle.def_guests.proofs.TurnLaws.{halted_turn, nothing_turned, turns_add}
use Rattle.vm_slices.specs.Counting.{AreCounted, RisesBy}
use Rattle.vm_slices.specs.Members.{after_turn, machine_at_end, machines_of, tally_at_end}
use Rattle.vm_slices.specs.Orders.{after_order, each_given, given, in_order, machine_given, machines_given, steps_given}
use Rattle.vm_slices.specs.Places.{exceptions_at, marks_at, with_turn}
use Rattle.vm_slices.proofs.Places.{counted_on, nothing_counted}
use Rattle.vm_slices.proofs.Turns.{after_steps, steps_left}
use Rattle.def_guests.proofs.Rounds.{unmarked_turn, turn_steps, left_going, left_still}

-- ---- two turns of a guest are one

steps_add : (m : Member) (n k : ℕ) → after_steps (after_steps m n) k ≡ after_steps m (n + k)
steps_add m n k =
    unmarked_turn m.script k (turn_of m.script n (opened m)) m
    ∙ ap (λ (x : Turned). closed_by x m) (sym (turns_add m.script n k (opened m)))

-- what halts or is off takes no more
steps_stay : (m : Member) (n k : ℕ) → takes_steps (after_steps m n).guest.machine.state ≡ false → after_steps m (n + k) ≡ after_steps m n
steps_stay m n k still =
    ap (λ (t : Turned). closed_by t m) (turns_add m.script n k (opened m) ∙ halted_turn m.script k (turn_of m.script n (opened m)) still)

-- what goes on after steps went on before
going_before : (m : Member) (n : ℕ) → takes_steps (after_steps m n).guest.machine.state ≡ true → takes_steps m.guest.machine.state ≡ true
going_before m n on = elim (cases_Bool (takes_steps m.guest.machine.state)) [
  | inl going ↦ going
  | inr still ↦
      let same = ap (λ (t : Turned). takes_steps t.guest.machine.state) (halted_turn m.script n (opened m) still) in
      absurd (cc (sym still ∙ sym same ∙ on))
]

-- of which no more are taken than are left
steps_cut : (m : Member) (n k : ℕ) → n ≤ left m
    → after_steps (after_steps m n) (min k (left (after_steps m n))) ≡ after_steps m (min (n + k) (left m))
steps_cut m n k few =
    let less = steps_left m n few in
    steps_add m n (min k (left (after_steps m n)))
    ∙ elim (cases_Bool (takes_steps (after_steps m n).guest.machine.state)) [
      | inl on ↦
          let from = going_before m n on in
          let e = left_going m from in
          let f = left_going (after_steps m n) on in
          let s = turn_steps m.script n (opened m) on in
          ap (λ (i : ℕ). after_steps m i) (let same : n + min k (left (after_steps m n)) ≡ min (n + k) (left m) = omega arith in same)
      | inr off ↦
          let f = left_still (after_steps m n) off in
          let more = min (n + k) (left m) - n in
          ap (λ (i : ℕ). after_steps m i) (let same : n + min k (left (after_steps m n)) ≡ n = omega arith in same)
          ∙ sym (steps_stay m n more off)
          ∙ ap (λ (i : ℕ). after_steps m i) (let same : n + more ≡ min (n + k) (left m) = omega arith in same)
    ]

-- the turn of a round is one of so many steps
turn_is : (slice : ℕ) (m : Member) → after_turn slice m ≡ after_steps m (min slice (left m))
turn_is slice m = refl

turn_twice : (first more : ℕ) (m : Member) → after_turn more (after_turn first m) ≡ after_turn (first + more) m
turn_twice first more m =
    let n = min first (left m) in
    let few : n ≤ left m = omega arith in
    ap (after_turn more) (turn_is first m) ∙ turn_is more (after_steps m n) ∙ steps_cut m n more few
    ∙ ap (λ (i : ℕ). after_steps m i) (let same : min (n + more) (left m) ≡ min (first + more) (left m) = omega arith in same)
    ∙ sym (turn_is (first + more) m)

turn_none : (m : Member) → after_turn 0 m ≡ m
turn_none m =
    turn_is 0 m ∙ ap (λ (i : ℕ). after_steps m i) (let none : min 0 (left m) ≡ 0 = omega arith in none)
    ∙ ap (λ (t : Turned). closed_by t m) (nothing_turned m.script (opened m))

-- ---- what a guest comes to in the end

turn_whole : (n : ℕ) (m : Member) → left m ≤ n → after_turn n m ≡ closed_by (whole_turn m) m
turn_whole n m enough = turn_is n m ∙ ap (λ (i : ℕ). after_steps m i) (let same : min n (left m) ≡ left m = omega arith in same)

-- is what it came to before a turn;
whole_after : (n : ℕ) (m : Member) → closed_by (whole_turn (after_turn n m)) (after_turn n m) ≡ closed_by (whole_turn m) m
whole_after n m =
    let k = after_turn n m in
    sym (turn_whole (left k + left m) k (omega arith)) ∙ turn_twice n (left k + left m) m ∙ turn_whole (n + (left k + left m)) m (omega arith)

machine_whole : (m : Member) → (closed_by (whole_turn m) m).guest.machine ≡ machine_at_end m
machine_whole m = turns_by_rule m.script (left m) (opened m)

-- its machine is that of its own run of these steps
machine_so : (n : ℕ) (m : Member) → (after_turn n m).guest.machine ≡ run_of rule_k m.script (min n (left m)) m.guest.machine
machine_so n m = turns_by_rule m.script (min n (left m)) (opened m)

pub machine_ends : (n : ℕ) (m : Member) → machine_at_end (after_turn n m) ≡ machine_at_end m
machine_ends n m = sym (machine_whole (after_turn n m)) ∙ ap (λ (k : Member). k.guest.machine) (whole_after n m) ∙ machine_whole m

pub tally_ends : (n : ℕ) (m : Member) → tally_at_end (after_turn n m) ≡ tally_at_end m
tally_ends n m = ap (λ (k : Member). k.tally) (whole_after n m)

-- ---- all guests

pub as_many : (steps place : ℕ) (ms : List Member) → length (with_turn steps place ms) ≡ length ms
as_many steps place [] = refl
as_many steps zero (m ∷ ms) = refl
as_many steps (suc place) (m ∷ ms) = ap suc (as_many steps place ms)

none_given : (number : ℕ) (ms : List Member) → each_given [] number ms ≡ ms
none_given number [] = refl
none_given number (m ∷ ms) =
    ap (λ (k : Member). k ∷ each_given [] (suc number) ms) (turn_none m) ∙ ap (λ (ks : List Member). m ∷ ks) (none_given (suc number) ms)

other_number : (turn : Turn) (turns : List Turn) (number : ℕ) → (turn.guest == number) ≡ false
    → steps_given number (turn ∷ turns) ≡ steps_given number turns
other_number turn turns number other = rw other (let none : 0 + steps_given number turns ≡ steps_given number turns = omega arith in none)

own_number : (turn : Turn) (turns : List Turn) (number : ℕ) → (turn.guest == number) ≡ true
    → steps_given number (turn ∷ turns) ≡ turn.steps + steps_given number turns
own_number turn turns number own = rw own refl

differ : (a b : ℕ) → a < b → (a == b) ≡ false
differ a b less = grind (arith, nat_tests)

exceed : (a b : ℕ) → b < a → (a == b) ≡ false
exceed a b less = grind (arith, nat_tests)

agree : (a b : ℕ) → a ≡ b → (a == b) ≡ true
agree a b same = grind (arith, nat_tests)

-- the guests behind that of a turn
behind_given : (turn : Turn) (turns : List Turn) (number : ℕ) (ms : List Member) → turn.guest < number
    → each_given turns number ms ≡ each_given (turn ∷ turns) number ms
behind_given turn turns number [] less = refl
behind_given turn turns number (m ∷ ms) less =
    ap (λ (n : ℕ). after_turn n m ∷ each_given turns (suc number) ms) (sym (other_number turn turns number (differ turn.guest number less)))
    ∙ ap (λ (ks : List Member). after_turn (steps_given number (turn ∷ turns)) m ∷ ks) (behind_given turn turns (suc number) ms (omega arith))

first_given : (turn : Turn) (turns : List Turn) (number place : ℕ) (ms : List Member) → turn.guest ≡ number + place
    → each_given turns number (with_turn turn.steps place ms) ≡ each_given (turn ∷ turns) number ms
first_given turn turns number place [] is = refl
first_given turn turns number zero (m ∷ ms) is =
    ap (λ (k : Member). k ∷ each_given turns (suc number) ms)
    (turn_twice turn.steps (steps_given number turns) m
    ∙ ap (λ (n : ℕ). after_turn n m) (sym (own_number turn turns number (agree turn.guest number (omega arith)))))
    ∙ ap (λ (ks : List Member). after_turn (steps_given number (turn ∷ turns)) m ∷ ks) (behind_given turn turns (suc number) ms (omega arith))
first_given turn turns number (suc place) (m ∷ ms) is =
    ap (λ (n : ℕ). after_turn n m ∷ each_given turns (suc number) (with_turn turn.steps place ms))
    (sym (other_number turn turns number (exceed turn.guest number (omega arith))))
    ∙ ap (λ (ks : List Member). after_turn (steps_given number (turn ∷ turns)) m ∷ ks)
    (first_given turn turns (suc number) place ms (omega arith))

-- each turn is of a guest
abbrev Numbered : List Turn → Type 0
Numbered turns = All (λ (turn : Turn). 1 ≤ turn.guest) turns

pub order_given : (turns : List Turn) (h : Hosted) → Numbered turns → (in_order turns h).members ≡ each_given turns 1 h.members
unfolding in_order
order_given [] h all = sym (none_given 1 h.members)
order_given (turn ∷ turns) h all =
    let one : 1 ≤ turn.guest = all zero turn (omega arith) in
    order_given turns (given turn h) (λ k d less. all (suc k) d (omega arith))
    ∙ first_given turn turns 1 (turn.guest - 1) h.members (omega arith)

-- the machine of each is its own run
pub machines_so : (turns : List Turn) (number : ℕ) (ms : List Member) → machines_of (each_given turns number ms) ≡ machines_given turns number ms
machines_so turns number [] = refl
machines_so turns number (m ∷ ms) =
    ap (λ (x : Machine). x ∷ machines_of (each_given turns (suc number) ms)) (machine_so (steps_given number turns) m)
    ∙ ap (λ (xs : List Machine). machine_given turns number m ∷ xs) (machines_so turns (suc number) ms)

-- and each comes to the same end
pub machines_end : (turns : List Turn) (number : ℕ) (ms : List Member) → map machine_at_end (each_given turns number ms) ≡ map machine_at_end ms
machines_end turns number [] = refl
machines_end turns number (m ∷ ms) =
    ap (λ (x : Machine). x ∷ map machine_at_end (each_given turns (suc number) ms)) (machine_ends (steps_given number turns) m)
    ∙ ap (λ (xs : List Machine). machine_at_end m ∷ xs) (machines_end turns (suc number) ms)

pub tallies_end : (turns : List Turn) (number : ℕ) (ms : List Member) → map tally_at_end (each_given turns number ms) ≡ map tally_at_end ms
tallies_end turns number [] = refl
tallies_end turns number (m ∷ ms) =
    ap (λ (x : Tally). x ∷ map tally_at_end (each_given turns (suc number) ms)) (tally_ends (steps_given number turns) m)
    ∙ ap (λ (xs : List Tally). tally_at_end m ∷ xs) (tallies_end turns (suc number) ms)

-- ---- the turns so far

pub record SoFar (turns later : List Turn) (first now : List Member) (old new : NativeState) : Type 0 where
  pub marks : List Plain
  pub left_times : ℕ
  pub order : in_order later (record { members = now; marks = marks; exceptions = left_times }) ≡ after_order turns first
  pub counts : AreCounted first now marks left_times old new
  pub rises : RisesBy (left_of_all first) (left_of_all now) old new

pub none_so_far : (turns : List Turn) (ms : List Member) (native : NativeState) → SoFar turns turns ms ms native native
none_so_far turns ms native = record { marks = []; left_times = 0; order = refl; counts = nothing_counted ms native; rises = (omega arith, omega arith) }

pub one_turn : (turns later : List Turn) (turn : Turn) (first now next : List Member) (o p q : NativeState)
    → next ≡ with_turn turn.steps (turn.guest - 1) now → SoFar turns (turn ∷ later) first now o p
    → AreCounted now next (marks_at turn.steps (turn.guest - 1) now) (exceptions_at turn.steps (turn.guest - 1) now) p q
    → RisesBy (left_of_all now) (left_of_all next) p q
    → SoFar turns later first next o q
unfolding in_order
one_turn turns later turn first now next o p q is far counts rises =
    let own = marks_at turn.steps (turn.guest - 1) now in
    let marks = far.marks ++ own in
    let more = exceptions_at turn.steps (turn.guest - 1) now in
    let left_times = far.left_times + more in
    let a = far.rises.0 in let b = rises.0 in let c = far.rises.1 in let d = rises.1 in
    record {
      marks = marks;
      left_times = left_times;
      order = ap (λ (ms : List Member). in_order later (record { members = ms; marks = marks; exceptions = left_times })) is ∙ far.order;
      counts = counted_on first now next far.marks own far.left_times more o p q far.counts counts;
      rises = (omega arith, omega arith);
    }

-- the turn at a place
pub next_turn : (turns : List Turn) (i : ℕ) (d : Turn) (first now next : List Member) (o p q : NativeState) → i < length turns
    → SoFar turns (drop i turns) first now o p → next ≡ with_turn (get_or turns i d).steps ((get_or turns i d).guest - 1) now
    → AreCounted now next (marks_at (get_or turns i d).steps ((get_or turns i d).guest - 1) now)
    (exceptions_at (get_or turns i d).steps ((get_or turns i d).guest - 1) now) p q → RisesBy (left_of_all now) (left_of_all next) p q
    → SoFar turns (drop (i + 1) turns) first next o q
next_turn turns i d first now next o p q less far is counts rises =
    let turn = get_or turns i d in
    let here : drop i turns ≡ turn ∷ drop (suc i) turns = drop-cons turns i d less in
    let more : suc i ≡ i + 1 = omega arith in
    subst (λ (n : ℕ). SoFar turns (drop n turns) first next o q) more
    (one_turn turns (drop (suc i) turns) turn first now next o p q is
    (subst (λ (ts : List Turn). SoFar turns ts first now o p) here far) counts rises)

pub order_ends : (turns : List Turn) (first now : List Member) (o p : NativeState) → SoFar turns [] first now o p
    → (now ≡ (after_order turns first).members) × AreCounted first now (after_order turns first).marks (after_order turns first).exceptions o p
unfolding in_order
order_ends turns first now o p far = (
  ap (λ (x : Hosted). x.members) far.order,
  subst (λ (x : Hosted). AreCounted first now x.marks x.exceptions o p) far.order far.counts,
)
