-- Turns, one after the other.
use Rattle.std.proofs.Common.{◌≡◌, ◌∙◌, ℕ, zero, suc, ◌+◌, List, refl, ap, sym, true, inl, inr, arith, append_assoc}
use Rattle.std.proofs.lemmas.Bool.{cases_Bool}
use Rattle.std.proofs.lemmas.List.{append-nil}
use Rattle.mb_instr.specs.declared.registers.Plain.{Plain}
use Rattle.def_machine.specs.Machine.{Entries, takes_steps}
use Rattle.def_guests.specs.Turns.{Turned, marks_of, exceptions_of, tallied, with_refills, class_of_step, refills_of_step, guest_stepped, advanced, afresh}
use Rattle.def_guests.specs.Turns.{turn_of}
use Rattle.def_guests.specs.Laws.{HaltedTurnsStay, TurnsAdd, MarksStayBefore, with_before}

-- a turn that begins halted or off changes nothing
pub halted_turn : HaltedTurnsStay
unfolding turn_of
halted_turn script zero t h = refl
halted_turn script (suc n) t h = rw h refl

pub going_turn : (script : Entries) (n : ℕ) (t : Turned) → takes_steps t.guest.machine.state ≡ true
    → turn_of script (suc n) t ≡ turn_of script n (advanced script t)
unfolding turn_of
going_turn script n t h = rw h refl

pub nothing_turned : (script : Entries) (t : Turned) → turn_of script zero t ≡ t
unfolding turn_of
nothing_turned script t = refl

-- a turn of so many steps, and then of so many more
pub turns_add : TurnsAdd
turns_add script zero m t = ap (λ (k : ℕ). turn_of script k t) (let e : zero + m ≡ m = omega arith in e) ∙ ap (turn_of script m) (sym (nothing_turned script t))
turns_add script (suc n) m t =
    ap (λ (k : ℕ). turn_of script k t) (let e : suc n + m ≡ suc (n + m) = omega arith in e)
    ∙ elim (cases_Bool (takes_steps t.guest.machine.state)) [
      | inl going ↦
          going_turn script (n + m) t going ∙ turns_add script n m (advanced script t)
          ∙ ap (turn_of script m) (sym (going_turn script n t going))
      | inr still ↦
          halted_turn script (suc (n + m)) t still ∙ sym (halted_turn script m t still)
          ∙ ap (turn_of script m) (sym (halted_turn script (suc n) t still))
    ]

-- marks and exceptions before a turn stay before its own
advanced_behind : (script : Entries) (front : List Plain) (e : ℕ) (t : Turned)
    → advanced script (with_before front e t) ≡ with_before front e (advanced script t)
advanced_behind script front e t =
    let class = class_of_step script t.guest in
    let refills = refills_of_step script t.guest in
    let more = exceptions_of class refills in
    let of : List Plain → ℕ → Turned = λ marks exceptions. record {
      guest = guest_stepped script t.guest;
      tally = with_refills class refills (tallied class t.tally);
      marks = marks;
      exceptions = exceptions;
    } in
    ap (λ (marks : List Plain). of marks (e + t.exceptions + more))
    (append_assoc front t.marks (marks_of class t.guest.machine.cpu (guest_stepped script t.guest).machine.cpu))
    ∙ ap (of (with_before front e (advanced script t)).marks) (let z : e + t.exceptions + more ≡ e + (t.exceptions + more) = omega arith in z)

-- a turn that begins afresh, behind what stood there
pub afresh_before : (t : Turned) → with_before t.marks t.exceptions (afresh t) ≡ t
afresh_before t =
    let of : List Plain → ℕ → Turned = λ marks exceptions. record t { marks = marks; exceptions = exceptions } in
    ap (λ (marks : List Plain). of marks (t.exceptions + 0)) (append-nil t.marks)
    ∙ ap (of t.marks) (let z : t.exceptions + 0 ≡ t.exceptions = omega arith in z)

pub marks_stay_before : MarksStayBefore
marks_stay_before script zero front e t =
    nothing_turned script (with_before front e t) ∙ ap (with_before front e) (sym (nothing_turned script t))
marks_stay_before script (suc n) front e t = elim (cases_Bool (takes_steps t.guest.machine.state)) [
  | inl going ↦
      going_turn script n (with_before front e t) going ∙ ap (turn_of script n) (advanced_behind script front e t)
      ∙ marks_stay_before script n front e (advanced script t) ∙ ap (with_before front e) (sym (going_turn script n t going))
  | inr still ↦
      halted_turn script (suc n) (with_before front e t) still ∙ ap (with_before front e) (sym (halted_turn script (suc n) t still))
]
