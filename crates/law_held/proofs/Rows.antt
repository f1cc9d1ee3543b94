-- What is left of a fetch and of an instruction.
use Rattle.std.proofs.Common.{◌≡◌, ◌⊎◌, ℕ, zero, suc, ◌+◌, ◌%◌, ◌^◌, ◌<◌, ◌==◌, Bool, true, false, List, [], ◌∷◌, ◌++◌, arith, refl, ap, sym, ◌∙◌, subst, inl}
use Rattle.std.proofs.Common.{inr, Result, Ok, Err}
use Rattle.std.proofs.lemmas.Bool.Decides.{nat_tests}
use Rattle.mb_port.specs.Routine.{Call, Routine, run, Fetch, tried, other_fault, choose}
use Rattle.mb_port.specs.declared.types.Space.{Space}
use Rattle.law_routines.specs.Alike.{Met, ended as met_ended, stopped as met_stopped}
use Rattle.law_routines.specs.Between.{between}
use Rattle.law_routines.specs.Refusal.{Fact, Told, Tells}
use Rattle.law_routines.specs.Twin.{Twin, MeetsOn, Results}
use Rattle.law_routines.specs.Until.{Until, Ended, Stopped, finish, run_until, AlongUntil}
use Rattle.law_routines.proofs.Finished.{finish_until}
use Rattle.law_routines.proofs.Simulated.{simulates}
use Rattle.law_routines.proofs.Twinned.{twins_meet}
use Rattle.law_routines.proofs.TwinTrees.{met_meets_on}
use Rattle.mb_instr.specs.declared.instruction.Instr.{Instr}
use Rattle.mb_instr.specs.declared.instruction.Instr.TheVariants as instr
use Rattle.mb_instr.specs.declared.registers.Plain.{Plain}
use Rattle.mb_instr.specs.Codes.{IsInstr}
use Rattle.mb_ea.specs.declared.reading.ReadFault.{ReadFault}
use Rattle.mb_writes.specs.declared.ends.Ended.{Ended as End}
use Rattle.mb_writes.specs.declared.ends.Ended.TheVariants as ended
use Rattle.def_instructions.specs.Ends.{Performed}
use Rattle.def_instructions.specs.Attempt.{Unfound, NoInstruction, Unfetched, FoundInstr, by_decoded, found_of, fetched_of}
use Rattle.mb_instr.specs.declared.counts.TheConstants.{MOST_WORDS}
use Rattle.def_instructions.specs.Rows.{perform_of}
use Rattle.law_twins.specs.Twins.{SameEnd, SamePerformed, MayRefuse}
use Rattle.law_twins.proofs.Step.{SameFound, SameUnfound, fetched_twins, perform_twins}
use Rattle.law_tells.specs.Left.{LeftBy, completing_writes, completing_line, completing_transfers}
use Rattle.law_tells.specs.Laws.{moves, HasLongs}
use Rattle.law_tells.proofs.Step.{FoundLeft, fetched_tells, perform_tells}
use Rattle.mb_decode.specs.declared.front.Decoded.{Decoded}
use Rattle.mb_decode.specs.declared.front.Decoded.TheVariants as decoded
use Rattle.mb_decode.specs.Decodes.{decode_of}
use Rattle.mb_ea.specs.Reading.{refused_in}
use Rattle.mb_port.specs.declared.types.Fault.{Fault}
use Rattle.def_guests.specs.Guests.{Guest, allows_call}
use Rattle.law_held.specs.Lawful.{IsAttemptCall}
use Rattle.def_guests.specs.Held.{held_bus}
use Rattle.def_guests.specs.Bus.{guest_bus}
use Rattle.law_held.specs.Sound.{Sound, held_guard}
use Rattle.law_held.specs.Denied.{IsFound, FetchesGoOn, AttemptGoesOn, IsAllowed, IsDenied, IfRefused, LeavesRefused, RowsGoOn}
use Rattle.law_held.proofs.Again.{held_guards}
use Rattle.law_held.proofs.Clean.{faultless, R, held_itself, performed_clean}
use Rattle.law_held.proofs.Holding.{held_leaves}
use Rattle.law_held.proofs.Own.{Beside, held_alike, same_over, resumed}

-- ---- the board and the held guest

-- ---- the held guest and the guest

abbrev Allowed : Call → Guest → Bool
Allowed c g = allows_call c g.shadow

abbrev Calls : Space → ℕ → Call → Guest → Type 0
Calls space size c g = IsAttemptCall space 0 size c

abbrev pub Alone : {A : Type 0} → (A → A → Type 0) → Until Guest A → Type 0
Alone Rel (Ended a s) = Rel a a
Alone Rel (Stopped rest s) = Unit {0}

alone_by : {A : Type 0} (free : Bool) (space : Space) (size : ℕ) (Rel : A → A → Type 0) (u : Until Guest A)
    → MeetsOn (between (faultless free space)) (R size) Rel u u → Alone Rel u
alone_by free space size Rel (Ended a s) e = e.0
alone_by free space size Rel (Stopped rest s) e = tt

-- what is never denied, is its own twin with no fault
pub stands_alone : {A : Type 0} (free : Bool) (space : Space) (size : ℕ) (Rel : A → A → Type 0) (m : Routine A)
    → Twin (between (faultless free space)) A A Rel m m → (g : Guest) → Sound size g
    → AlongUntil (Calls space size) Allowed held_bus m g → Alone Rel (run_until Allowed held_bus m g)
stands_alone {A = A} free space size Rel m twins g s along =
    let k = between (faultless free space) in
    let u = run_until Allowed held_bus m g in
    alone_by free space size Rel u (met_meets_on k (R size) Rel u u
    (twins_meet k (R size) (Calls space size) Allowed Allowed held_bus held_bus (held_itself free space size) A A Rel m m twins g g (refl, s) along))

-- a routine that tells, by the held bus and by the guest's own
module _ {A E : Type 0} (space : Space) (size : ℕ) (g : Guest) (m : Routine (Result A E)) (fact : Fact Guest A E) (after : A → Guest → Type 0)
    (Rel : Result A E → Result A E → Type 0) where
  abbrev Held : Result A E × Guest
  Held = run held_bus m g

  abbrev Own : Result A E × Guest
  Own = run guest_bus m g

  -- where it was denied a call
  abbrev Denial : Type 1
  Denial = (rest : Routine (Result A E)) × (now : Guest) × (e : E) × (Held ≡ (Err e, now)) × (Own ≡ run guest_bus rest now) × fact rest now e × Sound size now

  abbrev After : Result A E → Guest → Type 0
  After (Ok a) t = after a t
  After (Err e) t = Unit {0}

  from_met : (u v : Until Guest (Result A E)) → Met (Beside size) u v → Told (λ (a : Guest) b. b ≡ a) held_bus fact after u → Alone Rel u
      → finish held_bus u ≡ Held → finish guest_bus v ≡ Own
      → ((Own ≡ Held) × Rel (Held.0) (Held.0) × After (Held.0) (Held.1) × Sound size (Held.1)) ⊎ Denial
  from_met u v (met_ended {a = Ok a} {s} {t} r) told clean e h =
      let both : Own ≡ Held = sym h ∙ ap (λ (k : Guest). (let q : Result A E × Guest = (Ok a, k) in q)) (sym r.0) ∙ e in
      inl (
        both,
        subst (λ (q : Result A E × Guest). Rel (q.0) (q.0)) e clean,
        subst (λ (q : Result A E × Guest). After (q.0) (q.1)) e told,
        subst (λ (q : Result A E × Guest). Sound size (q.1)) e r.1,
      )
  from_met u v (met_ended {a = Err y} {s} {t} r) told clean e h =
      let both : Own ≡ Held = sym h ∙ ap (λ (k : Guest). (let q : Result A E × Guest = (Err y, k) in q)) (sym r.0) ∙ e in
      inl (
        both,
        subst (λ (q : Result A E × Guest). Rel (q.0) (q.0)) e clean,
        subst (λ (q : Result A E × Guest). After (q.0) (q.1)) e tt,
        subst (λ (q : Result A E × Guest). Sound size (q.1)) e r.1,
      )
  from_met u v (met_stopped {rest} {s = now} {t = there} r) (y, last, told, run_is, same) clean e h = inr (
    rest,
    now,
    y,
    sym e ∙ run_is ∙ ap (λ (k : Guest). (let q : Result A E × Guest = (Err y, k) in q)) same,
    sym h ∙ ap (λ (k : Guest). run guest_bus rest k) (sym r.0),
    told,
    r.1,
  )

  pub goes_on_by : (free : Bool) (before : Guest → Type 0) → Tells (λ (a : Guest) b. b ≡ a) (Calls space size) Allowed held_bus before m fact after
      → Twin (between (faultless free space)) (Result A E) (Result A E) Rel m m → before g → Sound size g
      → ((Own ≡ Held) × Rel (Held.0) (Held.0) × After (Held.0) (Held.1) × Sound size (Held.1)) ⊎ Denial
  goes_on_by free before tells twins q s =
      let along = tells.lawfully g q in
      from_met (run_until Allowed held_bus m g) (run_until Allowed guest_bus m g) (simulates (held_alike space size) m g g (refl, s) along) (tells.told g q)
      (stands_alone free space size Rel m twins g s along) (finish_until Allowed held_bus m g) (finish_until Allowed guest_bus m g)

-- ---- a fetch leaves the guest as it is

module _ (space : Space) (size : ℕ) (g : Guest) (s : Sound size g) where
  abbrev Still : {A : Type 0} → Routine A → Type 0
  Still m = (run held_bus m g).1 ≡ g

  judged_still : (d : Decoded) (m : Routine FoundInstr) → Still m → Still (by_decoded d m)
  judged_still decoded.More m h = h
  judged_still (decoded.Whole i n) m h = refl
  judged_still decoded.Illegal m h = refl
  judged_still decoded.LineA m h = refl
  judged_still decoded.LineF m h = refl

  tried_still : (r : Result ℕ Unfound) (f : ℕ → Routine FoundInstr) → ((word : ℕ) → Still (f word)) → Still (tried r f)
  tried_still (Ok word) f h = h word
  tried_still (Err e) f h = refl

  found_still : (n at : ℕ) (words : List ℕ) → at % 2 ≡ 0 → at < 2 ^ 32 → Still (found_of n space at words)
  unfolding found_of
  found_still zero at words even lt = refl
  found_still (suc n) at words even lt =
      let q = held_bus (Fetch space at) g in
      let how : Fault → Unfound = λ fault. Unfetched (refused_in at fault) in
      let next : ℕ → Routine FoundInstr = λ word. by_decoded (decode_of (words ++ word ∷ [])) (found_of n space ((at + 2) % 2 ^ 32) (words ++ word ∷ [])) in
      let same : q.1 ≡ g = held_leaves size space (Fetch space at) g s (refl, lt, even) tt in
      subst (λ (h : Guest). (run held_bus (tried (other_fault how (q.0)) next) h).1 ≡ g) (sym same)
      (tried_still (other_fault how (q.0)) next (λ word.
      judged_still (decode_of (words ++ word ∷ [])) _ (found_still n ((at + 2) % 2 ^ 32) (words ++ word ∷ []) (omega arith) (omega arith))))

  chosen_still : (b : Bool) (m n : Routine FoundInstr) → (b ≡ true → Still m) → (b ≡ false → Still n) → Still (choose b m n)
  chosen_still true m n h k = h refl
  chosen_still false m n h k = k refl

  is_even : (n : ℕ) → (n % 2 == 1) ≡ false → n % 2 ≡ 0
  is_even n h = grind (arith, nat_tests)

  pub fetched_still : (pc : ℕ) → pc < 2 ^ 32 → Still (fetched_of space pc)
  fetched_still pc lt = chosen_still (pc % 2 == 1) _ _ (λ odd. refl) (λ even. found_still MOST_WORDS pc [] (is_even pc even) lt)

-- ---- the laws

denied_fetch : (space : Space) (size : ℕ) (g : Guest) (rest : Routine FoundInstr) (now : Guest) (e : Unfound) → FoundLeft (held_guard space size g) rest now e
    → (k : FoundInstr) → k ≡ Err e
    → (refused : ReadFault) × (k ≡ Err (Unfetched refused))
denied_fetch space size g rest now (Unfetched f) told k is = (f, is)
denied_fetch space size g rest now (NoInstruction vector) told k is = absurd told

found_is : (space : Space) (size : ℕ) (g h : Guest) (k : FoundInstr) → Results SameFound (SameUnfound (faultless true space)) k k
    → After space size g (fetched_of space 0) (λ (rest : Routine FoundInstr) (t : Guest) (e : Unfound). Unit {0}) (λ found (h : Guest). (Sound size h × (h ≡ g))
    × IsInstr found.0) (λ a b. Unit {0}) k h → IsFound k
found_is space size g h (Ok found) same after = after.1
found_is space size g h (Err (NoInstruction vector)) same after = tt
found_is space size g h (Err (Unfetched refused)) same after = let z : false ≡ true = same.fault.0 in let y : ⊥ = cc in y

pub fetches_go_on : FetchesGoOn
fetches_go_on space size pc g lt s =
    let guard = held_guard space size g in
    let Same : FoundInstr → FoundInstr → Type 0 = Results SameFound (SameUnfound (faultless true space)) in (
      fetched_still space size g s pc lt,
      elim (goes_on_by space size g (fetched_of space pc) (FoundLeft guard) (λ found h. (Sound size h × (h ≡ g)) × IsInstr found.0) Same
          true (λ h. Sound size h × (h ≡ g)) (fetched_tells guard space (held_guards space size g) pc lt) (fetched_twins (faultless true space) pc refl)
          (s, refl) s) [
            | inl (own, same, after, sound) ↦
                inl (own, found_is space size g ((run held_bus (fetched_of space pc) g).1) ((run held_bus (fetched_of space pc) g).0) same after)
            | inr (rest, now, e, is, own, told, sound) ↦
                inr (denied_fetch space size g rest now e told ((run held_bus (fetched_of space pc) g).0) (ap (λ (q : FoundInstr × Guest). q.0) is))
          ],
    )

row_goes_on : (space : Space) (size : ℕ) (i : Instr) (p : Plain) (begun now : Guest) (rest : Routine Performed) (end : End) (after : Plain) (whole : Performed
    × Guest)
    → Sound size now → whole ≡ run guest_bus rest now → LeftBy (held_guard space size begun) space p (moves i) rest now end after
    → AttemptGoesOn space (moves i) begun now end after whole
row_goes_on space size i p begun now rest (ended.ReadFault f) after whole s e (answer, again) = again.0
row_goes_on space size i p begun now rest (ended.WriteFault f) after whole s e (answer, inl (again, none)) = inl (again.0, none)
row_goes_on space size i p begun now rest (ended.WriteFault f) after whole s e (answer, inr (some, done, plain, same)) =
    inr (some, done, plain, e ∙ same_over guest_bus rest (completing_writes space f.first f.rest.items done) now same)
row_goes_on space size i p begun now rest (ended.LineFault fault line) after whole s e (answer, (four, done, plain, same)) =
    (four, done, plain, e ∙ same_over guest_bus rest (completing_line space fault.at line done) now same)
row_goes_on space size i p begun now rest (ended.Movem f) after whole s e (answer, (m, is, resumes)) =
    (m, is, e ∙ resumed space size begun now (completing_transfers m f.first f.done space after) rest s resumes)
row_goes_on space size i p begun now rest (ended.Done flow) after whole s e left = absurd left
row_goes_on space size i p begun now rest (ended.Trap vector) after whole s e left = absurd left
row_goes_on space size i p begun now rest (ended.Refused vector) after whole s e left = absurd left

-- an end that is the same as itself where no call and no instruction is refused
unrefused : (space : Space) (end : End) (P : Type 0) → SameEnd (faultless false space) end end → IfRefused end P
unrefused space (ended.Done flow) P e = tt
unrefused space (ended.Trap vector) P e = tt
unrefused space (ended.Refused vector) P e = absurd (let z : false ≡ true = e.0 in let y : ⊥ = cc in y)
unrefused space (ended.ReadFault f) P e = tt
unrefused space (ended.WriteFault f) P e = tt
unrefused space (ended.LineFault f line) P e = tt
unrefused space (ended.Movem f) P e = tt

performed_unrefused : (space : Space) (g now : Guest) (a : Performed) → SamePerformed (faultless false space) a a → LeavesRefused a g now
performed_unrefused space g now (Ok done) e = tt
performed_unrefused space g now (Err stop) e = unrefused space stop.ended (now ≡ g) e.0

abbrev RowOutcome : Space → ℕ → Instr → ℕ → Plain → Guest → Type 0
RowOutcome space size i at p g =
    let held = run held_bus (perform_of i at space p) g in let own = run guest_bus (perform_of i at space p) g in
    (IsAllowed g held own ⊎ IsDenied space (moves i) g held own) × Sound size held.1

rows_by : (space : Space) (size : ℕ) (i : Instr) (at : ℕ) (p : Plain) (g : Guest) → MayRefuse (faultless false space) i → IsInstr i → HasLongs p → Sound size g
    → RowOutcome space size i at p g
rows_by space size i at p g may is longs s =
    let guard = held_guard space size g in
    let m = perform_of i at space p in
    let own = run guest_bus m g in
    elim (goes_on_by space size g m (λ rest t stop. LeftBy guard space p (moves i) rest t stop.ended stop.plain) (λ done h. Sound size h)
    (SamePerformed (faultless false space))
    false (λ h. Sound size h × (h ≡ g)) (perform_tells guard space (held_guards space size g) i at p is longs)
    (perform_twins (faultless false space) i at p is may) (s, refl) s) [
      | inl (same, twin, after, sound) ↦ (
        inl (same, performed_clean false space ((run held_bus m g).0) twin, performed_unrefused space g ((run held_bus m g).1) ((run held_bus m g).0) twin),
        sound,
      )
      | inr (rest, now, stop, done, goes, told, sound) ↦ (
        inr (
          stop,
          ap (λ (q : Performed × Guest). q.0) done,
          subst (λ (h : Guest). AttemptGoesOn space (moves i) g h stop.ended stop.plain own) (sym (ap (λ (q : Performed × Guest). q.1) done))
              (row_goes_on space size i p g now rest stop.ended stop.plain own sound goes told),
        ),
        subst (Sound size) (sym (ap (λ (q : Performed × Guest). q.1) done)) sound,
      )
    ]

pub rows_go_on : RowsGoOn
rows_go_on space size (instr.Move i) at p g is longs s = rows_by space size (instr.Move i) at p g tt is longs s
rows_go_on space size (instr.Arith i) at p g is longs s = rows_by space size (instr.Arith i) at p g tt is longs s
rows_go_on space size (instr.Flow i) at p g is longs s = rows_by space size (instr.Flow i) at p g tt is longs s
rows_go_on space size (instr.System i) at p g is longs s = (inl (refl, tt, refl), s)
