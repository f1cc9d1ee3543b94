-- An attempt that begins again comes further.
use Rattle.std.proofs.Common.{◌≡◌, ◌∙◌, ℕ, ◌+◌, ◌^◌, ◌<◌, ◌≤◌, Bool, true, false, refl, ap, sym, subst, arith, Option, Some, None, Ok, Err, cond}
use Rattle.std.proofs.lemmas.Option.{same_Some}
use Rattle.mb_port.specs.Routine.{Call, Answer, Routine}
use Rattle.mb_port.specs.declared.types.Space.{Space}
use Rattle.law_routines.specs.Alike.{Alike}
use Rattle.law_routines.specs.Refusal.{IsFault, Told}
use Rattle.law_routines.specs.Until.{Until, Ended, Stopped, first_call, finish, run_until, AtRefused}
use Rattle.law_routines.proofs.Finished.{finish_until, stops_at_refused}
use Rattle.mb_instr.specs.declared.registers.Plain.{Plain}
use Rattle.mb_ea.specs.declared.reading.ReadFault.{ReadFault}
use Rattle.mb_model.specs.Keeping.{KeptLists, rule_k}
use Rattle.mb_model.specs.Pages.{page_of}
use Rattle.mb_writes.specs.declared.ends.Ended.{Ended as End}
use Rattle.mb_writes.specs.declared.ends.Ended.TheVariants as ended
use Rattle.def_instructions.specs.Ends.{OtherEnd, Performed}
use Rattle.def_instructions.specs.Attempt.{attempt_of}
use Rattle.law_twins.specs.Twins.{SamePerformed}
use Rattle.law_twins.proofs.Step.{attempt_twins}
use Rattle.law_tells.specs.Left.{Left, LeftBy}
use Rattle.law_tells.specs.Laws.{HasLongs, moves_fetched}
use Rattle.law_tells.proofs.Step.{attempt_tells}
use Rattle.def_machine.specs.declared.reference.Reference.{Reference}
use Rattle.def_machine.specs.World.{World}
use Rattle.def_machine.specs.Access.{translated}
use Rattle.def_machine.specs.Bus.{reference_of}
use Rattle.vm_shadow.specs.Shadows.{Shadowed, with_page_put, room_for}
use Rattle.vm_shadow.proofs.Held.{at_self}
use Rattle.def_guests.specs.Guests.{Guest, lets, allows, allows_any, allows_call, may}
use Rattle.def_guests.specs.Bus.{without_kept, is_writable, puts_entry, put_entry_of, guest_bus}
use Rattle.def_guests.specs.Held.{held_bus}
use Rattle.def_guests.specs.Refills.{told_by, denied_read, can_refill, after_access}
use Rattle.law_held.specs.Lawful.{IsAttemptCall}
use Rattle.law_held.specs.Sound.{Sound, held_guard}
use Rattle.law_held.specs.Denied.{HasNone, IsFaultless, by_held}
use Rattle.law_held.specs.Truth.{Fine}
use Rattle.law_held.specs.Refills.{IsAhead}
use Rattle.law_held.proofs.Again.{held_guards}
use Rattle.law_held.proofs.Ahead.{More, moved, Ahead, ahead_alike, AtStop, holds_at_stop}
use Rattle.law_held.proofs.Clean.{faultless, performed_clean}
use Rattle.law_held.proofs.Own.{guest_is_held}
use Rattle.law_held.proofs.Refills.{call_told, Refillable, refillable}
use Rattle.law_held.proofs.Rows.{Alone, stands_alone}
use Rattle.law_refills.proofs.Passing.{passed, first_passes, Leads, leads}

abbrev Calls : Space → ℕ → Call → Guest → Type 0
Calls space size c g = IsAttemptCall space 0 size c

-- how far the attempt of the held guest comes
abbrev pub reached : Space → Plain → Guest → ℕ
reached space p g = passed may held_bus (attempt_of space p) g

-- ---- the read that was denied

-- how an attempt ended that was denied a read
pub record Unread (q : Performed) (r : Reference) : Type 0 where
  pub stop : OtherEnd
  pub refused : ReadFault
  pub is : q ≡ Err stop
  pub ended : stop.ended ≡ ended.ReadFault refused
  pub told : told_by refused.fault ≡ r

none_read : {A : Type 0} (r : Reference) → (let o : Option Reference = None in o) ≡ Some r → A
none_read r e = absurd (let y : ⊥ = cc in y)

pub unread : (q : Performed) (r : Reference) → denied_read q ≡ Some r → Unread q r
unread (Ok done) r e = none_read r e
unread (Err stop) r e = by_end stop.ended refl e
  where
    by_end : (end : End) → stop.ended ≡ end → denied_read (Err (record { ended = end; plain = stop.plain })) ≡ Some r → Unread (Err stop) r
    by_end (ended.ReadFault refused) is e =
        record { stop = stop; refused = refused; is = refl; ended = is; told = same_Some (told_by refused.fault) r e }
    by_end (ended.Done flow) is e = none_read r e
    by_end (ended.Trap vector) is e = none_read r e
    by_end (ended.Refused vector) is e = none_read r e
    by_end (ended.WriteFault refused) is e = none_read r e
    by_end (ended.LineFault fault line) is e = none_read r e
    by_end (ended.Movem refused) is e = none_read r e

clean_reads_none : (q : Performed) (r : Reference) → IsFaultless q → Unread q r → ⊥
clean_reads_none q r clean u =
    let none : HasNone u.stop.ended = subst IsFaultless u.is clean in subst HasNone u.ended none

-- ---- a guest behind a refill

-- what a shadow allows, one with more entries allows too
more_allows : (shadow other : Shadowed) (o : Option Reference) → More shadow other → allows_any shadow o ≡ true → allows_any other o ≡ true
more_allows shadow other None more h = refl
more_allows shadow other (Some r) more h = by_entry (shadow.entries r.space (page_of r.at)) refl h
  where
    by_entry : (o : Option (ℕ × Bool)) → shadow.entries r.space (page_of r.at) ≡ o → lets o r.write ≡ true → allows other r ≡ true
    by_entry None e h = absurd (let z : false ≡ true = h in let y : ⊥ = cc in y)
    by_entry (Some entry) e h = ap (λ (o : Option (ℕ × Bool)). lets o r.write) (more r.space (page_of r.at) entry e) ∙ h

-- the read that was denied is allowed then
allowed_there : (g : Guest) (r : Reference) → allows g.shadow r ≡ false → Refillable g r → allows (after_access r g).shadow r ≡ true
allowed_there g r denied can =
    let after : World = (translated rule_k r g.world).1 in
    let page = page_of r.at in
    let writable = is_writable after r.space page in
    let new = with_page_put r.space page (page_of can.place) writable g.shadow in
    let puts : puts_entry after r g.shadow can.place ≡ true = rw (can.in_ram, can.whole, denied) refl in
    let shadow : (after_access r g).shadow ≡ new =
    ap (λ k. put_entry_of after r (without_kept k g.shadow) (translated rule_k r g.world).0) can.none
    ∙ ap (put_entry_of after r g.shadow) can.leads
    ∙ ap (λ (b : Bool). cond b new g.shadow) puts in
    ap (λ (s : Shadowed). allows s r) shadow
    ∙ ap (λ (b : Bool). lets (cond b (Some (page_of can.place, writable)) ((room_for r.space page g.shadow).entries r.space page)) r.write)
    (at_self r.space page)
    ∙ ap (λ (w : Bool). lets (Some (page_of can.place, writable)) w) can.reads

-- ---- the held runs of both

module _ (size : ℕ) (kept : KeptLists) (shadow begun : Shadowed) (more : More begun shadow) (space : Space) where
  abbrev Ahead_ : Guest → Guest → Type 0
  Ahead_ s t = Ahead size kept shadow begun s t

  wider : (c : Call) (s t : Guest) → Ahead_ s t → may c s ≡ true → may c t ≡ true
  wider c s t a h =
      let here : allows_call c begun ≡ true = ap (λ (b : Shadowed). allows_call c b) (sym a.same) ∙ h in
      ap (λ (x : Guest). allows_call c x.shadow) a.is ∙ more_allows begun shadow (reference_of c) more here

  there_held : (c : Call) (s t : Guest) → Ahead_ s t → IsAttemptCall space 0 size c → may c s ≡ true → guest_bus c t ≡ held_bus c t
  there_held c s t a l h = guest_is_held space size c t (subst (Sound size) (sym a.is) a.there) l (wider c s t a h)

  held_ahead : Alike Ahead_ (Calls space size) may (λ c (g : Guest). allows_call c begun) held_bus held_bus
  held_ahead =
      let alike = ahead_alike size kept shadow begun more space in record {
        leave = alike.leave;
        answer = λ c s t a l h. alike.answer c s t a l h ∙ ap (λ (q : Answer c × Guest). q.0) (there_held c s t a l h);
        kept = λ c s t a l h. subst (λ (q : Answer c × Guest). Ahead_ (held_bus c s).1 q.1) (there_held c s t a l h) (alike.kept c s t a l h);
      }

-- ---- further

module _ (space : Space) (size : ℕ) (p : Plain) (g h : Guest) (r : Reference) (fine : Fine size g) (ahead : IsAhead size g h)
    (can : can_refill g r ≡ true) (later : h ≡ after_access r g) (u : Unread (by_held space p g).0 r) where
  abbrev m : Routine Performed
  m = attempt_of space p

  abbrev Fact_ : Routine Performed → Guest → OtherEnd → Type 0
  Fact_ rest t stop =
      (before : Plain) × (record before { pc = p.pc } ≡ p) × Left (held_guard space size g) space before (moves_fetched held_bus space p.pc g) rest t stop

  abbrev Beside_ : Guest → Guest → Type 0
  Beside_ s t = Ahead size h.world.kept h.shadow g.shadow s t

  starts : Beside_ g h
  starts =
      let is : h ≡ moved h.world.kept h.shadow g = ap (λ (w : World). (let x : Guest = record { world = w; shadow = h.shadow } in x)) ahead.world in
      record { sound = fine.sound; there = subst (Sound size) is ahead.fine.sound; same = refl; is = is }

  alike_ : Alike Beside_ (Calls space size) may (λ c (x : Guest). allows_call c g.shadow) held_bus held_bus
  alike_ = held_ahead size h.world.kept h.shadow g.shadow ahead.more space

  wider_ : (c : Call) (s t : Guest) → Beside_ s t → may c s ≡ true → may c t ≡ true
  wider_ = wider size h.world.kept h.shadow g.shadow ahead.more space

  -- the refused call is the read, and the guest there is as it was
  read_left : (rest : Routine Performed) (now : Guest) (before : Plain) (stop : OtherEnd) (c : Call) → stop ≡ u.stop → first_call rest ≡ Some c
      → IsAttemptCall space 0 size c → may c now ≡ false → Left (held_guard space size g) space before (moves_fetched held_bus space p.pc g) rest now stop
      → (reference_of c ≡ Some r) × (now ≡ g)
  read_left rest now before stop c same first l denied left =
      let there : LeftBy (held_guard space size g) space before (moves_fetched held_bus space p.pc g) rest now (ended.ReadFault u.refused) stop.plain =
      subst (λ (e : End). LeftBy (held_guard space size g) space before (moves_fetched held_bus space p.pc g) rest now e stop.plain)
      (ap (λ (s : OtherEnd). s.ended) same ∙ u.ended) left in
      let ((d, other, is), (still, plain)) = there in
      let this : d ≡ c = same_Some d c (sym other ∙ first) in (
        call_told space size c now u.refused.fault l denied (subst (λ (x : Call). IsFault x ((held_bus x now).0) u.refused.fault) this is)
            ∙ ap (λ (x : Reference). (let o : Option Reference = Some x in o)) u.told,
        still,
      )

  by_stop : (w : Until Guest Performed) → Told (λ (a : Guest) b. b ≡ a) held_bus Fact_ (λ done t. Sound size t) w
      → Alone (SamePerformed (faultless true space)) w → AtRefused may w
      → AtStop w (λ (rest : Routine Performed) (t : Guest). (c : Call) → first_call rest ≡ Some c → IsAttemptCall space 0 size c)
      → finish held_bus w ≡ by_held space p g → Leads alike_ may wider_ m h (reached space p g) w → reached space p g + 1 ≤ reached space p h
  by_stop (Ended q t) told clean refused lawful e further =
      let faultless_q = performed_clean true space q clean in
      absurd (clean_reads_none (by_held space p g).0 r (subst IsFaultless (ap (λ (x : Performed × Guest). x.0) e) faultless_q) u)
  by_stop (Stopped rest now) (stop, last, (before, kept, left), runs, same) clean (c, first, denied) lawful e (v, beside, run_same, count) =
      let ends : (let q : Performed = Err stop in q) ≡ Err u.stop = ap (λ (x : Performed × Guest). x.0) (sym runs ∙ e) ∙ u.is in
      let is : stop ≡ u.stop = cc in
      let (reference, still) = read_left rest now before stop c is first (lawful c first) denied left in
      let not_here : allows g.shadow r ≡ false =
      sym (ap (allows_any g.shadow) reference) ∙ ap (λ (x : Guest). allows_call c x.shadow) (sym still) ∙ denied in
      let there : allows h.shadow r ≡ true = ap (λ (x : Guest). allows x.shadow r) later ∙ allowed_there g r not_here (refillable g r can) in
      let may_there : may c v ≡ true = ap (λ (x : Guest). allows_call c x.shadow) beside.is ∙ ap (allows_any h.shadow) reference ∙ there in
      let one = first_passes may held_bus rest c v first may_there in omega arith

  pub comes_further : HasLongs p → p.pc < 2 ^ 32 → reached space p g + 1 ≤ reached space p h
  comes_further longs lt =
      let tells = attempt_tells (held_guard space size g) space (held_guards space size g) p g longs lt in
      let along = tells.lawfully g ((fine.sound, refl), refl) in
      by_stop (run_until may held_bus m g) (tells.told g ((fine.sound, refl), refl))
      (stands_alone true space size (SamePerformed (faultless true space)) m (attempt_twins (faultless true space) p refl) g fine.sound along)
      (stops_at_refused may held_bus m g) (holds_at_stop (Calls space size) may held_bus m g along) (finish_until may held_bus m g)
      (leads alike_ may wider_ m g h starts along)
