-- What the end of a held guest's attempt has: which vectors, and which pieces.
use Rattle.std.proofs.Common.{◌≡◌, ◌⊎◌, ℕ, ◌<◌, ◌≤◌, ◌==◌, ◌||◌, Bool, true, false, List, [], ◌∷◌, length, Ok, Err, arith, refl, sym, subst, inl, inr}
use Rattle.std.proofs.lemmas.Bool.Decides.{nat_tests}
use Rattle.mb_port.specs.declared.types.Space.{Space}
use Rattle.mb_instr.specs.declared.registers.Plain.{Plain}
use Rattle.mb_instr.specs.declared.vectors.TheConstants.{ACCESS_ERROR}
use Rattle.mb_frames.specs.declared.pend.Pend.{Pend}
use Rattle.mb_writes.specs.declared.transfers.Movem.{Movem}
use Rattle.mb_writes.specs.declared.ends.Ended.{Ended}
use Rattle.mb_writes.specs.declared.ends.Ended.TheVariants as ended
use Rattle.def_instructions.specs.Ends.{OtherEnd, Performed, closed}
use Rattle.law_twins.specs.Twins.{IsTrap, IsRefusal, SameEnd}
use Rattle.law_tells.specs.Left.{AreOwn as ArePieces, IsRest}
use Rattle.mb_instr.specs.Operands.{more}
use Rattle.def_runs.specs.Telling.{AreOwn}
use Rattle.def_guests.specs.Guests.{Guest}
use Rattle.def_guests.specs.Exits.{is_refusal}
use Rattle.law_held.specs.Denied.{HasNone, AttemptGoesOn, IsAllowed, IsDenied}
use Rattle.law_mirror.specs.Related.{Site, setting}

-- the pieces that a refused write names, at most three, and the longs of a refused line
abbrev pub IsUsual : Ended → Type 0
IsUsual (ended.Trap vector) = (vector < 256) × ((vector == ACCESS_ERROR) ≡ false) × (is_refusal vector ≡ false)
IsUsual (ended.Refused vector) = (vector < 256) × ((vector == ACCESS_ERROR) ≡ false) × (is_refusal vector ≡ true)
IsUsual (ended.WriteFault f) = (length f.rest.items ≤ 3) × AreOwn f.rest.items
IsUsual (ended.LineFault fault longs) = length longs ≡ 4
IsUsual _ = Unit {0}

-- ---- vectors

abbrev IsUsualTrap : ℕ → Type 0
IsUsualTrap vector = (vector < 256) × ((vector == ACCESS_ERROR) ≡ false) × (is_refusal vector ≡ false)

above : (vector : ℕ) → 32 ≤ vector → vector < 48 → IsUsualTrap vector
above vector h k = (
  omega arith,
  not_two vector h,
  no_refusal (vector == 3) (vector == 4) (vector == 8) (vector == 10) (vector == 11)
      (not_three vector h) (not_four vector h) (not_eight vector h) (not_ten vector h) (not_eleven vector h),
)
  where
    not_two : (v : ℕ) → 32 ≤ v → (v == 2) ≡ false
    not_two v h = grind (arith, nat_tests)

    not_three : (v : ℕ) → 32 ≤ v → (v == 3) ≡ false
    not_three v h = grind (arith, nat_tests)

    not_four : (v : ℕ) → 32 ≤ v → (v == 4) ≡ false
    not_four v h = grind (arith, nat_tests)

    not_eight : (v : ℕ) → 32 ≤ v → (v == 8) ≡ false
    not_eight v h = grind (arith, nat_tests)

    not_ten : (v : ℕ) → 32 ≤ v → (v == 10) ≡ false
    not_ten v h = grind (arith, nat_tests)

    not_eleven : (v : ℕ) → 32 ≤ v → (v == 11) ≡ false
    not_eleven v h = grind (arith, nat_tests)

    no_refusal : (a b c d e : Bool) → a ≡ false → b ≡ false → c ≡ false → d ≡ false → e ≡ false → (a || b || c || d || e) ≡ false
    no_refusal a b c d e ha hb hc hd he = rw ha (rw hb (rw hc (rw hd he)))

usual_trap : (vector : ℕ) → IsTrap vector → IsUsualTrap vector
usual_trap vector (inl e) = subst IsUsualTrap (sym e) (omega arith, refl, refl)
usual_trap vector (inr (inl e)) = subst IsUsualTrap (sym e) (omega arith, refl, refl)
usual_trap vector (inr (inr (inl e))) = subst IsUsualTrap (sym e) (omega arith, refl, refl)
usual_trap vector (inr (inr (inr (h, k)))) = above vector h k

abbrev IsUsualRefusal : ℕ → Type 0
IsUsualRefusal vector = (vector < 256) × ((vector == ACCESS_ERROR) ≡ false) × (is_refusal vector ≡ true)

usual_refusal : (vector : ℕ) → IsRefusal vector → IsUsualRefusal vector
usual_refusal vector (inl e) = subst IsUsualRefusal (sym e) (omega arith, refl, refl)
usual_refusal vector (inr (inl e)) = subst IsUsualRefusal (sym e) (omega arith, refl, refl)
usual_refusal vector (inr (inr (inl e))) = subst IsUsualRefusal (sym e) (omega arith, refl, refl)
usual_refusal vector (inr (inr (inr (inl e)))) = subst IsUsualRefusal (sym e) (omega arith, refl, refl)
usual_refusal vector (inr (inr (inr (inr e)))) = subst IsUsualRefusal (sym e) (omega arith, refl, refl)

-- ---- pieces

own_pieces : (items : List Pend) → ArePieces items → AreOwn items
own_pieces [] own = tt
own_pieces (p ∷ ps) (own, more) = (record { piece = own.placed.0; value = own.value }, own_pieces ps more)

pieces_left : (items : List Pend) → IsRest items → (length items ≤ 3) × AreOwn items
pieces_left items rest = (rest.few, own_pieces items rest.own)

no_pieces : (items : List Pend) → items ≡ [] → (length items ≤ 3) × AreOwn items
no_pieces items e = subst (λ (ps : List Pend). (length ps ≤ 3) × AreOwn ps) (sym e) (omega arith, tt)

-- ---- ends

-- by the same end on the board, and by what is left of it
by_end : (x : Site) (space : Space) (moves : Movem → Type 0) (begun now : Guest) (there end : Ended) (after : Plain) (whole : Performed × Guest)
    → SameEnd (setting x) there end → HasNone end ⊎ AttemptGoesOn space moves begun now end after whole → IsUsual end
by_end x space moves begun now there (ended.Done f) after whole same o = tt
by_end x space moves begun now (ended.Trap v) (ended.Trap w) after whole same o = usual_trap w (subst IsTrap same.0 same.1)
by_end x space moves begun now (ended.Refused v) (ended.Refused w) after whole same o = usual_refusal w (subst IsRefusal same.1 same.2)
by_end x space moves begun now there (ended.ReadFault f) after whole same o = tt
by_end x space moves begun now there (ended.WriteFault f) after whole same (inl none) = absurd none
by_end x space moves begun now there (ended.WriteFault f) after whole same (inr (inl (still, none))) = no_pieces f.rest.items none
by_end x space moves begun now there (ended.WriteFault f) after whole same (inr (inr (rest, done, is, goes))) = pieces_left f.rest.items rest
by_end x space moves begun now there (ended.LineFault fault line) after whole same (inl none) = absurd none
by_end x space moves begun now there (ended.LineFault fault line) after whole same (inr (four, done, is, goes)) = four
by_end x space moves begun now there (ended.Movem f) after whole same o = tt
by_end x space moves begun now _ _ after whole same o = absurd same

pub usual_end : (x : Site) (space : Space) (moves : Movem → Type 0) (g : Guest) (held own : Performed × Guest) (there : Ended)
    → SameEnd (setting x) there (closed held.0).0 → IsAllowed g held own ⊎ IsDenied space moves g held own → IsUsual (closed held.0).0
usual_end x space moves g (Ok done, now) own there same o = tt
usual_end x space moves g (Err stop, now) own there same (inl (is, none, left)) =
    by_end x space moves g now there stop.ended stop.plain own same (inl none)
usual_end x space moves g (Err stop, now) own there same (inr (other, is, goes)) =
    by_end x space moves g now there stop.ended stop.plain own same
    (inr (subst (λ (s : OtherEnd). AttemptGoesOn space moves g now s.ended s.plain own) (same_stop stop other is) goes))
  where
    same_stop : (a b : OtherEnd) → (let x : Performed = Err a in let y : Performed = Err b in x ≡ y) → b ≡ a
    same_stop a b e = cc
