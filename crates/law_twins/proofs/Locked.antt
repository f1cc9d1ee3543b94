-- Operands that are checked for writing before they are read, in places that are further up in the first space.
use Rattle.std.specs.Prelude.{refl, ℕ, ◌≡◌, ◌+◌, ◌-◌, ◌*◌, ◌^◌, List, [], ◌∷◌, ◌++◌, map, Result}
use Rattle.std.proofs.Common.{ap, sym, subst, ◌∙◌}
use Rattle.std.proofs.lemmas.List.{map-append}
use Rattle.mb_port.specs.Routine.{Routine, ◌>>=◌, sure}
use Rattle.mb_port.specs.Pieces.{split_of}
use Rattle.mb_port.specs.declared.types.Piece.{Piece}
use Rattle.mb_port.specs.declared.types.Place.{Place}
use Rattle.mb_port.specs.declared.types.Fault.{Fault}
use Rattle.law_routines.specs.Twin.{Twin, Results, returned}
use Rattle.law_routines.specs.Between.{Setting, raised, Equal, SameFault, IsRaised, between}
use Rattle.law_routines.proofs.Twinned.{twins_bind, twins_failing, twins_choose}
use Rattle.law_routines.proofs.Between.{twin_probe, twin_get, twin_put, twins_then_same}
use Rattle.mb_instr.specs.declared.size.Size.{Size}
use Rattle.mb_instr.specs.declared.size.Size.TheVariants.{Byte}
use Rattle.mb_instr.specs.declared.operand.Ea.{Ea}
use Rattle.mb_instr.specs.declared.operand.Ea.TheVariants.{Dn}
use Rattle.mb_instr.specs.declared.registers.Plain.{Plain}
use Rattle.mb_instr.specs.Sizes.{bytes_of}
use Rattle.mb_instr.specs.Registers.{register_of, data_register}
use Rattle.mb_instr.specs.FurtherWords.{swap_word}
use Rattle.mb_writes.specs.Writing.{part_of}
use Rattle.def_instructions.specs.Ends.{Rowed, Cut, OtherEnd, reading}
use Rattle.def_instructions.specs.Operands.{place_of}
use Rattle.mb_writes.specs.Checked.{probe_pieces_of, probe_operand_of, get_places_of, get_operand_of, put_places_of, put_operand_of}
use Rattle.def_instructions.specs.Locked.{test_and_set_of, tas_in_memory, tas_of}
use Rattle.def_instructions.specs.Locked.{cas_equal, cas_at, cas_of, cas2_equal, cas2_of}
use Rattle.law_twins.specs.Twins.{SameRead}
use Rattle.law_twins.proofs.Parts.{SameCut, SameRowed, Rows, Stages, then_twins, reading_twins}
use Rattle.law_twins.proofs.Operands.{resolve_twins}
use Rattle.law_twins.proofs.Modifying.{modifying_twins}

-- the same places, further up
abbrev AreRaised : Setting → List Place → List Place → Type 0
AreRaised x ps qs = ps ≡ map (raised x.base) qs

one_more : (x : Setting) (ps qs : List Place) (p q : Place) → AreRaised x ps qs → IsRaised x p q → AreRaised x (ps ++ p ∷ []) (qs ++ q ∷ [])
one_more x ps qs p q e h =
    ap (λ (l : List Place). l ++ p ∷ []) e ∙ ap (λ (r : Place). map (raised x.base) qs ++ r ∷ []) h ∙ sym (map-append (raised x.base) qs (q ∷ []))

-- ---- parts

pieces_twins : (x : Setting) (pieces : List Piece) (ps qs : List Place) → AreRaised x ps qs
    → Twin (between x) (Result (List Place) Fault) (Result (List Place) Fault) (Results (AreRaised x) (SameFault x))
    (probe_pieces_of x.here pieces ps) (probe_pieces_of x.there pieces qs)
pieces_twins x [] ps qs e = returned e
pieces_twins x (piece ∷ pieces) ps qs e =
    twins_bind (between x) (IsRaised x) (SameFault x) (AreRaised x) _ _ _ _ (twin_probe x piece)
    (λ p q h. pieces_twins x pieces (ps ++ p ∷ []) (qs ++ q ∷ []) (one_more x ps qs p q e h))

-- a check whose refusal is the instruction's end
probe_twins : (x : Setting) (at len : ℕ)
    → Twin (between x) (Result (List Place) (Cut OtherEnd)) (Result (List Place) (Cut OtherEnd)) (Results (AreRaised x) (SameCut x))
    (reading (probe_operand_of x.here at len)) (reading (probe_operand_of x.there at len))
probe_twins x at len =
    twins_failing (between x) (AreRaised x) (SameRead x) (SameCut x) _ _ _ _ (λ e f h. h)
    (twins_failing (between x) (AreRaised x) (SameFault x) (SameRead x) _ _ _ _ (λ e f h. record { fault = h; first = refl })
    (pieces_twins x (split_of at len) [] [] refl))

places_twins : (x : Setting) (qs : List Place) (value : ℕ) → Twin (between x) ℕ ℕ Equal (get_places_of (map (raised x.base) qs) value) (get_places_of qs value)
places_twins x [] value = returned refl
places_twins x (q ∷ qs) value =
    twins_then_same (between x) Equal _ _ _ _ (twin_get x q) (λ v. places_twins x qs (value * 256 ^ q.len + v))

put_places_twins : (x : Setting) (qs : List Place) (before_end value : ℕ)
    → Twin (between x) (Unit {0}) (Unit {0}) Equal (put_places_of (map (raised x.base) qs) before_end value) (put_places_of qs before_end value)
put_places_twins x [] before_end value = returned refl
put_places_twins x (q ∷ qs) before_end value =
    twins_then_same (between x) Equal _ _ _ _ (twin_put x q (part_of value before_end q.len))
    (λ done. put_places_twins x qs (before_end - q.len) value)

sure_twins : {A : Type 0} (x : Setting) {m n : Routine A} → Twin (between x) A A Equal m n → Stages x (sure m) (sure n)
sure_twins x w = twins_then_same (between x) (Results Equal (SameCut x)) _ _ _ _ w (λ a. returned refl)

get_twins : (x : Setting) (ps qs : List Place) → AreRaised x ps qs → Stages x (sure (get_operand_of ps)) (sure (get_operand_of qs))
get_twins x ps qs e =
    sure_twins x (subst (λ (l : List Place). Twin (between x) ℕ ℕ Equal (get_places_of l 0) (get_places_of qs 0)) (sym e) (places_twins x qs 0))

put_twins : (x : Setting) (ps qs : List Place) (len value : ℕ) → AreRaised x ps qs
    → Stages x (sure (put_operand_of ps len value)) (sure (put_operand_of qs len value))
put_twins x ps qs len value e =
    sure_twins x (subst (λ (l : List Place). Twin (between x) (Unit {0}) (Unit {0}) Equal (put_places_of l len value) (put_places_of qs len value)) (sym e)
    (put_places_twins x qs len value))

-- a locked operand, and what follows from its places
locked_twins : (x : Setting) (at len : ℕ) {f g : List Place → Routine Rowed}
    → ((ps qs : List Place) → AreRaised x ps qs → Rows x (f ps) (g qs))
    → Rows x (reading (probe_operand_of x.here at len) >>= f) (reading (probe_operand_of x.there at len) >>= g)
locked_twins x at len more = twins_bind (between x) (AreRaised x) (SameCut x) Equal _ _ _ _ (probe_twins x at len) more

-- ---- rows

tas_in_memory_twins : (x : Setting) (address : ℕ) (p : Plain) → Rows x (tas_in_memory address x.here p) (tas_in_memory address x.there p)
tas_in_memory_twins x address p = locked_twins x address 1 (λ ps qs e.
    then_twins x (SameCut x) (get_twins x ps qs e) (λ value.
    then_twins x (SameCut x) (put_twins x ps qs 1 (test_and_set_of value p.ccr).value e) (λ done. returned refl)))

pub tas_twins : (x : Setting) (ea : Ea) (word_at : ℕ) (p : Plain) → Rows x (tas_of ea word_at x.here p) (tas_of ea word_at x.there p)
tas_twins x (Dn n) word_at p = modifying_twins x test_and_set_of Byte (Dn n) word_at p
tas_twins x ea word_at p =
    then_twins x (SameCut x) (reading_twins x (resolve_twins x ea Byte word_at p))
    (λ to. tas_in_memory_twins x (place_of to.target) to.plain)

cas_at_twins : (x : Setting) (size : Size) (word address : ℕ) (p : Plain)
    → Rows x (cas_at size word address x.here p) (cas_at size word address x.there p)
cas_at_twins x size word address p = locked_twins x address (bytes_of size) (λ ps qs e.
    then_twins x (SameCut x) (get_twins x ps qs e) (λ value.
    twins_choose (between x) (SameRowed x) (cas_equal size word value p) _ _ _ _
    (then_twins x (SameCut x) (put_twins x ps qs (bytes_of size) (data_register p (swap_word word).update) e) (λ done. returned refl))
    (returned refl)))

pub cas_twins : (x : Setting) (size : Size) (ea : Ea) (word word_at : ℕ) (p : Plain)
    → Rows x (cas_of size ea word word_at x.here p) (cas_of size ea word word_at x.there p)
cas_twins x size ea word word_at p =
    then_twins x (SameCut x) (reading_twins x (resolve_twins x ea size word_at p))
    (λ to. cas_at_twins x size word (place_of to.target) to.plain)

pub cas2_twins : (x : Setting) (size : Size) (first second : ℕ) (p : Plain) → Rows x (cas2_of size first second x.here p) (cas2_of size first second x.there p)
cas2_twins x size first second p =
    let len = bytes_of size in
    locked_twins x (register_of p (swap_word first).pointer) len (λ ps qs e.
    locked_twins x (register_of p (swap_word second).pointer) len (λ ps' qs' e'.
    then_twins x (SameCut x) (get_twins x ps qs e) (λ one.
    then_twins x (SameCut x) (get_twins x ps' qs' e') (λ two.
    twins_choose (between x) (SameRowed x) (cas2_equal size first second one two p) _ _ _ _
    (then_twins x (SameCut x)
    (then_twins x (SameCut x) (put_twins x ps qs len (data_register p (swap_word first).update) e)
    (λ done. put_twins x ps' qs' len (data_register p (swap_word second).update) e'))
    (λ done. returned refl))
    (returned refl)))))
