-- A MOVEM some of whose transfers are done: what is left does what all do.
use Rattle.std.proofs.Common.{◌≡◌, ℕ, ◌+◌, ◌-◌, ◌*◌, ◌%◌, ◌^◌, ◌<◌, true, false, Result, Ok}
use Rattle.std.proofs.Common.{List, [], ◌∷◌, length, drop, ap, sym, ◌∙◌, arith}
use Rattle.std.specs.Prelude.{map}
use Rattle.std.proofs.lemmas.List.{drop-drop}
use Rattle.mb_port.specs.Routine.{Bus, Return, run, tried, other_fault}
use Rattle.mb_port.specs.declared.types.Space.{Space}
use Rattle.mb_instr.specs.declared.registers.Plain.{Plain}
use Rattle.mb_instr.specs.Sizes.{bytes_of}
use Rattle.mb_ea.specs.declared.reading.ReadFault.{ReadFault}
use Rattle.mb_ea.specs.Reading.{read_operand_of}
use Rattle.mb_writes.specs.declared.ends.MovemFault.{MovemFault}
use Rattle.mb_writes.specs.declared.ends.WriteFault.{WriteFault}
use Rattle.mb_writes.specs.declared.transfers.Movem.{Movem}
use Rattle.mb_writes.specs.declared.transfers.Transfer.{Transfer}
use Rattle.mb_writes.specs.Transfers.{set_bits, count_of, number_of, transfer_step, placed, transfers_of, transfer_at}
use Rattle.mb_writes.specs.Moving.{Halfway, refused_at, stored_of, store_all_of, loaded_of, load_all_of, stepped_of, transfer_of}
use Rattle.mb_writes.specs.Writing.{write_operand_of}
use Rattle.mb_writes.proofs.Bits.{length-transfers}

-- ---- which transfers are left

-- So many are done, and those of the mask's bits from `from` on are left.
pub record IsLeft (m : Movem) (ea done from : ℕ) : Type 0 where
  pub left : drop done (transfers_of m ea)
      ≡ placed (transfer_step m.mode (bytes_of m.size)) (transfer_at m ea done) (map (number_of m.mode) (set_bits m.mask from (16 - from)))
  pub count : done + length (set_bits m.mask from (16 - from)) ≡ count_of m.mask

pub all_left : (m : Movem) (ea : ℕ) → ea < 2 ^ 32 → IsLeft m ea 0 0
all_left m ea small =
    let step = transfer_step m.mode (bytes_of m.size) in
    let first : ea ≡ (ea + 0 * step) % 2 ^ 32 = omega arith in
    record {
      left = ap (λ (at : ℕ). placed step at (map (number_of m.mode) (set_bits m.mask 0 16))) first;
      count = omega arith;
    }

drop_first : {A : Type 0} (n : ℕ) (xs : List A) (y : A) (ys : List A) → drop n xs ≡ y ∷ ys → drop (n + 1) xs ≡ ys
drop_first n xs y ys h = sym (drop-drop 1 n xs) ∙ ap (drop 1) h

-- the first of those that are left is that of their lowest bit
pub record IsAtNext (m : Movem) (ea done bit : ℕ) : Type 0 where
  pub next : drop done (transfers_of m ea)
      ≡ record { register = number_of m.mode bit; at = transfer_at m ea done } ∷ drop (done + 1) (transfers_of m ea)
  pub left : IsLeft m ea (done + 1) (bit + 1)

pub next_of : (m : Movem) (ea done from bit : ℕ) → IsLeft m ea done from
    → set_bits m.mask from (16 - from) ≡ bit ∷ set_bits m.mask (bit + 1) (16 - (bit + 1)) → IsAtNext m ea done bit
next_of m ea done from bit h is =
    let step = transfer_step m.mode (bytes_of m.size) in
    let at = transfer_at m ea done in
    let t : Transfer = record { register = number_of m.mode bit; at = at } in
    let rest = placed step ((at + step) % 2 ^ 32) (map (number_of m.mode) (set_bits m.mask (bit + 1) (16 - (bit + 1)))) in
    let now : drop done (transfers_of m ea) ≡ t ∷ rest =
    h.left ∙ ap (λ (ks : List ℕ). placed step at (map (number_of m.mode) ks)) is in
    let later = drop_first done (transfers_of m ea) t rest now in
    let further : (at + step) % 2 ^ 32 ≡ transfer_at m ea (done + 1) = omega arith in
    let counted = ap (λ (ks : List ℕ). length ks) is in
    record {
      next = now ∙ ap (λ (ts : List Transfer). t ∷ ts) (sym later);
      left = record {
        left = later ∙ ap (λ (n : ℕ). placed step n (map (number_of m.mode) (set_bits m.mask (bit + 1) (16 - (bit + 1))))) further;
        count = omega (arith, counted, h.count);
      };
    }

-- where no bit is left, no transfer is
pub record IsAll (m : Movem) (ea done : ℕ) : Type 0 where
  pub none : drop done (transfers_of m ea) ≡ []
  pub count : length (transfers_of m ea) ≡ done

pub all_done : (m : Movem) (ea done from : ℕ) → IsLeft m ea done from → set_bits m.mask from (16 - from) ≡ [] → IsAll m ea done
all_done m ea done from h is =
    let step = transfer_step m.mode (bytes_of m.size) in
    let counted = ap (λ (ks : List ℕ). length ks) is in
    record {
      none = h.left ∙ ap (λ (ks : List ℕ). placed step (transfer_at m ea done) (map (number_of m.mode) ks)) is;
      count = length-transfers m ea ∙ omega (arith, counted, h.count);
    }

-- ---- loads

-- what a refused one leaves
abbrev unread : (first done : ℕ) → Plain → ReadFault → Halfway
unread first done p refused = record { fault = refused_at first done refused.fault; plain = p }

-- what becomes of a MOVEM whose transfers have answered so
abbrev ended : {S : Type 0} → Bus S → Movem → (ea : ℕ) → Result Plain Halfway × S → Result Plain Halfway × S
ended bus m ea x =
    run bus (tried x.0 (λ (moved : Plain). Return (Ok (stepped_of m.mode m.size ea (length (transfers_of m ea)) moved)))) x.1

-- the loads behind the first `done` do what all do
abbrev pub AreLoaded : {S : Type 0} → Bus S → Movem → (ea : ℕ) → Space → (done : ℕ) → (p q : Plain) → (s : S) → Type 0
AreLoaded bus m ea space done p q s =
    run bus (load_all_of m space ea done (drop done (transfers_of m ea)) q) s ≡ run bus (load_all_of m space ea 0 (transfers_of m ea) p) s

pub loaded_next : {S : Type 0} (bus : Bus S) (m : Movem) (ea : ℕ) (space : Space) (done bit n : ℕ) (p q r : Plain) (value : ℕ) (s : S)
    → IsAtNext m ea done bit → n ≡ number_of m.mode bit
    → run bus (read_operand_of space (transfer_at m ea done) (bytes_of m.size)) s ≡ (Ok value, s)
    → loaded_of m.mode m.size q n value ≡ r
    → AreLoaded bus m ea space done p q s → AreLoaded bus m ea space (done + 1) p r s
loaded_next {S = S} bus m ea space done bit n p q r value s at named read into told =
    let ts = drop (done + 1) (transfers_of m ea) in
    let loaded = ap (λ (k : ℕ). loaded_of m.mode m.size q k value) (sym named) ∙ into in
    ap (λ (x : Plain). run bus (load_all_of m space ea (done + 1) ts x) s) (sym loaded)
    ∙ sym (ap (λ (x : Result ℕ ReadFault × S). run bus (tried (other_fault (unread ea done q) x.0)
    (λ (k : ℕ). load_all_of m space ea (done + 1) ts (loaded_of m.mode m.size q (number_of m.mode bit) k))) x.1) read)
    ∙ sym (ap (λ (xs : List Transfer). run bus (load_all_of m space ea done xs q) s) at.next)
    ∙ told

-- what is left of a MOVEM does what all of it does
pub loads_left : {S : Type 0} (bus : Bus S) (m : Movem) (ea : ℕ) (space : Space) (done : ℕ) (p q : Plain) (s : S)
    → m.is_load ≡ true → AreLoaded bus m ea space done p q s
    → run bus (transfer_of m ea done space q) s ≡ run bus (transfer_of m ea 0 space p) s
loads_left bus m ea space done p q s load told =
    rw load (ap (ended bus m ea) told)

pub loads_done : {S : Type 0} (bus : Bus S) (m : Movem) (ea : ℕ) (space : Space) (done : ℕ) (p q r : Plain) (s : S)
    → m.is_load ≡ true → AreLoaded bus m ea space done p q s → IsAll m ea done → r ≡ stepped_of m.mode m.size ea done q
    → (Ok r, s) ≡ run bus (transfer_of m ea 0 space p) s
loads_done bus m ea space done p q r s load told all stepped =
    let none = ap (λ (ts : List Transfer). run bus (load_all_of m space ea done ts q) s) (sym all.none) ∙ told in
    let count = ap (λ (n : ℕ). stepped_of m.mode m.size ea n q) (sym all.count) in
    rw load (ap (λ (x : Plain). (Ok x, s)) (stepped ∙ count) ∙ ap (ended bus m ea) none)

-- ---- stores

-- what a refused one leaves
abbrev unwritten : (first done : ℕ) → WriteFault → MovemFault
unwritten first done refused = refused_at first done refused.fault

abbrev halted : Plain → MovemFault → Halfway
halted p fault = record { fault = fault; plain = p }

-- what becomes of a MOVEM whose stores have answered so
abbrev stored : {S : Type 0} → Bus S → Plain → Result (Unit {0}) MovemFault × S → Result Plain Halfway × S
stored bus p x = run bus (tried (other_fault (halted p) x.0) (λ _. Return (Ok p))) x.1

-- the stores behind the first `done` do, in the state now, what all did
abbrev pub AreStored : {S : Type 0} → Bus S → Movem → (ea : ℕ) → Space → (done : ℕ) → Plain → (s t : S) → Type 0
AreStored bus m ea space done p s t =
    run bus (store_all_of m space p ea done (drop done (transfers_of m ea))) t ≡ run bus (store_all_of m space p ea 0 (transfers_of m ea)) s

pub stored_next : {S : Type 0} (bus : Bus S) (m : Movem) (ea : ℕ) (space : Space) (done bit n : ℕ) (p : Plain) (value : ℕ) (s t u : S)
    → IsAtNext m ea done bit → n ≡ number_of m.mode bit → stored_of m.mode m.size p n ≡ value
    → run bus (write_operand_of space (transfer_at m ea done) (bytes_of m.size) value) t ≡ (Ok tt, u)
    → AreStored bus m ea space done p s t → AreStored bus m ea space (done + 1) p s u
stored_next {S = S} bus m ea space done bit n p value s t u at named is put told =
    let ts = drop (done + 1) (transfers_of m ea) in
    let number = ap (λ (k : ℕ). stored_of m.mode m.size p k) (sym named) ∙ is in
    let written = ap (λ (k : ℕ). run bus (write_operand_of space (transfer_at m ea done) (bytes_of m.size) k) t) number ∙ put in
    sym (ap (λ (x : Result (Unit {0}) WriteFault × S). run bus (tried (other_fault (unwritten ea done) x.0)
    (λ _. store_all_of m space p ea (done + 1) ts)) x.1) written)
    ∙ sym (ap (λ (xs : List Transfer). run bus (store_all_of m space p ea done xs) t) at.next)
    ∙ told

pub stores_left : {S : Type 0} (bus : Bus S) (m : Movem) (ea : ℕ) (space : Space) (done : ℕ) (p : Plain) (s t : S)
    → m.is_load ≡ false → AreStored bus m ea space done p s t
    → run bus (transfer_of m ea done space p) t ≡ run bus (transfer_of m ea 0 space p) s
stores_left {S = S} bus m ea space done p s t store told =
    rw store (ap (λ (x : Result (Unit {0}) MovemFault × S). ended bus m ea (stored bus p x)) told)

pub stores_done : {S : Type 0} (bus : Bus S) (m : Movem) (ea : ℕ) (space : Space) (done : ℕ) (p r : Plain) (s t : S)
    → m.is_load ≡ false → AreStored bus m ea space done p s t → IsAll m ea done → r ≡ stepped_of m.mode m.size ea done p
    → (Ok r, t) ≡ run bus (transfer_of m ea 0 space p) s
stores_done {S = S} bus m ea space done p r s t store told all stepped =
    let none = ap (λ (ts : List Transfer). run bus (store_all_of m space p ea done ts) t) (sym all.none) ∙ told in
    let count = ap (λ (n : ℕ). stepped_of m.mode m.size ea n p) (sym all.count) in
    rw store (ap (λ (x : Plain). (Ok x, t)) (stepped ∙ count) ∙ ap (λ (x : Result (Unit {0}) MovemFault × S). ended bus m ea (stored bus p x)) none)
