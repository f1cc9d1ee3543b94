-- Each call on the board and at the held guest.
use Rattle.std.proofs.Common.{◌≡◌, ℕ, ◌+◌, ◌*◌, ◌≤◌, ◌<◌, ◌%◌, ◌^◌, Bool, true, false, List, [], ◌∷◌, length, refl, ap, sym, ◌∙◌, subst, arith, inl, inr}
use Rattle.std.proofs.Common.{Option, Some, None, Result, Ok, Err, take, length-take}
use Rattle.std.specs.Prelude.{unwrap_or}
use Rattle.std.proofs.lemmas.Bool.{cases_Bool}
use Rattle.mb_port.specs.Routine.{Fetch, Read, Write, ReadLine, WriteLine, Probe, Get, Put, ReadMmu, SetMmu, FlushKept, Test, ResetDevices}
use Rattle.mb_port.specs.declared.types.Space.{Space}
use Rattle.mb_port.specs.declared.types.Space.TheVariants.{User}
use Rattle.mb_port.specs.declared.types.Fault.{Fault}
use Rattle.law_routines.specs.Between.{Equal, SameWord, SameFault, IsRaised}
use Rattle.law_routines.specs.Twin.{Results}
use Rattle.mb_model.specs.Keeping.{rule_a, rule_k}
use Rattle.mb_walk.specs.Memory.{number_at, with_number}
use Rattle.def_machine.specs.World.{World}
use Rattle.def_machine.specs.Places.{taken, stored, checked, line_at, with_longs, taken_line, stored_line}
use Rattle.def_machine.specs.Access.{translated}
use Rattle.def_machine.specs.Bus.{fault_of, place_at, Take, Store, read_by, written_by}
use Rattle.def_machine.proofs.BusLemmas.{taken_memory, stored_memory}
use Rattle.law_held.proofs.Allowed.{word_small, wrote_guest, line_guest, of_guest, held_is, held_not}
use Rattle.law_mirror.proofs.Mirrors.{guest_bytes, Allowed, allowed_access, refused_access, related_after, guest_in_ram, board_in_ram, same_number, written}
use Rattle.law_mirror.proofs.Mirrors.{wrote_board}
use Rattle.def_guests.specs.Guests.{Guest, ref, allows}
use Rattle.def_guests.specs.Held.{or_refused}
use Rattle.law_mirror.specs.Related.{Site, setting, Related}
use Rattle.law_mirror.specs.Laws.{MirrorsCalls}
use Rattle.law_held.proofs.Stages.{piece_fits, word_fits, line_fits, in_guest, reads_refused, writes_found, writes_refused, paired, line_read}
use Rattle.law_held.proofs.Stages.{line_written}
use Rattle.def_machine.proofs.Enters.{checked_is, reads_found}

-- ---- a piece and a line lie in one page

-- ---- stages

-- ---- what the sides read and write at related places

same_line : (x : Site) (b : World) (g : Guest) (p : ℕ) → Related x b g → p + 16 ≤ x.size → line_at b.ram (x.base + p) ≡ line_at g.world.ram p
same_line x b g p r h =
    let at : (k : ℕ) → k + 4 ≤ 16 → number_at b.ram (x.base + p + k) 4 ≡ number_at g.world.ram (p + k) 4 =
    λ k l. ap (λ q. number_at b.ram q 4) (let e : x.base + p + k ≡ x.base + (p + k) = omega arith in e) ∙ same_number x b g (p + k) 4 r (omega arith) in
    let e0 = same_number x b g p 4 r (omega arith) in
    let e4 = at 4 (omega arith) in let e8 = at 8 (omega arith) in let e12 = at 12 (omega arith) in
    rw (e0, e4, e8, e12) refl

abbrev pub line_board : Site → World → ℕ → List ℕ → World
line_board x b p line = record b { ram = with_longs b.ram (x.base + p) line }

written_line : (x : Site) (b : World) (g : Guest) (p : ℕ) (line : List ℕ) → Related x b g → p + 4 * length line ≤ x.size
    → Related x (line_board x b p line) (line_guest g p line)
written_line x b g p [] r h = r
written_line x b g p (v ∷ vs) r h =
    subst (λ q. Related x (record b { ram = with_longs (with_number b.ram (x.base + p) 4 v) q vs }) (line_guest (wrote_guest g p 4 v) (p + 4) vs))
    (let e : x.base + (p + 4) ≡ x.base + p + 4 = omega arith in e)
    (written_line x (wrote_board x b p 4 v) (wrote_guest g p 4 v) (p + 4) vs (written x b g p 4 v r (omega arith)) (omega arith))

abbrev pub TakesBoth : {A B : Type 0} → Site → (A → B → Type 0) → ℕ → Take A → Take B → Guest → World → ℕ → Type 0
TakesBoth {A} {B} x Rel len take read g w p =
    (a : A) × (b : B) × (take (place_at (x.base + p) len) w ≡ (Some a, w)) × (read (place_at p len) g.world ≡ (Some b, g.world)) × Rel a b

pub take_both : (x : Site) (g : Guest) (len : ℕ) (w : World) (p : ℕ) → Related x w g → p + len ≤ x.size → TakesBoth x Equal len taken taken g w p
take_both x g len w p r h = (
  number_at w.ram (x.base + p) len,
  number_at g.world.ram p len,
  taken_memory w (place_at (x.base + p) len) (board_in_ram x w g p len r h),
  taken_memory g.world (place_at p len) (guest_in_ram x w g p len r h),
  same_number x w g p len r h,
)

pub word_both : (x : Site) (g : Guest) (w : World) (p : ℕ) → Related x w g → p + 2 ≤ x.size → TakesBoth x SameWord 2 taken taken g w p
unfolding take_both
word_both x g w p r h =
    let (a, b, on_board, at_guest, same) = take_both x g 2 w p r h in
    (a, b, on_board, at_guest, (same, word_small g.world.ram p (guest_bytes x w g r)))

pub line_both : (x : Site) (g : Guest) (w : World) (p : ℕ) → Related x w g → p + 16 ≤ x.size → TakesBoth x Equal 16 taken_line taken_line g w p
line_both x g w p r h = (
  line_at w.ram (x.base + p),
  line_at g.world.ram p,
  line_read w (x.base + p) (board_in_ram x w g p 16 r h),
  line_read g.world p (guest_in_ram x w g p 16 r h),
  same_line x w g p r h,
)

pub check_both : (x : Site) (g : Guest) (len : ℕ) (w : World) (p : ℕ) → Related x w g → p + len ≤ x.size
    → TakesBoth x (IsRaised (setting x)) len checked checked g w p
check_both x g len w p r h = (
  place_at (x.base + p) len,
  place_at p len,
  checked_is w (x.base + p) len (board_in_ram x w g p len r h),
  checked_is g.world p len (guest_in_ram x w g p len r h),
  refl,
)

abbrev pub StoresBoth : Site → ℕ → Store → Guest → World → ℕ → Type 0
StoresBoth x len store g w p = (u : World) × (v : World) × (store (place_at (x.base + p) len) w ≡ Some u) × (store (place_at p len) g.world ≡ Some v)
    × Related x u (record g { world = v })

pub store_both : (x : Site) (g : Guest) (len value : ℕ) (w : World) (p : ℕ) → Related x w g → p + len ≤ x.size
    → StoresBoth x len (λ place. stored place value) g w p
store_both x g len value w p r h = (
  wrote_board x w p len value,
  (wrote_guest g p len value).world,
  stored_memory w (place_at (x.base + p) len) value (board_in_ram x w g p len r h),
  stored_memory g.world (place_at p len) value (guest_in_ram x w g p len r h),
  written x w g p len value r h,
)

pub line_store_both : (x : Site) (g : Guest) (line : List ℕ) (w : World) (p : ℕ) → Related x w g → p + 16 ≤ x.size
    → StoresBoth x 16 (λ place. stored_line place line) g w p
line_store_both x g line w p r h = (
  line_board x w p (take 4 line),
  (line_guest g p (take 4 line)).world,
  line_written w (x.base + p) line (board_in_ram x w g p 16 r h),
  line_written g.world p line (guest_in_ram x w g p 16 r h),
  written_line x w g p (take 4 line) r (omega (arith, length-take 4 line)),
)

-- ---- both sides

abbrev pub Both : {A B : Type 0} → Site → (A → B → Type 0) → Result A Fault × World → Result B Fault × Guest → Type 0
Both x Rel s k = Results Rel (SameFault (setting x)) s.0 k.0 × Related x s.1 k.1

both_answer : {A B : Type 0} (x : Site) (Rel : A → B → Type 0) (s : Result A Fault × World) (k : Result B Fault × Guest) (a : A) (b : B) (u : World) (v : Guest)
    → s ≡ (Ok a, u) → k ≡ (Ok b, v) → Rel a b → Related x u v → Both x Rel s k
both_answer {A} {B} x Rel s k a b u v e h rel r =
    let P : Result A Fault × World → Type 0 = λ s. Both x Rel s k in
    let Q : Result B Fault × Guest → Type 0 = λ k. Both x Rel (Ok a, u) k in
    subst P (sym e) (subst Q (sym h) (rel, r))

both_refused : {A B : Type 0} (x : Site) (Rel : A → B → Type 0) (s : Result A Fault × World) (k : Result B Fault × Guest) (f f' : Fault) (u : World) (v : Guest)
    → s ≡ (Err f, u) → k ≡ (Err f', v) → SameFault (setting x) f f' → Related x u v → Both x Rel s k
both_refused {A} {B} x Rel s k f f' u v e h same r =
    let P : Result A Fault × World → Type 0 = λ s. Both x Rel s k in
    let Q : Result B Fault × Guest → Type 0 = λ k. Both x Rel (Err f, u) k in
    subst P (sym e) (subst Q (sym h) (same, r))

-- a read, whatever is read
read_mirrored : {A B : Type 0} (x : Site) (b : World) (g : Guest) (code : Bool) (at len : ℕ) (write : Bool)
    (Rel : A → B → Type 0) (take : Take A) (read : Take B)
    (side : (w : World) (p : ℕ) → Related x w g → p + len ≤ x.size → TakesBoth x Rel len take read g w p)
    → Related x b g → (space : Space) → space ≡ x.space → at < 2 ^ 32 → (write ≡ true → code ≡ false) → at % 4096 + len ≤ 4096
    → Both x Rel (read_by rule_a (ref code User at write) len take b)
    (or_refused (allows g.shadow (ref code space at write)) (of_guest g (read_by rule_k (ref code space at write) len read g.world)) (ref code space at write)
    len g)
read_mirrored {A} {B} x b g code at len write Rel take read side r space same l on_data fits =
    let P : Space → Type 0 = λ space. Both x Rel (read_by rule_a (ref code User at write) len take b)
    (or_refused (allows g.shadow (ref code space at write)) (of_guest g (read_by rule_k (ref code space at write) len read g.world)) (ref code space at write)
    len g) in
    let t = translated rule_a (ref code User at write) b in
    let q = of_guest g (read_by rule_k (ref code x.space at write) len read g.world) in
    subst P (sym same) (elim (cases_Bool (allows g.shadow (ref code x.space at write))) [
      | inl may ↦
          let here : Allowed x b g code at write = allowed_access x b g code at write r l on_data may in
          let (a, a', on_board, at_guest, rel) = side t.1 here.place here.after (in_guest here.place at len x.size here.inside here.offset fits) in
          both_answer x Rel _ _ a a' t.1 g
          (reads_found rule_a (ref code User at write) len take b t.1 (x.base + here.place) a (paired t (Some (x.base + here.place)) here.board) on_board)
          (held_is _ q (ref code x.space at write) len g may
          ∙ ap (of_guest g) (reads_found rule_k (ref code x.space at write) len read g.world g.world here.place a' here.guest at_guest)) rel here.after
      | inr may_not ↦
          let a = refused_access x b g code at write r l may_not in
          both_refused x Rel _ _ (fault_of (ref code User at write) len true) (fault_of (ref code x.space at write) len true) t.1 g
          (reads_refused rule_a (ref code User at write) len take b t.1 (paired t None a.answer))
          (held_not _ q (ref code x.space at write) len g may_not) (refl, refl) (related_after x b t.1 g r a.quiet)
    ])

-- a write, whatever is written
write_mirrored : (x : Site) (b : World) (g : Guest) (at len : ℕ) (store : Store)
    (side : (w : World) (p : ℕ) → Related x w g → p + len ≤ x.size → StoresBoth x len store g w p)
    → Related x b g → (space : Space) → space ≡ x.space → at < 2 ^ 32 → at % 4096 + len ≤ 4096
    → Both x Equal (written_by rule_a (ref false User at true) len store b)
    (or_refused (allows g.shadow (ref false space at true)) (of_guest g (written_by rule_k (ref false space at true) len store g.world))
    (ref false space at true) len g)
write_mirrored x b g at len store side r space same l fits =
    let P : Space → Type 0 = λ space. Both x Equal (written_by rule_a (ref false User at true) len store b)
    (or_refused (allows g.shadow (ref false space at true)) (of_guest g (written_by rule_k (ref false space at true) len store g.world))
    (ref false space at true) len g) in
    let t = translated rule_a (ref false User at true) b in
    let q = of_guest g (written_by rule_k (ref false x.space at true) len store g.world) in
    subst P (sym same) (elim (cases_Bool (allows g.shadow (ref false x.space at true))) [
      | inl may ↦
          let here : Allowed x b g false at true = allowed_access x b g false at true r l (λ z. refl) may in
          let (u, v, on_board, at_guest, after) = side t.1 here.place here.after (in_guest here.place at len x.size here.inside here.offset fits) in
          both_answer x Equal _ _ tt tt u (record g { world = v })
          (writes_found rule_a (ref false User at true) len store b t.1 u (x.base + here.place) (paired t (Some (x.base + here.place)) here.board) on_board)
          (held_is _ q (ref false x.space at true) len g may
          ∙ ap (of_guest g) (writes_found rule_k (ref false x.space at true) len store g.world g.world v here.place here.guest at_guest)) refl after
      | inr may_not ↦
          let a = refused_access x b g false at true r l may_not in
          both_refused x Equal _ _ (fault_of (ref false User at true) len true) (fault_of (ref false x.space at true) len true) t.1 g
          (writes_refused rule_a (ref false User at true) len store b t.1 (paired t None a.answer))
          (held_not _ q (ref false x.space at true) len g may_not) (refl, refl) (related_after x b t.1 g r a.quiet)
    ])

-- places
pub place_lower : (base size at len : ℕ) → base + at + len ≤ base + size → at + len ≤ size
place_lower base size at len h = omega arith

pub mirrors_calls : MirrorsCalls
mirrors_calls x (Fetch space at) b g r s (u, l, even) =
    read_mirrored x b g true at 2 false SameWord taken taken (word_both x g) r space s l (λ z. cc) (word_fits at even)
mirrors_calls x (Read space p) b g r s (u, l, is) = read_mirrored x b g false p.at p.len false Equal taken taken (take_both x g p.len) r space s l (λ z. refl)
    (piece_fits p is)
mirrors_calls x (Write space p value) b g r s (u, l, is) =
    write_mirrored x b g p.at p.len (λ place. stored place value) (store_both x g p.len value) r space s l (piece_fits p is)
mirrors_calls x (ReadLine space at) b g r s (u, l, is) =
    read_mirrored x b g false at 16 false Equal taken_line taken_line (line_both x g) r space s l (λ z. refl) (line_fits at is)
mirrors_calls x (WriteLine space at line) b g r s (u, l, is, four) =
    write_mirrored x b g at 16 (λ place. stored_line place line) (line_store_both x g line) r space s l (line_fits at is)
mirrors_calls x (Probe space p) b g r s (u, l, is) = read_mirrored x b g false p.at p.len true (IsRaised (setting x)) checked checked (check_both x g p.len) r
    space s l (λ z. refl) (piece_fits p is)
mirrors_calls x (Get place) b g r s (low, high) =
    let (a, a', on_board, at_guest, rel) = take_both x g place.len b place.at r (place_lower x.base x.size place.at place.len high) in
    let P : Option ℕ × World → Type 0 = λ q. (unwrap_or q.0 0 ≡ unwrap_or (taken place g.world).0 0)
    × Related x q.1 (record g { world = (taken place g.world).1 }) in
    let Q : Option ℕ × World → Type 0 = λ q. (a ≡ unwrap_or q.0 0) × Related x b (record g { world = q.1 }) in
    subst P (sym on_board) (subst Q (sym at_guest) (rel, r))
mirrors_calls x (Put place value) b g r s (low, high) =
    let (u, v, on_board, at_guest, after) = store_both x g place.len value b place.at r (place_lower x.base x.size place.at place.len high) in (
      refl,
      subst (λ (o : Option World). Related x (unwrap_or o b) (record g { world = unwrap_or (stored place value g.world) g.world })) (sym on_board)
          (subst (λ (o : Option World). Related x u (record g { world = unwrap_or o g.world })) (sym at_guest) after),
    )
mirrors_calls x ReadMmu b g r s l = absurd l
mirrors_calls x (SetMmu which value) b g r s l = absurd l
mirrors_calls x (FlushKept what) b g r s l = absurd l
mirrors_calls x (Test space at write) b g r s l = absurd l
mirrors_calls x ResetDevices b g r s l = absurd l
