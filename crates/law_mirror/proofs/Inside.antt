-- A call in user mode touches nothing outside the guest's RAM.
use Rattle.std.proofs.Common.{◌≡◌, ℕ, ◌+◌, ◌*◌, ◌%◌, ◌^◌, ◌≤◌, ◌<◌, Bool, true, false, List, [], ◌∷◌, length, take, refl, sym, ◌∙◌, subst, arith, inl, inr}
use Rattle.std.proofs.Common.{Option, Some, None, Result, length-take}
use Rattle.std.specs.Prelude.{unwrap_or}
use Rattle.std.proofs.lemmas.Bool.{cases_Bool}
use Rattle.byteorder.specs.Endian.{big_bytes}
use Rattle.byteorder.specs.Numbers.{length-bytes_high_first}
use Rattle.mb_port.specs.Routine.{Call, Fetch, Read, Write, ReadLine, WriteLine, Probe, Get, Put, ReadMmu, SetMmu, FlushKept, Test, ResetDevices}
use Rattle.mb_port.specs.declared.types.Space.TheVariants.{User}
use Rattle.mb_port.specs.declared.types.Fault.{Fault}
use Rattle.law_routines.specs.Between.{call_here, IsThere, Equal, IsRaised}
use Rattle.mb_model.specs.Keeping.{rule_a}
use Rattle.mb_walk.specs.Memory.{with_number}
use Rattle.mb_walk.proofs.MemoryLemmas.{length-with_number}
use Rattle.def_machine.specs.World.{World}
use Rattle.def_machine.specs.Places.{taken, stored, checked, with_longs, taken_line, stored_line}
use Rattle.def_machine.specs.Access.{translated}
use Rattle.def_machine.specs.Bus.{place_at, Take, Store, read_by, written_by}
use Rattle.mb_walk.proofs.Parts.{drop-over, take-over}
use Rattle.def_machine.proofs.BusLemmas.{stored_memory}
use Rattle.def_guests.specs.Guests.{Guest, ref, allows}
use Rattle.law_mirror.specs.Related.{Site, setting, Related}
use Rattle.law_mirror.proofs.Quiet.{Quiet}
use Rattle.law_mirror.specs.Laws.{board_bus, lawful, Outside, StaysInside}
use Rattle.law_mirror.proofs.Mirrors.{Allowed, access, allowed_access, refused_access, board_in_ram, room}
use Rattle.law_held.proofs.Stages.{piece_fits, word_fits, line_fits, in_guest, reads_refused, writes_found, writes_refused, line_written, paired}
use Rattle.law_mirror.proofs.Calls.{TakesBoth, take_both, line_both, check_both, store_both, line_board, place_lower}
use Rattle.law_mirror.proofs.Guard.{of_guest_call}
use Rattle.def_machine.proofs.Enters.{reads_found}

outside_same : (x : Site) (b : World) → Outside x b b
outside_same x b = record { count = refl; below = refl; above = refl; mmu = refl; devices = refl }

outside_quiet : (x : Site) (b after : World) → Quiet x b after → Outside x b after
outside_quiet x b after q = subst (λ (w : World). Outside x b w) (sym q.same) (record { count = refl; below = refl; above = refl; mmu = refl; devices = refl })

outside_number : (x : Site) (b w : World) (p len v : ℕ) → x.base + x.size ≤ length b.ram → Outside x b w → p + len ≤ x.size
    → Outside x b (record w { ram = with_number w.ram (x.base + p) len v })
outside_number x b w p len v fits o h =
    let count : length (big_bytes len v) ≡ len = length-bytes_high_first len v in
    let same : length w.ram ≡ length b.ram = o.count in
    record {
      count = length-with_number w.ram (x.base + p) len v (omega arith) ∙ o.count;
      below = take-over w.ram (big_bytes len v) x.base (x.base + p) (omega arith) (omega arith) ∙ o.below;
      above = drop-over w.ram (big_bytes len v) (x.base + x.size) (x.base + p) (omega arith) (omega arith) ∙ o.above;
      mmu = o.mmu;
      devices = o.devices;
    }

outside_line : (x : Site) (b w : World) (p : ℕ) (line : List ℕ) → x.base + x.size ≤ length b.ram → Outside x b w → p + 4 * length line ≤ x.size
    → Outside x b (line_board x w p line)
outside_line x b w p [] fits o h = o
outside_line x b w p (v ∷ vs) fits o h =
    subst (λ q. Outside x b (record w { ram = with_longs (with_number w.ram (x.base + p) 4 v) q vs })) (let e : x.base + (p + 4) ≡ x.base + p + 4 =
    omega arith in e)
    (outside_line x b (record w { ram = with_number w.ram (x.base + p) 4 v }) (p + 4) vs fits (outside_number x b w p 4 v fits o (omega arith)) (omega arith))

-- ---- reads and writes

read_inside : {A B : Type 0} (x : Site) (b : World) (g : Guest) (code : Bool) (at len : ℕ) (write : Bool) (Rel : A → B → Type 0) (take : Take A) (read : Take B)
    (side : (w : World) (p : ℕ) → Related x w g → p + len ≤ x.size → TakesBoth x Rel len take read g w p)
    → Related x b g → at < 2 ^ 32 → (write ≡ true → code ≡ false) → at % 4096 + len ≤ 4096
    → Outside x b (read_by rule_a (ref code User at write) len take b).1
read_inside {A} {B} x b g code at len write Rel take read side r l on_data fits =
    let t = translated rule_a (ref code User at write) b in
    let quiet : Outside x b t.1 = outside_quiet x b t.1 (access x b g code at write r l).quiet in
    let P : Result A Fault × World → Type 0 = λ s. Outside x b s.1 in
    elim (cases_Bool (allows g.shadow (ref code x.space at write))) [
      | inl may ↦
          let here : Allowed x b g code at write = allowed_access x b g code at write r l on_data may in
          let (a, a', on_board, at_guest, rel) = side t.1 here.place here.after (in_guest here.place at len x.size here.inside here.offset fits) in
          subst P (sym (reads_found rule_a (ref code User at write) len take b t.1 (x.base + here.place) a (paired t (Some (x.base + here.place)) here.board)
          on_board)) quiet
      | inr may_not ↦
          subst P (sym (reads_refused rule_a (ref code User at write) len take b t.1 (paired t None (refused_access x b g code at write r l may_not).answer)))
          quiet
    ]

write_inside : (x : Site) (b : World) (g : Guest) (at len : ℕ) (store : Store)
    (side : (w : World) (p : ℕ) → Related x w g → Outside x b w → p + len ≤ x.size
    → (u : World) × (store (place_at (x.base + p) len) w ≡ Some u) × Outside x b u)
    → Related x b g → at < 2 ^ 32 → at % 4096 + len ≤ 4096 → Outside x b (written_by rule_a (ref false User at true) len store b).1
write_inside x b g at len store side r l fits =
    let t = translated rule_a (ref false User at true) b in
    let quiet : Outside x b t.1 = outside_quiet x b t.1 (access x b g false at true r l).quiet in
    let P : Result (Unit {0}) Fault × World → Type 0 = λ s. Outside x b s.1 in
    elim (cases_Bool (allows g.shadow (ref false x.space at true))) [
      | inl may ↦
          let here : Allowed x b g false at true = allowed_access x b g false at true r l (λ z. refl) may in
          let (u, on_board, o) = side t.1 here.place here.after quiet (in_guest here.place at len x.size here.inside here.offset fits) in
          subst P (sym (writes_found rule_a (ref false User at true) len store b t.1 u (x.base + here.place) (paired t (Some (x.base + here.place)) here.board)
          on_board)) o
      | inr may_not ↦
          subst P (sym (writes_refused rule_a (ref false User at true) len store b t.1
          (paired t None (refused_access x b g false at true r l may_not).answer))) quiet
    ]

store_inside : (x : Site) (b : World) (g : Guest) (len value : ℕ) → Related x b g → (w : World) (p : ℕ) → Related x w g → Outside x b w → p + len ≤ x.size
    → (u : World) × (stored (place_at (x.base + p) len) value w ≡ Some u) × Outside x b u
store_inside x b g len value r w p at_w o h =
    let (u, v, on_board, at_guest, after) = store_both x g len value w p at_w h in (
      record w { ram = with_number w.ram (x.base + p) len value },
      stored_memory w (place_at (x.base + p) len) value (board_in_ram x w g p len at_w h),
      outside_number x b w p len value (room x b g r) o h,
    )

line_inside : (x : Site) (b : World) (g : Guest) (line : List ℕ) → Related x b g → (w : World) (p : ℕ) → Related x w g → Outside x b w
    → p + 16 ≤ x.size
    → (u : World) × (stored_line (place_at (x.base + p) 16) line w ≡ Some u) × Outside x b u
line_inside x b g line r w p at_w o h = (
  line_board x w p (take 4 line),
  line_written w (x.base + p) line (board_in_ram x w g p 16 at_w h),
  outside_line x b w p (take 4 line) (room x b g r) o (omega (arith, length-take 4 line)),
)

inside_call : (x : Site) (d : Call) (b : World) (g : Guest) → Related x b g → IsThere (setting x) d → lawful x (call_here (setting x) d) b
    → Outside x b (board_bus (call_here (setting x) d) b).1
inside_call x (Fetch space at) b g r s l = read_inside x b g true at 2 false Equal taken taken (take_both x g 2) r l.1 (λ z. cc) (word_fits at l.2)
inside_call x (Read space p) b g r s l = read_inside x b g false p.at p.len false Equal taken taken (take_both x g p.len) r l.1 (λ z. refl) (piece_fits p l.2)
inside_call x (Write space p value) b g r s l = write_inside x b g p.at p.len (λ place. stored place value) (store_inside x b g p.len value r) r l.1
    (piece_fits p l.2)
inside_call x (ReadLine space at) b g r s l = read_inside x b g false at 16 false Equal taken_line taken_line (line_both x g) r l.1 (λ z. refl)
    (line_fits at l.2)
inside_call x (WriteLine space at line) b g r s l = write_inside x b g at 16 (λ place. stored_line place line) (line_inside x b g line r) r l.1
    (line_fits at l.2)
inside_call x (Probe space p) b g r s l = read_inside x b g false p.at p.len true (IsRaised (setting x)) checked checked (check_both x g p.len) r l.1
    (λ z. refl) (piece_fits p l.2)
inside_call x (Get place) b g r s l =
    let (a, a', on_board, at_guest, rel) = take_both x g place.len b place.at r (place_lower x.base x.size place.at place.len l.1) in
    subst (λ (q : Option ℕ × World). Outside x b q.1) (sym on_board) (outside_same x b)
inside_call x (Put place value) b g r s l =
    let (u, on_board, o) = store_inside x b g place.len value r b place.at r (outside_same x b) (place_lower x.base x.size place.at place.len l.1) in
    subst (λ (q : Option World). Outside x b (unwrap_or q b)) (sym on_board) o
inside_call x ReadMmu b g r s l = absurd l
inside_call x (SetMmu which value) b g r s l = absurd l
inside_call x (FlushKept what) b g r s l = absurd l
inside_call x (Test space at write) b g r s l = absurd l
inside_call x ResetDevices b g r s l = absurd l

pub stays_inside : StaysInside
stays_inside x c b (g, r) l =
    let (d, there, e) = of_guest_call x c l in
    subst (λ (c : Call). Outside x b (board_bus c b).1) e (inside_call x d b g r there (subst (λ (c : Call). lawful x c b) (sym e) l))
