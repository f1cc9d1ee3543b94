-- An exception is entered where supervisor operands are not translated.
use Rattle.std.proofs.Common.{◌≡◌, ℕ, zero, suc, Bool, cond, Some, ◌+◌, ◌-◌, ◌*◌, ◌%◌, ◌^◌, ◌≤◌, ◌<◌, ◌==◌, nat_le, true, false, List, [], ◌∷◌, ◌++◌, length, take, drop, refl, ap, sym, ◌∙◌, subst, arith, Option, None, Result, Ok, append_assoc, append-nil}
use Rattle.std.specs.Prelude.{unwrap_or}
use Rattle.std.proofs.Common.{length-drop, length-take}
use Rattle.std.proofs.lemmas.Bool.Decides.{nat_tests}
use Rattle.std.proofs.lemmas.List.Elements.{All-drop}
use Rattle.byteorder.specs.Endian.{big_number}
use Rattle.std.proofs.lemmas.List.Elements.{All-nil, All-append}
use Rattle.def_processor.specs.declared.entering.Cause.{Cause}
use Rattle.mb_frames.specs.Layout.{Field, bytes_of_fields, fields_of, frame_bytes}
use Rattle.byteorder.specs.Endian.{big_bytes}
use Rattle.mb_port.specs.Routine.{Routine, run, Probe, Put, Read, tried, Return, Then, either, other_fault, ◌>>=◌}
use Rattle.mb_port.specs.Pieces.{piece_len, cut, split_of}
use Rattle.mb_port.specs.declared.types.Space.TheVariants.{Super}
use Rattle.mb_port.specs.declared.types.Piece.{Piece}
use Rattle.mb_port.specs.declared.types.Place.{Place}
use Rattle.mb_port.specs.declared.types.Fault.{Fault}
use Rattle.mb_model.specs.Keeping.{Rule}
use Rattle.mb_model.specs.declared.processor.Cpu.{Cpu}
use Rattle.mb_ea.specs.Addresses.{sum}
use Rattle.mb_ea.specs.Reading.{read_pieces_of, read_operand_of, refused_in}
use Rattle.mb_ea.specs.declared.reading.ReadFault.{ReadFault}
use Rattle.mb_walk.specs.Memory.{AreBytes, number_at, overwritten, with_number}
use Rattle.mb_walk.proofs.MemoryLemmas.{length-overwritten, overwritten-nothing}
use Rattle.mb_walk.proofs.LongLemmas.{number_bytes}
use Rattle.mb_writes.specs.Checked.{probe_pieces_of}
use Rattle.def_processor.specs.declared.entering.Entered.TheVariants as entered
use Rattle.def_processor.specs.Entry as entry
use Rattle.def_processor.specs.Entry.{Stacked, Frames, frames_of, handler_regs, awake, put_bytes_of, probe_second_of, put_second_of, check_frames_of, put_frames_of, go_to_handler_of, enter_of, unstacked}
use Rattle.def_machine.specs.World.{World}
use Rattle.def_machine.specs.Places.{in_ram, taken, checked}
use Rattle.def_machine.specs.Bus.{bus_of, place_at, fault_of, Take, faulting, read_at, read_by}
use Rattle.def_machine.proofs.BusLemmas.{taken_memory, stored_memory, takes_memory}
use Rattle.def_machine.specs.declared.reference.Reference.{Reference}
use Rattle.def_machine.specs.Access.{untranslated, translated, by_match, by_settled}
use Rattle.def_machine.specs.Enters.{supervising, IsUntranslated, HasRoom, stacked_on, at_handler, EntersStacked}
use Rattle.def_machine.proofs.Pieces.{piece_back, piece_fits, piece_some}
use Rattle.mb_walk.proofs.Parts.{over-split}

pub reads_found : {A : Type 0} (rule : Rule) (r : Reference) (len : ℕ) (take : Take A) (w u : World) (p : ℕ) (a : A)
    → translated rule r w ≡ (Some p, u) → take (place_at p len) u ≡ (Some a, u) → read_by rule r len take w ≡ (Ok a, u)
reads_found {A} rule r len take w u p a e h =
    ap (λ (t : Option ℕ × World). read_at r len take t.0 t.1) e ∙ ap (λ (q : Option A × World). faulting q (fault_of r len false)) h

pub checked_is : (w : World) (p len : ℕ) → in_ram (length w.ram) p len ≡ true → checked (place_at p len) w ≡ (Some (place_at p len), w)
checked_is w p len h =
    ap (λ (b : Bool). (let q : Option Place × World = (cond b (Some (place_at p len)) None, w) in q)) (takes_memory w (place_at p len) h)

enters_untranslated : (rule : Rule) (w : World) (at : ℕ) (write : Bool) → untranslated w.mmu (supervising at write) ≡ Some false
    → translated rule (supervising at write) w ≡ (Some at, w)
unfolding translated
enters_untranslated rule w at write h =
    ap (λ (o : Option Bool). by_settled rule w (supervising at write) (by_match rule w.kept (supervising at write) o)) h

is_inside : (size at len : ℕ) → at + len ≤ size → in_ram size at len ≡ true
is_inside size at len h = let b : nat_le (at + len) size ≡ true = grind (arith, nat_tests) in b

-- ---- a frame is bytes

fields_are_bytes : (fs : List Field) → AreBytes (bytes_of_fields fs)
fields_are_bytes [] = All-nil (λ byte. byte < 2 ^ 8)
fields_are_bytes (f ∷ fs) =
    All-append (λ byte. byte < 2 ^ 8) (big_bytes f.size f.value) (bytes_of_fields fs) (number_bytes f.size f.value) (fields_are_bytes fs)

pub frames_are_bytes : (c : Cause) (cpu : Cpu) → AreBytes (frames_of c cpu.regs).first.bytes
unfolding frames_of frame_bytes
frames_are_bytes c cpu = fields_are_bytes (fields_of (entry.frame_of cpu.regs.sr c))

module _ (rule : Rule) where
  -- ---- checks

  probed : (b : World) (p : Piece) → IsUntranslated b.mmu → p.at < 2 ^ 32 → p.at + p.len ≤ length b.ram
      → (bus_of rule) (Probe Super p) b ≡ (Ok (place_at p.at p.len), b)
  probed b p o l h =
      reads_found rule (supervising p.at true) p.len checked b b p.at (place_at p.at p.len) (enters_untranslated rule b p.at true (o p.at true l))
      (checked_is b p.at p.len (is_inside (length b.ram) p.at p.len h))

  abbrev places_of : List Piece → List Place
  places_of [] = []
  places_of (p ∷ ps) = place_at p.at p.len ∷ places_of ps

  abbrev AreInside : ℕ → List Piece → Type 0
  AreInside size [] = Unit {0}
  AreInside size (p ∷ ps) = (p.at < 2 ^ 32) × (p.at + p.len ≤ size) × AreInside size ps

  probes : (b : World) (ps : List Piece) (so_far : List Place) → IsUntranslated b.mmu → AreInside (length b.ram) ps
      → run (bus_of rule) (probe_pieces_of Super ps so_far) b ≡ (Ok (so_far ++ places_of ps), b)
  probes b [] so_far o h = ap (λ (l : List Place). (let q : Result (List Place) Fault × World = (Ok l, b) in q)) (sym (append-nil so_far))
  probes b (p ∷ ps) so_far o h =
      let next : Place → Routine (Result (List Place) Fault) = λ place. probe_pieces_of Super ps (so_far ++ place ∷ []) in
      ap (λ (q : Result Place Fault × World). run (bus_of rule) (tried q.0 next) q.1) (probed b p o h.0 h.1)
      ∙ probes b ps (so_far ++ place_at p.at p.len ∷ []) o h.2
      ∙ ap (λ (l : List Place). (let q : Result (List Place) Fault × World = (Ok l, b) in q)) (append_assoc so_far (place_at p.at p.len ∷ []) (places_of ps))

  -- no address past the last one is taken modulo 2^32
  cut_wrapped : (n at left : ℕ) → at + left ≤ 2 ^ 32 → cut n (at % 2 ^ 32) left ≡ cut n at left
  cut_wrapped zero at left h = refl
  cut_wrapped (suc n) at zero h = refl
  cut_wrapped (suc n) at (suc left) h = ap (λ (a : ℕ). cut (suc n) a (suc left)) (let e : at % 2 ^ 32 ≡ at = omega arith in e)

  -- the pieces of what lies in memory lie there
  cut_inside : (size n at left : ℕ) → at + left ≤ size → size ≤ 2 ^ 32 → AreInside size (cut n at left)
  cut_inside size zero at left h k = tt
  cut_inside size (suc n) at zero h k = tt
  cut_inside size (suc n) at (suc left) h k =
      let len = piece_len at (suc left) in
      let fits = piece_fits at (suc left) (omega arith) in
      let some = piece_some at (suc left) (omega arith) in (
        omega arith,
        omega arith,
        subst (λ (ps : List Piece). AreInside size ps) (sym (cut_wrapped n (at + len) (suc left - len) (omega arith))) (cut_inside size n (at + len)
            (suc left - len) (omega arith) k),
      )

  -- ---- writes

  put_is : (b : World) (at len value : ℕ) → at + len ≤ length b.ram
      → (bus_of rule) (Put (place_at at len) value) b ≡ (tt, record b { ram = with_number b.ram at len value })
  put_is b at len value h =
      ap (λ (o : Option World). (let q : Unit {0} × World =
      (tt, unwrap_or o b) in q)) (stored_memory b (place_at at len) value (is_inside (length b.ram) at len h))

  abbrev Puts : World → ℕ → List ℕ → List Piece → Type 0
  Puts b at bytes ps = run (bus_of rule) (put_bytes_of (places_of ps) bytes) b ≡ (tt, record b { ram = overwritten b.ram at bytes })

  puts_none : (b : World) (at : ℕ) (bytes : List ℕ) → length bytes ≡ 0 → Puts b at bytes []
  puts_none b at bytes h = ap (λ (m : List ℕ). (let q : Unit {0} × World = (tt, record b { ram = m }) in q)) (sym (overwritten-nothing b.ram at bytes h))

  puts : (n : ℕ) (b : World) (at left : ℕ) (bytes : List ℕ) → left ≤ n → length bytes ≡ left → AreBytes bytes → at + left ≤ length b.ram
      → length b.ram ≤ 2 ^ 32
      → Puts b at bytes (cut n at left)
  puts zero b at left bytes few count are room small = puts_none b at bytes (omega arith)
  puts (suc n) b at zero bytes few count are room small = puts_none b at bytes count
  puts (suc n) b at (suc left) bytes few count are room small =
      let len = piece_len at (suc left) in
      let fits = piece_fits at (suc left) (omega arith) in
      let some = piece_some at (suc left) (omega arith) in
      let value = big_number len bytes in
      let front : with_number b.ram at len value ≡ overwritten b.ram at (take len bytes) =
      ap (overwritten b.ram at) (piece_back at (suc left) bytes (omega arith) (omega arith) are) in
      let w : World = record b { ram = overwritten b.ram at (take len bytes) } in
      let one : (bus_of rule) (Put (place_at at len) value) b ≡ (tt, w) =
      put_is b at len value (omega arith) ∙ ap (λ (m : List ℕ). (let q : Unit {0} × World = (tt, record b { ram = m }) in q)) front in
      let taken_count : length (take len bytes) ≡ len = length-take len bytes ∙ omega arith in
      let size : length w.ram ≡ length b.ram = length-overwritten b.ram at (take len bytes) (omega arith) in
      let dropped : length (drop len bytes) ≡ suc left - len = length-drop len bytes ∙ omega arith in
      let more : Puts w (at + len) (drop len bytes) (cut n ((at + len) % 2 ^ 32) (suc left - len)) =
      subst (λ (ps : List Piece). Puts w (at + len) (drop len bytes) ps) (sym (cut_wrapped n (at + len) (suc left - len) (omega arith)))
      (puts n w (at + len) (suc left - len) (drop len bytes) (omega arith) dropped (All-drop (λ byte. byte < 2 ^ 8) len bytes are) (omega arith)
      (omega arith)) in
      ap (λ (q : Unit {0} × World). run (bus_of rule) (put_bytes_of (places_of (cut n ((at + len) % 2 ^ 32) (suc left - len))) (drop len bytes)) q.1) one ∙ more
      ∙ ap (λ (m : List ℕ). (let q : Unit {0} × World = (tt, record b { ram = m }) in q)) (over-split b.ram bytes at len (omega arith) (omega arith))

  -- ---- the vector

  long_alone : (at : ℕ) → at % 4 ≡ 0 → split_of at 4 ≡ record { at = at; len = 4 } ∷ []
  long_alone at h = let b : (at % 4 == 0) ≡ true = grind (arith, nat_tests) in rw b refl

  read_is : (b : World) (at : ℕ) → IsUntranslated b.mmu → at < 2 ^ 32 → at + 4 ≤ length b.ram
      → (bus_of rule) (Read Super (record { at = at; len = 4 })) b ≡ (Ok (number_at b.ram at 4), b)
  read_is b at o l h =
      reads_found rule (supervising at false) 4 taken b b at (number_at b.ram at 4) (enters_untranslated rule b at false (o at false l))
      (taken_memory b (place_at at 4) (is_inside (length b.ram) at 4 h))

  -- ---- the whole

  checks : (b : World) (f : Frames) → IsUntranslated b.mmu → f.second ≡ None → f.first.at + length f.first.bytes ≤ length b.ram → length b.ram ≤ 2 ^ 32
      → run (bus_of rule) (check_frames_of f) b ≡ (
        Ok (record {
          first =
              places_of (cut (length f.first.bytes) f.first.at (length f.first.bytes));
          second = [];
        }),
        b,
      )
  checks b f o one fits small =
      let ps = cut (length f.first.bytes) f.first.at (length f.first.bytes) in
      let first : run (bus_of rule) (probe_pieces_of Super ps []) b ≡ (Ok (places_of ps), b) =
      probes b ps [] o (cut_inside (length b.ram) (length f.first.bytes) f.first.at (length f.first.bytes) fits small) in
      let both : List Place → Option Stacked → Routine (Result entry.Places Fault) =
      λ at o. probe_second_of o >>= λ second. Return (Ok (record { first = at; second = second })) in
      ap (λ (q : Result (List Place) Fault × World). run (bus_of rule) (tried q.0 (λ at. both at f.second)) q.1) first
      ∙ ap (λ (o : Option Stacked). run (bus_of rule) (both (places_of ps) o) b) one

  writes : (b : World) (f : Frames) → f.second ≡ None → AreBytes f.first.bytes → f.first.at + length f.first.bytes ≤ length b.ram → length b.ram ≤ 2 ^ 32
      → run (bus_of rule) (put_frames_of f (record {
        first =
            places_of (cut (length f.first.bytes) f.first.at (length f.first.bytes));
        second = [];
      })) b ≡ (tt, stacked_on b f)
  writes b f one are fits small =
      ap (λ (q : Unit {0} × World). run (bus_of rule) (put_second_of f.second []) q.1)
      (puts (length f.first.bytes) b f.first.at (length f.first.bytes) f.first.bytes (omega arith) refl are fits small)
      ∙ ap (λ (o : Option Stacked). run (bus_of rule) (put_second_of o []) (stacked_on b f)) one

  vector_is : (b : World) (at : ℕ) → IsUntranslated b.mmu → at < 2 ^ 32 → at % 4 ≡ 0 → at + 4 ≤ length b.ram
      → run (bus_of rule) (read_operand_of Super at 4) b ≡ (Ok (number_at b.ram at 4), b)
  unfolding read_operand_of
  vector_is b at o l even h =
      let value : 0 * 256 ^ 4 + number_at b.ram at 4 ≡ number_at b.ram at 4 = omega arith in
      let told : Result ℕ Fault × World → Result ℕ ReadFault × World = λ q. (other_fault (refused_in at) q.0, q.1) in
      ap (λ (ps : List Piece). told (run (bus_of rule) (read_pieces_of Super ps 0) b)) (long_alone at even)
      ∙ ap (λ (q : Result ℕ Fault × World). told (run (bus_of rule) (tried q.0 (λ x. Return (Ok (0 * 256 ^ 4 + x)))) q.1)) (read_is b at o l h)
      ∙ ap (λ (n : ℕ). (let q : Result ℕ ReadFault × World = (Ok n, b) in q)) value

  -- nothing that is written changes how the board translates
  enters_by : (b : World) (c : Cause) (cpu : Cpu) → IsUntranslated b.mmu → HasRoom b c cpu
      → let after = stacked_on b (frames_of c cpu.regs) in
      run (bus_of rule) (enter_of c cpu) b ≡ ((entered.Done, at_handler after c cpu), after)
  enters_by b c cpu o room =
      let f = frames_of c cpu.regs in
      let after = stacked_on b f in
      let places : entry.Places = record { first = places_of (cut (length f.first.bytes) f.first.at (length f.first.bytes)); second = [] } in
      let handler : Cpu = record (awake cpu) { regs = handler_regs c f cpu.regs } in
      let v = sum cpu.vbr (4 * c.vector) in
      let size : length after.ram ≡ length b.ram = length-overwritten b.ram f.first.at f.first.bytes room.fits in
      let inside : v + 4 ≤ length b.ram = room.vector in
      let small : length b.ram ≤ 2 ^ 32 = room.small in
      ap (λ (q : Result entry.Places Fault × World).
      run (bus_of rule) (either q.0 (λ fault. Return (unstacked c.access fault c (awake cpu))) (λ at. Then (put_frames_of f at)
      (λ done. go_to_handler_of c handler))) q.1)
      (checks b f o room.one room.fits room.small)
      ∙ ap (λ (q : Unit {0} × World). run (bus_of rule) (go_to_handler_of c handler) q.1) (writes b f room.one (frames_are_bytes c cpu) room.fits room.small)
      ∙ ap (λ (q : Result ℕ ReadFault × World).
      run (bus_of rule) (either q.0 (λ refused. Return (entered.DoubleFault, handler)) (λ target. Return (
        entered.Done,
        record handler {
          regs =
              record handler.regs { pc = target };
        },
      ))) q.1)
      (vector_is after v o (omega arith) room.aligned (omega arith))

pub enters_stacked : EntersStacked
enters_stacked rule w c cpu o room = enters_by rule w c cpu o room
