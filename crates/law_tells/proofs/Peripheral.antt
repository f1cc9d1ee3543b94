-- MOVEP.
use Rattle.std.specs.Prelude.{◌≡◌, refl, false, ℕ, zero, suc, ◌+◌, ◌%◌, ◌^◌, ◌<◌, ◌≤◌, ◌⊎◌, Bool, Result, Ok, [], length}
use Rattle.std.proofs.Common.{ap, arith, inl, inr, subst, sym, ◌∙◌}
use Rattle.mb_port.specs.Pieces.{IsAddressedPiece}
use Rattle.mb_port.specs.Routine.{Write, Routine, Return, ◌>>=◌, ◌>>◌, failing, write}
use Rattle.mb_port.specs.declared.types.Space.{Space}
use Rattle.mb_port.specs.declared.types.Piece.{Piece}
use Rattle.law_routines.specs.Refusal.{Fact}
use Rattle.law_routines.specs.Tree.{tree_of}
use Rattle.law_routines.proofs.Told.{tells_ok, tells_bind, tells_failing, tells_weaker, tells_choose, tells_write}
use Rattle.mb_instr.specs.declared.size.Size.{Size}
use Rattle.mb_instr.specs.declared.size.Size.TheVariants.{Byte, Word, Long}
use Rattle.mb_instr.specs.declared.registers.Plain.{Plain}
use Rattle.mb_instr.specs.Sizes.{bytes_of, sign_extended}
use Rattle.mb_instr.specs.Registers.{data_register, address_register}
use Rattle.mb_ea.specs.declared.addresses.Target.TheVariants.{Reg}
use Rattle.mb_ea.specs.Addresses.{sum}
use Rattle.mb_ea.specs.Reading.{read_pieces_of, refused_in}
use Rattle.mb_writes.specs.declared.ends.WriteFault.{WriteFault}
use Rattle.mb_writes.specs.declared.ends.Ended.TheVariants as ended
use Rattle.mb_writes.specs.declared.transfers.Movem.{Movem}
use Rattle.mb_writes.specs.Writing.{part_of, parts_of, write_fault_at, write_pieces_of, apart, write_apart_of}
use Rattle.def_instructions.specs.Ends.{Carried, Stop, restored, restoring, carried, writing}
use Rattle.def_instructions.specs.Peripheral.{read_apart_of, load_peripheral_of, store_peripheral_of, movep_of}
use Rattle.law_tells.specs.Guarded.{Guarded, Guards, quiet}
use Rattle.law_tells.specs.Left.{Answered, IsRest, SameCalls, WriteLeft, Telling}
use Rattle.law_tells.proofs.Resumed.{goes_to_end}
use Rattle.law_tells.proofs.Apart.{ArePlaced, parts_own, parts_as_many}
use Rattle.law_tells.proofs.Longs.{sum_long}
use Rattle.law_tells.proofs.Parts.{RowTells, Reads, row_reading}
use Rattle.law_tells.proofs.Pieces.{pieces_tell}
use Rattle.law_tells.proofs.Operands.{storing_tells, list_tells}

byte_placed : (at : ℕ) → at < 2 ^ 32 → IsAddressedPiece (record { at = at; len = 1 })
byte_placed at h = (grind arith, h)

apart_placed : (at n : ℕ) → at < 2 ^ 32 → ArePlaced (apart at n)
apart_placed at zero h = tt
apart_placed at (suc n) h = (byte_placed at h, apart_placed ((at + 2) % 2 ^ 32) n (omega arith))

apart_as_many : (at n : ℕ) → length (apart at n) ≡ n
apart_as_many at zero = refl
apart_as_many at (suc n) = ap (λ (k : ℕ). suc k) (apart_as_many ((at + 2) % 2 ^ 32) n)

-- Where bytes are refused: either it is the first one of a long, or the rest is to write those that are left.
BytesLeft : {S : Type 0} → Guarded S → Space → Fact S (Unit {0}) WriteFault
BytesLeft x space rest t e = Answered x rest t e.fault
    × ((x.unwritten t × (e.rest.items ≡ []))
    ⊎ (IsRest e.rest.items × SameCalls rest (write_pieces_of space e.first e.rest.items >> Return (Ok tt))))

module _ {S : Type 0} (x : Guarded S) (space : Space) (g : Guards x space) where
  read_apart_tells : (at : ℕ) (size : Size) → at < 2 ^ 32 → Reads x (λ v. Unit {0}) (read_apart_of space at size)
  read_apart_tells at size h =
      tells_failing (refused_in at) (read_pieces_of space (apart at (bytes_of size)) 0)
      (tells_weaker _ (pieces_tell x space g (apart at (bytes_of size)) 0 (apart_placed at (bytes_of size) h)) (λ s q. q)
      (λ rest t e told. (told.0, told.1)) (λ a t q. (q, tt)))

  bytes_tell : (at n value first : ℕ) → at < 2 ^ 32 → n ≤ 3
      → let m = write_pieces_of space first (parts_of (apart at n) n value) in Telling x x.serving m (BytesLeft x space) (λ done s. x.serving s)
  unfolding BytesLeft
  bytes_tell at n value first h few =
      tells_weaker _ (list_tells x space g first (parts_of (apart at n) n value) (parts_own (apart at n) n value (apart_placed at n h))
      (subst (λ (k : ℕ). k ≤ 3) (sym (parts_as_many (apart at n) n value ∙ apart_as_many at n)) few)) (λ s q. q)
      (λ rest t e told. (told.0, inr (told.2, told.1))) (λ a t q. q)

  put_apart_tells : (at : ℕ) (size : Size) (value : ℕ) → at < 2 ^ 32
      → Telling x (quiet x) (write_apart_of space at size value) (BytesLeft x space) (λ done s. x.serving s)
  unfolding BytesLeft
  put_apart_tells at Byte value h = tells_weaker _ (bytes_tell at 1 value at h (omega arith)) (λ s q. q.0) (λ rest t e told. told) (λ a t q. q)
  put_apart_tells at Word value h = tells_weaker _ (bytes_tell at 2 value at h (omega arith)) (λ s q. q.0) (λ rest t e told. told) (λ a t q. q)
  put_apart_tells at Long value h =
      let byte : Piece = record { at = at; len = 1 } in
      let next : (at + 2) % 2 ^ 32 < 2 ^ 32 = omega arith in
      tells_bind (failing (write_fault_at at []) (write space byte (part_of value 4 1)))
      (λ done. write_pieces_of space at (parts_of (apart ((at + 2) % 2 ^ 32) 3) 3 value))
      (tells_failing (write_fault_at at []) (write space byte (part_of value 4 1))
      (tells_write g.refuses space byte (part_of value 4 1) (record {
        lawfully = λ s q. g.writes byte (part_of value 4 1) s q.0 (byte_placed at h);
        well = λ s done q yes e.
            g.opens.call (Write space byte (part_of value 4 1)) s q.0 (g.writes byte (part_of value 4 1) s q.0 (byte_placed at h));
        refused = λ s u fault q no e same. ((Write space byte (part_of value 4 1), refl, ap (λ r. r.0) e), inl (q.1, refl));
      })))
      (λ done. bytes_tell ((at + 2) % 2 ^ 32) 3 value at next (omega arith))

  -- nothing was written, or the rest is written: the registers are the same
  either_left : (p : Plain) (rest : Routine (Result (Unit {0}) WriteFault)) (t : S) (e : WriteFault)
      → (x.unwritten t × (e.rest.items ≡ []))
      ⊎ (IsRest e.rest.items × SameCalls rest (write_pieces_of space e.first e.rest.items >> Return (Ok tt)))
      → WriteLeft x space p (restoring p (writing p rest >>= λ done. Return (carried p))) t e p
  either_left p rest t e (inl a) = inl ((a.0, refl), a.1)
  either_left p rest t e (inr s) = inr (
    s.0,
    record { flow = false; plain = p },
    refl,
    goes_to_end _ (restored p) tt (λ (done : Unit {0}). let end : Carried = record { flow = false; plain = p } in end)
        (tree_of (write_pieces_of space e.first e.rest.items)) (tree_of rest) s.1,
  )

module _ {S : Type 0} (x : Guarded S) (space : Space) (g : Guards x space) {moves : Movem → Type 0} where
  load_tells : (n : ℕ) (size : Size) (place : ℕ) (p : Plain) → place < 2 ^ 32 → RowTells x space p moves (load_peripheral_of n size place space p)
  load_tells n size place p h =
      row_reading x space (read_apart_tells x space g place size h) (λ value read. storing_tells x space g (Reg n) size value p tt)

  store_tells : (n : ℕ) (size : Size) (place : ℕ) (p : Plain) → place < 2 ^ 32 → RowTells x space p moves (store_peripheral_of n size place space p)
  unfolding BytesLeft
  store_tells n size place p h =
      let m = write_apart_of space place size (data_register p n) in
      tells_bind (writing p m) (λ done. Return (carried p))
      (tells_failing (λ refused. Stop (record { ended = ended.WriteFault refused; plain = p })) m
      (tells_weaker m (put_apart_tells x space g place size (data_register p n) h) (λ s q. q)
      (λ rest t e told. (told.0, either_left x space g p rest t e told.1)) (λ a t q. q)))
      (λ done. tells_ok _ (λ s q. q))

  pub movep_tells : (n : ℕ) (is_store : Bool) (size : Size) (address displacement : ℕ) (p : Plain)
      → RowTells x space p moves (movep_of n is_store size address displacement space p)
  movep_tells n is_store size address displacement p =
      let place = sum (address_register p address) (sign_extended Word displacement) in
      let lt = sum_long (address_register p address) (sign_extended Word displacement) in
      tells_choose is_store _ _ (λ e. store_tells n size place p lt) (λ e. load_tells n size place p lt)
