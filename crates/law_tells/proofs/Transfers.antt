-- MOVEM: its transfers, and the instruction.
use Rattle.std.specs.Prelude.{◌≡◌, refl, ℕ, suc, ◌+◌, ◌^◌, ◌<◌, Bool, true, false, Ok, List, [], ◌∷◌, drop, length}
use Rattle.std.proofs.Common.{ap, sym, ◌∙◌, subst, arith}
use Rattle.std.proofs.lemmas.List.{drop-drop}
use Rattle.mb_port.specs.Routine.{Return, ◌>>=◌, ◌>>◌, failing}
use Rattle.mb_port.specs.declared.types.Space.{Space}
use Rattle.law_routines.specs.Refusal.{Fact}
use Rattle.law_routines.specs.Tree.{tree_of}
use Rattle.law_routines.proofs.Told.{tells_ok, tells_bind, tells_failing, tells_weaker}
use Rattle.mb_instr.specs.declared.size.Size.{Size}
use Rattle.mb_instr.specs.declared.operand.Ea.{Ea}
use Rattle.mb_instr.specs.declared.registers.Plain.{Plain}
use Rattle.mb_instr.specs.Sizes.{bytes_of}
use Rattle.mb_ea.specs.Reading.{read_operand_of}
use Rattle.mb_writes.specs.declared.ends.MovemFault.{MovemFault}
use Rattle.mb_writes.specs.declared.ends.Ended.TheVariants as ended
use Rattle.mb_writes.specs.declared.transfers.Movem.{Movem}
use Rattle.mb_writes.specs.declared.transfers.Transfer.{Transfer}
use Rattle.mb_writes.specs.Transfers.{transfers_of}
use Rattle.mb_writes.specs.Writing.{write_operand_of}
use Rattle.mb_writes.specs.Moving.{Halfway, refused_at, stored_of, store_all_of, loaded_of, load_all_of, stepped_of, transfer_of}
use Rattle.def_instructions.specs.Ends.{Carried, OtherEnd, Cut, Stop, restored, restoring, carried}
use Rattle.def_instructions.specs.Moves.{movem_by, transferring, movem_of}
use Rattle.law_tells.specs.Guarded.{Guarded, Guards, quiet}
use Rattle.law_tells.specs.Left.{Answered, Resumes, Telling}
use Rattle.law_tells.specs.Laws.{AreLongs}
use Rattle.law_tells.proofs.Ranges.{IsFormed}
use Rattle.law_tells.proofs.Longs.{HaveAddresses, transfer_addresses}
use Rattle.law_tells.proofs.Resumed.{resumes_then, closed_end}
use Rattle.law_tells.proofs.Parts.{RowTells, row_reading}
use Rattle.law_tells.proofs.Pieces.{operand_tells, put_tells}
use Rattle.law_tells.proofs.Operands.{address_tells}

-- Where transfers are refused, `k` of them were done, and the rest resumes the others.
StoresLeft : {S : Type 0} → Guarded S → Space → Movem → Plain → ℕ → ℕ → List Transfer → Fact S (Unit {0}) MovemFault
StoresLeft x space m p first done ts rest t e = Answered x rest t e.fault × (e.first ≡ first)
    × ((k : ℕ) × (e.done ≡ done + k)
    × Resumes (λ c answer. x.stands c answer t) (tree_of (store_all_of m space p first e.done (drop k ts))) (tree_of rest))

LoadsLeft : {S : Type 0} → Guarded S → Space → Movem → ℕ → ℕ → List Transfer → Fact S Plain Halfway
LoadsLeft x space m first done ts rest t e = Answered x rest t e.fault.fault × (e.fault.first ≡ first)
    × ((k : ℕ) × (e.fault.done ≡ done + k)
    × Resumes (λ c answer. x.stands c answer t) (tree_of (load_all_of m space first e.fault.done (drop k ts) e.plain)) (tree_of rest))

-- where a transfer is refused, the rest resumes the transfers from that one on
TransferLeft : {S : Type 0} → Guarded S → Space → Movem → Fact S Plain Halfway
TransferLeft x space m rest t e = Answered x rest t e.fault.fault
    × Resumes (λ c answer. x.stands c answer t) (tree_of (transfer_of m e.fault.first e.fault.done space e.plain)) (tree_of rest)

module _ {S : Type 0} (x : Guarded S) (space : Space) (g : Guards x space) where
  stores_tell : (m : Movem) (p : Plain) (first done : ℕ) (ts : List Transfer) → HaveAddresses ts
      → Telling x x.serving (store_all_of m space p first done ts) (StoresLeft x space m p first done ts) (λ stored s. x.serving s)
  unfolding StoresLeft
  stores_tell m p first done [] have = tells_ok tt (λ s q. q)
  stores_tell m p first done (t ∷ ts) have =
      let one = write_operand_of space t.at (bytes_of m.size) (stored_of m.mode m.size p t.register) in
      tells_bind (failing (λ refused. refused_at first done refused.fault) one) (λ stored. store_all_of m space p first (done + 1) ts)
      (tells_failing (λ refused. refused_at first done refused.fault) one
      (tells_weaker one (put_tells x space g t.at (bytes_of m.size) (stored_of m.mode m.size p t.register) have.0) (λ s q. q)
      (λ rest u e told. (told.0, refl, (0, omega arith, resumes_then _ (resumes_then _ told.3)))) (λ a u q. q)))
      (λ stored. tells_weaker (store_all_of m space p first (done + 1) ts) (stores_tell m p first (done + 1) ts have.1) (λ s q. q)
      (λ rest u e told. let (k, far, resumes) = told.2 in (told.0, told.1, (suc k, omega arith, resumes))) (λ a u q. q))

  loads_tell : (m : Movem) (first done : ℕ) (ts : List Transfer) (p : Plain) → HaveAddresses ts
      → Telling x (quiet x) (load_all_of m space first done ts p) (LoadsLeft x space m first done ts) (λ loaded s. quiet x s)
  unfolding LoadsLeft
  loads_tell m first done [] p have = tells_ok p (λ s q. q)
  loads_tell m first done (t ∷ ts) p have =
      let one = read_operand_of space t.at (bytes_of m.size) in
      tells_bind (failing (λ refused. record { fault = refused_at first done refused.fault; plain = p }) one)
      (λ value. load_all_of m space first (done + 1) ts (loaded_of m.mode m.size p t.register value))
      (tells_failing (λ refused. record { fault = refused_at first done refused.fault; plain = p }) one
      (tells_weaker one (operand_tells x space g t.at (bytes_of m.size) have.0) (λ s q. q)
      (λ rest u e told. (told.0, refl, (0, omega arith, resumes_then _ (resumes_then _ told.2)))) (λ a u q. q)))
      (λ value. tells_weaker _ (loads_tell m first (done + 1) ts (loaded_of m.mode m.size p t.register value) have.1) (λ s q. q)
      (λ rest u e told. let (k, far, resumes) = told.2 in (told.0, told.1, (suc k, omega arith, resumes))) (λ a u q. q))

  -- the transfers from one on are those from a later one on, behind those between
  further : (m : Movem) (ea done k more : ℕ) → more ≡ done + k → drop k (drop done (transfers_of m ea)) ≡ drop more (transfers_of m ea)
  further m ea done k more e = drop-drop k done (transfers_of m ea) ∙ ap (λ n. drop n (transfers_of m ea)) (sym e)

  load_tells : (size : Size) (ea : Ea) (mask place done : ℕ) (p : Plain) → place < 2 ^ 32
      → let m = movem_by true size ea mask in
      Telling x (quiet x) (transfer_of m place done space p) (TransferLeft x space m) (λ moved s. x.serving s)
  unfolding TransferLeft LoadsLeft
  load_tells size ea mask place done p h =
      let m = movem_by true size ea mask in
      let ts = transfers_of m place in
      tells_bind (load_all_of m space place done (drop done ts) p) (λ moved. Return (Ok (stepped_of m.mode m.size place (length ts) moved)))
      (tells_weaker (load_all_of m space place done (drop done ts) p) (loads_tell m place done (drop done ts) p (transfer_addresses m place done h)) (λ s q. q)
      (λ rest t e told.
      let (k, far, resumes) = told.2 in
      let from = subst (λ l. Resumes (λ c answer. x.stands c answer t) (tree_of (load_all_of m space place e.fault.done l e.plain)) (tree_of rest))
      (further m place done k e.fault.done far) resumes in (
        told.0,
        subst (λ first. Resumes (λ c answer. x.stands c answer t) (tree_of (transfer_of m first e.fault.done space e.plain))
            (tree_of (rest >>= λ moved. Return (Ok (stepped_of m.mode m.size place (length ts) moved))))) (sym told.1) (resumes_then _ from),
      ))
      (λ a t q. q.0))
      (λ moved. tells_ok _ (λ s q. q))

  store_tells : (size : Size) (ea : Ea) (mask place done : ℕ) (p : Plain) → place < 2 ^ 32
      → let m = movem_by false size ea mask in
      Telling x (quiet x) (transfer_of m place done space p) (TransferLeft x space m) (λ moved s. x.serving s)
  unfolding TransferLeft StoresLeft
  store_tells size ea mask place done p h =
      let m = movem_by false size ea mask in
      let ts = transfers_of m place in
      let all = store_all_of m space p place done (drop done ts) in
      tells_bind (failing (λ fault. record { fault = fault; plain = p }) all >> Return (Ok p))
      (λ moved. Return (Ok (stepped_of m.mode m.size place (length ts) moved)))
      (tells_bind (failing (λ fault. record { fault = fault; plain = p }) all) (λ stored. Return (Ok p))
      (tells_failing (λ fault. record { fault = fault; plain = p }) all
      (tells_weaker all (stores_tell m p place done (drop done ts) (transfer_addresses m place done h)) (λ s q. q.0)
      (λ rest t e told.
      let (k, far, resumes) = told.2 in
      let from = subst (λ l. Resumes (λ c answer. x.stands c answer t) (tree_of (store_all_of m space p place e.done l)) (tree_of rest))
      (further m place done k e.done far) resumes in (
        told.0,
        subst (λ first. Resumes (λ c answer. x.stands c answer t) (tree_of (transfer_of m first e.done space p))
            (tree_of ((failing (λ fault. record { fault = fault; plain = p }) rest >> Return (Ok p))
            >>= λ moved. Return (Ok (stepped_of m.mode m.size place (length ts) moved))))) (sym told.1)
            (resumes_then _ (resumes_then _ (resumes_then _ from))),
      ))
      (λ a t q. q)))
      (λ stored. tells_ok p (λ s q. q)))
      (λ moved. tells_ok _ (λ s q. q))

  transfer_tells : (is_load : Bool) (size : Size) (ea : Ea) (mask place done : ℕ) (p : Plain) → place < 2 ^ 32
      → let m = movem_by is_load size ea mask in
      Telling x (quiet x) (transfer_of m place done space p) (TransferLeft x space m) (λ moved s. x.serving s)
  transfer_tells true size ea mask place done p h = load_tells size ea mask place done p h
  transfer_tells false size ea mask place done p h = store_tells size ea mask place done p h

  pub movem_tells : {moves : Movem → Type 0} (is_load : Bool) (size : Size) (ea : Ea) (mask word_at : ℕ) (p : Plain)
      → moves (movem_by is_load size ea mask) → IsFormed ea → AreLongs p.a → RowTells x space p moves (movem_of is_load size ea mask word_at space p)
  unfolding TransferLeft
  movem_tells is_load size ea mask word_at p is in_range longs =
      row_reading x space (address_tells x space g size ea word_at p in_range longs) (λ place found.
      let m = movem_by is_load size ea mask in
      let stop_by : Halfway → Cut OtherEnd = λ halfway. Stop (record { ended = ended.Movem halfway.fault; plain = halfway.plain }) in
      tells_bind (transferring (transfer_of m place 0 space p)) (λ moved. Return (carried moved))
      (tells_failing stop_by (transfer_of m place 0 space p)
      (tells_weaker (transfer_of m place 0 space p) (transfer_tells is_load size ea mask place 0 p found) (λ s q. q)
      (λ rest t e told. (
        told.0,
        (
          m,
          is,
          subst (λ whole. Resumes (λ c answer. x.stands c answer t) whole (tree_of (restoring p (transferring rest >>= λ moved. Return (carried moved)))))
              (closed_end stop_by (restored p) (λ (moved : Plain). let end : Carried = record { flow = false; plain = moved } in end)
              (tree_of (transfer_of m e.fault.first e.fault.done space e.plain)))
              (resumes_then _ (resumes_then _ (resumes_then _ told.1))),
        ),
      ))
      (λ a t q. q)))
      (λ moved. tells_ok _ (λ s q. q)))
