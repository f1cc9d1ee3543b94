-- Parts that instructions share.
use Rattle.std.specs.Prelude.{ℕ, zero, suc, ◌+◌, ◌-◌, ◌*◌, ◌%◌, ◌^◌, ◌==◌, nat_lt, List, [], ◌∷◌, ◌++◌}
use Rattle.std.proofs.Common.{arith}
use Rattle.mb_port.specs.Routine.{Read, Probe, Bus}
use Rattle.mb_port.specs.Pieces.{piece_len, cut}
use Rattle.mb_port.specs.declared.types.Space.{Space}
use Rattle.mb_port.specs.declared.types.Place.{Place}
use Rattle.mb_instr.specs.declared.size.Size.{Size}
use Rattle.mb_instr.specs.declared.operand.Ea.{Ea}
use Rattle.mb_instr.specs.declared.operand.Ea.TheVariants.{Dn, An, Ind, Post, Pre, Disp, Index, AbsW, AbsL, PcDisp, PcIndex, Imm}
use Rattle.mb_instr.specs.declared.operand.Ext.{Ext}
use Rattle.mb_instr.specs.declared.operand.Ext.TheVariants.{Brief, Full}
use Rattle.mb_instr.specs.declared.registers.Plain.{Plain}
use Rattle.mb_instr.specs.FurtherWords.{extension_word}
use Rattle.mb_instr.specs.Sizes.{bytes_of}
use Rattle.mb_instr.specs.Registers.{address_register}
use Rattle.mb_ea.specs.declared.addresses.Target.{Target}
use Rattle.mb_ea.specs.declared.addresses.Target.TheVariants.{Reg, Memory, Value}
use Rattle.mb_ea.specs.Reading.{read_pieces_of, refused_in, read_operand_of}
use Rattle.mb_ea.specs.Resolve.{indirect_of, full_of, parts_of, indexed_of, in_memory, resolve_of}
use Rattle.mb_writes.specs.declared.ends.Ended.TheVariants as ended
use Rattle.mb_writes.specs.Checked.{probe_pieces_of, probe_operand_of}
use Rattle.mb_writes.specs.Writing.{write_operand_of}
use Rattle.def_instructions.specs.Operands.{load_of, store_of, fetch_operand_of, find_address_of, finish_with_of, push_of}
use Rattle.law_calls.proofs.Few.{Few, Never, few_done, few_none, few_more, few_ask, few_then, few_failing, few_choose}
use Rattle.law_calls.proofs.Few.{never_carried, never_then, never_stopping}

module _ {S : Type 0} (bus : Bus S) (space : Space) where
  -- ---- pieces

  pieces_few : (n at left value : ℕ) → Few bus n (read_pieces_of space (cut n at left) value)
  pieces_few zero at left value = few_none bus 0 _
  pieces_few (suc n) at zero value = few_none bus (suc n) _
  pieces_few (suc n) at (suc left) value =
      let k = piece_len at (suc left) in
      few_more bus (omega arith) (few_then bus (few_ask bus (Read space (record { at = at; len = k })))
      (λ x. pieces_few n ((at + k) % 2 ^ 32) (suc left - k) (value * 256 ^ k + x)))

  pub operand_few : (at len : ℕ) → Few bus 3 (read_operand_of space at len)
  unfolding read_operand_of
  operand_few at len = few_failing bus (refused_in at) (pieces_few 3 at len 0)

  probes_few : (n at left : ℕ) (places : List Place) → Few bus n (probe_pieces_of space (cut n at left) places)
  probes_few zero at left places = few_none bus 0 _
  probes_few (suc n) at zero places = few_none bus (suc n) _
  probes_few (suc n) at (suc left) places =
      let k = piece_len at (suc left) in
      few_more bus (omega arith) (few_then bus (few_ask bus (Probe space (record { at = at; len = k })))
      (λ place. probes_few n ((at + k) % 2 ^ 32) (suc left - k) (places ++ place ∷ [])))

  pub probe_few : (at len : ℕ) → Few bus 3 (probe_operand_of space at len)
  probe_few at len = few_failing bus (refused_in at) (probes_few 3 at len [])

  -- ---- operands

  indirect_few : (at outer : ℕ) → Few bus 3 (indirect_of space at outer)
  indirect_few at outer = few_then bus (operand_few at 4) (λ long. few_done bus _)

  full_few : (base w bd od : ℕ) (p : Plain) → Few bus 3 (full_of w (parts_of base w bd od p) space)
  full_few base w bd od p =
      let kind = (extension_word w).indirection in
      few_choose bus (kind == 0) (few_none bus 3 _) (few_choose bus (nat_lt kind 4) (indirect_few _ _) (indirect_few _ _))

  indexed_few : (base : ℕ) (e : Ext) (p : Plain) → Few bus 3 (indexed_of base e space p)
  indexed_few base (Brief w) p = few_none bus 3 _
  indexed_few base (Full w bd od) p = full_few base w bd od p

  in_memory_few : (base : ℕ) (e : Ext) (p : Plain) → Few bus 3 (in_memory p (indexed_of base e space p))
  in_memory_few base e p = few_then bus (indexed_few base e p) (λ at. few_done bus _)

  pub resolve_few : (ea : Ea) (size : Size) (word_at : ℕ) (p : Plain) → Few bus 3 (resolve_of ea size word_at space p)
  unfolding resolve_of
  resolve_few (Index n e) size word_at p = in_memory_few (address_register p n) e p
  resolve_few (PcIndex e) size word_at p = in_memory_few word_at e p
  resolve_few (Dn n) size word_at p = few_none bus 3 _
  resolve_few (An n) size word_at p = few_none bus 3 _
  resolve_few (Ind n) size word_at p = few_none bus 3 _
  resolve_few (Post n) size word_at p = few_none bus 3 _
  resolve_few (Pre n) size word_at p = few_none bus 3 _
  resolve_few (Disp n d) size word_at p = few_none bus 3 _
  resolve_few (AbsW a) size word_at p = few_none bus 3 _
  resolve_few (AbsL a) size word_at p = few_none bus 3 _
  resolve_few (PcDisp d) size word_at p = few_none bus 3 _
  resolve_few (Imm v) size word_at p = few_none bus 3 _

  load_few : (target : Target) (size : Size) (p : Plain) → Few bus 3 (load_of target size space p)
  load_few (Reg n) size p = few_none bus 3 _
  load_few (Memory at) size p = operand_few at (bytes_of size)
  load_few (Value v) size p = few_none bus 3 _

  pub fetched_few : (size : Size) (ea : Ea) (word_at : ℕ) (p : Plain) → Few bus 6 (fetch_operand_of size ea word_at space p)
  fetched_few size ea word_at p = few_then bus (resolve_few ea size word_at p) (λ resolved.
      few_then bus (load_few resolved.target size resolved.plain) (λ value. few_done bus _))

  pub address_few : (size : Size) (ea : Ea) (word_at : ℕ) (p : Plain) → Few bus 3 (find_address_of size ea word_at space p)
  address_few size ea word_at p = few_then bus (resolve_few ea size word_at p) (λ resolved. few_done bus _)

  -- ---- the last parts of instructions, which write

  pub finish_never : (target : Target) (size : Size) (value : ℕ) (after : Plain) → Never bus (finish_with_of target size value space after)
  finish_never target size value after =
      never_then bus
      (never_stopping bus (λ refused. record { ended = ended.WriteFault refused; plain = after }) (store_of target size value space after) (λ e u. u))
      (λ done. never_carried bus _)

  pub push_never : (value top : ℕ) (after : Plain) → Never bus (push_of value top space after)
  push_never value top after =
      never_stopping bus (λ refused. record { ended = ended.WriteFault refused; plain = after }) (write_operand_of space top 4 value) (λ e u. u)
