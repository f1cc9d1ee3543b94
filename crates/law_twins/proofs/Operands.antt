-- Operands: what stands there, and what is put there.
use Rattle.std.specs.Prelude.{refl, ℕ, ◌+◌, ◌*◌, ◌%◌, ◌^◌, ◌==◌, nat_lt, List, [], ◌∷◌}
use Rattle.mb_port.specs.Pieces.{split_of}
use Rattle.mb_port.specs.declared.types.Piece.{Piece}
use Rattle.law_routines.specs.Twin.{returned, Results}
use Rattle.law_routines.specs.Between.{Setting, Equal, SameFault, between}
use Rattle.law_routines.proofs.Twinned.{twins_choose}
use Rattle.law_routines.proofs.Between.{twin_read, twin_write}
use Rattle.mb_instr.specs.declared.size.Size.{Size}
use Rattle.mb_instr.specs.declared.operand.Ea.{Ea}
use Rattle.mb_instr.specs.declared.operand.Ea.TheVariants.{Index, PcIndex}
use Rattle.mb_instr.specs.declared.operand.Ext.{Ext}
use Rattle.mb_instr.specs.declared.operand.Ext.TheVariants.{Brief, Full}
use Rattle.mb_instr.specs.declared.registers.Plain.{Plain}
use Rattle.mb_instr.specs.Sizes.{bytes_of}
use Rattle.mb_instr.specs.Registers.{address_register}
use Rattle.mb_frames.specs.declared.pend.Pend.{Pend}
use Rattle.mb_frames.specs.AccessFields.{piece_of}
use Rattle.mb_ea.specs.declared.addresses.Target.{Target}
use Rattle.mb_ea.specs.declared.addresses.Target.TheVariants.{Reg, Memory, Value}
use Rattle.mb_ea.specs.Addresses.{sum}
use Rattle.mb_ea.specs.Reading.{read_pieces_of, read_cut_of, read_operand_of}
use Rattle.mb_ea.specs.Resolve.{indirect_of, full_of, parts_of, indexed_of, in_memory, resolve_of}
use Rattle.mb_writes.specs.Writing.{pending_of, write_pieces_of, write_operand_of}
use Rattle.def_instructions.specs.Operands.{load_of, store_of, fetch_operand_of, find_address_of, finish_with_of, push_of}
use Rattle.law_twins.specs.Twins.{SameRead, SameWrite}
use Rattle.law_twins.proofs.Parts.{SameCut, Rows, Stages, TwinParts, Reads, Writes, then_twins, failing_twins, writing_twins}

-- ---- what stands in memory

pub pieces_twins : (x : Setting) (pieces : List Piece) (value : ℕ)
    → TwinParts x (SameFault x) (read_pieces_of x.here pieces value) (read_pieces_of x.there pieces value)
pieces_twins x [] value = returned refl
pieces_twins x (p ∷ ps) value = then_twins x (SameFault x) (twin_read x p) (λ v. pieces_twins x ps (value * 256 ^ p.len + v))

cut_twins : (x : Setting) (at len : ℕ) → TwinParts x (SameFault x) (read_cut_of x.here at len) (read_cut_of x.there at len)
cut_twins x at len = pieces_twins x (split_of at len) 0

pub read_twins : (x : Setting) (at len : ℕ) → Reads x (read_operand_of x.here at len) (read_operand_of x.there at len)
unfolding read_operand_of
read_twins x at len = failing_twins x (SameFault x) (SameRead x) (λ e f h. record { fault = h; first = refl }) (cut_twins x at len)

-- ---- where a mode leads

indirect_twins : (x : Setting) (at outer : ℕ) → Reads x (indirect_of x.here at outer) (indirect_of x.there at outer)
indirect_twins x at outer = then_twins x (SameRead x) (read_twins x at 4) (λ long. returned refl)

full_twins : (x : Setting) (base w bd od : ℕ) (p : Plain)
    → let parts = parts_of base w bd od p in Reads x (full_of w parts x.here) (full_of w parts x.there)
full_twins x base w bd od p =
    let parts = parts_of base w bd od p in
    twins_choose (between x) (Results Equal (SameRead x)) (w % 8 == 0) _ _ _ _ (returned refl)
    (twins_choose (between x) (Results Equal (SameRead x)) (nat_lt (w % 8) 4) _ _ _ _
    (indirect_twins x (sum (sum parts.base parts.displacement) parts.index) parts.outer)
    (indirect_twins x (sum parts.base parts.displacement) (sum parts.index parts.outer)))

indexed_twins : (x : Setting) (base : ℕ) (e : Ext) (p : Plain) → Reads x (indexed_of base e x.here p) (indexed_of base e x.there p)
indexed_twins x base (Brief w) p = returned refl
indexed_twins x base (Full w bd od) p = full_twins x base w bd od p

in_memory_twins : (x : Setting) (base : ℕ) (e : Ext) (p : Plain)
    → Reads x (in_memory p (indexed_of base e x.here p)) (in_memory p (indexed_of base e x.there p))
in_memory_twins x base e p = then_twins x (SameRead x) (indexed_twins x base e p) (λ at. returned refl)

pub resolve_twins : (x : Setting) (ea : Ea) (size : Size) (word_at : ℕ) (p : Plain)
    → Reads x (resolve_of ea size word_at x.here p) (resolve_of ea size word_at x.there p)
unfolding resolve_of
resolve_twins x (Index n e) size word_at p = in_memory_twins x (address_register p n) e p
resolve_twins x (PcIndex e) size word_at p = in_memory_twins x word_at e p
resolve_twins x _ size word_at p = returned refl

-- ---- operands that are read

load_twins : (x : Setting) (target : Target) (size : Size) (p : Plain) → Reads x (load_of target size x.here p) (load_of target size x.there p)
load_twins x (Reg n) size p = returned refl
load_twins x (Memory at) size p = read_twins x at (bytes_of size)
load_twins x (Value v) size p = returned refl

pub operand_twins : (x : Setting) (size : Size) (ea : Ea) (word_at : ℕ) (p : Plain)
    → Reads x (fetch_operand_of size ea word_at x.here p) (fetch_operand_of size ea word_at x.there p)
operand_twins x size ea word_at p =
    then_twins x (SameRead x) (resolve_twins x ea size word_at p) (λ resolved.
    then_twins x (SameRead x) (load_twins x resolved.target size resolved.plain) (λ value. returned refl))

pub address_twins : (x : Setting) (size : Size) (ea : Ea) (word_at : ℕ) (p : Plain)
    → Reads x (find_address_of size ea word_at x.here p) (find_address_of size ea word_at x.there p)
address_twins x size ea word_at p = then_twins x (SameRead x) (resolve_twins x ea size word_at p) (λ resolved. returned refl)

-- ---- operands that are written

pub write_all_twins : (x : Setting) (first : ℕ) (pending : List Pend) → Writes x (write_pieces_of x.here first pending) (write_pieces_of x.there first pending)
write_all_twins x first [] = returned refl
write_all_twins x first (p ∷ ps) =
    then_twins x (SameWrite x)
    (failing_twins x (SameFault x) (SameWrite x) (λ e f h. record { fault = h; first = refl; rest = refl }) (twin_write x (piece_of p) p.value))
    (λ done. write_all_twins x first ps)

pub put_twins : (x : Setting) (at len value : ℕ) → Writes x (write_operand_of x.here at len value) (write_operand_of x.there at len value)
unfolding write_operand_of
put_twins x at len value = write_all_twins x at (pending_of at len value)

pub store_twins : (x : Setting) (target : Target) (size : Size) (value : ℕ) (p : Plain)
    → Writes x (store_of target size value x.here p) (store_of target size value x.there p)
store_twins x (Reg n) size value p = returned refl
store_twins x (Memory at) size value p = then_twins x (SameWrite x) (put_twins x at (bytes_of size) value) (λ done. returned refl)
store_twins x (Value v) size value p = returned refl

-- ---- the last parts of instructions

pub storing_twins : (x : Setting) (target : Target) (size : Size) (value : ℕ) (after : Plain)
    → Rows x (finish_with_of target size value x.here after) (finish_with_of target size value x.there after)
storing_twins x target size value after =
    then_twins x (SameCut x) (writing_twins x after (store_twins x target size value after)) (λ done. returned refl)

pub pushing_twins : (x : Setting) (value top : ℕ) (after : Plain) → Stages x (push_of value top x.here after) (push_of value top x.there after)
pushing_twins x value top after = writing_twins x after (put_twins x top 4 value)
