-- Lines 1 to 3: MOVE and MOVEA are read from their spellings, and what is read is spelled so.
use Rattle.std.proofs.Common.{◌≡◌, ℕ, ◌+◌, ◌*◌, ◌/◌, ◌%◌, ◌<◌, ◌≤◌, true, List, ◌++◌, Ok, refl, sym, ◌∙◌, append_assoc, arith}
use Rattle.std.specs.Prelude.{◌&&◌}
use Rattle.mb_instr.specs.declared.size.Size.{Size}
use Rattle.mb_instr.specs.declared.size.Size.TheVariants as size
use Rattle.mb_instr.specs.declared.operand.Ea.{Ea}
use Rattle.mb_instr.specs.declared.operand.OperandClass.TheVariants.{All, DataAlterable}
use Rattle.mb_instr.specs.declared.instruction.Move.TheVariants as move
use Rattle.mb_instr.specs.declared.instruction.Instr.TheVariants.{Move}
use Rattle.mb_instr.specs.declared.opcode.Opcode.{Opcode}
use Rattle.mb_instr.specs.Sizes.{move_bits, move_size, not_byte}
use Rattle.mb_instr.specs.Opcodes.{IsOpcode}
use Rattle.mb_instr.specs.Operands.{allows, takes, mode, lower, more}
use Rattle.mb_instr.specs.Shapes.{op}
use Rattle.mb_instr.specs.Rows.{row}
use Rattle.mb_decode.specs.Reading.{operand_at}
use Rattle.mb_decode.proofs.ReadBack.{next, taken, operand_read, ea_read}
use Rattle.mb_decode.proofs.Found.{after}
use Rattle.mb_decode.proofs.Steady.{then_steady, always, made_steady, made_readable, operand_steady, operand_readable}
use Rattle.mb_decode.proofs.Shapes.{Found, Shape, equal, only, op_is, guarded, made_row, both, joined, class_found, ea_shape}
use Rattle.mb_decode.specs.RowReading.{move_mode, allows_move, move_at, movea_at, line_move}
use Rattle.mb_decode.proofs.Fields.{move_bits_of, not_address}
use Rattle.mb_instr.proofs.Ranges.{and_is}

mode_of : (ea : Ea) → mode ea / 4 * 4 + mode ea % 4 ≡ mode ea
mode_of ea = omega arith

move_size_is : (s : Size) → move_size (move_bits s) ≡ s
move_size_is size.Byte = refl
move_size_is size.Word = refl
move_size_is size.Long = refl

move_mode_fits : (p : Opcode) → IsOpcode p → move_mode p < 8
move_mode_fits p is = let bit = is.bit in let size = is.size in omega arith

-- ---- from its spelling

pub move_read : (s : Size) (d e : Ea) (rest : List ℕ) → (takes All s e && takes DataAlterable s d) ≡ true →
    line_move (op (move_bits s) (lower d) (mode d / 4) (mode d % 4) (mode e) (lower e)) ((more s e ++ more s d) ++ rest) ≡ Ok (Move (move.Move s d e), rest)
move_read s d e rest h =
    let p = and_is (takes All s e) (takes DataAlterable s d) h in
    let source = taken All s e p.0 in
    let destination = taken DataAlterable s d p.1 in
    let other = not_address s (mode d) (lower d) destination.0 in
    let size = move_size_is s in
    rw (mode_of d, destination.0, other, size, source.0, append_assoc)
    (next _ _ _ _ _ (operand_read s e _ source.1) ∙ next _ _ _ _ _ (operand_read s d rest destination.1))

pub movea_read : (s : Size) (a : ℕ) (ea : Ea) (rest : List ℕ) → (not_byte s && takes All s ea) ≡ true →
    line_move (op (move_bits s) a 0 1 (mode ea) (lower ea)) (more s ea ++ rest) ≡ Ok (Move (move.Movea s a ea), rest)
movea_read size.Byte a ea rest h = absurd cc
movea_read size.Word a ea rest h = next _ _ _ _ _ (ea_read All size.Word 3 a 0 1 ea rest h)
movea_read size.Long a ea rest h = next _ _ _ _ _ (ea_read All size.Long 2 a 0 1 ea rest h)

-- ---- what is read

move_shape : (p : Opcode) (s : Size) → IsOpcode p → p.line ≡ move_bits s → Shape row p (move_at s p)
move_shape p s is line = only row p (allows_move s p) _ (λ legal.
    let ok = and_is (allows All s p.mode p.lower) (allows DataAlterable s (move_mode p) p.upper) legal in
    record {
      found = λ ws h. after (operand_at s p.mode p.lower) _ ws (Found row p ws) (λ e. tt) (λ e mid ee.
          let a = class_found All s p.mode p.lower ws e mid is.mode h ok.0 ee in
          after (operand_at s (move_mode p) p.upper) _ mid (Found row p ws) (λ e. tt) (λ d rest ed.
          let b = class_found DataAlterable s (move_mode p) p.upper mid d rest (move_mode_fits p is) a.1.taken.rest_words ok.1 ed in
          let m = b.1.mode_is in
          let bit = is.bit in
          let size = is.size in
          let high : p.bit ≡ mode d / 4 = omega arith in
          let low : p.size ≡ mode d % 4 = omega arith in
          record {
            legal = both a.0 b.0;
            opcode = op_is p _ _ _ _ _ _ line (sym b.1.lower_is) high low (sym a.1.mode_is) (sym a.1.lower_is);
            taken = joined _ _ _ _ _ a.1.taken b.1.taken;
          }));
      steady =
          then_steady _ _ (operand_steady _ _ _) (λ e. made_steady _ _ (operand_steady _ _ _))
          (always _ _ (operand_steady _ _ _) (λ e. made_readable _ _ (operand_steady _ _ _) (operand_readable _ _ _)));
    })

movea_shape : (p : Opcode) (s : Size) → IsOpcode p → p.line ≡ move_bits s → p.bit ≡ 0 → p.size ≡ 1 → Shape row p (movea_at s p)
movea_shape p s is line bit size = only row p (not_byte s) _ (λ ok.
    made_row _ p _ _ (guarded _ p _ _ ok (ea_shape p All s _ p.upper 0 1 is line refl bit size)) (λ ea. refl))

pub line_move_shape : (p : Opcode) → IsOpcode p → 1 ≤ p.line → p.line < 4 → Shape row p (line_move p)
line_move_shape p is low high =
    let line = sym (move_bits_of p.line high low) in
    let bit = is.bit in
    let size = is.size in
    equal row p (move_mode p) 1 _ _
    (λ m. movea_shape p (move_size p.line) is line (omega arith) (omega arith)) (λ m. move_shape p (move_size p.line) is line)
