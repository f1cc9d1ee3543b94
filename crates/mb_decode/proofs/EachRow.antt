-- All rows: each is read from its spelling, and what is read is spelled so.
use Rattle.std.proofs.Common.{◌≡◌, ◌⊎◌, inl, inr, ℕ, ◌<◌, Bool, true, false, List, ◌++◌, Ok, refl, sym, subst, arith}
use Rattle.std.specs.Prelude.{◌&&◌, ◌||◌, ◌==◌}
use Rattle.mb_instr.specs.declared.size.Size.{Size}
use Rattle.mb_instr.specs.declared.size.Size.TheVariants as size
use Rattle.mb_instr.specs.declared.instruction.Move.TheVariants as move
use Rattle.mb_instr.specs.declared.instruction.Arith.TheVariants as arith_of
use Rattle.mb_instr.specs.declared.instruction.Flow.TheVariants as flow
use Rattle.mb_instr.specs.declared.instruction.System.TheVariants as system
use Rattle.mb_instr.specs.declared.instruction.Instr.{Instr}
use Rattle.mb_instr.specs.declared.instruction.Instr.TheVariants.{Move, Arith, Flow, System}
use Rattle.mb_instr.specs.declared.opcode.Opcode.{Opcode}
use Rattle.mb_instr.specs.Sizes.{not_byte}
use Rattle.mb_instr.specs.Opcodes.{IsOpcode}
use Rattle.mb_instr.specs.Rows.{row}
use Rattle.mb_decode.proofs.Shapes.{Shape, none, either, equal, below}
use Rattle.mb_instr.specs.declared.instruction.Move as the_move
use Rattle.mb_instr.specs.declared.instruction.Arith as the_arith
use Rattle.mb_instr.specs.declared.instruction.Flow as the_flow
use Rattle.mb_instr.specs.declared.instruction.System as the_system
use Rattle.mb_instr.specs.Shapes.{further}
use Rattle.mb_decode.specs.RowReading.{row_at, low_line, high_line}
use Rattle.mb_decode.proofs.Found.{eq_true}
use Rattle.mb_decode.proofs.Fields.{test_holds}
use Rattle.mb_decode.proofs.Line0.{movep_read, bit_reg_read, bit_imm_read, cmp2_read, chk2_read, cas_read, cas2_read, immediate_again, ccr_again, sr_again}
use Rattle.mb_decode.proofs.Line0.{cmpi_read, moves_read, line_0_shape}
use Rattle.mb_decode.proofs.Line1.{move_read, movea_read, line_move_shape}
use Rattle.mb_decode.proofs.Line4.{unary_again, status_again, nbcd_read, pea_read, jsr_read, jmp_read, chk_read, movem_load_read, unlk_read, stop_read}
use Rattle.mb_decode.proofs.Line4.{rtd_read}
use Rattle.mb_decode.proofs.Line4.{tst_read, tas_read, lea_read, extb_read, ext_word_read, ext_long_read, mul_read, div_read, link_long_read, swap_read}
use Rattle.mb_decode.proofs.Line4.{movem_read}
use Rattle.mb_decode.proofs.Line4.{trap_read, link_word_read, move_usp_read, reset_read, nop_read, rte_read, rts_read, trapv_read, rtr_read, movec_read}
use Rattle.mb_decode.proofs.Line4.{line_4_shape}
use Rattle.mb_decode.proofs.Line5.{quick_read, scc_read, dbcc_read, trapcc_read, bcc_read, moveq_read, line_5_shape, line_6_shape, line_7_shape}
use Rattle.mb_decode.proofs.Line8.{logic_again, sum_again, address_again, extended_again, product_again, decimal_again, pack_read, unpk_read, exg_read}
use Rattle.mb_decode.proofs.Line8.{cmpa_read, cmp_read, cmpm_read, eor_read, AddressRow, LogicRows, SumRows, line_8_shape, line_9_shape, line_11_shape}
use Rattle.mb_decode.proofs.Line14.{shift_read, shift_mem_read, field_read, line_14_shape}
use Rattle.mb_decode.proofs.Line15.{cinv_read, cpush_read, pflush_read, ptest_read, move16_abs_read, move16_post_read, line_15_shape}

-- a row is read from its spelling, whatever follows
abbrev IsRead : Instr → Type 0
IsRead i = (rest : List ℕ) → (row i).legal ≡ true → row_at (row i).opcode (further (row i) ++ rest) ≡ Ok (i, rest)

movep_legal : (s : Size) → (not_byte s && true) ≡ true → not_byte s ≡ true
movep_legal s h = test_holds (not_byte s) h

move_again : (i : the_move.Move) → IsRead (Move i)
unfolding row_at low_line high_line
move_again (move.Exg x k y) rest h = exg_read x k y rest
move_again (move.FromCcr ea) rest h = status_again 1 ea rest h refl
move_again (move.Lea a ea) rest h = lea_read a ea rest h
move_again (move.LinkL a d) rest h = link_long_read a d rest
move_again (move.LinkW a d) rest h = link_word_read a d rest
move_again (move.Move size.Byte d e) rest h = move_read size.Byte d e rest h
move_again (move.Move size.Word d e) rest h = move_read size.Word d e rest h
move_again (move.Move size.Long d e) rest h = move_read size.Long d e rest h
move_again (move.Move16Abs k a l) rest h = move16_abs_read k a l rest
move_again (move.Move16Post x w) rest h = move16_post_read x w rest h
move_again (move.Movea size.Byte a ea) rest h = absurd cc
move_again (move.Movea size.Word a ea) rest h = movea_read size.Word a ea rest h
move_again (move.Movea size.Long a ea) rest h = movea_read size.Long a ea rest h
move_again (move.MovemStore s ea w) rest h = movem_read s ea w rest h
move_again (move.MovemLoad s ea w) rest h = movem_load_read s ea w rest h
move_again (move.Movep d k s a w) rest h = movep_read d k s a w rest (movep_legal s h)
move_again (move.Moveq d n) rest h = moveq_read d n rest
move_again (move.Pea ea) rest h = pea_read ea rest h
move_again (move.Scc c ea) rest h = scc_read c ea rest h
move_again (move.Swap d) rest h = swap_read d rest
move_again (move.ToCcr ea) rest h = status_again 2 ea rest h refl
move_again (move.Unlk a) rest h = unlk_read a rest

arith_again : (i : the_arith.Arith) → IsRead (Arith i)
unfolding row_at low_line high_line
arith_again (arith_of.Abcd x m y) rest h = decimal_again 12 x m y rest
arith_again (arith_of.Add d k s ea) rest h = sum_again 13 d k s ea rest h
arith_again (arith_of.Adda a s ea) rest h = address_again 13 a s ea rest h
arith_again (arith_of.Addi s ea v) rest h = immediate_again 3 s ea v rest h refl refl refl
arith_again (arith_of.Addq q s ea) rest h = quick_read 0 q s ea rest h
arith_again (arith_of.Addx x s m y) rest h = extended_again 13 x s m y rest
arith_again (arith_of.And d k s ea) rest h = logic_again 12 d k s ea rest h
arith_again (arith_of.Andi s ea v) rest h = immediate_again 1 s ea v rest h refl refl refl
arith_again (arith_of.AndiCcr w) rest h = ccr_again 1 w rest refl refl refl refl
arith_again (arith_of.BitImm k ea w) rest h = bit_imm_read k ea w rest h
arith_again (arith_of.BitReg d k ea) rest h = bit_reg_read d k ea rest h
arith_again (arith_of.Cas s ea w) rest h = cas_read s ea w rest h
arith_again (arith_of.Cas2 s w v) rest h = cas2_read s w v rest h
arith_again (arith_of.Clr s ea) rest h = unary_again 1 s ea rest h refl
arith_again (arith_of.Cmp d s ea) rest h = cmp_read d s ea rest h
arith_again (arith_of.Cmp2 s ea w) rest h = cmp2_read s ea w rest h
arith_again (arith_of.Cmpa a s ea) rest h = cmpa_read a s ea rest h
arith_again (arith_of.Cmpi s ea v) rest h = cmpi_read s ea v rest h
arith_again (arith_of.Cmpm x s y) rest h = cmpm_read x s y rest
arith_again (arith_of.DivL ea w) rest h = div_read ea w rest h
arith_again (arith_of.DivW d g ea) rest h = product_again 8 d g ea rest h
arith_again (arith_of.Eor d s ea) rest h = eor_read d s ea rest h
arith_again (arith_of.Eori s ea v) rest h = immediate_again 5 s ea v rest h refl refl refl
arith_again (arith_of.EoriCcr w) rest h = ccr_again 5 w rest refl refl refl refl
arith_again (arith_of.ExtL d) rest h = ext_long_read d rest
arith_again (arith_of.ExtW d) rest h = ext_word_read d rest
arith_again (arith_of.ExtbL d) rest h = extb_read d rest
arith_again (arith_of.Field k ea w) rest h = field_read k ea w rest h
arith_again (arith_of.MulL ea w) rest h = mul_read ea w rest h
arith_again (arith_of.MulW d g ea) rest h = product_again 12 d g ea rest h
arith_again (arith_of.Nbcd ea) rest h = nbcd_read ea rest h
arith_again (arith_of.Neg s ea) rest h = unary_again 2 s ea rest h refl
arith_again (arith_of.Negx s ea) rest h = unary_again 0 s ea rest h refl
arith_again (arith_of.Not s ea) rest h = unary_again 3 s ea rest h refl
arith_again (arith_of.Or d k s ea) rest h = logic_again 8 d k s ea rest h
arith_again (arith_of.Ori s ea v) rest h = immediate_again 0 s ea v rest h refl refl refl
arith_again (arith_of.OriCcr w) rest h = ccr_again 0 w rest refl refl refl refl
arith_again (arith_of.Pack x m y w) rest h = pack_read x m y w rest
arith_again (arith_of.Sbcd x m y) rest h = decimal_again 8 x m y rest
arith_again (arith_of.ShiftMem k l ea) rest h = shift_mem_read k l ea rest h
arith_again (arith_of.ShiftReg n l s i k r) rest h = shift_read n l s i k r rest h
arith_again (arith_of.Sub d k s ea) rest h = sum_again 9 d k s ea rest h
arith_again (arith_of.Suba a s ea) rest h = address_again 9 a s ea rest h
arith_again (arith_of.Subi s ea v) rest h = immediate_again 2 s ea v rest h refl refl refl
arith_again (arith_of.Subq q s ea) rest h = quick_read 1 q s ea rest h
arith_again (arith_of.Subx x s m y) rest h = extended_again 9 x s m y rest
arith_again (arith_of.Tas ea) rest h = tas_read ea rest h
arith_again (arith_of.Tst s ea) rest h = tst_read s ea rest h
arith_again (arith_of.Unpk x m y w) rest h = unpk_read x m y w rest

flow_again : (i : the_flow.Flow) → IsRead (Flow i)
unfolding row_at low_line high_line
flow_again (flow.Bcc c d) rest h = bcc_read c d rest h
flow_again (flow.Chk d s ea) rest h = chk_read d s ea rest h
flow_again (flow.Chk2 s ea w) rest h = chk2_read s ea w rest h
flow_again (flow.Dbcc c d w) rest h = dbcc_read c d w rest
flow_again (flow.Jmp ea) rest h = jmp_read ea rest h
flow_again (flow.Jsr ea) rest h = jsr_read ea rest h
flow_again flow.Nop rest h = nop_read rest
flow_again (flow.Rtd d) rest h = rtd_read d rest
flow_again flow.Rtr rest h = rtr_read rest
flow_again flow.Rts rest h = rts_read rest
flow_again (flow.Trap v) rest h = trap_read v rest h
flow_again (flow.Trapcc c o) rest h = trapcc_read c o rest
flow_again flow.Trapv rest h = trapv_read rest

system_again : (i : the_system.System) → IsRead (System i)
unfolding row_at low_line high_line
system_again (system.AndiSr w) rest h = sr_again 1 w rest refl refl refl refl
system_again (system.Cinv c s a) rest h = cinv_read c s a rest
system_again (system.Cpush c s a) rest h = cpush_read c s a rest
system_again (system.EoriSr w) rest h = sr_again 5 w rest refl refl refl refl
system_again (system.FromSr ea) rest h = status_again 0 ea rest h refl
system_again (system.MoveUsp k a) rest h = move_usp_read k a rest
system_again (system.Movec k w) rest h = movec_read k w rest h
system_again (system.Moves s ea w) rest h = moves_read s ea w rest h
system_again (system.OriSr w) rest h = sr_again 0 w rest refl refl refl refl
system_again (system.Pflush k a) rest h = pflush_read k a rest
system_again (system.Ptest k a) rest h = ptest_read k a rest
system_again system.Reset rest h = reset_read rest
system_again system.Rte rest h = rte_read rest
system_again (system.Stop w) rest h = stop_read w rest
system_again (system.ToSr ea) rest h = status_again 3 ea rest h refl

pub row_read : (i : Instr) → IsRead i
row_read (Move i) = move_again i
row_read (Arith i) = arith_again i
row_read (Flow i) = flow_again i
row_read (System i) = system_again i

or_cases : (a b : Bool) → (a || b) ≡ true → (a ≡ true) ⊎ (b ≡ true)
or_cases true b e = inl refl
or_cases false b e = inr e

one_of : (n a b : ℕ) → ((n == a) || (n == b)) ≡ true → (n ≡ a) ⊎ (n ≡ b)
one_of n a b e = elim (or_cases (n == a) (n == b) e) [ inl x ↦ inl (eq_true n a x) | inr x ↦ inr (eq_true n b x) ]

logic_rows : (n : ℕ) → (n ≡ 8) ⊎ (n ≡ 12) → LogicRows n
logic_rows n (inl e) = subst LogicRows (sym e) (record {
  binary = λ d k s ea. refl;
  product = λ d g ea. refl;
  decimal = λ x m y. refl;
  lines = λ other. absurd (other refl);
})
logic_rows n (inr e) = subst LogicRows (sym e) (record {
  binary = λ d k s ea. refl;
  product = λ d g ea. refl;
  decimal = λ x m y. refl;
  lines = λ other. refl;
})

sum_rows : (n : ℕ) → (n ≡ 9) ⊎ (n ≡ 13) → SumRows n
sum_rows n (inl e) =
    subst SumRows (sym e) (record { binary = λ d k s ea. refl; address = λ a s ea. refl; extended = λ x s m y. refl })
sum_rows n (inr e) =
    subst SumRows (sym e) (record { binary = λ d k s ea. refl; address = λ a s ea. refl; extended = λ x s m y. refl })

low_shape : (p : Opcode) → IsOpcode p → p.line < 8 → Shape row p (low_line p)
unfolding low_line
low_shape p is low =
    equal row p p.line 0 _ _ (λ l. line_0_shape p is l) (λ n0.
    below row p p.line 4 _ _ (λ l. line_move_shape p is (omega arith) l) (λ h.
    equal row p p.line 4 _ _ (λ l. line_4_shape p is l) (λ n4.
    equal row p p.line 5 _ _ (λ l. line_5_shape p is l) (λ n5.
    equal row p p.line 6 _ _ (λ l. line_6_shape p is l) (λ n6. line_7_shape p is (omega arith))))))

high_shape : (p : Opcode) → IsOpcode p → Shape row p (high_line p)
unfolding high_line
high_shape p is =
    either row p ((p.line == 8) || (p.line == 12)) _ _ (λ e. line_8_shape p is (logic_rows p.line (one_of p.line 8 12 e))) (λ n.
    either row p ((p.line == 9) || (p.line == 13)) _ _ (λ e. line_9_shape p is (sum_rows p.line (one_of p.line 9 13 e))) (λ n.
    equal row p p.line 11 _ _ (λ l. line_11_shape p is l (subst AddressRow (sym l) (λ a s ea. refl))) (λ n.
    equal row p p.line 14 _ _ (λ l. line_14_shape p is l) (λ n.
    equal row p p.line 15 _ _ (λ l. line_15_shape p is l) (λ n. none row p)))))

-- what a first word's reader reads is spelled so
pub row_shape : (p : Opcode) → IsOpcode p → Shape row p (row_at p)
unfolding row_at
row_shape p is = below row p p.line 8 _ _ (λ low. low_shape p is low) (λ high. high_shape p is)
