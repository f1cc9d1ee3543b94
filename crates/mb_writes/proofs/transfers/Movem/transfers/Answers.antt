use Rattle.std.proofs.Common.{arith, ◌≡◌, ◌+◌, ◌%◌, ◌++◌, ◌∷◌, [], ℕ, List, length, length-append, ◌-◌, ap, sym, subst, ◌∙◌}
use Rattle.std.specs.Prelude.{map}
use Rattle.mb_instr.specs.Sizes.{bytes_of}
use Rattle.mb_writes.specs.declared.transfers.Transfer.{Transfer}
use Rattle.mb_writes.specs.Transfers.{transfer_step, number_of, placed, set_bits, transfers_of, AreTransfers}
use Rattle.mb_writes.proofs.Bits.{transfer_added, transfer_passed, all_placed, are_more, length-transfers}
use Rattle.mb_writes.proofs.transfers.Movem.transfers.Goals as goal

pub loop-bit-preserved-then-self-bit-eq0 : goal.loop-bit-preserved-then-self-bit-eq0
loop-bit-preserved-then-self-bit-eq0 c =
    let m = c.args.self.now in
    let few = c.loop-bit.invariant.few in record {
      told = transfer_passed m.mode m.mask c.loop-bit.bit (transfer_step m.mode (bytes_of m.size)) c.loop-bit.at c.loop-bit.transfers.items
          (transfers_of m c.args.ea)
          c.loop-bit-test.true c.if-self-bit-eq0.true c.loop-bit.invariant.told;
      registers = c.loop-bit.invariant.registers;
      few = omega arith;
    }

pub loop-bit-preserved : goal.loop-bit-preserved
loop-bit-preserved c =
    let m = c.args.self.now in
    let few = c.loop-bit.invariant.few in
    let items : c.push.new.self.items ≡ c.loop-bit.transfers.items ++ record { register = number_of m.mode c.loop-bit.bit; at = c.loop-bit.at } ∷ [] =
    c.push.ensures.items ∙ ap (λ (n : ℕ). c.loop-bit.transfers.items ++ record { register = n; at = c.loop-bit.at } ∷ []) c.number.ensures.value in
    let length-items = ap (λ (ts : List Transfer). length ts) items in record {
      told = ap (λ (ts : List Transfer).
          ts ++ placed (transfer_step m.mode (bytes_of m.size)) ((c.loop-bit.at + c.step-at.result) % 4294967296)
          (map (number_of m.mode) (set_bits m.mask (c.loop-bit.bit + 1) (16 - (c.loop-bit.bit + 1))))) items
          ∙ ap (λ (n : ℕ).
          (c.loop-bit.transfers.items ++ record { register = number_of m.mode c.loop-bit.bit; at = c.loop-bit.at } ∷ [])
          ++ placed (transfer_step m.mode (bytes_of m.size)) ((c.loop-bit.at + n) % 4294967296)
          (map (number_of m.mode) (set_bits m.mask (c.loop-bit.bit + 1) (16 - (c.loop-bit.bit + 1))))) c.step-at.ensures
          ∙ transfer_added m.mode m.mask c.loop-bit.bit (transfer_step m.mode (bytes_of m.size)) c.loop-bit.at c.loop-bit.transfers.items
          (transfers_of m c.args.ea)
          c.loop-bit-test.true c.if-self-bit-eq0.false c.loop-bit.invariant.told;
      registers = subst AreTransfers (sym c.push.ensures.items)
          (are_more c.loop-bit.transfers.items c.number.result c.loop-bit.at c.loop-bit.invariant.registers c.number.ensures.range);
      few = omega (arith, length-append c.loop-bit.transfers.items);
    }

pub returns-clause-value : goal.returns-clause-value
returns-clause-value c =
    let m = c.args.self.now in
    all_placed m.mode m.mask c.loop-bit.bit (transfer_step m.mode (bytes_of m.size))
    c.loop-bit.at c.loop-bit.transfers.items (transfers_of m c.args.ea) c.loop-bit-test.false c.loop-bit.invariant.told

pub returns-clause-count : goal.returns-clause-count
returns-clause-count c =
    let m = c.args.self.now in
    ap (λ (ts : List Transfer). length ts)
    (all_placed m.mode m.mask c.loop-bit.bit (transfer_step m.mode (bytes_of m.size))
    c.loop-bit.at c.loop-bit.transfers.items (transfers_of m c.args.ea) c.loop-bit-test.false c.loop-bit.invariant.told)
    ∙ length-transfers m c.args.ea
