-- What is written spells the row, and what is not written has no spelling.
use Rattle.std.proofs.Common.{◌≡◌, ℕ, ◌<◌, ◌^◌, Bool, true, false, cond, List, get_or, Some, None, refl, sym, subst, arith}
use Rattle.std.specs.Prelude.{◌&&◌, nat_lt}
use Rattle.std.proofs.lemmas.Bool.Decides.{nat_tests}
use Rattle.std.proofs.lemmas.List.Elements.{All-from_get_or}
use Rattle.mb_instr.specs.declared.opcode.Opcode.{Opcode}
use Rattle.mb_instr.specs.Opcodes.{word_of, is_opcode, IsOpcode}
use Rattle.mb_instr.specs.Shapes.{Row, further}
use Rattle.mb_instr.specs.Codes.{Has, words_of, Spells, AreWords}
use Rattle.mb_instr.proofs.Words.{IsWord, AreWords-tail}
use Rattle.mb_encode.specs.Encodes.{written}
use Rattle.mb_instr.proofs.Ranges.{and_is}

both : {a b : Bool} → a ≡ true → b ≡ true → (a && b) ≡ true
both ha hb = rw (ha, hb) refl

lt_is : (a b : ℕ) → nat_lt a b ≡ true → a < b
lt_is a b h = grind (arith, nat_tests)

is_lt : (a b : ℕ) → a < b → nat_lt a b ≡ true
is_lt a b h = grind (arith, nat_tests)

opcode_is : (p : Opcode) → is_opcode p ≡ true → IsOpcode p
opcode_is p h =
    let a = and_is (nat_lt p.line 16 && nat_lt p.upper 8 && nat_lt p.bit 2 && nat_lt p.size 4 && nat_lt p.mode 8) (nat_lt p.lower 8) h in
    let b = and_is (nat_lt p.line 16 && nat_lt p.upper 8 && nat_lt p.bit 2 && nat_lt p.size 4) (nat_lt p.mode 8) a.0 in
    let c = and_is (nat_lt p.line 16 && nat_lt p.upper 8 && nat_lt p.bit 2) (nat_lt p.size 4) b.0 in
    let d = and_is (nat_lt p.line 16 && nat_lt p.upper 8) (nat_lt p.bit 2) c.0 in
    let e = and_is (nat_lt p.line 16) (nat_lt p.upper 8) d.0 in
    record {
      line = lt_is p.line 16 e.0;
      upper = lt_is p.upper 8 e.1;
      bit = lt_is p.bit 2 d.1;
      size = lt_is p.size 4 c.1;
      mode = lt_is p.mode 8 b.1;
      lower = lt_is p.lower 8 a.1;
    }

is_opcode_of : (p : Opcode) → IsOpcode p → is_opcode p ≡ true
is_opcode_of p h =
    let a = both (is_lt p.line 16 h.line) (is_lt p.upper 8 h.upper) in
    let b = both (both a (is_lt p.bit 2 h.bit)) (is_lt p.size 4 h.size) in
    both (both b (is_lt p.mode 8 h.mode)) (is_lt p.lower 8 h.lower)

chosen : (b : Bool) (v w : List ℕ) → cond b (Some v) None ≡ Some w → (b ≡ true) × (v ≡ w)
chosen true v w e = (refl, cc)
chosen false v w e = absurd cc

not_chosen : (b : Bool) (v : List ℕ) → b ≡ true → cond b (Some v) None ≡ None → ⊥
not_chosen true v h e = cc
not_chosen false v h e = cc

pub spelled : (r : Row) (w : List ℕ) → written r ≡ Some w → AreWords w → Spells r w
spelled r w e fit =
    let c = chosen (r.legal && is_opcode r.opcode) (words_of r) w e in
    let p = and_is r.legal (is_opcode r.opcode) c.0 in
    record {
      has = record { legal = p.0; fields = opcode_is r.opcode p.1; are_words = AreWords-tail (word_of r.opcode) (further r) (subst AreWords (sym c.1) fit) };
      words = sym c.1;
    }

pub not_spelled : (r : Row) → written r ≡ None → Has r → ⊥
not_spelled r e h = not_chosen (r.legal && is_opcode r.opcode) (words_of r) (both h.legal (is_opcode_of r.opcode h.fields)) e

-- the words of a slice are words
pub words_from_type : (ws : List ℕ) → ((i : ℕ) → get_or ws i 0 < 2 ^ 16) → AreWords ws
words_from_type ws h = All-from_get_or IsWord ws 0 (λ i lt. h i)
