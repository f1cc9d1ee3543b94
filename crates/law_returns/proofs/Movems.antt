-- The words of a MOVEM.
use Rattle.std.proofs.Common.{◌≡◌, ℕ, ◌+◌, lit<, ◌*◌, ◌/◌, ◌%◌, ◌^◌, ◌<◌, ◌==◌, ◌&&◌, Bool, true, false, if◌then◌else◌, List, [], ◌∷◌, ◌++◌, length, refl, ap, sym, ◌∙◌, arith}
use Rattle.std.specs.List.{All}
use Rattle.std.proofs.lemmas.List.Elements.{All-nil, All-cons}
use Rattle.mb_instr.specs.declared.size.Size.{Size}
use Rattle.mb_instr.specs.declared.size.Size.TheVariants.{Byte, Word, Long}
use Rattle.mb_instr.specs.declared.operand.Ea.{Ea}
use Rattle.mb_instr.specs.declared.operand.Ea.TheVariants.{Dn, An, Ind, Post, Pre, Disp, Index, AbsW, AbsL, PcDisp, PcIndex, Imm}
use Rattle.mb_instr.specs.Sizes.{long_bit, not_byte}
use Rattle.mb_instr.specs.declared.operand.Ext.TheVariants.{Brief}
use Rattle.mb_instr.specs.declared.operand.OperandClass.{OperandClass}
use Rattle.mb_instr.specs.declared.operand.OperandClass.TheVariants.{LoadList, StoreList}
use Rattle.mb_instr.specs.Operands.{mode, lower, more, takes}
use Rattle.mb_instr.specs.Opcodes.{word_of}
use Rattle.mb_instr.specs.Shapes.{op}
use Rattle.mb_instr.specs.Rows.{row}
use Rattle.mb_instr.specs.Codes.{IsInstr, Codes, words_of}
use Rattle.mb_decode.specs.declared.front.Decoded.TheVariants.{Whole}
use Rattle.mb_decode.specs.Decodes.{decode_of}
use Rattle.mb_decode.proofs.Table.{read_again}
use Rattle.mb_writes.specs.declared.transfers.Movem.{Movem}
use Rattle.mb_writes.specs.Transfers.{mode_of, operation_in, mask_in, movem_in}
use Rattle.def_instructions.specs.Moves.{movem_mode, movem_by}
use Rattle.def_processor.specs.Return.{begins_movem, are_movem_words}
use Rattle.def_processor.specs.Step.{movem_words}
use Rattle.law_returns.specs.Movems.{movem, WordsSayMovem, WordsAreMovem}

mode_by : (first : ℕ) (ea : Ea) → first / 8 % 8 ≡ mode ea → first % 8 ≡ lower ea → mode_of first ≡ movem_mode ea
mode_by first (Dn n) m l = rw (m) refl
mode_by first (An n) m l = rw (m) refl
mode_by first (Ind n) m l = rw (m) refl
mode_by first (Post n) m l = rw (m, l) refl
mode_by first (Pre n) m l = rw (m, l) refl
mode_by first (Disp n d) m l = rw (m) refl
mode_by first (Index n e) m l = rw (m) refl
mode_by first (AbsW a) m l = rw (m) refl
mode_by first (AbsL a) m l = rw (m) refl
mode_by first (PcDisp d) m l = rw (m) refl
mode_by first (PcIndex e) m l = rw (m) refl
mode_by first (Imm v) m l = rw (m) refl

-- the first word, by its fields
abbrev first_word : (upper : ℕ) → Size → Ea → ℕ
first_word upper size ea = 4 * 4096 + upper * 512 + 0 * 256 + (2 + long_bit size) * 64 + mode ea * 8 + lower ea

size_by : (size : Size) → not_byte size ≡ true → (if long_bit size == 1 then Long else Word) ≡ size
size_by Byte h = let no : ⊥ = cc in absurd no
size_by Word h = refl
size_by Long h = refl

bit_small : (size : Size) → long_bit size < 2
bit_small Byte = omega arith
bit_small Word = omega arith
bit_small Long = omega arith

says : (is_load : Bool) (upper direction : ℕ) (size : Size) (ea : Ea) (mask : ℕ) → upper ≡ 4 + 2 * direction → direction < 2 → (direction == 1) ≡ is_load
    → not_byte size ≡ true → mode ea < 8 → lower ea < 8 → mask < 2 ^ 16
    → movem_in (first_word upper size ea * 2 ^ 16 + mask) ≡ movem_by is_load size ea mask
says is_load upper direction size ea mask up two goes sized m l small =
    let first = first_word upper size ea in
    let words = first * 2 ^ 16 + mask in
    let bit = bit_small size in
    let operation : words / 2 ^ 16 ≡ first = omega arith in
    let low : words % 2 ^ 16 ≡ mask = omega arith in
    let load : first / 2 ^ 10 % 2 ≡ direction = omega arith in
    let long : first / 2 ^ 6 % 2 ≡ long_bit size = omega arith in
    let at : first / 8 % 8 ≡ mode ea = omega arith in
    let register : first % 8 ≡ lower ea = omega arith in
    let made : Bool → Size → ℕ → ℕ
    → Movem = λ is_load size operation mask. record { is_load = is_load; size = size; mode = mode_of operation; mask = mask } in
    let a : (words / 2 ^ 16 / 2 ^ 10 % 2 == 1) ≡ is_load = ap (λ (n : ℕ). n / 2 ^ 10 % 2 == 1) operation ∙ ap (λ (n : ℕ). n == 1) load ∙ goes in
    let b : (if words / 2 ^ 16 / 2 ^ 6 % 2 == 1 then Long else Word) ≡ size =
    ap (λ (n : ℕ). if n / 2 ^ 6 % 2 == 1 then Long else Word) operation ∙ ap (λ (n : ℕ). if n == 1 then Long else Word) long ∙ size_by size sized in
    let c : mode_of (words / 2 ^ 16) ≡ movem_mode ea = ap mode_of operation ∙ mode_by first ea at register in
    cc

and_first : (a b : Bool) → (a && b) ≡ true → a ≡ true
and_first true b h = refl
and_first false b h = h

pub words_say : WordsSayMovem
words_say true size ea mask h =
    says true 6 1 size ea mask (omega arith) (omega arith) refl (and_first _ _ h.legal) h.fields.mode h.fields.lower (h.are_words 0 0 (omega arith))
words_say false size ea mask h =
    says false 4 0 size ea mask (omega arith) (omega arith) refl (and_first _ _ h.legal) h.fields.mode h.fields.lower (h.are_words 0 0 (omega arith))

-- ---- RTE knows them

-- an operand of the same mode and register whose own words are zeros
abbrev bare : Ea → Ea
bare (Dn n) = Dn n
bare (An n) = An n
bare (Ind n) = Ind n
bare (Post n) = Post n
bare (Pre n) = Pre n
bare (Disp n d) = Disp n 0
bare (Index n e) = Index n (Brief 0)
bare (AbsW a) = AbsW 0
bare (AbsL a) = AbsL 0
bare (PcDisp d) = PcDisp 0
bare (PcIndex e) = PcIndex (Brief 0)
bare (Imm v) = Imm v

abbrev class_of : Bool → OperandClass
class_of true = LoadList
class_of false = StoreList

-- two zeros are its words and some behind them
record IsBare (is_load : Bool) (size : Size) (ea : Ea) : Type 0 where
  takes_it : takes (class_of is_load) size (bare ea) ≡ true
  mode_is : mode (bare ea) ≡ mode ea
  lower_is : lower (bare ea) ≡ lower ea
  rest : List ℕ
  zeros : more size (bare ea) ++ rest ≡ 0 ∷ 0 ∷ []
  are_words : All (λ w. w < 2 ^ 16) (more size (bare ea))

and_true : (a b : Bool) → (a && b) ≡ true → (a && true) ≡ true
and_true true b h = refl
and_true false b h = h

no_immediate : (is_load : Bool) (size : Size) (v : ℕ) → takes (class_of is_load) size (Imm v) ≡ true → ⊥
no_immediate true size v h = cc
no_immediate false size v h = cc

none : All (λ w. w < 2 ^ 16) []
none = All-nil (λ w. w < 2 ^ 16)

one : All (λ w. w < 2 ^ 16) (0 ∷ [])
one = All-cons (λ w. w < 2 ^ 16) 0 [] (lit< tt) none

two : All (λ w. w < 2 ^ 16) (0 ∷ 0 ∷ [])
two = All-cons (λ w. w < 2 ^ 16) 0 (0 ∷ []) (lit< tt) one

is_bare : (is_load : Bool) (size : Size) (ea : Ea) → takes (class_of is_load) size ea ≡ true → IsBare is_load size ea
is_bare l size (Dn n) h = record { takes_it = h; mode_is = refl; lower_is = refl; rest = 0 ∷ 0 ∷ []; zeros = refl; are_words = none }
is_bare l size (An n) h = record { takes_it = h; mode_is = refl; lower_is = refl; rest = 0 ∷ 0 ∷ []; zeros = refl; are_words = none }
is_bare l size (Ind n) h = record { takes_it = h; mode_is = refl; lower_is = refl; rest = 0 ∷ 0 ∷ []; zeros = refl; are_words = none }
is_bare l size (Post n) h = record { takes_it = h; mode_is = refl; lower_is = refl; rest = 0 ∷ 0 ∷ []; zeros = refl; are_words = none }
is_bare l size (Pre n) h = record { takes_it = h; mode_is = refl; lower_is = refl; rest = 0 ∷ 0 ∷ []; zeros = refl; are_words = none }
is_bare l size (Disp n d) h = record { takes_it = h; mode_is = refl; lower_is = refl; rest = 0 ∷ []; zeros = refl; are_words = one }
is_bare l size (Index n e) h = record { takes_it = and_true _ _ h; mode_is = refl; lower_is = refl; rest = 0 ∷ []; zeros = refl; are_words = one }
is_bare l size (AbsW a) h = record { takes_it = h; mode_is = refl; lower_is = refl; rest = 0 ∷ []; zeros = refl; are_words = one }
is_bare l size (AbsL a) h = record { takes_it = h; mode_is = refl; lower_is = refl; rest = []; zeros = refl; are_words = two }
is_bare l size (PcDisp d) h = record { takes_it = h; mode_is = refl; lower_is = refl; rest = 0 ∷ []; zeros = refl; are_words = one }
is_bare l size (PcIndex e) h = record { takes_it = and_true _ _ h; mode_is = refl; lower_is = refl; rest = 0 ∷ []; zeros = refl; are_words = one }
is_bare l size (Imm v) h = absurd (no_immediate l size v h)

both_true : (a b : Bool) → (a && b) ≡ true → b ≡ true
both_true true b h = h
both_true false b h = let no : ⊥ = cc in absurd no

join : (a b : Bool) → a ≡ true → b ≡ true → (a && b) ≡ true
join a b h k = rw (h, k) refl

has_bare : (l : Bool) (size : Size) (ea : Ea) (mask : ℕ) → IsInstr (movem l size ea mask) → (b : IsBare l size ea) → IsInstr (movem l size (bare ea) mask)
has_bare true size ea mask h b = record {
  legal = join (not_byte size) _ (and_first (not_byte size) _ h.legal) b.takes_it;
  fields = record {
    line = h.fields.line;
    upper = h.fields.upper;
    bit = h.fields.bit;
    size = h.fields.size;
    mode = rw (b.mode_is) h.fields.mode;
    lower = rw (b.lower_is) h.fields.lower;
  };
  are_words = All-cons (λ w. w < 2 ^ 16) mask (more size (bare ea)) (h.are_words 0 0 (omega arith)) b.are_words;
}
has_bare false size ea mask h b = record {
  legal = join (not_byte size) _ (and_first (not_byte size) _ h.legal) b.takes_it;
  fields = record {
    line = h.fields.line;
    upper = h.fields.upper;
    bit = h.fields.bit;
    size = h.fields.size;
    mode = rw (b.mode_is) h.fields.mode;
    lower = rw (b.lower_is) h.fields.lower;
  };
  are_words = All-cons (λ w. w < 2 ^ 16) mask (more size (bare ea)) (h.are_words 0 0 (omega arith)) b.are_words;
}

begun : (l : Bool) (size : Size) (ea : Ea) (mask n : ℕ) → begins_movem (Whole (movem l size ea mask) n) ≡ true
begun true size ea mask n = refl
begun false size ea mask n = refl

known : (l : Bool) (size : Size) (ea : Ea) (mask : ℕ) (words : ℕ) → IsInstr (movem l size ea mask) → (b : IsBare l size ea)
    → words / 2 ^ 16 ≡ word_of (row (movem l size (bare ea) mask)).opcode → words % 2 ^ 16 ≡ mask
    → words_of (row (movem l size (bare ea) mask)) ++ b.rest ≡ word_of (row (movem l size (bare ea) mask)).opcode ∷ mask ∷ 0 ∷ 0 ∷ []
    → are_movem_words words ≡ true
known l size ea mask words h b first second spelled =
    let i = movem l size (bare ea) mask in
    let w = words_of (row i) in
    let codes : Codes i w = record { has = has_bare l size ea mask h b; words = refl } in
    let read : decode_of (w ++ b.rest) ≡ Whole i (length w) = read_again i w b.rest codes in
    let same : operation_in words ∷ mask_in words ∷ 0 ∷ 0 ∷ [] ≡ w ++ b.rest = rw (first, second) (sym spelled) in
    ap (λ (ws : List ℕ). begins_movem (decode_of ws)) same ∙ ap begins_movem read ∙ begun l size (bare ea) mask (length w)

pub words_are : WordsAreMovem
words_are true size ea mask h =
    let b = is_bare true size ea (both_true (not_byte size) _ h.legal) in
    let first = word_of (op 4 6 0 (2 + long_bit size) (mode ea) (lower ea)) in
    let small : mask < 2 ^ 16 = h.are_words 0 0 (omega arith) in
    known true size ea mask (movem_words (movem true size ea mask)) h b
    (rw (b.mode_is, b.lower_is) (let e : (first * 2 ^ 16 + mask) / 2 ^ 16 ≡ first = omega arith in e))
    (let e : (first * 2 ^ 16 + mask) % 2 ^ 16 ≡ mask = omega arith in e)
    (ap (λ (ws : List ℕ). word_of (row (movem true size (bare ea) mask)).opcode ∷ mask ∷ ws) b.zeros)
words_are false size ea mask h =
    let b = is_bare false size ea (both_true (not_byte size) _ h.legal) in
    let first = word_of (op 4 4 0 (2 + long_bit size) (mode ea) (lower ea)) in
    let small : mask < 2 ^ 16 = h.are_words 0 0 (omega arith) in
    known false size ea mask (movem_words (movem false size ea mask)) h b
    (rw (b.mode_is, b.lower_is) (let e : (first * 2 ^ 16 + mask) / 2 ^ 16 ≡ first = omega arith in e))
    (let e : (first * 2 ^ 16 + mask) % 2 ^ 16 ≡ mask = omega arith in e)
    (ap (λ (ws : List ℕ). word_of (row (movem false size (bare ea) mask)).opcode ∷ mask ∷ ws) b.zeros)
