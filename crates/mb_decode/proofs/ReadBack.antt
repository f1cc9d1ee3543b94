-- What is spelled is read, whatever follows.
use Rattle.std.proofs.Common.{◌≡◌, ℕ, ◌+◌, ◌*◌, ◌/◌, ◌%◌, ◌^◌, Bool, true, false, cond, List, [], ◌∷◌, ◌++◌, Ok, refl, ◌∙◌, append_assoc, arith}
use Rattle.std.specs.Prelude.{◌&&◌, ◌==◌, not, nat_lt}
use Rattle.std.proofs.lemmas.Bool.Decides.{nat_tests}
use Rattle.mb_instr.specs.declared.size.Size.{Size}
use Rattle.mb_instr.specs.declared.size.Size.TheVariants as size
use Rattle.mb_instr.specs.declared.operand.Ea.{Ea}
use Rattle.mb_instr.specs.declared.operand.Ea.TheVariants.{Dn, An, Ind, Post, Pre, Disp, Index, AbsW, AbsL, PcDisp, PcIndex, Imm}
use Rattle.mb_instr.specs.declared.operand.Ext.{Ext}
use Rattle.mb_instr.specs.declared.operand.Ext.TheVariants.{Brief, Full}
use Rattle.mb_instr.specs.declared.operand.OperandClass.{OperandClass}
use Rattle.mb_instr.specs.declared.operand.OperandClass.{OperandClass}
use Rattle.mb_instr.specs.declared.rule.WordRule.{WordRule}
use Rattle.mb_instr.specs.declared.kinds.Branch.{Branch}
use Rattle.mb_instr.specs.declared.kinds.Branch.TheVariants as branch
use Rattle.mb_instr.specs.declared.kinds.TrapOperand.{TrapOperand}
use Rattle.mb_instr.specs.declared.kinds.TrapOperand.TheVariants as trap
use Rattle.mb_instr.specs.Sizes.{size_bits}
use Rattle.mb_instr.specs.Rules.{holds}
use Rattle.mb_instr.specs.Operands.{allows, mode, lower, more, is_spelled, takes, long_words, wide, fits_width, is_full, is_ext, ext, is_immediate, immediate}
use Rattle.mb_instr.specs.Shapes.{op, branch_byte, branch_words, is_branch}
use Rattle.mb_instr.specs.Rows.{trap_lower, trap_words}
use Rattle.mb_decode.specs.Reading.{Reader, reads_then, give, by_size, word_at, long_at, wide_at, full_at, ext_at, immediate_at, operand_at, ruled_at, ea_at}
use Rattle.mb_decode.specs.Reading.{sized_at, word_ea_at, immediate_ea_at, branch_at, trap_operand_at}
use Rattle.mb_instr.proofs.Ranges.{and_is}

pub not_is : (a : Bool) → not a ≡ true → a ≡ false
not_is true e = absurd cc
not_is false e = refl

-- a reader and what goes on from its value
pub next : {A B : Type 0} (r : Reader A) (f : A → Reader B) (ws : List ℕ) (a : A) (rest : List ℕ) → r ws ≡ Ok (a, rest) → reads_then r f ws ≡ f a rest
unfolding reads_then
next r f ws a rest e = rw (e, reads_then) refl

pub word_read : (w : ℕ) (rest : List ℕ) → word_at (w ∷ rest) ≡ Ok (w, rest)
unfolding word_at
word_read w rest = refl

pub long_read : (v : ℕ) (rest : List ℕ) → long_at (long_words v ++ rest) ≡ Ok (v, rest)
unfolding long_at reads_then word_at
long_read v rest = let e : v / 65536 * 65536 + v % 65536 ≡ v = omega arith in rw e refl

wide_cases : (two three : Bool) (v : ℕ) (rest : List ℕ) → cond two (nat_lt v 65536) (cond three true (v == 0)) ≡ true →
    (cond two word_at (cond three long_at (give 0))) ((cond two (v ∷ []) (cond three (long_words v) [])) ++ rest) ≡ Ok (v, rest)
wide_cases true three v rest h = word_read v rest
wide_cases false true v rest h = long_read v rest
wide_cases false false v rest h = let e : v ≡ 0 = grind (arith, nat_tests) in rw e refl

pub wide_read : (width v : ℕ) (rest : List ℕ) → fits_width width v ≡ true → wide_at width (wide width v ++ rest) ≡ Ok (v, rest)
unfolding wide_at
wide_read width v rest h = wide_cases (width == 2) (width == 3) v rest h

pub full_read : (w bd od : ℕ) (rest : List ℕ) → fits_width (w / 2 ^ 4 % 4) bd ≡ true → fits_width (w % 4) od ≡ true →
    full_at w (wide (w / 2 ^ 4 % 4) bd ++ wide (w % 4) od ++ rest) ≡ Ok (Full w bd od, rest)
unfolding full_at
full_read w bd od rest hb ho =
    rw append_assoc (next _ _ _ _ _ (wide_read (w / 2 ^ 4 % 4) bd (wide (w % 4) od ++ rest) hb) ∙ next _ _ _ _ _ (wide_read (w % 4) od rest ho))

pub ext_read : (e : Ext) (rest : List ℕ) → is_ext e ≡ true → ext_at (ext e ++ rest) ≡ Ok (e, rest)
ext_read (Brief w) rest h = next _ _ _ _ _ (word_read w rest) ∙ rw h refl
ext_read (Full w bd od) rest h =
    let a = and_is (not (w / 2 ^ 8 % 2 == 0) && is_full w && fits_width (w / 2 ^ 4 % 4) bd) (fits_width (w % 4) od) h in
    let b = and_is (not (w / 2 ^ 8 % 2 == 0) && is_full w) (fits_width (w / 2 ^ 4 % 4) bd) a.0 in
    let c = and_is (not (w / 2 ^ 8 % 2 == 0)) (is_full w) b.0 in
    let n = not_is (w / 2 ^ 8 % 2 == 0) c.0 in
    next _ _ _ _ _ (word_read w _) ∙ rw (n, c.1) (full_read w bd od rest b.1 a.1)

pub immediate_read : (s : Size) (v : ℕ) (rest : List ℕ) → is_immediate s v ≡ true → immediate_at s (immediate s v ++ rest) ≡ Ok (v, rest)
immediate_read size.Byte v rest h = word_read v rest
immediate_read size.Word v rest h = word_read v rest
immediate_read size.Long v rest h = long_read v rest

pub operand_read : (s : Size) (ea : Ea) (rest : List ℕ) → is_spelled s ea ≡ true → operand_at s (mode ea) (lower ea) (more s ea ++ rest) ≡ Ok (ea, rest)
unfolding operand_at
operand_read s (Dn n) rest h = refl
operand_read s (An n) rest h = refl
operand_read s (Ind n) rest h = refl
operand_read s (Post n) rest h = refl
operand_read s (Pre n) rest h = refl
operand_read s (Disp n d) rest h = next _ _ _ _ _ (word_read d rest)
operand_read s (Index n e) rest h = next _ _ _ _ _ (ext_read e rest h)
operand_read s (AbsW a) rest h = next _ _ _ _ _ (word_read a rest)
operand_read s (AbsL a) rest h = next _ _ _ _ _ (long_read a rest)
operand_read s (PcDisp d) rest h = next _ _ _ _ _ (word_read d rest)
operand_read s (PcIndex e) rest h = next _ _ _ _ _ (ext_read e rest h)
operand_read s (Imm v) rest h = next _ _ _ _ _ (immediate_read s v rest h)

-- ---- tests on the way, and what rows have in common

pub met : {A : Type 0} (b : Bool) (x y : Reader A) (ws : List ℕ) → b ≡ true → cond b x y ws ≡ x ws
met true x y ws e = refl
met false x y ws e = absurd cc

pub unmet : {A : Type 0} (b : Bool) (x y : Reader A) (ws : List ℕ) → b ≡ false → cond b x y ws ≡ y ws
unmet true x y ws e = absurd cc
unmet false x y ws e = refl

pub by_size_read : {A : Type 0} (s : Size) (f : Size → Reader A) (ws : List ℕ) → by_size (size_bits s) f ws ≡ f s ws
by_size_read size.Byte f ws = refl
by_size_read size.Word f ws = refl
by_size_read size.Long f ws = refl

-- what the class and the spelling of an operand say
pub taken : (class : OperandClass) (s : Size) (ea : Ea) → takes class s ea ≡ true → (allows class s (mode ea) (lower ea) ≡ true) × (is_spelled s ea ≡ true)
taken class s ea h = and_is (allows class s (mode ea) (lower ea)) (is_spelled s ea) h

pub ruled_read : (rule : WordRule) (w : ℕ) (rest : List ℕ) → holds rule w ≡ true → ruled_at rule (w ∷ rest) ≡ Ok (w, rest)
unfolding ruled_at
ruled_read rule w rest h = next _ _ _ _ _ (word_read w rest) ∙ met _ _ _ _ h

pub ea_read : (class : OperandClass) (s : Size) (a b c f : ℕ) (ea : Ea) (rest : List ℕ) → takes class s ea ≡ true →
    ea_at class s (op a b c f (mode ea) (lower ea)) (more s ea ++ rest) ≡ Ok (ea, rest)
unfolding ea_at
ea_read class s a b c f ea rest h = let q = taken class s ea h in met _ _ _ _ q.0 ∙ operand_read s ea rest q.1

pub sized_read : (class : OperandClass) (a b c : ℕ) (s : Size) (ea : Ea) (rest : List ℕ) → takes class s ea ≡ true →
    sized_at class (op a b c (size_bits s) (mode ea) (lower ea)) (more s ea ++ rest) ≡ Ok ((s, ea), rest)
unfolding sized_at
sized_read class a b c s ea rest h = by_size_read s _ _ ∙ next _ _ _ _ _ (ea_read class s a b c (size_bits s) ea rest h)

pub word_ea_read : (rule : WordRule) (class : OperandClass) (s : Size) (a b c f w : ℕ) (ea : Ea) (rest : List ℕ) → (holds rule w && takes class s ea) ≡ true →
    word_ea_at rule class s (op a b c f (mode ea) (lower ea)) (w ∷ more s ea ++ rest) ≡ Ok ((w, ea), rest)
word_ea_read rule class s a b c f w ea rest h =
    let p = and_is (holds rule w) (takes class s ea) h in
    let q = taken class s ea p.1 in
    met _ _ _ _ q.0 ∙ next _ _ _ _ _ (ruled_read rule w _ p.0) ∙ next _ _ _ _ _ (operand_read s ea rest q.1)

pub immediate_ea_read : (class : OperandClass) (a b c : ℕ) (s : Size) (v : ℕ) (ea : Ea) (rest : List ℕ) → (is_immediate s v && takes class s ea) ≡ true →
    immediate_ea_at class (op a b c (size_bits s) (mode ea) (lower ea)) ((immediate s v ++ more s ea) ++ rest) ≡ Ok ((s, v, ea), rest)
immediate_ea_read class a b c s v ea rest h =
    let p = and_is (is_immediate s v) (takes class s ea) h in
    let q = taken class s ea p.1 in
    rw append_assoc (by_size_read s _ _ ∙ met _ _ _ _ q.0 ∙ next _ _ _ _ _ (immediate_read s v _ p.0) ∙ next _ _ _ _ _ (operand_read s ea rest q.1))

pub branch_read : (d : Branch) (rest : List ℕ) → is_branch d ≡ true → branch_at (branch_byte d) (branch_words d ++ rest) ≡ Ok (d, rest)
unfolding branch_at
branch_read (branch.Byte b) rest h =
    let p = and_is (not (b == 0)) (not (b == 255)) h in unmet _ _ _ _ (not_is (b == 0) p.0) ∙ unmet _ _ _ _ (not_is (b == 255) p.1)
branch_read (branch.Word w) rest h = next _ _ _ _ _ (word_read w rest)
branch_read (branch.Long l) rest h = next _ _ _ _ _ (long_read l rest)

pub trap_operand_read : (o : TrapOperand) (rest : List ℕ) → trap_operand_at (trap_lower o) (trap_words o ++ rest) ≡ Ok (o, rest)
unfolding trap_operand_at
trap_operand_read (trap.Word w) rest = next _ _ _ _ _ (word_read w rest)
trap_operand_read (trap.Long l) rest = next _ _ _ _ _ (long_read l rest)
trap_operand_read trap.Nothing rest = refl
