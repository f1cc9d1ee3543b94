-- Line 15: each row is read from its spelling, and what is read is spelled so.
use Rattle.std.proofs.Common.{◌≡◌, ℕ, ◌+◌, ◌*◌, ◌%◌, ◌<◌, Bool, true, false, List, ◌∷◌, ◌++◌, Option, Some, None, Ok, refl, arith}
use Rattle.std.specs.Prelude.{◌&&◌, ◌==◌, nat_lt}
use Rattle.mb_instr.specs.declared.rule.WordRule.TheVariants as rule
use Rattle.mb_instr.specs.declared.kinds.LineMove.{LineMove}
use Rattle.mb_instr.specs.declared.kinds.Caches.{Caches}
use Rattle.mb_instr.specs.declared.kinds.CacheScope.{CacheScope}
use Rattle.mb_instr.specs.declared.kinds.CacheScope.TheVariants as scope
use Rattle.mb_instr.specs.declared.kinds.FlushKind.{FlushKind}
use Rattle.mb_instr.specs.declared.instruction.Move.TheVariants as move
use Rattle.mb_instr.specs.declared.instruction.System.TheVariants as system
use Rattle.mb_instr.specs.declared.instruction.Instr.TheVariants.{Move, System}
use Rattle.mb_instr.specs.declared.opcode.Opcode.{Opcode}
use Rattle.mb_instr.specs.Kinds.{flag, line_bits, caches_bits, caches_kind, scope_bits, scope_kind, flush_bits}
use Rattle.mb_instr.specs.Rules.{holds}
use Rattle.mb_instr.specs.Opcodes.{IsOpcode}
use Rattle.mb_instr.specs.Operands.{long_words}
use Rattle.mb_instr.specs.Shapes.{op, bare}
use Rattle.mb_instr.specs.Rows.{row}
use Rattle.mb_decode.proofs.ReadBack.{next, long_read, ruled_read}
use Rattle.mb_decode.proofs.Found.{eq_true}
use Rattle.mb_decode.proofs.Shapes.{Shape, none, either, equal, equals, below, op_is, made_row, given, long_shape, ruled_shape}
use Rattle.mb_decode.specs.Reading.{give, illegal}
use Rattle.mb_decode.specs.RowReading.{cached_instr, caches_15, translation_15, lines_15, line_15}
use Rattle.mb_decode.proofs.Fields.{under_4, under_8, line_kind_is, line_kind_of, line_low, caches_kind_is, caches_kind_of, flush_kind_is, flush_kind_of}
use Rattle.mb_decode.proofs.Fields.{flush_low}
use Rattle.mb_instr.proofs.Ranges.{and_is}

-- ---- from its spelling

pub cinv_read : (c : Caches) (s : CacheScope) (a : ℕ) (rest : List ℕ) →
    line_15 (op 15 2 0 (caches_bits c) (scope_bits s) a) rest ≡ Ok (System (system.Cinv c s a), rest)
cinv_read c scope.Line a rest = let same = caches_kind_is c in rw same refl
cinv_read c scope.Page a rest = let same = caches_kind_is c in rw same refl
cinv_read c scope.All a rest = let same = caches_kind_is c in rw same refl

pub cpush_read : (c : Caches) (s : CacheScope) (a : ℕ) (rest : List ℕ) →
    line_15 (op 15 2 0 (caches_bits c) (4 + scope_bits s) a) rest ≡ Ok (System (system.Cpush c s a), rest)
cpush_read c scope.Line a rest = let same = caches_kind_is c in rw same refl
cpush_read c scope.Page a rest = let same = caches_kind_is c in rw same refl
cpush_read c scope.All a rest = let same = caches_kind_is c in rw same refl

pub pflush_read : (k : FlushKind) (a : ℕ) (rest : List ℕ) → line_15 (op 15 2 1 0 (flush_bits k) a) rest ≡ Ok (System (system.Pflush k a), rest)
pflush_read k a rest =
    let low = flush_low k in
    let same = flush_kind_is k in
    rw (low, same) refl

pub ptest_read : (k : Bool) (a : ℕ) (rest : List ℕ) → line_15 (op 15 2 1 1 (flag k * 4 + 1) a) rest ≡ Ok (System (system.Ptest k a), rest)
ptest_read true a rest = refl
ptest_read false a rest = refl

pub move16_abs_read : (k : LineMove) (a l : ℕ) (rest : List ℕ) → line_15 (op 15 3 0 0 (line_bits k) a) (long_words l ++ rest)
    ≡ Ok (Move (move.Move16Abs k a l), rest)
move16_abs_read k a l rest =
    let low = line_low k in
    let same = line_kind_is k in
    rw (low, same) (next _ _ _ _ _ (long_read l rest))

pub move16_post_read : (x w : ℕ) (rest : List ℕ) → holds rule.Line w ≡ true → line_15 (op 15 3 0 0 4 x) (w ∷ rest) ≡ Ok (Move (move.Move16Post x w), rest)
move16_post_read x w rest h = next _ _ _ _ _ (ruled_read rule.Line w rest h)

-- ---- what is read

abbrev ScopeIs : ℕ → Option CacheScope → Type 0
ScopeIs n (Some s) = scope_bits s ≡ n
ScopeIs n None = Unit {0}

scope_is : (n : ℕ) → n < 4 → ScopeIs n (scope_kind n)
scope_is n h = under_4 (λ n. ScopeIs n (scope_kind n)) tt refl refl refl n h

cached_row : (push : Bool) (c : Caches) (s : CacheScope) (a : ℕ) →
    row (cached_instr push c s a) ≡ bare (op 15 2 0 (caches_bits c) (flag push * 4 + scope_bits s) a)
cached_row true c s a = refl
cached_row false c scope.Line a = refl
cached_row false c scope.Page a = refl
cached_row false c scope.All a = refl

mode_halves : (n : ℕ) → n < 8 → n ≡ flag (nat_lt 3 n) * 4 + n % 4
mode_halves n h = under_8 (λ n. n ≡ flag (nat_lt 3 n) * 4 + n % 4) refl refl refl refl refl refl refl refl n h

caches_cases : (p : Opcode) (o : Option CacheScope) → IsOpcode p → p.line ≡ 15 → p.upper ≡ 2 → p.bit ≡ 0 → ScopeIs (p.mode % 4) o →
    Shape row p (elim o [ Some s ↦ give (cached_instr (nat_lt 3 p.mode) (caches_kind p.size) s p.lower) | None ↦ illegal ])
caches_cases p (Some s) is line upper bit e =
    let mode : p.mode ≡ flag (nat_lt 3 p.mode) * 4 + scope_bits s = rw e (mode_halves p.mode is.mode) in
    given p _ _ (cached_row (nat_lt 3 p.mode) (caches_kind p.size) s p.lower)
    (op_is p 15 2 0 _ _ p.lower line upper bit (caches_kind_of p.size is.size) mode refl)
caches_cases p None is line upper bit e = none row p

caches_15_shape : (p : Opcode) → IsOpcode p → p.line ≡ 15 → p.upper ≡ 2 → p.bit ≡ 0 → Shape row p (caches_15 p)
caches_15_shape p is line upper bit = caches_cases p (scope_kind (p.mode % 4)) is line upper bit (scope_is (p.mode % 4) (omega arith))

translation_15_shape : (p : Opcode) → IsOpcode p → p.line ≡ 15 → p.upper ≡ 2 → p.bit ≡ 1 → Shape row p (translation_15 p)
translation_15_shape p is line upper bit =
    equal row p p.size 0 _ _ (λ size. below row p p.mode 4 _ _
    (λ low. given p _ _ refl (op_is p 15 2 1 0 _ p.lower line upper bit size (flush_kind_of p.mode low) refl)) (λ high. none row p)) (λ n.
    equals row p p.size 1 p.mode 1 _ _ (λ size mode. given p _ _ refl (op_is p 15 2 1 1 1 p.lower line upper bit size mode refl))
    (equals row p p.size 1 p.mode 5 _ _ (λ size mode. given p _ _ refl (op_is p 15 2 1 1 5 p.lower line upper bit size mode refl)) (none row p)))

lines_15_shape : (p : Opcode) → p.line ≡ 15 → p.upper ≡ 3 → p.bit ≡ 0 → p.size ≡ 0 → Shape row p (lines_15 p)
lines_15_shape p line upper bit size =
    below row p p.mode 4 _ _ (λ low.
    made_row _ p _ _ (long_shape p _ (op_is p 15 3 0 0 _ p.lower line upper bit size (line_kind_of p.mode low) refl)) (λ l. refl)) (λ n.
    equal row p p.mode 4 _ _
    (λ mode. made_row _ p _ _ (ruled_shape p _ rule.Line (op_is p 15 3 0 0 4 p.lower line upper bit size mode refl)) (λ w. refl)) (λ n. none row p))

pub line_15_shape : (p : Opcode) → IsOpcode p → p.line ≡ 15 → Shape row p (line_15 p)
line_15_shape p is line =
    equal row p p.upper 2 _ _ (λ u.
    equal row p p.bit 0 _ _ (λ bit. caches_15_shape p is line u bit) (λ n.
    let below = is.bit in translation_15_shape p is line u (omega arith))) (λ n.
    either row p ((p.upper == 3) && (p.bit == 0) && (p.size == 0)) _ _ (λ e.
    let q = and_is ((p.upper == 3) && (p.bit == 0)) (p.size == 0) e in
    let r = and_is (p.upper == 3) (p.bit == 0) q.0 in
    lines_15_shape p line (eq_true p.upper 3 r.0) (eq_true p.bit 0 r.1) (eq_true p.size 0 q.1)) (λ e. none row p))
