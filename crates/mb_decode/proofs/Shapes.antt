-- Readers of what rows have in common: what is read is spelled so, and more words change nothing.
use Rattle.std.proofs.Common.{◌≡◌, ◌≢◌, ℕ, ◌<◌, ◌≤◌, Bool, true, false, cond, List, [], ◌∷◌, ◌++◌, Option, Some, None, Result, Ok, Err, refl, sym, subst, ◌∙◌}
use Rattle.std.proofs.Common.{append_assoc, arith}
use Rattle.std.specs.Prelude.{◌&&◌, ◌==◌, nat_lt}
use Rattle.std.proofs.lemmas.Bool.Decides.{nat_tests}
use Rattle.mb_instr.specs.declared.size.Size.{Size}
use Rattle.mb_instr.specs.declared.operand.Ea.{Ea}
use Rattle.mb_instr.specs.declared.operand.OperandClass.{OperandClass}
use Rattle.mb_instr.specs.declared.rule.WordRule.{WordRule}
use Rattle.mb_instr.specs.declared.kinds.Branch.{Branch}
use Rattle.mb_instr.specs.declared.kinds.TrapOperand.{TrapOperand}
use Rattle.mb_instr.specs.declared.instruction.Instr.{Instr}
use Rattle.mb_instr.specs.declared.opcode.Opcode.{Opcode}
use Rattle.mb_instr.specs.Sizes.{size_bits, size_of}
use Rattle.mb_instr.specs.Rules.{holds}
use Rattle.mb_instr.specs.Opcodes.{IsOpcode}
use Rattle.mb_instr.specs.Operands.{allows, takes}
use Rattle.mb_instr.specs.Shapes.{Row, further, op, bare, with_word, with_long, with_ruled, at_ea, sized, word_ea, immediate_ea, when, branch_byte, branch_words}
use Rattle.mb_instr.specs.Shapes.{is_branch}
use Rattle.mb_instr.specs.Rows.{row, trap_lower, trap_words}
use Rattle.mb_instr.specs.Codes.{AreWords}
use Rattle.mb_decode.specs.declared.reading.Stop.{Stop}
use Rattle.mb_decode.specs.Reading.{Reader, reads_then, give, illegal, when_legal, by_size, word_at, long_at, immediate_at, operand_at, ruled_at, ea_at}
use Rattle.mb_decode.specs.Reading.{sized_at, word_ea_at, immediate_ea_at, branch_at, trap_operand_at}
use Rattle.mb_decode.proofs.Found.{after, branch, eq_true, eq_false, Takes, word_found, long_found, immediate_found, operand_found, allowed_lower, IsOperand}
use Rattle.mb_decode.proofs.Found.{nothing}
use Rattle.mb_decode.proofs.Steady.{Steady, give_steady, illegal_steady, made_steady, operand_steady, word_ea_then_steady, immediate_then_ea_steady}
use Rattle.mb_decode.proofs.Steady.{word_steady, long_steady, ruled_steady}
use Rattle.mb_instr.proofs.Ranges.{and_is}

-- the words are those of the row, before the rest
pub record Fits (r : Row) (p : Opcode) (ws rest : List ℕ) : Type 0 where
  pub legal : r.legal ≡ true
  pub opcode : r.opcode ≡ p
  pub taken : Takes ws (further r) rest

abbrev pub Found : {X : Type 0} → (X → Row) → Opcode → List ℕ → Result (X × List ℕ) Stop → Type 0
Found spell p ws (Ok x) = Fits (spell x.0) p ws x.1
Found spell p ws (Err e) = Unit {0}

-- what the reader reads behind the first word p is spelled so
pub record Shape {X : Type 0} (spell : X → Row) (p : Opcode) (r : Reader X) : Type 0 where
  pub found : (ws : List ℕ) → AreWords ws → Found spell p ws (r ws)
  pub steady : Steady r

-- ---- the tests on the way to a row

pub none : {X : Type 0} (spell : X → Row) (p : Opcode) → Shape spell p illegal
none spell p = record { found = λ ws h. tt; steady = illegal_steady }

pub either : {X : Type 0} (spell : X → Row) (p : Opcode) (b : Bool) (x y : Reader X) → (b ≡ true → Shape spell p x) → (b ≡ false → Shape spell p y) →
    Shape spell p (cond b x y)
either spell p true x y met unmet = met refl
either spell p false x y met unmet = unmet refl

pub equal : {X : Type 0} (spell : X → Row) (p : Opcode) (a n : ℕ) (x y : Reader X) → (a ≡ n → Shape spell p x) → (a ≢ n → Shape spell p y) →
    Shape spell p (cond (a == n) x y)
equal spell p a n x y met unmet = either spell p (a == n) x y (λ e. met (eq_true a n e)) (λ e. unmet (eq_false a n e))

pub equals : {X : Type 0} (spell : X → Row) (p : Opcode) (a n b m : ℕ) (x y : Reader X) → (a ≡ n → b ≡ m → Shape spell p x) → Shape spell p y →
    Shape spell p (cond ((a == n) && (b == m)) x y)
equals spell p a n b m x y met unmet =
    either spell p ((a == n) && (b == m)) x y (λ e. let q = and_is (a == n) (b == m) e in met (eq_true a n q.0) (eq_true b m q.1)) (λ e. unmet)

lt_is : (a n : ℕ) → nat_lt a n ≡ true → a < n
lt_is a n h = grind (arith, nat_tests)

not_lt_is : (a n : ℕ) → nat_lt a n ≡ false → n ≤ a
not_lt_is a n h = grind (arith, nat_tests)

pub below : {X : Type 0} (spell : X → Row) (p : Opcode) (a n : ℕ) (x y : Reader X) → (a < n → Shape spell p x) → (n ≤ a → Shape spell p y) →
    Shape spell p (cond (nat_lt a n) x y)
below spell p a n x y met unmet = either spell p (nat_lt a n) x y (λ e. met (lt_is a n e)) (λ e. unmet (not_lt_is a n e))

pub above : {X : Type 0} (spell : X → Row) (p : Opcode) (n a : ℕ) (x y : Reader X) → (n < a → Shape spell p x) → (a ≤ n → Shape spell p y) →
    Shape spell p (cond (nat_lt n a) x y)
above spell p n a x y met unmet = either spell p (nat_lt n a) x y (λ e. met (lt_is n a e)) (λ e. unmet (not_lt_is n a e))

pub only : {X : Type 0} (spell : X → Row) (p : Opcode) (b : Bool) (x : Reader X) → (b ≡ true → Shape spell p x) → Shape spell p (when_legal b x)
only spell p b x met = either spell p b x illegal met (λ e. none spell p)

-- the size field
abbrev SizeIs : ℕ → Option Size → Type 0
SizeIs n (Some s) = size_bits s ≡ n
SizeIs n None = Unit {0}

value : (b : Bool) (x y : Option Size) (P : Option Size → Type 0) → (b ≡ true → P x) → (b ≡ false → P y) → P (cond b x y)
value true x y P met unmet = met refl
value false x y P met unmet = unmet refl

size_cases : (n : ℕ) → SizeIs n (size_of n)
size_cases n =
    value (n == 0) _ _ (SizeIs n) (λ e. sym (eq_true n 0 e))
    (λ e. value (n == 1) _ _ (SizeIs n) (λ e. sym (eq_true n 1 e)) (λ e. value (n == 2) _ _ (SizeIs n) (λ e. sym (eq_true n 2 e)) (λ e. tt)))

by_size_cases : {X : Type 0} (spell : X → Row) (p : Opcode) (n : ℕ) (o : Option Size) (f : Size → Reader X) → SizeIs n o →
    ((s : Size) → size_bits s ≡ n → Shape spell p (f s)) → Shape spell p (elim o [ Some s ↦ f s | None ↦ illegal ])
by_size_cases spell p n (Some s) f e h = h s e
by_size_cases spell p n None f e h = none spell p

pub by_size_shape : {X : Type 0} (spell : X → Row) (p : Opcode) (n : ℕ) (f : Size → Reader X) → ((s : Size) → size_bits s ≡ n → Shape spell p (f s)) →
    Shape spell p (by_size n f)
by_size_shape spell p n f h = by_size_cases spell p n (size_of n) f (size_cases n) h

-- ---- the rows

-- the first word's fields, from a row's letters
pub op_is : (p : Opcode) (a b c f m r : ℕ) → p.line ≡ a → p.upper ≡ b → p.bit ≡ c → p.size ≡ f → p.mode ≡ m → p.lower ≡ r → op a b c f m r ≡ p
op_is p a b c f m r ea eb ec ef em er =
    let la = sym ea in let lb = sym eb in let lc = sym ec in let lf = sym ef in let lm = sym em in let lr = sym er in
    rw (la, lb, lc, lf, lm, lr) refl

found_map : {X : Type 0} (spell other : X → Row) (p : Opcode) (ws : List ℕ) (res : Result (X × List ℕ) Stop) →
    ((x : X) (rest : List ℕ) → Fits (spell x) p ws rest → Fits (other x) p ws rest) → Found spell p ws res → Found other p ws res
found_map spell other p ws (Ok x) f h = f x.0 x.1 h
found_map spell other p ws (Err e) f h = h

-- a row for some values alone
pub guarded : {X : Type 0} (spell : X → Row) (p : Opcode) (r : Reader X) (b : Bool) → b ≡ true → Shape spell p r → Shape (λ x. when b (spell x)) p r
guarded spell p r b e sh = record {
  found = λ ws h. found_map spell (λ x. when b (spell x)) p ws (r ws) (λ x rest f. record { legal = rw (e, f.legal) refl; opcode = f.opcode; taken = f.taken })
      (sh.found ws h);
  steady = sh.steady;
}

-- a row's reader, from the reader of its parts
pub made_row : {X : Type 0} (spell : X → Row) (p : Opcode) (r : Reader X) (make : X → Instr) → Shape spell p r → ((x : X) → row (make x) ≡ spell x) →
    Shape row p (reads_then r (λ x. give (make x)))
made_row spell p r make sh same = record {
  found = λ ws h. after r (λ x. give (make x)) ws (Found row p ws) (λ e. tt)
      (λ x rest e. subst (λ (y : Row). Fits y p ws rest) (sym (same x)) (subst (Found spell p ws) e (sh.found ws h)));
  steady = made_steady r make sh.steady;
}

-- two rows with the same words
pub record Same (r q : Row) : Type 0 where
  pub legal : r.legal ≡ true
  pub opcode : r.opcode ≡ q.opcode
  pub words : further r ≡ further q

-- the same, where what is made is the row only of legal parts
pub made_row_if : {X : Type 0} (spell : X → Row) (p : Opcode) (r : Reader X) (make : X → Instr) → Shape spell p r →
    ((x : X) → (spell x).legal ≡ true → Same (row (make x)) (spell x)) → Shape row p (reads_then r (λ x. give (make x)))
made_row_if spell p r make sh same = record {
  found = λ ws h. after r (λ x. give (make x)) ws (Found row p ws) (λ e. tt) (λ x rest e.
      let f = subst (Found spell p ws) e (sh.found ws h) in
      let s = same x f.legal in
      record { legal = s.legal; opcode = s.opcode ∙ f.opcode; taken = subst (λ (t : List ℕ). Takes ws t rest) (sym s.words) f.taken });
  steady = made_steady r make sh.steady;
}

-- a row of one word
pub given : (p q : Opcode) (i : Instr) → row i ≡ bare q → q ≡ p → Shape row p (give i)
given p q i same e = record {
  found = λ ws h. subst (λ (y : Row). Fits y p ws ws) (sym same) (record { legal = refl; opcode = e; taken = nothing ws h });
  steady = give_steady i;
}

pub given_when : (p q : Opcode) (i : Instr) (b : Bool) → row i ≡ when b (bare q) → b ≡ true → q ≡ p → Shape row p (give i)
given_when p q i b same ok e = record {
  found = λ ws h. subst (λ (y : Row). Fits y p ws ws) (sym same) (record { legal = rw ok refl; opcode = e; taken = nothing ws h });
  steady = give_steady i;
}

-- P of what is read, from what is known where it is read
found_by : {X : Type 0} (spell : X → Row) (p : Opcode) (ws : List ℕ) (res : Result (X × List ℕ) Stop) →
    ((x : X) (rest : List ℕ) → res ≡ Ok (x, rest) → Fits (spell x) p ws rest) → Found spell p ws res
found_by spell p ws (Ok x) f = f x.0 x.1 refl
found_by spell p ws (Err e) f = tt

pub word_shape : (p q : Opcode) → q ≡ p → Shape (λ w. with_word q w) p word_at
word_shape p q e = record {
  found = λ ws h. found_by (λ w. with_word q w) p ws (word_at ws) (λ w rest read. record { legal = refl; opcode = e; taken = (word_found ws w rest h read).1 });
  steady = word_steady;
}

pub long_shape : (p q : Opcode) → q ≡ p → Shape (λ v. with_long q v) p long_at
long_shape p q e = record {
  found = λ ws h. found_by (λ v. with_long q v) p ws (long_at ws) (λ v rest read. record { legal = refl; opcode = e; taken = long_found ws v rest h read });
  steady = long_steady;
}

-- a word that the rule allows
abbrev Ruled : WordRule → List ℕ → Result (ℕ × List ℕ) Stop → Type 0
Ruled r ws (Ok x) = (holds r x.0 ≡ true) × Takes ws (x.0 ∷ []) x.1
Ruled r ws (Err e) = Unit {0}

ruled_cases : (r : WordRule) (ws : List ℕ) → AreWords ws → Ruled r ws (ruled_at r ws)
unfolding ruled_at
ruled_cases r ws h =
    after word_at _ ws (Ruled r ws) (λ e. tt) (λ w rest e. branch (holds r w) _ _ rest (Ruled r ws) (λ ok. (ok, (word_found ws w rest h e).1)) (λ bad. tt))

pub ruled_found : (r : WordRule) (ws : List ℕ) (w : ℕ) (rest : List ℕ) → AreWords ws → ruled_at r ws ≡ Ok (w, rest) →
    (holds r w ≡ true) × Takes ws (w ∷ []) rest
ruled_found r ws w rest h e = subst (Ruled r ws) e (ruled_cases r ws h)

pub ruled_shape : (p q : Opcode) (r : WordRule) → q ≡ p → Shape (λ w. with_ruled r q w) p (ruled_at r)
ruled_shape p q r e = record {
  found =
      λ ws h. found_by (λ w. with_ruled r q w) p ws (ruled_at r ws)
      (λ w rest read. let f = ruled_found r ws w rest h read in record { legal = f.0; opcode = e; taken = f.1 });
  steady = ruled_steady r;
}

pub both : {a b : Bool} → a ≡ true → b ≡ true → (a && b) ≡ true
both ha hb = rw (ha, hb) refl

pub joined : (ws x mid y rest : List ℕ) → Takes ws x mid → Takes mid y rest → Takes ws (x ++ y) rest
joined ws x mid y rest a b = record { parts = rw (a.parts, b.parts) (sym (append_assoc x y rest)); rest_words = b.rest_words }

pub takes_is : (class : OperandClass) (s : Size) (m r : ℕ) (ws : List ℕ) (ea : Ea) (rest : List ℕ) → allows class s m r ≡ true → IsOperand s m r ws ea rest →
    takes class s ea ≡ true
takes_is class s m r ws ea rest h o = rw (o.mode_is, o.lower_is, h, o.spelled) refl

-- the operand whose class has been tested
abbrev Operand : OperandClass → Size → ℕ → ℕ → List ℕ → Ea → List ℕ → Type 0
Operand class s m r ws ea rest = (takes class s ea ≡ true) × IsOperand s m r ws ea rest

pub class_found : (class : OperandClass) (s : Size) (m r : ℕ) (ws : List ℕ) (ea : Ea) (rest : List ℕ) → m < 8 → AreWords ws → allows class s m r ≡ true →
    operand_at s m r ws ≡ Ok (ea, rest) → Operand class s m r ws ea rest
class_found class s m r ws ea rest lt h ok read =
    let o = operand_found s m r ws ea rest lt (allowed_lower class s m r ok) h read in
    (takes_is class s m r ws ea rest ok o, o)

-- an operand in the low six bits
pub ea_shape : (p : Opcode) (class : OperandClass) (s : Size) (a b c f : ℕ) → IsOpcode p → p.line ≡ a → p.upper ≡ b → p.bit ≡ c → p.size ≡ f →
    Shape (λ ea. at_ea class s a b c f ea) p (ea_at class s p)
unfolding ea_at
ea_shape p class s a b c f is ha hb hc hf = only _ p (allows class s p.mode p.lower) _ (λ ok. record {
  found = λ ws h. found_by (λ ea. at_ea class s a b c f ea) p ws (operand_at s p.mode p.lower ws) (λ ea rest read.
      let o = class_found class s p.mode p.lower ws ea rest is.mode h ok read in
      record { legal = o.0; opcode = op_is p _ _ _ _ _ _ ha hb hc hf (sym o.1.mode_is) (sym o.1.lower_is); taken = o.1.taken });
  steady = operand_steady s p.mode p.lower;
})

-- what is made of the parts, in another row's form
pub made_shape : {X Y : Type 0} (spell : X → Row) (other : Y → Row) (p : Opcode) (r : Reader X) (make : X → Y) → Shape spell p r →
    ((x : X) → other (make x) ≡ spell x) → Shape other p (reads_then r (λ x. give (make x)))
made_shape spell other p r make sh same = record {
  found = λ ws h. after r (λ x. give (make x)) ws (Found other p ws) (λ e. tt)
      (λ x rest e. subst (λ (y : Row). Fits y p ws rest) (sym (same x)) (subst (Found spell p ws) e (sh.found ws h)));
  steady = made_steady r make sh.steady;
}

abbrev pub sized_row : OperandClass → ℕ → ℕ → ℕ → Size × Ea → Row
sized_row class a b c x = sized class a b c x.0 x.1

pub sized_shape : (p : Opcode) (class : OperandClass) (a b c : ℕ) → IsOpcode p → p.line ≡ a → p.upper ≡ b → p.bit ≡ c →
    Shape (sized_row class a b c) p (sized_at class p)
unfolding sized_at
sized_shape p class a b c is ha hb hc = by_size_shape (sized_row class a b c) p p.size _ (λ s e.
    made_shape (λ ea. at_ea class s a b c (size_bits s) ea) (sized_row class a b c) p (ea_at class s p) (λ ea. (s, ea))
    (ea_shape p class s a b c (size_bits s) is ha hb hc (sym e)) (λ ea. refl))

abbrev pub word_ea_row : WordRule → OperandClass → Size → ℕ → ℕ → ℕ → ℕ → ℕ × Ea → Row
word_ea_row r class s a b c f x = word_ea r class s a b c f x.0 x.1

-- a word with fixed bits, and then an operand's words
pub word_ea_shape : (p : Opcode) (r : WordRule) (class : OperandClass) (s : Size) (a b c f : ℕ) → IsOpcode p → p.line ≡ a → p.upper ≡ b → p.bit ≡ c →
    p.size ≡ f → Shape (word_ea_row r class s a b c f) p (word_ea_at r class s p)
word_ea_shape p r class s a b c f is ha hb hc hf = record {
  found = λ ws h. branch (allows class s p.mode p.lower) _ _ ws (Found (word_ea_row r class s a b c f) p ws) (λ ok.
      after (ruled_at r) _ ws (Found (word_ea_row r class s a b c f) p ws) (λ e. tt) (λ w mid ew. let x = ruled_found r ws w mid h ew in
      after (operand_at s p.mode p.lower) _ mid (Found (word_ea_row r class s a b c f) p ws) (λ e. tt) (λ ea rest eo.
      let o = class_found class s p.mode p.lower mid ea rest is.mode x.1.rest_words ok eo in
      record {
        legal = both x.0 o.0;
        opcode = op_is p _ _ _ _ _ _ ha hb hc hf (sym o.1.mode_is) (sym o.1.lower_is);
        taken = joined _ _ _ _ _ x.1 o.1.taken;
      }))) (λ bad. tt);
  steady = word_ea_then_steady r class s p;
}

abbrev pub immediate_ea_row : OperandClass → ℕ → ℕ → ℕ → Size × ℕ × Ea → Row
immediate_ea_row class a b c x = immediate_ea class a b c x.0 x.1 x.2

-- an immediate, and then an operand's words
immediate_ea_of : (p : Opcode) (class : OperandClass) (a b c : ℕ) (s : Size) → IsOpcode p → p.line ≡ a → p.upper ≡ b → p.bit ≡ c → p.size ≡ size_bits s →
    Shape (immediate_ea_row class a b c) p
    (when_legal (allows class s p.mode p.lower) (reads_then (immediate_at s) (λ v. reads_then (operand_at s p.mode p.lower) (λ ea. give (s, v, ea)))))
immediate_ea_of p class a b c s is ha hb hc hf = record {
  found = λ ws h. branch (allows class s p.mode p.lower) _ _ ws (Found (immediate_ea_row class a b c) p ws) (λ ok.
      after (immediate_at s) _ ws (Found (immediate_ea_row class a b c) p ws) (λ e. tt) (λ v mid ev. let x = immediate_found s ws v mid h ev in
      after (operand_at s p.mode p.lower) _ mid (Found (immediate_ea_row class a b c) p ws) (λ e. tt) (λ ea rest eo.
      let o = class_found class s p.mode p.lower mid ea rest is.mode x.1.rest_words ok eo in
      record {
        legal = both x.0 o.0;
        opcode = op_is p _ _ _ _ _ _ ha hb hc hf (sym o.1.mode_is) (sym o.1.lower_is);
        taken = joined _ _ _ _ _ x.1 o.1.taken;
      }))) (λ bad. tt);
  steady = immediate_then_ea_steady class s p;
}

pub immediate_ea_shape : (p : Opcode) (class : OperandClass) (a b c : ℕ) → IsOpcode p → p.line ≡ a → p.upper ≡ b → p.bit ≡ c →
    Shape (immediate_ea_row class a b c) p (immediate_ea_at class p)
immediate_ea_shape p class a b c is ha hb hc =
    by_size_shape (immediate_ea_row class a b c) p p.size _ (λ s e. immediate_ea_of p class a b c s is ha hb hc (sym e))

-- a branch: its byte stands in the low eight bits
abbrev pub FoundBranch : ℕ → List ℕ → Result (Branch × List ℕ) Stop → Type 0
FoundBranch b ws (Ok x) = (is_branch x.0 ≡ true) × (branch_byte x.0 ≡ b) × Takes ws (branch_words x.0) x.1
FoundBranch b ws (Err e) = Unit {0}

pub branch_cases : (b : ℕ) (ws : List ℕ) → AreWords ws → FoundBranch b ws (branch_at b ws)
unfolding branch_at
branch_cases b ws h =
    branch (b == 0) _ _ ws (FoundBranch b ws)
    (λ e. after word_at _ ws (FoundBranch b ws) (λ e. tt) (λ w rest ew. (refl, sym (eq_true b 0 e), (word_found ws w rest h ew).1))) (λ z.
    branch (b == 255) _ _ ws (FoundBranch b ws)
    (λ e. after long_at _ ws (FoundBranch b ws) (λ e. tt) (λ l rest el. (refl, sym (eq_true b 255 e), long_found ws l rest h el))) (λ o.
    (rw (z, o) refl, refl, nothing ws h)))

-- what stands behind TRAPcc
abbrev pub FoundTrap : ℕ → List ℕ → Result (TrapOperand × List ℕ) Stop → Type 0
FoundTrap n ws (Ok x) = (trap_lower x.0 ≡ n) × Takes ws (trap_words x.0) x.1
FoundTrap n ws (Err e) = Unit {0}

pub trap_cases : (n : ℕ) (ws : List ℕ) → AreWords ws → FoundTrap n ws (trap_operand_at n ws)
unfolding trap_operand_at
trap_cases n ws h =
    branch (n == 2) _ _ ws (FoundTrap n ws)
    (λ e. after word_at _ ws (FoundTrap n ws) (λ e. tt) (λ w rest ew. (sym (eq_true n 2 e), (word_found ws w rest h ew).1))) (λ two.
    branch (n == 3) _ _ ws (FoundTrap n ws)
    (λ e. after long_at _ ws (FoundTrap n ws) (λ e. tt) (λ l rest el. (sym (eq_true n 3 e), long_found ws l rest h el))) (λ three.
    branch (n == 4) _ _ ws (FoundTrap n ws) (λ e. (sym (eq_true n 4 e), nothing ws h)) (λ four. tt)))
