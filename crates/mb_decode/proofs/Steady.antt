-- What a reader does as more words come: what it read stays, what is illegal stays so, and where it
-- wants more there are words that complete it.
use Rattle.std.proofs.Common.{◌≡◌, ℕ, ◌<◌, ◌^◌, Bool, true, false, cond, List, [], ◌∷◌, ◌++◌, ◌/◌, ◌%◌, Result, Ok, Err, ◌⊎◌, inl, inr}
use Rattle.std.proofs.Common.{refl, sym, ap, ◌∙◌, append_assoc, arith}
use Rattle.std.specs.Prelude.{◌==◌}
use Rattle.mb_instr.specs.Codes.{AreWords}
use Rattle.mb_instr.proofs.Words.{AreWords-nil, AreWords-cons, AreWords-append}
use Rattle.mb_decode.specs.declared.reading.Stop.{Stop}
use Rattle.mb_decode.specs.declared.reading.Stop.TheVariants.{More, Illegal}
use Rattle.mb_decode.specs.Reading.{Reader, reads_then, give, illegal, word_at}
use Rattle.mb_instr.specs.declared.size.Size.{Size}
use Rattle.mb_instr.specs.declared.size.Size.TheVariants as size
use Rattle.mb_instr.specs.declared.operand.Ea.{Ea}
use Rattle.mb_instr.specs.declared.operand.Ext.TheVariants.{Brief}
use Rattle.mb_instr.specs.declared.operand.OperandClass.{OperandClass}
use Rattle.mb_instr.specs.declared.rule.WordRule.{WordRule}
use Rattle.mb_instr.specs.declared.rule.WordRule.TheVariants as rule
use Rattle.mb_instr.specs.declared.opcode.Opcode.{Opcode}
use Rattle.mb_instr.specs.Rules.{holds}
use Rattle.mb_instr.specs.Operands.{is_full, allows}
use Rattle.mb_decode.specs.Reading.{long_at, wide_at, full_at, ext_at, immediate_at, operand_at, ruled_at, branch_at, trap_operand_at}
use Rattle.mb_decode.proofs.ReadBack.{next}

-- words that a reader reads to their end
pub record Readable {A : Type 0} (r : Reader A) : Type 0 where
  pub words : List ℕ
  pub value : A
  pub are_words : AreWords words
  pub reads : r words ≡ Ok (value, [])

-- words that complete these
pub record Completion {A : Type 0} (r : Reader A) (ws : List ℕ) : Type 0 where
  pub word : ℕ
  pub others : List ℕ
  pub value : A
  pub are_words : AreWords (word ∷ others)
  pub reads : r (ws ++ word ∷ others) ≡ Ok (value, [])

-- how a reader stands to more words
pub record Steady {A : Type 0} (r : Reader A) : Type 0 where
  pub longer : (ws x : List ℕ) (a : A) (rest : List ℕ) → r ws ≡ Ok (a, rest) → r (ws ++ x) ≡ Ok (a, rest ++ x)
  pub stays : (ws x : List ℕ) → r ws ≡ Err Illegal → r (ws ++ x) ≡ Err Illegal
  pub completes : (ws : List ℕ) → r ws ≡ Err More → Completion r ws

next_err : {A B : Type 0} (r : Reader A) (f : A → Reader B) (ws : List ℕ) (e : Stop) → r ws ≡ Err e → reads_then r f ws ≡ Err e
unfolding reads_then
next_err r f ws e h = rw (h, reads_then) refl

abbrev Split : {A B : Type 0} → Result (A × List ℕ) Stop → (A → Reader B) → Result (B × List ℕ) Stop → Type 0
Split {A = A} res f y = ((a : A) × (mid : List ℕ) × (res ≡ Ok (a, mid)) × (f a mid ≡ y)) ⊎ ((e : Stop) × (res ≡ Err e) × (y ≡ Err e))

split_cases : {A B : Type 0} (res : Result (A × List ℕ) Stop) (f : A → Reader B) (y : Result (B × List ℕ) Stop) →
    elim res [ Ok x ↦ f x.0 x.1 | Err e ↦ Err e ] ≡ y → Split res f y
split_cases (Ok x) f y e = inl (x.0, x.1, refl, e)
split_cases (Err d) f y e = inr (d, refl, sym e)

split : {A B : Type 0} (r : Reader A) (f : A → Reader B) (ws : List ℕ) (y : Result (B × List ℕ) Stop) → reads_then r f ws ≡ y → Split (r ws) f y
unfolding reads_then
split r f ws y e = split_cases (r ws) f y e

abbrev done : {A : Type 0} → Result A Stop → A → Type 0
done r a = r ≡ Ok a

ok_not_err : {A : Type 0} (a : A) (e : Stop) → done (Err e) a → ⊥
ok_not_err a e h = cc

abbrev fail : {A : Type 0} → Stop → Result A Stop
fail e = Err e

err_across : {A B : Type 0} (a b : Stop) → fail {A = B} a ≡ fail {A = B} b → fail {A = A} a ≡ fail {A = A} b
err_across a b h = ap (λ r. elim r [ Ok y ↦ Err a | Err d ↦ Err d ]) h

-- a reader, and what goes on from its value
-- where r wants more, it can end so that f begins
abbrev pub Ends : {A B : Type 0} → Reader A → (A → Reader B) → Type 0
Ends r f = (ws : List ℕ) → r ws ≡ Err More → (c : Completion r ws) × Readable (f c.value)

pub always : {A B : Type 0} (r : Reader A) (f : A → Reader B) → Steady r → ((a : A) → Readable (f a)) → Ends r f
always r f gr b ws e = let c = gr.completes ws e in (c, b c.value)

pub then_steady : {A B : Type 0} (r : Reader A) (f : A → Reader B) → Steady r → ((a : A) → Steady (f a)) → Ends r f → Steady (reads_then r f)
then_steady r f gr gf begins = record {
  longer = λ ws x b rest e. elim (split r f ws (Ok (b, rest)) e) [
    | inl s ↦ next r f (ws ++ x) s.0 (s.1 ++ x) (gr.longer ws x s.0 s.1 s.2) ∙ (gf s.0).longer s.1 x b rest s.3
    | inr s ↦ absurd (ok_not_err (b, rest) s.0 (sym s.2))
  ];
  stays = λ ws x e. elim (split r f ws (Err Illegal) e) [
    | inl s ↦ next r f (ws ++ x) s.0 (s.1 ++ x) (gr.longer ws x s.0 s.1 s.2) ∙ (gf s.0).stays s.1 x s.3
    | inr s ↦ next_err r f (ws ++ x) Illegal (gr.stays ws x (s.1 ∙ err_across s.0 Illegal (sym s.2)))
  ];
  completes = λ ws e. elim (split r f ws (Err More) e) [
    | inl s ↦ let c = (gf s.0).completes s.1 s.3 in record {
      word = c.word;
      others = c.others;
      value = c.value;
      are_words = c.are_words;
      reads = next r f _ s.0 _ (gr.longer ws (c.word ∷ c.others) s.0 s.1 s.2) ∙ c.reads;
    }
    | inr s ↦ let p = begins ws (s.1 ∙ err_across s.0 More (sym s.2)) in let c = p.0 in let b = p.1 in record {
      word = c.word;
      others = c.others ++ b.words;
      value = b.value;
      are_words = AreWords-append (c.word ∷ c.others) b.words c.are_words b.are_words;
      reads =
          ap (λ (t : List ℕ). reads_then r f t) (sym (append_assoc ws (c.word ∷ c.others) b.words)) ∙
          next r f _ c.value b.words (gr.longer (ws ++ c.word ∷ c.others) b.words c.value [] c.reads) ∙
          b.reads;
    }
  ];
}

pub then_readable : {A B : Type 0} (r : Reader A) (f : A → Reader B) → Steady r → (b : Readable r) → Readable (f b.value) → Readable (reads_then r f)
then_readable r f gr b c = record {
  words = b.words ++ c.words;
  value = c.value;
  are_words = AreWords-append b.words c.words b.are_words c.are_words;
  reads = next r f _ b.value c.words (gr.longer b.words c.words b.value [] b.reads) ∙ c.reads;
}

pub give_steady : {A : Type 0} (a : A) → Steady (give a)
give_steady a = record {
  longer = λ ws x b rest e. ap (λ (r : Result (_ × List ℕ) Stop). elim r [ Ok y ↦ Ok (y.0, y.1 ++ x) | Err d ↦ Err d ]) e;
  stays = λ ws x e. absurd (ok_not_err (a, ws) Illegal (sym e));
  completes = λ ws e. absurd (ok_not_err (a, ws) More (sym e));
}

pub give_readable : {A : Type 0} (a : A) → Readable (give a)
give_readable a = record { words = []; value = a; are_words = AreWords-nil; reads = refl }

pub illegal_steady : {A : Type 0} → Steady (illegal {A = A})
illegal_steady = record { longer = λ ws x b rest e. absurd (ok_not_err (b, rest) Illegal e); stays = λ ws x e. refl; completes = λ ws e. absurd cc }

pub cond_steady : {A : Type 0} (b : Bool) (x y : Reader A) → Steady x → Steady y → Steady (cond b x y)
cond_steady true x y gx gy = gx
cond_steady false x y gx gy = gy

pub cond_readable : {A : Type 0} (b : Bool) (x y : Reader A) → Readable x → Readable y → Readable (cond b x y)
cond_readable true x y gx gy = gx
cond_readable false x y gx gy = gy

word_longer : (ws x : List ℕ) (a : ℕ) (rest : List ℕ) → word_at ws ≡ Ok (a, rest) → word_at (ws ++ x) ≡ Ok (a, rest ++ x)
unfolding word_at
word_longer [] x a rest e = absurd cc
word_longer (w ∷ ws) x a rest e = ap (λ (r : Result (ℕ × List ℕ) Stop). elim r [ Ok y ↦ Ok (y.0, y.1 ++ x) | Err d ↦ Err d ]) e

word_stays : (ws x : List ℕ) → word_at ws ≡ Err Illegal → word_at (ws ++ x) ≡ Err Illegal
unfolding word_at
word_stays [] x e = absurd cc
word_stays (w ∷ ws) x e = absurd cc

word_completes : (ws : List ℕ) → word_at ws ≡ Err More → Completion word_at ws
unfolding word_at
word_completes [] e = record { word = 0; others = []; value = 0; are_words = AreWords-cons 0 [] (omega arith) AreWords-nil; reads = refl }
word_completes (w ∷ ws) e = absurd cc

pub word_steady : Steady word_at
unfolding word_at
word_steady = record { longer = λ ws x a rest e. word_longer ws x a rest e; stays = λ ws x e. word_stays ws x e; completes = λ ws e. word_completes ws e }

pub word_readable : Readable word_at
unfolding word_at
word_readable = record { words = 0 ∷ []; value = 0; are_words = AreWords-cons 0 [] (omega arith) AreWords-nil; reads = refl }

pub word_ends : {B : Type 0} (f : ℕ → Reader B) (w : ℕ) → w < 2 ^ 16 → Readable (f w) → Ends word_at f
unfolding word_at
word_ends f w lt b [] e = (record { word = w; others = []; value = w; are_words = AreWords-cons w [] lt AreWords-nil; reads = refl }, b)
word_ends f w lt b (x ∷ ws) e = absurd cc

pub word_then_readable : {B : Type 0} (f : ℕ → Reader B) (w : ℕ) → w < 2 ^ 16 → Readable (f w) → Readable (reads_then word_at f)
unfolding word_at
word_then_readable f w lt b = record {
  words = w ∷ b.words;
  value = b.value;
  are_words = AreWords-cons w b.words lt b.are_words;
  reads = next word_at f (w ∷ b.words) w b.words refl ∙ b.reads;
}

-- a reader of anything, and a value made of it
pub made_steady : {A B : Type 0} (r : Reader A) (make : A → B) → Steady r → Steady (reads_then r (λ a. give (make a)))
made_steady r make g = then_steady r _ g (λ a. give_steady (make a)) (always r _ g (λ a. give_readable (make a)))

pub made_readable : {A B : Type 0} (r : Reader A) (make : A → B) → Steady r → Readable r → Readable (reads_then r (λ a. give (make a)))
made_readable r make g b = then_readable r _ g b (give_readable (make b.value))

pub long_steady : Steady long_at
unfolding long_at
long_steady = then_steady _ _ word_steady (λ high. made_steady _ _ word_steady) (always _ _ word_steady (λ high. made_readable _ _ word_steady word_readable))

pub long_readable : Readable long_at
unfolding long_at
long_readable = then_readable _ _ word_steady word_readable (made_readable _ _ word_steady word_readable)

wide_steady : (width : ℕ) → Steady (wide_at width)
unfolding wide_at
wide_steady width = cond_steady (width == 2) _ _ word_steady (cond_steady (width == 3) _ _ long_steady (give_steady _))

wide_readable : (width : ℕ) → Readable (wide_at width)
unfolding wide_at
wide_readable width = cond_readable (width == 2) _ _ word_readable (cond_readable (width == 3) _ _ long_readable (give_readable _))

full_steady : (w : ℕ) → Steady (full_at w)
unfolding full_at
full_steady w =
    then_steady _ _ (wide_steady _) (λ bd. made_steady _ _ (wide_steady _))
    (always _ _ (wide_steady _) (λ bd. made_readable _ _ (wide_steady _) (wide_readable _)))

ext_steady : Steady ext_at
ext_steady =
    then_steady _ _ word_steady (λ w. cond_steady (w / 2 ^ 8 % 2 == 0) _ _ (give_steady _) (cond_steady (is_full w) _ _ (full_steady w) illegal_steady))
    (word_ends _ 0 (omega arith) (give_readable (Brief 0)))

ext_readable : Readable ext_at
ext_readable = word_then_readable _ 0 (omega arith) (give_readable (Brief 0))

pub immediate_steady : (s : Size) → Steady (immediate_at s)
immediate_steady size.Byte = word_steady
immediate_steady size.Word = word_steady
immediate_steady size.Long = long_steady

pub immediate_readable : (s : Size) → Readable (immediate_at s)
immediate_readable size.Byte = word_readable
immediate_readable size.Word = word_readable
immediate_readable size.Long = long_readable

pub operand_steady : (s : Size) (m r : ℕ) → Steady (operand_at s m r)
unfolding operand_at
operand_steady s m r =
    cond_steady (m == 0) _ _ (give_steady _)
    (cond_steady (m == 1) _ _ (give_steady _) (cond_steady (m == 2) _ _ (give_steady _) (cond_steady (m == 3) _ _ (give_steady _)
    (cond_steady (m == 4) _ _ (give_steady _)
    (cond_steady (m == 5) _ _ (made_steady _ _ word_steady) (cond_steady (m == 6) _ _ (made_steady _ _ ext_steady)
    (cond_steady (r == 0) _ _ (made_steady _ _ word_steady) (cond_steady (r == 1) _ _ (made_steady _ _ long_steady)
    (cond_steady (r == 2) _ _ (made_steady _ _ word_steady)
    (cond_steady (r == 3) _ _ (made_steady _ _ ext_steady) (made_steady _ _ (immediate_steady s))))))))))))

pub operand_readable : (s : Size) (m r : ℕ) → Readable (operand_at s m r)
unfolding operand_at
operand_readable s m r =
    cond_readable (m == 0) _ _ (give_readable _)
    (cond_readable (m == 1) _ _ (give_readable _) (cond_readable (m == 2) _ _ (give_readable _) (cond_readable (m == 3) _ _ (give_readable _)
    (cond_readable (m == 4) _ _ (give_readable _)
    (cond_readable (m == 5) _ _ (made_readable _ _ word_steady word_readable) (cond_readable (m == 6) _ _ (made_readable _ _ ext_steady ext_readable)
    (cond_readable (r == 0) _ _ (made_readable _ _ word_steady word_readable) (cond_readable (r == 1) _ _ (made_readable _ _ long_steady long_readable)
    (cond_readable (r == 2) _ _ (made_readable _ _ word_steady word_readable)
    (cond_readable (r == 3) _ _ (made_readable _ _ ext_steady ext_readable) (made_readable _ _ (immediate_steady s) (immediate_readable s))))))))))))

-- ---- what rows have in common

-- a word that the rule has
abbrev rule_word : WordRule → ℕ
rule_word rule.Line = 32768
rule_word rule.Check = 2048
rule_word _ = 0

rule_word_is : (r : WordRule) → (holds r (rule_word r) ≡ true) × (rule_word r < 2 ^ 16)
rule_word_is rule.Any = (refl, omega arith)
rule_word_is rule.RegisterAndBit = (refl, omega arith)
rule_word_is rule.Compare = (refl, omega arith)
rule_word_is rule.Check = (refl, omega arith)
rule_word_is rule.Swap = (refl, omega arith)
rule_word_is rule.SwapPair = (refl, omega arith)
rule_word_is rule.LongPair = (refl, omega arith)
rule_word_is rule.Control = (refl, omega arith)
rule_word_is rule.Field = (refl, omega arith)
rule_word_is rule.FieldAlone = (refl, omega arith)
rule_word_is rule.Line = (refl, omega arith)

allowed_readable : {A : Type 0} (b : Bool) (x y : Reader A) → b ≡ true → Readable x → Readable (cond b x y)
allowed_readable true x y e h = h
allowed_readable false x y e h = absurd cc

pub ruled_steady : (r : WordRule) → Steady (ruled_at r)
unfolding ruled_at
ruled_steady r =
    let w = rule_word_is r in
    then_steady _ _ word_steady (λ x. cond_steady (holds r x) _ _ (give_steady x) illegal_steady)
    (word_ends _ (rule_word r) w.1 (allowed_readable _ _ _ w.0 (give_readable (rule_word r))))

pub ruled_readable : (r : WordRule) → Readable (ruled_at r)
unfolding ruled_at
ruled_readable r = let w = rule_word_is r in word_then_readable _ (rule_word r) w.1 (allowed_readable _ _ _ w.0 (give_readable (rule_word r)))

pub word_ea_then_steady : (r : WordRule) (class : OperandClass) (s : Size) (p : Opcode) →
    Steady {A = ℕ × Ea}
    (cond (allows class s p.mode p.lower) (reads_then (ruled_at r) (λ w. reads_then (operand_at s p.mode p.lower) (λ ea. give (w, ea)))) illegal)
word_ea_then_steady r class s p =
    cond_steady _ _ _
    (then_steady _ _ (ruled_steady r) (λ w. made_steady _ _ (operand_steady _ _ _))
    (always _ _ (ruled_steady r) (λ w. made_readable _ _ (operand_steady _ _ _) (operand_readable _ _ _)))) illegal_steady

pub immediate_then_ea_steady : (class : OperandClass) (s : Size) (p : Opcode) →
    Steady {A = Size × ℕ × Ea}
    (cond (allows class s p.mode p.lower) (reads_then (immediate_at s) (λ v. reads_then (operand_at s p.mode p.lower) (λ ea. give (s, v, ea)))) illegal)
immediate_then_ea_steady class s p =
    cond_steady _ _ _
    (then_steady _ _ (immediate_steady s) (λ v. made_steady _ _ (operand_steady _ _ _))
    (always _ _ (immediate_steady s) (λ v. made_readable _ _ (operand_steady _ _ _) (operand_readable _ _ _)))) illegal_steady

pub branch_steady : (b : ℕ) → Steady (branch_at b)
unfolding branch_at
branch_steady b = cond_steady (b == 0) _ _ (made_steady _ _ word_steady) (cond_steady (b == 255) _ _ (made_steady _ _ long_steady) (give_steady _))

pub trap_operand_steady : (n : ℕ) → Steady (trap_operand_at n)
unfolding trap_operand_at
trap_operand_steady n =
    cond_steady _ _ _ (made_steady _ _ word_steady) (cond_steady _ _ _ (made_steady _ _ long_steady) (cond_steady _ _ _ (give_steady _) illegal_steady))
