-- What is read is spelled so.
use Rattle.std.proofs.Common.{◌≡◌, ◌≢◌, ℕ, ◌+◌, ◌*◌, ◌/◌, ◌%◌, ◌<◌, ◌^◌, Bool, true, false, cond, List, [], ◌∷◌, ◌++◌, Result, Ok, Err, refl, sym, ap, subst}
use Rattle.std.proofs.Common.{append_assoc, arith}
use Rattle.std.specs.Prelude.{◌==◌, nat_lt}
use Rattle.std.proofs.lemmas.Bool.Decides.{nat_tests}
use Rattle.mb_instr.specs.declared.size.Size.{Size}
use Rattle.mb_instr.specs.declared.size.Size.TheVariants as size
use Rattle.mb_instr.specs.declared.operand.Ea.{Ea}
use Rattle.mb_instr.specs.declared.operand.Ext.{Ext}
use Rattle.mb_instr.specs.declared.operand.OperandClass.{OperandClass}
use Rattle.mb_instr.specs.declared.operand.OperandClass.TheVariants.{All, Data, Alterable, DataAlterable, DataAlterableOrPc, MemoryAlterable, Control}
use Rattle.mb_instr.specs.declared.operand.OperandClass.TheVariants.{ControlAlterable, StoreList, LoadList, FieldSource, FieldTarget}
use Rattle.mb_instr.specs.Operands.{allows, mode, lower, more, is_spelled, long_words, wide, fits_width, is_full, is_ext, ext, is_immediate, immediate}
use Rattle.mb_instr.specs.Codes.{AreWords}
use Rattle.mb_instr.proofs.Words.{AreWords-head, AreWords-tail}
use Rattle.mb_decode.specs.declared.reading.Stop.{Stop}
use Rattle.mb_decode.specs.Reading.{Reader, reads_then, give, word_at, long_at, wide_at, full_at, ext_at, immediate_at, operand_at}

-- P holds of what a reader gives, by its steps
after_cases : {A B : Type 0} (r : Result (A × List ℕ) Stop) (f : A → Reader B) (P : Result (B × List ℕ) Stop → Type 0) → ((e : Stop) → P (Err e)) →
    ((a : A) (mid : List ℕ) → r ≡ Ok (a, mid) → P (f a mid)) → P (elim r [ Ok x ↦ f x.0 x.1 | Err e ↦ Err e ])
after_cases (Ok x) f P err ok = ok x.0 x.1 refl
after_cases (Err e) f P err ok = err e

pub after : {A B : Type 0} (r : Reader A) (f : A → Reader B) (ws : List ℕ) (P : Result (B × List ℕ) Stop → Type 0) → ((e : Stop) → P (Err e)) →
    ((a : A) (mid : List ℕ) → r ws ≡ Ok (a, mid) → P (f a mid)) → P (reads_then r f ws)
unfolding reads_then
after r f ws P err ok = after_cases (r ws) f P err ok

pub branch : {A : Type 0} (b : Bool) (x y : Reader A) (ws : List ℕ) (P : Result (A × List ℕ) Stop → Type 0) → (b ≡ true → P (x ws)) → (b ≡ false → P (y ws)) →
    P (cond b x y ws)
branch true x y ws P met unmet = met refl
branch false x y ws P met unmet = unmet refl

pub eq_true : (a b : ℕ) → (a == b) ≡ true → a ≡ b
eq_true a b h = grind (arith, nat_tests)

pub eq_false : (a b : ℕ) → (a == b) ≡ false → a ≢ b
eq_false a b h = grind (arith, nat_tests)

pub equal : {A : Type 0} (a b : ℕ) (x y : Reader A) (ws : List ℕ) (P : Result (A × List ℕ) Stop → Type 0) → (a ≡ b → P (x ws)) → (a ≢ b → P (y ws)) →
    P (cond (a == b) x y ws)
equal a b x y ws P met unmet = branch (a == b) x y ws P (λ e. met (eq_true a b e)) (λ e. unmet (eq_false a b e))

-- what a reader took from the front
pub record Takes (ws text rest : List ℕ) : Type 0 where
  pub parts : ws ≡ text ++ rest
  pub rest_words : AreWords rest

abbrev FoundWord : List ℕ → Result (ℕ × List ℕ) Stop → Type 0
FoundWord ws (Ok x) = (x.0 < 2 ^ 16) × Takes ws (x.0 ∷ []) x.1
FoundWord ws (Err e) = Unit {0}

word_cases : (ws : List ℕ) → AreWords ws → FoundWord ws (word_at ws)
unfolding word_at
word_cases [] h = tt
word_cases (w ∷ ws) h = (AreWords-head w ws h, record { parts = refl; rest_words = AreWords-tail w ws h })

pub word_found : (ws : List ℕ) (w : ℕ) (rest : List ℕ) → AreWords ws → word_at ws ≡ Ok (w, rest) → (w < 2 ^ 16) × Takes ws (w ∷ []) rest
word_found ws w rest h e = subst (FoundWord ws) e (word_cases ws h)

abbrev FoundLong : List ℕ → Result (ℕ × List ℕ) Stop → Type 0
FoundLong ws (Ok x) = Takes ws (long_words x.0) x.1
FoundLong ws (Err e) = Unit {0}

long_cases : (ws : List ℕ) → AreWords ws → FoundLong ws (long_at ws)
unfolding long_at
long_cases ws h =
    after word_at _ ws (FoundLong ws) (λ e. tt)
    (λ high mid e. let a = word_found ws high mid h e in after word_at _ mid (FoundLong ws) (λ e. tt) (λ low rest e2.
    let b = word_found mid low rest a.1.rest_words e2 in
    let l = b.0 in
    let hi : (high * 65536 + low) / 65536 ≡ high = omega arith in
    let lo : (high * 65536 + low) % 65536 ≡ low = omega arith in
    record { parts = rw (hi, lo, a.1.parts, b.1.parts) refl; rest_words = b.1.rest_words }))

pub long_found : (ws : List ℕ) (v : ℕ) (rest : List ℕ) → AreWords ws → long_at ws ≡ Ok (v, rest) → Takes ws (long_words v) rest
long_found ws v rest h e = subst (FoundLong ws) e (long_cases ws h)

wide_of : (two three : Bool) (ws : List ℕ) (v : ℕ) (rest : List ℕ) → AreWords ws → cond two word_at (cond three long_at (give 0)) ws ≡ Ok (v, rest) →
    (cond two (nat_lt v 65536) (cond three true (v == 0)) ≡ true) × Takes ws (cond two (v ∷ []) (cond three (long_words v) [])) rest
wide_of true three ws v rest h e = let a = word_found ws v rest h e in let l = a.0 in (grind (arith, nat_tests), a.1)
wide_of false true ws v rest h e = (refl, long_found ws v rest h e)
wide_of false false ws v rest h e =
    let v-is : 0 ≡ v = ap (λ (r : Result (ℕ × List ℕ) Stop). elim r [ Ok x ↦ x.0 | Err e ↦ 0 ]) e in
    let rest-is : ws ≡ rest = ap (λ (r : Result (ℕ × List ℕ) Stop). elim r [ Ok x ↦ x.1 | Err e ↦ ws ]) e in
    (rw (← v-is) refl, record { parts = rest-is; rest_words = rw (← rest-is) h })

pub wide_found : (width : ℕ) (ws : List ℕ) (v : ℕ) (rest : List ℕ) → AreWords ws → wide_at width ws ≡ Ok (v, rest) →
    (fits_width width v ≡ true) × Takes ws (wide width v) rest
unfolding wide_at
wide_found width ws v rest h e = wide_of (width == 2) (width == 3) ws v rest h e

abbrev FoundExt : List ℕ → Result (Ext × List ℕ) Stop → Type 0
FoundExt ws (Ok x) = (is_ext x.0 ≡ true) × Takes ws (ext x.0) x.1
FoundExt ws (Err e) = Unit {0}

full_cases : (w : ℕ) (ws : List ℕ) (mid : List ℕ) → Takes ws (w ∷ []) mid → (w / 2 ^ 8 % 2 == 0) ≡ false → is_full w ≡ true → FoundExt ws (full_at w mid)
unfolding full_at
full_cases w ws mid t brief full =
    after _ _ mid (FoundExt ws) (λ e. tt)
    (λ bd mid2 e. let a = wide_found (w / 2 ^ 4 % 4) mid bd mid2 t.rest_words e in after _ _ mid2 (FoundExt ws) (λ e. tt) (λ od rest e2.
    let b = wide_found (w % 4) mid2 od rest a.1.rest_words e2 in
    (rw (brief, full, a.0, b.0) refl, record { parts = rw (t.parts, a.1.parts, b.1.parts) (simp append_assoc); rest_words = b.1.rest_words })))

ext_cases : (ws : List ℕ) → AreWords ws → FoundExt ws (ext_at ws)
ext_cases ws h = after word_at _ ws (FoundExt ws) (λ e. tt) (λ w mid e.
    let a = word_found ws w mid h e in
    branch (w / 2 ^ 8 % 2 == 0) _ _ mid (FoundExt ws) (λ t. (t, a.1)) (λ f.
    branch (is_full w) _ _ mid (FoundExt ws) (λ full. full_cases w ws mid a.1 f full) (λ e. tt)))

pub ext_found : (ws : List ℕ) (x : Ext) (rest : List ℕ) → AreWords ws → ext_at ws ≡ Ok (x, rest) → (is_ext x ≡ true) × Takes ws (ext x) rest
ext_found ws x rest h e = subst (FoundExt ws) e (ext_cases ws h)

pub lt_true : (a b : ℕ) → a < b → nat_lt a b ≡ true
lt_true a b h = grind (arith, nat_tests)

pub immediate_found : (s : Size) (ws : List ℕ) (v : ℕ) (rest : List ℕ) → AreWords ws → immediate_at s ws ≡ Ok (v, rest) →
    (is_immediate s v ≡ true) × Takes ws (immediate s v) rest
immediate_found size.Byte ws v rest h e = let a = word_found ws v rest h e in (lt_true v 65536 a.0, a.1)
immediate_found size.Word ws v rest h e = let a = word_found ws v rest h e in (lt_true v 65536 a.0, a.1)
immediate_found size.Long ws v rest h e = (refl, long_found ws v rest h e)

-- what a reader of an operand found
pub record IsOperand (s : Size) (m r : ℕ) (ws : List ℕ) (ea : Ea) (rest : List ℕ) : Type 0 where
  pub spelled : is_spelled s ea ≡ true
  pub mode_is : mode ea ≡ m
  pub lower_is : lower ea ≡ r
  pub taken : Takes ws (more s ea) rest

abbrev FoundEa : Size → ℕ → ℕ → List ℕ → Result (Ea × List ℕ) Stop → Type 0
FoundEa s m r ws (Ok x) = IsOperand s m r ws x.0 x.1
FoundEa s m r ws (Err e) = Unit {0}

pub nothing : (ws : List ℕ) → AreWords ws → Takes ws [] ws
nothing ws h = record { parts = refl; rest_words = h }

operand_cases : (s : Size) (m r : ℕ) (ws : List ℕ) → m < 8 → (m ≡ 7 → r < 5) → AreWords ws → FoundEa s m r ws (operand_at s m r ws)
unfolding operand_at
operand_cases s m r ws lt allowed h =
    let P = FoundEa s m r ws in
    equal m 0 _ _ ws P (λ e. record { spelled = refl; mode_is = sym e; lower_is = refl; taken = nothing ws h }) (λ n0.
    equal m 1 _ _ ws P (λ e. record { spelled = refl; mode_is = sym e; lower_is = refl; taken = nothing ws h }) (λ n1.
    equal m 2 _ _ ws P (λ e. record { spelled = refl; mode_is = sym e; lower_is = refl; taken = nothing ws h }) (λ n2.
    equal m 3 _ _ ws P (λ e. record { spelled = refl; mode_is = sym e; lower_is = refl; taken = nothing ws h }) (λ n3.
    equal m 4 _ _ ws P (λ e. record { spelled = refl; mode_is = sym e; lower_is = refl; taken = nothing ws h }) (λ n4.
    equal m 5 _ _ ws P
    (λ e. after word_at _ ws P (λ e. tt) (λ d rest w. record { spelled = refl; mode_is = sym e; lower_is = refl; taken = (word_found ws d rest h w).1 })) (λ n5.
    equal m 6 _ _ ws P
    (λ e. after ext_at _ ws P (λ e. tt) (λ x rest w.
    let a = ext_found ws x rest h w in record { spelled = a.0; mode_is = sym e; lower_is = refl; taken = a.1 })) (λ n6.
    let seven : m ≡ 7 = omega arith in
    equal r 0 _ _ ws P
    (λ e. after word_at _ ws P (λ e. tt) (λ d rest w. record { spelled = refl; mode_is = sym seven; lower_is = sym e; taken = (word_found ws d rest h w).1 }))
    (λ r0.
    equal r 1 _ _ ws P
    (λ e. after long_at _ ws P (λ e. tt) (λ d rest w. record { spelled = refl; mode_is = sym seven; lower_is = sym e; taken = long_found ws d rest h w }))
    (λ r1.
    equal r 2 _ _ ws P
    (λ e. after word_at _ ws P (λ e. tt) (λ d rest w. record { spelled = refl; mode_is = sym seven; lower_is = sym e; taken = (word_found ws d rest h w).1 }))
    (λ r2.
    equal r 3 _ _ ws P
    (λ e. after ext_at _ ws P (λ e. tt) (λ x rest w.
    let a = ext_found ws x rest h w in record { spelled = a.0; mode_is = sym seven; lower_is = sym e; taken = a.1 })) (λ r3.
    let below = allowed seven in
    let four : 4 ≡ r = omega arith in
    after (immediate_at s) _ ws P (λ e. tt)
    (λ v rest w. let a = immediate_found s ws v rest h w in record { spelled = a.0; mode_is = sym seven; lower_is = four; taken = a.1 }))))))))))))

pub operand_found : (s : Size) (m r : ℕ) (ws : List ℕ) (ea : Ea) (rest : List ℕ) → m < 8 → (m ≡ 7 → r < 5) → AreWords ws → operand_at s m r ws ≡ Ok (ea, rest) →
    IsOperand s m r ws ea rest
operand_found s m r ws ea rest lt allowed h e = subst (FoundEa s m r ws) e (operand_cases s m r ws lt allowed h)

-- at mode 7 no class has a register field above 4
-- mode 7 has no register above 4
pub allowed_lower : (c : OperandClass) (s : Size) (m r : ℕ) → allows c s m r ≡ true → m ≡ 7 → r < 5
allowed_lower All s m r h e = grind (arith, nat_tests)
allowed_lower Data s m r h e = grind (arith, nat_tests)
allowed_lower Alterable s m r h e = grind (arith, nat_tests)
allowed_lower DataAlterable s m r h e = grind (arith, nat_tests)
allowed_lower DataAlterableOrPc s m r h e = grind (arith, nat_tests)
allowed_lower MemoryAlterable s m r h e = grind (arith, nat_tests)
allowed_lower Control s m r h e = grind (arith, nat_tests)
allowed_lower ControlAlterable s m r h e = grind (arith, nat_tests)
allowed_lower StoreList s m r h e = grind (arith, nat_tests)
allowed_lower LoadList s m r h e = grind (arith, nat_tests)
allowed_lower FieldSource s m r h e = grind (arith, nat_tests)
allowed_lower FieldTarget s m r h e = grind (arith, nat_tests)
