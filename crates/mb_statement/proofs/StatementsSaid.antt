-- The text of a statement is that of its lexemes, which fit where it is written.
use Rattle.std.proofs.Common.{◌≡◌, ℕ, zero, suc, ◌+◌, ◌-◌, ◌%◌, ◌^◌, ◌<◌, Bool, true, false}
use Rattle.std.proofs.Common.{List, [], ◌∷◌, ◌++◌, refl, sym, ap, ◌∙◌, append_assoc, append-nil, arith}
use Rattle.std.specs.Prelude.{ℤ, pos, negsuc, ◌&&◌, ◌||◌, ◌==◌, nat_lt, Option, Some, None, if◌then◌else◌}
use Rattle.std.specs.List.{list_all}
use Rattle.std.proofs.lemmas.Bool.{ne_eqb}
use Rattle.std.proofs.lemmas.Bool.Decides.{nat_tests}
use Rattle.std.proofs.lemmas.List.Elements.{All-cons}
use Rattle.std.proofs.lemmas.Nat.{pow_pos}
use Rattle.mb_asm_text.specs.declared.token.TokenKind.TheVariants as kind
use Rattle.mb_asm_text.specs.Kinds.{is_blank, is_name_part, is_name_start}
use Rattle.mb_instr.specs.declared.kinds.Caches.{Caches}
use Rattle.mb_instr.specs.declared.kinds.Caches.TheVariants as caches
use Rattle.mb_syntax.specs.declared.word.Name.{Name}
use Rattle.mb_syntax.specs.declared.word.Word.{Word}
use Rattle.mb_syntax.specs.declared.mode.Index.{Index}
use Rattle.mb_syntax.specs.declared.mode.Base.{Base}
use Rattle.mb_syntax.specs.declared.mode.Displacement.{Displacement}
use Rattle.mb_syntax.specs.declared.mode.Indirection.{Indirection}
use Rattle.mb_syntax.specs.declared.mode.Indirection.TheVariants as indirection
use Rattle.mb_syntax.specs.declared.mode.Mode.{Mode}
use Rattle.mb_syntax.specs.declared.mode.Mode.TheVariants as mode
use Rattle.mb_syntax.specs.declared.word.Word.TheVariants as word
use Rattle.mb_syntax.specs.declared.statement.SizeLetter.{SizeLetter}
use Rattle.mb_syntax.specs.declared.statement.SizeLetter.TheVariants as letter
use Rattle.mb_syntax.specs.declared.register.Register.TheVariants as register
use Rattle.mb_syntax.specs.declared.operand.BitField.{BitField}
use Rattle.mb_syntax.specs.declared.operand.FieldNumber.{FieldNumber}
use Rattle.mb_syntax.specs.declared.operand.FieldNumber.TheVariants as field_number
use Rattle.mb_syntax.specs.declared.operand.Operand.{Operand}
use Rattle.mb_syntax.specs.declared.operand.Operand.TheVariants as operand
use Rattle.mb_syntax.specs.Words.{name_word}
use Rattle.mb_statement.specs.Statements.{Statement}
use Rattle.mb_statement.specs.Written.{is_field_number, is_mode, is_name, is_operand, is_register}
use Rattle.mb_instr.specs.Control.{control_name}
use Rattle.mb_statement.specs.Texts.{begins, caches_text, ends, has, field_number_text, field_text, general, listed, listed_below}
use Rattle.mb_statement.specs.Texts.{list_text, operand_text, operands_behind, size_text, statement_text}
use Rattle.mb_statement.proofs.Lexemes.{Lexeme, IsLexeme, both, ends_run, spelled}
use Rattle.mb_statement.proofs.Spelled.{blank, blank_is, cache, cache_is, close_brace, close_brace_is, close_mark, close_is, colon, colon_is, comma_is}
use Rattle.mb_statement.proofs.Spelled.{control_is_name, dot, dot_is, is_numbered, letter_bytes, minus, minus_is, name_is, named, open_brace_is}
use Rattle.mb_statement.proofs.Spelled.{open_mark, open_is, reg, reg_is, register_bytes, size, size_is, slash, slash_is}
use Rattle.mb_statement.proofs.ModesRead.{full_lexemes, mode_lexemes, written_index}
use Rattle.mb_statement.proofs.Fits.{Begins, Fit, ends_kind, fit_append, fit_before, fit_cons, fit_mark, fit_mode, fit_none, fit_one, fit_register, fit_value}
use Rattle.mb_statement.proofs.ListsRead.{bit_more, double, lexemes_from, with_one, list_lexemes, listed_lexemes, register_numbered}
use Rattle.mb_statement.proofs.OperandsRead.{behind_operands, field_lexemes, number_lexemes, operand_lexemes}
use Rattle.mb_statement.proofs.Said.{joined, mode_said, spelled_append, value_said}

-- ---- lists

general_by : (n : ℕ) (low : Bool) → nat_lt n 8 ≡ low → register_bytes (if low then register.Data n else register.Address (n - 8)) ≡ general n
general_by n true e = rw e refl
general_by n false e = let same : (n - 8) % 8 ≡ n % 8 = grind (arith, nat_tests) in rw (e, same) refl

general_said : (n : ℕ) → register_bytes (register_numbered n) ≡ general n
general_said n = general_by n (nat_lt n 8) refl

listed_by : (n : ℕ) (first none last : Bool)
    → spelled (if first then (if none then [] else slash ∷ []) ++ reg (register_numbered n) ∷ []
    else if last then minus ∷ reg (register_numbered n) ∷ [] else [])
    ≡ (if first then (if none then [] else 47 ∷ []) ++ general n else if last then 45 ∷ general n else [])
listed_by n true true last = append-nil (register_bytes (register_numbered n)) ∙ general_said n
listed_by n true false last = ap (λ (bs : List ℕ). 47 ∷ bs) (append-nil (register_bytes (register_numbered n)) ∙ general_said n)
listed_by n false none true = ap (λ (bs : List ℕ). 45 ∷ bs) (append-nil (register_bytes (register_numbered n)) ∙ general_said n)
listed_by n false none false = refl

listed_said : (mask n : ℕ) → spelled (listed_lexemes mask n) ≡ listed mask n
unfolding listed
listed_said mask n = listed_by n (begins mask n) (mask % 2 ^ n == 0) (ends mask n)

below_said : (mask n more : ℕ) → listed_below mask n ++ spelled (lexemes_from mask n more) ≡ listed_below mask (n + more)
unfolding listed_below lexemes_from
below_said mask n zero = let e : n + 0 ≡ n = omega arith in rw e (append-nil (listed_below mask n))
below_said mask n (suc more) =
    let e : n + suc more ≡ n + 1 + more = omega arith in
    let one : n + 1 ≡ suc n = omega arith in
    let further : listed_below mask (n + 1) ≡ listed_below mask n ++ listed mask n = rw one refl in
    rw (spelled_append (listed_lexemes mask n) (lexemes_from mask (n + 1) more), listed_said mask n)
    (sym (append_assoc (listed_below mask n) (listed mask n) (spelled (lexemes_from mask (n + 1) more)))
    ∙ ap (λ (bs : List ℕ). bs ++ spelled (lexemes_from mask (n + 1) more)) (sym further) ∙ below_said mask (n + 1) more ∙ ap (listed_below mask) (sym e))

list_said : (mask : ℕ) → spelled (list_lexemes mask) ≡ list_text mask
unfolding listed_below
list_said mask = below_said mask 0 16

-- ---- operands

number_said : (n : FieldNumber ℤ) → spelled (number_lexemes n) ≡ field_number_text n
number_said (field_number.Data n) = refl
number_said (field_number.Number e) = value_said e

field_said : (f : BitField ℤ) → spelled (field_lexemes f) ≡ field_text f
field_said f =
    let closing : List Lexeme = number_lexemes f.width ++ close_brace ∷ [] in
    let last : spelled closing ≡ field_number_text f.width ++ 125 ∷ [] =
    spelled_append (number_lexemes f.width) (close_brace ∷ []) ∙ ap (λ (bs : List ℕ). bs ++ 125 ∷ []) (number_said f.width) in
    let all : spelled (number_lexemes f.offset ++ (colon ∷ closing)) ≡ field_number_text f.offset ++ 58 ∷ (field_number_text f.width ++ 125 ∷ []) =
    spelled_append (number_lexemes f.offset) (colon ∷ closing) ∙ joined _ _ _ _ (number_said f.offset) (ap (λ (bs : List ℕ). 58 ∷ bs) last) in
    ap (λ (bs : List ℕ). 123 ∷ bs) all ∙ simp append_assoc

operand_said : (o : Operand ℤ) → spelled (operand_lexemes o) ≡ operand_text o
operand_said (operand.Mode m) = mode_said m
operand_said (operand.Field m f) = spelled_append (mode_lexemes m) (field_lexemes f) ∙ rw (mode_said m, field_said f) refl
operand_said operand.Sr = refl
operand_said operand.Ccr = refl
operand_said (operand.Control c) = append-nil (control_name c)
operand_said (operand.List mask) = list_said mask
operand_said (operand.Pair n m) = refl
operand_said (operand.IndirectPair n m) = rw (general_said n, general_said m) refl
operand_said (operand.Caches c) = append-nil (caches_text c)
operand_said (operand.Text t) = refl

-- ---- statements

abbrev pub size_lexemes : Option SizeLetter → List Lexeme
size_lexemes None = []
size_lexemes (Some l) = dot ∷ size l ∷ []

abbrev pub first_operands : List (Operand ℤ) → List Lexeme
first_operands [] = []
first_operands (o ∷ os) = blank ∷ operand_lexemes o ++ behind_operands os

abbrev pub statement_lexemes : Statement → List Lexeme
statement_lexemes s = named s.name (name_word s.name) ∷ size_lexemes s.size ++ first_operands s.operands

size_said : (l : Option SizeLetter) → spelled (size_lexemes l) ≡ size_text l
size_said None = refl
size_said (Some letter.Byte) = refl
size_said (Some letter.Short) = refl
size_said (Some letter.Word) = refl
size_said (Some letter.Long) = refl

behind_said : (os : List (Operand ℤ)) → spelled (behind_operands os) ≡ operands_behind 44 os
behind_said [] = refl
behind_said (o ∷ os) = ap (λ (bs : List ℕ). 44 ∷ bs)
    (spelled_append (operand_lexemes o) (behind_operands os) ∙ rw (operand_said o, behind_said os) refl)

first_said : (os : List (Operand ℤ)) → spelled (first_operands os) ≡ operands_behind 32 os
first_said [] = refl
first_said (o ∷ os) = ap (λ (bs : List ℕ). 32 ∷ bs)
    (spelled_append (operand_lexemes o) (behind_operands os) ∙ rw (operand_said o, behind_said os) refl)

-- the name stands before the rest of the text
pub statement_parts : (s : Statement) → statement_text s ≡ s.name ++ (size_text s.size ++ operands_behind 32 s.operands)
unfolding statement_text
statement_parts s = append_assoc s.name (size_text s.size) (operands_behind 32 s.operands)

pub statement_said : (s : Statement) → spelled (statement_lexemes s) ≡ statement_text s
statement_said s =
    let rest : spelled (size_lexemes s.size ++ first_operands s.operands) ≡ size_text s.size ++ operands_behind 32 s.operands =
    spelled_append (size_lexemes s.size) (first_operands s.operands) ∙ joined _ _ _ _ (size_said s.size) (first_said s.operands) in
    ap (λ (bs : List ℕ). s.name ++ bs) rest ∙ sym (statement_parts s)

-- ---- the lexemes of a written statement fit

number_fits : (n : FieldNumber ℤ) → is_field_number n ≡ true → Fit (number_lexemes n)
number_fits (field_number.Data n) h = fit_one (reg (register.Data n)) (reg_is (register.Data n) (grind (arith, nat_tests)))
number_fits (field_number.Number e) h = fit_value e h

fit_field : (f : BitField ℤ) → is_field_number f.offset ≡ true → is_field_number f.width ≡ true → Fit (field_lexemes f)
fit_field f ho hw =
    fit_mark _ _ _ open_brace_is (fit_before (number_lexemes f.offset) _ _ (number_lexemes f.width ++ close_brace ∷ []) (number_fits f.offset ho) colon_is
    (fit_before (number_lexemes f.width) _ _ [] (number_fits f.width hw) close_brace_is fit_none (λ bytes. refl)) (λ bytes. refl))

numbered_by : (n : ℕ) (low : Bool) → nat_lt n 8 ≡ low → n < 16 → is_numbered (if low then register.Data n else register.Address (n - 8)) ≡ true
numbered_by n true e h = grind (arith, nat_tests)
numbered_by n false e h = grind (arith, nat_tests)

numbered_fits : (n : ℕ) → n < 16 → is_numbered (register_numbered n) ≡ true
numbered_fits n h = numbered_by n (nat_lt n 8) refl h

-- where registers stand before it, what is left of a list begins with a mark
listed_begins : (n : ℕ) (first none last : Bool) (ls : List Lexeme) → none ≡ false → Begins ls
    → Begins ((if first then (if none then [] else slash ∷ []) ++ reg (register_numbered n) ∷ []
    else if last then minus ∷ reg (register_numbered n) ∷ [] else []) ++ ls)
listed_begins n true true last ls e h = absurd cc
listed_begins n true false last ls e h = λ rest stop. refl
listed_begins n false none true ls e h = λ rest stop. refl
listed_begins n false none false ls e h = h

later_begins : (mask n more : ℕ) → 0 < mask % 2 ^ n → Begins (lexemes_from mask n more)
unfolding lexemes_from
later_begins mask n zero some = λ rest stop. stop
later_begins mask n (suc more) some =
    let split = bit_more mask n in
    let later : 0 < mask % 2 ^ (n + 1) = omega arith in
    let other : (mask % 2 ^ n == 0) ≡ false = ne_eqb (mask % 2 ^ n) 0 (λ e. omega arith) in
    listed_begins n (begins mask n) (mask % 2 ^ n == 0) (ends mask n) (lexemes_from mask (n + 1) more) other (later_begins mask (n + 1) more later)

listed_fits : (n : ℕ) (first none last : Bool) (ls : List Lexeme) → n < 16 → ((first || last) ≡ true → Begins ls) → Fit ls
    → Fit ((if first then (if none then [] else slash ∷ []) ++ reg (register_numbered n) ∷ []
    else if last then minus ∷ reg (register_numbered n) ∷ [] else []) ++ ls)
listed_fits n true true last ls small h fit =
    fit_append (reg (register_numbered n) ∷ []) ls (fit_one (reg (register_numbered n)) (reg_is (register_numbered n) (numbered_fits n small))) fit (h refl)
listed_fits n true false last ls small h fit =
    fit_mark _ _ (reg (register_numbered n) ∷ ls) slash_is
    (fit_append (reg (register_numbered n) ∷ []) ls (fit_one (reg (register_numbered n)) (reg_is (register_numbered n) (numbered_fits n small))) fit (h refl))
listed_fits n false none true ls small h fit =
    fit_mark _ _ (reg (register_numbered n) ∷ ls) minus_is
    (fit_append (reg (register_numbered n) ∷ []) ls (fit_one (reg (register_numbered n)) (reg_is (register_numbered n) (numbered_fits n small))) fit (h refl))
listed_fits n false none false ls small h fit = fit

either_by : (a b c : Bool) → ((a && b) || (a && c)) ≡ true → a ≡ true
either_by true b c h = refl
either_by false b c h = absurd cc

-- a register that begins a run or ends one is listed
either_listed : (mask n : ℕ) → (begins mask n || ends mask n) ≡ true → has mask n ≡ true
either_listed mask n h = either_by (has mask n) _ _ h

fit_from : (mask n more : ℕ) → n + more ≡ 16 → Fit (lexemes_from mask n more)
unfolding lexemes_from
fit_from mask n zero whole = fit_none
fit_from mask n (suc more) whole =
    listed_fits n (begins mask n) (mask % 2 ^ n == 0) (ends mask n) (lexemes_from mask (n + 1) more) (omega arith)
    (λ listed. let one = with_one mask n (either_listed mask n listed) in let positive = pow_pos n in let twice = double n in
    later_begins mask (n + 1) more (omega arith)) (fit_from mask (n + 1) more (omega arith))

below_16 : (n : ℕ) → nat_lt n 16 ≡ true → n < 16
below_16 n h = grind (arith, nat_tests)

data_fits : (n : ℕ) → is_register n ≡ true → IsLexeme (reg (register.Data n))
data_fits n h = reg_is (register.Data n) (grind (arith, nat_tests))

fit_operand : (caches : Bool) (o : Operand ℤ) → is_operand caches o ≡ true → Fit (operand_lexemes o)
fit_operand caches (operand.Mode m) h = fit_mode m h
fit_operand caches (operand.Field m f) h =
    let parts = both (is_mode m && is_field_number f.offset) (is_field_number f.width) h in
    let first = both (is_mode m) (is_field_number f.offset) parts.0 in
    fit_append (mode_lexemes m) (field_lexemes f) (fit_mode m first.0) (fit_field f first.1 parts.1) (λ rest stop. refl)
fit_operand caches operand.Sr h = fit_one (reg register.Sr) (reg_is register.Sr refl)
fit_operand caches operand.Ccr h = fit_one (reg register.Ccr) (reg_is register.Ccr refl)
fit_operand caches (operand.Control c) h = fit_one (reg (register.Control c)) (reg_is (register.Control c) refl)
fit_operand caches (operand.List mask) h = fit_from mask 0 16 refl
fit_operand caches (operand.Pair n m) h =
    let parts = both (is_register n) (is_register m) h in
    fit_cons (reg (register.Data n)) (colon ∷ reg (register.Data m) ∷ []) (data_fits n parts.0)
    (fit_mark _ _ _ colon_is (fit_one (reg (register.Data m)) (data_fits m parts.1))) (λ rest stop. refl)
fit_operand caches (operand.IndirectPair n m) h =
    let parts = both (nat_lt n 16) (nat_lt m 16) h in
    fit_mark _ _ _ open_is (fit_cons (reg (register_numbered n)) (close_mark ∷ colon ∷ open_mark ∷ reg (register_numbered m) ∷ close_mark ∷ [])
    (reg_is (register_numbered n) (numbered_fits n (below_16 n parts.0)))
    (fit_mark _ _ _ close_is (fit_mark _ _ _ colon_is (fit_mark _ _ _ open_is (fit_register (register_numbered m) (numbered_fits m (below_16 m parts.1))))))
    (λ rest stop. refl))
fit_operand caches (operand.Caches c) h = fit_one (cache c) (cache_is c)
fit_operand caches (operand.Text t) h = fit_none

behind_begins : (os : List (Operand ℤ)) → Begins (behind_operands os)
behind_begins [] rest h = h
behind_begins (o ∷ os) rest h = refl

fit_behind : (caches : Bool) (os : List (Operand ℤ)) → list_all (is_operand caches) os ≡ true → Fit (behind_operands os)
fit_behind caches [] h = fit_none
fit_behind caches (o ∷ os) h =
    let parts = both (is_operand caches o) (list_all (is_operand caches) os) h in
    fit_mark _ _ _ comma_is
    (fit_append (operand_lexemes o) (behind_operands os) (fit_operand caches o parts.0) (fit_behind caches os parts.1) (behind_begins os))

-- ---- blanks

-- no blank goes on with the lexemes
abbrev pub Unblank : List Lexeme → Type 0
Unblank ls = (rest : List ℕ) → ends_run is_blank rest ≡ true → ends_run is_blank (spelled ls ++ rest) ≡ true

unblank_numbered : (n : ℕ) (low : Bool) (ls : List Lexeme) → Unblank (reg (if low then register.Data n else register.Address (n - 8)) ∷ ls)
unblank_numbered n true ls rest h = refl
unblank_numbered n false ls rest h = refl

unblank_listed : (n : ℕ) (first none last : Bool) (ls : List Lexeme) → Unblank ls
    → Unblank ((if first then (if none then [] else slash ∷ []) ++ reg (register_numbered n) ∷ []
    else if last then minus ∷ reg (register_numbered n) ∷ [] else []) ++ ls)
unblank_listed n true true last ls h = unblank_numbered n (nat_lt n 8) ls
unblank_listed n true false last ls h = λ rest e. refl
unblank_listed n false none true ls h = λ rest e. refl
unblank_listed n false none false ls h = h

unblank_from : (mask n more : ℕ) → Unblank (lexemes_from mask n more)
unfolding lexemes_from
unblank_from mask n zero = λ rest e. e
unblank_from mask n (suc more) =
    unblank_listed n (begins mask n) (mask % 2 ^ n == 0) (ends mask n) (lexemes_from mask (n + 1) more) (unblank_from mask (n + 1) more)

unblank_full : (k : Indirection) (d : Option (Displacement ℤ)) (b : Base) (x : Option Index) (o : Option (Displacement ℤ)) → Unblank (full_lexemes k d b x o)
unblank_full indirection.Direct d b x o rest e = refl
unblank_full indirection.PreIndexed d b x o rest e = refl
unblank_full indirection.PostIndexed d b x o rest e = refl

unblank_mode : (m : Mode ℤ) → Unblank (mode_lexemes m)
unblank_mode (mode.Data n) rest e = refl
unblank_mode (mode.Address n) rest e = refl
unblank_mode (mode.Indirect n) rest e = refl
unblank_mode (mode.PostIncrement n) rest e = refl
unblank_mode (mode.PreDecrement n) rest e = refl
unblank_mode (mode.Displaced n v) rest e = refl
unblank_mode (mode.Indexed n v i) rest e = refl
unblank_mode (mode.Absolute (pos n) w) rest e = refl
unblank_mode (mode.Absolute (negsuc n) w) rest e = refl
unblank_mode (mode.PcDisplaced v) rest e = refl
unblank_mode (mode.PcIndexed v i) rest e = refl
unblank_mode (mode.Full f) rest e = unblank_full f.indirection f.displacement f.base (written_index f) f.outer rest e
unblank_mode (mode.Immediate v) rest e = refl

name_start_no_blank : (byte : ℕ) → is_name_start byte ≡ true → is_blank byte ≡ false
name_start_no_blank byte h = grind (arith, nat_tests)

name_no_blank : (name rest : List ℕ) → is_name name ≡ true → ends_run is_blank (name ++ rest) ≡ true
name_no_blank [] rest h = absurd cc
name_no_blank (byte ∷ bytes) rest h = rw (name_start_no_blank byte (both (is_name_start byte) (list_all is_name_part bytes) h).0) refl

unblank_append : (xs ys : List Lexeme) → Unblank xs → Unblank ys → Unblank (xs ++ ys)
unblank_append xs ys first later rest e =
    let bytes : spelled (xs ++ ys) ++ rest ≡ spelled xs ++ (spelled ys ++ rest) =
    ap (λ (bs : List ℕ). bs ++ rest) (spelled_append xs ys) ∙ append_assoc (spelled xs) (spelled ys) rest in
    rw bytes (first (spelled ys ++ rest) (later rest e))

unblank_name : (bytes : List ℕ) (says : Name → Word) → is_name bytes ≡ true → Unblank (named bytes says ∷ [])
unblank_name bytes says h rest e =
    let whole : (bytes ++ []) ++ rest ≡ bytes ++ rest = ap (λ (bs : List ℕ). bs ++ rest) (append-nil bytes) in
    rw whole (name_no_blank bytes rest h)

cache_name : (c : Caches) → is_name (caches_text c) ≡ true
cache_name caches.Neither = refl
cache_name caches.Data = refl
cache_name caches.Instruction = refl
cache_name caches.Both = refl

unblank_operand : (o : Operand ℤ) → Unblank (operand_lexemes o)
unblank_operand (operand.Mode m) = unblank_mode m
unblank_operand (operand.Field m f) = unblank_append (mode_lexemes m) (field_lexemes f) (unblank_mode m) (λ rest e. refl)
unblank_operand operand.Sr = λ rest e. refl
unblank_operand operand.Ccr = λ rest e. refl
unblank_operand (operand.Control c) = unblank_name (control_name c) (λ place. word.Register (register.Control c) place) (control_is_name c)
unblank_operand (operand.List mask) = unblank_from mask 0 16
unblank_operand (operand.Pair n m) = λ rest e. refl
unblank_operand (operand.IndirectPair n m) = λ rest e. refl
unblank_operand (operand.Caches c) = unblank_name (caches_text c) (λ place. word.Cache c place) (cache_name c)
unblank_operand (operand.Text t) = λ rest e. e

unblank_behind : (os : List (Operand ℤ)) → Unblank (behind_operands os)
unblank_behind [] = λ rest e. e
unblank_behind (o ∷ os) = λ rest e. refl

-- a name before a blank and lexemes that are none
fit_blank : (bytes : List ℕ) (says : Name → Word) (ls : List Lexeme) → IsLexeme (named bytes says) → Fit ls → Unblank ls → Fit (named bytes says ∷ blank ∷ ls)
fit_blank bytes says ls h fit unblank = record {
  all = All-cons IsLexeme (named bytes says) (blank ∷ ls) h (All-cons IsLexeme blank ls blank_is fit.all);
  parted = λ rest stop. rw (unblank rest (ends_kind kind.Blank rest stop)) (fit.parted rest stop);
}

-- operands and those behind them
fit_operands : (caches : Bool) (o : Operand ℤ) (os : List (Operand ℤ)) → list_all (is_operand caches) (o ∷ os) ≡ true
    → Fit (operand_lexemes o ++ behind_operands os)
fit_operands caches o os h =
    let parts = both (is_operand caches o) (list_all (is_operand caches) os) h in
    fit_append (operand_lexemes o) (behind_operands os) (fit_operand caches o parts.0) (fit_behind caches os parts.1) (behind_begins os)

unblank_operands : (o : Operand ℤ) (os : List (Operand ℤ)) → Unblank (operand_lexemes o ++ behind_operands os)
unblank_operands o os = unblank_append (operand_lexemes o) (behind_operands os) (unblank_operand o) (unblank_behind os)

statement_fits : (name : List ℕ) (l : Option SizeLetter) (os : List (Operand ℤ)) (caches : Bool) → is_name name ≡ true
    → list_all (is_operand caches) os ≡ true → Fit (named name (name_word name) ∷ size_lexemes l ++ first_operands os)
statement_fits name None [] caches h k = fit_one (named name (name_word name)) (name_is name h)
statement_fits name None (o ∷ os) caches h k =
    fit_blank name (name_word name) (operand_lexemes o ++ behind_operands os) (name_is name h) (fit_operands caches o os k) (unblank_operands o os)
statement_fits name (Some l) [] caches h k =
    fit_cons (named name (name_word name)) (dot ∷ size l ∷ []) (name_is name h)
    (fit_mark _ _ (size l ∷ []) dot_is (fit_one (size l) (size_is l))) (λ rest e. refl)
statement_fits name (Some l) (o ∷ os) caches h k =
    fit_cons (named name (name_word name)) (dot ∷ size l ∷ blank ∷ operand_lexemes o ++ behind_operands os) (name_is name h)
    (fit_mark _ _ (size l ∷ blank ∷ operand_lexemes o ++ behind_operands os) dot_is
    (fit_blank (letter_bytes l) (λ place. word.Letter l place) (operand_lexemes o ++ behind_operands os) (size_is l) (fit_operands caches o os k)
    (unblank_operands o os))) (λ rest e. refl)

pub fit_statement : (s : Statement) (caches : Bool) → is_name s.name ≡ true → list_all (is_operand caches) s.operands ≡ true → Fit (statement_lexemes s)
fit_statement s caches h k = statement_fits s.name s.size s.operands caches h k
