-- What the lexemes of operands and of a statement are read as.
use Rattle.std.proofs.Common.{◌≡◌, ℕ, zero, suc, ◌+◌, ◌<◌, Bool, true, false, List, [], ◌∷◌, ◌++◌, length, map, refl, ap, ◌∙◌, arith}
use Rattle.std.proofs.lemmas.Bool.Decides.{nat_tests}
use Rattle.std.specs.Prelude.{ℤ, pos, negsuc, nat_lt, Option, Some, None, if◌then◌else◌}
use Rattle.std.specs.List.{list_all}
use Rattle.mb_syntax.specs.declared.word.Name.{Name}
use Rattle.mb_syntax.specs.declared.word.Word.{Word}
use Rattle.mb_syntax.specs.declared.word.Word.TheVariants as word
use Rattle.mb_syntax.specs.declared.register.Register.{Register}
use Rattle.mb_syntax.specs.declared.register.Register.TheVariants as register
use Rattle.mb_syntax.specs.declared.mode.Mode.{Mode}
use Rattle.mb_syntax.specs.declared.mode.Mode.TheVariants as mode
use Rattle.mb_syntax.specs.declared.operand.BitField.{BitField}
use Rattle.mb_syntax.specs.declared.operand.FieldNumber.{FieldNumber}
use Rattle.mb_syntax.specs.declared.operand.FieldNumber.TheVariants as field_number
use Rattle.mb_syntax.specs.declared.operand.Operand.{Operand}
use Rattle.mb_syntax.specs.declared.operand.Operand.TheVariants as operand
use Rattle.mb_syntax.specs.Modes.{Sum}
use Rattle.mb_syntax.specs.Sums.{skip_blank}
use Rattle.mb_syntax.specs.Operands.{behind_register, field_at, field_number_at, indirect_pair_at, operand_among, operand_at, operands_of, place_at}
use Rattle.mb_syntax.specs.declared.mode.Width.{Width}
use Rattle.mb_syntax.specs.declared.mode.Index.{Index}
use Rattle.mb_syntax.specs.declared.mode.Base.{Base}
use Rattle.mb_syntax.specs.declared.mode.Base.TheVariants as base
use Rattle.mb_syntax.specs.declared.mode.Displacement.{Displacement}
use Rattle.mb_syntax.specs.declared.mode.Indirection.{Indirection}
use Rattle.mb_syntax.specs.declared.mode.Indirection.TheVariants as indirection
use Rattle.mb_mnemonics.specs.Values.{valued, valued_field, valued_mode, valued_number}
use Rattle.mb_statement.specs.Read.{sum_of}
use Rattle.mb_statement.specs.Texts.{is_left_out, is_no_index}
use Rattle.mb_statement.specs.Written.{is_field_number, is_list, is_mode, is_operand}
use Rattle.mb_statement.proofs.Lexemes.{Lexeme, both, said}
use Rattle.mb_statement.proofs.Spelled.{reg, cache, open_mark, close_mark, open_brace, close_brace, colon, comma}
use Rattle.mb_statement.proofs.PartsRead.{after, displacement, ends_sum, group_lexemes, said_append, sum_read, value}
use Rattle.mb_statement.proofs.ModesRead.{both_false, form, full_lexemes, mode_lexemes, mode_read, stops}
use Rattle.mb_statement.proofs.ListsRead.{list_lexemes, list_read, numbered_general, register_numbered}

-- ---- bit fields

abbrev pub number_lexemes : FieldNumber ℤ → List Lexeme
number_lexemes (field_number.Data n) = reg (register.Data n) ∷ []
number_lexemes (field_number.Number e) = value e

abbrev pub field_lexemes : BitField ℤ → List Lexeme
field_lexemes f = open_brace ∷ number_lexemes f.offset ++ (colon ∷ number_lexemes f.width ++ close_brace ∷ [])

number_read : (n : FieldNumber ℤ) (p : ℕ) (behind : List Word) → ends_sum behind ≡ true
    → field_number_at (said (number_lexemes n) p behind) ≡ Some (valued_number sum_of n, behind)
number_read (field_number.Data n) p behind h = refl
number_read (field_number.Number (pos e)) p behind h = rw (sum_read (pos e) p behind h) refl
number_read (field_number.Number (negsuc e)) p behind h = rw (sum_read (negsuc e) p behind h) refl

-- a number before a mark that ends it
number_before : (n : FieldNumber ℤ) (ls : List Lexeme) (p : ℕ) (behind : List Word)
    → ends_sum (said ls (after p (number_lexemes n)) behind) ≡ true
    → field_number_at (said (number_lexemes n ++ ls) p behind) ≡ Some (valued_number sum_of n, said ls (after p (number_lexemes n)) behind)
number_before n ls p behind h =
    ap field_number_at (said_append (number_lexemes n) ls p behind) ∙ number_read n p (said ls (after p (number_lexemes n)) behind) h

-- what stands behind `{`
field_read : (f : BitField ℤ) (p : ℕ) (behind : List Word)
    → field_at (said (number_lexemes f.offset ++ (colon ∷ number_lexemes f.width ++ close_brace ∷ [])) p behind)
    ≡ Some (valued_field sum_of f, behind)
field_read f p behind =
    let q = after p (number_lexemes f.offset) + 1 in
    rw (
      number_before f.offset (colon ∷ number_lexemes f.width ++ close_brace ∷ []) p behind refl,
      number_before f.width (close_brace ∷ []) q behind refl,
    ) refl

-- ---- operands

abbrev pub operand_lexemes : Operand ℤ → List Lexeme
operand_lexemes (operand.Mode m) = mode_lexemes m
operand_lexemes (operand.Field m f) = mode_lexemes m ++ field_lexemes f
operand_lexemes operand.Sr = reg register.Sr ∷ []
operand_lexemes operand.Ccr = reg register.Ccr ∷ []
operand_lexemes (operand.Control c) = reg (register.Control c) ∷ []
operand_lexemes (operand.List mask) = list_lexemes mask
operand_lexemes (operand.Pair n m) = reg (register.Data n) ∷ colon ∷ reg (register.Data m) ∷ []
operand_lexemes (operand.IndirectPair n m) =
    open_mark ∷ reg (register_numbered n) ∷ close_mark ∷ colon ∷ open_mark ∷ reg (register_numbered m) ∷ close_mark ∷ []
operand_lexemes (operand.Caches c) = cache c ∷ []
operand_lexemes (operand.Text t) = []

-- what stands behind an operand: nothing, or a comma
abbrev pub ends_operand : List Word → Bool
ends_operand [] = true
ends_operand (word.Comma ∷ words) = true
ends_operand _ = false

-- a mode with what stands behind it
place_read : (m : Mode ℤ) (p : ℕ) (behind : List Word) → is_mode m ≡ true → ends_operand behind ≡ true
    → place_at (said (mode_lexemes m) p behind) ≡ Some (operand.Mode (valued_mode sum_of m), behind)
place_read m p [] h s = rw (mode_read m p [] h refl) refl
place_read m p (word.Comma ∷ words) h s = rw (mode_read m p (word.Comma ∷ words) h refl) refl
place_read m p (first ∷ words) h s = absurd cc

field_place_read : (m : Mode ℤ) (f : BitField ℤ) (p : ℕ) (behind : List Word) → is_mode m ≡ true
    → place_at (said (mode_lexemes m ++ field_lexemes f) p behind) ≡ Some (operand.Field (valued_mode sum_of m) (valued_field sum_of f), behind)
field_place_read m f p behind h =
    let q = after p (mode_lexemes m) in
    let opened : List Word = said (field_lexemes f) q behind in
    rw (ap place_at (said_append (mode_lexemes m) (field_lexemes f) p behind), mode_read m p opened h refl, field_read f (q + 1) behind) refl

-- ---- places, pairs and lists

-- neither a pair nor a list goes on behind a register
abbrev pub ends_place : List Word → Bool
ends_place (word.Colon ∷ words) = false
ends_place (word.Minus ∷ words) = false
ends_place (word.Slash ∷ words) = false
ends_place _ = true

abbrev pub is_none : {A : Type 0} → Option A → Bool
is_none None = true
is_none (Some x) = false

-- words whose first ones make no operand but a place
abbrev pub begins_place : List Word → Bool
begins_place [] = false
begins_place (word.Text text ∷ words) = false
begins_place (word.Cache c place ∷ words) = false
begins_place (word.Register (register.Data n) place ∷ words) = ends_place words
begins_place (word.Register (register.Address n) place ∷ words) = ends_place words
begins_place (word.Register r place ∷ words) = false
begins_place (word.Open ∷ words) = is_none (indirect_pair_at words)
begins_place (first ∷ words) = true

none_so : {A : Type 0} (o : Option A) → is_none o ≡ true → o ≡ None
none_so None h = refl
none_so (Some x) h = absurd cc

place_behind : (all words : List Word) (r : Register) → ends_place words ≡ true → behind_register all r words ≡ place_at all
place_behind all [] r h = refl
place_behind all (word.Colon ∷ words) r h = absurd cc
place_behind all (word.Minus ∷ words) r h = absurd cc
place_behind all (word.Slash ∷ words) r h = absurd cc
place_behind all (first ∷ words) r h = refl

place_among : (caches : Bool) (words : List Word) → begins_place words ≡ true → operand_among caches words ≡ place_at words
unfolding operand_at
place_among caches [] h = absurd cc
place_among caches (word.Text text ∷ words) h = absurd cc
place_among caches (word.Cache c place ∷ words) h = absurd cc
place_among true (word.Register (register.Data n) place ∷ words) h =
    place_behind (word.Register (register.Data n) place ∷ words) words (register.Data n) h
place_among false (word.Register (register.Data n) place ∷ words) h =
    place_behind (word.Register (register.Data n) place ∷ words) words (register.Data n) h
place_among true (word.Register (register.Address n) place ∷ words) h =
    place_behind (word.Register (register.Address n) place ∷ words) words (register.Address n) h
place_among false (word.Register (register.Address n) place ∷ words) h =
    place_behind (word.Register (register.Address n) place ∷ words) words (register.Address n) h
place_among caches (word.Register r place ∷ words) h = absurd cc
place_among true (word.Open ∷ words) h = rw (none_so (indirect_pair_at words) h) refl
place_among false (word.Open ∷ words) h = rw (none_so (indirect_pair_at words) h) refl
place_among true (first ∷ words) h = refl
place_among false (first ∷ words) h = refl

stops_place : (words : List Word) → stops words ≡ true → ends_place words ≡ true
stops_place [] h = refl
stops_place (word.Comma ∷ words) h = refl
stops_place (word.OpenBrace ∷ words) h = refl
stops_place (first ∷ words) h = absurd cc

closed_alone : (n : ℕ) (place : Name) (words : List Word) → nat_lt n 8 ≡ true → stops words ≡ true
    → indirect_pair_at (word.Register (register.Address n) place ∷ word.Close ∷ words) ≡ None
closed_alone n place [] h s = rw h refl
closed_alone n place (word.Comma ∷ words) h s = rw h refl
closed_alone n place (word.OpenBrace ∷ words) h s = rw h refl
closed_alone n place (first ∷ words) h s = absurd cc

direct_begins : (e : ℤ) (w : Width) (b : Base) (x : Option Index) (p : ℕ) (behind : List Word)
    → begins_place (said (open_mark ∷ group_lexemes (Some (displacement e w)) b x ++ close_mark ∷ []) p behind) ≡ true
direct_begins (pos n) w b x p behind = refl
direct_begins (negsuc n) w b x p behind = refl

-- a full form begins no pair
full_begins : (k : Indirection) (d : Option (Displacement ℤ)) (b : Base) (i : Index) (o : Option (Displacement ℤ)) (left : Bool) (p : ℕ) (behind : List Word)
    → is_left_out (form d b i k o) ≡ left → begins_place (said (full_lexemes k d b (if left then None else Some i) o) p behind) ≡ true
full_begins indirection.PreIndexed d b i o left p behind e = refl
full_begins indirection.PostIndexed d b i o left p behind e = refl
full_begins indirection.Direct (Some d) b i o left p behind e = direct_begins d.value d.width b (if left then None else Some i) p behind
full_begins indirection.Direct None b i o false p behind e = refl
full_begins indirection.Direct None (base.NoAddress n) i o true p behind e = refl
full_begins indirection.Direct None base.NoPc i o true p behind e = refl
full_begins indirection.Direct None (base.Address n) i o true p behind e = absurd (both_false (is_no_index i) e)
full_begins indirection.Direct None base.Pc i o true p behind e = absurd (both_false (is_no_index i) e)

mode_begins : (m : Mode ℤ) (p : ℕ) (behind : List Word) → is_mode m ≡ true → stops behind ≡ true
    → begins_place (said (mode_lexemes m) p behind) ≡ true
mode_begins (mode.Data n) p behind h s = stops_place behind s
mode_begins (mode.Address n) p behind h s = stops_place behind s
mode_begins (mode.Indirect n) p behind h s = rw (closed_alone n _ behind h s) refl
mode_begins (mode.PostIncrement n) p behind h s = rw h refl
mode_begins (mode.PreDecrement n) p behind h s = refl
mode_begins (mode.Displaced n (pos e)) p behind h s = refl
mode_begins (mode.Displaced n (negsuc e)) p behind h s = refl
mode_begins (mode.Indexed n (pos e) i) p behind h s = refl
mode_begins (mode.Indexed n (negsuc e) i) p behind h s = refl
mode_begins (mode.Absolute (pos e) w) p behind h s = refl
mode_begins (mode.Absolute (negsuc e) w) p behind h s = refl
mode_begins (mode.PcDisplaced (pos e)) p behind h s = refl
mode_begins (mode.PcDisplaced (negsuc e)) p behind h s = refl
mode_begins (mode.PcIndexed (pos e) i) p behind h s = refl
mode_begins (mode.PcIndexed (negsuc e) i) p behind h s = refl
mode_begins (mode.Full f) p behind h s = full_begins f.indirection f.displacement f.base f.index f.outer (is_left_out f) p behind refl
mode_begins (mode.Immediate e) p behind h s = refl

below_16 : (n : ℕ) → nat_lt n 16 ≡ true → n < 16
below_16 n h = grind (arith, nat_tests)

ends_stops : (words : List Word) → ends_operand words ≡ true → stops words ≡ true
ends_stops [] h = refl
ends_stops (word.Comma ∷ words) h = refl
ends_stops (first ∷ words) h = absurd cc

list_operand : (caches : Bool) (mask p : ℕ) (behind : List Word) → is_list mask ≡ true → ends_operand behind ≡ true
    → operand_among caches (said (list_lexemes mask) p behind) ≡ Some (operand.List mask, behind)
list_operand caches mask p [] h s = list_read caches mask p [] h refl
list_operand caches mask p (word.Comma ∷ words) h s = list_read caches mask p (word.Comma ∷ words) h refl
list_operand caches mask p (first ∷ words) h s = absurd cc

-- an operand, whatever its operation takes
pub operand_read : (caches : Bool) (o : Operand ℤ) (p : ℕ) (behind : List Word) → is_operand caches o ≡ true → ends_operand behind ≡ true
    → operand_among caches (said (operand_lexemes o) p behind) ≡ Some (valued sum_of o, behind)
unfolding operand_at
operand_read caches (operand.Mode m) p behind h s =
    place_among caches (said (mode_lexemes m) p behind) (mode_begins m p behind h (ends_stops behind s)) ∙ place_read m p behind h s
operand_read caches (operand.Field m f) p behind h s =
    let mode_so : is_mode m ≡ true = (both (is_mode m) _ (both _ (is_field_number f.width) h).0).0 in
    let q = after p (mode_lexemes m) in
    let parts = said_append (mode_lexemes m) (field_lexemes f) p behind in
    place_among caches (said (mode_lexemes m ++ field_lexemes f) p behind)
    (ap begins_place parts ∙ mode_begins m p (said (field_lexemes f) q behind) mode_so refl)
    ∙ field_place_read m f p behind mode_so
operand_read true operand.Sr p behind h s = refl
operand_read false operand.Sr p behind h s = refl
operand_read true operand.Ccr p behind h s = refl
operand_read false operand.Ccr p behind h s = refl
operand_read true (operand.Control c) p behind h s = refl
operand_read false (operand.Control c) p behind h s = refl
operand_read caches (operand.List mask) p behind h s = list_operand caches mask p behind h s
operand_read true (operand.Pair n m) p behind h s = refl
operand_read false (operand.Pair n m) p behind h s = refl
operand_read true (operand.IndirectPair n m) p behind h s =
    rw (numbered_general n (below_16 n (both _ (nat_lt m 16) h).0), numbered_general m (below_16 m (both (nat_lt n 16) _ h).1)) refl
operand_read false (operand.IndirectPair n m) p behind h s =
    rw (numbered_general n (below_16 n (both _ (nat_lt m 16) h).0), numbered_general m (below_16 m (both (nat_lt n 16) _ h).1)) refl
operand_read true (operand.Caches c) p behind h s = refl
operand_read false (operand.Caches c) p behind h s = absurd cc
operand_read caches (operand.Text t) p behind h s = absurd cc

-- ---- operands

abbrev pub behind_operands : List (Operand ℤ) → List Lexeme
behind_operands [] = []
behind_operands (o ∷ os) = comma ∷ operand_lexemes o ++ behind_operands os

-- what is read as an operand begins with no blank
no_blank : (caches : Bool) (words : List Word) (found : Operand Sum × List Word) → operand_among caches words ≡ Some found → skip_blank words ≡ words
unfolding operand_at
no_blank caches [] found e = refl
no_blank true (word.Blank ∷ words) found e = absurd cc
no_blank false (word.Blank ∷ words) found e = absurd cc
no_blank caches (first ∷ words) found e = refl

next_no_blank : (caches : Bool) (o : Operand ℤ) (os : List (Operand ℤ)) (p : ℕ) → is_operand caches o ≡ true
    → skip_blank (said (operand_lexemes o ++ behind_operands os) p []) ≡ said (operand_lexemes o ++ behind_operands os) p []
next_no_blank caches o [] p h =
    no_blank caches (said (operand_lexemes o ++ []) p []) (valued sum_of o, [])
    (ap (operand_among caches) (said_append (operand_lexemes o) [] p []) ∙ operand_read caches o p [] h refl)
next_no_blank caches o (next ∷ os) p h =
    let behind : List Word = said (behind_operands (next ∷ os)) (after p (operand_lexemes o)) [] in
    no_blank caches (said (operand_lexemes o ++ behind_operands (next ∷ os)) p []) (valued sum_of o, behind)
    (ap (operand_among caches) (said_append (operand_lexemes o) (behind_operands (next ∷ os)) p []) ∙ operand_read caches o p behind h refl)

pub operands_read : (caches : Bool) (os : List (Operand ℤ)) (o : Operand ℤ) (most p : ℕ) → length os < most
    → list_all (is_operand caches) (o ∷ os) ≡ true
    → operands_of most caches (said (operand_lexemes o ++ behind_operands os) p []) ≡ Some (map (valued sum_of) (o ∷ os))
operands_read caches os o zero p few h = absurd (omega arith)
operands_read caches [] o (suc most) p few h =
    let one : is_operand caches o ≡ true = (both (is_operand caches o) true h).0 in
    rw (ap (operand_among caches) (said_append (operand_lexemes o) [] p []), operand_read caches o p [] one refl) refl
operands_read caches (next ∷ os) o (suc most) p few h =
    let parts = both (is_operand caches o) (list_all (is_operand caches) (next ∷ os)) h in
    let q = after p (operand_lexemes o) in
    let rest : List Word = said (operand_lexemes next ++ behind_operands os) (q + 1) [] in
    let more = operands_read caches os next most (q + 1) (omega arith) parts.1 in
    let first : operand_among caches (said (operand_lexemes o ++ (comma ∷ operand_lexemes next ++ behind_operands os)) p [])
    ≡ Some (valued sum_of o, word.Comma ∷ rest) =
    ap (operand_among caches) (said_append (operand_lexemes o) (comma ∷ operand_lexemes next ++ behind_operands os) p [])
    ∙ operand_read caches o p (word.Comma ∷ rest) parts.0 refl in
    rw (first, next_no_blank caches next os (q + 1) (both (is_operand caches next) _ parts.1).0, more) refl
