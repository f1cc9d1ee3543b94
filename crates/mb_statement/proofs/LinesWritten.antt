-- What a line of the table makes of words is written where its operands have texts.
use Rattle.std.proofs.Common.{◌≡◌, ℕ, zero, suc, ◌+◌, ◌-◌, ◌*◌, ◌/◌, ◌%◌, ◌^◌, ◌<◌, ◌≤◌, Bool, true, false, List, [], ◌∷◌, ◌++◌, refl, subst, arith}
use Rattle.std.specs.Prelude.{ℤ, pos, ◌-ℤ◌, ◌&&◌, ◌==◌, nat_le, nat_lt, Option, Some, None, drop, if◌then◌else◌, option_map}
use Rattle.std.specs.List.{list_all}
use Rattle.std.proofs.lemmas.Bool.{le-leb, leb-true}
use Rattle.std.proofs.lemmas.Bool.Decides.{nat_tests}
use Rattle.std.proofs.lemmas.List.Elements.{All-drop, All-head, All-tail}
use Rattle.mb_alu.specs.Signs.{signed_of}
use Rattle.mb_instr.specs.declared.size.Size.{Size}
use Rattle.mb_instr.specs.declared.size.Size.TheVariants as size
use Rattle.mb_instr.specs.declared.control.ControlRegister.{ControlRegister}
use Rattle.mb_instr.specs.Codes.{AreWords}
use Rattle.mb_instr.specs.Control.{control_of}
use Rattle.mb_instr.specs.Kinds.{condition_bits}
use Rattle.mb_instr.specs.FurtherWords.{extension_word}
use Rattle.mb_syntax.specs.declared.mode.Base.{Base}
use Rattle.mb_syntax.specs.declared.mode.Base.TheVariants as base
use Rattle.mb_syntax.specs.declared.mode.Width.TheVariants as width
use Rattle.mb_syntax.specs.declared.mode.Mode.{Mode}
use Rattle.mb_syntax.specs.declared.mode.Mode.TheVariants as mode
use Rattle.mb_syntax.specs.declared.operand.Operand.{Operand}
use Rattle.mb_syntax.specs.declared.operand.Operand.TheVariants as operand
use Rattle.mb_syntax.specs.Statements.{takes_caches}
use Rattle.mb_mnemonics.specs.declared.endings.NameOf.{NameOf}
use Rattle.mb_mnemonics.specs.declared.line.Line.{Line}
use Rattle.mb_mnemonics.specs.declared.pattern.Pattern.{Pattern}
use Rattle.mb_mnemonics.specs.declared.pattern.Pattern.TheVariants as pattern
use Rattle.mb_mnemonics.specs.declared.pattern.Place.{Place}
use Rattle.mb_mnemonics.specs.declared.pattern.Place.TheVariants.{X, Y, Upper, Middle, Lower, Both}
use Rattle.mb_mnemonics.specs.declared.range.Range.{Range}
use Rattle.mb_mnemonics.specs.declared.range.Range.TheVariants as range
use Rattle.mb_mnemonics.specs.Lines.{ending_name, endings, lines, patterns_of, stem_of}
use Rattle.mb_mnemonics.specs.Operands.{operand_words}
use Rattle.mb_statement.specs.Modes.{address_base, displacement_in, full_in, index_of, indexed_in, long_in, mode_in, number_in, outer_place, pc_base}
use Rattle.mb_statement.specs.Modes.{pc_indexed_in, place_of, special_in, target_of, value_from, word_in}
use Rattle.mb_statement.specs.Statements.{Front, Statement, control_operand, field_number, front_of, one_among, operand_in, operands_in}
use Rattle.mb_statement.specs.Statements.{quick_in, reach_in, register, register_at, size_by, statement_by, statement_in}
use Rattle.mb_statement.specs.Written.{has_text, is_base, is_displacement, is_field_number, is_mode, is_name, is_narrow, is_operand, is_plain}
use Rattle.mb_statement.specs.Written.{is_register, is_written}
use Rattle.mb_statement.proofs.Lexemes.{both}

-- ---- numbers

narrow : (n : ℕ) → n < 2 ^ 32 → is_narrow (pos n) ≡ true
narrow n h = le-leb n 4294967295 (omega arith)

-- a number less so many is narrow
less_narrow : (n m : ℕ) → n < 2 ^ 32 → m ≤ 2 ^ 32 → 0 < n → is_narrow (pos n -ℤ pos m) ≡ true
less_narrow n m a b c = grind (arith, nat_tests)

signed_by : (test : Bool) (n m : ℕ) → nat_le (m / 2) n ≡ test → n < 2 ^ 32 → m ≤ 2 ^ 32 → 1 < m
    → is_narrow (if test then pos n -ℤ pos m else pos n) ≡ true
signed_by true n m e a b d = let half : m / 2 ≤ n = leb-true (m / 2) n e in less_narrow n m a b (omega arith)
signed_by false n m e a b d = narrow n a

signed_narrow : (s : Size) (n : ℕ) → is_narrow (signed_of s n) ≡ true
signed_narrow size.Byte n = signed_by (nat_le (2 ^ 8 / 2) (n % 2 ^ 8)) (n % 2 ^ 8) (2 ^ 8) refl (omega arith) (omega arith) (omega arith)
signed_narrow size.Word n = signed_by (nat_le (2 ^ 16 / 2) (n % 2 ^ 16)) (n % 2 ^ 16) (2 ^ 16) refl (omega arith) (omega arith) (omega arith)
signed_narrow size.Long n = signed_by (nat_le (2 ^ 32 / 2) (n % 2 ^ 32)) (n % 2 ^ 32) (2 ^ 32) refl (omega arith) (omega arith) (omega arith)

target_narrow : (s : Size) (place d : ℕ) → is_narrow (target_of s place d) ≡ true
target_narrow s place d = narrow _ (omega arith)

value_narrow : (place : Option ℕ) (s : Size) (d : ℕ) → is_narrow (value_from place s d) ≡ true
value_narrow None s d = signed_narrow s d
value_narrow (Some place) s d = target_narrow s place d

word_small : (n : ℕ) (ws : List ℕ) → AreWords ws → word_in n ws < 2 ^ 16
unfolding word_in
word_small n [] h = omega arith
word_small n (w ∷ ws) h = elim (n == 0) as (λ b. (if b then w else word_in (n - 1) ws) < 2 ^ 16) [
  | true ↦ All-head (λ x. x < 2 ^ 16) w ws h
  | false ↦ word_small (n - 1) ws (All-tail (λ x. x < 2 ^ 16) w ws h)
]

long_small : (n : ℕ) (ws : List ℕ) → AreWords ws → long_in n ws < 2 ^ 32
long_small n ws h = let a = word_small n ws h in let b = word_small (n + 1) ws h in omega arith

word_narrow : (n : ℕ) (ws : List ℕ) → AreWords ws → is_narrow (pos (word_in n ws)) ≡ true
word_narrow n ws h = let a = word_small n ws h in narrow _ (omega arith)

number_by : (test : Bool) (n : ℕ) → n < 2 ^ 16 → is_narrow (if test then pos n else signed_of size.Word n) ≡ true
number_by true n h = narrow n (omega arith)
number_by false n h = signed_narrow size.Word n

number_narrow : (s : Size) (ws : List ℕ) → AreWords ws → is_narrow (number_in s ws) ≡ true
number_narrow size.Byte ws h = number_by (nat_lt (word_in 0 ws) (2 ^ 16 - 2 ^ 7)) (word_in 0 ws) (word_small 0 ws h)
number_narrow size.Word ws h = word_narrow 0 ws h
number_narrow size.Long ws h = narrow (long_in 0 ws) (long_small 0 ws h)

low_register : (n : ℕ) → is_register (n % 8) ≡ true
low_register n = grind (arith, nat_tests)

-- ---- modes

-- it is written where it says that it is a full form
abbrev Writes : Mode ℤ → Type 0
Writes m = is_plain m ≡ true → is_mode m ≡ true

mode_either : (b : Bool) (m k : Mode ℤ) → Writes m → Writes k → Writes (if b then m else k)
mode_either true m k g h = g
mode_either false m k g h = h

displaced : (first second : Bool) (d e : ℤ) → is_narrow d ≡ true → is_narrow e ≡ true
    → is_displacement (if first then Some (record { value = d; width = width.Word }) else if second then Some (record { value = e; width = width.Long })
    else None) ≡ true
displaced true second d e g h = g
displaced false true d e g h = h
displaced false false d e g h = refl

displacement_written : (place : Option ℕ) (field n : ℕ) (ws : List ℕ) → is_displacement (displacement_in place field n ws) ≡ true
displacement_written place field n ws =
    displaced (field == 2) (field == 3) _ _ (value_narrow place size.Word (word_in n ws)) (value_narrow place size.Long (long_in n ws))

full_written : (place : ℕ) (b : Base) (ws : List ℕ) → is_base b ≡ true → Writes (mode.Full (full_in place b ws))
full_written place b ws h says = rw (
  displacement_written (place_of place b) (extension_word (word_in 0 ws)).base_width 1 ws,
  displacement_written None (extension_word (word_in 0 ws)).outer_width (outer_place (extension_word (word_in 0 ws)).base_width) ws,
  low_register (word_in 0 ws / 2 ^ 12),
  h,
) says

base_written : (b : Bool) (x y : Base) → is_base x ≡ true → is_base y ≡ true → is_base (if b then x else y) ≡ true
base_written true x y g h = g
base_written false x y g h = h

indexed_written : (place n : ℕ) (ws : List ℕ) → is_register n ≡ true → Writes (indexed_in place n ws)
indexed_written place n ws h = let w = word_in 0 ws in
    mode_either ((extension_word w).is_full == 0) (mode.Indexed n (signed_of size.Byte w) (index_of false w)) (mode.Full (full_in place (address_base w n) ws))
    (λ p. rw (h, signed_narrow size.Byte w, low_register (w / 2 ^ 12)) refl)
    (full_written place (address_base w n) ws (base_written ((extension_word w).leaves_base == 1) (base.NoAddress n) (base.Address n) h h))

pc_indexed_written : (place : ℕ) (ws : List ℕ) → Writes (pc_indexed_in place ws)
pc_indexed_written place ws = let w = word_in 0 ws in
    mode_either ((extension_word w).is_full == 0) (mode.PcIndexed (target_of size.Byte place w) (index_of false w)) (mode.Full (full_in place (pc_base w) ws))
    (λ p. rw (target_narrow size.Byte place w, low_register (w / 2 ^ 12)) refl)
    (full_written place (pc_base w) ws (base_written ((extension_word w).leaves_base == 1) base.NoPc base.Pc refl refl))

special_written : (s : Size) (place n : ℕ) (ws : List ℕ) → AreWords ws → Writes (special_in s place n ws)
special_written s place n ws h =
    mode_either (n == 0) _ _ (λ p. word_narrow 0 ws h)
    (mode_either (n == 1) _ _ (λ p. narrow (long_in 0 ws) (long_small 0 ws h))
    (mode_either (n == 2) _ _ (λ p. target_narrow size.Word place (word_in 0 ws))
    (mode_either (n == 3) _ _ (pc_indexed_written place ws) (λ p. number_narrow s ws h))))

mode_written : (s : Size) (place kind n : ℕ) (ws : List ℕ) → AreWords ws → Writes (mode_in s place kind (n % 8) ws)
mode_written s place kind n ws h =
    let low = low_register n in
    mode_either (kind == 0) _ _ (λ p. low) (mode_either (kind == 1) _ _ (λ p. low) (mode_either (kind == 2) _ _ (λ p. low)
    (mode_either (kind == 3) _ _ (λ p. low) (mode_either (kind == 4) _ _ (λ p. low)
    (mode_either (kind == 5) _ _ (λ p. rw (low, signed_narrow size.Word (word_in 0 ws)) refl)
    (mode_either (kind == 6) _ _ (indexed_written place (n % 8) ws low) (special_written s place (n % 8) ws h)))))))

-- ---- operands

-- a register's number at a place
place_register : (p : Place) (first w : ℕ) → is_register (register_at p first w) ≡ true
place_register X first w = low_register (first / 2 ^ 9)
place_register Y first w = low_register first
place_register Upper first w = low_register (w / 2 ^ 12)
place_register Middle first w = low_register (w / 2 ^ 6)
place_register Lower first w = low_register w
place_register Both first w = low_register w

-- one of the operands of an operation that takes names of caches, or that does not
abbrev Stands : Bool → Operand ℤ → Type 0
Stands caches o = has_text o ≡ true → is_operand caches o ≡ true

register_by : (caches low : Bool) (n : ℕ) → n < 16 → nat_lt n 8 ≡ low
    → is_operand caches (if low then operand.Mode (mode.Data n) else operand.Mode (mode.Address (n - 8))) ≡ true
register_by caches true n h e = e
register_by caches false n h e = grind (arith, nat_tests)

general_written : (caches : Bool) (n : ℕ) → n < 16 → is_operand caches (register n) ≡ true
general_written caches n h = register_by caches (nat_lt n 8) n h refl

list_written : (caches : Bool) (mask n : ℕ) → n ≤ 16 → Stands caches (one_among mask n)
unfolding one_among
list_written caches mask zero h = λ says. says
list_written caches mask (suc n) h = elim (mask == 2 ^ n) as (λ b. Stands caches (if b then register n else one_among mask n)) [
  | true ↦ λ says. general_written caches n (omega arith)
  | false ↦ list_written caches mask n (omega arith)
]

control_written : (caches : Bool) (c : Option ControlRegister) (code : ℕ) → code < 2 ^ 12 → is_operand caches (control_operand c code) ≡ true
control_written caches (Some register) code h = refl
control_written caches None code h = narrow code (omega arith)

either_small : (b : Bool) (m n : ℕ) → m < 64 → n < 64 → (if b then m else n) < 2 ^ 32
either_small true m n g h = omega arith
either_small false m n g h = omega arith

quick_narrow : (r : Range) (w : ℕ) → is_narrow (quick_in r w) ≡ true
quick_narrow range.Count w = narrow _ (either_small (w / 2 ^ 9 % 8 == 0) 8 (w / 2 ^ 9 % 8) (omega arith) (omega arith))
quick_narrow range.Byte w = signed_narrow size.Byte w
quick_narrow _ w = narrow (w % 16) (omega arith)

field_written : (b : Bool) (n e : ℕ) → is_register n ≡ true → e < 2 ^ 32 → is_field_number (field_number b n e) ≡ true
field_written true n e g h = g
field_written false n e g h = narrow e h

sixteenth : (w : ℕ) → w < 2 ^ 16 → nat_lt (w / 2 ^ 12) 16 ≡ true
sixteenth w h = grind (arith, nat_tests)

-- whether an operation that takes names of caches, or that does not, may have the pattern
abbrev pub may_have : Bool → Pattern → Bool
may_have caches pattern.Caches = caches
may_have caches _ = true

operand_written : (caches : Bool) (p : Pattern) (s : Size) (at here : ℕ) (f : Front) (own : List ℕ) → may_have caches p ≡ true
    → f.second < 2 ^ 16 → f.third < 2 ^ 16 → AreWords own → Stands caches (operand_in p s at here f own)
operand_written caches (pattern.Mode class) s at here f own may b c h = mode_written s here (f.first / 2 ^ 3 % 8) f.first own h
operand_written caches (pattern.Destination class) s at here f own may b c h = mode_written s here (f.first / 2 ^ 6 % 8) (f.first / 2 ^ 9) own h
operand_written caches (pattern.Memory class) s at here f own may b c h = mode_written s here (f.first / 2 ^ 3 % 8) f.first own h
operand_written caches pattern.DataMode s at here f own may b c h = mode_written s here (f.first / 2 ^ 3 % 8) f.first own h
operand_written caches (pattern.FieldMode class) s at here f own may b c h = λ says. rw (
  mode_written s here (f.first / 2 ^ 3 % 8) f.first own h says,
  field_written (f.second / 2 ^ 11 % 2 == 1) (f.second / 2 ^ 6 % 8) (f.second / 2 ^ 6 % 32) (low_register (f.second / 2 ^ 6)) (omega arith),
  field_written (f.second / 2 ^ 5 % 2 == 1) (f.second % 8) (if f.second % 32 == 0 then 32 else f.second % 32) (low_register f.second)
      (either_small (f.second % 32 == 0) 32 (f.second % 32) (omega arith) (omega arith)),
) refl
operand_written caches (pattern.Data place) s at here f own may b c h = λ says. place_register place f.first f.second
operand_written caches (pattern.Address place) s at here f own may b c h = λ says. place_register place f.first f.second
operand_written caches (pattern.Register place) s at here f own may b c h = λ says. general_written caches (f.second / 2 ^ 12) (omega arith)
operand_written caches (pattern.Indirect place) s at here f own may b c h = λ says. place_register place f.first f.second
operand_written caches (pattern.PostIncrement place) s at here f own may b c h = λ says. place_register place f.first f.second
operand_written caches (pattern.PreDecrement place) s at here f own may b c h = λ says. place_register place f.first f.second
operand_written caches pattern.Immediate s at here f own may b c h = λ says. number_narrow s own h
operand_written caches (pattern.Quick r) s at here f own may b c h = λ says. quick_narrow r f.first
operand_written caches pattern.WordNumber s at here f own may b c h = λ says. narrow f.second (omega arith)
operand_written caches (pattern.Distance reach) s at here f own may b c h = λ says. signed_narrow reach (reach_in reach f own)
operand_written caches (pattern.Target reach) s at here f own may b c h = λ says. target_narrow reach (at + 2) (reach_in reach f own)
operand_written caches pattern.RegisterList s at here f own may b c h = list_written caches _ 16 (omega arith)
operand_written caches pattern.ReversedList s at here f own may b c h = list_written caches _ 16 (omega arith)
operand_written caches pattern.Displaced s at here f own may b c h =
    λ says. rw (low_register f.first, signed_narrow size.Word f.second) refl
operand_written caches pattern.Absolute s at here f own may b c h = λ says. narrow (long_in 0 own) (long_small 0 own h)
operand_written caches pattern.Control s at here f own may b c h =
    λ says. control_written caches (control_of (f.second % 2 ^ 12)) (f.second % 2 ^ 12) (omega arith)
operand_written caches (pattern.Pair high low) s at here f own may b c h =
    λ says. rw (place_register high f.first f.second, place_register low f.first f.second) refl
operand_written caches (pattern.Pairs place) s at here f own may b c h =
    λ says. rw (place_register place f.first f.second, place_register place f.first f.third) refl
operand_written caches pattern.IndirectPairs s at here f own may b c h = λ says. rw (sixteenth f.second b, sixteenth f.third c) refl
operand_written caches pattern.Caches s at here f own may b c h = λ says. may
operand_written caches _ s at here f own may b c h = λ says. refl

operands_written : (caches : Bool) (ps : List Pattern) (s : Size) (at here : ℕ) (f : Front) (own : List ℕ) → list_all (may_have caches) ps ≡ true
    → f.second < 2 ^ 16 → f.third < 2 ^ 16 → AreWords own → list_all has_text (operands_in ps s at here f own) ≡ true
    → list_all (is_operand caches) (operands_in ps s at here f own) ≡ true
operands_written caches [] s at here f own may b c h says = refl
operands_written caches (p ∷ ps) s at here f own may b c h says =
    let o = operand_in p s at here f own in
    let n = operand_words p s o in
    let allowed = both (may_have caches p) (list_all (may_have caches) ps) may in
    let there = (here + 2 * n) % 2 ^ 32 in
    let texts = both (has_text o) (list_all has_text (operands_in ps s at there f (drop n own))) says in
    rw (
      operand_written caches p s at here f own allowed.0 b c h texts.0,
      operands_written caches ps s at there f (drop n own) allowed.1 b c (All-drop (λ w. w < 2 ^ 16) n own h) texts.1,
    ) refl

-- ---- lines

-- a line's name with the ending is one, and may have the line's operands
abbrev pub names : Line → List ℕ → Bool
names l end = let name = stem_of l.stem ++ end in is_name name && list_all (may_have (takes_caches name)) (patterns_of l.operands)

abbrev pub is_named : Line → Bool
is_named l = names l [] && list_all (λ n. names l (stem_of n.name)) (endings l.ending)

pub all_named : list_all is_named lines ≡ true
unfolding lines
all_named = refl

ending_named : (l : Line) (ns : List NameOf) (number : ℕ) → names l [] ≡ true → list_all (λ n. names l (stem_of n.name)) ns ≡ true
    → names l (ending_name ns number) ≡ true
ending_named l [] number none h = none
ending_named l (n ∷ ns) number none h =
    let parts = both (names l (stem_of n.name)) (list_all (λ x. names l (stem_of x.name)) ns) h in
    elim (condition_bits n.condition == number) as (λ b. names l (if b then stem_of n.name else ending_name ns number) ≡ true) [
      | true ↦ parts.0
      | false ↦ ending_named l ns number none parts.1
    ]

line_written : (l : Line) (s : Size) (at : ℕ) (ws : List ℕ) → is_named l ≡ true → AreWords ws
    → list_all has_text (statement_in l s at ws).operands ≡ true → is_written (statement_in l s at ws) ≡ true
unfolding is_written
line_written l s at ws named small says =
    let number = word_in 0 ws / 2 ^ 8 % 16 in
    let parts = both (names l []) (list_all (λ n. names l (stem_of n.name)) (endings l.ending)) named in
    let name = stem_of l.stem ++ ending_name (endings l.ending) number in
    let so = both (is_name name) (list_all (may_have (takes_caches name)) (patterns_of l.operands))
    (ending_named l (endings l.ending) number parts.0 parts.1) in
    rw (
      so.0,
      operands_written (takes_caches name) (patterns_of l.operands) s at ((at + 2 * (1 + l.words)) % 2 ^ 32) (front_of ws) (drop (1 + l.words) ws) so.1
          (word_small 1 ws small) (word_small 2 ws small) (All-drop (λ w. w < 2 ^ 16) (1 + l.words) ws small) says,
    ) refl

sized_written : (z : Option Size) (l : Line) (at : ℕ) (ws : List ℕ) (s : Statement) → is_named l ≡ true → AreWords ws
    → option_map (λ x. statement_in l x at ws) z ≡ Some s → list_all has_text s.operands ≡ true → is_written s ≡ true
sized_written None l at ws s named small e says = absurd cc
sized_written (Some z) l at ws s named small e says =
    let same : statement_in l z at ws ≡ s = cc in
    subst (λ x. list_all has_text x.operands ≡ true → is_written x ≡ true) same (line_written l z at ws named small) says

pub statement_written : (l : Line) (at : ℕ) (ws : List ℕ) (s : Statement) → is_named l ≡ true → AreWords ws
    → statement_by l at ws ≡ Some s → list_all has_text s.operands ≡ true → is_written s ≡ true
unfolding statement_by
statement_written l at ws s named small e says = sized_written (size_by l.sizes (word_in 0 ws)) l at ws s named small e says
