-- What the lexemes of numbers, indices and groups are read as, whatever words stand behind.
use Rattle.std.proofs.Common.{◌≡◌, ℕ, suc, ◌+◌, Bool, true, false, List, [], ◌∷◌, ◌++◌, length, refl, ap, ◌∙◌}
use Rattle.std.specs.Prelude.{ℤ, pos, negsuc, Option, Some, None, option_map}
use Rattle.mb_syntax.specs.declared.word.Name.{Name}
use Rattle.mb_syntax.specs.declared.word.Word.{Word}
use Rattle.mb_syntax.specs.declared.word.Word.TheVariants as word
use Rattle.mb_syntax.specs.declared.register.Register.{Register}
use Rattle.mb_syntax.specs.declared.register.Register.TheVariants as register
use Rattle.mb_syntax.specs.declared.statement.SizeLetter.{SizeLetter}
use Rattle.mb_syntax.specs.declared.statement.SizeLetter.TheVariants as letter
use Rattle.mb_syntax.specs.declared.mode.Width.{Width}
use Rattle.mb_syntax.specs.declared.mode.Width.TheVariants as width
use Rattle.mb_syntax.specs.declared.mode.Scale.{Scale}
use Rattle.mb_syntax.specs.declared.mode.Scale.TheVariants as scale
use Rattle.mb_syntax.specs.declared.mode.Index.{Index}
use Rattle.mb_syntax.specs.declared.mode.Base.{Base}
use Rattle.mb_syntax.specs.declared.mode.Base.TheVariants as base
use Rattle.mb_syntax.specs.declared.mode.Displacement.{Displacement}
use Rattle.mb_syntax.specs.Sums.{comma_at, expression_at, terms_at}
use Rattle.mb_syntax.specs.Modes.{base_at, base_of, direct_mode, displacement_of, group_at, index_at, index_part, scale_at}
use Rattle.mb_statement.specs.Read.{sum_of}
use Rattle.mb_statement.proofs.Lexemes.{Lexeme, said}
use Rattle.mb_statement.proofs.Spelled.{reg, register_bytes, size, numeral, figure, comma, dot, minus, star}

-- ---- numbers

abbrev pub value : ℤ → List Lexeme
value (pos n) = numeral n ∷ []
value (negsuc n) = minus ∷ numeral (suc n) ∷ []

-- a sum does not go on
abbrev pub ends_sum : List Word → Bool
ends_sum (word.Plus ∷ words) = false
ends_sum (word.Minus ∷ words) = false
ends_sum _ = true

pub terms_end : (words : List Word) → ends_sum words ≡ true → terms_at words ≡ Some ([], words)
terms_end [] h = refl
terms_end (word.Plus ∷ words) h = absurd cc
terms_end (word.Minus ∷ words) h = absurd cc
terms_end (first ∷ words) h = refl

pub sum_read : (e : ℤ) (p : ℕ) (behind : List Word) → ends_sum behind ≡ true → expression_at (said (value e) p behind) ≡ Some (sum_of e, behind)
sum_read (pos n) p behind h = rw (terms_end behind h) refl
sum_read (negsuc n) p behind h = rw (terms_end behind h) refl

-- ---- widths, scales and indices

abbrev pub width_letter : Width → SizeLetter
width_letter width.Word = letter.Word
width_letter width.Long = letter.Long

abbrev pub scaled : Scale → List Lexeme
scaled scale.One = []
scaled scale.Two = star ∷ figure 2 ∷ []
scaled scale.Four = star ∷ figure 4 ∷ []
scaled scale.Eight = star ∷ figure 8 ∷ []

abbrev pub register_at : Bool → Bool → ℕ → Register
register_at false false n = register.Data n
register_at true false n = register.Address n
register_at false true n = register.NoData n
register_at true true n = register.NoAddress n

abbrev pub index_lexemes : Index → List Lexeme
index_lexemes i = reg (register_at i.is_address i.is_dropped i.register) ∷ dot ∷ size (width_letter i.width) ∷ scaled i.scale

-- no size or scale stands behind a register
abbrev pub ends_register : List Word → Bool
ends_register (word.Dot ∷ words) = false
ends_register (word.Star ∷ words) = false
ends_register _ = true

scale_end : (words : List Word) → ends_register words ≡ true → scale_at words ≡ Some (scale.One, words)
scale_end [] h = refl
scale_end (word.Star ∷ words) h = absurd cc
scale_end (first ∷ words) h = refl

scale_read : (s : Scale) (p : ℕ) (behind : List Word) → ends_register behind ≡ true → scale_at (said (scaled s) p behind) ≡ Some (s, behind)
scale_read scale.One p behind h = scale_end behind h
scale_read scale.Two p behind h = refl
scale_read scale.Four p behind h = refl
scale_read scale.Eight p behind h = refl

-- ---- lexemes behind others

-- the place behind lexemes
abbrev pub after : ℕ → List Lexeme → ℕ
after p [] = p
after p (l ∷ ls) = after (p + length l.bytes) ls

pub said_append : (xs ys : List Lexeme) (p : ℕ) (behind : List Word) → said (xs ++ ys) p behind ≡ said xs p (said ys (after p xs) behind)
said_append [] ys p behind = refl
said_append (x ∷ xs) ys p behind =
    ap (λ (ws : List Word). x.word (record { start = p; end = p + length x.bytes }) ∷ ws) (said_append xs ys (p + length x.bytes) behind)

-- ---- indices

abbrev pub index : Bool → Bool → ℕ → Width → Scale → Index
index a d n w s = record { is_address = a; register = n; is_dropped = d; width = w; scale = s }

index_by : (a d : Bool) (n : ℕ) (w : Width) (s : Scale) (p : ℕ) (behind : List Word) → ends_register behind ≡ true
    → index_at (said (index_lexemes (index a d n w s)) p behind) ≡ Some (index a d n w s, behind)
index_by false false n width.Word s p behind h = rw scale_read refl
index_by false false n width.Long s p behind h = rw scale_read refl
index_by true false n width.Word s p behind h = rw scale_read refl
index_by true false n width.Long s p behind h = rw scale_read refl
index_by false true n width.Word s p behind h = rw scale_read refl
index_by false true n width.Long s p behind h = rw scale_read refl
index_by true true n width.Word s p behind h = rw scale_read refl
index_by true true n width.Long s p behind h = rw scale_read refl

pub index_read : (i : Index) (p : ℕ) (behind : List Word) → ends_register behind ≡ true → index_at (said (index_lexemes i) p behind) ≡ Some (i, behind)
index_read i p behind h = index_by i.is_address i.is_dropped i.register i.width i.scale p behind h

-- the same, before a mark
pub index_before : (i : Index) (mark : Lexeme) (p : ℕ) (behind : List Word)
    → ends_register (said (mark ∷ []) (after p (index_lexemes i)) behind) ≡ true
    → index_at (said (index_lexemes i ++ mark ∷ []) p behind) ≡ Some (i, said (mark ∷ []) (after p (index_lexemes i)) behind)
index_before i mark p behind h =
    ap index_at (said_append (index_lexemes i) (mark ∷ []) p behind) ∙ index_read i p (said (mark ∷ []) (after p (index_lexemes i)) behind) h

-- ---- bases

abbrev pub base_register : Base → Register
base_register (base.Address n) = register.Address n
base_register base.Pc = register.Pc
base_register (base.NoAddress n) = register.NoAddress n
base_register base.NoPc = register.NoPc

base_said : (b : Base) → base_of (base_register b) ≡ Some b
base_said (base.Address n) = refl
base_said base.Pc = refl
base_said (base.NoAddress n) = refl
base_said base.NoPc = refl

base_read : (b : Base) (place : Name) (behind : List Word) → ends_register behind ≡ true
    → base_at (word.Register (base_register b) place ∷ behind) ≡ Some (b, behind)
base_read b place [] h = rw (base_said b) refl
base_read b place (word.Dot ∷ words) h = absurd cc
base_read b place (word.Star ∷ words) h = absurd cc
base_read b place (first ∷ words) h = rw (base_said b) refl

-- ---- groups

abbrev pub displacement_lexemes : Displacement ℤ → List Lexeme
displacement_lexemes d = value d.value ++ dot ∷ size (width_letter d.width) ∷ []

abbrev pub front_lexemes : Option (Displacement ℤ) → List Lexeme
front_lexemes None = []
front_lexemes (Some d) = displacement_lexemes d ++ comma ∷ []

abbrev pub behind_lexemes : Option Index → List Lexeme
behind_lexemes None = []
behind_lexemes (Some i) = comma ∷ index_lexemes i

abbrev pub base_lexemes : Base → Option Index → List Lexeme
base_lexemes b x = reg (base_register b) ∷ behind_lexemes x

abbrev pub group_lexemes : Option (Displacement ℤ) → Base → Option Index → List Lexeme
group_lexemes d b x = front_lexemes d ++ base_lexemes b x

-- what a function is of
abbrev pub Domain : {A B : Type 0} → (A → B) → Type 0
Domain {A} {B} f = A

-- a sum with its width, as it is read
abbrev pub SizedRead : Type 0
SizedRead = Domain displacement_of

abbrev pub sized_of : Displacement ℤ → SizedRead
sized_of d = record { value = sum_of d.value; width = Some d.width }

-- the parts of a group, as they are read
abbrev pub GroupRead : Type 0
GroupRead = Domain direct_mode

abbrev pub group : Option (Displacement ℤ) → Base → Option Index → GroupRead
group d b x = record { displacement = option_map sized_of d; base = Some b; index = x }

-- the end of a group
abbrev pub closes : List Word → Bool
closes (word.Close ∷ words) = true
closes (word.CloseSquare ∷ words) = true
closes _ = false

-- ends of groups are ends of registers, and no comma
closes_register : (words : List Word) → closes words ≡ true → ends_register words ≡ true
closes_register [] h = absurd cc
closes_register (word.Close ∷ words) h = refl
closes_register (word.CloseSquare ∷ words) h = refl
closes_register (first ∷ words) h = absurd cc

closes_comma : (words : List Word) → closes words ≡ true → comma_at words ≡ None
closes_comma [] h = absurd cc
closes_comma (word.Close ∷ words) h = refl
closes_comma (word.CloseSquare ∷ words) h = refl
closes_comma (first ∷ words) h = absurd cc

-- a base and an index, where the base stands first or behind a comma
bases_read : (b : Base) (x : Option Index) (p : ℕ) (behind : List Word) → closes behind ≡ true
    → (base_at (said (base_lexemes b x) p behind) ≡ Some (b, said (behind_lexemes x) (p + length (register_bytes (base_register b))) behind))
bases_read b None p behind h =
    base_read b (record { start = p; end = p + length (register_bytes (base_register b)) }) behind (closes_register behind h)
bases_read b (Some x) p behind h =
    let q = p + length (register_bytes (base_register b)) in
    base_read b (record { start = p; end = q }) (said (behind_lexemes (Some x)) q behind) refl

index_behind_read : (x : Option Index) (p : ℕ) (behind : List Word) → closes behind ≡ true
    → index_part false (said (behind_lexemes x) p behind) ≡ (x, behind)
index_behind_read None p behind h = rw (closes_comma behind h) refl
index_behind_read (Some x) p behind h = rw (index_read x (p + 1) behind (closes_register behind h)) refl

group_none : (b : Base) (x : Option Index) (p : ℕ) (behind : List Word) → closes behind ≡ true
    → group_at (said (group_lexemes None b x) p behind) ≡ (group None b x, behind)
group_none b x p behind h =
    rw (bases_read b x p behind h, index_behind_read x (p + length (register_bytes (base_register b))) behind h) refl

abbrev pub displacement : ℤ → Width → Displacement ℤ
displacement e w = record { value = e; width = w }

group_some : (e : ℤ) (w : Width) (b : Base) (x : Option Index) (p : ℕ) (behind : List Word) → closes behind ≡ true
    → group_at (said (group_lexemes (Some (displacement e w)) b x) p behind) ≡ (group (Some (displacement e w)) b x, behind)
group_some (pos n) width.Word b x p behind h =
    let q = after p (front_lexemes (Some (displacement (pos n) width.Word))) in
    rw (bases_read b x q behind h, index_behind_read x (q + length (register_bytes (base_register b))) behind h) refl
group_some (pos n) width.Long b x p behind h =
    let q = after p (front_lexemes (Some (displacement (pos n) width.Long))) in
    rw (bases_read b x q behind h, index_behind_read x (q + length (register_bytes (base_register b))) behind h) refl
group_some (negsuc n) width.Word b x p behind h =
    let q = after p (front_lexemes (Some (displacement (negsuc n) width.Word))) in
    rw (bases_read b x q behind h, index_behind_read x (q + length (register_bytes (base_register b))) behind h) refl
group_some (negsuc n) width.Long b x p behind h =
    let q = after p (front_lexemes (Some (displacement (negsuc n) width.Long))) in
    rw (bases_read b x q behind h, index_behind_read x (q + length (register_bytes (base_register b))) behind h) refl

pub group_read : (d : Option (Displacement ℤ)) (b : Base) (x : Option Index) (p : ℕ) (behind : List Word) → closes behind ≡ true
    → group_at (said (group_lexemes d b x) p behind) ≡ (group d b x, behind)
group_read None b x p behind h = group_none b x p behind h
group_read (Some d) b x p behind h = group_some d.value d.width b x p behind h
