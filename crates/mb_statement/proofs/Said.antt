-- The text of a statement is that of its lexemes.
use Rattle.std.proofs.Common.{◌≡◌, ℕ, suc, Bool, true, false, List, [], ◌∷◌, ◌++◌, refl, ap, ◌∙◌, append_assoc, append-nil}
use Rattle.std.specs.Prelude.{ℤ, pos, negsuc, codes, Option, Some, None, if◌then◌else◌}
use Rattle.std.proofs.lemmas.Grind.{flat_map-append}
use Rattle.mb_syntax.specs.declared.register.Register.TheVariants as register
use Rattle.mb_syntax.specs.declared.mode.Width.{Width}
use Rattle.mb_syntax.specs.declared.mode.Width.TheVariants as width
use Rattle.mb_syntax.specs.declared.mode.Scale.{Scale}
use Rattle.mb_syntax.specs.declared.mode.Scale.TheVariants as scale
use Rattle.mb_syntax.specs.declared.mode.Index.{Index}
use Rattle.mb_syntax.specs.declared.mode.Base.{Base}
use Rattle.mb_syntax.specs.declared.mode.Base.TheVariants as base
use Rattle.mb_syntax.specs.declared.mode.Displacement.{Displacement}
use Rattle.mb_syntax.specs.declared.mode.Indirection.{Indirection}
use Rattle.mb_syntax.specs.declared.mode.Indirection.TheVariants as indirection
use Rattle.mb_syntax.specs.declared.mode.Mode.{Mode}
use Rattle.mb_syntax.specs.declared.mode.Mode.TheVariants as mode
use Rattle.mb_statement.specs.Numbers.{number, signed}
use Rattle.mb_statement.specs.Texts.{address_width_text, base_text, behind_base_text, displacement_text, first_text, index_text}
use Rattle.mb_statement.specs.Texts.{is_left_out, mode_text, numbered, outer_text, scale_text, width_text}
use Rattle.mb_statement.proofs.Lexemes.{Lexeme, spelled}
use Rattle.mb_statement.proofs.Spelled.{close_mark, close_square, comma, dot, reg, register_bytes, size}
use Rattle.mb_statement.proofs.PartsRead.{base_lexemes, base_register, behind_lexemes, displacement_lexemes, front_lexemes, group_lexemes}
use Rattle.mb_statement.proofs.PartsRead.{index, index_lexemes, scaled, value, width_letter}
use Rattle.mb_statement.proofs.ModesRead.{absolute_width, full_lexemes, mode_lexemes, outer_lexemes, written_index}

pub spelled_append : (xs ys : List Lexeme) → spelled (xs ++ ys) ≡ spelled xs ++ spelled ys
spelled_append xs ys = flat_map-append (λ (l : Lexeme). l.bytes) xs ys

pub value_said : (e : ℤ) → spelled (value e) ≡ signed e
value_said (pos n) = append-nil (number n)
value_said (negsuc n) = ap (λ (bs : List ℕ). 45 ∷ bs) (append-nil (number (suc n)))

scale_said : (s : Scale) → spelled (scaled s) ≡ scale_text s
scale_said scale.One = refl
scale_said scale.Two = refl
scale_said scale.Four = refl
scale_said scale.Eight = refl

index_by : (a d : Bool) (n : ℕ) (w : Width) (s : Scale) → spelled (index_lexemes (index a d n w s)) ≡ index_text (index a d n w s)
index_by false false n width.Word s = rw (scale_said s) refl
index_by false false n width.Long s = rw (scale_said s) refl
index_by true false n width.Word s = rw (scale_said s) refl
index_by true false n width.Long s = rw (scale_said s) refl
index_by false true n width.Word s = rw (scale_said s) refl
index_by false true n width.Long s = rw (scale_said s) refl
index_by true true n width.Word s = rw (scale_said s) refl
index_by true true n width.Long s = rw (scale_said s) refl

pub index_said : (i : Index) → spelled (index_lexemes i) ≡ index_text i
index_said i = index_by i.is_address i.is_dropped i.register i.width i.scale

base_said : (b : Base) → register_bytes (base_register b) ≡ base_text b
base_said (base.Address n) = refl
base_said base.Pc = refl
base_said (base.NoAddress n) = refl
base_said base.NoPc = refl

width_said : (w : Width) → spelled (dot ∷ size (width_letter w) ∷ []) ≡ width_text w
width_said width.Word = refl
width_said width.Long = refl

pub displacement_said : (d : Displacement ℤ) → spelled (displacement_lexemes d) ≡ displacement_text d
displacement_said d =
    spelled_append (value d.value) (dot ∷ size (width_letter d.width) ∷ []) ∙ rw (value_said d.value, width_said d.width) refl

-- ---- modes

first_said : (d : Option (Displacement ℤ)) → spelled (front_lexemes d) ≡ first_text d
first_said None = refl
first_said (Some d) = spelled_append (displacement_lexemes d) (comma ∷ []) ∙ rw (displacement_said d) refl

outer_said : (d : Option (Displacement ℤ)) → spelled (outer_lexemes d) ≡ outer_text d
outer_said None = refl
outer_said (Some d) = ap (λ (bs : List ℕ). 44 ∷ bs) (displacement_said d)

behind_by : (left : Bool) (i : Index) → spelled (behind_lexemes (if left then None else Some i)) ≡ (if left then [] else 44 ∷ index_text i)
behind_by true i = refl
behind_by false i = ap (λ (bs : List ℕ). 44 ∷ bs) (index_said i)

group_said : (d : Option (Displacement ℤ)) (b : Base) (x : Option Index)
    → spelled (group_lexemes d b x) ≡ first_text d ++ (base_text b ++ spelled (behind_lexemes x))
group_said d b x = spelled_append (front_lexemes d) (base_lexemes b x) ∙ rw (first_said d, base_said b) refl

pub joined : (a b c d : List ℕ) → a ≡ b → c ≡ d → a ++ c ≡ b ++ d
joined a b c d p q = ap (λ (x : List ℕ). x ++ c) p ∙ ap (λ (y : List ℕ). b ++ y) q

group_by : (d : Option (Displacement ℤ)) (b : Base) (x : Option Index) (behind : List ℕ) → spelled (behind_lexemes x) ≡ behind
    → spelled (group_lexemes d b x) ≡ first_text d ++ (base_text b ++ behind)
group_by d b x behind h = group_said d b x ∙ ap (λ (bs : List ℕ). first_text d ++ (base_text b ++ bs)) h

outer_closed : (o : Option (Displacement ℤ)) → spelled (outer_lexemes o ++ close_mark ∷ []) ≡ outer_text o ++ 41 ∷ []
outer_closed o = spelled_append (outer_lexemes o) (close_mark ∷ []) ∙ ap (λ (bs : List ℕ). bs ++ 41 ∷ []) (outer_said o)

full_by : (k : Indirection) (d : Option (Displacement ℤ)) (b : Base) (x : Option Index) (o : Option (Displacement ℤ)) (behind : List ℕ)
    → spelled (behind_lexemes x) ≡ behind → spelled (full_lexemes k d b x o) ≡ (elim k [
      | indirection.Direct ↦ codes "(" ++ first_text d ++ base_text b ++ behind ++ codes ")"
      | indirection.PreIndexed ↦ codes "([" ++ first_text d ++ base_text b ++ behind ++ codes "]" ++ outer_text o ++ codes ")"
      | indirection.PostIndexed ↦ codes "([" ++ first_text d ++ base_text b ++ codes "]" ++ behind ++ outer_text o ++ codes ")"
    ])
full_by indirection.Direct d b x o behind h =
    let all : spelled (group_lexemes d b x ++ close_mark ∷ []) ≡ (first_text d ++ (base_text b ++ behind)) ++ 41 ∷ [] =
    spelled_append (group_lexemes d b x) (close_mark ∷ []) ∙ ap (λ (bs : List ℕ). bs ++ 41 ∷ []) (group_by d b x behind h) in
    ap (λ (bs : List ℕ). 40 ∷ bs) all ∙ simp append_assoc
full_by indirection.PreIndexed d b x o behind h =
    let tail : List Lexeme = close_square ∷ outer_lexemes o ++ close_mark ∷ [] in
    let all : spelled (group_lexemes d b x ++ tail) ≡ (first_text d ++ (base_text b ++ behind)) ++ 93 ∷ (outer_text o ++ 41 ∷ []) =
    spelled_append (group_lexemes d b x) tail ∙ joined _ _ _ _ (group_by d b x behind h) (ap (λ (bs : List ℕ). 93 ∷ bs) (outer_closed o)) in
    ap (λ (bs : List ℕ). 40 ∷ 91 ∷ bs) all ∙ simp append_assoc
full_by indirection.PostIndexed d b x o behind h =
    let closing : List Lexeme = outer_lexemes o ++ close_mark ∷ [] in
    let tail : List Lexeme = close_square ∷ behind_lexemes x ++ closing in
    let last : spelled (behind_lexemes x ++ closing) ≡ behind ++ (outer_text o ++ 41 ∷ []) =
    spelled_append (behind_lexemes x) closing ∙ joined _ _ _ _ h (outer_closed o) in
    let all : spelled (group_lexemes d b None ++ tail) ≡ (first_text d ++ (base_text b ++ [])) ++ 93 ∷ (behind ++ (outer_text o ++ 41 ∷ [])) =
    spelled_append (group_lexemes d b None) tail ∙ joined _ _ _ _ (group_by d b None [] refl) (ap (λ (bs : List ℕ). 93 ∷ bs) last) in
    ap (λ (bs : List ℕ). 40 ∷ 91 ∷ bs) all ∙ simp (append_assoc, append-nil)

absolute_said : (w : Option Width) → spelled (absolute_width w) ≡ address_width_text w
absolute_said None = refl
absolute_said (Some w) = width_said w

index_closed : (i : Index) → spelled (index_lexemes i ++ close_mark ∷ []) ≡ index_text i ++ 41 ∷ []
index_closed i = spelled_append (index_lexemes i) (close_mark ∷ []) ∙ rw (index_said i) refl

-- a number before others
value_before : (e : ℤ) (ls : List Lexeme) → spelled (value e ++ ls) ≡ signed e ++ spelled ls
value_before e ls = spelled_append (value e) ls ∙ rw (value_said e) refl

-- a number, lexemes and an index before the end
before_index : (e : ℤ) (ls : List Lexeme) (i : Index) → spelled (value e ++ (ls ++ (index_lexemes i ++ close_mark ∷ [])))
    ≡ signed e ++ (spelled ls ++ (index_text i ++ 41 ∷ []))
before_index e ls i =
    value_before e (ls ++ (index_lexemes i ++ close_mark ∷ []))
    ∙ ap (λ (bs : List ℕ). signed e ++ bs) (spelled_append ls (index_lexemes i ++ close_mark ∷ []) ∙ ap (λ (bs : List ℕ). spelled ls ++ bs) (index_closed i))

four : (a b c d : List ℕ) → a ++ (b ++ (c ++ d)) ≡ a ++ b ++ c ++ d
four a b c d = simp append_assoc

six : (a b c d e f : List ℕ) → a ++ (b ++ (c ++ (d ++ (e ++ f)))) ≡ a ++ b ++ c ++ d ++ e ++ f
six a b c d e f = simp append_assoc

pub mode_said : (m : Mode ℤ) → spelled (mode_lexemes m) ≡ mode_text m
mode_said (mode.Data n) = refl
mode_said (mode.Address n) = refl
mode_said (mode.Indirect n) = refl
mode_said (mode.PostIncrement n) = refl
mode_said (mode.PreDecrement n) = refl
mode_said (mode.Displaced n e) = ap (λ (bs : List ℕ). 40 ∷ bs) (value_before e (comma ∷ reg (register.Address n) ∷ close_mark ∷ [])) ∙ simp append_assoc
mode_said (mode.Indexed n e i) = ap (λ (bs : List ℕ). 40 ∷ bs)
    (before_index e (comma ∷ reg (register.Address n) ∷ comma ∷ []) i
    ∙ six (signed e) (codes ",") (numbered true n) (codes ",") (index_text i) (codes ")"))
mode_said (mode.Absolute e w) = value_before e (absolute_width w) ∙ rw (absolute_said w) refl
mode_said (mode.PcDisplaced e) = ap (λ (bs : List ℕ). 40 ∷ bs) (value_before e (comma ∷ reg register.Pc ∷ close_mark ∷ [])) ∙ simp append_assoc
mode_said (mode.PcIndexed e i) = ap (λ (bs : List ℕ). 40 ∷ bs)
    (before_index e (comma ∷ reg register.Pc ∷ comma ∷ []) i ∙ four (signed e) (codes ",PC,") (index_text i) (codes ")"))
mode_said (mode.Full f) =
    full_by f.indirection f.displacement f.base (written_index f) f.outer (behind_base_text f) (behind_by (is_left_out f) f.index)
mode_said (mode.Immediate e) = ap (λ (bs : List ℕ). 35 ∷ bs) (value_said e)
