-- Numbers have no part in an operand's form and length.
use Rattle.std.proofs.Common.{◌≡◌, ℕ, List, [], ◌∷◌, map, Option, Some, None, Ok, Err, refl}
use Rattle.std.specs.Prelude.{ℤ, if◌then◌else◌, option_map, option_and_then}
use Rattle.mb_instr.specs.declared.size.Size.{Size}
use Rattle.mb_syntax.specs.declared.mode.Displacement.{Displacement}
use Rattle.mb_syntax.specs.declared.mode.FullForm.{FullForm}
use Rattle.mb_syntax.specs.declared.mode.Indirection.{Indirection}
use Rattle.mb_syntax.specs.declared.mode.Indirection.TheVariants.{Direct, PreIndexed, PostIndexed}
use Rattle.mb_syntax.specs.declared.mode.Mode.{Mode}
use Rattle.mb_syntax.specs.declared.mode.Mode.TheVariants as mode
use Rattle.mb_syntax.specs.declared.operand.Operand.{Operand}
use Rattle.mb_syntax.specs.declared.operand.Operand.TheVariants as operand
use Rattle.mb_syntax.specs.declared.statement.SizeLetter.{SizeLetter}
use Rattle.mb_mnemonics.specs.declared.pattern.Pattern.{Pattern}
use Rattle.mb_mnemonics.specs.declared.pattern.Pattern.TheVariants as pattern
use Rattle.mb_instr.specs.declared.size.Size.TheVariants as size
use Rattle.mb_mnemonics.specs.Sizes.{size_in}
use Rattle.mb_mnemonics.specs.declared.line.Line.{Line}
use Rattle.mb_mnemonics.specs.Lines.{lines, patterns_of}
use Rattle.mb_mnemonics.specs.Modes.{displacement_words, outer_of, mode_words}
use Rattle.mb_mnemonics.specs.Operands.{takes_mode, takes_field, takes_operand, takes_operands, operand_words, operands_words}
use Rattle.mb_mnemonics.specs.Values.{valued_displacement, valued_form, valued_mode, valued}
use Rattle.mb_mnemonics.specs.Means.{size_by, form_by, form_among, form_of, length_of_form, length_by}

takes_mode_same : {E : Type 0} (f g : E → ℤ) (p : Pattern) (s : Size) (m : Mode E)
    → takes_mode p s (valued_mode f m) ≡ takes_mode p s (valued_mode g m)
takes_mode_same f g p s (mode.Displaced n e) =
    elim p as (λ q. takes_mode q s (mode.Displaced n (f e)) ≡ takes_mode q s (mode.Displaced n (g e))) [ pattern.Mode class ↦ refl | _ ↦ refl ]
takes_mode_same f g p s (mode.Indexed n e i) =
    elim p as (λ q. takes_mode q s (mode.Indexed n (f e) i) ≡ takes_mode q s (mode.Indexed n (g e) i)) [ pattern.Mode class ↦ refl | _ ↦ refl ]
takes_mode_same f g p s (mode.Absolute e w) =
    elim p as (λ q. takes_mode q s (mode.Absolute (f e) w) ≡ takes_mode q s (mode.Absolute (g e) w)) [ pattern.Mode class ↦ refl | _ ↦ refl ]
takes_mode_same f g p s (mode.PcDisplaced e) =
    elim p as (λ q. takes_mode q s (mode.PcDisplaced (f e)) ≡ takes_mode q s (mode.PcDisplaced (g e))) [ pattern.Mode class ↦ refl | _ ↦ refl ]
takes_mode_same f g p s (mode.PcIndexed e i) =
    elim p as (λ q. takes_mode q s (mode.PcIndexed (f e) i) ≡ takes_mode q s (mode.PcIndexed (g e) i)) [ pattern.Mode class ↦ refl | _ ↦ refl ]
takes_mode_same f g p s (mode.Full t) =
    elim p as (λ q. takes_mode q s (mode.Full (valued_form f t)) ≡ takes_mode q s (mode.Full (valued_form g t))) [ pattern.Mode class ↦ refl | _ ↦ refl ]
takes_mode_same f g p s (mode.Immediate e) =
    elim p as (λ q. takes_mode q s (mode.Immediate (f e)) ≡ takes_mode q s (mode.Immediate (g e))) [ pattern.Mode class ↦ refl | _ ↦ refl ]
takes_mode_same f g p s _ = refl

takes_field_same : {E : Type 0} (f g : E → ℤ) (p : Pattern) (s : Size) (m : Mode E)
    → takes_field p s (valued_mode f m) ≡ takes_field p s (valued_mode g m)
takes_field_same f g p s (mode.Displaced n e) =
    elim p as (λ q. takes_field q s (mode.Displaced n (f e)) ≡ takes_field q s (mode.Displaced n (g e))) [ pattern.Mode class ↦ refl | _ ↦ refl ]
takes_field_same f g p s (mode.Indexed n e i) =
    elim p as (λ q. takes_field q s (mode.Indexed n (f e) i) ≡ takes_field q s (mode.Indexed n (g e) i)) [ pattern.Mode class ↦ refl | _ ↦ refl ]
takes_field_same f g p s (mode.Absolute e w) =
    elim p as (λ q. takes_field q s (mode.Absolute (f e) w) ≡ takes_field q s (mode.Absolute (g e) w)) [ pattern.Mode class ↦ refl | _ ↦ refl ]
takes_field_same f g p s (mode.PcDisplaced e) =
    elim p as (λ q. takes_field q s (mode.PcDisplaced (f e)) ≡ takes_field q s (mode.PcDisplaced (g e))) [ pattern.Mode class ↦ refl | _ ↦ refl ]
takes_field_same f g p s (mode.PcIndexed e i) =
    elim p as (λ q. takes_field q s (mode.PcIndexed (f e) i) ≡ takes_field q s (mode.PcIndexed (g e) i)) [ pattern.Mode class ↦ refl | _ ↦ refl ]
takes_field_same f g p s (mode.Full t) =
    elim p as (λ q. takes_field q s (mode.Full (valued_form f t)) ≡ takes_field q s (mode.Full (valued_form g t))) [ pattern.Mode class ↦ refl | _ ↦ refl ]
takes_field_same f g p s (mode.Immediate e) =
    elim p as (λ q. takes_field q s (mode.Immediate (f e)) ≡ takes_field q s (mode.Immediate (g e))) [ pattern.Mode class ↦ refl | _ ↦ refl ]
takes_field_same f g p s _ = refl

takes_same : {E : Type 0} (f g : E → ℤ) (p : Pattern) (s : Size) (o : Operand E)
    → takes_operand p s (valued f o) ≡ takes_operand p s (valued g o)
takes_same f g p s (operand.Mode m) = takes_mode_same f g p s m
takes_same f g p s (operand.Field m b) = takes_field_same f g p s m
takes_same f g p s _ = refl

takes_all_same : {E : Type 0} (f g : E → ℤ) (ps : List Pattern) (s : Size) (os : List (Operand E))
    → takes_operands ps s (map (valued f) os) ≡ takes_operands ps s (map (valued g) os)
takes_all_same f g [] s [] = refl
takes_all_same f g [] s (o ∷ os) = refl
takes_all_same f g (p ∷ ps) s [] = refl
takes_all_same f g (p ∷ ps) s (o ∷ os) = rw (takes_same f g p s o, takes_all_same f g ps s os) refl

displacement_same : {E : Type 0} (f g : E → ℤ) (d : Option (Displacement E))
    → displacement_words (option_map (valued_displacement f) d) ≡ displacement_words (option_map (valued_displacement g) d)
displacement_same f g None = refl
displacement_same f g (Some d) = refl

outer_words_same : {E : Type 0} (f g : E → ℤ) (i : Indirection) (d : Option (Displacement E))
    → displacement_words (elim i [ Direct ↦ None | PreIndexed ↦ option_map (valued_displacement f) d | PostIndexed ↦ option_map (valued_displacement f) d ])
    ≡ displacement_words (elim i [ Direct ↦ None | PreIndexed ↦ option_map (valued_displacement g) d | PostIndexed ↦ option_map (valued_displacement g) d ])
outer_words_same f g Direct d = refl
outer_words_same f g PreIndexed d = displacement_same f g d
outer_words_same f g PostIndexed d = displacement_same f g d

outer_same : {E : Type 0} (f g : E → ℤ) (t : FullForm E)
    → displacement_words (outer_of (valued_form f t)) ≡ displacement_words (outer_of (valued_form g t))
outer_same f g t = outer_words_same f g t.indirection t.outer

mode_words_same : {E : Type 0} (f g : E → ℤ) (s : Size) (m : Mode E)
    → mode_words s (valued_mode f m) ≡ mode_words s (valued_mode g m)
unfolding mode_words
mode_words_same f g s (mode.Full t) = rw (displacement_same f g t.displacement, outer_same f g t) refl
mode_words_same f g s (mode.Displaced n e) = refl
mode_words_same f g s (mode.Indexed n e i) = refl
mode_words_same f g s (mode.Absolute e w) = refl
mode_words_same f g s (mode.PcDisplaced e) = refl
mode_words_same f g s (mode.PcIndexed e i) = refl
mode_words_same f g s (mode.Immediate e) = refl
mode_words_same f g s _ = refl

distance_words : (reach s : Size) (o t : Operand ℤ) → operand_words (pattern.Distance reach) s o ≡ operand_words (pattern.Distance reach) s t
distance_words size.Long s o t = refl
distance_words _ s o t = refl

target_words : (reach s : Size) (o t : Operand ℤ) → operand_words (pattern.Target reach) s o ≡ operand_words (pattern.Target reach) s t
target_words size.Long s o t = refl
target_words _ s o t = refl

pub operand_words_same : {E : Type 0} (f g : E → ℤ) (p : Pattern) (s : Size) (o : Operand E)
    → operand_words p s (valued f o) ≡ operand_words p s (valued g o)
operand_words_same f g p s (operand.Mode m) =
    elim p as (λ q. operand_words q s (operand.Mode (valued_mode f m)) ≡ operand_words q s (operand.Mode (valued_mode g m))) [
      | pattern.Mode class ↦ mode_words_same f g s m
      | pattern.Destination class ↦ mode_words_same f g s m
      | pattern.Memory class ↦ mode_words_same f g s m
      | pattern.Distance reach ↦ distance_words reach s (operand.Mode (valued_mode f m)) (operand.Mode (valued_mode g m))
      | pattern.Target reach ↦ target_words reach s (operand.Mode (valued_mode f m)) (operand.Mode (valued_mode g m))
      | _ ↦ refl
    ]
operand_words_same f g p s (operand.Field m b) =
    elim p as (λ q. operand_words q s (valued f (operand.Field m b)) ≡ operand_words q s (valued g (operand.Field m b))) [
      | pattern.FieldMode class ↦ mode_words_same f g s m
      | pattern.Distance reach ↦ distance_words reach s (valued f (operand.Field m b)) (valued g (operand.Field m b))
      | pattern.Target reach ↦ target_words reach s (valued f (operand.Field m b)) (valued g (operand.Field m b))
      | _ ↦ refl
    ]
operand_words_same f g p s _ = refl

operands_words_same : {E : Type 0} (f g : E → ℤ) (ps : List Pattern) (s : Size) (os : List (Operand E))
    → operands_words ps s (map (valued f) os) ≡ operands_words ps s (map (valued g) os)
operands_words_same f g [] s [] = refl
operands_words_same f g [] s (o ∷ os) = refl
operands_words_same f g (p ∷ ps) s [] = refl
operands_words_same f g (p ∷ ps) s (o ∷ os) = rw (operand_words_same f g p s o, operands_words_same f g ps s os) refl

size_by_same : {E : Type 0} (f g : E → ℤ) (l : Line) (letter : Option SizeLetter) (os : List (Operand E))
    → size_by l letter (map (valued f) os) ≡ size_by l letter (map (valued g) os)
size_by_same f g l letter os = elim (size_in l.sizes letter) as (λ o.
    option_and_then (λ s. if takes_operands (patterns_of l.operands) s (map (valued f) os) then Some s else None) o
    ≡ option_and_then (λ s. if takes_operands (patterns_of l.operands) s (map (valued g) os) then Some s else None) o) [
      | None ↦ refl
      | Some s ↦ rw (takes_all_same f g (patterns_of l.operands) s os) refl
    ]

form_by_same : {E : Type 0} (f g : E → ℤ) (l : Line) (name : List ℕ) (letter : Option SizeLetter) (os : List (Operand E))
    → form_by l name letter (map (valued f) os) ≡ form_by l name letter (map (valued g) os)
form_by_same f g l name letter os = rw (size_by_same f g l letter os) refl

form_among_same : {E : Type 0} (f g : E → ℤ) (ls : List Line) (name : List ℕ) (letter : Option SizeLetter) (os : List (Operand E))
    → form_among ls name letter (map (valued f) os) ≡ form_among ls name letter (map (valued g) os)
form_among_same f g [] name letter os = refl
form_among_same f g (l ∷ ls) name letter os =
    rw (form_by_same f g l name letter os, form_among_same f g ls name letter os) refl

pub form_of_same : {E : Type 0} (f g : E → ℤ) (name : List ℕ) (letter : Option SizeLetter) (os : List (Operand E))
    → form_of name letter (map (valued f) os) ≡ form_of name letter (map (valued g) os)
form_of_same f g name letter os = rw (form_among_same f g lines name letter os) refl

pub length_by_same : {E : Type 0} (f g : E → ℤ) (name : List ℕ) (letter : Option SizeLetter) (os : List (Operand E))
    → length_by name letter (map (valued f) os) ≡ length_by name letter (map (valued g) os)
length_by_same f g name letter os = rw (form_of_same f g name letter os) (elim (form_of name letter (map (valued g) os)) as (λ r.
    length_of_form r (map (valued f) os) ≡ length_of_form r (map (valued g) os)) [
      | Err e ↦ refl
      | Ok t ↦ rw (operands_words_same f g (patterns_of t.line.operands) t.size os) refl
    ])
