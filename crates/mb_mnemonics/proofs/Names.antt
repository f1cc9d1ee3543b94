-- Which statements have no line's name.
use Rattle.std.proofs.Common.{◌≡◌, ℕ, Bool, true, false, List, [], ◌∷◌, Option, Some, None, Ok, Err, refl}
use Rattle.std.specs.Prelude.{ℤ, ◌||◌, ◌==◌, if◌then◌else◌, is_some, length, ok_or}
use Rattle.mb_instr.specs.declared.instruction.Instr.{Instr}
use Rattle.mb_syntax.specs.declared.operand.Operand.{Operand}
use Rattle.mb_syntax.specs.declared.statement.SizeLetter.{SizeLetter}
use Rattle.mb_decode.specs.declared.front.Decoded.{Decoded}
use Rattle.mb_decode.specs.declared.front.Decoded.TheVariants.{Whole}
use Rattle.mb_decode.specs.Decodes.{decode_of}
use Rattle.mb_mnemonics.specs.declared.fault.MeansFault.{MeansFault}
use Rattle.mb_mnemonics.specs.declared.fault.MeansFault.TheVariants as fault
use Rattle.mb_mnemonics.specs.declared.line.Line.{Line}
use Rattle.mb_mnemonics.specs.Lines.{condition_by, lines}
use Rattle.mb_mnemonics.specs.Means.{Form, form_by, form_among, is_named, said, told, whole, meaning_by, meaning}

pub neither : (a b : Bool) → (a || b) ≡ false → (a ≡ false) × (b ≡ false)
neither true b e = absurd cc
neither false b e = (refl, e)

is_none : {A : Type 0} (o : Option A) → is_some o ≡ false → o ≡ None
is_none None e = refl
is_none (Some x) e = absurd cc

not_by : (l : Line) (name : List ℕ) (letter : Option SizeLetter) (os : List (Operand ℤ))
    → condition_by l name ≡ None → form_by l name letter os ≡ None
not_by l name letter os e = rw e refl

not_among : (ls : List Line) (name : List ℕ) (letter : Option SizeLetter) (os : List (Operand ℤ))
    → is_named ls name ≡ false → form_among ls name letter os ≡ None
not_among [] name letter os e = refl
not_among (l ∷ ls) name letter os e =
    let n = neither (is_some (condition_by l name)) (is_named ls name) e in
    rw (not_by l name letter os (is_none (condition_by l name) n.0)) (not_among ls name letter os n.1)

pub unnamed : (name : List ℕ) (letter : Option SizeLetter) (os : List (Operand ℤ)) (at : ℕ)
    → is_named lines name ≡ false → meaning name letter os at ≡ Err fault.Name
unnamed name letter os at e = rw (not_among lines name letter os e, e) refl

not_so : (b : Bool) (i : Instr) (e : MeansFault) → (e ≡ fault.Operand → ⊥) → (if b then Ok i else Err fault.Operand) ≡ Err e → ⊥
not_so true i e n h = absurd cc
not_so false i e n h = n cc

whole_not : (n : ℕ) (d : Decoded) (e : MeansFault) → (e ≡ fault.Operand → ⊥) → whole n d ≡ Err e → ⊥
whole_not n (Whole i k) e m h = not_so (k == n) i e m h
whole_not n _ e m h = m cc

-- words that are said are no instruction, or are
pub told_in : (words : List ℕ) → told (Some words) ≡ Err fault.Range → ⊥
told_in words h = whole_not (length words) (decode_of words) fault.Range (λ e. absurd cc) h

told_no_name : (o : Option (List ℕ)) → told o ≡ Err fault.Name → ⊥
told_no_name None e = cc
told_no_name (Some words) e = whole_not (length words) (decode_of words) fault.Name (λ x. absurd cc) e

by_name : (o : Option Form) (b : Bool) (os : List (Operand ℤ)) (at : ℕ)
    → meaning_by (ok_or o (if b then fault.Operand else fault.Name)) os at ≡ Err fault.Name → b ≡ false
by_name (Some f) b os at e = absurd (told_no_name (said f os at) e)
by_name None true os at e = absurd cc
by_name None false os at e = refl

pub named_else : (name : List ℕ) (letter : Option SizeLetter) (os : List (Operand ℤ)) (at : ℕ)
    → meaning name letter os at ≡ Err fault.Name → is_named lines name ≡ false
named_else name letter os at e = by_name (form_among lines name letter os) (is_named lines name) os at e
