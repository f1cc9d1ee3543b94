-- The words of the instruction that a statement means are as many as its length says.
use Rattle.std.proofs.Common.{◌≡◌, ℕ, zero, suc, ◌+◌, ◌*◌, ◌%◌, ◌^◌, ◌<◌, ◌≤◌, Bool, true, false, List, [], ◌∷◌, length, take, Option, Some, None}
use Rattle.std.proofs.Common.{Ok, Err, refl, sym, ap, subst, ◌∙◌, arith}
use Rattle.std.specs.Prelude.{ℤ, ◌==◌, nat_le, if◌then◌else◌, ok_or, option_map}
use Rattle.std.specs.List.{list_all}
use Rattle.std.specs.Option.{option_or}
use Rattle.std.proofs.lemmas.Bool.Decides.{nat_tests}
use Rattle.mb_instr.specs.declared.size.Size.{Size}
use Rattle.mb_instr.specs.declared.kinds.Condition.{Condition}
use Rattle.mb_instr.specs.declared.instruction.Instr.{Instr}
use Rattle.mb_instr.specs.Rows.{row}
use Rattle.mb_instr.specs.Codes.{AreWords, words_of}
use Rattle.mb_decode.specs.declared.front.Decoded.{Decoded}
use Rattle.mb_decode.specs.declared.front.Decoded.TheVariants.{Whole}
use Rattle.mb_decode.specs.Decodes.{Decodes, decode_of}
use Rattle.mb_decode.proofs.Table.{decoded}
use Rattle.mb_syntax.specs.declared.operand.Operand.{Operand}
use Rattle.mb_syntax.specs.declared.statement.SizeLetter.{SizeLetter}
use Rattle.mb_mnemonics.specs.declared.fault.MeansFault.{MeansFault}
use Rattle.mb_mnemonics.specs.declared.fault.MeansFault.TheVariants as fault
use Rattle.mb_mnemonics.specs.declared.line.Line.{Line}
use Rattle.mb_mnemonics.specs.Lines.{condition_by, lines, patterns_of}
use Rattle.mb_mnemonics.specs.Means.{Form, first_word, form_among, form_by, form_length, is_named, length_by, length_of_form, meaning, meaning_by, said}
use Rattle.mb_mnemonics.specs.Means.{size_by, told, whole, words_said}
use Rattle.mb_mnemonics.specs.Operands.{in_first, operands_said, operands_words, takes_operands}
use Rattle.mb_mnemonics.specs.Sizes.{size_in}
use Rattle.mb_mnemonics.proofs.ModeWords.{Fits, both_fit, chained, mapped, none_fits, one_fits, if_some}
use Rattle.mb_mnemonics.proofs.OperandWords.{operands_fit}
use Rattle.mb_instr.proofs.Ranges.{and_is}

-- ---- forms

-- a line has at most two words before those of its operands
abbrev is_short : Line → Bool
is_short l = nat_le l.words 2

all_short : list_all is_short lines ≡ true
unfolding lines
all_short = refl

pub le_is : (m n : ℕ) → nat_le m n ≡ true → m ≤ n
le_is m n h = grind (arith, nat_tests)

equal_is : (m n : ℕ) → (m == n) ≡ true → m ≡ n
equal_is m n h = grind (arith, nat_tests)

abbrev pub form_at : Line → Condition → Size → Form
form_at l c s = record { line = l; condition = c; size = s }

-- a form is one of its line's, and takes the operands
record IsForm (f : Form) (os : List (Operand ℤ)) : Type 0 where
  pub short : is_short f.line ≡ true
  pub takes : takes_operands (patterns_of f.line.operands) f.size os ≡ true

or_is : {P : Type 0} (a b : Option Form) (f : Form) → option_or a b ≡ Some f → (a ≡ Some f → P) → (b ≡ Some f → P) → P
or_is None b f h p q = q h
or_is (Some x) b f h p q = p h

line_form : (l : Line) (name : List ℕ) (letter : Option SizeLetter) (os : List (Operand ℤ)) (f : Form)
    → is_short l ≡ true → form_by l name letter os ≡ Some f → IsForm f os
line_form l name letter os f e h =
    let c = chained (λ x. option_map (form_at l x) (size_by l letter os)) (condition_by l name) f h in
    let s = mapped (form_at l c.0) (size_by l letter os) f c.1.1 in
    let z = chained (λ s. if takes_operands (patterns_of l.operands) s os then Some s else None) (size_in l.sizes letter) s.0 s.1.0 in
    let k = if_some (takes_operands (patterns_of l.operands) z.0 os) z.0 s.0 z.1.1 in
    subst (λ y. IsForm y os) s.1.1 (subst (λ y. IsForm (form_at l c.0 y) os) k.1 (record { short = e; takes = k.0 }))

form_is : (ls : List Line) (name : List ℕ) (letter : Option SizeLetter) (os : List (Operand ℤ)) (f : Form)
    → list_all is_short ls ≡ true → form_among ls name letter os ≡ Some f → IsForm f os
form_is [] name letter os f e h = absurd cc
form_is (l ∷ ls) name letter os f e h =
    let a = and_is (is_short l) (list_all is_short ls) e in
    or_is (form_by l name letter os) (form_among ls name letter os) f h
    (λ k. line_form l name letter os f a.0 k) (λ k. form_is ls name letter os f a.1 k)

-- ---- words

front_fits : (n a b : ℕ) → n ≤ 2 → a < 2 ^ 16 → b < 2 ^ 16 → Fits n (take n (a ∷ b ∷ []))
front_fits zero a b h x y = none_fits
front_fits (suc zero) a b h x y = one_fits a x
front_fits (suc (suc zero)) a b h x y = both_fit 1 1 (a ∷ []) (b ∷ []) (one_fits a x) (one_fits b y)
front_fits (suc (suc (suc n))) a b h x y = absurd (omega arith)

form_fits : (f : Form) (os : List (Operand ℤ)) (at : ℕ) (ws : List ℕ) → IsForm f os → said f os at ≡ Some ws
    → Fits (1 + f.line.words + operands_words (patterns_of f.line.operands) f.size os) ws
form_fits f os at ws h e =
    let l = f.line in
    let p = mapped (words_said f) (operands_said (patterns_of l.operands) f.size at ((at + (2 + 2 * l.words)) % 2 ^ 32) os (in_first 0)) ws e in
    let all = operands_fit (patterns_of l.operands) f.size at ((at + (2 + 2 * l.words)) % 2 ^ 32) 0 os (in_first 0) p.0 h.takes
    (record { own = none_fits; third = omega arith }) p.1.0 in
    let second = (l.second + (p.0).second) % 2 ^ 16 in
    let front = front_fits l.words second (p.0).third (le_is l.words 2 h.short) (omega arith) all.third in
    let first = both_fit 1 l.words (first_word f p.0 ∷ []) (take l.words (second ∷ (p.0).third ∷ [])) (one_fits (first_word f p.0) (omega arith)) front in
    let n = operands_words (patterns_of l.operands) f.size os in
    let none : 0 + n ≡ n = omega arith in
    subst (λ x. Fits (1 + l.words + n) x) p.1.1
    (both_fit (1 + l.words) n _ (p.0).own first (subst (λ k. Fits k (p.0).own) none all.own))

-- ---- statements

if_ok : (b : Bool) (i j : Instr) → (if b then Ok i else Err fault.Operand) ≡ Ok j → (b ≡ true) × (i ≡ j)
if_ok true i j e = (refl, cc)
if_ok false i j e = absurd cc

whole_is : (n : ℕ) (d : Decoded) (i : Instr) → whole n d ≡ Ok i → d ≡ Whole i n
whole_is n (Whole j k) i h =
    let x = if_ok (k == n) j i h in
    subst (λ y. Whole j k ≡ Whole y n) x.1 (subst (λ y. Whole j k ≡ Whole j y) (equal_is k n x.0) refl)
whole_is n _ i h = absurd cc

-- words that are decoded as an instruction, all of them, are as many as those that spell it
spelled : (ws : List ℕ) (i : Instr) → AreWords ws → told (Some ws) ≡ Ok i → length ws ≡ length (words_of (row i))
spelled ws i small h =
    let e = whole_is (length ws) (decode_of ws) i h in
    let b : Decodes ws (Whole i (length ws)) = decoded ws (Whole i (length ws)) (sym e) small in
    b.4 ∙ ap length (b.2).words

form_words : (f : Form) (os : List (Operand ℤ)) (at : ℕ) (i : Instr) (o : Option (List ℕ)) → IsForm f os → said f os at ≡ o → told o ≡ Ok i
    → form_length f os ≡ 2 * length (words_of (row i))
form_words f os at i None h e t = absurd cc
form_words f os at i (Some ws) h e t =
    let fit = form_fits f os at ws h e in
    let count = fit.count in
    let same = spelled ws i fit.words t in
    omega arith

by_form : (o : Option Form) (x : MeansFault) (os : List (Operand ℤ)) (at n : ℕ) (i : Instr)
    → ((f : Form) → o ≡ Some f → IsForm f os)
    → length_of_form (ok_or o x) os ≡ Ok n → meaning_by (ok_or o x) os at ≡ Ok i → n ≡ 2 * length (words_of (row i))
by_form None x os at n i h l m = absurd cc
by_form (Some f) x os at n i h l m =
    let k : form_length f os ≡ n = cc in
    sym k ∙ form_words f os at i (said f os at) (h f refl) refl m

pub length_of_words : (name : List ℕ) (letter : Option SizeLetter) (os : List (Operand ℤ)) (at n : ℕ) (i : Instr)
    → length_by name letter os ≡ Ok n → meaning name letter os at ≡ Ok i → n ≡ 2 * length (words_of (row i))
length_of_words name letter os at n i l m =
    by_form (form_among lines name letter os) (if is_named lines name then fault.Operand else fault.Name) os at n i
    (λ f h. form_is lines name letter os f all_short h) l m
