-- What user mode sees of the processor, as numbers, and the sum over those of steps that were carried out.
use Rattle.std.specs.Prelude.{◌≡◌, ℕ, ◌+◌, ◌*◌, ◌%◌, ◌^◌, ◌<◌, List, [], ◌∷◌, ◌++◌, length}
use Rattle.mb_instr.specs.declared.registers.Plain.{Plain}

-- the numbers of registers: D0 to D7, A0 to A7, PC and CCR
abbrev pub numbers_of : Plain → List ℕ
numbers_of p = p.d ++ p.a ++ p.pc ∷ p.ccr ∷ []

-- the sum with one more number
abbrev pub sum_with : ℕ → ℕ → ℕ
sum_with t x = (31 * t + x) % 2 ^ 64

abbrev pub sum_with_all : ℕ → List ℕ → ℕ
sum_with_all t [] = t
sum_with_all t (x ∷ xs) = sum_with_all (sum_with t x) xs

-- The trail: the sum with the marks of steps, which are of each the registers at its beginning and then those at its
-- end.
unfoldable pub trail : ℕ → List Plain → ℕ
trail t [] = t
trail t (p ∷ marks) = trail (sum_with_all t (numbers_of p)) marks

-- ---- in base 31

-- the number that these are the digits of, in base 31 and the highest first
abbrev pub spelled : List ℕ → ℕ
spelled [] = 0
spelled (x ∷ xs) = x * 31 ^ length xs + spelled xs

-- the sum with the eighteen numbers of registers at once, by what they spell
abbrev pub with_spelled : ℕ → ℕ → ℕ
with_spelled t spelling = (t * 31 ^ 18 + spelling) % 2 ^ 64

abbrev pub HasNumbers : Plain → Type 0
HasNumbers p = length (numbers_of p) ≡ 18

-- The trail with the marks of a step is two products and two sums. What its end spells is what the next step's
-- beginning spells, where no register changed between them.
abbrev pub TrailsBySpelling : Type 0
TrailsBySpelling = (t : ℕ) (before after : Plain) → HasNumbers before → HasNumbers after → t < 2 ^ 64
    → trail t (before ∷ after ∷ [])
    ≡ with_spelled (with_spelled t (spelled (numbers_of before))) (spelled (numbers_of after))
