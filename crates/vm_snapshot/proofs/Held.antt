-- What numbers are that may stand.
use Rattle.std.proofs.Common.{◌≡◌, ℕ, zero, suc, ◌+◌, ◌*◌, ◌/◌, ◌%◌, ◌^◌, ◌≤◌, ◌<◌, eqb, true, false, List, [], ◌∷◌, sym, ap, subst, ◌∙◌, arith, inl, inr}
use Rattle.std.specs.Prelude.{Result, Ok, Err, IfOk, All, bit_and}
use Rattle.std.proofs.lemmas.Bool.{cases_Bool, eqb-true}
use Rattle.std.proofs.lemmas.List.Elements.{All-nil, All-cons}
use Rattle.std.proofs.lemmas.Nat.{and_le_r, and_mod}
use Rattle.mb_saved.specs.declared.line.RamLine.{RamLine}
use Rattle.mb_spelling.specs.Hex.{masked}
use Rattle.mb_spelling.specs.Laws.{Says}
use Rattle.mb_spelling.specs.Lists.{LawfulUntil}
use Rattle.mb_spelling.specs.Spelling.{Reading, Read}
use Rattle.mb_spelling.specs.declared.stop.Stop.{Stop}
use Rattle.vm_snapshot.specs.Guests.{bit}
use Rattle.vm_snapshot.specs.Memory.{IsRow, memory, row_lines}
use Rattle.vm_snapshot.proofs.Memory.{memory_spells}

pub masked_is : (mask n : ℕ) → masked mask 0 n ≡ true → bit_and n mask ≡ n
masked_is mask n e =
    let whole : mask / 16 ^ 0 ≡ mask = omega arith in
    ap (bit_and n) (sym whole) ∙ eqb-true _ _ e

pub masked_most : (mask n : ℕ) → masked mask 0 n ≡ true → n ≤ mask
masked_most mask n e = let same = masked_is mask n e in let most = and_le_r n mask in omega (arith, same, most)

pub masked_held : (mask : ℕ) (r : Result ℕ Stop) → IfOk r (λ n. masked mask 0 n ≡ true) → IfOk r (λ n. n ≤ mask)
masked_held mask (Ok n) h = masked_most mask n h
masked_held mask (Err why) h = tt

-- ---- a place in a buffer

four : (n : ℕ) → bit_and n 0x1FC ≡ n → n % 4 ≡ 0
four n e =
    let parted : bit_and n 0x1FC % 2 ^ 2 ≡ bit_and (n % 2 ^ 2) (0x1FC % 2 ^ 2) = and_mod n 0x1FC 2 in
    let least : bit_and (n % 2 ^ 2) 0 ≤ 0 = and_le_r (n % 2 ^ 2) 0 in
    let none : n % 4 ≤ 0 = subst (λ (x : ℕ). x % 4 ≤ 0) e (subst (λ (x : ℕ). x ≤ 0) (sym parted) least) in
    omega (arith, none)

pub place_held : (r : Result ℕ Stop) → IfOk r (λ n. masked 0x1FC 0 n ≡ true) → IfOk r (λ n. (n % 4 ≡ 0) × (n < 512))
place_held (Ok n) h = (four n (masked_is 0x1FC n h), (let most = masked_most 0x1FC n h in omega (arith, most)))
place_held (Err why) h = tt

-- ---- one of two

bit_most : (n : ℕ) → bit 0 n ≡ true → n ≤ 1
bit_most n e = elim (cases_Bool (eqb 0 n)) [
  | inl h ↦ (let same = eqb-true 0 n h in omega (arith, same))
  | inr h ↦ elim (cases_Bool (eqb 1 n)) [
    | inl g ↦ (let same = eqb-true 1 n g in omega (arith, same))
    | inr g ↦ absurd (let contrary : false ≡ true = rw (h, g) at e in cc)
  ]
]

pub bit_held : (r : Result ℕ Stop) → IfOk r (λ n. bit 0 n ≡ true) → IfOk r (λ n. n ≤ 1)
bit_held (Ok n) h = bit_most n h
bit_held (Err why) h = tt

-- ---- lines lie in their memory

pub row_fits : (rows from : ℕ) (line : RamLine) → IsRow rows from line → line.at + 16 ≤ 16 * rows
row_fits rows from line is = let aligned = is.aligned in let inside = is.inside in omega (arith, aligned, inside)

until_fit : (rows most from : ℕ) (lines : List RamLine) → LawfulUntil (row_lines rows) most from lines
    → All (λ (line : RamLine). line.at + 16 ≤ 16 * rows) lines
until_fit rows most from [] l = All-nil _
until_fit rows zero from (line ∷ lines) l = absurd l
until_fit rows (suc most) from (line ∷ lines) l =
    All-cons (λ (line : RamLine). line.at + 16 ≤ 16 * rows) line lines (row_fits rows from line l.1) (until_fit rows most _ lines l.2)

pub lines_fit : (rows : ℕ) (text left : List ℕ) (lines : List RamLine) → rows ≤ 2 ^ 24 → (memory rows).read text ≡ Read lines left
    → All (λ (line : RamLine). line.at + 16 ≤ 16 * rows) lines
lines_fit rows text left lines few e =
    let said : Says (memory rows) text (Read lines left) = subst (λ (r : Reading (List RamLine)). Says (memory rows) text r) e
    ((memory_spells rows few).says text) in
    until_fit rows rows 0 lines said.0
