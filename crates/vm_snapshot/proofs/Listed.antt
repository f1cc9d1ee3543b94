-- A count, and what is listed behind it.
use Rattle.std.proofs.Common.{◌≡◌, ℕ, ◌≤◌, ◌<◌, ◌%◌, ◌^◌, leb, eqb, true, false, List, refl, ap, subst, ◌∙◌, arith}
use Rattle.std.specs.Prelude.{Result, Ok, Err, IfOk}
use Rattle.std.proofs.lemmas.Bool.{le-leb, eq-eqb}
use Rattle.mb_spelling.specs.Spelling.{Reading, Read, Short, Wrong, Spelling, mapped, followed, read_word, behind}
use Rattle.mb_spelling.specs.Decimals.{Range, from_to, is_decimal, is_in, ranged}
use Rattle.mb_spelling.specs.Laws.{Says, Spells}
use Rattle.mb_spelling.specs.Lists.{listed}
use Rattle.mb_spelling.specs.Reads.{Reads}
use Rattle.mb_spelling.specs.declared.stop.Stop.{Stop}
use Rattle.mb_spelling.proofs.Ranges.{in_parts, ranged_spells}

pub second_of : {A B : Type 0} (a : A) (r : Reading B) → mapped (λ (v : A × B). v.1) (mapped (λ b. (a, b)) r) ≡ r
second_of a (Read b rest) = refl
second_of a Short = refl
second_of a (Wrong rest) = refl

within : {B : Type 0} (x : Reading ℕ) (more : ℕ → List ℕ → Reading B)
    → mapped (λ (v : Unit {0} × B). v.1) (mapped (λ b. (tt, b)) (mapped (λ (v : ℕ × B). v.1) (followed x more)))
    ≡ mapped (λ (v : ℕ × B). v.1) (followed (mapped (λ (v : Unit {0} × ℕ). v.1) (mapped (λ b. (tt, b)) x)) more)
within (Read n rest) more = second_of tt (mapped (λ v. v.1) (mapped (λ b. (n, b)) (more n rest)))
within Short more = refl
within (Wrong rest) more = refl

pub one_behind : {B : Type 0} (word : Reading (Unit {0})) (number : List ℕ → Reading ℕ) (more : ℕ → List ℕ → Reading B)
    → mapped (λ (v : Unit {0} × B). v.1) (followed word (λ v rest. mapped (λ (v : ℕ × B). v.1) (followed (number rest) more)))
    ≡ mapped (λ (v : ℕ × B). v.1) (followed (mapped (λ (v : Unit {0} × ℕ). v.1) (followed word (λ v rest. number rest))) more)
one_behind (Read v rest) number more = within (number rest) more
one_behind Short number more = refl
one_behind (Wrong rest) number more = refl

listed_is : {A : Type 0} (front : List ℕ) (r : Range) (end : ℕ) (list : ℕ → Spelling (List A)) (text : List ℕ)
    → (behind front (listed r end list)).read text
    ≡ mapped (λ (v : ℕ × List A). v.1) (followed ((behind front (ranged r end)).read text) (λ n rest. (list n).read rest))
listed_is front r end list text = one_behind (read_word front text) (ranged r end).read (λ n rest. (list n).read rest)

pub listed_then : {A : Type 0} (front : List ℕ) (r : Range) (end : ℕ) (list : ℕ → Spelling (List A)) (text left : List ℕ) (n : ℕ)
    → (behind front (ranged r end)).read text ≡ Read n left → (behind front (listed r end list)).read text ≡ (list n).read left
listed_then front r end list text left n e =
    listed_is front r end list text
    ∙ (ap (λ (x : Reading ℕ). mapped (λ v. v.1) (followed x (λ n rest. (list n).read rest))) e ∙ second_of n ((list n).read left))

in_from : (least most n : ℕ) → least ≤ n → n ≤ most → is_in (from_to least most) n ≡ true
in_from least most n above below =
    let low : leb least n ≡ true = le-leb _ _ above in
    let high : leb n most ≡ true = le-leb _ _ below in
    let whole : eqb (n % 1) 0 ≡ true = eq-eqb _ _ (omega arith) in
    rw (low, high, whole) refl

pub in_range : (least most end : ℕ) (text : List ℕ) (n : ℕ) (left : List ℕ) → least ≤ most → most < 2 ^ 64 → is_decimal end ≡ false
    → (ranged (from_to least most) end).read text ≡ Read n left → least ≤ n
in_range least most end text n left some fits apart e =
    let r = from_to least most in
    let spells : Spells (ranged r end) = ranged_spells r end least (omega arith) fits apart (in_from least most least (omega arith) some) in
    let said : Says (ranged r end) text (Read n left) = subst (λ (x : Reading ℕ). Says (ranged r end) text x) e (spells.says text) in
    (in_parts r n said.0).0

pub least_read : (r : Result ℕ Stop) (least most : ℕ) (text left : List ℕ) → least ≤ most → Reads (λ n. n) r left ((ranged (from_to least most) 10).read text)
    → most < 2 ^ 64 → IfOk r (λ n. least ≤ n)
least_read (Ok n) least most text left some e fits = in_range least most 10 text n left some fits refl e
least_read (Err why) least most text left some e fits = tt
