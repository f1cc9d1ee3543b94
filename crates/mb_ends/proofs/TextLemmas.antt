-- Texts for each of a list, one after the other.
use Rattle.std.proofs.Common.{◌≡◌, ◌∙◌, ℕ, zero, suc, ◌+◌, ◌-◌, ◌++◌, List, [], ◌∷◌, length, take, drop, sym, ap, subst, append_assoc, arith, Option, Some, Result, Ok, Err}
use Rattle.std.specs.Prelude.{slice_get}
use Rattle.std.proofs.lemmas.List.{append-nil, take-append-drop}
use Rattle.mb_outside.specs.Prints.{Printed, PrintedPart, Prints}
use Rattle.mb_outside.proofs.PrintLemmas.{part_more, part_then, printed_then}
use Rattle.mb_words.specs.Words.{Text}
use Rattle.mb_ends.specs.Texts.{texts_from}

-- a text behind one that was printed
pub printed_before : {E T : Type 0} (r : Result T E) (a b c : Option Text) (s t u : ℕ) (x y : Text) → Printed a b s t x → Prints b c t u y r
    → Prints a c s u (x ++ y) r
printed_before (Ok done) a b c s t u x y p q = printed_then p q
printed_before (Err e) a b c s t u x y p q = part_then p q

-- a text that is another's
pub printed_as : {a b : Option Text} {s t : ℕ} {x y : Text} → x ≡ y → Printed a b s t x → Printed a b s t y
printed_as {a} {b} {s} {t} same p = subst (λ (text : Text). Printed a b s t text) same p

pub cut_as : {a b : Option Text} {s t : ℕ} {x y : Text} → x ≡ y → PrintedPart a b s t x → PrintedPart a b s t y
cut_as {a} {b} {s} {t} same p = subst (λ (text : Text). PrintedPart a b s t text) same p

-- the text of one more
one_more : {A : Type 0} (f : ℕ → A → Text) (i k : ℕ) (xs : List A) (x : A) → slice_get xs k ≡ Some x
    → texts_from f i (take (suc k) xs) ≡ texts_from f i (take k xs) ++ f (i + k) x
one_more f i k [] x is = absurd cc
one_more f i zero (y ∷ ys) x is =
    let same : y ≡ x = cc in
    let here : i ≡ i + 0 = omega arith in
    append-nil (f i y) ∙ ap (λ z. f i z) same ∙ ap (λ n. f n x) here
one_more f i (suc k) (y ∷ ys) x is =
    let here : (i + 1) + k ≡ i + suc k = omega arith in
    ap (λ (rest : Text). f i y ++ rest) (one_more f (i + 1) k ys x is ∙ ap (λ n. texts_from f (i + 1) (take k ys) ++ f n x) here)
    ∙ sym (append_assoc (f i y) (texts_from f (i + 1) (take k ys)) (f (i + suc k) x))

pub texts_more : {A : Type 0} (f : ℕ → A → Text) (k : ℕ) (xs : List A) (x : A) → slice_get xs k ≡ Some x
    → texts_from f 1 (take (k + 1) xs) ≡ texts_from f 1 (take k xs) ++ f (k + 1) x
texts_more f k xs x is =
    let next : k + 1 ≡ suc k = omega arith in
    let number : 1 + k ≡ k + 1 = omega arith in
    ap (λ n. texts_from f 1 (take n xs)) next ∙ one_more f 1 k xs x is ∙ ap (λ n. texts_from f 1 (take k xs) ++ f n x) number

-- the texts of those behind others
texts_behind : {A : Type 0} (f : ℕ → A → Text) (i : ℕ) (xs ys : List A) → texts_from f i (xs ++ ys) ≡ texts_from f i xs ++ texts_from f (i + length xs) ys
texts_behind f i [] ys =
    let here : i ≡ i + 0 = omega arith in
    ap (λ n. texts_from f n ys) here
texts_behind f i (x ∷ xs) ys =
    let here : (i + 1) + length xs ≡ i + suc (length xs) = omega arith in
    ap (λ (rest : Text). f i x ++ rest) (texts_behind f (i + 1) xs ys ∙ ap (λ n. texts_from f (i + 1) xs ++ texts_from f n ys) here)
    ∙ sym (append_assoc (f i x) (texts_from f (i + 1) xs) (texts_from f (i + suc (length xs)) ys))

texts_whole : {A : Type 0} (f : ℕ → A → Text) (n : ℕ) (xs : List A)
    → texts_from f 1 xs ≡ texts_from f 1 (take n xs) ++ texts_from f (1 + length (take n xs)) (drop n xs)
texts_whole f n xs = ap (λ ys. texts_from f 1 ys) (sym (take-append-drop n xs)) ∙ texts_behind f 1 (take n xs) (drop n xs)

-- the one of a number that counts from 1
pub at_place : {A : Type 0} (k : ℕ) (xs : List A) (x : A) → slice_get xs (k + 1 - 1) ≡ Some x → slice_get xs k ≡ Some x
at_place k xs x is =
    let same : k ≡ k + 1 - 1 = omega arith in
    ap (λ n. slice_get xs n) same ∙ is

-- one more text is printed behind those of others
pub printed_more : {A : Type 0} {a b c : Option Text} {s t u : ℕ} (f : ℕ → A → Text) (k : ℕ) (xs : List A) (x : A) → slice_get xs (k + 1 - 1) ≡ Some x
    → Printed a b s t (texts_from f 1 (take k xs)) → Printed b c t u (f (k + 1) x) → Printed a c s u (texts_from f 1 (take (k + 1) xs))
printed_more f k xs x is p q = rw (texts_more f k xs x (at_place k xs x is)) (printed_then p q)

-- or a part of it, which is a part of all
pub cut_more : {A : Type 0} {a b c : Option Text} {s t u : ℕ} (f : ℕ → A → Text) (k : ℕ) (xs : List A) (x : A) → slice_get xs (k + 1 - 1) ≡ Some x
    → Printed a b s t (texts_from f 1 (take k xs)) → PrintedPart b c t u (f (k + 1) x) → PrintedPart a c s u (texts_from f 1 xs)
cut_more f k xs x is p q =
    rw (texts_whole f (k + 1) xs, texts_more f k xs x (at_place k xs x is))
    (part_more (texts_from f (1 + length (take (k + 1) xs)) (drop (k + 1) xs)) (part_then p q))
