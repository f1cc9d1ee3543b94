use Rattle.std.proofs.Common.{ap, sym, refl, ◌∙◌, rules, tests, subst}
use Rattle.std.specs.Prelude.{◌≡◌, ◌++◌, List, Option, map, take, Result, Ok, MatchResult}
use Rattle.std.specs.Iterator.{Drains}
use Rattle.std.proofs.lemmas.Iterator.{YieldsList, YieldsList-from_take}
use Rattle.std.proofs.lemmas.Iterator.Adapters.{fact_from_extend}
use Rattle.std.proofs.lemmas.Iterator.Consumers.{YieldsList-at, YieldsList-from_filter}
use Rattle.std.proofs.lemmas.Iterator.Splits.{YieldsList-from_slice_split}
use Rattle.mb_script.specs.Sessions.{is_blank, is_some_word, words_of}
use Rattle.mb_script.specs.Answers.{bytes_said}
use Rattle.mb_script.proofs.session_line.first_words.Goals as goal

at_ok : {A E : Type 0} (P : A → Type 0) (Q : E → Type 0) {r : Result A E} {x : A} → r ≡ Ok x → MatchResult r P Q → P x
at_ok P Q is m = subst (λ r. MatchResult r P Q) is m

-- what an iterator gives until its end is what it yields
drained : {T A C : Type 0} {steps : T → Option A → T → Type 0} {it : T} {all : List C} (v : A → C) (xs : List A) → Drains steps it xs
    → YieldsList steps v it all → map v xs ≡ all
drained {it = it} v xs drains road =
    fact_from_extend {E = Unit {0}} {B = λ i. i ≡ it} {P = λ ys. ys ≡ xs} v (Ok tt) (it, xs, refl, refl, drains) (λ i b. YieldsList-at b road)
    (λ ys e p. ap (map v) (sym p) ∙ e)

pub returns : goal.returns
returns c =
    let ran = c.extend.ensures.ran in
    let drains = at_ok _ _ c.in_ok-extend.was ran.4 in
    let same : map (λ x. x.now) ran.1 ≡ take 6 (words_of c.args.line.now) = drained _ ran.1 drains
    (YieldsList-at ran.2
    (YieldsList-from_take 6
    (YieldsList-at c.take.ensures.source
    (YieldsList-from_filter _ is_some_word
    (YieldsList-at c.filter.ensures.source
    (YieldsList-from_slice_split _ is_blank c.args.line.now c.split.ensures.rest c.split.ensures.done c.split.ensures.closure
    (λ x b q k. search (rules, tests))))
    c.filter.ensures.closure (λ x b q k. search (rules, tests))))
    c.take.ensures.count)) in
    ap (map bytes_said) (ran.3.0 ∙ ap (λ l. l ++ ran.1) c.in_ok-words.ensures.items) ∙ same
