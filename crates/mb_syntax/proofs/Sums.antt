-- The terms of an expression, one by one.
use Rattle.std.proofs.Common.{◌≡◌, List, [], ◌∷◌, ◌++◌, refl, sym, ◌∙◌, ap, append_assoc, append-nil}
use Rattle.std.specs.Prelude.{Bool, true, false, Option, Some, None, option_map}
use Rattle.mb_syntax.specs.Code.{next_term}
use Rattle.mb_syntax.specs.declared.word.Word.{Word}
use Rattle.mb_syntax.specs.declared.word.Word.TheVariants as word
use Rattle.mb_syntax.specs.declared.expression.Term.{Term}
use Rattle.mb_syntax.specs.declared.expression.SignedTerm.{SignedTerm}
use Rattle.mb_syntax.specs.Sums.{before, signed, term_of, terms_at, with_front}

-- what is read where the next term is so
abbrev pub goes_on : List Word → Option (Option (SignedTerm × List Word)) → Option (List SignedTerm × List Word)
goes_on words None = None
goes_on words (Some None) = Some ([], words)
goes_on words (Some (Some found)) = with_front (found.0 ∷ []) (terms_at found.1)

read_term : (negative : Bool) (term : Option Term) (words rest : List Word) → before negative term (terms_at rest)
    ≡ goes_on words (option_map Some (option_map (λ (x : Term). (signed negative x, rest)) term))
read_term negative None words rest = refl
read_term negative (Some term) words rest = refl

-- reading goes on behind the next term
terms_step : (words : List Word) → terms_at words ≡ goes_on words (next_term words)
terms_step [] = refl
terms_step (word.Plus ∷ []) = refl
terms_step (word.Plus ∷ next ∷ rest) = read_term false (term_of next) (word.Plus ∷ next ∷ rest) rest
terms_step (word.Minus ∷ []) = refl
terms_step (word.Minus ∷ next ∷ rest) = read_term true (term_of next) (word.Minus ∷ next ∷ rest) rest
terms_step _ = refl

fronts : (terms : List SignedTerm) (term : SignedTerm) (later : Option (List SignedTerm × List Word))
    → with_front (terms ++ term ∷ []) later ≡ with_front terms (with_front (term ∷ []) later)
fronts terms term None = refl
fronts terms term (Some (more, rest)) = ap (λ (all : List SignedTerm). Some (all, rest)) (append_assoc terms (term ∷ []) more)

-- with a term more in front, what is left to read gives the same
pub pushed : (terms : List SignedTerm) (words : List Word) (term : SignedTerm) (rest : List Word) → Some (Some (term, rest)) ≡ next_term words
    → with_front (terms ++ term ∷ []) (terms_at rest) ≡ with_front terms (terms_at words)
pushed terms words term rest next =
    fronts terms term (terms_at rest) ∙ ap (with_front terms) (ap (goes_on words) next ∙ sym (terms_step words))

no_more : (terms : List SignedTerm) (words : List Word) → with_front terms (Some ([], words)) ≡ Some (terms, words)
no_more terms words = ap (λ (all : List SignedTerm). Some (all, words)) (append-nil terms)

-- no term follows
pub ended : (terms : List SignedTerm) (words : List Word) → Some None ≡ next_term words → with_front terms (terms_at words) ≡ Some (terms, words)
ended terms words next = ap (with_front terms) (terms_step words ∙ ap (goes_on words) (sym next)) ∙ no_more terms words

-- no term stands behind a sign
pub failed : (terms : List SignedTerm) (words : List Word) → None ≡ next_term words → with_front terms (terms_at words) ≡ None
failed terms words next = ap (with_front terms) (terms_step words ∙ ap (goes_on words) (sym next))
