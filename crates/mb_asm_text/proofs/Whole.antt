-- The tokens of a cut together.
use Rattle.std.proofs.Common.{◌≡◌, ℕ, ◌≤◌, ◌<◌, List, [], ◌∷◌, ◌++◌, length, drop, sym, ◌∙◌, ap, arith, append_assoc}
use Rattle.std.specs.Prelude.{All, Ok, flat_map}
use Rattle.std.specs.List.{AllPairs}
use Rattle.std.proofs.lemmas.List.Elements.{All-nil, All-cons}
use Rattle.std.proofs.lemmas.List.Kept.{AllPairs-cons}
use Rattle.std.proofs.lemmas.List.Concat.{flat_map-cons}
use Rattle.std.proofs.lemmas.List.Folds.{drop_split}
use Rattle.std.proofs.lemmas.List.{append-nil, drop_all}
use Rattle.mb_asm_text.specs.declared.token.Token.{Token}
use Rattle.mb_asm_text.specs.Cut.{Cuts, IsCut, IsLongest, text_of}
use Rattle.mb_asm_text.proofs.Places.{token_some}

each_longest : (line : List ℕ) (from : ℕ) (tokens : List Token) (to : ℕ) → Cuts line from tokens to → All (IsLongest line) tokens
each_longest line from [] to cut = All-nil (IsLongest line)
each_longest line from (token ∷ tokens) to cut = All-cons (IsLongest line) token tokens cut.1 (each_longest line token.end tokens to cut.2)

from_on : (line : List ℕ) (from : ℕ) (tokens : List Token) (to bound : ℕ) → bound ≤ from → Cuts line from tokens to
    → All (λ token. bound ≤ token.start) tokens
from_on line from [] to bound h cut = All-nil (λ token. bound ≤ token.start)
from_on line from (token ∷ tokens) to bound h cut =
    All-cons (λ (t : Token). bound ≤ t.start) token tokens (omega (arith, cut.0))
    (from_on line token.end tokens to bound (omega (arith, cut.0, token_some line token cut.1.here)) cut.2)

starts_ascend : (line : List ℕ) (from : ℕ) (tokens : List Token) (to : ℕ) → Cuts line from tokens to
    → AllPairs (λ earlier later. earlier.start < later.start) tokens
starts_ascend line from [] to cut = λ i j d h k. absurd (omega arith)
starts_ascend line from (token ∷ tokens) to cut =
    AllPairs-cons (λ (earlier later : Token). earlier.start < later.start) token tokens
    (λ i d h. omega (arith, token_some line token cut.1.here, from_on line token.end tokens to token.end (omega arith) cut.2 i d h))
    (starts_ascend line token.end tokens to cut.2)

left_of : (line : List ℕ) (from : ℕ) (tokens : List Token) (to : ℕ) → Cuts line from tokens to
    → drop from line ≡ flat_map (text_of line) tokens ++ drop to line
left_of line from [] to cut = ap (λ (n : ℕ). drop n line) cut
left_of line from (token ∷ tokens) to cut =
    ap (λ (n : ℕ). drop n line) (sym cut.0)
    ∙ (drop_split line token.start token.end (omega (arith, token_some line token cut.1.here))
    ∙ (ap (λ (rest : List ℕ). text_of line token ++ rest) (left_of line token.end tokens to cut.2)
    ∙ (sym (append_assoc (text_of line token) (flat_map (text_of line) tokens) (drop to line))
    ∙ ap (λ (front : List ℕ). front ++ drop to line) (sym (flat_map-cons (text_of line) token tokens)))))

pub all_longest : (line : List ℕ) (tokens : List Token) → IsCut line (Ok tokens) → All (IsLongest line) tokens
all_longest line tokens cut = each_longest line 0 tokens (length line) cut

pub all_ascend : (line : List ℕ) (tokens : List Token) → IsCut line (Ok tokens) → AllPairs (λ earlier later. earlier.start < later.start) tokens
all_ascend line tokens cut = starts_ascend line 0 tokens (length line) cut

pub all_joined : (line : List ℕ) (tokens : List Token) → IsCut line (Ok tokens) → flat_map (text_of line) tokens ≡ line
all_joined line tokens cut =
    let whole = left_of line 0 tokens (length line) cut in
    let none : drop (length line) line ≡ [] = drop_all (length line) line (omega arith) in
    sym (append-nil (flat_map (text_of line) tokens)) ∙ (ap (λ (rest : List ℕ). flat_map (text_of line) tokens ++ rest) (sym none) ∙ sym whole)
