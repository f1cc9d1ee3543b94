-- Cuts of a line.
use Rattle.std.proofs.Common.{◌≡◌, ℕ, List, [], ◌∷◌, ◌++◌, length, refl, sym, ◌∙◌, ap, arith, subst}
use Rattle.std.specs.Prelude.{IsTrue, Result, Ok, Err}
use Rattle.mb_asm_text.specs.declared.token.Token.{Token}
use Rattle.mb_asm_text.specs.Cut.{Cuts, IsCut, IsLongest, NoneBegins, text_of, where_in}
use Rattle.mb_asm_text.specs.Kinds.{is_token}
use Rattle.mb_asm_text.proofs.OneKind.{one_kind}
use Rattle.mb_asm_text.specs.declared.token.TokenKind.{TokenKind}
use Rattle.mb_asm_text.specs.declared.fault.LexFault.{LexFault}
use Rattle.mb_asm_text.specs.declared.fault.LexFault.TheVariants.{Memory, At}
use Rattle.mb_asm_text.specs.Answers.{IsAnswer, Tells}
use Rattle.mb_asm_text.proofs.Places.{token_some}

-- one more token behind a cut
pub cut_pushed : (line : List ℕ) (from : ℕ) (tokens : List Token) (place : ℕ) (token : Token) → Cuts line from tokens place → token.start ≡ place
    → IsLongest line token → Cuts line from (tokens ++ token ∷ []) token.end
cut_pushed line from [] place token cut start longest = (start ∙ sym cut, longest, refl)
cut_pushed line from (first ∷ tokens) place token cut start longest = (cut.0, cut.1, cut_pushed line first.end tokens place token cut.2 start longest)

abbrev pub token_by : TokenKind → ℕ → ℕ → Token
token_by kind start end = record { kind = kind; start = start; end = end }

spelled_at : (line : List ℕ) (kind : TokenKind) (start end place last : ℕ) → start ≡ place → end ≡ last
    → IsTrue (is_token kind (where_in line (token_by kind start end)) (text_of line (token_by kind start end)))
    → IsTrue (is_token kind (where_in line (token_by kind place last)) (text_of line (token_by kind place last)))
spelled_at line kind start end place last e f h =
    subst (λ (n : ℕ). IsTrue (is_token kind (where_in line (token_by kind place n)) (text_of line (token_by kind place n)))) f
    (subst (λ (n : ℕ). IsTrue (is_token kind (where_in line (token_by kind n end)) (text_of line (token_by kind n end)))) e h)

same_parts : (kind other : TokenKind) (start place end last : ℕ) → kind ≡ other → start ≡ place → end ≡ last
    → token_by kind start end ≡ token_by other place last
same_parts kind other start place end last e f g = cc

joined : (token first : Token) (tokens others : List Token) → token ≡ first → tokens ≡ others → token ∷ tokens ≡ first ∷ others
joined token first tokens others e f = cc

same_token : (line : List ℕ) (one other : Token) → IsLongest line one → IsLongest line other → one.start ≡ other.start → one ≡ other
same_token line one other h k e =
    let end : one.end ≡ other.end = omega (arith, h.longest other k.here (sym e), k.longest one h.here e) in
    let there = spelled_at line other.kind other.start other.end one.start one.end (sym e) (sym end) k.here.spelled in
    let kind : one.kind ≡ other.kind = one_kind one.kind other.kind (where_in line one) (text_of line one) h.here.spelled there in
    same_parts one.kind other.kind one.start other.start one.end other.end kind e end

-- no token begins at the line's end
none_at_end : (line : List ℕ) → NoneBegins line (length line)
none_at_end line token is e = omega (arith, token_some line token is, is.inside)

pub record Same (tokens others : List Token) (to end : ℕ) : Type 0 where
  pub tokens_same : tokens ≡ others
  pub to_same : to ≡ end

-- two cuts that go on as far as tokens begin are one
same_cut : (line : List ℕ) (from : ℕ) (tokens others : List Token) (to end : ℕ) → Cuts line from tokens to → Cuts line from others end → NoneBegins line to
    → NoneBegins line end → Same tokens others to end
same_cut line from [] [] to end cut other none never = record { tokens_same = refl; to_same = sym cut ∙ other }
same_cut line from [] (token ∷ others) to end cut other none never = absurd (none token other.1.here (other.0 ∙ cut))
same_cut line from (token ∷ tokens) [] to end cut other none never = absurd (never token cut.1.here (cut.0 ∙ other))
same_cut line from (token ∷ tokens) (first ∷ others) to end cut other none never =
    let same : token ≡ first = same_token line token first cut.1 other.1 (cut.0 ∙ sym other.0) in
    let rest = same_cut line token.end tokens others to end cut.2 (subst (λ (t : Token). Cuts line t.end others end) (sym same) other.2) none never in
    record { tokens_same = joined token first tokens others same rest.tokens_same; to_same = rest.to_same }

-- a line has one cut
pub one_cut : (line : List ℕ) (one other : Result (List Token) ℕ) → IsCut line one → IsCut line other → one ≡ other
one_cut line (Ok tokens) (Ok others) h k = ap Ok (same_cut line 0 tokens others (length line) (length line) h k (none_at_end line)
    (none_at_end line)).tokens_same
one_cut line (Ok tokens) (Err end) h k = absurd (omega (
  arith,
  k.0,
  (same_cut line 0 tokens k.2.0 (length line) end h k.2.1 (none_at_end line) k.1).to_same,
))
one_cut line (Err to) (Ok others) h k = absurd (omega (arith, h.0, (same_cut line 0 h.2.0 others to (length line) h.2.1 k h.1 (none_at_end line)).to_same))
one_cut line (Err to) (Err end) h k = ap Err (same_cut line 0 h.2.0 k.2.0 to end h.2.1 k.2.1 h.1 k.1).to_same

-- what was returned tells the cut
pub cut_told : (line : List ℕ) (answer : Result (List Token) LexFault) → IsAnswer line answer → (cut : Result (List Token) ℕ) → IsCut line cut
    → Tells answer cut
cut_told line (Ok found) h cut k = one_cut line cut (Ok found) k h
cut_told line (Err Memory) h cut k = tt
cut_told line (Err (At place)) h cut k = one_cut line cut (Err place) k h
