-- Lines as lists of lexemes: how they are cut and what they say.
use Rattle.std.proofs.Common.{◌≡◌, ℕ, zero, suc, ◌+◌, ◌-◌, ◌≤◌, ◌<◌, Bool, true, false, List, [], ◌∷◌, ◌++◌, length, drop, refl, sym, ap, ◌∙◌, arith}
use Rattle.std.proofs.Common.{append_assoc, append-nil}
use Rattle.std.specs.Prelude.{◌==◌, ◌&&◌, not, Some, Ok, All}
use Rattle.std.specs.List.{flat_map}
use Rattle.std.proofs.Math.Seq.{take-append_seam, drop-append_seam}
use Rattle.std.proofs.lemmas.Bool.{eq-eqb, ne_eqb}
use Rattle.std.proofs.lemmas.List.{length-append, drop-drop}
use Rattle.std.proofs.lemmas.List.Elements.{All-head, All-tail}
use Rattle.mb_asm_text.specs.declared.token.Token.{Token}
use Rattle.mb_asm_text.specs.declared.token.TokenKind.{TokenKind}
use Rattle.mb_asm_text.specs.declared.token.TokenKind.TheVariants as kind
use Rattle.mb_asm_text.specs.Kinds.{is_blank, is_hexadecimal_digit, is_name_part}
use Rattle.mb_asm_text.specs.Cut.{text_of}
use Rattle.mb_asm_text.specs.Cutting.{front_found, cut_from}
use Rattle.mb_syntax.specs.declared.word.Name.{Name}
use Rattle.mb_syntax.specs.declared.word.Word.{Word}
use Rattle.mb_syntax.specs.Words.{word_of, words_of, place_of}
use Rattle.mb_asm_text.proofs.Cuts.{token_by}

-- bytes that are one token of a kind, and the word that it says at a place
pub record Lexeme : Type 0 where
  pub bytes : List ℕ
  pub kind : TokenKind
  pub word : Name → Word

-- what stands behind does not go on with bytes of a class
abbrev pub ends_run : (ℕ → Bool) → List ℕ → Bool
ends_run p [] = true
ends_run p (byte ∷ _) = not (p byte)

-- or with a token of a kind
abbrev pub ends : TokenKind → List ℕ → Bool
ends kind.Name rest = ends_run is_name_part rest
ends kind.Number rest = ends_run is_hexadecimal_digit rest
ends kind.Blank rest = ends_run is_blank rest
ends _ rest = true

-- bytes that end no line
abbrev pub ArePlain : List ℕ → Type 0
ArePlain bytes = All (λ c. 13 < c) bytes

-- it is found where it stands, but for the line's beginning, and says its word
pub record IsLexeme (l : Lexeme) : Type 0 where
  pub some : 0 < length l.bytes
  pub plain : ArePlain l.bytes
  pub found : (rest : List ℕ) → ends l.kind rest ≡ true → front_found false (l.bytes ++ rest) ≡ Some (l.kind, length l.bytes)
  pub says : (line : List ℕ) (token : Token) → text_of line token ≡ l.bytes → token.kind ≡ l.kind
      → word_of line token ≡ Some (l.word (place_of token))

abbrev pub spelled : List Lexeme → List ℕ
spelled ls = flat_map (λ (l : Lexeme). l.bytes) ls

-- each ends where the next one begins, and the last one where the rest does
abbrev pub are_parted : List Lexeme → List ℕ → Bool
are_parted [] rest = true
are_parted (l ∷ ls) rest = ends l.kind (spelled ls ++ rest) && are_parted ls rest

abbrev pub tokens_at : ℕ → List Lexeme → List Token
tokens_at place [] = []
tokens_at place (l ∷ ls) = token_by l.kind place (place + length l.bytes) ∷ tokens_at (place + length l.bytes) ls

-- what lexemes from a place on say, before other words
abbrev pub said : List Lexeme → ℕ → List Word → List Word
said [] place behind = behind
said (l ∷ ls) place behind =
    l.word (record { start = place; end = place + length l.bytes }) ∷ said ls (place + length l.bytes) behind

-- ---- the cut

-- the whole line is cut
pub cut_end : (most : ℕ) (line : List ℕ) (place : ℕ) (tokens : List Token) → place ≡ length line → cut_from most line place tokens ≡ Ok tokens
cut_end zero line place tokens e = refl
cut_end (suc most) line place tokens e = rw (eq-eqb place (length line) e) refl

-- the cut goes on behind the token that is found at a place
pub cut_step : (most : ℕ) (line : List ℕ) (place end : ℕ) (tokens : List Token) (kind : TokenKind) (len : ℕ) → place < length line
    → front_found (place == 0) (drop place line) ≡ Some (kind, len) → place + len ≡ end
    → cut_from (suc most) line place tokens ≡ cut_from most line end (tokens ++ token_by kind place end ∷ [])
cut_step most line place end tokens kind len below found e =
    let other : (place == length line) ≡ false = ne_eqb place (length line) (λ same. omega arith) in
    rw (other, found, e) refl

pub both : (a b : Bool) → (a && b) ≡ true → (a ≡ true) × (b ≡ true)
both true b h = (refl, h)
both false b h = absurd cc

-- a line from a place on
pub record Stands (line : List ℕ) (place : ℕ) (ls : List Lexeme) : Type 0 where
  pub left : drop place line ≡ spelled ls
  pub end : place + length (spelled ls) ≡ length line

-- behind a first lexeme
stands_behind : (line : List ℕ) (place : ℕ) (l : Lexeme) (ls : List Lexeme) → Stands line place (l ∷ ls) → Stands line (place + length l.bytes) ls
stands_behind line place l ls s = record {
  left = sym (drop-drop (length l.bytes) place line) ∙ ap (drop (length l.bytes)) s.left ∙ drop-append_seam l.bytes (spelled ls);
  end = let e = s.end in let n = length-append l.bytes (spelled ls) in omega arith;
}

not_first : (place : ℕ) → 0 < place → (place == 0) ≡ false
not_first place some = ne_eqb place 0 (λ same. omega arith)

-- a line that goes on with lexemes is cut into them
pub cut_on : (ls : List Lexeme) (most : ℕ) (line : List ℕ) (place : ℕ) (tokens : List Token) → All IsLexeme ls → are_parted ls [] ≡ true
    → 0 < place → length ls ≤ most → Stands line place ls → cut_from most line place tokens ≡ Ok (tokens ++ tokens_at place ls)
cut_on [] most line place tokens lexemes parted some enough s =
    let here : place ≡ length line = (let e = s.end in omega arith) in
    cut_end most line place tokens here ∙ ap Ok (sym (append-nil tokens))
cut_on (l ∷ ls) zero line place tokens lexemes parted some enough s = absurd (omega arith)
cut_on (l ∷ ls) (suc most) line place tokens lexemes parted some enough s =
    let first : IsLexeme l = All-head IsLexeme l ls lexemes in
    let parts = both (ends l.kind (spelled ls ++ [])) (are_parted ls []) parted in
    let apart : ends l.kind (spelled ls) ≡ true = ap (ends l.kind) (sym (append-nil (spelled ls))) ∙ parts.0 in
    let long : length (l.bytes ++ spelled ls) ≡ length l.bytes + length (spelled ls) = length-append l.bytes (spelled ls) in
    let below : place < length line = (let e = s.end in let f = first.some in omega arith) in
    let found : front_found (place == 0) (drop place line) ≡ Some (l.kind, length l.bytes) =
    rw (not_first place some, s.left) (first.found (spelled ls) apart) in
    cut_step most line place (place + length l.bytes) tokens l.kind (length l.bytes) below found refl
    ∙ cut_on ls most line (place + length l.bytes) (tokens ++ token_by l.kind place (place + length l.bytes) ∷ []) (All-tail IsLexeme l ls lexemes)
    parts.1 (omega arith) (omega arith) (stands_behind line place l ls s)
    ∙ ap Ok (append_assoc tokens (token_by l.kind place (place + length l.bytes) ∷ []) (tokens_at (place + length l.bytes) ls))

-- ---- the words

token_text : (line : List ℕ) (place : ℕ) (l : Lexeme) (ls : List Lexeme) → Stands line place (l ∷ ls)
    → text_of line (token_by l.kind place (place + length l.bytes)) ≡ l.bytes
token_text line place l ls s =
    let count : place + length l.bytes - place ≡ length l.bytes = omega arith in
    rw (count, s.left) (take-append_seam l.bytes (spelled ls))

-- they say their words
pub words_on : (ls : List Lexeme) (line : List ℕ) (place : ℕ) → All IsLexeme ls → Stands line place ls
    → words_of line (tokens_at place ls) ≡ said ls place []
words_on [] line place lexemes s = refl
words_on (l ∷ ls) line place lexemes s =
    let first : IsLexeme l = All-head IsLexeme l ls lexemes in
    let token = token_by l.kind place (place + length l.bytes) in
    let here : word_of line token ≡ Some (l.word (place_of token)) = first.says line token (token_text line place l ls s) refl in
    let later = words_on ls line (place + length l.bytes) (All-tail IsLexeme l ls lexemes) (stands_behind line place l ls s) in
    rw (here, later) refl
