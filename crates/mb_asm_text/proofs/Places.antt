-- Tokens of a line by what is left of it at their place.
use Rattle.std.proofs.Common.{◌≡◌, ℕ, zero, suc, ◌+◌, ◌-◌, ◌≤◌, ◌<◌, Bool, true, false, List, ◌∷◌, length, take, drop, refl, sym, ◌∙◌, ap, arith, length-drop, drop-cons, add-one, get_or}
use Rattle.std.proofs.lemmas.List.{take_all}
use Rattle.std.specs.Prelude.{◌==◌}
use Rattle.std.proofs.lemmas.Bool.{eqb-true, eqb-false}
use Rattle.mb_asm_text.specs.declared.token.Token.{Token}
use Rattle.mb_asm_text.specs.declared.token.TokenKind.{TokenKind}
use Rattle.mb_asm_text.specs.Cut.{IsToken, IsLongest, NoneBegins, where_in}
use Rattle.mb_asm_text.specs.Front.{IsFront, IsLongestFront, HasNoFront}
use Rattle.mb_asm_text.proofs.Shapes.{none_empty}

same_by : (a b c d : ℕ) (left right : Bool) → (a == b) ≡ left → (c == d) ≡ right → (a ≡ b → c ≡ d) → (c ≡ d → a ≡ b) → left ≡ right
same_by a b c d true true e f there back = refl
same_by a b c d false false e f there back = refl
same_by a b c d true false e f there back = absurd (eqb-false c d f (there (eqb-true a b e)))
same_by a b c d false true e f there back = absurd (eqb-false a b e (back (eqb-true c d f)))

same_test : (a b c d : ℕ) → (a ≡ b → c ≡ d) → (c ≡ d → a ≡ b) → (a == b) ≡ (c == d)
same_test a b c d there back = same_by a b c d (a == b) (c == d) refl refl there back

some_by : (line : List ℕ) (token : Token) (len : ℕ) → token.end - token.start ≡ len → IsToken line token → token.start < token.end
some_by line token (suc len) e is = omega arith
some_by line token zero e is =
    absurd (none_empty token.kind (where_in line token) (rw e at is.spelled))

-- a token is not empty
pub token_some : (line : List ℕ) (token : Token) → IsToken line token → token.start < token.end
token_some line token is = some_by line token (token.end - token.start) refl is

at_end : (line : List ℕ) (start end : ℕ) → start < end → end ≤ length line → (end == length line) ≡ (end - start == length (drop start line))
at_end line start end some inside =
    let left : length (drop start line) ≡ length line - start = length-drop start line in
    same_test end (length line) (end - start) (length (drop start line)) (λ e. omega arith) (λ e. omega arith)

pub front_of : (line : List ℕ) (token : Token) → IsToken line token
    → IsFront (token.start == 0) (drop token.start line) token.kind (token.end - token.start)
front_of line token is =
    let some = token_some line token is in
    record {
      inside = omega (arith, length-drop token.start line, is.inside);
      spelled = rw (← at_end line token.start token.end some is.inside) is.spelled;
    }

pub token_of : (line : List ℕ) (kind : TokenKind) (start len : ℕ) → start < length line → 1 ≤ len → IsFront (start == 0) (drop start line) kind len
    → IsToken line (record { kind = kind; start = start; end = start + len })
token_of line kind start len below some front =
    let inside : start + len ≤ length line = omega (arith, length-drop start line, front.inside) in
    let back : (start + len) - start ≡ len = omega arith in
    record { inside = inside; spelled = rw (at_end line start (start + len) (omega arith) inside, back) front.spelled }

some_front : (whole : Bool) (rest : List ℕ) (kind : TokenKind) (len : ℕ) → IsFront whole rest kind len → 1 ≤ len
some_front whole rest kind zero front = absurd (none_empty kind (record { first = whole; last = 0 == length rest }) front.spelled)
some_front whole rest kind (suc len) front = omega arith

pub token_found : (line : List ℕ) (kind : TokenKind) (start len : ℕ) → start < length line → IsLongestFront (start == 0) (drop start line) kind len
    → IsLongest line (record { kind = kind; start = start; end = start + len })
token_found line kind start len below found = record {
  here = token_of line kind start len below (some_front (start == 0) (drop start line) kind len found.front) found.front;
  longest = λ other is e.
      let front = rw e at (front_of line other is) in
      let most = found.longest other.kind (other.end - start) front in
      omega (arith, most, token_some line other is);
}

pub none_begins : (line : List ℕ) (start : ℕ) → HasNoFront (start == 0) (drop start line) → NoneBegins line start
none_begins line start never token is e = never token.kind (token.end - start) (rw e at (front_of line token is))

-- a place's byte, and what stands behind it
pub left_at : (line : List ℕ) (start : ℕ) → start < length line
    → get_or line start 0 ∷ take (length line - (start + 1)) (drop (start + 1) line) ≡ drop start line
left_at line start below =
    let behind : take (length line - (start + 1)) (drop (start + 1) line) ≡ drop (start + 1) line = take_all (length line - (start + 1))
    (drop (start + 1) line) (omega (arith, length-drop (start + 1) line)) in
    let next : drop (start + 1) line ≡ drop (suc start) line = ap (λ (n : ℕ). drop n line) (add-one start) in
    ap (λ (rest : List ℕ). get_or line start 0 ∷ rest) (behind ∙ next) ∙ sym (drop-cons line start 0 below)
