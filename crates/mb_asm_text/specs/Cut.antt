-- The cut of a line: from the left, the longest token first.
use Rattle.std.specs.Prelude.{◌≡◌, ◌≢◌, ℕ, ◌==◌, ◌<◌, ◌≤◌, IsTrue, List, [], ◌∷◌, length, slice_range, Result, Ok, Err}
use Rattle.mb_asm_text.specs.declared.token.Token.{Token}
use Rattle.mb_asm_text.specs.Kinds.{Where, is_token}

-- the slice of the line where the token stands
abbrev pub text_of : List ℕ → Token → List ℕ
text_of line token = slice_range line token.start token.end

-- Column 1 is place 0.
abbrev pub where_in : List ℕ → Token → Where
where_in line token = record { first = token.start == 0; last = token.end == length line }

-- The token lies in the line, and its bytes are a token of its kind.
pub record IsToken (line : List ℕ) (token : Token) : Type 0 where
  pub inside : token.end ≤ length line
  pub spelled : IsTrue (is_token token.kind (where_in line token) (text_of line token))

-- It is a token, and none that begins at its place is longer.
pub record IsLongest (line : List ℕ) (token : Token) : Type 0 where
  pub here : IsToken line token
  pub longest : (other : Token) → IsToken line other → other.start ≡ token.start → other.end ≤ token.end

-- no token begins at the place
abbrev pub NoneBegins : List ℕ → ℕ → Type 0
NoneBegins line place = (token : Token) → IsToken line token → token.start ≢ place

-- The tokens cut the line from one place to another: each begins where the one before it ends, and is the longest.
abbrev pub Cuts : List ℕ → ℕ → List Token → ℕ → Type 0
Cuts line from [] to = from ≡ to
Cuts line from (token ∷ tokens) to = (token.start ≡ from) × IsLongest line token × Cuts line token.end tokens to

-- The whole line is cut into these tokens, or the cut reaches a place in the line at which no token begins.
abbrev pub IsCut : List ℕ → Result (List Token) ℕ → Type 0
IsCut line (Ok tokens) = Cuts line 0 tokens (length line)
IsCut line (Err place) =
    (place < length line) × NoneBegins line place × ((tokens : List Token) × Cuts line 0 tokens place)
