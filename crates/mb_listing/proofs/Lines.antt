-- The lines of a listing, one by one.
use Rattle.std.proofs.Common.{◌≡◌, ◌∙◌, ℕ, zero, suc, ◌+◌, ◌-◌, ◌*◌, ◌≤◌, List, [], ◌∷◌, ◌++◌, length, refl, sym, ap}
use Rattle.std.proofs.Common.{arith}
use Rattle.std.proofs.lemmas.List.{append-nil, append_assoc}
use Rattle.std.proofs.lemmas.Bool.{eqb-false, eqb-true}
use Rattle.std.specs.Prelude.{◌==◌, Bool, true, false}
use Rattle.mb_listing.specs.Listing.{Line, line_at, line_text, lines_of, listing, words_at}

-- The first lines are listed, and those behind them begin at the place.
abbrev pub GoesOn : List ℕ → ℕ → ℕ → ℕ → Type 0
GoesOn ram at lines place = (more : ℕ) → listing ram at (lines + more) ≡ listing ram at lines ++ listing ram place more

pub begins : (ram : List ℕ) (at : ℕ) → GoesOn ram at 0 at
unfolding lines_of
begins ram at more = let e : 0 + more ≡ more = omega arith in rw e refl

pub no_lines : (ram : List ℕ) (at : ℕ) → listing ram at 0 ≡ []
unfolding lines_of
no_lines ram at = refl

-- The line at the place, by the words that stand there.
pub record IsNext (ram : List ℕ) (at lines place : ℕ) (words : List ℕ) (line : Line) : Type 0 where
  pub goes_on : GoesOn ram at lines place
  pub read : words ≡ words_at ram place
  pub some : 1 ≤ length words
  pub said : line ≡ line_at place words

-- by the words as the code has them
pub is_next : (ram : List ℕ) (at lines place : ℕ) (words items : List ℕ) (line : Line) (is_empty : Bool)
    → GoesOn ram at lines place → words ≡ items → items ≡ words_at ram place → is_empty ≡ (length items == 0)
    → is_empty ≡ false → line ≡ line_at place words → IsNext ram at lines place words line
is_next ram at lines place words items line is_empty h w i e f l =
    let some : length items ≡ 0 → ⊥ = eqb-false (length items) 0 (sym e ∙ f) in
    let same : length words ≡ length items = ap length w in
    record { goes_on = h; read = w ∙ i; some = omega arith; said = l }

-- the address behind a line at the place
abbrev pub behind : ℕ → Line → ℕ
behind place line = place + 2 * length line.words

first_line : (ram : List ℕ) (more at first : ℕ) (others : List ℕ) → words_at ram at ≡ first ∷ others
    → listing ram at (suc more)
    ≡ line_text (line_at at (first ∷ others)) ++ listing ram (behind at (line_at at (first ∷ others))) more
unfolding lines_of
first_line ram more at first others e = rw e refl

line_first : (ram : List ℕ) (more at : ℕ) (words : List ℕ) (line : Line) → words_at ram at ≡ words → 1 ≤ length words
    → line ≡ line_at at words → listing ram at (suc more) ≡ line_text line ++ listing ram (behind at line) more
line_first ram more at [] line w p l = absurd (omega arith)
line_first ram more at (first ∷ others) line w p l = rw l (first_line ram more at first others w)

module _ {ram : List ℕ} {at lines place : ℕ} {words : List ℕ} {line : Line} (h : IsNext ram at lines place words line) where
  text_first : (more : ℕ) → listing ram place (suc more) ≡ line_text line ++ listing ram (behind place line) more
  text_first more = line_first ram more place words line (sym h.read) h.some h.said

  pub one_more : listing ram at (lines + 1) ≡ listing ram at lines ++ line_text line
  one_more =
      h.goes_on 1
      ∙ ap (λ (text : List ℕ). listing ram at lines ++ text) (text_first 0)
      ∙ ap (λ (text : List ℕ). listing ram at lines ++ (line_text line ++ text)) (no_lines ram (behind place line))
      ∙ ap (λ (text : List ℕ). listing ram at lines ++ text) (append-nil (line_text line))

  pub goes_on : GoesOn ram at (lines + 1) (behind place line)
  goes_on more =
      let e : lines + 1 + more ≡ lines + suc more = omega arith in
      rw e (h.goes_on (suc more)
      ∙ ap (λ (text : List ℕ). listing ram at lines ++ text) (text_first more)
      ∙ sym (append_assoc (listing ram at lines) (line_text line) (listing ram (behind place line) more))
      ∙ ap (λ (text : List ℕ). text ++ listing ram (behind place line) more) (sym one_more))

  -- what was made is longer by it
  pub made_more : (made text : List ℕ) → made ≡ listing ram at lines → text ≡ line_text line
      → made ++ text ≡ listing ram at (lines + 1)
  made_more made text m t = rw (m, t) (sym one_more)

-- nothing is left where memory ends
ended : (ram : List ℕ) (more at : ℕ) → words_at ram at ≡ [] → listing ram at more ≡ []
unfolding lines_of
ended ram zero at e = refl
ended ram (suc more) at e = rw e refl

no_words : (ram : List ℕ) (place : ℕ) (words : List ℕ) → words ≡ words_at ram place → (length words == 0) ≡ true
    → words_at ram place ≡ []
no_words ram place [] w e = sym w
no_words ram place (first ∷ others) w e =
    let none : length (first ∷ others) ≡ 0 = eqb-true (length (first ∷ others)) 0 e in absurd (omega arith)

pub no_more : (ram : List ℕ) (at lines place count : ℕ) (words : List ℕ) (is_empty : Bool) → GoesOn ram at lines place
    → lines ≤ count → words ≡ words_at ram place → is_empty ≡ (length words == 0) → is_empty ≡ true
    → listing ram at count ≡ listing ram at lines
no_more ram at lines place count words is_empty h p w e t =
    let n : count ≡ lines + (count - lines) = omega arith in
    let left = ended ram (count - lines) place (no_words ram place words w (sym e ∙ t)) in
    rw n (h (count - lines)
    ∙ ap (λ (text : List ℕ). listing ram at lines ++ text) left
    ∙ append-nil (listing ram at lines))
