-- No operation that has a line in the table of mnemonics is a directive.
use Rattle.std.proofs.Common.{◌≡◌, ℕ, Bool, true, false, List, [], ◌∷◌, length, take, drop, refl, sym, ap, ◌∙◌}
use Rattle.std.specs.Prelude.{nat_lt, not, ◌||◌, Option, Some, None, Ok, is_some, if◌then◌else◌}
use Rattle.std.specs.Prelude.{ℤ}
use Rattle.std.specs.Str.{bytes_eq, str_eq_ignore_ascii_case, str_to_ascii_lowercase}
use Rattle.std.specs.Char.{to_ascii_lowercase}
use Rattle.std.specs.List.{list_all}
use Rattle.std.proofs.lemmas.List.{length-map, take-map, drop-map}
use Rattle.std.proofs.lemmas.Slice.Eq.{bytes_eq-Decides}
use Rattle.mb_instr.specs.declared.instruction.Instr.{Instr}
use Rattle.mb_instr.specs.declared.kinds.Condition.{Condition}
use Rattle.mb_syntax.specs.declared.statement.SizeLetter.{SizeLetter}
use Rattle.mb_syntax.specs.declared.operand.Operand.{Operand}
use Rattle.mb_syntax.specs.Tables.{found_in}
use Rattle.mb_mnemonics.specs.declared.endings.NameOf.{NameOf}
use Rattle.mb_mnemonics.specs.declared.line.Line.{Line}
use Rattle.mb_mnemonics.specs.Lines.{condition_by, condition_in, endings, lines, same_letters, stem_of}
use Rattle.mb_mnemonics.specs.Means.{is_named, meaning}
use Rattle.mb_mnemonics.proofs.Names.{unnamed}
use Rattle.mb_asm.specs.Directives.{directives}
use Rattle.mb_statement.proofs.Lexemes.{both}
use Rattle.mb_statement.proofs.Spelled.{not_true}

-- ---- names that differ in the case of their letters alone have the same lines

module _ (a b : List ℕ) (alike : str_to_ascii_lowercase a ≡ str_to_ascii_lowercase b) where
  as_long : length a ≡ length b
  as_long = sym (length-map a to_ascii_lowercase) ∙ ap length alike ∙ length-map b to_ascii_lowercase

  fronts_alike : (n : ℕ) → str_to_ascii_lowercase (take n a) ≡ str_to_ascii_lowercase (take n b)
  fronts_alike n = sym (take-map to_ascii_lowercase n a) ∙ ap (take n) alike ∙ take-map to_ascii_lowercase n b

  ends_alike : (n : ℕ) → str_to_ascii_lowercase (drop n a) ≡ str_to_ascii_lowercase (drop n b)
  ends_alike n = sym (drop-map to_ascii_lowercase n a) ∙ ap (drop n) alike ∙ drop-map to_ascii_lowercase n b

  same_front : (stem : List ℕ) (n : ℕ) → same_letters stem (take n a) ≡ same_letters stem (take n b)
  same_front stem n = ap (bytes_eq (str_to_ascii_lowercase stem)) (fronts_alike n)

  same_ending : (ns : List NameOf) (n : ℕ) → condition_in ns (drop n a) ≡ condition_in ns (drop n b)
  same_ending [] n = refl
  same_ending (name ∷ ns) n =
      let text = stem_of name.name in
      let first : same_letters text (drop n a) ≡ same_letters text (drop n b) = ap (bytes_eq (str_to_ascii_lowercase text)) (ends_alike n) in
      ap (λ (test : Bool). if test then Some name.condition else condition_in ns (drop n a)) first
      ∙ ap (λ (rest : Option Condition). if same_letters text (drop n b) then Some name.condition else rest) (same_ending ns n)

  same_condition : (l : Line) → condition_by l a ≡ condition_by l b
  same_condition l =
      let stem = stem_of l.stem in
      let n = length stem in
      ap (λ (m : ℕ). if nat_lt m n then None else (if same_letters stem (take n a) then condition_in (endings l.ending) (drop n a) else None)) as_long
      ∙ ap (λ (test : Bool). if nat_lt (length b) n then None else (if test then condition_in (endings l.ending) (drop n a) else None)) (same_front stem n)
      ∙ ap (λ (c : Option Condition). if nat_lt (length b) n then None else (if same_letters stem (take n b) then c else None))
      (same_ending (endings l.ending) n)

  same_named : (ls : List Line) → is_named ls a ≡ is_named ls b
  same_named [] = refl
  same_named (l ∷ ls) =
      ap (λ (c : Option Condition). is_some c || is_named ls a) (same_condition l)
      ∙ ap (λ (rest : Bool). is_some (condition_by l b) || rest) (same_named ls)

-- ---- directives have no line

other_by : (key name : List ℕ) (b : Bool) → str_eq_ignore_ascii_case key name ≡ b → is_named lines key ≡ false → is_named lines name ≡ true → b ≡ false
other_by key name true e k n =
    let alike : str_to_ascii_lowercase key ≡ str_to_ascii_lowercase name = (bytes_eq-Decides (str_to_ascii_lowercase key) (str_to_ascii_lowercase name)).0 e in
    absurd (let f : false ≡ true = sym k ∙ same_named key name alike lines ∙ n in cc)
other_by key name false e k n = refl

-- names of rows that no line of the table has
abbrev are_unnamed : {A : Type 0} → List (List ℕ × A) → Bool
are_unnamed rows = list_all (λ row. not (is_named lines row.0)) rows

none_found : {A : Type 0} (rows : List (List ℕ × A)) (name : List ℕ) → are_unnamed rows ≡ true → is_named lines name ≡ true → found_in rows name ≡ None
none_found [] name h n = refl
none_found ((key, value) ∷ rows) name h n =
    let parts = both (not (is_named lines key)) (are_unnamed rows) h in
    let test = other_by key name (str_eq_ignore_ascii_case key name) refl (not_true (is_named lines key) parts.0) n in
    ap (λ (b : Bool). if b then Some value else found_in rows name) test ∙ none_found rows name parts.1 n

directives_unnamed : are_unnamed directives ≡ true
unfolding lines
directives_unnamed = refl

named_by : (name : List ℕ) (letter : Option SizeLetter) (os : List (Operand ℤ)) (at : ℕ) (i : Instr) (b : Bool) → is_named lines name ≡ b
    → meaning name letter os at ≡ Ok i → b ≡ true
named_by name letter os at i true e m = refl
named_by name letter os at i false e m = absurd (let u = unnamed name letter os at e in cc)

-- the name of a statement that means an instruction is no directive
pub no_directive : (name : List ℕ) (letter : Option SizeLetter) (os : List (Operand ℤ)) (at : ℕ) (i : Instr) → meaning name letter os at ≡ Ok i
    → found_in directives name ≡ None
no_directive name letter os at i m = none_found directives name directives_unnamed (named_by name letter os at i (is_named lines name) refl m)
