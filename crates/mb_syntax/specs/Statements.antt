-- Statements: `[label[:]] [name[.size] [operands]]`.
use Rattle.std.specs.Prelude.{ℕ, Bool, List, [], ◌∷◌, length, Option, Some, None, option_map, Result, Ok, Err}
use Rattle.mb_asm_text.specs.declared.token.Token.{Token}
use Rattle.mb_syntax.specs.declared.word.Name.{Name}
use Rattle.mb_syntax.specs.declared.word.Word.{Word}
use Rattle.mb_syntax.specs.declared.word.Word.TheVariants as word
use Rattle.std.specs.Option.{is_some}
use Rattle.mb_syntax.specs.declared.statement.SizeLetter.{SizeLetter}
use Rattle.mb_syntax.specs.declared.operand.Operand.{Operand}
use Rattle.mb_syntax.specs.Options.{◌>>=◌}
use Rattle.mb_syntax.specs.Spans.{bytes_at}
use Rattle.mb_syntax.specs.Tables.{found_in}
use Rattle.mb_syntax.specs.Names.{cache_operations}
use Rattle.mb_syntax.specs.Words.{words_of}
use Rattle.mb_syntax.specs.Sums.{symbol_of}
use Rattle.mb_syntax.specs.Modes.{Sum}
use Rattle.mb_syntax.specs.Operands.{operands_of}

-- An instruction or a directive.
pub record Operation : Type 0 where
  pub name : Name
  pub size : Option SizeLetter
  pub operands : List (Operand Sum)

pub record Statement : Type 0 where
  pub label : Option Name
  pub operation : Option Operation

-- any name
abbrev pub name_of : Word → Option Name
name_of (word.Name name) = Some name
name_of (word.Register _ name) = Some name
name_of (word.Letter _ name) = Some name
name_of (word.Cache _ name) = Some name
name_of _ = None

-- `.B`, `.S`, `.W` or `.L`, which may be left out
abbrev pub size_at : List Word → Option (Option SizeLetter × List Word)
size_at (word.Dot ∷ word.Letter letter _ ∷ words) = Some (Some letter, words)
size_at (word.Dot ∷ _) = None
size_at words = Some (None, words)

-- none, or a blank and operands up to the line's end
abbrev pub operands_behind : Bool → List Word → Option (List (Operand Sum))
operands_behind caches [] = Some []
operands_behind caches (word.Blank ∷ []) = Some []
operands_behind caches (word.Blank ∷ words) = operands_of (length words) caches words
operands_behind caches _ = None

-- whether it is CINV or CPUSH
abbrev pub takes_caches : List ℕ → Bool
takes_caches name = is_some (found_in cache_operations name)

-- an operation whose name stands before the words
abbrev pub operation_named : List ℕ → Name → List Word → Option Operation
operation_named line name words = do
  (size, behind) ← size_at words
  operands ← operands_behind (takes_caches (bytes_at line name)) behind
  Some (record { name = name; size = size; operands = operands })

-- the operation that the words are, up to the line's end; no words are none
abbrev pub operation_of : List ℕ → List Word → Option (Option Operation)
operation_of line [] = Some None
operation_of line (first ∷ words) = name_of first >>= λ name. option_map Some (operation_named line name words)

abbrev pub labelled : Option Name → Option Operation → Statement
labelled label operation = record { label = label; operation = operation }

abbrev pub skip_colon : List Word → List Word
skip_colon (word.Colon ∷ words) = words
skip_colon words = words

-- a label is alone in its line, or a blank parts it from the operation
abbrev pub behind_label : List ℕ → List Word → Option (Option Operation)
behind_label line [] = Some None
behind_label line (word.Blank ∷ words) = operation_of line words
behind_label line _ = None

-- The statement that the words of a line are. A label begins in column 1, and a name never does.
abbrev pub statement_of : List ℕ → List Word → Option Statement
statement_of line [] = Some (labelled None None)
statement_of line (word.Blank ∷ words) = option_map (labelled None) (operation_of line words)
statement_of line (first ∷ words) = do
  label ← symbol_of first
  operation ← behind_label line (skip_colon words)
  Some (labelled (Some label) operation)

-- The statement of a line by its cut into tokens.
abbrev pub statement_cut : List ℕ → Result (List Token) ℕ → Option Statement
statement_cut line (Ok tokens) = statement_of line (words_of line tokens)
statement_cut line (Err _) = None
