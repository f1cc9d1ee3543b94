-- The image of a text, or its first faulty line.
use Rattle.std.specs.Prelude.{ℕ, ◌+◌, ◌==◌, if◌then◌else◌, List, [], ◌∷◌, ◌++◌, length, Result, Ok}
use Rattle.std.specs.Prelude.{Err}
use Rattle.mb_lines.specs.Lines.{Line, numbered}
use Rattle.mb_lines.specs.Results.{◌>>=◌}
use Rattle.mb_syntax.specs.Lines.{statement_in}
use Rattle.mb_asm.specs.declared.fault.AsmKind.{AsmKind}
use Rattle.mb_asm.specs.Symbols.{Symbol}
use Rattle.mb_asm.specs.Layouts.{Layout, after_line, after_lines, beginning}
use Rattle.mb_asm.specs.Judged.{Laid, judged_line, address_or_zero}

-- The number of a line, and the first kind of fault that it has.
pub record Fault : Type 0 where
  pub number : ℕ
  pub kind : AsmKind

abbrev pub at_line : {A : Type 0} → ℕ → Result A AsmKind → Result A Fault
at_line number (Ok x) = Ok x
at_line number (Err kind) = Err (record { number = number; kind = kind })

-- Chunks so far, whole, and the last one, which goes on as long as no gap is left. It begins with its first byte.
pub record Chunks : Type 0 where
  pub whole : List (ℕ × List ℕ)
  pub at : ℕ
  pub bytes : List ℕ

abbrev pub no_chunks : Chunks
no_chunks = record { whole = []; at = 0; bytes = [] }

-- a chunk with bytes
abbrev pub chunk_of : ℕ → List ℕ → List (ℕ × List ℕ)
chunk_of at [] = []
chunk_of at (byte ∷ bytes) = (at, byte ∷ bytes) ∷ []

abbrev pub all_chunks : Chunks → List (ℕ × List ℕ)
all_chunks chunks = chunks.whole ++ chunk_of chunks.at chunks.bytes

-- the next chunk begins at the address
abbrev pub with_next_chunk : Chunks → ℕ → Chunks
with_next_chunk chunks next = record { whole = all_chunks chunks; at = next; bytes = [] }

-- bytes go on in the last chunk
abbrev pub with_bytes : Chunks → List ℕ → Chunks
with_bytes chunks bytes = record { whole = chunks.whole; at = chunks.at; bytes = chunks.bytes ++ bytes }

-- A gap is left where the address behind a statement is not where its bytes end.
abbrev pub with_laid : Chunks → ℕ → Laid → Chunks
with_laid chunks at laid =
    let more = with_bytes chunks laid.bytes in
    if laid.next == at + length laid.bytes then more else with_next_chunk more laid.next

-- The chunks behind those so far. All lines are judged with the symbols of the whole text.
abbrev pub chunks_from : List Symbol → Layout → Chunks → List Line → Result Chunks Fault
chunks_from symbols layout chunks [] = Ok chunks
chunks_from symbols layout chunks (line ∷ lines) =
    at_line line.number (judged_line symbols layout line.characters (statement_in line.characters)) >>= λ laid.
    chunks_from symbols (after_line layout line) (with_laid chunks (address_or_zero layout.at) laid) lines

-- the symbols of all lines
abbrev pub symbols_of : List Line → List Symbol
symbols_of lines = (after_lines beginning lines).symbols

abbrev pub finished : Result Chunks Fault → Result (List (ℕ × List ℕ)) Fault
finished (Ok chunks) = Ok (all_chunks chunks)
finished (Err fault) = Err fault

-- The image of a text.
abbrev pub assembled : List ℕ → Result (List (ℕ × List ℕ)) Fault
assembled text = finished (chunks_from (symbols_of (numbered text)) beginning no_chunks (numbered text))
