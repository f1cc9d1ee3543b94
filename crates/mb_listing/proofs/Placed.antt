-- A statement at an address: what its two lines lay.
use Rattle.std.proofs.Common.{◌≡◌, ℕ, ◌+◌, ◌≤◌, Bool, true, false, min, List, [], ◌∷◌, length, refl, ap, ◌∙◌, arith}
use Rattle.std.specs.Prelude.{ℤ, pos, ◌==◌, ◌||◌, Option, Some, None, Result, Ok, codes}
use Rattle.std.proofs.lemmas.Bool.{le-ltb, eq-eqb, eqb-true}
use Rattle.mb_lines.specs.Lines.{Line}
use Rattle.mb_syntax.specs.Statements as syntax
use Rattle.mb_syntax.specs.Statements.{Operation}
use Rattle.mb_syntax.specs.Lines.{statement_in}
use Rattle.mb_syntax.specs.Tables.{found_in}
use Rattle.mb_asm.specs.declared.fault.AsmKind.{AsmKind}
use Rattle.mb_asm.specs.Directives.{directives}
use Rattle.mb_asm.specs.Symbols.{Symbol}
use Rattle.mb_asm.specs.Values.{Scope, have_flaw}
use Rattle.mb_asm.specs.Extents.{address_behind, behind_directive, behind_instruction, behind_org, directive_in, narrow_value}
use Rattle.mb_asm.specs.Bytes.{directive_bytes, instruction_bytes, operation_bytes}
use Rattle.mb_asm.specs.Layouts.{Layout, after_line, after_statement, beginning, earlier, if_known}
use Rattle.mb_asm.specs.Judged.{Laid, address_or_zero, equ_checked, is_misplaced, judged_by, judged_line}
use Rattle.mb_asm.specs.Judged.{judged_operation, reaches_past, reads_earlier, scope_of, wants_label}
use Rattle.mb_asm.specs.Texts.{Chunks, assembled, chunks_from, finished, no_chunks, symbols_of, with_laid}
use Rattle.mb_statement.specs.Read.{sum_of}
use Rattle.mb_statement.specs.Statements.{Statement}
use Rattle.mb_statement.specs.Texts.{statement_text}
use Rattle.mb_statement.specs.Written.{is_written}
use Rattle.mb_statement.proofs.StatementsRead.{text_read}
use Rattle.mb_listing.specs.Laws.{source_at}
use Rattle.mb_listing.proofs.Numbers.{Flaw, no_flaw, sum_value}
use Rattle.mb_listing.proofs.Sources.{line_of, named, numbered_line, operation_of, org, org_written, source_lines}
use Rattle.mb_statement.proofs.PartsRead.{Domain}

-- what is written, and the address behind it
abbrev pub laid_by : List ℕ → ℕ → Laid
laid_by written next = record { bytes = written; next = next }

-- ---- an operation, by the directive that it is

-- a directive, or none
abbrev pub Found : Type 0
Found = Domain reads_earlier

abbrev org_found : Found
org_found = found_in directives (codes "ORG")

-- the directive of a name
pub directive_by : (s : Statement) (d : Found) → found_in directives s.name ≡ d → directive_in (line_of s) (operation_of s) ≡ d
directive_by s d e = ap (λ (name : List ℕ). found_in directives name) (named s) ∙ e

pub behind_by : (scope : Scope) (op : Operation) (d : Found) → directive_in scope.line op ≡ d
    → address_behind scope op ≡ (elim d [ Some is ↦ behind_directive scope op is | None ↦ behind_instruction scope op ])
unfolding address_behind
behind_by scope op d e =
    ap (λ (x : Found). elim x [ Some is ↦ behind_directive scope op is | None ↦ behind_instruction scope op ]) e

pub bytes_by : (scope : Scope) (op : Operation) (d : Found) → directive_in scope.line op ≡ d
    → operation_bytes scope op ≡ (elim d [ Some is ↦ directive_bytes scope op is | None ↦ instruction_bytes scope op ])
bytes_by scope op d e =
    ap (λ (x : Found). elim x [ Some is ↦ directive_bytes scope op is | None ↦ instruction_bytes scope op ]) e

judged_at : (symbols : List Symbol) (layout : Layout) (line : List ℕ) (op : Operation) (d : Found) (next : Result (Option ℕ) AsmKind)
    → directive_in line op ≡ d → address_behind (earlier layout line) op ≡ next
    → judged_operation symbols layout line None op ≡ judged_by layout line None op d (scope_of symbols layout line d) next
judged_at symbols layout line op d next e n =
    ap (λ (x : Found). judged_by layout line None op x (scope_of symbols layout line x) (address_behind (earlier layout line) op)) e
    ∙ ap (λ (r : Result (Option ℕ) AsmKind). judged_by layout line None op d (scope_of symbols layout line d) r) n

laid_so : (layout : Layout) (line : List ℕ) (op : Operation) (d : Found) (scope : Scope) (end : Option ℕ) (written : List ℕ)
    → wants_label None d ≡ false → ((k : Flaw) → have_flaw k scope op.operands ≡ false) → equ_checked scope op d ≡ Ok tt
    → operation_bytes scope op ≡ Ok written
    → (is_misplaced (address_or_zero scope.at) None d (address_or_zero end) || reaches_past (address_or_zero scope.at) written) ≡ false
    → judged_by layout line None op d scope (Ok end) ≡ Ok (laid_by written (address_or_zero end))
laid_so layout line op d scope end written label names equ bytes place = rw (label, names, equ, bytes, place) refl

-- A statement is judged by its directive, where it stands, and what it writes there.
pub statement_judged : (symbols : List Symbol) (layout : Layout) (s : Statement) (d : Found) (end : Option ℕ) (written : List ℕ)
    → is_written s ≡ true → found_in directives s.name ≡ d → address_behind (earlier layout (line_of s)) (operation_of s) ≡ Ok end
    → wants_label None d ≡ false → equ_checked (scope_of symbols layout (line_of s) d) (operation_of s) d ≡ Ok tt
    → operation_bytes (scope_of symbols layout (line_of s) d) (operation_of s) ≡ Ok written
    → (is_misplaced (address_or_zero (scope_of symbols layout (line_of s) d).at) None d (address_or_zero end)
    || reaches_past (address_or_zero (scope_of symbols layout (line_of s) d).at) written) ≡ false
    → judged_line symbols layout (line_of s) (statement_in (line_of s)) ≡ Ok (laid_by written (address_or_zero end))
statement_judged symbols layout s d end written h found behind label equ bytes place =
    ap (λ (st : Option syntax.Statement). judged_line symbols layout (line_of s) st) (text_read s h)
    ∙ judged_at symbols layout (line_of s) (operation_of s) d (Ok end) (directive_by s d found) behind
    ∙ laid_so layout (line_of s) (operation_of s) d (scope_of symbols layout (line_of s) d) end written label
    (no_flaw (scope_of symbols layout (line_of s) d) s.operands) equ bytes place

-- the value of a number
pub number_narrow : (scope : Scope) (value : ℕ) → narrow_value scope (sum_of (pos value)) ≡ Ok (Some (pos value))
unfolding narrow_value
number_narrow scope value = ap (λ (v : Option ℤ). Ok v) (sum_value scope (pos value))

-- ---- ORG

org_behind : (scope : Scope) (at : ℕ) → at ≤ 4294967295 → behind_org scope (operation_of (org at)) ≡ Ok (Some at)
org_behind scope at small =
    let least : min at 4294967297 ≡ at = omega arith in
    rw (number_narrow scope at, least) refl

org_is : (at : ℕ) → directive_in (line_of (org at)) (operation_of (org at)) ≡ org_found
org_is at = directive_by (org at) (org_found) refl

org_next : (layout : Layout) (at : ℕ) → at ≤ 4294967295
    → address_behind (earlier layout (line_of (org at))) (operation_of (org at)) ≡ Ok (Some at)
org_next layout at small =
    behind_by (earlier layout (line_of (org at))) (operation_of (org at)) (org_found) (org_is at)
    ∙ org_behind (earlier layout (line_of (org at))) at small

org_judged : (symbols : List Symbol) (at : ℕ) → at ≤ 4294967295
    → judged_line symbols beginning (line_of (org at)) (statement_in (line_of (org at))) ≡ Ok (laid_by [] at)
org_judged symbols at small =
    statement_judged symbols beginning (org at) (org_found) (Some at) [] (org_written at small) refl (org_next beginning at small) refl refl
    (bytes_by (earlier beginning (line_of (org at))) (operation_of (org at)) (org_found) (org_is at))
    (rw (le-ltb 4294967295 at small) refl)

-- the layout behind an ORG, where nothing stood before
abbrev pub placed : ℕ → Layout
placed at = record { at = Some at; symbols = [] }

-- no chunk yet; the first one begins at the address
abbrev pub started : ℕ → Chunks
started at = record { whole = []; at = at; bytes = [] }

org_after : (at : ℕ) → at ≤ 4294967295 → after_line beginning (numbered_line 1 (line_of (org at))) ≡ placed at
org_after at small =
    ap (λ (st : Option syntax.Statement). after_statement beginning (line_of (org at)) st) (text_read (org at) (org_written at small))
    ∙ ap (λ (r : Result (Option ℕ) AsmKind). let layout : Layout = record { at = if_known r; symbols = [] } in layout) (org_next beginning at small)

org_chunks_by : (at : ℕ) (b : Bool) → (at == 0) ≡ b → with_laid no_chunks 0 (laid_by [] at) ≡ started at
org_chunks_by at true e = let same : at ≡ 0 = eqb-true at 0 e in rw same refl
org_chunks_by at false e = rw e refl

-- what is left behind an ORG
org_laid : (symbols : List Symbol) (at : ℕ) (lines : List Line) → at ≤ 4294967295
    → chunks_from symbols beginning no_chunks (numbered_line 1 (line_of (org at)) ∷ lines) ≡ chunks_from symbols (placed at) (started at) lines
org_laid symbols at lines small =
    rw (org_judged symbols at small, org_after at small, org_chunks_by at (at == 0) refl) refl

-- bytes that a statement lays without a gap are the last chunk
last_laid : (symbols : List Symbol) (at first : ℕ) (others : List ℕ) (line : Line)
    → judged_line symbols (placed at) line.characters (statement_in line.characters) ≡ Ok (laid_by (first ∷ others) (at + length (first ∷ others)))
    → finished (chunks_from symbols (placed at) (started at) (line ∷ [])) ≡ Ok ((at, first ∷ others) ∷ [])
last_laid symbols at first others line laid =
    let whole : (at + length (first ∷ others) == at + length (first ∷ others)) ≡ true = eq-eqb _ _ refl in
    rw (laid, whole) refl

-- A statement at an address is assembled as what it lays there.
pub statement_placed : (at first : ℕ) (others : List ℕ) (s : Statement) → at ≤ 4294967295 → is_written s ≡ true
    → ((symbols : List Symbol) → judged_line symbols (placed at) (line_of s) (statement_in (line_of s))
    ≡ Ok (laid_by (first ∷ others) (at + length (first ∷ others))))
    → assembled (source_at at (statement_text s)) ≡ Ok ((at, first ∷ others) ∷ [])
statement_placed at first others s inside h laid =
    let line = numbered_line 2 (line_of s) in
    let lines : List Line = numbered_line 1 (line_of (org at)) ∷ line ∷ [] in
    ap (λ (ls : List Line). finished (chunks_from (symbols_of ls) beginning no_chunks ls)) (source_lines at s inside h)
    ∙ ap finished (org_laid (symbols_of lines) at (line ∷ []) inside)
    ∙ last_laid (symbols_of lines) at first others line (laid (symbols_of lines))
