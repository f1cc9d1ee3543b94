-- `DC.W` and a word at an address.
use Rattle.std.proofs.Common.{◌≡◌, ℕ, ◌+◌, ◌/◌, ◌%◌, ◌^◌, ◌≤◌, ◌<◌, false, min, List, [], ◌∷◌, refl, sym, ap, ◌∙◌, arith}
use Rattle.std.specs.Prelude.{pos, nat_le, nat_lt, true, Some, Ok, codes}
use Rattle.std.proofs.lemmas.Bool.{le-leb, le-ltb}
use Rattle.mb_syntax.specs.Lines.{statement_in}
use Rattle.mb_mnemonics.specs.declared.range.Range.TheVariants as range
use Rattle.mb_mnemonics.specs.Ranges.{number}
use Rattle.mb_syntax.specs.Tables.{found_in}
use Rattle.mb_asm.specs.Directives.{directives}
use Rattle.mb_asm.specs.Symbols.{Symbol}
use Rattle.mb_asm.specs.Values.{Scope}
use Rattle.mb_asm.specs.Extents.{address_behind, directive_in}
use Rattle.mb_asm.specs.Bytes.{dc_bytes, unit_bytes}
use Rattle.mb_asm.specs.Layouts.{earlier}
use Rattle.mb_asm.specs.Judged.{judged_line, scope_of}
use Rattle.mb_asm.specs.Texts.{assembled}
use Rattle.mb_statement.specs.Read.{sum_of}
use Rattle.mb_listing.specs.Listing.{data_line}
use Rattle.mb_listing.specs.Laws.{GivesItsWords, source_at}
use Rattle.mb_listing.proofs.Sources.{dc, dc_text, dc_written, line_of, operation_of}
use Rattle.mb_listing.proofs.Placed.{Found, behind_by, bytes_by, directive_by, laid_by, number_narrow, placed, statement_judged, statement_placed}

word_number : (value : ℕ) → value < 65536 → number range.Word (pos value) ≡ Some value
word_number value small =
    let test : nat_le value 65535 ≡ true = le-leb value 65535 (omega arith) in
    let same : value % 65536 ≡ value = omega arith in
    rw (test, same) refl

word_bytes : (scope : Scope) (value : ℕ) → value < 65536 → unit_bytes 2 scope (sum_of (pos value)) ≡ Ok (value / 256 ∷ value % 256 ∷ [])
word_bytes scope value small =
    let high : value / 256 % 256 ≡ value / 256 = omega arith in
    rw (number_narrow scope value, word_number value small, high) refl

abbrev dc_found : Found
dc_found = found_in directives (codes "DC")

dc_is : (word : ℕ) → directive_in (line_of (dc word)) (operation_of (dc word)) ≡ dc_found
dc_is word = directive_by (dc word) dc_found refl

dc_next : (at word : ℕ) → at + 2 ≤ 4294967296 → address_behind (earlier (placed at) (line_of (dc word))) (operation_of (dc word)) ≡ Ok (Some (at + 2))
dc_next at word inside =
    let least : min (at + 2) 4294967297 ≡ at + 2 = omega arith in
    behind_by (earlier (placed at) (line_of (dc word))) (operation_of (dc word)) dc_found (dc_is word) ∙ rw least refl

dc_said : (scope : Scope) (word : ℕ) → word < 65536 → dc_bytes scope (operation_of (dc word)) ≡ Ok (word / 256 ∷ word % 256 ∷ [])
dc_said scope word small = rw (word_bytes scope word small) refl

dc_judged : (at word : ℕ) (symbols : List Symbol) → at + 2 ≤ 4294967296 → word < 65536
    → judged_line symbols (placed at) (line_of (dc word)) (statement_in (line_of (dc word))) ≡ Ok (laid_by (word / 256 ∷ word % 256 ∷ []) (at + 2))
dc_judged at word symbols inside small =
    let scope : Scope = scope_of symbols (placed at) (line_of (dc word)) dc_found in
    let none : nat_lt 4294967296 (at + 2) ≡ false = le-ltb 4294967296 (at + 2) inside in
    statement_judged symbols (placed at) (dc word) dc_found (Some (at + 2)) (word / 256 ∷ word % 256 ∷ []) (dc_written word (omega arith)) refl
    (dc_next at word inside) refl refl
    (bytes_by scope (operation_of (dc word)) dc_found (dc_is word) ∙ dc_said scope word small) (rw none refl)

-- a data line at its address is its word
pub data_gives_its_word : (at word : ℕ) → at + 2 ≤ 2 ^ 32 → word < 2 ^ 16 → GivesItsWords (data_line at word)
data_gives_its_word at word inside small =
    ap (λ (text : List ℕ). assembled (source_at at text)) (sym (dc_text word))
    ∙ statement_placed at (word / 256) (word % 256 ∷ []) (dc word) (omega arith) (dc_written word (omega arith))
    (λ symbols. dc_judged at word symbols inside small)
