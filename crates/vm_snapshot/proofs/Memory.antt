-- Rows of bytes spell.
use Rattle.std.proofs.Common.{◌≡◌, ℕ, suc, ◌-◌, ◌*◌, ◌/◌, ◌%◌, ◌^◌, ◌≤◌, ◌<◌, eqb, ltb, Bool, true, false, ◌||◌, List, [], ◌∷◌, ◌++◌, refl, sym, ap, ◌∙◌, append_assoc, arith}
use Rattle.std.specs.Prelude.{codes}
use Rattle.std.specs.Int.{byte_at, bytes_high_first}
use Rattle.std.proofs.lemmas.Bool.{and_from, and_parts, leb-true, ltb-true, le-leb, lt-ltb}
use Rattle.mb_report.specs.Digits.{digits, hex8}
use Rattle.mb_saved.specs.declared.line.RamLine.{RamLine}
use Rattle.mb_spelling.specs.Spelling.{Spelling, both, before, chosen}
use Rattle.mb_spelling.specs.Laws.{Spells}
use Rattle.mb_spelling.specs.Presents.{Heads}
use Rattle.mb_spelling.specs.Hex.{hex_digit, not_zero, within, number, hex_of}
use Rattle.mb_spelling.proofs.Combined.{over_spells, both_spells, before_spells}
use Rattle.mb_spelling.proofs.Hex.{number_spells, not_zero_is_may, within_is_may}
use Rattle.mb_spelling.proofs.Lists.{GoesWell, until_spells, times_spells}
use Rattle.vm_snapshot.specs.Inputs.{byte}
use Rattle.vm_snapshot.specs.Memory.{IsRow, dump_byte, next_column, dump, write_row, row_said, row, is_end, row_lines, memory}
use Rattle.vm_snapshot.proofs.Inputs.{byte_spells, digit_below}
use Rattle.vm_snapshot.proofs.Numbers.{double, number_after, address_text, number_text, are_bytes, byte_count, number_back, number_fits, spelled_back, some_number, not_all_zero}

-- ---- dumps

byte_in : (ends : Bool) → Spells (chosen ends (before byte (10 ∷ [])) byte)
byte_in true = before_spells byte (10 ∷ []) byte_spells
byte_in false = byte_spells

abbrev row_line : ℕ → List ℕ → RamLine
row_line at bytes = record { at = at; bytes = bytes }

abbrev Any : ℕ → ℕ → Type 0
Any n column = Unit {0}

pub dump_byte_spells : (n column : ℕ) → Any (suc n) column → Spells (dump_byte n column)
dump_byte_spells n column good = byte_in (eqb n 0 || eqb column 31)

pub dump_spells : (n : ℕ) → Spells (dump n)
dump_spells n = times_spells dump_byte next_column Any dump_byte_spells (λ n column a good l. tt) n 0 tt

-- ---- memory

place_starts : (rows from : ℕ) → from < rows → rows ≤ 2 ^ 24 → within from (rows - 1) 7 0 ≡ true
place_starts rows from more_come few = and_from _ _ (le-leb (from / 16 ^ 7) 0 (omega arith)) (le-leb 0 ((rows - 1) / 16 ^ 7) (omega arith))

-- a row's number, and its bytes as one number
abbrev Parts : (rows from : ℕ) → Spelling (ℕ × ℕ)
Parts rows from =
    both (before (number (within from (rows - 1)) 7 0) (codes "0 ")) (λ place. before (number not_zero 32 0) (10 ∷ []))

place_in : (rows from place : ℕ) → within from (rows - 1) 0 place ≡ true → (from ≤ place) × (place ≤ rows - 1)
place_in rows from place l =
    let parts = and_parts _ _ l in
    let low = leb-true (from / 16 ^ 0) place parts.0 in
    let high = leb-true place ((rows - 1) / 16 ^ 0) parts.1 in
    (omega (arith, low), omega (arith, high))

row_to : (rows from : ℕ) → from < rows → (v : ℕ × ℕ) → (Parts rows from).IsLawful v → IsRow rows from (row_said v)
row_to rows from more_come v l =
    let place = v.0 in
    let value = v.1 in
    let inside = place_in rows from place l.0.1 in
    let back : number_after 0 (bytes_high_first 16 value) ≡ value = number_back value l.1.0 in
    let some : 0 < value = ltb-true 0 value (not_zero_now value l.1.1) in
    record {
      aligned = omega arith;
      after = omega (arith, inside.0);
      inside = omega (arith, inside.1);
      count = byte_count 16 value;
      bytes = are_bytes 16 value;
      some = not_all_zero (bytes_high_first 16 value) (rw back some);
    }
  where
    not_zero_now : (value : ℕ) → not_zero 0 value ≡ true → ltb 0 value ≡ true
    not_zero_now value h = h

row_same : (rows from : ℕ) → rows ≤ 2 ^ 24 → (v : ℕ × ℕ) → (Parts rows from).IsLawful v → write_row (row_said v) ≡ (Parts rows from).write v
unfolding hex8
row_same rows from few v l =
    let place = v.0 in
    let value = v.1 in
    let chunk = bytes_high_first 16 value in
    let inside = place_in rows from place l.0.1 in
    let text : hex_of 32 (number_after 0 chunk) ≡ digits chunk =
    ap (λ (k : ℕ). hex_of (double k) (number_after 0 chunk)) (sym (byte_count 16 value)) ∙ number_text 0 chunk (are_bytes 16 value) in
    let same : digits chunk ≡ hex_of 32 value = sym text ∙ ap (hex_of 32) (number_back value l.1.0) in
    ap (λ (w : List ℕ). w ++ 32 ∷ (digits chunk ++ 10 ∷ [])) (address_text place (omega (arith, inside.1, few)))
    ∙ (append_assoc (hex_of 7 place) (48 ∷ []) (32 ∷ (digits chunk ++ 10 ∷ []))
    ∙ (sym (append_assoc (hex_of 7 place) (codes "0 ") (digits chunk ++ 10 ∷ []))
    ∙ ap (λ (w : List ℕ). (hex_of 7 place ++ codes "0 ") ++ (w ++ 10 ∷ [])) same))

row_from : (rows from : ℕ) → rows ≤ 2 ^ 24 → (line : RamLine) → IsRow rows from line → (Parts rows from).IsLawful (line.at / 16, number_after 0 line.bytes)
row_from rows from few line l =
    let low : from / 16 ^ 0 ≤ line.at / 16 = omega (arith, l.after) in
    let high : line.at / 16 ≤ (rows - 1) / 16 ^ 0 = omega (arith, l.inside) in
    let fits : line.at / 16 / 16 ^ 7 ≡ 0 = omega (arith, l.inside, few) in (
      (fits, and_from _ _ (le-leb (from / 16 ^ 0) (line.at / 16) low) (le-leb (line.at / 16) ((rows - 1) / 16 ^ 0) high)),
      (number_fits line.bytes l.count l.bytes, lt-ltb 0 (number_after 0 line.bytes) (some_number line.bytes l.some)),
    )

row_back : (rows from : ℕ) (line : RamLine) → IsRow rows from line → row_said (line.at / 16, number_after 0 line.bytes) ≡ line
row_back rows from line l =
    let bytes : bytes_high_first 16 (number_after 0 line.bytes) ≡ line.bytes =
    ap (λ (k : ℕ). bytes_high_first k (number_after 0 line.bytes)) (sym l.count) ∙ spelled_back 0 line.bytes l.bytes in
    let address : 16 * (line.at / 16) ≡ line.at = omega (arith, l.aligned) in
    ap (λ (at : ℕ). row_line at (bytes_high_first 16 (number_after 0 line.bytes))) address ∙ ap (row_line line.at) bytes

pub row_spells : (rows from : ℕ) → from < rows → rows ≤ 2 ^ 24 → Spells (row rows from)
row_spells rows from more_come few =
    over_spells (Parts rows from) row_said (IsRow rows from) write_row
    (both_spells (before (number (within from (rows - 1)) 7 0) (codes "0 ")) (λ place. before (number not_zero 32 0) (10 ∷ []))
    (before_spells (number (within from (rows - 1)) 7 0) (codes "0 ")
    (number_spells (within from (rows - 1)) (within_is_may from (rows - 1) (omega arith)) 7 0 (place_starts rows from more_come few)))
    (λ place l. before_spells (number not_zero 32 0) (10 ∷ []) (number_spells not_zero not_zero_is_may 32 0 refl))) (record {
      to = row_to rows from more_come;
      same = row_same rows from few;
      from = λ line l. (line.at / 16, number_after 0 line.bytes);
      lawful = row_from rows from few;
      back = row_back rows from;
    })

pub row_heads : (rows from : ℕ) → Heads is_end false (row rows from)
unfolding hex8
row_heads rows from = record {
  head = λ line l. hex_digit (byte_at 3 line.at / 16);
  tail = λ line l. (hex_digit (byte_at 3 line.at % 16) ∷ digits (bytes_high_first 3 line.at)) ++ 32 ∷ (digits line.bytes ++ 10 ∷ []);
  written = λ line l. refl;
  tested = λ line l. digit_below (byte_at 3 line.at / 16) 101 (omega arith) (omega arith);
}

lines_well : (rows : ℕ) → rows ≤ 2 ^ 24 → GoesWell (row_lines rows)
lines_well rows few = record {
  first = 101;
  others = codes "nd\n";
  mark = refl;
  tested = refl;
  Good = λ from. Unit {0};
  spells = λ from good more_come. row_spells rows from (ltb-true from rows more_come) few;
  heads = λ from good more_come. row_heads rows from;
  stays = λ from r good more_come l. tt;
}

pub memory_spells : (rows : ℕ) → rows ≤ 2 ^ 24 → Spells (memory rows)
unfolding lines_well
memory_spells rows few = until_spells (row_lines rows) (lines_well rows few) rows 0 tt
