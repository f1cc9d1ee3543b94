-- Where a line is mended, what is faulty in the others stays so.
use Rattle.std.proofs.Common.{◌≡◌, ℕ, Bool, true, false, List, [], ◌∷◌, ◌++◌, Option, None, Some, refl, ap, is_some}
use Rattle.std.specs.Prelude.{ℤ, pos, Result, Ok, Err, option_map, if◌then◌else◌}
use Rattle.std.specs.Str.{bytes_eq}
use Rattle.mb_lines.specs.Lines.{Line}
use Rattle.mb_syntax.specs.declared.word.Name.{Name}
use Rattle.mb_syntax.specs.Lines.{statement_in}
use Rattle.mb_syntax.specs.Spans.{bytes_at}
use Rattle.mb_syntax.specs.Statements.{Operation, Statement}
use Rattle.mb_asm.specs.declared.directive.Directive.{Directive}
use Rattle.mb_asm.specs.declared.directive.Directive.TheVariants as directive
use Rattle.mb_asm.specs.declared.fault.AsmKind.{AsmKind}
use Rattle.mb_asm.specs.Extents.{address_behind, directive_in, equ_value}
use Rattle.mb_asm.specs.Laws.{FaultyBeforeMended, FaultyBehindMended, FoundStays, LayoutStays, Stays, SymbolsStay}
use Rattle.mb_asm.specs.Layouts.{Layout, after_line, after_lines, after_statement, beginning, earlier, if_known, label_in}
use Rattle.mb_asm.specs.Layouts.{operation_value}
use Rattle.mb_asm.specs.Layouts.{with_label}
use Rattle.mb_asm.specs.Symbols.{Symbol, value_in}
use Rattle.mb_asm.specs.Texts.{symbols_of}
use Rattle.mb_asm.proofs.Stays.{GivenStays, behind_stays, equ_stays, faulty_stays, found_same, map_stays}

known_stays : {A : Type 0} (r t : Result (Option A) AsmKind) → GivenStays r t → Stays (if_known r) (if_known t)
known_stays (Ok None) t p = tt
known_stays (Ok (Some x)) t p = rw p refl
known_stays (Err k) t p = tt

-- ---- symbols

-- what is found where one more symbol stands last
abbrev pub found_with : Option (Option ℤ) → Bool → Option ℤ → Option (Option ℤ)
found_with (Some value) is_it last = Some value
found_with None is_it last = if is_it then Some last else None

found_last : (symbols : List Symbol) (symbol : Symbol) (name : List ℕ)
    → value_in (symbols ++ symbol ∷ []) name ≡ found_with (value_in symbols name) (bytes_eq name symbol.name) symbol.value
found_last [] symbol name = refl
found_last (first ∷ symbols) symbol name =
    elim (bytes_eq name first.name) as (λ b. (if b then Some first.value else value_in (symbols ++ symbol ∷ []) name)
    ≡ found_with (if b then Some first.value else value_in symbols name) (bytes_eq name symbol.name) symbol.value) [
      | true ↦ refl
      | false ↦ found_last symbols symbol name
    ]

last_stays : (is_it : Bool) (u v : Option ℤ) → Stays u v → FoundStays (if is_it then Some u else None) (if is_it then Some v else None)
last_stays true None v p = refl
last_stays true (Some x) v p = ap Some p
last_stays false u v p = refl

some_is : (a : Option (Option ℤ)) (is_it : Bool) (v : Option ℤ) → is_some a ≡ true → is_some (found_with a is_it v) ≡ true
some_is (Some x) is_it v h = refl
some_is None is_it v h = absurd cc

with_stays : (b a : Option (Option ℤ)) (is_it : Bool) (u v : Option ℤ) → FoundStays b a → Stays u v
    → FoundStays (found_with b is_it u) (found_with a is_it v)
with_stays None a is_it u v s p = rw s (last_stays is_it u v p)
with_stays (Some None) a is_it u v s p = some_is a is_it v s
with_stays (Some (Some x)) a is_it u v s p = rw s refl

added_stays : (ss ts : List Symbol) (name : List ℕ) (u v : Option ℤ) → SymbolsStay ss ts → Stays u v
    → SymbolsStay (ss ++ record { name = name; value = u } ∷ []) (ts ++ record { name = name; value = v } ∷ [])
added_stays ss ts name u v s p asked =
    rw (found_last ss (record { name = name; value = u }) asked, found_last ts (record { name = name; value = v }) asked)
    (with_stays (value_in ss asked) (value_in ts asked) (bytes_eq asked name) u v (s asked) p)

chosen_stays : (b c : Bool) (ss ts more others : List Symbol) → b ≡ c → SymbolsStay ss ts → SymbolsStay more others
    → SymbolsStay (if b then ss else more) (if c then ts else others)
chosen_stays true c ss ts more others same s m = rw (← same) s
chosen_stays false c ss ts more others same s m = rw (← same) m

label_stays : (ss ts : List Symbol) (line : List ℕ) (label : Option Name) (u v : Option ℤ) → SymbolsStay ss ts → Stays u v
    → SymbolsStay (with_label ss line label u) (with_label ts line label v)
label_stays ss ts line None u v s p = s
label_stays ss ts line (Some name) u v s p =
    let bytes = bytes_at line name in
    chosen_stays (is_some (value_in ss bytes)) (is_some (value_in ts bytes)) ss ts (ss ++ record { name = bytes; value = u } ∷ [])
    (ts ++ record { name = bytes; value = v } ∷ []) (found_same (value_in ss bytes) (value_in ts bytes) (s bytes)) s
    (added_stays ss ts bytes u v s p)

-- ---- layouts

value_stays : (before after : Layout) (line : List ℕ) (operation : Operation) (found : Option Directive) → LayoutStays before after
    → Stays (operation_value before line operation found) (operation_value after line operation found)
value_stays before after line operation (Some directive.Equ) p =
    known_stays (equ_value (earlier before line) operation) (equ_value (earlier after line) operation)
    (equ_stays line before.symbols after.symbols before.at after.at operation p.symbols p.at)
value_stays before after line operation None p = map_stays pos before.at after.at p.at
value_stays before after line operation (Some directive.Org) p = map_stays pos before.at after.at p.at
value_stays before after line operation (Some directive.Dc) p = map_stays pos before.at after.at p.at
value_stays before after line operation (Some directive.Ds) p = map_stays pos before.at after.at p.at
value_stays before after line operation (Some directive.Even) p = map_stays pos before.at after.at p.at

statement_stays : (before after : Layout) (line : List ℕ) (label : Option Name) (operation : Option Operation) → LayoutStays before after
    → LayoutStays (after_statement before line (Some (record { label = label; operation = operation })))
    (after_statement after line (Some (record { label = label; operation = operation })))
statement_stays before after line label None p = record {
  at = p.at;
  symbols = label_stays before.symbols after.symbols line label (option_map pos before.at) (option_map pos after.at) p.symbols
      (map_stays pos before.at after.at p.at);
}
statement_stays before after line label (Some operation) p = record {
  at = known_stays (address_behind (earlier before line) operation) (address_behind (earlier after line) operation)
      (behind_stays line before.symbols after.symbols before.at after.at operation p.symbols p.at);
  symbols = label_stays before.symbols after.symbols line label (operation_value before line operation (directive_in line operation))
      (operation_value after line operation (directive_in line operation)) p.symbols
      (value_stays before after line operation (directive_in line operation) p);
}

after_stays : (before after : Layout) (line : List ℕ) (statement : Option Statement) → LayoutStays before after
    → LayoutStays (after_statement before line statement) (after_statement after line statement)
after_stays before after line None p = record {
  at = tt;
  symbols = label_stays before.symbols after.symbols line (label_in line) None None p.symbols tt;
}
after_stays before after line (Some statement) p = statement_stays before after line statement.label statement.operation p

lines_stay : (before after : Layout) (lines : List Line) → LayoutStays before after → LayoutStays (after_lines before lines) (after_lines after lines)
lines_stay before after [] p = p
lines_stay before after (line ∷ lines) p =
    lines_stay (after_line before line) (after_line after line) lines (after_stays before after line.characters (statement_in line.characters) p)

lines_after : (layout : Layout) (lines others : List Line) → after_lines layout (lines ++ others) ≡ after_lines (after_lines layout lines) others
lines_after layout [] others = refl
lines_after layout (line ∷ lines) others = lines_after (after_line layout line) lines others

-- ---- texts

joined : (front mended more : List Line) → LayoutStays (after_lines beginning front) (after_lines beginning mended)
    → LayoutStays (after_lines beginning (front ++ more)) (after_lines beginning (mended ++ more))
joined front mended more p =
    rw (lines_after beginning front more, lines_after beginning mended more)
    (lines_stay (after_lines beginning front) (after_lines beginning mended) more p)

pub behind_mended : FaultyBehindMended
behind_mended front mended between line later p h =
    let here = joined front mended between p in
    let all = joined (front ++ between) (mended ++ between) (line ∷ later) here in
    faulty_stays (symbols_of ((front ++ between) ++ line ∷ later)) (symbols_of ((mended ++ between) ++ line ∷ later))
    (after_lines beginning (front ++ between)) (after_lines beginning (mended ++ between)) line.characters (statement_in line.characters)
    all.symbols here h

same_value : {A : Type 0} (x : Option A) → Stays x x
same_value None = tt
same_value (Some x) = refl

same_found : (x : Option (Option ℤ)) → FoundStays x x
same_found None = refl
same_found (Some None) = refl
same_found (Some (Some x)) = refl

same_layout : (layout : Layout) → LayoutStays layout layout
same_layout layout = record { at = same_value layout.at; symbols = λ name. same_found (value_in layout.symbols name) }

pub before_mended : FaultyBeforeMended
before_mended front line faulty mended later p h =
    let all = joined (front ++ line ∷ faulty) (front ++ line ∷ mended) later p in
    faulty_stays (symbols_of ((front ++ line ∷ faulty) ++ later)) (symbols_of ((front ++ line ∷ mended) ++ later))
    (after_lines beginning front) (after_lines beginning front) line.characters (statement_in line.characters)
    all.symbols (same_layout (after_lines beginning front)) h
