-- A text without a fault leaves nothing unknown.
use Rattle.std.proofs.Common.{◌≡◌, ℕ, Bool, true, false, List, [], ◌∷◌, ◌++◌, All, Option, None, Some, refl, sym, ap, ◌∙◌, subst, is_some}
use Rattle.std.specs.Prelude.{ℤ, pos, ◌+◌, ◌*◌, ◌%◌, ◌+ℤ◌, ◌||◌, not, min, Result, Ok, Err, option_map, option_and_then, if◌then◌else◌}
use Rattle.std.specs.Option.{ok_or, unwrap_or}
use Rattle.std.specs.List.{list_any}
use Rattle.std.specs.Str.{bytes_eq}
use Rattle.std.proofs.lemmas.List.Elements.{All-append, All-cons, All-head, All-nil, All-tail}
use Rattle.mb_lines.specs.Lines.{Line, numbered}
use Rattle.mb_lines.specs.Results.{◌>>=◌}
use Rattle.mb_syntax.specs.declared.word.Name.{Name}
use Rattle.mb_syntax.specs.declared.expression.Term.{Term}
use Rattle.mb_syntax.specs.declared.expression.Term.TheVariants as term
use Rattle.mb_syntax.specs.declared.mode.Mode.TheVariants as mode
use Rattle.mb_syntax.specs.declared.operand.Operand.{Operand}
use Rattle.mb_syntax.specs.declared.operand.Operand.TheVariants as operand
use Rattle.mb_syntax.specs.Lines.{statement_in}
use Rattle.mb_syntax.specs.Modes.{Sum}
use Rattle.mb_syntax.specs.Spans.{bytes_at}
use Rattle.mb_syntax.specs.Statements.{Operation, Statement}
use Rattle.mb_mnemonics.specs.Means.{length_by}
use Rattle.mb_asm.specs.declared.directive.Directive.{Directive}
use Rattle.mb_asm.specs.declared.directive.Directive.TheVariants as directive
use Rattle.mb_asm.specs.declared.fault.AsmKind.{AsmKind}
use Rattle.mb_asm.specs.declared.fault.AsmKind.TheVariants as kind
use Rattle.mb_asm.specs.declared.value.Flaw.TheVariants as flaw
use Rattle.mb_asm.specs.Bytes.{operation_bytes}
use Rattle.mb_asm.specs.Code.{admitted, laid_to}
use Rattle.mb_asm.specs.Directives.{only_of, plain_of, unit_of}
use Rattle.mb_asm.specs.Extents.{org_address, address_behind, behind_dc, behind_directive, behind_ds, behind_even, behind_instruction, behind_item, behind_items}
use Rattle.mb_asm.specs.Extents.{behind_org, ds_count, directive_in, equ_value, even_from, item_len, equ_long, narrow_value, no_size, only_value, onward, ranged}
use Rattle.mb_asm.specs.Extents.{is_empty}
use Rattle.mb_asm.specs.declared.addresses.TheConstants.{PAST}
use Rattle.mb_asm.specs.Judged.{Laid, equ_checked, has_no_name, is_again, is_misplaced, judged_line, judged_operation, judged_statement}
use Rattle.mb_asm.specs.Judged.{address_or_zero}
use Rattle.mb_asm.specs.Judged.{reaches_past, reads_earlier, scope_of, wants_label}
use Rattle.mb_asm.specs.Kinds.{meant}
use Rattle.mb_asm.specs.Laws.{ImageLeavesNothingUnknown, IsKnown}
use Rattle.mb_asm.specs.Layouts.{Layout, after_line, after_lines, after_statement, beginning, earlier, label_value, next_at, operation_value, with_label}
use Rattle.mb_asm.specs.Results.{refuse}
use Rattle.mb_asm.specs.Symbols.{Symbol, value_in, with_symbol}
use Rattle.mb_asm.proofs.Parts.{judged_parts}
use Rattle.mb_asm.specs.Texts.{Chunks, Fault, at_line, chunks_from, finished, no_chunks, symbols_of, with_laid}
use Rattle.mb_asm.specs.Values.{Scope, has_flaw, have_flaw, in_operand, is_long, is_nameless, signed_value, sum_behind, term_value, value_of, values_of}
use Rattle.mb_asm.specs.Values.{with_sign}
use Rattle.mb_mnemonics.proofs.Names.{neither}

abbrev pub HasValue : Symbol → Type 0
HasValue symbol = is_some symbol.value ≡ true

-- ---- steps

-- what a step and the next one give, each by itself
pub bound : {A B E : Type 0} (r : Result A E) (f : A → Result B E) (y : B) → (r >>= f) ≡ Ok y → (x : A) × ((r ≡ Ok x) × (f x ≡ Ok y))
bound (Ok x) f y is = (x, (refl, is))
bound (Err e) f y is = absurd cc

refused : (b : Bool) (kind : AsmKind) (x : Unit {0}) → refuse b kind ≡ Ok x → b ≡ false
refused true kind x is = absurd cc
refused false kind x is = refl

-- ---- expressions

found_known : (symbols : List Symbol) (name : List ℕ) → All HasValue symbols → is_some (value_in symbols name) ≡ true
    → is_some (unwrap_or (value_in symbols name) None) ≡ true
found_known [] name all found = absurd cc
found_known (symbol ∷ symbols) name all found =
    elim (bytes_eq name symbol.name) as (λ b. is_some (if b then Some symbol.value else value_in symbols name) ≡ true
    → is_some (unwrap_or (if b then Some symbol.value else value_in symbols name) None) ≡ true) [
      | true ↦ λ h. All-head HasValue symbol symbols all
      | false ↦ λ h. found_known symbols name (All-tail HasValue symbol symbols all) h
    ] found

not_false : (b : Bool) → not b ≡ false → b ≡ true
not_false true e = refl
not_false false e = absurd cc

-- what is known where all symbols are and the address is
pub record AllKnown (scope : Scope) : Type 0 where
  pub at : is_some scope.at ≡ true
  pub symbols : All HasValue scope.symbols

mapped_known : {A B : Type 0} (f : A → B) (x : Option A) → is_some x ≡ true → is_some (option_map f x) ≡ true
mapped_known f None e = absurd cc
mapped_known f (Some x) e = refl

signed_known : (scope : Scope) (negative : Bool) (t : Term) → AllKnown scope
    → is_nameless scope (record { is_negative = negative; term = t }) ≡ false
    → is_some (signed_value scope (record { is_negative = negative; term = t })) ≡ true
signed_known scope negative (term.Number n) known named = refl
signed_known scope negative term.WideNumber known named = refl
signed_known scope negative (term.Symbol name) known named =
    mapped_known (with_sign negative) (term_value scope (term.Symbol name))
    (found_known scope.symbols (bytes_at scope.line name) known.symbols (not_false (is_some (value_in scope.symbols (bytes_at scope.line name))) named))
signed_known scope negative term.Here known named =
    mapped_known (with_sign negative) (option_map pos scope.at) (mapped_known pos scope.at known.at)

then_known : {A B : Type 0} (f : A → Option B) (x : Option A) → is_some x ≡ true → ((y : A) → is_some (f y) ≡ true)
    → is_some (option_and_then f x) ≡ true
then_known f None e next = absurd cc
then_known f (Some x) e next = next x

sum_known : (scope : Scope) (sum : ℤ) (terms : Sum) → AllKnown scope → list_any (is_nameless scope) terms ≡ false
    → is_some (sum_behind scope sum terms) ≡ true
sum_known scope sum [] known named = refl
sum_known scope sum (signed ∷ terms) known named =
    let both = neither (is_nameless scope signed) (list_any (is_nameless scope) terms) named in
    then_known (λ value. sum_behind scope (sum +ℤ value) terms) (signed_value scope signed)
    (signed_known scope signed.is_negative signed.term known both.0)
    (λ value. sum_known scope (sum +ℤ value) terms known both.1)

value_known : (scope : Scope) (terms : Sum) → AllKnown scope → has_flaw flaw.Nameless scope terms ≡ false → is_some (value_of scope terms) ≡ true
value_known scope terms known named =
    elim (is_long terms) as (λ b. is_some (if b then Some (pos 0) else sum_behind scope (pos 0) terms) ≡ true) [
      | true ↦ refl
      | false ↦ sum_known scope (pos 0) terms known named
    ]

plain_named : (scope : Scope) (one : Operand Sum) (terms : Sum) → plain_of one ≡ Some terms
    → in_operand (has_flaw flaw.Nameless scope) one ≡ false → has_flaw flaw.Nameless scope terms ≡ false
plain_named scope (operand.Mode (mode.Absolute e None)) terms is named =
    let same : e ≡ terms = cc in
    subst (λ (sum : Sum). has_flaw flaw.Nameless scope sum ≡ false) same named
plain_named scope _ terms is named = absurd cc

only_named : (scope : Scope) (operands : List (Operand Sum)) (terms : Sum) → only_of operands ≡ Some terms
    → have_flaw flaw.Nameless scope operands ≡ false → has_flaw flaw.Nameless scope terms ≡ false
only_named scope [] terms is named = absurd cc
only_named scope (one ∷ []) terms is named =
    plain_named scope one terms is (neither (in_operand (has_flaw flaw.Nameless scope) one) false named).0
only_named scope (one ∷ two ∷ others) terms is named = absurd cc

narrow_some : (scope : Scope) (terms : Sum) (value : Option ℤ) → is_some (value_of scope terms) ≡ true
    → narrow_value scope terms ≡ Ok value → is_some value ≡ true
unfolding narrow_value
narrow_some scope terms value known is =
    elim (has_flaw flaw.Wide scope terms) as (λ b. (if b then Err kind.Range else Ok (value_of scope terms)) ≡ Ok value → is_some value ≡ true) [
      | true ↦ λ h. absurd cc
      | false ↦ λ h. let same : value_of scope terms ≡ value = cc in subst (λ (v : Option ℤ). is_some v ≡ true) same known
    ] is

given_some : (scope : Scope) (operands : List (Operand Sum)) (given : Option Sum) (value : Option ℤ) → AllKnown scope
    → have_flaw flaw.Nameless scope operands ≡ false → only_of operands ≡ given
    → (ok_or given kind.Operand >>= narrow_value scope) ≡ Ok value → is_some value ≡ true
given_some scope operands None value known named given is = absurd cc
given_some scope operands (Some terms) value known named given is =
    narrow_some scope terms value (value_known scope terms known (only_named scope operands terms given named)) is

-- the value of the one operand is known
only_some : (scope : Scope) (operands : List (Operand Sum)) (value : Option ℤ) → AllKnown scope
    → have_flaw flaw.Nameless scope operands ≡ false → only_value scope operands ≡ Ok value → is_some value ≡ true
only_some scope operands value known named is = given_some scope operands (only_of operands) value known named refl is

same_some : {A : Type 0} (x : Option A) (y : Option A) → is_some x ≡ true → x ≡ y → is_some y ≡ true
same_some x y known same = subst (λ z. is_some z ≡ true) same known

ranged_some : {A : Type 0} (says : ℤ → Option A) (value : Option ℤ) (said : Option A) → is_some value ≡ true
    → ranged says value ≡ Ok said → is_some said ≡ true
ranged_some says None said known is = absurd cc
ranged_some says (Some value) said known is =
    elim (says value) as (λ o. ok_or (option_map Some o) kind.Range ≡ Ok said → is_some said ≡ true) [
      | None ↦ λ h. absurd cc
      | Some x ↦ λ h. let same : Some x ≡ said = cc in same_some (Some x) said refl same
    ] is

-- ---- extents

org_known : (scope : Scope) (operation : Operation) (end : Option ℕ) → AllKnown scope
    → have_flaw flaw.Nameless scope operation.operands ≡ false → behind_org scope operation ≡ Ok end → is_some end ≡ true
org_known scope operation end known named is =
    let a = bound (no_size operation.size) (λ none. only_value scope operation.operands >>= ranged org_address) end is in
    let b = bound (only_value scope operation.operands) (ranged org_address) end a.1.1 in
    ranged_some org_address b.0 end (only_some scope operation.operands b.0 known named b.1.0) b.1.1

equ_known : (scope : Scope) (operation : Operation) (value : Option ℤ) → AllKnown scope
    → have_flaw flaw.Nameless scope operation.operands ≡ false → equ_value scope operation ≡ Ok value → is_some value ≡ true
equ_known scope operation value known named is =
    let a = bound (no_size operation.size) (λ none. only_value scope operation.operands >>= ranged equ_long) value is in
    let b = bound (only_value scope operation.operands) (ranged equ_long) value a.1.1 in
    ranged_some equ_long b.0 value (only_some scope operation.operands b.0 known named b.1.0) b.1.1

onward_known : (at : Option ℕ) (n : ℕ) → is_some at ≡ true → is_some (onward at n) ≡ true
onward_known None n e = absurd cc
onward_known (Some known) n e = refl

ds_known : (scope : Scope) (operation : Operation) (end : Option ℕ) → AllKnown scope
    → have_flaw flaw.Nameless scope operation.operands ≡ false → behind_ds scope operation ≡ Ok end → is_some end ≡ true
ds_known scope operation end known named is =
    let reached = λ (unit : ℕ) (count : Option ℕ). option_and_then (λ n. onward scope.at (unit * n)) count in
    let a = bound (ok_or (unit_of operation.size) kind.Operand)
    (λ unit. only_value scope operation.operands >>= λ value. ranged ds_count value >>= λ count. Ok (reached unit count)) end is in
    let b = bound (only_value scope operation.operands) (λ value. ranged ds_count value >>= λ count. Ok (reached a.0 count)) end a.1.1 in
    let c = bound (ranged ds_count b.0) (λ count. Ok (reached a.0 count)) end b.1.1 in
    let same : reached a.0 c.0 ≡ end = cc in
    let some = ranged_some ds_count b.0 c.0 (only_some scope operation.operands b.0 known named b.1.0) c.1.0 in
    same_some (reached a.0 c.0) end (then_known (λ n. onward scope.at (a.0 * n)) c.0 some (λ n. onward_known scope.at (a.0 * n) known.at)) same

items_known : (unit : ℕ) (at : Option ℕ) (items : List (Operand Sum)) (end : Option ℕ) → is_some at ≡ true
    → behind_items unit at items ≡ Ok end → is_some end ≡ true
items_known unit at [] end known is = let same : at ≡ end = cc in same_some at end known same
items_known unit at (item ∷ items) end known is =
    elim (item_len unit item) as (λ len. (ok_or (behind_item at len) kind.Operand >>= λ next. behind_items unit next items) ≡ Ok end → is_some end ≡ true) [
      | None ↦ λ h. absurd cc
      | Some len ↦ λ h. items_known unit (onward at len) items end (onward_known at len known) h
    ] is

dc_known : (at : Option ℕ) (operation : Operation) (end : Option ℕ) → is_some at ≡ true → behind_dc at operation ≡ Ok end → is_some end ≡ true
dc_known at operation end known is =
    let a = bound (ok_or (unit_of operation.size) kind.Operand)
    (λ unit. refuse (is_empty operation.operands) kind.Operand >>= λ some. behind_items unit at operation.operands) end is in
    let b = bound (refuse (is_empty operation.operands) kind.Operand) (λ some. behind_items a.0 at operation.operands) end a.1.1 in
    items_known a.0 at operation.operands end known b.1.1

even_known : (at : Option ℕ) (operation : Operation) (end : Option ℕ) → is_some at ≡ true → behind_even at operation ≡ Ok end
    → is_some end ≡ true
even_known at operation end known is =
    let a = bound (no_size operation.size) (λ none. refuse (not (is_empty operation.operands)) kind.Operand >>= λ no_operand. Ok (even_from at)) end is in
    let b = bound (refuse (not (is_empty operation.operands)) kind.Operand) (λ no_operand. Ok (even_from at)) end a.1.1 in
    let same : even_from at ≡ end = cc in
    same_some (even_from at) end (mapped_known (λ x. min (x + x % 2) PAST) at known) same

instruction_known : (scope : Scope) (operation : Operation) (end : Option ℕ) → is_some scope.at ≡ true
    → behind_instruction scope operation ≡ Ok end → is_some end ≡ true
instruction_known scope operation end known is =
    let len = meant (length_by (bytes_at scope.line operation.name) operation.size (values_of scope operation.operands)) in
    let a = bound len (λ n. Ok (onward scope.at n)) end is in
    let same : onward scope.at a.0 ≡ end = cc in
    same_some (onward scope.at a.0) end (onward_known scope.at a.0 known) same

-- the address behind an operation that is a directive or none
abbrev pub behind_by : Scope → Operation → Option Directive → Result (Option ℕ) AsmKind
behind_by scope operation (Some found) = behind_directive scope operation found
behind_by scope operation None = behind_instruction scope operation

behind_known : (scope : Scope) (operation : Operation) (found : Option Directive) (end : Option ℕ) → AllKnown scope
    → (reads_earlier found ≡ true → have_flaw flaw.Nameless scope operation.operands ≡ false)
    → behind_by scope operation found ≡ Ok end → is_some end ≡ true
behind_known scope operation None end known named is = instruction_known scope operation end known.at is
behind_known scope operation (Some directive.Org) end known named is = org_known scope operation end known (named refl) is
behind_known scope operation (Some directive.Equ) end known named is =
    let same : scope.at ≡ end = cc in same_some scope.at end known.at same
behind_known scope operation (Some directive.Dc) end known named is = dc_known scope.at operation end known.at is
behind_known scope operation (Some directive.Ds) end known named is = ds_known scope operation end known (named refl) is
behind_known scope operation (Some directive.Even) end known named is = even_known scope.at operation end known.at is

-- ---- lines

earlier_known : (layout : Layout) (line : List ℕ) → IsKnown layout → AllKnown (earlier layout line)
earlier_known layout line known = record { at = known.at; symbols = known.symbols }

label_known : (symbols : List Symbol) (layout : Layout) (line : List ℕ) (operation : Operation) (found : Option Directive) (checked : Unit {0})
    → IsKnown layout → have_flaw flaw.Nameless (scope_of symbols layout line found) operation.operands ≡ false
    → equ_checked (scope_of symbols layout line found) operation found ≡ Ok checked
    → is_some (operation_value layout line operation found) ≡ true
label_known symbols layout line operation (Some directive.Equ) checked known named is =
    let a = bound (equ_value (earlier layout line) operation) (λ value. Ok tt) checked is in
    rw a.1.0 (equ_known (earlier layout line) operation a.0 (earlier_known layout line known) named a.1.0)
label_known symbols layout line operation None checked known named is = mapped_known pos layout.at known.at
label_known symbols layout line operation (Some directive.Org) checked known named is = mapped_known pos layout.at known.at
label_known symbols layout line operation (Some directive.Dc) checked known named is = mapped_known pos layout.at known.at
label_known symbols layout line operation (Some directive.Ds) checked known named is = mapped_known pos layout.at known.at
label_known symbols layout line operation (Some directive.Even) checked known named is = mapped_known pos layout.at known.at

named_earlier : (symbols : List Symbol) (layout : Layout) (line : List ℕ) (operation : Operation) (reads : Bool)
    → have_flaw flaw.Nameless (if reads then earlier layout line else record { symbols = symbols; line = line; at = layout.at }) operation.operands ≡ false
    → reads ≡ true → have_flaw flaw.Nameless (earlier layout line) operation.operands ≡ false
named_earlier symbols layout line operation true named is = named
named_earlier symbols layout line operation false named is = absurd cc

-- what is laid by an operation leaves its label and the address behind it known
record OperationKnown (layout : Layout) (line : List ℕ) (operation : Operation) : Type 0 where
  pub next : is_some (next_at layout line (Some operation)) ≡ true
  pub label : is_some (label_value layout line (Some operation)) ≡ true

admitted_named : (layout : Layout) (line : List ℕ) (label : Option Name) (found : Option Directive) (a b : Bool) (x : Unit {0})
    → admitted layout line label found (a || b) ≡ Ok x → b ≡ false
admitted_named layout line label found a b x is =
    let again = λ (named : Unit {0}). refuse (is_again layout line label) kind.Twice in
    let c = bound (refuse (wants_label label found) kind.Syntax) (λ labelled. refuse (a || b) kind.Name >>= again) x is in
    let d = bound (refuse (a || b) kind.Name) again x c.1.1 in
    (neither a b (refused (a || b) kind.Name d.0 d.1.0)).1

operation_known : (symbols : List Symbol) (layout : Layout) (line : List ℕ) (label : Option Name) (operation : Operation) (laid : Laid)
    → IsKnown layout → judged_operation symbols layout line label operation ≡ Ok laid → OperationKnown layout line operation
unfolding address_behind
operation_known symbols layout line label operation laid known is =
    let found = directive_in line operation in
    let scope = scope_of symbols layout line found in
    let next = address_behind (earlier layout line) operation in
    let flawed = have_flaw flaw.Nameless scope operation.operands in
    let parts = judged_parts layout line label operation found scope next in
    let a = bound (admitted layout line label found (has_no_name next || flawed)) (λ first. next >>= λ end. laid_to end scope label found operation) laid
    (sym parts ∙ is) in
    let b = bound next (λ end. laid_to end scope label found operation) laid a.1.1 in
    let named : flawed ≡ false = admitted_named layout line label found (has_no_name next) flawed a.0 a.1.0 in
    let placed = λ (written : List ℕ).
    refuse (is_misplaced (address_or_zero scope.at) label found (address_or_zero b.0) || reaches_past (address_or_zero scope.at) written) kind.Place
    >>= λ placed. Ok (record { bytes = written; next = address_or_zero b.0 }) in
    let c = bound (equ_checked scope operation found) (λ value. operation_bytes scope operation >>= placed) laid b.1.1 in
    let end = behind_known (earlier layout line) operation found b.0 (earlier_known layout line known)
    (named_earlier symbols layout line operation (reads_earlier found) named) b.1.0 in
    record {
      next = rw b.1.0 end;
      label = label_known symbols layout line operation found c.0 known named c.1.0;
    }

added_known : (symbols : List Symbol) (symbol : Symbol) → All HasValue symbols → HasValue symbol → All HasValue (with_symbol symbols symbol)
added_known symbols symbol all one =
    elim (is_some (value_in symbols symbol.name)) as (λ b. All HasValue (if b then symbols else symbols ++ symbol ∷ [])) [
      | true ↦ all
      | false ↦ All-append HasValue symbols (symbol ∷ []) all (All-cons HasValue symbol [] one (All-nil HasValue))
    ]

labelled_known : (symbols : List Symbol) (line : List ℕ) (label : Option Name) (value : Option ℤ) → All HasValue symbols
    → is_some value ≡ true → All HasValue (with_label symbols line label value)
labelled_known symbols line None value all one = all
labelled_known symbols line (Some name) value all one = added_known symbols (record { name = bytes_at line name; value = value }) all one

statement_known : (symbols : List Symbol) (layout : Layout) (line : List ℕ) (label : Option Name) (operation : Option Operation) (laid : Laid)
    → IsKnown layout → judged_statement symbols layout line (record { label = label; operation = operation }) ≡ Ok laid
    → IsKnown (after_statement layout line (Some (record { label = label; operation = operation })))
statement_known symbols layout line label None laid known is = record {
  at = known.at;
  symbols = labelled_known layout.symbols line label (option_map pos layout.at) known.symbols (mapped_known pos layout.at known.at);
}
statement_known symbols layout line label (Some operation) laid known is =
    let one = operation_known symbols layout line label operation laid known is in
    record {
      at = one.next;
      symbols = labelled_known layout.symbols line label (label_value layout line (Some operation)) known.symbols one.label;
    }

line_known : (symbols : List Symbol) (layout : Layout) (line : List ℕ) (statement : Option Statement) (laid : Laid)
    → IsKnown layout → judged_line symbols layout line statement ≡ Ok laid → IsKnown (after_statement layout line statement)
line_known symbols layout line None laid known is = absurd cc
line_known symbols layout line (Some statement) laid known is =
    statement_known symbols layout line statement.label statement.operation laid known is

at_line_is : {A : Type 0} (number : ℕ) (r : Result A AsmKind) (x : A) → at_line number r ≡ Ok x → r ≡ Ok x
at_line_is number (Ok y) x is = let same : y ≡ x = cc in ap Ok same
at_line_is number (Err kind) x is = absurd cc

lines_known : (symbols : List Symbol) (layout : Layout) (chunks : Chunks) (lines others : List Line) (given : Chunks)
    → IsKnown layout → chunks_from symbols layout chunks (lines ++ others) ≡ Ok given → IsKnown (after_lines layout lines)
lines_known symbols layout chunks [] others given known is = known
lines_known symbols layout chunks (line ∷ lines) others given known is =
    let r = judged_line symbols layout line.characters (statement_in line.characters) in
    let more = λ (laid : Laid). with_laid chunks (address_or_zero layout.at) laid in
    let a = bound (at_line line.number r) (λ (laid : Laid). chunks_from symbols (after_line layout line) (more laid) (lines ++ others)) given is in
    let one = line_known symbols layout line.characters (statement_in line.characters) a.0 known (at_line_is line.number r a.0 a.1.0) in
    lines_known symbols (after_line layout line) (more a.0) lines others given one a.1.1

finished_is : (r : Result Chunks Fault) (image : List (ℕ × List ℕ)) → finished r ≡ Ok image → (chunks : Chunks) × (r ≡ Ok chunks)
finished_is (Ok chunks) image is = (chunks, refl)
finished_is (Err fault) image is = absurd cc

pub image_known : ImageLeavesNothingUnknown
image_known text image lines others is same =
    let symbols = symbols_of (numbered text) in
    let all = finished_is (chunks_from symbols beginning no_chunks (numbered text)) image is in
    let start : IsKnown beginning = record { at = refl; symbols = All-nil HasValue } in
    lines_known symbols beginning no_chunks lines others all.0 start
    (subst (λ (ls : List Line). chunks_from symbols beginning no_chunks ls ≡ Ok all.0) same all.1)
