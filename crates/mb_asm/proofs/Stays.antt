-- A line that is faulty while something is not known is faulty when it is known.
use Rattle.std.proofs.Common.{◌≡◌, ℕ, ◌≤◌, Bool, true, false, List, [], ◌∷◌, ◌++◌, length, Option, None, Some, refl, sym, ap, ◌∙◌, subst, is_some, arith}
use Rattle.std.proofs.Common.{inl, inr, le_refl, length-append, true≢false, zero-le}
use Rattle.std.proofs.Math.Path.{fun_ext}
use Rattle.std.proofs.lemmas.Bool.Decides.{nat_tests}
use Rattle.std.specs.Prelude.{ℤ, pos, ◌+◌, ◌*◌, ◌%◌, ◌^◌, nat_lt, ◌+ℤ◌, ◌||◌, ◌&&◌, not, min, Result, Ok, Err, is_err, option_map, option_and_then}
use Rattle.std.specs.Prelude.{if◌then◌else◌, map}
use Rattle.std.specs.Option.{ok_or, unwrap_or}
use Rattle.std.specs.List.{list_any}
use Rattle.byteorder.specs.Endian.{big_bytes}
use Rattle.byteorder.specs.Numbers.{length-bytes_high_first}
use Rattle.mb_lines.specs.Results.{◌>>=◌}
use Rattle.mb_syntax.specs.Options.{has}
use Rattle.mb_syntax.specs.declared.word.Name.{Name}
use Rattle.mb_syntax.specs.declared.expression.Term.{Term}
use Rattle.mb_syntax.specs.declared.expression.Term.TheVariants as term
use Rattle.mb_syntax.specs.declared.expression.SignedTerm.{SignedTerm}
use Rattle.mb_syntax.specs.declared.mode.Displacement.{Displacement}
use Rattle.mb_syntax.specs.declared.mode.Mode.{Mode}
use Rattle.mb_syntax.specs.declared.mode.Mode.TheVariants as mode
use Rattle.mb_syntax.specs.declared.operand.Operand.{Operand}
use Rattle.mb_syntax.specs.declared.operand.Operand.TheVariants as operand
use Rattle.mb_syntax.specs.declared.operand.FieldNumber.{FieldNumber}
use Rattle.mb_syntax.specs.declared.operand.FieldNumber.TheVariants as field_number
use Rattle.mb_syntax.specs.Modes.{Sum}
use Rattle.mb_syntax.specs.Spans.{bytes_at}
use Rattle.mb_syntax.specs.Statements.{Operation}
use Rattle.mb_instr.specs.declared.instruction.Instr.{Instr}
use Rattle.mb_mnemonics.specs.declared.fault.MeansFault.{MeansFault}
use Rattle.mb_mnemonics.specs.Means.{length_by, meaning}
use Rattle.mb_mnemonics.specs.Ranges.{number}
use Rattle.mb_mnemonics.specs.Values.{valued, valued_displacement, valued_mode, valued_number}
use Rattle.mb_mnemonics.proofs.SameForm.{length_by_same}
use Rattle.mb_asm.specs.declared.directive.Directive.{Directive}
use Rattle.mb_asm.specs.declared.directive.Directive.TheVariants as directive
use Rattle.mb_asm.specs.declared.fault.AsmKind.{AsmKind}
use Rattle.mb_asm.specs.declared.fault.AsmKind.TheVariants as kind
use Rattle.mb_asm.specs.declared.value.Flaw.TheVariants as flaw
use Rattle.mb_asm.specs.Bytes.{operation_bytes, instr_bytes, has_out, is_out, bytes_there, dc_bytes, directive_bytes, instruction_bytes, item_bytes, items_bytes}
use Rattle.mb_asm.specs.Bytes.{plain_bytes, bytes_where_known}
use Rattle.mb_asm.specs.Bytes.{text_bytes, unit_bytes, unit_range}
use Rattle.mb_asm.specs.Code.{admitted, laid_to}
use Rattle.mb_asm.specs.Directives.{only_of, plain_of, unit_of}
use Rattle.mb_asm.specs.Extents.{org_address, address_behind, behind_dc, behind_ds, behind_even, behind_instruction, behind_item, behind_items}
use Rattle.mb_asm.specs.Extents.{behind_org, ds_count, directive_in, equ_value, even_from, is_empty, item_len, equ_long, narrow_value, no_size, only_value}
use Rattle.mb_asm.specs.Extents.{onward}
use Rattle.mb_asm.specs.declared.addresses.TheConstants.{PAST}
use Rattle.mb_asm.specs.Extents.{ranged}
use Rattle.mb_asm.specs.Judged.{Laid, ends_past, equ_checked, has_no_name, is_address, is_again, is_misplaced, is_odd, is_past, judged_by}
use Rattle.mb_asm.specs.Judged.{judged_label}
use Rattle.mb_asm.specs.Judged.{judged_operation, judged_statement, address_or_zero, reaches_past, reads_earlier, wants_label}
use Rattle.mb_asm.specs.Kinds.{meant}
use Rattle.mb_asm.specs.Laws.{FaultyStaysFaulty, FoundStays, LayoutStays, Stays, SymbolsStay}
use Rattle.mb_asm.specs.Layouts.{Layout, earlier}
use Rattle.mb_asm.specs.Results.{refuse}
use Rattle.mb_asm.specs.Symbols.{Symbol, value_in}
use Rattle.mb_asm.specs.Values.{Scope, value_or_one, near, target, has_flaw, have_flaw, in_displacement, in_mode, in_number, in_operand, is_long}
use Rattle.mb_asm.specs.Values.{is_nameless}
use Rattle.mb_asm.specs.Values.{is_wide, signed_value, sum_behind, term_value, value_of, values_of, with_sign}
use Rattle.mb_asm.proofs.Filled.{Fills, IsNumber, IsTarget, all_filled, all_unmarked, fill, near_at, out_stays, unmarked}
use Rattle.mb_asm.proofs.Parts.{judged_parts}
use Rattle.mb_asm.proofs.Known.{behind_by, bound}
use Rattle.mb_mnemonics.proofs.Names.{neither}

-- ---- expressions

-- two scopes of one line, of which the second knows more
abbrev pub scope_at : List Symbol → List ℕ → Option ℕ → Scope
scope_at symbols line at = record { symbols = symbols; line = line; at = at }

stays_by : {A : Type 0} (x y : Option A) → ((v : A) → x ≡ Some v → y ≡ Some v) → Stays x y
stays_by None y h = tt
stays_by (Some v) y h = h v refl

pub map_stays : {A B : Type 0} (f : A → B) (x y : Option A) → Stays x y → Stays (option_map f x) (option_map f y)
map_stays f None y p = tt
map_stays f (Some v) y p = rw p refl

then_stays : {A B : Type 0} (f g : A → Option B) (x y : Option A) → Stays x y → ((v : A) → Stays (f v) (g v))
    → Stays (option_and_then f x) (option_and_then g y)
then_stays f g None y p next = tt
then_stays f g (Some v) y p next = rw p (next v)

found_stays : (b a : Option (Option ℤ)) → FoundStays b a → Stays (unwrap_or b None) (unwrap_or a None)
found_stays None a s = tt
found_stays (Some None) a s = tt
found_stays (Some (Some x)) a s = rw s refl

pub found_same : (b a : Option (Option ℤ)) → FoundStays b a → is_some b ≡ is_some a
found_same None a s = rw s refl
found_same (Some None) a s = sym s
found_same (Some (Some x)) a s = rw s refl

term_stays : (line : List ℕ) (ss ts : List Symbol) (a b : Option ℕ) (t : Term) → SymbolsStay ss ts → Stays a b
    → Stays (term_value (scope_at ss line a) t) (term_value (scope_at ts line b) t)
term_stays line ss ts a b (term.Number n) s p = refl
term_stays line ss ts a b term.WideNumber s p = refl
term_stays line ss ts a b (term.Symbol name) s p =
    found_stays (value_in ss (bytes_at line name)) (value_in ts (bytes_at line name)) (s (bytes_at line name))
term_stays line ss ts a b term.Here s p = map_stays pos a b p

sum_stays : (line : List ℕ) (ss ts : List Symbol) (a b : Option ℕ) (sum : ℤ) (terms : Sum) → SymbolsStay ss ts → Stays a b
    → Stays (sum_behind (scope_at ss line a) sum terms) (sum_behind (scope_at ts line b) sum terms)
sum_stays line ss ts a b sum [] s p = refl
sum_stays line ss ts a b sum (one ∷ terms) s p =
    then_stays (λ value. sum_behind (scope_at ss line a) (sum +ℤ value) terms) (λ value. sum_behind (scope_at ts line b) (sum +ℤ value) terms)
    (signed_value (scope_at ss line a) one) (signed_value (scope_at ts line b) one)
    (map_stays (with_sign one.is_negative) (term_value (scope_at ss line a) one.term) (term_value (scope_at ts line b) one.term)
    (term_stays line ss ts a b one.term s p))
    (λ value. sum_stays line ss ts a b (sum +ℤ value) terms s p)

value_stays : (line : List ℕ) (ss ts : List Symbol) (a b : Option ℕ) (terms : Sum) → SymbolsStay ss ts → Stays a b
    → Stays (value_of (scope_at ss line a) terms) (value_of (scope_at ts line b) terms)
value_stays line ss ts a b terms s p =
    elim (is_long terms) as (λ c. Stays (if c then Some (pos 0) else sum_behind (scope_at ss line a) (pos 0) terms)
    (if c then Some (pos 0) else sum_behind (scope_at ts line b) (pos 0) terms)) [
      | true ↦ refl
      | false ↦ sum_stays line ss ts a b (pos 0) terms s p
    ]

nameless_term : (line : List ℕ) (ss ts : List Symbol) (a b : Option ℕ) (negative : Bool) (t : Term) → SymbolsStay ss ts
    → is_nameless (scope_at ss line a) (record { is_negative = negative; term = t })
    ≡ is_nameless (scope_at ts line b) (record { is_negative = negative; term = t })
nameless_term line ss ts a b negative (term.Symbol name) s =
    ap not (found_same (value_in ss (bytes_at line name)) (value_in ts (bytes_at line name)) (s (bytes_at line name)))
nameless_term line ss ts a b negative _ s = refl

-- the same names are there
nameless_same : (line : List ℕ) (ss ts : List Symbol) (a b : Option ℕ) (operands : List (Operand Sum)) → SymbolsStay ss ts
    → have_flaw flaw.Nameless (scope_at ss line a) operands ≡ have_flaw flaw.Nameless (scope_at ts line b) operands
nameless_same line ss ts a b operands s =
    ap (λ (test : SignedTerm → Bool). list_any (in_operand (λ (terms : Sum). list_any test terms)) operands)
    (fun_ext (λ (t : SignedTerm). nameless_term line ss ts a b t.is_negative t.term s))

-- ---- what a step gives: the same, unless it is not known

abbrev pub GivenStays : {A : Type 0} → Result (Option A) AsmKind → Result (Option A) AsmKind → Type 0
GivenStays (Ok None) after = Unit {0}
GivenStays (Ok (Some x)) after = after ≡ Ok (Some x)
GivenStays (Err e) after = after ≡ Err e

same_stays : {A : Type 0} (r : Result (Option A) AsmKind) → GivenStays r r
same_stays (Ok None) = tt
same_stays (Ok (Some x)) = refl
same_stays (Err e) = refl

ok_stays : {A : Type 0} (x y : Option A) → Stays x y → GivenStays (Ok x) (Ok y)
ok_stays None y p = tt
ok_stays (Some x) y p = ap Ok p

front_stays : {X A : Type 0} (first : Result X AsmKind) (f g : X → Result (Option A) AsmKind) → ((x : X) → GivenStays (f x) (g x))
    → GivenStays (first >>= f) (first >>= g)
front_stays (Ok x) f g next = next x
front_stays (Err e) f g next = refl

narrow_stays : (line : List ℕ) (ss ts : List Symbol) (a b : Option ℕ) (terms : Sum) → SymbolsStay ss ts → Stays a b
    → GivenStays (narrow_value (scope_at ss line a) terms) (narrow_value (scope_at ts line b) terms)
unfolding narrow_value
narrow_stays line ss ts a b terms s p =
    elim (is_long terms || list_any is_wide terms) as (λ c. GivenStays (if c then Err kind.Range else Ok (value_of (scope_at ss line a) terms))
    (if c then Err kind.Range else Ok (value_of (scope_at ts line b) terms))) [
      | true ↦ refl
      | false ↦ ok_stays (value_of (scope_at ss line a) terms) (value_of (scope_at ts line b) terms) (value_stays line ss ts a b terms s p)
    ]

only_stays : (line : List ℕ) (ss ts : List Symbol) (a b : Option ℕ) (operands : List (Operand Sum)) → SymbolsStay ss ts → Stays a b
    → GivenStays (only_value (scope_at ss line a) operands) (only_value (scope_at ts line b) operands)
only_stays line ss ts a b operands s p =
    front_stays (ok_or (only_of operands) kind.Operand) (narrow_value (scope_at ss line a)) (narrow_value (scope_at ts line b))
    (λ terms. narrow_stays line ss ts a b terms s p)

ranged_stays : {A : Type 0} (says : ℤ → Option A) (r t : Result (Option ℤ) AsmKind) → GivenStays r t → GivenStays (r >>= ranged says) (t >>= ranged says)
ranged_stays says (Ok None) t p = tt
ranged_stays says (Ok (Some x)) t p = rw p (same_stays (ranged says (Some x)))
ranged_stays says (Err e) t p = rw p refl

-- ---- extents

org_stays : (line : List ℕ) (ss ts : List Symbol) (a b : Option ℕ) (operation : Operation) → SymbolsStay ss ts → Stays a b
    → GivenStays (behind_org (scope_at ss line a) operation) (behind_org (scope_at ts line b) operation)
org_stays line ss ts a b operation s p =
    front_stays (no_size operation.size) (λ none. only_value (scope_at ss line a) operation.operands >>= ranged org_address)
    (λ none. only_value (scope_at ts line b) operation.operands >>= ranged org_address)
    (λ none. ranged_stays org_address (only_value (scope_at ss line a) operation.operands) (only_value (scope_at ts line b) operation.operands)
    (only_stays line ss ts a b operation.operands s p))

pub equ_stays : (line : List ℕ) (ss ts : List Symbol) (a b : Option ℕ) (operation : Operation) → SymbolsStay ss ts → Stays a b
    → GivenStays (equ_value (scope_at ss line a) operation) (equ_value (scope_at ts line b) operation)
equ_stays line ss ts a b operation s p =
    front_stays (no_size operation.size) (λ none. only_value (scope_at ss line a) operation.operands >>= ranged equ_long)
    (λ none. only_value (scope_at ts line b) operation.operands >>= ranged equ_long)
    (λ none. ranged_stays equ_long (only_value (scope_at ss line a) operation.operands) (only_value (scope_at ts line b) operation.operands)
    (only_stays line ss ts a b operation.operands s p))

onward_stays : (a b : Option ℕ) (n : ℕ) → Stays a b → Stays (onward a n) (onward b n)
onward_stays a b n p = map_stays (λ known. min (known + n) PAST) a b p

-- the address behind so many units
abbrev pub units_on : Option ℕ → ℕ → Option ℕ → Option ℕ
units_on at unit count = option_and_then (λ n. onward at (unit * n)) count

units_stay : (a b : Option ℕ) (unit : ℕ) (r t : Result (Option ℤ) AsmKind) → GivenStays r t → Stays a b
    → GivenStays (r >>= λ value. ranged ds_count value >>= λ count. Ok (units_on a unit count))
    (t >>= λ value. ranged ds_count value >>= λ count. Ok (units_on b unit count))
units_stay a b unit (Ok None) t p s = tt
units_stay a b unit (Ok (Some x)) t p s =
    rw p (front_stays (ranged ds_count (Some x)) (λ count. Ok (units_on a unit count)) (λ count. Ok (units_on b unit count))
    (λ count. ok_stays (units_on a unit count) (units_on b unit count)
    (then_stays (λ n. onward a (unit * n)) (λ n. onward b (unit * n)) count count (stays_by count count (λ v h. h)) (λ n. onward_stays a b (unit * n) s))))
units_stay a b unit (Err e) t p s = rw p refl

ds_stays : (line : List ℕ) (ss ts : List Symbol) (a b : Option ℕ) (operation : Operation) → SymbolsStay ss ts → Stays a b
    → GivenStays (behind_ds (scope_at ss line a) operation) (behind_ds (scope_at ts line b) operation)
ds_stays line ss ts a b operation s p =
    front_stays (ok_or (unit_of operation.size) kind.Operand)
    (λ unit. only_value (scope_at ss line a) operation.operands >>= λ value. ranged ds_count value >>= λ count. Ok (units_on a unit count))
    (λ unit. only_value (scope_at ts line b) operation.operands >>= λ value. ranged ds_count value >>= λ count. Ok (units_on b unit count))
    (λ unit. units_stay a b unit (only_value (scope_at ss line a) operation.operands) (only_value (scope_at ts line b) operation.operands)
    (only_stays line ss ts a b operation.operands s p) p)

items_stay : (unit : ℕ) (a b : Option ℕ) (items : List (Operand Sum)) → Stays a b
    → GivenStays (behind_items unit a items) (behind_items unit b items)
items_stay unit a b [] p = ok_stays a b p
items_stay unit a b (item ∷ items) p =
    elim (item_len unit item) as (λ len. GivenStays (ok_or (behind_item a len) kind.Operand >>= λ next. behind_items unit next items)
    (ok_or (behind_item b len) kind.Operand >>= λ next. behind_items unit next items)) [
      | None ↦ refl
      | Some len ↦ items_stay unit (onward a len) (onward b len) items (onward_stays a b len p)
    ]

dc_stays : (a b : Option ℕ) (operation : Operation) → Stays a b → GivenStays (behind_dc a operation) (behind_dc b operation)
dc_stays a b operation p =
    front_stays (ok_or (unit_of operation.size) kind.Operand)
    (λ unit. refuse (is_empty operation.operands) kind.Operand >>= λ some. behind_items unit a operation.operands)
    (λ unit. refuse (is_empty operation.operands) kind.Operand >>= λ some. behind_items unit b operation.operands)
    (λ unit. front_stays (refuse (is_empty operation.operands) kind.Operand) (λ some. behind_items unit a operation.operands)
    (λ some. behind_items unit b operation.operands) (λ some. items_stay unit a b operation.operands p))

even_stays : (a b : Option ℕ) (operation : Operation) → Stays a b → GivenStays (behind_even a operation) (behind_even b operation)
even_stays a b operation p =
    front_stays (no_size operation.size) (λ none. refuse (not (is_empty operation.operands)) kind.Operand >>= λ no_operand. Ok (even_from a))
    (λ none. refuse (not (is_empty operation.operands)) kind.Operand >>= λ no_operand. Ok (even_from b))
    (λ none. front_stays (refuse (not (is_empty operation.operands)) kind.Operand) (λ no_operand. Ok (even_from a)) (λ no_operand. Ok (even_from b))
    (λ no_operand. ok_stays (even_from a) (even_from b) (map_stays (λ x. min (x + x % 2) PAST) a b p)))

instruction_stays : (line : List ℕ) (ss ts : List Symbol) (a b : Option ℕ) (operation : Operation) → Stays a b
    → GivenStays (behind_instruction (scope_at ss line a) operation) (behind_instruction (scope_at ts line b) operation)
instruction_stays line ss ts a b operation p =
    rw (length_by_same (value_or_one (scope_at ss line a)) (value_or_one (scope_at ts line b)) (bytes_at line operation.name) operation.size operation.operands)
    (front_stays (meant (length_by (bytes_at line operation.name) operation.size (values_of (scope_at ts line b) operation.operands)))
    (λ len. Ok (onward a len)) (λ len. Ok (onward b len)) (λ len. ok_stays (onward a len) (onward b len) (onward_stays a b len p)))

pub behind_stays : (line : List ℕ) (ss ts : List Symbol) (a b : Option ℕ) (operation : Operation) → SymbolsStay ss ts → Stays a b
    → GivenStays (address_behind (scope_at ss line a) operation) (address_behind (scope_at ts line b) operation)
unfolding address_behind
behind_stays line ss ts a b operation s p =
    elim (directive_in line operation) as (λ found. GivenStays (behind_by (scope_at ss line a) operation found)
    (behind_by (scope_at ts line b) operation found)) [
      | None ↦ instruction_stays line ss ts a b operation p
      | Some directive.Org ↦ org_stays line ss ts a b operation s p
      | Some directive.Equ ↦ ok_stays a b p
      | Some directive.Dc ↦ dc_stays a b operation p
      | Some directive.Ds ↦ ds_stays line ss ts a b operation s p
      | Some directive.Even ↦ even_stays a b operation p
    ]

-- ---- faults stay

abbrev pub ErrStays : {A B : Type 0} → Result A AsmKind → Result B AsmKind → Type 0
ErrStays before after = is_err before ≡ true → is_err after ≡ true

err_by : {A : Type 0} (r t : Result (Option A) AsmKind) → GivenStays r t → ErrStays r t
err_by (Ok None) t p e = absurd cc
err_by (Ok (Some x)) t p e = absurd cc
err_by (Err k) t p e = rw p refl

given_by : {A : Type 0} (r t : Result (Option A) AsmKind) (x y : Option A) → GivenStays r t → r ≡ Ok x → t ≡ Ok y → Stays x y
given_by (Ok None) t x y p is there = let none : None ≡ x = cc in subst (λ o. Stays o y) none tt
given_by (Ok (Some v)) t x y p is there =
    let some : Some v ≡ x = cc in
    let same : y ≡ Some v = cc in
    subst (λ o. Stays o y) some same
given_by (Err k) t x y p is there = absurd cc

bound_stays : {A B C D : Type 0} (r : Result A AsmKind) (t : Result B AsmKind) (f : A → Result C AsmKind) (g : B → Result D AsmKind) → ErrStays r t
    → ((x : A) (y : B) → r ≡ Ok x → t ≡ Ok y → ErrStays (f x) (g y)) → ErrStays (r >>= f) (t >>= g)
bound_stays (Ok x) (Ok y) f g e next h = next x y refl refl h
bound_stays (Ok x) (Err k) f g e next h = refl
bound_stays (Err k) (Ok y) f g e next h = absurd (true≢false (sym (e refl)))
bound_stays (Err k) (Err l) f g e next h = refl

refuse_stays : (b c : Bool) (k l : AsmKind) → (b ≡ true → c ≡ true) → ErrStays (refuse b k) (refuse c l)
refuse_stays true c k l m h = rw (m refl) refl
refuse_stays false c k l m h = absurd cc

or_right : (p q : Bool) → q ≡ true → (p || q) ≡ true
or_right true q h = refl
or_right false q h = h

or_stays : (p q r s : Bool) → (p ≡ true → r ≡ true) → (q ≡ true → s ≡ true) → (p || q) ≡ true → (r || s) ≡ true
or_stays true q r s m n h = rw (m refl) refl
or_stays false q r s m n h = or_right r s (n h)

-- ---- bytes: what is faulty stays so, and they are no fewer

pub record BytesStay (r t : Result (List ℕ) AsmKind) : Type 0 where
  pub faulty : ErrStays r t
  pub longer : (x y : List ℕ) → r ≡ Ok x → t ≡ Ok y → length x ≤ length y

-- bytes that are written
abbrev pub written : List ℕ → Result (List ℕ) AsmKind
written x = Ok x

both_ok : (z x y : List ℕ) → written z ≡ written x → written z ≡ written y → length x ≤ length y
both_ok z x y is there =
    let same : x ≡ y = cc in
    subst (λ (w : List ℕ). length x ≤ length w) same (le_refl (length x))

same_bytes : (r : Result (List ℕ) AsmKind) → BytesStay r r
same_bytes (Ok z) = record { faulty = λ h. h; longer = λ x y is there. both_ok z x y is there }
same_bytes (Err k) = record { faulty = λ h. h; longer = λ x y is there. absurd cc }

front_bytes : {X : Type 0} (first : Result X AsmKind) (f g : X → Result (List ℕ) AsmKind) → ((x : X) → BytesStay (f x) (g x))
    → BytesStay (first >>= f) (first >>= g)
front_bytes (Ok x) f g next = next x
front_bytes (Err k) f g next = record { faulty = λ h. h; longer = λ x y is there. absurd cc }

value_ranged : {A : Type 0} (says : ℤ → Option A) (x y : Option ℤ) → Stays x y → GivenStays (ranged says x) (ranged says y)
value_ranged says None y p = tt
value_ranged says (Some v) y p = rw p (same_stays (ranged says (Some v)))

unit_faulty : (unit : ℕ) (line : List ℕ) (ss ts : List Symbol) (a b : Option ℕ) (terms : Sum) → SymbolsStay ss ts → Stays a b
    → ErrStays (unit_bytes unit (scope_at ss line a) terms) (unit_bytes unit (scope_at ts line b) terms)
unit_faulty unit line ss ts a b terms s p =
    let r = narrow_value (scope_at ss line a) terms in
    let t = narrow_value (scope_at ts line b) terms in
    let says = number (unit_range unit) in
    let last = λ (spelled : Option ℕ). written (big_bytes unit (unwrap_or spelled 0)) in
    let given = narrow_stays line ss ts a b terms s p in
    bound_stays r t (λ value. ranged says value >>= last) (λ value. ranged says value >>= last) (err_by r t given)
    (λ x y is there. bound_stays (ranged says x) (ranged says y) last last
    (err_by (ranged says x) (ranged says y) (value_ranged says x y (given_by r t x y given is there))) (λ u v i j h. h))

unit_length : (unit : ℕ) (scope : Scope) (terms : Sum) (x : List ℕ) → unit_bytes unit scope terms ≡ Ok x → length x ≡ unit
unit_length unit scope terms x is =
    let says = number (unit_range unit) in
    let last = λ (spelled : Option ℕ). written (big_bytes unit (unwrap_or spelled 0)) in
    let a = bound (narrow_value scope terms) (λ value. ranged says value >>= last) x is in
    let b = bound (ranged says a.0) last x a.1.1 in
    let same : big_bytes unit (unwrap_or b.0 0) ≡ x = cc in
    subst (λ (operation_bytes : List ℕ). length operation_bytes ≡ unit) same (length-bytes_high_first unit (unwrap_or b.0 0))

plain_stays : (unit : ℕ) (line : List ℕ) (ss ts : List Symbol) (a b : Option ℕ) (given : Option Sum) → SymbolsStay ss ts → Stays a b
    → BytesStay (plain_bytes unit (scope_at ss line a) given) (plain_bytes unit (scope_at ts line b) given)
plain_stays unit line ss ts a b None s p = record { faulty = λ h. h; longer = λ x y is there. absurd cc }
plain_stays unit line ss ts a b (Some terms) s p = record {
  faulty = unit_faulty unit line ss ts a b terms s p;
  longer = λ x y is there.
      let i = unit_length unit (scope_at ss line a) terms x is in
      let j = unit_length unit (scope_at ts line b) terms y there in
      omega arith;
}

item_stays : (unit : ℕ) (line : List ℕ) (ss ts : List Symbol) (a b : Option ℕ) (item : Operand Sum) → SymbolsStay ss ts → Stays a b
    → BytesStay (item_bytes unit (scope_at ss line a) item) (item_bytes unit (scope_at ts line b) item)
item_stays unit line ss ts a b (operand.Text text) s p = same_bytes (Ok (text_bytes line text))
item_stays unit line ss ts a b item s p = plain_stays unit line ss ts a b (plain_of item) s p

appended : (x y u v : List ℕ) → length x ≤ length u → length y ≤ length v → length (x ++ y) ≤ length (u ++ v)
appended x y u v m n =
    let i = length-append x y in
    let j = length-append u v in
    omega arith

items_bytes_stay : (unit : ℕ) (line : List ℕ) (ss ts : List Symbol) (a b : Option ℕ) (items : List (Operand Sum)) → SymbolsStay ss ts → Stays a b
    → BytesStay (items_bytes unit (scope_at ss line a) items) (items_bytes unit (scope_at ts line b) items)
items_bytes_stay unit line ss ts a b [] s p = same_bytes (Ok [])
items_bytes_stay unit line ss ts a b (item ∷ items) s p =
    let r = item_bytes unit (scope_at ss line a) item in
    let t = item_bytes unit (scope_at ts line b) item in
    let u = items_bytes unit (scope_at ss line a) items in
    let v = items_bytes unit (scope_at ts line b) items in
    let one = item_stays unit line ss ts a b item s p in
    let rest = items_bytes_stay unit line ss ts a b items s p in
    let last = λ (x y : List ℕ). written (x ++ y) in
    record {
      faulty = bound_stays r t (λ first. u >>= last first) (λ first. v >>= last first) one.faulty
          (λ x y is there. bound_stays u v (last x) (last y) rest.faulty (λ m n i j h. h));
      longer = λ x y is there.
          let c = bound r (λ first. u >>= last first) x is in
          let d = bound u (last c.0) x c.1.1 in
          let e = bound t (λ first. v >>= last first) y there in
          let f = bound v (last e.0) y e.1.1 in
          let i : c.0 ++ d.0 ≡ x = cc in
          let j : e.0 ++ f.0 ≡ y = cc in
          subst (λ (z : List ℕ). length x ≤ length z) j (subst (λ (z : List ℕ). length z ≤ length (e.0 ++ f.0)) i
          (appended c.0 d.0 e.0 f.0 (one.longer c.0 e.0 c.1.0 e.1.0) (rest.longer d.0 f.0 d.1.0 f.1.0)));
    }

dc_bytes_stay : (line : List ℕ) (ss ts : List Symbol) (a b : Option ℕ) (operation : Operation) → SymbolsStay ss ts → Stays a b
    → BytesStay (dc_bytes (scope_at ss line a) operation) (dc_bytes (scope_at ts line b) operation)
dc_bytes_stay line ss ts a b operation s p =
    front_bytes (ok_or (unit_of operation.size) kind.Operand) (λ unit. items_bytes unit (scope_at ss line a) operation.operands)
    (λ unit. items_bytes unit (scope_at ts line b) operation.operands)
    (λ unit. items_bytes_stay unit line ss ts a b operation.operands s p)

-- ---- instructions

-- expressions of which one test says no, and what follows of them
record Follows (t u : Sum → Bool) (f g : Sum → ℤ) : Type 0 where
  pub test : (e : Sum) → t e ≡ false → u e ≡ false
  pub value : (e : Sum) → t e ≡ false → f e ≡ g e

both_false : (p q : Bool) → p ≡ false → q ≡ false → (p || q) ≡ false
both_false p q h k = rw h k

option_test : (t u : Sum → Bool) (f g : Sum → ℤ) (d : Option (Displacement Sum)) → Follows t u f g → has (in_displacement t) d ≡ false
    → has (in_displacement u) d ≡ false
option_test t u f g None h k = refl
option_test t u f g (Some d) h k = h.test d.value k

option_value : (t u : Sum → Bool) (f g : Sum → ℤ) (d : Option (Displacement Sum)) → Follows t u f g → has (in_displacement t) d ≡ false
    → option_map (valued_displacement f) d ≡ option_map (valued_displacement g) d
option_value t u f g None h k = refl
option_value t u f g (Some d) h k = rw (h.value d.value k) refl

mode_test : (t u : Sum → Bool) (f g : Sum → ℤ) (m : Mode Sum) → Follows t u f g → in_mode t m ≡ false → in_mode u m ≡ false
mode_test t u f g (mode.Displaced n e) h k = h.test e k
mode_test t u f g (mode.Indexed n e i) h k = h.test e k
mode_test t u f g (mode.Absolute e w) h k = h.test e k
mode_test t u f g (mode.PcDisplaced e) h k = h.test e k
mode_test t u f g (mode.PcIndexed e i) h k = h.test e k
mode_test t u f g (mode.Full form) h k =
    let both = neither (has (in_displacement t) form.displacement) (has (in_displacement t) form.outer) k in
    both_false (has (in_displacement u) form.displacement) (has (in_displacement u) form.outer)
    (option_test t u f g form.displacement h both.0) (option_test t u f g form.outer h both.1)
mode_test t u f g (mode.Immediate e) h k = h.test e k
mode_test t u f g _ h k = refl

mode_value : (t u : Sum → Bool) (f g : Sum → ℤ) (m : Mode Sum) → Follows t u f g → in_mode t m ≡ false → valued_mode f m ≡ valued_mode g m
mode_value t u f g (mode.Displaced n e) h k = rw (h.value e k) refl
mode_value t u f g (mode.Indexed n e i) h k = rw (h.value e k) refl
mode_value t u f g (mode.Absolute e w) h k = rw (h.value e k) refl
mode_value t u f g (mode.PcDisplaced e) h k = rw (h.value e k) refl
mode_value t u f g (mode.PcIndexed e i) h k = rw (h.value e k) refl
mode_value t u f g (mode.Full form) h k =
    let both = neither (has (in_displacement t) form.displacement) (has (in_displacement t) form.outer) k in
    rw (option_value t u f g form.displacement h both.0, option_value t u f g form.outer h both.1) refl
mode_value t u f g (mode.Immediate e) h k = rw (h.value e k) refl
mode_value t u f g _ h k = refl

number_test : (t u : Sum → Bool) (f g : Sum → ℤ) (n : FieldNumber Sum) → Follows t u f g → in_number t n ≡ false → in_number u n ≡ false
number_test t u f g (field_number.Number e) h k = h.test e k
number_test t u f g (field_number.Data n) h k = refl

number_value : (t u : Sum → Bool) (f g : Sum → ℤ) (n : FieldNumber Sum) → Follows t u f g → in_number t n ≡ false
    → valued_number f n ≡ valued_number g n
number_value t u f g (field_number.Number e) h k = rw (h.value e k) refl
number_value t u f g (field_number.Data n) h k = refl

operand_test : (t u : Sum → Bool) (f g : Sum → ℤ) (o : Operand Sum) → Follows t u f g → in_operand t o ≡ false → in_operand u o ≡ false
operand_test t u f g (operand.Mode m) h k = mode_test t u f g m h k
operand_test t u f g (operand.Field m b) h k =
    let both = neither (in_mode t m) (in_number t b.offset || in_number t b.width) k in
    let two = neither (in_number t b.offset) (in_number t b.width) both.1 in
    both_false (in_mode u m) (in_number u b.offset || in_number u b.width) (mode_test t u f g m h both.0)
    (both_false (in_number u b.offset) (in_number u b.width) (number_test t u f g b.offset h two.0) (number_test t u f g b.width h two.1))
operand_test t u f g _ h k = refl

operand_value : (t u : Sum → Bool) (f g : Sum → ℤ) (o : Operand Sum) → Follows t u f g → in_operand t o ≡ false → valued f o ≡ valued g o
operand_value t u f g (operand.Mode m) h k = rw (mode_value t u f g m h k) refl
operand_value t u f g (operand.Field m b) h k =
    let both = neither (in_mode t m) (in_number t b.offset || in_number t b.width) k in
    let two = neither (in_number t b.offset) (in_number t b.width) both.1 in
    rw (mode_value t u f g m h both.0, number_value t u f g b.offset h two.0, number_value t u f g b.width h two.1) refl
operand_value t u f g _ h k = refl

operands_test : (t u : Sum → Bool) (f g : Sum → ℤ) (os : List (Operand Sum)) → Follows t u f g → list_any (in_operand t) os ≡ false
    → list_any (in_operand u) os ≡ false
operands_test t u f g [] h k = refl
operands_test t u f g (o ∷ os) h k =
    let both = neither (in_operand t o) (list_any (in_operand t) os) k in
    both_false (in_operand u o) (list_any (in_operand u) os) (operand_test t u f g o h both.0) (operands_test t u f g os h both.1)

operands_value : (t u : Sum → Bool) (f g : Sum → ℤ) (os : List (Operand Sum)) → Follows t u f g → list_any (in_operand t) os ≡ false
    → map (valued f) os ≡ map (valued g) os
operands_value t u f g [] h k = refl
operands_value t u f g (o ∷ os) h k =
    let both = neither (in_operand t o) (list_any (in_operand t) os) k in
    rw (operand_value t u f g o h both.0, operands_value t u f g os h both.1) refl

counted_stays : (x y : Option ℤ) → Stays x y → not (is_some x) ≡ false → unwrap_or x (pos 1) ≡ unwrap_or y (pos 1)
counted_stays None y p h = absurd cc
counted_stays (Some v) y p h = rw p refl

some_stays : (x y : Option ℤ) → Stays x y → not (is_some x) ≡ false → not (is_some y) ≡ false
some_stays None y p h = absurd cc
some_stays (Some v) y p h = rw p refl

follows : (line : List ℕ) (ss ts : List Symbol) (a b : Option ℕ) → SymbolsStay ss ts → Stays a b
    → Follows (has_flaw flaw.Unknown (scope_at ss line a)) (has_flaw flaw.Unknown (scope_at ts line b)) (value_or_one (scope_at ss line a))
    (value_or_one (scope_at ts line b))
follows line ss ts a b s p = record {
  test = λ e k. some_stays (value_of (scope_at ss line a) e) (value_of (scope_at ts line b) e) (value_stays line ss ts a b e s p) k;
  value = λ e k. counted_stays (value_of (scope_at ss line a) e) (value_of (scope_at ts line b) e) (value_stays line ss ts a b e s p) k;
}

nothing_first : (r : Result (List ℕ) AsmKind) → BytesStay (Ok []) r
nothing_first r = record {
  faulty = λ h. absurd (true≢false (sym h));
  longer = λ x y is there.
      let same : [] ≡ x = cc in
      subst (λ (z : List ℕ). length z ≤ length y) same zero-le;
}

there_same : (line : List ℕ) (ss ts : List Symbol) (a b : Option ℕ) (operation : Operation) (x : ℕ)
    → values_of (scope_at ss line a) operation.operands ≡ values_of (scope_at ts line b) operation.operands
    → bytes_there (scope_at ss line a) operation x ≡ bytes_there (scope_at ts line b) operation x
there_same line ss ts a b operation x same =
    ap (λ (values : List (Operand ℤ)). meant (meaning (bytes_at line operation.name) operation.size values (x % 2 ^ 32)) >>= λ i. Ok (instr_bytes i)) same

-- ---- where a number is out of its range

counted_near : (x y : Option ℤ) → Stays x y → IsNumber (unwrap_or x (pos 1)) (unwrap_or y (pos 1))
counted_near None y p = inr refl
counted_near (Some v) y p = inl (rw p refl)

target_near : (x : Option ℤ) (y : Option ℤ) (i j : ℕ) (u : ℤ) → Stays x y → i ≡ j → IsTarget i j (unwrap_or x (near_at i)) (unwrap_or y u)
target_near None y i j u p same = inr refl
target_near (Some v) y i j u p same = inl (same, rw p refl)

-- the address of a statement, modulo 2^32
abbrev pub low_at : Option ℕ → ℕ
low_at at = unwrap_or at 0 % 4294967296

near_same : (symbols : List Symbol) (line : List ℕ) (at : Option ℕ) → near (scope_at symbols line at) ≡ near_at (low_at at)
near_same symbols line at =
    let e : (unwrap_or at 0 + 4) % 4294967296 ≡ (low_at at + 4) % 4294967296 = omega arith in
    ap pos e

-- the targets of a scope beside those of one that knows more
fill_target : (line : List ℕ) (ss ts : List Symbol) (a b : Option ℕ) (e : Sum) → SymbolsStay ss ts → Stays a b
    → IsTarget (low_at a) (low_at b) (target (scope_at ss line a) e) (target (scope_at ts line b) e)
fill_target line ss ts None b e s p = inr (near_same ss line None)
fill_target line ss ts (Some x) b e s p =
    rw (p, near_same ss line (Some x))
    (target_near (value_of (scope_at ss line (Some x)) e) (value_of (scope_at ts line (Some x)) e) (low_at (Some x)) (low_at (Some x))
    (near_at (low_at (Some x))) (value_stays line ss ts (Some x) (Some x) e s refl) refl)

fills_more : (line : List ℕ) (ss ts : List Symbol) (a b : Option ℕ) → SymbolsStay ss ts → Stays a b
    → Fills (low_at a) (low_at b) (fill (scope_at ss line a)) (fill (scope_at ts line b))
fills_more line ss ts a b s p = record {
  number = λ e. counted_near (value_of (scope_at ss line a) e) (value_of (scope_at ts line b) e) (value_stays line ss ts a b e s p);
  target = λ e. fill_target line ss ts a b e s p;
}

-- the targets of a scope beside the values of one in which the address is known
known_target : (line : List ℕ) (ss ts : List Symbol) (a : Option ℕ) (y : ℕ) (e : Sum) → SymbolsStay ss ts → Stays a (Some y)
    → IsTarget (low_at a) (y % 4294967296) (target (scope_at ss line a) e) (value_or_one (scope_at ts line (Some y)) e)
known_target line ss ts None y e s p = inr (near_same ss line None)
known_target line ss ts (Some x) y e s p =
    let same : x ≡ y = cc in
    rw (near_same ss line (Some x))
    (target_near (value_of (scope_at ss line (Some x)) e) (value_of (scope_at ts line (Some y)) e) (low_at (Some x)) (y % 4294967296)
    (pos 1) (value_stays line ss ts (Some x) (Some y) e s p) (ap (λ (n : ℕ). n % 4294967296) same))

fills_known : (line : List ℕ) (ss ts : List Symbol) (a : Option ℕ) (y : ℕ) → SymbolsStay ss ts → Stays a (Some y)
    → Fills (low_at a) (y % 4294967296) (fill (scope_at ss line a)) (unmarked (value_or_one (scope_at ts line (Some y))))
fills_known line ss ts a y s p = record {
  number = λ e. counted_near (value_of (scope_at ss line a) e) (value_of (scope_at ts line (Some y)) e) (value_stays line ss ts a (Some y) e s p);
  target = λ e. known_target line ss ts a y e s p;
}

out_more : (line : List ℕ) (ss ts : List Symbol) (a b : Option ℕ) (operation : Operation) → SymbolsStay ss ts → Stays a b
    → has_out (scope_at ss line a) operation ≡ true → has_out (scope_at ts line b) operation ≡ true
out_more line ss ts a b operation s p h =
    let name = bytes_at line operation.name in
    let os = operation.operands in
    subst (λ (vs : List (Operand ℤ)). is_out (meaning name operation.size vs (low_at b)) ≡ true) (sym (all_filled (scope_at ts line b) os))
    (out_stays name operation.size os (low_at a) (low_at b) (fill (scope_at ss line a)) (fill (scope_at ts line b)) (fills_more line ss ts a b s p)
    (subst (λ (vs : List (Operand ℤ)). is_out (meaning name operation.size vs (low_at a)) ≡ true) (all_filled (scope_at ss line a) os) h))

out_faulty : (r : Result Instr MeansFault) → is_out r ≡ true → is_err (meant r >>= λ i. Ok (instr_bytes i)) ≡ true
out_faulty (Err fault) h = refl
out_faulty (Ok i) h = absurd cc

out_known : (line : List ℕ) (ss ts : List Symbol) (a : Option ℕ) (y : ℕ) (operation : Operation) → SymbolsStay ss ts → Stays a (Some y)
    → has_out (scope_at ss line a) operation ≡ true → is_err (bytes_there (scope_at ts line (Some y)) operation y) ≡ true
out_known line ss ts a y operation s p h =
    let name = bytes_at line operation.name in
    let os = operation.operands in
    let value = value_or_one (scope_at ts line (Some y)) in
    out_faulty (meaning name operation.size (map (valued value) os) (y % 4294967296))
    (subst (λ (vs : List (Operand ℤ)). is_out (meaning name operation.size vs (y % 4294967296)) ≡ true) (sym (all_unmarked value os))
    (out_stays name operation.size os (low_at a) (y % 4294967296) (fill (scope_at ss line a)) (unmarked value) (fills_known line ss ts a y s p)
    (subst (λ (vs : List (Operand ℤ)). is_out (meaning name operation.size vs (low_at a)) ≡ true) (all_filled (scope_at ss line a) os) h)))

-- what is written where a number may be out of its range
abbrev pub unless_out : Bool → Result (List ℕ) AsmKind
unless_out out = refuse out kind.Range >>= λ known. Ok []

unless_first : (out : Bool) (r : Result (List ℕ) AsmKind) → (out ≡ true → is_err r ≡ true) → BytesStay (unless_out out) r
unless_first true r m = record { faulty = λ h. m refl; longer = λ x y is there. absurd cc }
unless_first false r m = nothing_first r

unless_faulty : (out : Bool) → out ≡ true → is_err (unless_out out) ≡ true
unless_faulty out h = rw h refl

-- what is not settled beside what may be
unsettled_stays : (line : List ℕ) (ss ts : List Symbol) (a b there : Option ℕ) (operation : Operation) → SymbolsStay ss ts → Stays a b
    → Stays there b
    → BytesStay (unless_out (has_out (scope_at ss line a) operation)) (bytes_where_known (scope_at ts line b) operation there)
unsettled_stays line ss ts a b None operation s p within =
    unless_first (has_out (scope_at ss line a) operation) (unless_out (has_out (scope_at ts line b) operation))
    (λ h. unless_faulty (has_out (scope_at ts line b) operation) (out_more line ss ts a b operation s p h))
unsettled_stays line ss ts a b (Some y) operation s p within =
    unless_first (has_out (scope_at ss line a) operation) (bytes_there (scope_at ts line b) operation y)
    (λ h. rw within (out_known line ss ts a y operation s (subst (Stays a) within p) h))

settled_within : (unknown : Bool) (b : Option ℕ) → Stays (if unknown then None else b) b
settled_within true b = tt
settled_within false None = tt
settled_within false (Some y) = refl

settled_stays : (line : List ℕ) (ss ts : List Symbol) (a b : Option ℕ) (operation : Operation) (unknown later : Bool) → SymbolsStay ss ts
    → Stays a b → (unknown ≡ false → later ≡ false) → (unknown ≡ false
    → values_of (scope_at ss line a) operation.operands ≡ values_of (scope_at ts line b) operation.operands)
    → BytesStay (bytes_where_known (scope_at ss line a) operation (if unknown then None else a)) (bytes_where_known (scope_at ts line b) operation
    (if later then None else b))
settled_stays line ss ts a b operation true later s p more same =
    unsettled_stays line ss ts a b (if later then None else b) operation s p (settled_within later b)
settled_stays line ss ts None b operation false later s p more same =
    unsettled_stays line ss ts None b (if later then None else b) operation s p (settled_within later b)
settled_stays line ss ts (Some x) b operation false later s p more same =
    let there : (if later then None else b) ≡ Some x = rw (more refl) p in
    let e : bytes_where_known (scope_at ts line b) operation (if later then None else b) ≡ bytes_there (scope_at ts line b) operation x =
    ap (bytes_where_known (scope_at ts line b) operation) there in
    subst (BytesStay (bytes_there (scope_at ss line (Some x)) operation x))
    (there_same line ss ts (Some x) b operation x (same refl) ∙ sym e) (same_bytes (bytes_there (scope_at ss line (Some x)) operation x))

-- what is written, where a test lets it
abbrev pub allowed : Bool → Result (List ℕ) AsmKind → Result (List ℕ) AsmKind
allowed wide r = r >>= λ x. refuse wide kind.Range >>= λ narrow. Ok x

allowed_stay : (r t : Result (List ℕ) AsmKind) (wide : Bool) → BytesStay r t → BytesStay (allowed wide r) (allowed wide t)
allowed_stay (Ok u) (Ok v) true s = same_bytes (Err kind.Range)
allowed_stay (Ok u) (Err k) true s = record { faulty = λ h. refl; longer = λ x y is there. absurd cc }
allowed_stay (Err k) (Ok v) true s = record { faulty = λ h. refl; longer = λ x y is there. absurd cc }
allowed_stay (Err k) (Err l) true s = record { faulty = λ h. refl; longer = λ x y is there. absurd cc }
allowed_stay (Ok u) (Ok v) false s = s
allowed_stay (Ok u) (Err k) false s = s
allowed_stay (Err k) (Ok v) false s = s
allowed_stay (Err k) (Err l) false s = s

instruction_bytes_stay : (line : List ℕ) (ss ts : List Symbol) (a b : Option ℕ) (operation : Operation) → SymbolsStay ss ts → Stays a b
    → BytesStay (instruction_bytes (scope_at ss line a) operation) (instruction_bytes (scope_at ts line b) operation)
instruction_bytes_stay line ss ts a b operation s p =
    let t = has_flaw flaw.Unknown (scope_at ss line a) in
    let u = has_flaw flaw.Unknown (scope_at ts line b) in
    let f = value_or_one (scope_at ss line a) in
    let g = value_or_one (scope_at ts line b) in
    let unknown = have_flaw flaw.Unknown (scope_at ss line a) operation.operands in
    let later = have_flaw flaw.Unknown (scope_at ts line b) operation.operands in
    allowed_stay (bytes_where_known (scope_at ss line a) operation (if unknown then None else a))
    (bytes_where_known (scope_at ts line b) operation (if later then None else b))
    (have_flaw flaw.Wide (scope_at ts line b) operation.operands)
    (settled_stays line ss ts a b operation unknown later s p
    (λ k. operands_test t u f g operation.operands (follows line ss ts a b s p) k)
    (λ k. operands_value t u f g operation.operands (follows line ss ts a b s p) k))

-- what an operation writes that is a directive or none
abbrev pub bytes_by : Scope → Operation → Option Directive → Result (List ℕ) AsmKind
bytes_by scope operation (Some found) = directive_bytes scope operation found
bytes_by scope operation None = instruction_bytes scope operation

bytes_stay : (line : List ℕ) (ss ts : List Symbol) (a b : Option ℕ) (operation : Operation) → SymbolsStay ss ts → Stays a b
    → BytesStay (operation_bytes (scope_at ss line a) operation) (operation_bytes (scope_at ts line b) operation)
bytes_stay line ss ts a b operation s p =
    elim (directive_in line operation) as (λ found. BytesStay (bytes_by (scope_at ss line a) operation found) (bytes_by (scope_at ts line b) operation found)) [
      | None ↦ instruction_bytes_stay line ss ts a b operation s p
      | Some directive.Org ↦ same_bytes (Ok [])
      | Some directive.Equ ↦ same_bytes (Ok [])
      | Some directive.Dc ↦ dc_bytes_stay line ss ts a b operation s p
      | Some directive.Ds ↦ same_bytes (Ok [])
      | Some directive.Even ↦ same_bytes (Ok [])
    ]

-- ---- lines

again_stays : (before after : Layout) (line : List ℕ) (label : Option Name) → LayoutStays before after → is_again before line label ≡ true
    → is_again after line label ≡ true
again_stays before after line None p h = absurd cc
again_stays before after line (Some name) p h =
    sym (found_same (value_in before.symbols (bytes_at line name)) (value_in after.symbols (bytes_at line name)) (p.symbols (bytes_at line name))) ∙ h

admitted_stays : (before after : Layout) (line : List ℕ) (label : Option Name) (found : Option Directive) (b c : Bool) → LayoutStays before after
    → (b ≡ true → c ≡ true) → ErrStays (admitted before line label found b) (admitted after line label found c)
admitted_stays before after line label found b c p m =
    let w = refuse (wants_label label found) kind.Syntax in
    let r = refuse b kind.Name in
    let t = refuse c kind.Name in
    let f = λ (named : Unit {0}). refuse (is_again before line label) kind.Twice in
    let g = λ (named : Unit {0}). refuse (is_again after line label) kind.Twice in
    bound_stays w w (λ labelled. r >>= f) (λ labelled. t >>= g) (λ h. h)
    (λ x y is there. bound_stays r t f g (refuse_stays b c kind.Name kind.Name m)
    (λ u v i j. refuse_stays (is_again before line label) (is_again after line label) kind.Twice kind.Twice (again_stays before after line label p)))

nameless_next : (next later : Result (Option ℕ) AsmKind) → GivenStays next later → has_no_name next ≡ true → has_no_name later ≡ true
nameless_next (Ok None) later p h = absurd cc
nameless_next (Ok (Some x)) later p h = absurd cc
nameless_next (Err k) later p h = rw p h

checked_stays : (line : List ℕ) (ss ts : List Symbol) (a b : Option ℕ) (operation : Operation) (found : Option Directive) → SymbolsStay ss ts → Stays a b
    → ErrStays (equ_checked (scope_at ss line a) operation found) (equ_checked (scope_at ts line b) operation found)
checked_stays line ss ts a b operation (Some directive.Equ) s p =
    let r = equ_value (scope_at ss line a) operation in
    let t = equ_value (scope_at ts line b) operation in
    let last = λ (value : Option ℤ). refuse false kind.Range in
    bound_stays r t last last (err_by r t (equ_stays line ss ts a b operation s p)) (λ x y is there h. h)
checked_stays line ss ts a b operation None s p = λ h. h
checked_stays line ss ts a b operation (Some directive.Org) s p = λ h. h
checked_stays line ss ts a b operation (Some directive.Dc) s p = λ h. h
checked_stays line ss ts a b operation (Some directive.Ds) s p = λ h. h
checked_stays line ss ts a b operation (Some directive.Even) s p = λ h. h

place_le : (a b : Option ℕ) → Stays a b → address_or_zero a ≤ address_or_zero b
place_le None b p = zero-le
place_le (Some x) b p = rw p (le_refl x)

odd_stays : (a b : Option ℕ) (found : Option Directive) → Stays a b → is_odd (address_or_zero a) found ≡ true → is_odd (address_or_zero b) found ≡ true
odd_stays None b None p h = absurd cc
odd_stays None b (Some d) p h = absurd cc
odd_stays (Some x) b found p h = rw p h

address_stays : (address : Bool) (a b : Option ℕ) → Stays a b → (address && is_past (address_or_zero a)) ≡ true → (address && is_past (address_or_zero b))
    ≡ true
address_stays true None b p h = absurd cc
address_stays false None b p h = absurd cc
address_stays address (Some x) b p h = rw p h

end_stays : (found : Option Directive) (end later : Option ℕ) → Stays end later → ends_past found (address_or_zero end)
    ≡ true → ends_past found (address_or_zero later) ≡ true
end_stays None None later p h = absurd cc
end_stays (Some directive.Org) None later p h = absurd cc
end_stays (Some directive.Equ) None later p h = absurd cc
end_stays (Some directive.Dc) None later p h = absurd cc
end_stays (Some directive.Ds) None later p h = absurd cc
end_stays (Some directive.Even) None later p h = absurd cc
end_stays found (Some x) later p h = rw p h

reach_stays : (i j m n : ℕ) → i ≤ j → m ≤ n → nat_lt 4294967296 (i + m) ≡ true → nat_lt 4294967296 (j + n) ≡ true
reach_stays i j m n p q h = grind (arith, nat_tests)

-- what is laid
abbrev pub laid : Laid → Result Laid AsmKind
laid one = Ok one

placed_stays : (a b end later : Option ℕ) (label : Option Name) (found : Option Directive) (x y : List ℕ) → Stays a b → Stays end later
    → length x ≤ length y
    → (is_misplaced (address_or_zero a) label found (address_or_zero end) || reaches_past (address_or_zero a) x) ≡ true
    → (is_misplaced (address_or_zero b) label found (address_or_zero later) || reaches_past (address_or_zero b) y) ≡ true
placed_stays a b end later label found x y p q more =
    or_stays (is_misplaced (address_or_zero a) label found (address_or_zero end)) (reaches_past (address_or_zero a) x)
    (is_misplaced (address_or_zero b) label found (address_or_zero later))
    (reaches_past (address_or_zero b) y)
    (or_stays (is_odd (address_or_zero a) found) (is_address label found && is_past (address_or_zero a)
    || ends_past found (address_or_zero end)) (is_odd (address_or_zero b) found)
    (is_address label found && is_past (address_or_zero b) || ends_past found (address_or_zero later)) (odd_stays a b found p)
    (or_stays (is_address label found && is_past (address_or_zero a)) (ends_past found (address_or_zero end)) (is_address label found
    && is_past (address_or_zero b))
    (ends_past found (address_or_zero later)) (address_stays (is_address label found) a b p) (end_stays found end later q)))
    (reach_stays (address_or_zero a) (address_or_zero b) (length x) (length y) (place_le a b p) more)

laid_stays : (line : List ℕ) (ss ts : List Symbol) (a b end later : Option ℕ) (label : Option Name) (found : Option Directive) (operation : Operation)
    → SymbolsStay ss ts → Stays a b → Stays end later
    → ErrStays (laid_to end (scope_at ss line a) label found operation) (laid_to later (scope_at ts line b) label found operation)
laid_stays line ss ts a b end later label found operation s p q =
    let r = equ_checked (scope_at ss line a) operation found in
    let t = equ_checked (scope_at ts line b) operation found in
    let u = operation_bytes (scope_at ss line a) operation in
    let v = operation_bytes (scope_at ts line b) operation in
    let m = λ (x : List ℕ). is_misplaced (address_or_zero a) label found (address_or_zero end) || reaches_past (address_or_zero a) x in
    let n = λ (x : List ℕ). is_misplaced (address_or_zero b) label found (address_or_zero later) || reaches_past (address_or_zero b) x in
    let f = λ (x : List ℕ). refuse (m x) kind.Place >>= λ placed. laid (record { bytes = x; next = address_or_zero end }) in
    let g = λ (x : List ℕ). refuse (n x) kind.Place >>= λ placed. laid (record { bytes = x; next = address_or_zero later }) in
    let stays = bytes_stay line ss ts a b operation s p in
    bound_stays r t (λ value. u >>= f) (λ value. v >>= g) (checked_stays line ss ts a b operation found s p)
    (λ one two i j. bound_stays u v f g stays.faulty
    (λ x y is there. bound_stays (refuse (m x) kind.Place) (refuse (n y) kind.Place)
    (λ placed. laid (record { bytes = x; next = address_or_zero end })) (λ placed. laid (record { bytes = y; next = address_or_zero later }))
    (refuse_stays (m x) (n y) kind.Place kind.Place (placed_stays a b end later label found x y p q (stays.longer x y is there)))
    (λ c d k l h. h)))

judged_by_stays : (before after : Layout) (line : List ℕ) (ss ts : List Symbol) (label : Option Name) (found : Option Directive) (operation : Operation)
    (next later : Result (Option ℕ) AsmKind) → SymbolsStay ss ts → LayoutStays before after → GivenStays next later
    → ErrStays (judged_by before line label operation found (scope_at ss line before.at) next) (judged_by after line label operation found
    (scope_at ts line after.at) later)
judged_by_stays before after line ss ts label found operation next later s p q =
    let sc = scope_at ss line before.at in
    let sd = scope_at ts line after.at in
    let b = has_no_name next || have_flaw flaw.Nameless sc operation.operands in
    let c = has_no_name later || have_flaw flaw.Nameless sd operation.operands in
    let f = λ (end : Option ℕ). laid_to end sc label found operation in
    let g = λ (end : Option ℕ). laid_to end sd label found operation in
    let same = nameless_same line ss ts before.at after.at operation.operands s in
    let m : b ≡ true → c ≡ true = or_stays (has_no_name next) (have_flaw flaw.Nameless sc operation.operands) (has_no_name later)
    (have_flaw flaw.Nameless sd operation.operands) (nameless_next next later q) (λ h. sym same ∙ h) in
    rw (judged_parts before line label operation found sc next, judged_parts after line label operation found sd later) (bound_stays
    (admitted before line label found b) (admitted after line label found c) (λ first. next >>= f) (λ first. later >>= g)
    (admitted_stays before after line label found b c p m)
    (λ one two i j. bound_stays next later f g (err_by next later q)
    (λ x y is there. laid_stays line ss ts before.at after.at x y label found operation s p.at (given_by next later x y q is there))))

operation_stays : (symbols more : List Symbol) (before after : Layout) (line : List ℕ) (label : Option Name) (operation : Operation)
    → SymbolsStay symbols more → LayoutStays before after
    → ErrStays (judged_operation symbols before line label operation) (judged_operation more after line label operation)
operation_stays symbols more before after line label operation s p =
    let found = directive_in line operation in
    let next = address_behind (earlier before line) operation in
    let later = address_behind (earlier after line) operation in
    let q = behind_stays line before.symbols after.symbols before.at after.at operation p.symbols p.at in
    elim (reads_earlier found) as (λ reads. ErrStays
    (judged_by before line label operation found (if reads then earlier before line else scope_at symbols line before.at) next)
    (judged_by after line label operation found (if reads then earlier after line else scope_at more line after.at) later)) [
      | true ↦ judged_by_stays before after line before.symbols after.symbols label found operation next later p.symbols p q
      | false ↦ judged_by_stays before after line symbols more label found operation next later s p q
    ]

label_stays : (before after : Layout) (line : List ℕ) (label : Option Name) → LayoutStays before after
    → ErrStays (judged_label before line label) (judged_label after line label)
label_stays before after line label p =
    let r = refuse (is_again before line label) kind.Twice in
    let t = refuse (is_again after line label) kind.Twice in
    let m = is_address label None && is_past (address_or_zero before.at) in
    let n = is_address label None && is_past (address_or_zero after.at) in
    let f = λ (placed : Unit {0}). laid (record { bytes = []; next = address_or_zero before.at }) in
    let g = λ (placed : Unit {0}). laid (record { bytes = []; next = address_or_zero after.at }) in
    bound_stays r t (λ first. refuse m kind.Place >>= f) (λ first. refuse n kind.Place >>= g)
    (refuse_stays (is_again before line label) (is_again after line label) kind.Twice kind.Twice (again_stays before after line label p))
    (λ x y is there. bound_stays (refuse m kind.Place) (refuse n kind.Place) f g
    (refuse_stays m n kind.Place kind.Place (address_stays (is_address label None) before.at after.at p.at)) (λ c d k l h. h))

statement_stays : (symbols more : List Symbol) (before after : Layout) (line : List ℕ) (label : Option Name) (operation : Option Operation)
    → SymbolsStay symbols more → LayoutStays before after
    → ErrStays (judged_statement symbols before line (record { label = label; operation = operation }))
    (judged_statement more after line (record { label = label; operation = operation }))
statement_stays symbols more before after line label None s p = label_stays before after line label p
statement_stays symbols more before after line label (Some operation) s p = operation_stays symbols more before after line label operation s p

pub faulty_stays : FaultyStaysFaulty
faulty_stays symbols more before after line None s p h = refl
faulty_stays symbols more before after line (Some statement) s p h =
    statement_stays symbols more before after line statement.label statement.operation s p h
