-- Symbols by their names.
use denote.Ref.{Bor}
use Rattle.std.proofs.Common.{◌≡◌, ℕ, Bool, true, false, List, [], ◌∷◌, ◌++◌, map, Option, None, Some, refl, ap, ◌∙◌, is_some, true≢false}
use Rattle.std.specs.Prelude.{ℤ, option_map}
use Rattle.std.specs.Str.{bytes_eq}
use Rattle.std.specs.HashMap.{HashMap, get}
use Rattle.std.specs.Map.{lookup}
use Rattle.std.proofs.lemmas.List.{map-append}
use Rattle.indexmap.specs.IndexMap.{insert_entry}
use Rattle.indexmap.proofs.CallerLemmas.{insert_entry-new}
use Rattle.mb_asm.specs.declared.symbol.SymbolValue.{SymbolValue}
use Rattle.mb_asm.specs.Symbols.{value_in, with_symbol}
use Rattle.mb_asm.specs.Said.{symbol_said, symbols_said}

-- whether two names have the same bytes
abbrev pub same_name : Bor (List ℕ) → Bor (List ℕ) → Bool
same_name x y = bytes_eq x.now y.now

-- the number of a symbol's value
abbrev pub number_in : Option SymbolValue → Option (Option ℤ)
number_in found = option_map (λ (value : SymbolValue). value.number) found

found_step : (entry : Bor (List ℕ) × SymbolValue) (entries : List (Bor (List ℕ) × SymbolValue)) (name : Bor (List ℕ)) (b : Bool)
    → bytes_eq name.now entry.0.now ≡ b → value_in (map symbol_said entries) name.now ≡ number_in (lookup (same_name name) entries)
    → value_in (map symbol_said (entry ∷ entries)) name.now ≡ number_in (lookup (same_name name) (entry ∷ entries))
found_step entry entries name true e later = rw e refl
found_step entry entries name false e later = rw e later

found_among : (entries : List (Bor (List ℕ) × SymbolValue)) (name : Bor (List ℕ))
    → value_in (map symbol_said entries) name.now ≡ number_in (lookup (same_name name) entries)
found_among [] name = refl
found_among (entry ∷ entries) name = found_step entry entries name (bytes_eq name.now entry.0.now) refl (found_among entries name)

-- what is found by a name is the value of its symbol
pub found : {S : Type 0} (symbols : HashMap (Bor (List ℕ)) SymbolValue S) (name : Bor (List ℕ))
    → value_in (symbols_said symbols) name.now ≡ number_in (get same_name symbols name)
found symbols name = found_among symbols.entries name

-- a new name goes last
appended : {S : Type 0} (symbols : HashMap (Bor (List ℕ)) SymbolValue S) (name : Bor (List ℕ)) (value : SymbolValue)
    → get same_name symbols name ≡ None
    → map symbol_said (insert_entry same_name symbols.entries name value) ≡ symbols_said symbols ++ symbol_said (name, value) ∷ []
appended symbols name value none =
    ap (map symbol_said) (insert_entry-new same_name symbols name value none) ∙ map-append symbol_said symbols.entries ((name, value) ∷ [])

nothing : {A : Type 0} (found : Option A) → is_some found ≡ false → found ≡ None
nothing None e = refl
nothing (Some x) e = absurd (true≢false e)

-- what stands behind an insertion of a new name
pub added : {S : Type 0} (symbols after : HashMap (Bor (List ℕ)) SymbolValue S) (name : Bor (List ℕ)) (value : SymbolValue)
    → is_some (get same_name symbols name) ≡ false → after.entries ≡ insert_entry same_name symbols.entries name value
    → symbols_said after ≡ with_symbol (symbols_said symbols) (symbol_said (name, value))
added symbols after name value absent is =
    let none : get same_name symbols name ≡ None = nothing (get same_name symbols name) absent in
    let unknown : value_in (symbols_said symbols) name.now ≡ None = found symbols name ∙ ap number_in none in
    ap (map symbol_said) is ∙ appended symbols name value none ∙ rw unknown refl
