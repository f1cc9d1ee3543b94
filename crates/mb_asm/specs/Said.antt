-- What the code's symbols stand for.
use denote.Ref.{Bor}
use Rattle.std.specs.Prelude.{ℕ, List, map}
use Rattle.std.specs.HashMap.{HashMap}
use Rattle.mb_asm.specs.declared.symbol.SymbolValue.{SymbolValue}
use Rattle.mb_asm.specs.Symbols as symbols

abbrev pub symbol_said : Bor (List ℕ) × SymbolValue → symbols.Symbol
symbol_said (name, value) = record { name = name.now; value = value.number }

abbrev pub symbols_said : {S : Type 0} → HashMap (Bor (List ℕ)) SymbolValue S → List symbols.Symbol
symbols_said given = map symbol_said given.entries
