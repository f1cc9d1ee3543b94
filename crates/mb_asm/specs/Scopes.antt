-- What the code's scopes stand for.
use Rattle.mb_asm.specs.declared.value.Scope.{Scope}
use Rattle.mb_asm.specs.Said.{symbols_said}
use Rattle.mb_asm.specs.Values as values

abbrev pub scope_said : Scope → values.Scope
scope_said scope = record { symbols = symbols_said scope.symbols.now; line = scope.line.now; at = scope.at }
