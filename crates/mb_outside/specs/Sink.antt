-- What a call of a sink takes.
use Rattle.std.specs.Prelude.{◌≡◌, ℕ, ◌<◌, ◌≤◌, ◌++◌, List, length, Option, Result, Ok, Err, IfOk, option_map}
use Rattle.mb_outside.specs.Counts.{Rose}

-- The bytes grew by just these, where they are told.
abbrev pub Grows : Option (List ℕ) → Option (List ℕ) → List ℕ → Type 0
Grows old new more = new ≡ option_map (λ bytes. bytes ++ more) old

-- how many bytes a call took
abbrev pub taken_by : {E : Type 0} → Result ℕ E → ℕ
taken_by (Ok count) = count
taken_by (Err _) = 0

-- At most the piece, and some byte of one that has any.
abbrev pub TakesSome : {E : Type 0} → List ℕ → Result ℕ E → Type 0
TakesSome piece result = IfOk result (λ n. (n ≤ length piece) × (0 < length piece → 0 < n))

-- The count stays, but at an error, where it has risen.
abbrev pub SinkCause : {T E : Type 0} → ℕ → ℕ → Result T E → Type 0
SinkCause before now (Ok _) = now ≡ before
SinkCause before now (Err _) = Rose before now
