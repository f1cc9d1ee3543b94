-- The entries of a script: steps and inputs.
use Rattle.std.specs.Prelude.{ℕ, ◌≤◌, ◌<◌, ◌^◌, List, length, All}
use Rattle.std.specs.List.{AllPairs}
use Rattle.mb_script.specs.declared.entry.Entry.{Entry}

abbrev pub Entries : Type 0
Entries = List Entry

-- steps count from 1 and never fall
pub record IsScript (entries : Entries) : Type 0 where
  pub few : length entries < 2 ^ 32
  pub from_one : All (λ entry. 1 ≤ entry.step) entries
  pub in_order : AllPairs (λ earlier later. earlier.step ≤ later.step) entries

-- steps up to the last
pub record IsInOrder (last : ℕ) (entries : Entries) : Type 0 where
  pub from_one : All (λ entry. 1 ≤ entry.step) entries
  pub in_order : AllPairs (λ earlier later. earlier.step ≤ later.step) entries
  pub up_to : All (λ entry. entry.step ≤ last) entries
