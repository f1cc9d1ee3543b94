-- What is found in the list of a class once it is filled or flushed.
use Rattle.std.specs.Prelude.{◌≡◌, ℕ, true, false, List, Some, None, IfSome}
use Rattle.mb_port.specs.declared.types.Space.{Space}
use Rattle.mb_port.specs.declared.types.Flush.{Flush}
use Rattle.mb_model.specs.declared.kept.Kept.{Kept}
use Rattle.mb_model.specs.Keeping.{is_of, entry_in, displaced, filled_in, flushed_in, covers, Apart}

-- After a fill the entry of its page is the new one,
abbrev pub FillsAreFound : Type 0
FillsAreFound = (capacity : ℕ) (k : Kept) (kept : List Kept) → Apart kept
    → entry_in k.space k.page (filled_in capacity k kept) ≡ Some k

-- and that of another page is as before, unless it was dropped for the new one.
abbrev pub FillsLeaveOthers : Type 0
FillsLeaveOthers = (capacity : ℕ) (space : Space) (page : ℕ) (k : Kept) (kept : List Kept)
    → IfSome (displaced capacity k kept) (λ old. is_of space page old ≡ false) → is_of space page k ≡ false
    → entry_in space page (filled_in capacity k kept) ≡ entry_in space page kept

-- An older entry of the page is what a fill drops.
abbrev pub FillsDropTheirPage : Type 0
FillsDropTheirPage = (capacity : ℕ) (k old : Kept) (kept : List Kept) → entry_in k.space k.page kept ≡ Some old
    → displaced capacity k kept ≡ Some old

-- After a flush an entry that it covers is not found,
abbrev pub FlushesDrop : Type 0
FlushesDrop = (what : Flush) (space : Space) (page : ℕ) (kept : List Kept) → Apart kept
    → IfSome (entry_in space page kept) (λ k. covers what k ≡ true)
    → entry_in space page (flushed_in what kept) ≡ None

-- and one that it does not cover is found as before.
abbrev pub FlushesLeaveOthers : Type 0
FlushesLeaveOthers = (what : Flush) (space : Space) (page : ℕ) (kept : List Kept)
    → IfSome (entry_in space page kept) (λ k. covers what k ≡ false)
    → entry_in space page (flushed_in what kept) ≡ entry_in space page kept
