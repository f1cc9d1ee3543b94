-- What is kept names pages of 4 KiB, whatever is filled and flushed.
use Rattle.std.proofs.Common.{ℕ, zero, suc, Bool, not, List, [], ◌∷◌, length, take, drop}
use Rattle.std.proofs.Common.{arith, inl, inr}
use Rattle.std.specs.Prelude.{IfSome, slice_get, nat_le}
use Rattle.std.specs.List.{All, list_any, position_or_len}
use Rattle.std.proofs.lemmas.Bool.{cases_Bool}
use Rattle.std.proofs.lemmas.List.Elements.{All-append, All-filter, All-drop, All-take}
use Rattle.mb_port.specs.declared.types.Space.{Space}
use Rattle.mb_port.specs.declared.types.Flush.{Flush}
use Rattle.mb_model.specs.declared.kept.Kept.{Kept}
use Rattle.mb_model.specs.Keeping.{NamesPages, is_of, entry_in, without, room_for, filled_in, flushed_in, covers, oldest, displaced}
use Rattle.mb_model.proofs.KeepingLemmas.{without_is}

without-names : (p : Kept → Bool) (kept : List Kept) → All NamesPages kept → All NamesPages (without p kept)
without-names p kept a = rw (without_is p kept) (All-append NamesPages (take (position_or_len p kept) kept) (drop (suc (position_or_len p kept)) kept)
    (All-take NamesPages (position_or_len p kept) kept a) (All-drop NamesPages (suc (position_or_len p kept)) kept a))

room-names : (capacity : ℕ) (k : Kept) (kept : List Kept) → All NamesPages kept → All NamesPages (room_for capacity k kept)
room-names capacity k kept a = elim (cases_Bool (list_any (is_of k.space k.page) kept)) [
  | inl h ↦ rw h (without-names (is_of k.space k.page) kept a)
  | inr h ↦ rw h (elim (cases_Bool (nat_le capacity (length kept))) [
    | inl l ↦ rw l (All-drop NamesPages 1 kept a)
    | inr l ↦ rw l a
  ])
]

alone : (k : Kept) → NamesPages k → All NamesPages (k ∷ [])
alone k n zero d h = n
alone k n (suc i) d h = absurd (omega arith)

pub filled_in-names : (capacity : ℕ) (k : Kept) (kept : List Kept) → NamesPages k → All NamesPages kept → All NamesPages (filled_in capacity k kept)
filled_in-names capacity k kept n a = All-append NamesPages (room_for capacity k kept) (k ∷ []) (room-names capacity k kept a) (alone k n)

pub flushed_in-names : (what : Flush) (kept : List Kept) → All NamesPages kept → All NamesPages (flushed_in what kept)
flushed_in-names what kept a = All-filter (λ k. not (covers what k)) NamesPages kept a

pub entry_in-names : (space : Space) (page : ℕ) (kept : List Kept) → All NamesPages kept → IfSome (entry_in space page kept) NamesPages
entry_in-names space page [] a = tt
entry_in-names space page (k ∷ kept) a = elim (cases_Bool (is_of space page k)) [
  | inl h ↦ rw h (a 0 k (omega arith))
  | inr h ↦ rw h (entry_in-names space page kept (λ i d l. a (suc i) d (omega arith)))
]

oldest-names : (kept : List Kept) → All NamesPages kept → IfSome (oldest kept) NamesPages
oldest-names [] a = tt
oldest-names (k ∷ kept) a = a 0 k (omega arith)

pub displaced-names : (capacity : ℕ) (k : Kept) (kept : List Kept) → All NamesPages kept → IfSome (displaced capacity k kept) NamesPages
displaced-names capacity k kept a = elim (cases_Bool (list_any (is_of k.space k.page) kept)) [
  | inl h ↦ rw h (entry_in-names k.space k.page kept a)
  | inr h ↦ rw h (elim (cases_Bool (nat_le capacity (length kept))) [ inl l ↦ rw l (oldest-names kept a) | inr l ↦ rw l tt ])
]

pub slice_get-names : (kept : List Kept) (place : ℕ) → All NamesPages kept → IfSome (slice_get kept place) NamesPages
slice_get-names [] place a = tt
slice_get-names (k ∷ kept) zero a = a 0 k (omega arith)
slice_get-names (k ∷ kept) (suc i) a = slice_get-names kept i (λ j d l. a (suc j) d (omega arith))

pub ruleset names = (filled_in-names, flushed_in-names, entry_in-names, displaced-names, slice_get-names)
