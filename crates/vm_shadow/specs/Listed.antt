-- A shadow's entries as a list.
use Rattle.std.specs.Prelude.{◌≡◌, ℕ, zero, suc, ◌^◌, Bool, if◌then◌else◌, List, [], ◌∷◌, Option, Some, None}
use Rattle.mb_port.specs.declared.types.Space.{Space}
use Rattle.mb_port.specs.declared.types.Space.TheVariants.{User, Super}
use Rattle.vm_shadow.specs.Slots.{Slots, is_full_for}
use Rattle.vm_shadow.specs.Shadows.{EntryMap, Shadowed, is_at, nothing, with_page_put, dropped}
use Rattle.vm_shadow.specs.Mapped.{shadowed}

pub record ShadowEntry : Type 0 where
  pub space : Space
  pub page : ℕ
  pub frame : ℕ
  pub writable : Bool

-- the entry of a page of a space
abbrev pub listed : List ShadowEntry → EntryMap
listed [] space page = None
listed (e ∷ list) space page =
    if is_at e.space e.page space page then Some (e.frame, e.writable) else listed list space page

-- at most one stands a space and page
abbrev pub AtMostOne : List ShadowEntry → Type 0
AtMostOne [] = Unit {0}
AtMostOne (e ∷ list) = (listed list e.space e.page ≡ None) × AtMostOne list

-- A list has exactly these entries.
pub record Lists (list : List ShadowEntry) (entries : EntryMap) : Type 0 where
  pub apart : AtMostOne list
  pub same : (space : Space) (page : ℕ) → listed list space page ≡ entries space page

-- The list of what stands for the pages below a number: each page's entry of either space, where it has one.
abbrev pub fronted : Space → ℕ → Option (ℕ × Bool) → List ShadowEntry → List ShadowEntry
fronted space page None list = list
fronted space page (Some (frame, writable)) list =
    record { space = space; page = page; frame = frame; writable = writable } ∷ list

unfoldable pub list_below : ℕ → EntryMap → List ShadowEntry
list_below zero entries = []
list_below (suc n) entries =
    fronted User n (entries User n) (fronted Super n (entries Super n) (list_below n entries))

-- A shadow's entries are a list.
abbrev pub EntriesAreListed : Type 0
EntriesAreListed = (s : Slots) (ram : List ℕ)
    → Lists (list_below (2 ^ 20) (shadowed s ram).entries) (shadowed s ram).entries

-- a list without the entry of a page
abbrev pub unlisted : Space → ℕ → List ShadowEntry → List ShadowEntry
unlisted space page [] = []
unlisted space page (e ∷ list) =
    if is_at space page e.space e.page then unlisted space page list else e ∷ unlisted space page list

-- and with this one in its place
abbrev pub relisted : ShadowEntry → List ShadowEntry → List ShadowEntry
relisted e list = e ∷ unlisted e.space e.page list

-- An empty list has what stands after a clear; a fill replaces the entry of its page, in an empty list where the slots
-- did not suffice; a dropped entry leaves the list.
abbrev pub NothingIsListed : Type 0
NothingIsListed = Lists [] nothing.entries

abbrev pub FillsAreListed : Type 0
FillsAreListed = (shadow : Shadowed) (list : List ShadowEntry) (e : ShadowEntry) → Lists list shadow.entries
    → Lists (relisted e (if is_full_for e.space e.page shadow.tables then [] else list))
    (with_page_put e.space e.page e.frame e.writable shadow).entries

abbrev pub DropsAreListed : Type 0
DropsAreListed = (shadow : Shadowed) (list : List ShadowEntry) (space : Space) (page : ℕ) → Lists list shadow.entries
    → Lists (unlisted space page list) (dropped space page shadow).entries
