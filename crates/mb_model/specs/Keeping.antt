-- Kept translations: a list a class, each in order of filling, by a rule.
use Rattle.std.specs.Prelude.{◌≡◌, ℕ, ◌+◌, ◌%◌, ◌^◌, ◌<◌, ◌==◌, ◌&&◌, ◌||◌, Bool, true, false, not, nat_le}
use Rattle.std.specs.Prelude.{if◌then◌else◌}
use Rattle.std.specs.Prelude.{List, [], ◌∷◌, ◌++◌, length, map, drop, replicate, slice_index_or, slice_set, Option}
use Rattle.std.specs.Prelude.{Some, None}
use Rattle.std.specs.List.{filter, find, list_any}
use Rattle.mb_port.specs.declared.types.Space.{Space}
use Rattle.mb_port.specs.declared.types.Space.TheVariants.{User, Super}
use Rattle.mb_port.specs.declared.types.MmuReg.{MmuReg}
use Rattle.mb_port.specs.declared.types.MmuReg.TheVariants.{Mmusr}
use Rattle.mb_port.specs.declared.types.Flush.{Flush}
use Rattle.mb_port.specs.declared.types.Flush.TheVariants.{All, AllLocal, Page, PageLocal}
use Rattle.mb_model.specs.declared.kept.Kept.{Kept}
use Rattle.mb_model.specs.declared.rules.TheConstants.{CAPACITY, CLASSES, GUEST_CAPACITY, SIDE_CLASSES}
use Rattle.mb_model.specs.Pages.{other_half}

-- A rule of keeping.
pub record Rule : Type 0 where
  -- how many classes there are
  pub classes : ℕ
  -- the class of a side, which is that of instruction words or that of data, and of a page
  pub class_of : (code : Bool) → (page : ℕ) → ℕ
  -- how many entries a class keeps
  pub capacity : ℕ
  -- the registers whose writing by MOVEC forgets all
  pub forgets : MmuReg → Bool

-- the board: a small class for each side and page modulo the classes of a side, and nothing is forgotten
abbrev pub rule_a : Rule
rule_a = record {
  classes = CLASSES;
  class_of = λ code page. page % SIDE_CLASSES + (if code then SIDE_CLASSES else 0);
  capacity = CAPACITY;
  forgets = λ register. false;
}

abbrev pub is_of_translation : MmuReg → Bool
is_of_translation Mmusr = false
is_of_translation register = true

-- a guest: one class for both sides, and a register by which pages are translated forgets
abbrev pub rule_k : Rule
rule_k = record { classes = 1; class_of = λ code page. 0; capacity = GUEST_CAPACITY; forgets = is_of_translation }

-- what is kept: the list of each class, its oldest entry first
abbrev pub KeptLists : Type 0
KeptLists = List (List Kept)

abbrev pub nothing_kept : Rule → KeptLists
nothing_kept rule = replicate rule.classes []

abbrev pub same_space : Space → Space → Bool
same_space User User = true
same_space User Super = false
same_space Super User = false
same_space Super Super = true

-- an entry of a space and a page
abbrev pub is_of : Space → ℕ → Kept → Bool
is_of space page k = same_space k.space space && (k.page == page)

-- the entry of a space and a page in the list of a class
abbrev pub entry_in : Space → ℕ → List Kept → Option Kept
entry_in space page kept = find (is_of space page) kept

-- a list without its first entry that passes
abbrev pub without : (Kept → Bool) → List Kept → List Kept
without passes [] = []
without passes (k ∷ kept) = if passes k then kept else k ∷ without passes kept

abbrev pub oldest : List Kept → Option Kept
oldest [] = None
oldest (k ∷ kept) = Some k

-- the entry of a class that a fill drops: an older one of the space and page; else, where the class is full, its oldest
abbrev pub displaced : ℕ → Kept → List Kept → Option Kept
displaced capacity k kept =
    if list_any (is_of k.space k.page) kept then entry_in k.space k.page kept
    else if nat_le capacity (length kept) then oldest kept else None

-- the list of a class without that entry
abbrev pub room_for : ℕ → Kept → List Kept → List Kept
room_for capacity k kept =
    if list_any (is_of k.space k.page) kept then without (is_of k.space k.page) kept
    else if nat_le capacity (length kept) then drop 1 kept else kept

-- the list of a class after a fill: the new entry comes last
abbrev pub filled_in : ℕ → Kept → List Kept → List Kept
filled_in capacity k kept = room_for capacity k kept ++ k ∷ []

-- what is dropped by a flush
abbrev pub covers : Flush → Kept → Bool
covers All k = true
covers AllLocal k = not k.g
covers (Page space page) k = is_of space page k
covers (PageLocal space page) k = is_of space page k && not k.g

-- the list of a class after a flush
abbrev pub flushed_in : Flush → List Kept → List Kept
flushed_in what kept = filter (λ k. not (covers what k)) kept

abbrev pub list_of : ℕ → KeptLists → List Kept
list_of class kept = slice_index_or kept class []

-- By a rule: the entry for an access of a side, space and page.
abbrev pub entry_for : Rule → Bool → Space → ℕ → KeptLists → Option Kept
entry_for rule code space page kept = entry_in space page (list_of (rule.class_of code page) kept)

-- what is kept after a side's fill
abbrev pub filled : Rule → Bool → Kept → KeptLists → KeptLists
filled rule code k kept =
    let class = rule.class_of code k.page in slice_set kept class (filled_in rule.capacity k (list_of class kept))

-- what is kept after a flush, which is of both sides
abbrev pub flushed : Flush → KeptLists → KeptLists
flushed what kept = map (flushed_in what) kept

-- an entry of a space and of a page of the tables: of 4 KiB, or a half of one of 8 KiB
abbrev pub is_half_of : Bool → Space → ℕ → Kept → Bool
is_half_of big space page k = is_of space page k || (big && is_of space (other_half page) k)

-- what is kept once PTEST has dropped the entries of a page of a space, on both sides: where pages have 8 KiB, of both
-- halves
abbrev pub after_ptest : Bool → Space → ℕ → KeptLists → KeptLists
after_ptest false space page kept = flushed (Page space page) kept
after_ptest true space page kept = flushed (Page space (other_half page)) (flushed (Page space page) kept)

-- what is kept after a MOVEC to a register
abbrev pub after_movec : Rule → MmuReg → KeptLists → KeptLists
after_movec rule register kept = if rule.forgets register then flushed All kept else kept

-- The page and the frame of an entry are two of the 2^20 pages of 4 KiB.
abbrev pub NamesPages : Kept → Type 0
NamesPages k = (k.page < 2 ^ 20) × (k.frame < 2 ^ 20)

-- At most one entry stands a space and page.
abbrev pub Apart : List Kept → Type 0
Apart [] = Unit {0}
Apart (k ∷ kept) = (entry_in k.space k.page kept ≡ None) × Apart kept
