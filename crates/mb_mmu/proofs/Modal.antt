-- What is known of a reference, by how the memory management unit translates.
use Rattle.std.proofs.Common.{◌≡◌, ℕ, Bool, true, false, refl, ap, subst}
use Rattle.std.specs.Prelude.{Option, Some, None, ◌||◌, ◌&&◌, ◌/◌, ◌^◌, ◌==◌, bit_or, not}
use Rattle.mb_port.specs.declared.types.Mmu.{Mmu}
use Rattle.mb_port.specs.declared.types.Space.{Space}
use Rattle.mb_port.specs.declared.types.Space.TheVariants.{User}
use Rattle.mb_model.specs.Keeping.{Rule, KeptLists, entry_for}
use Rattle.mb_walk.specs.Transparent.{transparent_of, transparent_register, matches}
use Rattle.def_machine.specs.declared.reference.Reference.{Reference}
use Rattle.def_machine.specs.declared.reference.Settled.TheVariants.{To}
use Rattle.mb_model.specs.Pages.{page_of}
use Rattle.def_machine.specs.Access.{untranslated, settled, matched, or_off, by_match, by_entry, is_translating}
use Rattle.mb_mmu.specs.declared.modes.Mode.{Mode}
use Rattle.mb_mmu.specs.declared.modes.Mode.TheVariants.{Direct, Tables, UserTables, Registers}
use Rattle.mb_mmu.specs.Modes.{is_enabled, has_transparent, is_off, serves_user, has_user, mode_by, mode_of}

-- ---- no transparent register is on

record AllOff (a b c d : Bool) : Type 0 where
  first : a ≡ false
  second : b ≡ false
  third : c ≡ false
  fourth : d ≡ false

all_off : (a b c d : Bool) → (a || b || c || d) ≡ false → AllOff a b c d
all_off false false false false h = record { first = refl; second = refl; third = refl; fourth = refl }
all_off true b c d h = absurd (cc)
all_off false true c d h = absurd (cc)
all_off false false true d h = absurd (cc)
all_off false false false true h = absurd (cc)

no_match : (tt0 tt1 : ℕ) (space : Space) (page : ℕ) → is_enabled tt0 ≡ false → is_enabled tt1 ≡ false → transparent_of tt0 tt1 space page ≡ None
no_match tt0 tt1 space page h g = rw (h, g) refl

no_match_of : (mmu : Mmu) (code : Bool) (space : Space) (page : ℕ) → has_transparent mmu ≡ false → matched code mmu space page ≡ None
no_match_of mmu true space page h =
    let off = all_off (is_enabled mmu.itt0) (is_enabled mmu.itt1) (is_enabled mmu.dtt0) (is_enabled mmu.dtt1) h in
    no_match mmu.itt0 mmu.itt1 space page off.first off.second
no_match_of mmu false space page h =
    let off = all_off (is_enabled mmu.itt0) (is_enabled mmu.itt1) (is_enabled mmu.dtt0) (is_enabled mmu.dtt1) h in
    no_match mmu.dtt0 mmu.dtt1 space page off.third off.fourth

-- ---- none serves user space

within_first : (a b c : Bool) → (a && b) ≡ false → (a && (b && c)) ≡ false
within_first false b c h = refl
within_first true false c h = refl
within_first true true c h = absurd (cc)

no_user_register : (tt : ℕ) (page : ℕ) → serves_user tt ≡ false → matches (transparent_register tt) User page ≡ false
no_user_register tt page h =
    let r = transparent_register tt in
    within_first r.enabled (not (r.spaces == 1)) (bit_or (page / 2 ^ 12) r.ignored == bit_or r.base r.ignored) h

no_user_match : (tt0 tt1 page : ℕ) → serves_user tt0 ≡ false → serves_user tt1 ≡ false → transparent_of tt0 tt1 User page ≡ None
no_user_match tt0 tt1 page h g = rw (no_user_register tt0 page h, no_user_register tt1 page g) refl

no_user_match_of : (mmu : Mmu) (code : Bool) (page : ℕ) → has_user mmu ≡ false → matched code mmu User page ≡ None
no_user_match_of mmu true page h =
    let off = all_off (serves_user mmu.itt0) (serves_user mmu.itt1) (serves_user mmu.dtt0) (serves_user mmu.dtt1) h in
    no_user_match mmu.itt0 mmu.itt1 page off.first off.second
no_user_match_of mmu false page h =
    let off = all_off (serves_user mmu.itt0) (serves_user mmu.itt1) (serves_user mmu.dtt0) (serves_user mmu.dtt1) h in
    no_user_match mmu.dtt0 mmu.dtt1 page off.third off.fourth

-- ---- the modes

record OfMode (transparent translating : Bool) (on : Bool) : Type 0 where
  unmatched : transparent ≡ false
  translates : translating ≡ on

direct : (transparent user translating : Bool) → mode_by transparent user translating ≡ Direct → OfMode transparent translating false
direct true true translating h = absurd (cc)
direct true false true h = absurd (cc)
direct true false false h = absurd (cc)
direct false user true h = absurd (cc)
direct false user false h = record { unmatched = refl; translates = refl }

tables : (transparent user translating : Bool) → mode_by transparent user translating ≡ Tables → OfMode transparent translating true
tables true true translating h = absurd (cc)
tables true false true h = absurd (cc)
tables true false false h = absurd (cc)
tables false user true h = record { unmatched = refl; translates = refl }
tables false user false h = absurd (cc)

user_tables : (transparent user translating : Bool) → mode_by transparent user translating ≡ UserTables → OfMode user translating true
user_tables true true translating h = absurd (cc)
user_tables true false true h = record { unmatched = refl; translates = refl }
user_tables true false false h = absurd (cc)
user_tables false user true h = absurd (cc)
user_tables false user false h = absurd (cc)

off : (mmu : Mmu) (o : Option Bool) → is_translating mmu ≡ false → o ≡ None → or_off mmu o ≡ Some false
off mmu (Some protected) h e = absurd (cc)
off mmu None h e = rw h refl

on : (mmu : Mmu) (o : Option Bool) → is_translating mmu ≡ true → o ≡ None → or_off mmu o ≡ None
on mmu (Some protected) h e = absurd (cc)
on mmu None h e = rw h refl

direct_untranslated : (mmu : Mmu) (r : Reference) → mode_of mmu ≡ Direct → untranslated mmu r ≡ Some false
direct_untranslated mmu r h =
    let is = direct (has_transparent mmu) (has_user mmu) (is_translating mmu) h in
    off mmu (matched r.code mmu r.space (page_of r.at)) is.translates (no_match_of mmu r.code r.space (page_of r.at) is.unmatched)

tables_translated : (mmu : Mmu) (r : Reference) → mode_of mmu ≡ Tables → untranslated mmu r ≡ None
tables_translated mmu r h =
    let is = tables (has_transparent mmu) (has_user mmu) (is_translating mmu) h in
    on mmu (matched r.code mmu r.space (page_of r.at)) is.translates (no_match_of mmu r.code r.space (page_of r.at) is.unmatched)

user_translated : (mmu : Mmu) (r : Reference) → mode_of mmu ≡ UserTables → r.space ≡ User → untranslated mmu r ≡ None
user_translated mmu r h space =
    let is = user_tables (has_transparent mmu) (has_user mmu) (is_translating mmu) h in
    on mmu (matched r.code mmu r.space (page_of r.at)) is.translates (rw space (no_user_match_of mmu r.code (page_of r.at) is.unmatched))

pub direct-settled : (rule : Rule) (mmu : Mmu) (kept : KeptLists) (r : Reference) → mode_of mmu ≡ Direct → settled rule mmu kept r ≡ To r.at
direct-settled rule mmu kept r h = ap (λ (o : Option Bool). by_match rule kept r o) (direct_untranslated mmu r h)

pub tables-settled : (rule : Rule) (mmu : Mmu) (kept : KeptLists) (r : Reference) → mode_of mmu ≡ Tables
    → settled rule mmu kept r ≡ by_entry r (entry_for rule r.code r.space (page_of r.at) kept)
tables-settled rule mmu kept r h = ap (λ (o : Option Bool). by_match rule kept r o) (tables_translated mmu r h)

pub user-settled : (rule : Rule) (mmu : Mmu) (kept : KeptLists) (r : Reference) → mode_of mmu ≡ UserTables → r.space ≡ User
    → settled rule mmu kept r ≡ by_entry r (entry_for rule r.code r.space (page_of r.at) kept)
user-settled rule mmu kept r h space = ap (λ (o : Option Bool). by_match rule kept r o) (user_translated mmu r h space)

-- ---- all off

abbrev pub is_direct : Mode → Bool
is_direct Direct = true
is_direct Tables = false
is_direct UserTables = false
is_direct Registers = false

off_mode : (transparent user translating : Bool)
    → not (transparent || translating) ≡ is_direct (mode_by transparent user translating)
off_mode true true translating = refl
off_mode true false true = refl
off_mode true false false = refl
off_mode false user true = refl
off_mode false user false = refl

off_by : (transparent user translating : Bool) (mode : Mode) → mode_by transparent user translating ≡ mode
    → not (transparent || translating) ≡ is_direct mode
off_by transparent user translating mode h =
    subst (λ (m : Mode). not (transparent || translating) ≡ is_direct m) h (off_mode transparent user translating)

pub off-mode : (mmu : Mmu) (mode : Mode) → mode_of mmu ≡ mode → is_off mmu ≡ is_direct mode
off-mode mmu mode h = off_by (has_transparent mmu) (has_user mmu) (is_translating mmu) mode h

pub ruleset modes = (direct-settled, tables-settled, user-settled, off-mode)
