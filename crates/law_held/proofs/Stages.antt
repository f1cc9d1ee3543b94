-- What the stages of an access come to, by any rule.
use Rattle.std.proofs.Common.{◌≡◌, ℕ, ◌+◌, ◌*◌, ◌<◌, ◌%◌, true, false, refl, ap, ◌∙◌, arith, inl, inr, Option, Some, None, ◌≢◌, ◌≤◌, ◌/◌, List}
use Rattle.std.proofs.Common.{length, take, Ok, Err}
use Rattle.std.proofs.lemmas.Bool.{cases_lt}
use Rattle.mb_port.specs.declared.types.Mmu.{Mmu}
use Rattle.mb_model.specs.declared.kept.Kept.{Kept}
use Rattle.mb_model.specs.Keeping.{KeptLists, Rule, entry_for}
use Rattle.def_machine.specs.declared.reference.Reference.{Reference}
use Rattle.def_machine.specs.declared.reference.Settled.{Settled}
use Rattle.def_machine.specs.declared.reference.Settled.TheVariants.{Unsettled}
use Rattle.def_machine.specs.World.{World}
use Rattle.mb_model.specs.Pages.{page_of}
use Rattle.def_machine.specs.Access.{untranslated, marks, through, known, by_entry, by_match, settled, by_settled, translated}
use Rattle.mb_port.specs.Pieces.{IsPiece}
use Rattle.mb_port.specs.declared.types.Piece.{Piece}
use Rattle.def_machine.specs.Places.{in_ram, line_at, with_longs, taken_line, stored_line}
use Rattle.def_machine.specs.Bus.{fault_of, place_at, Take, Store, read_at, read_by, wrote, written_at, written_by}

pub settled_by : (rule : Rule) (mmu : Mmu) (kept : KeptLists) (r : Reference) (o : Option Kept) → untranslated mmu r ≡ None
    → entry_for rule r.code r.space (page_of r.at) kept ≡ o → settled rule mmu kept r ≡ by_entry r o
settled_by rule mmu kept r o h e = ap (by_match rule kept r) h ∙ ap (by_entry r) e

pub entry_used : (k : Kept) (r : Reference) → marks k r ≡ false → by_entry r (Some k) ≡ known (through k r)
entry_used k r h = rw h refl

pub entry_marked : (k : Kept) (r : Reference) → marks k r ≡ true → by_entry r (Some k) ≡ Unsettled
entry_marked k r h = rw h refl

pub by_known : (rule : Rule) (w : World) (r : Reference) (o : Option ℕ) → by_settled rule w r (known o) ≡ (o, w)
by_known rule w r (Some at) = refl
by_known rule w r None = refl

pub translated_by : (rule : Rule) (w : World) (r : Reference) (s : Settled) → settled rule w.mmu w.kept r ≡ s → translated rule r w ≡ by_settled rule w r s
unfolding translated
translated_by rule w r s e = ap (by_settled rule w r) e

pub no_entry : (r : Reference) → by_entry r None ≡ Unsettled
no_entry r = refl

pub reads_refused : {A : Type 0} (rule : Rule) (r : Reference) (len : ℕ) (take : Take A) (w u : World)
    → translated rule r w ≡ (None, u) → read_by rule r len take w ≡ (Err (fault_of r len true), u)
reads_refused rule r len take w u e = ap (λ (t : Option ℕ × World). read_at r len take t.0 t.1) e

pub writes_found : (rule : Rule) (r : Reference) (len : ℕ) (store : Store) (w u v : World) (p : ℕ)
    → translated rule r w ≡ (Some p, u) → store (place_at p len) u ≡ Some v → written_by rule r len store w ≡ (Ok tt, v)
writes_found rule r len store w u v p e h =
    ap (λ (t : Option ℕ × World). written_at r len store t.0 t.1) e ∙ ap (λ (o : Option World). wrote u o (fault_of r len false)) h

pub writes_refused : (rule : Rule) (r : Reference) (len : ℕ) (store : Store) (w u : World)
    → translated rule r w ≡ (None, u) → written_by rule r len store w ≡ (Err (fault_of r len true), u)
writes_refused rule r len store w u e = ap (λ (t : Option ℕ × World). written_at r len store t.0 t.1) e

pub paired : {A B : Type 0} (t : A × B) (a : A) → t.0 ≡ a → t ≡ (a, t.1)
paired {A} {B} t a e = ap (λ (o : A). (let p : A × B = (o, t.1) in p)) e

pub line_read : (w : World) (p : ℕ) → in_ram (length w.ram) p 16 ≡ true → taken_line (place_at p 16) w ≡ (Some (line_at w.ram p), w)
line_read w p h = rw h refl

pub line_written : (w : World) (p : ℕ) (line : List ℕ) → in_ram (length w.ram) p 16 ≡ true
    → stored_line (place_at p 16) line w ≡ Some (record w { ram = with_longs w.ram p (take 4 line) })
line_written w p line h = rw h refl

fits_by : (at len : ℕ) → 0 < len → len ≤ 4 → len ≢ 3 → (2 ≤ len → at % 2 ≡ 0) → (4 ≤ len → at % 4 ≡ 0) → at % 4096 + len ≤ 4096
fits_by at len a b c d e = elim (cases_lt len 2) [
  | inl one ↦ omega arith
  | inr two ↦ let even : at % 2 ≡ 0 = d two in elim (cases_lt len 4) [
    | inl less ↦ omega arith
    | inr four ↦ let whole : at % 4 ≡ 0 = e four in omega arith
  ]
]

pub piece_fits : (p : Piece) → IsPiece p → p.at % 4096 + p.len ≤ 4096
piece_fits p (a, b, c, d, e) = fits_by p.at p.len a b c d e

pub word_fits : (at : ℕ) → at % 2 ≡ 0 → at % 4096 + 2 ≤ 4096
word_fits at h = omega arith

pub line_fits : (at : ℕ) → at % 16 ≡ 0 → at % 4096 + 16 ≤ 4096
line_fits at h = omega arith

pub in_guest : (place at len size : ℕ) → place / 4096 * 4096 + 4096 ≤ size → place % 4096 ≡ at % 4096 → at % 4096 + len ≤ 4096 → place + len ≤ size
in_guest place at len size h e k = omega arith
