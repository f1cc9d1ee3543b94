-- From what `clap` answers to what the words give.
use Rattle.std.proofs.Common.{◌≡◌, ◌∙◌, ◌⊎◌, inl, inr, Bool, true, false, cond, List, [], ◌∷◌, map, ap, sym, refl, Option, Some, None, subst}
use Rattle.std.specs.Prelude.{option_map}
use Rattle.std.specs.Str.{bytes_eq}
use Rattle.clap.specs.Kinds.{Kinds, IsAmong}
use Rattle.clap.specs.Faults.{fault_of}
use Rattle.clap.specs.Simple.{App, matches_of}
use Rattle.clap.specs.Walk.{Row, first_of, rows_of}
use Rattle.clap.specs.Words.{first_value}
use Rattle.clap.specs.declared.error.kind.ErrorKind.{ErrorKind}
use Rattle.clap.specs.declared.error.kind.ErrorKind.TheVariants as kind
use Rattle.clap.specs.declared.parser.matches.Found.{Found}
use Rattle.clap.proofs.WalkLemmas.{first_value-rows}
use Rattle.mb_forms.specs.Forms.{Text, Form, Use, IsNumbered, dashes_ok, read, value_in}
use Rattle.mb_forms.specs.Clap.{form_app, row_at, use_at, no_kinds}
use Rattle.mb_forms.specs.Said.{FaultFits}
use Rattle.mb_forms.specs.declared.fault.WordsFault.{WordsFault}
use Rattle.mb_forms.specs.declared.fault.WordsFault.TheVariants.{Memory, Refused}
use Rattle.mb_forms.proofs.Whole.{taken_by_clap}
use Rattle.mb_forms.proofs.Looks.{bool_cases}

some_mapped : (o : Option (List Use)) (rows : List Row) → Some rows ≡ option_map (map row_at) o → (uses : List Use) × (o ≡ Some uses) × (rows ≡ map row_at uses)
some_mapped None rows e = absurd (cc)
some_mapped (Some us) rows e = (us, refl, cc)

none_mapped : (o : Option (List Use)) → None ≡ option_map (map row_at) o → o ≡ None
none_mapped None e = refl
none_mapped (Some us) e = absurd (cc)

-- the rows, by the faults
abbrev rows_by : App → List Text → Kinds → Option (List Row)
rows_by app words k = cond (no_kinds k) (Some (matches_of app words)) None

-- no fault: the words read
pub taken : (form : Form) (words : List Text) → IsNumbered form → dashes_ok words ≡ true → fault_of (form_app form) words ≡ []
    → (uses : List Use) × (read form words ≡ Some uses) × (matches_of (form_app form) words ≡ map row_at uses)
taken form words few ok e =
    some_mapped (read form words) (matches_of (form_app form) words)
    (sym (ap (rows_by (form_app form) words) e) ∙ taken_by_clap form words few ok)

among_some : (k : ErrorKind) (ks : Kinds) → IsAmong k ks → no_kinds ks ≡ false
among_some k [] h = absurd h
among_some k (x ∷ xs) h = refl

-- a fault: they do not
pub refused : (form : Form) (words : List Text) (k : ErrorKind) → IsNumbered form → dashes_ok words ≡ true → IsAmong k (fault_of (form_app form) words)
    → read form words ≡ None
refused form words k few ok h =
    none_mapped (read form words)
    (sym (ap (λ (b : Bool). cond b (Some (matches_of (form_app form) words)) None) (among_some k (fault_of (form_app form) words) h))
    ∙ taken_by_clap form words few ok)

fault_fits : (given : Option (List Use)) (f : WordsFault) → (f ≡ Refused → given ≡ None) → FaultFits given f
fault_fits given Memory h = tt
fault_fits given Refused h = h refl

pub err_fits : (form : Form) (words : List Text) (app : App) (k : ErrorKind) (f : WordsFault) → IsNumbered form → app ≡ form_app form → dashes_ok words ≡ true
    → (f ≡ Refused → k ≡ kind.OutOfMemory → ⊥) → (k ≡ kind.OutOfMemory) ⊎ IsAmong k (fault_of app words) → FaultFits (read form words) f
err_fits form words app k f few is ok told cause = fault_fits (read form words) f (λ r. elim cause [
  | inl memory ↦ absurd (told r memory)
  | inr among ↦ refused form words k few ok (subst (λ (a : App). IsAmong k (fault_of a words)) is among)
])

-- ---- the value of a name

first_at : (id : Text) (uses : List Use) → first_of id (map row_at uses) ≡ value_in id uses
first_at id [] = refl
first_at id (u ∷ us) = elim (bool_cases (bytes_eq u.0 id)) [ inl t ↦ rw t refl | inr f ↦ rw f (first_at id us) ]

pub value_found : (f : Found) (id : Text) (uses : List Use) → rows_of f ≡ map row_at uses → first_value f id ≡ value_in id uses
value_found f id uses e = first_value-rows f id ∙ ap (first_of id) e ∙ first_at id uses

-- ---- the uses that are kept as rows

-- the rows have the uses that the words give
pub record Matched (form : Form) (words : List Text) (rows : List Row) : Type 0 where
  pub uses : List Use
  pub given : read form words ≡ Some uses
  pub rows_are : rows ≡ map row_at uses

pub matched : (form : Form) (words : List Text) (rows : List Row) → IsNumbered form → dashes_ok words ≡ true
    → fault_of (form_app form) words ≡ [] → rows ≡ matches_of (form_app form) words → Matched form words rows
matched form words rows few ok none e =
    let read = taken form words few ok none in
    record { uses = read.0; given = read.1; rows_are = e ∙ read.2 }

kept : (uses : List Use) → map use_at (map row_at uses) ≡ uses
kept [] = refl
kept (u ∷ us) = ap (λ (rest : List Use). u ∷ rest) (kept us)

pub given_kept : (form : Form) (words : List Text) (rows : List Row) → Matched form words rows
    → read form words ≡ Some (map use_at rows)
given_kept form words rows m =
    m.given ∙ ap (λ (us : List Use). Some us) (sym (ap (map use_at) m.rows_are ∙ kept m.uses))

pub rows_kept : (form : Form) (words : List Text) (rows : List Row) → Matched form words rows
    → rows ≡ map row_at (map use_at rows)
rows_kept form words rows m = m.rows_are ∙ ap (map row_at) (sym (ap (map use_at) m.rows_are ∙ kept m.uses))
