-- What a free board searched out is kept.
use Rattle.std.proofs.Common.{◌≡◌, ℕ, List, refl, sym, subst}
use Rattle.std.specs.Prelude.{Option, option_to_list}
use Rattle.mb_port.specs.Routine.{Fetch, Read, Write, ReadLine, WriteLine, Probe}
use Rattle.mb_port.specs.declared.types.Place.{Place}
use Rattle.mb_model.specs.declared.kept.Kept.{Kept}
use Rattle.mb_model.specs.Keeping.{KeptLists}
use Rattle.mb_walk.specs.declared.found.Found.{Found}
use Rattle.mb_walk.specs.declared.found.Found.TheVariants.{Entry}
use Rattle.def_machine.specs.declared.reference.Reference.{Reference}
use Rattle.def_machine.specs.declared.reference.Settled.{Settled}
use Rattle.def_machine.specs.World.{World}
use Rattle.def_machine.specs.Places.{taken, stored, checked, taken_line, stored_line}
use Rattle.def_machine.specs.Access.{search_for, searched, translated, by_settled, by_found}
use Rattle.def_machine.specs.Bus.{reading_of, writing_of, fetching_of, read_at, read_by, written_at, written_by}
use Rattle.def_runs.specs.Free.{IsKept, rule_free, with_class_entry}
use Rattle.def_runs.specs.Laws.{IsFound, Searches, FreeBoardsFill}
use Rattle.def_runs.proofs.KeptLemmas.{filled-first}
use Rattle.def_runs.proofs.Blind.{IsBlind, IsBlindStore, taken-blind, taken_line-blind, checked-blind, stored-blind, stored_line-blind}
use Rattle.def_runs.proofs.Blind.{read-blind, write-blind, blind-kept}

module _ (entry : Option Kept) (w : World) (k : Kept) (r : Reference) where
  found_fills : (ram : List ℕ) (status : ℕ) (f : Found) → f ≡ Entry k status
      → IsKept k (by_found rule_free (record (with_class_entry entry w) { ram = ram }) r f).1.kept
  found_fills ram status f e =
      subst (λ (f : Found). IsKept k (by_found rule_free (record (with_class_entry entry w) { ram = ram }) r f).1.kept) (sym e)
      (filled-first rule_free r.code k (option_to_list entry) w.kept refl)

  searched_fills : IsFound w k r → IsKept k (searched rule_free (with_class_entry entry w) r).1.kept
  searched_fills (status, e) =
      let s = search_for w r in found_fills s.ram status s.found e

  translated_fills : Searches entry w r → IsFound w k r → IsKept k (translated rule_free r (with_class_entry entry w)).1.kept
  unfolding translated
  translated_fills h f =
      subst (λ (s : Settled). IsKept k (by_settled rule_free (with_class_entry entry w) r s).1.kept) (sym h) (searched_fills f)

  -- what follows leaves what is kept
  then_fills : {A : Type 0} (g : Option ℕ → World → A × World) → ((o : Option ℕ) → IsBlind (g o)) → Searches entry w r → IsFound w k r
      → let x = translated rule_free r (with_class_entry entry w) in IsKept k (g x.0 x.1).1.kept
  then_fills g blind h f =
      let x = translated rule_free r (with_class_entry entry w) in
      subst (λ (kept : KeptLists). IsKept k kept) (sym (blind-kept (g x.0) (blind x.0) x.1)) (translated_fills h f)

  read_fills : {A : Type 0} (len : ℕ) (take : Place → World → Option A × World) → ((place : Place) → IsBlind (take place))
      → Searches entry w r → IsFound w k r → IsKept k (read_by rule_free r len take (with_class_entry entry w)).1.kept
  read_fills len take blind h f = then_fills (read_at r len take) (read-blind r len take blind) h f

  write_fills : (len : ℕ) (store : Place → World → Option World) → ((place : Place) → IsBlindStore (store place))
      → Searches entry w r → IsFound w k r → IsKept k (written_by rule_free r len store (with_class_entry entry w)).1.kept
  write_fills len store blind h f = then_fills (written_at r len store) (write-blind r len store blind) h f

pub free-boards_fill : FreeBoardsFill
free-boards_fill (Fetch space at) w entry k = λ h f. read_fills entry w k (fetching_of space at) 2 taken taken-blind h f
free-boards_fill (Read space p) w entry k = λ h f. read_fills entry w k (reading_of space p.at) p.len taken taken-blind h f
free-boards_fill (Write space p value) w entry k =
    λ h f. write_fills entry w k (writing_of space p.at) p.len (λ place. stored place value) (λ place. stored-blind place value) h f
free-boards_fill (ReadLine space at) w entry k = λ h f. read_fills entry w k (reading_of space at) 16 taken_line taken_line-blind h f
free-boards_fill (WriteLine space at line) w entry k =
    λ h f. write_fills entry w k (writing_of space at) 16 (λ place. stored_line place line) (λ place. stored_line-blind place line) h f
free-boards_fill (Probe space p) w entry k = λ h f. read_fills entry w k (writing_of space p.at) p.len checked checked-blind h f
free-boards_fill other w entry k = tt
