-- A call whose reference is known to lead to a piece in RAM: it reads, writes or checks that piece, and nothing else happens.
use Rattle.std.proofs.Common.{◌≡◌, ◌∙◌, ap, sym, ℕ, ◌+◌, ◌≤◌, Bool, true, false, List, length, arith}
use Rattle.std.proofs.lemmas.Bool.Decides.{nat_tests}
use Rattle.std.specs.Prelude.{Option, Some, None, Ok, if◌then◌else◌}
use Rattle.mb_model.specs.Keeping.{Rule}
use Rattle.mb_walk.specs.Memory.{number_at, with_number}
use Rattle.mb_walk.proofs.MemoryLemmas.{length-with_number}
use Rattle.def_machine.specs.declared.reference.Reference.{Reference}
use Rattle.def_machine.specs.World.{World}
use Rattle.def_machine.specs.Access.{translated}
use Rattle.def_machine.specs.Bus.{read_at, read_by, faulting, fault_of, place_at, written_at, written_by, wrote}
use Rattle.def_machine.specs.Places.{checked, in_ram, taken, stored}
use Rattle.def_machine.proofs.BusLemmas.{taken_memory, stored_memory, takes_memory}
use Rattle.mb_board.specs.Beside.{without_ram}

pub read_at_once : (rule : Rule) (w : World) (q r : Reference) (at len value : ℕ) → q ≡ r → translated rule q w ≡ (Some at, w)
    → in_ram (length w.ram) at len ≡ true → value ≡ number_at w.ram at len → read_by rule r len taken w ≡ (Ok value, w)
read_at_once rule w q r at len value same leads inside is =
    ap (λ (t : Option ℕ × World). read_at r len taken t.0 t.1) (ap (λ (x : Reference). translated rule x w) (sym same) ∙ leads)
    ∙ ap (λ (t : Option ℕ × World). faulting t (fault_of r len false)) (taken_memory w (place_at at len) inside)
    ∙ ap (λ (n : ℕ). (Ok n, w)) (sym is)

pub checked_at_once : (rule : Rule) (w : World) (q r : Reference) (at len : ℕ) → q ≡ r → translated rule q w ≡ (Some at, w)
    → in_ram (length w.ram) at len ≡ true → read_by rule r len checked w ≡ (Ok (place_at at len), w)
checked_at_once rule w q r at len same leads inside =
    ap (λ (t : Option ℕ × World). read_at r len checked t.0 t.1) (ap (λ (x : Reference). translated rule x w) (sym same) ∙ leads)
    ∙ ap (λ (b : Bool). faulting ((if b then Some (place_at at len) else None), w) (fault_of r len false))
    (takes_memory w (place_at at len) inside)

pub written_at_once : (rule : Rule) (w after : World) (q r : Reference) (at len value : ℕ) → q ≡ r → translated rule q w ≡ (Some at, w)
    → in_ram (length w.ram) at len ≡ true → after.ram ≡ with_number w.ram at len value → without_ram after ≡ without_ram w
    → written_by rule r len (λ place. stored place value) w ≡ (Ok tt, after)
written_at_once rule w after q r at len value same leads inside ram rest =
    ap (λ (t : Option ℕ × World). written_at r len (λ place. stored place value) t.0 t.1) (ap (λ (x : Reference). translated rule x w) (sym same) ∙ leads)
    ∙ ap (λ (o : Option World). wrote w o (fault_of r len false)) (stored_memory w (place_at at len) value inside)
    ∙ ap (λ (xs : List ℕ). (Ok tt, record w { ram = xs })) (sym ram) ∙ ap (λ (x : World). (Ok tt, record x { ram = after.ram })) (sym rest)

lies_inside : (count at len : ℕ) → in_ram count at len ≡ true → at + len ≤ count
lies_inside count at len inside = grind (arith, nat_tests)

-- and memory stays as long as it is
pub as_long : (ram after : List ℕ) (at len value : ℕ) → in_ram (length ram) at len ≡ true → after ≡ with_number ram at len value
    → length after ≡ length ram
as_long ram after at len value inside is = ap length is ∙ length-with_number ram at len value (lies_inside (length ram) at len inside)
