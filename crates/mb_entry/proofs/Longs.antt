-- Longs that are read one after the other.
use Rattle.std.proofs.Common.{◌≡◌, ℕ, suc, List, [], ◌∷◌, ◌++◌, Result, Ok, Err, refl, ap, sym, ◌∙◌}
use Rattle.mb_port.specs.Routine.{Bus, run, tried}
use Rattle.mb_port.specs.declared.types.Space.TheVariants.{Super}
use Rattle.mb_instr.specs.declared.size.Size.TheVariants.{Long}
use Rattle.mb_instr.specs.Sizes.{bytes_of}
use Rattle.mb_ea.specs.declared.reading.ReadFault.{ReadFault}
use Rattle.mb_ea.specs.Addresses.{sum}
use Rattle.mb_ea.specs.Reading.{read_operand_of}
use Rattle.def_processor.specs.Return.{read_longs_of}

abbrev pub LongRead : {S : Type 0} → Bus S → ℕ → S → Result ℕ ReadFault → S → Type 0
LongRead bus at s answer t = run bus (read_operand_of Super at (bytes_of Long)) s ≡ (answer, t)

-- what is done with an answer
answered : {S : Type 0} → Bus S → ℕ → ℕ → List ℕ → Result ℕ ReadFault × S → Result (List ℕ) ReadFault × S
answered bus n at longs x = run bus (tried x.0 (λ long. read_longs_of n (sum at 4) (longs ++ long ∷ []))) x.1

-- one came, and the others follow
pub longs_on : {S : Type 0} (bus : Bus S) (m n at : ℕ) (longs now : List ℕ) (long : ℕ) (s t : S) → m ≡ suc n
    → LongRead bus at s (Ok long) t → now ≡ longs ++ long ∷ []
    → run bus (read_longs_of m at longs) s ≡ run bus (read_longs_of n (sum at 4) now) t
unfolding read_longs_of answered
longs_on bus m n at longs now long s t e h k =
    rw e (ap (answered bus n at longs) h ∙ ap (λ l. run bus (read_longs_of n (sum at 4) l) t) (sym k))

-- one did not come
pub longs_without : {S : Type 0} (bus : Bus S) (m n at : ℕ) (longs : List ℕ) (refused : ReadFault) (s t : S) → m ≡ suc n
    → LongRead bus at s (Err refused) t → run bus (read_longs_of m at longs) s ≡ (Err refused, t)
unfolding read_longs_of answered
longs_without bus m n at longs refused s t e h = rw e (ap (answered bus n at longs) h)

-- no more are wanted
pub longs_done : {S : Type 0} (bus : Bus S) (m at : ℕ) (longs : List ℕ) (s : S) → m ≡ 0
    → run bus (read_longs_of m at longs) s ≡ (Ok longs, s)
unfolding read_longs_of
longs_done bus m at longs s e = rw e refl
