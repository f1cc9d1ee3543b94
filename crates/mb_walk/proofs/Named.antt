-- A search names its page.
use Rattle.std.proofs.Common.{◌≡◌, ℕ, Bool, true, false, if◌then◌else◌, List, refl, Result, Ok, Err}
use Rattle.mb_port.specs.declared.types.Space.{Space}
use Rattle.mb_walk.specs.declared.found.Found.{Found}
use Rattle.mb_walk.specs.declared.found.Found.TheVariants.{Invalid, BusError}
use Rattle.mb_walk.specs.Search.{Searched, Level, below, and_below, descended, paged, pointed, ended, search_of, is_inside, OnEntry}
use Rattle.mb_walk.specs.Memory.{number_at, with_number}
use Rattle.mb_walk.specs.Descriptors.{table_descriptor, with_used}

abbrev Names : Space → ℕ → Found → Type 0
Names space page found = OnEntry found (λ k. (k.space ≡ space) × (k.page ≡ page))

abbrev Ends : Space → ℕ → Result ℕ Found → Type 0
Ends space page (Ok d) = Unit {0}
Ends space page (Err f) = Names space page f

-- as records, so that what they are of is told by their types
record Named (space : Space) (page : ℕ) (s : Searched) : Type 0 where
  is : Names space page s.found

record Ended (space : Space) (page : ℕ) (s : Level) : Type 0 where
  is : Ends space page s.descriptor

module _ (space : Space) (page : ℕ) where
  nothing : (ram : List ℕ) → Named space page (record { ram = ram; found = Invalid })
  nothing ram = record { is = tt }

  outside : (ram : List ℕ) → Named space page (record { ram = ram; found = BusError })
  outside ram = record { is = tt }

  goes : (ram : List ℕ) (d : ℕ) → Ended space page (record { ram = ram; descriptor = Ok d })
  goes ram d = record { is = tt }

  stops : (ram : List ℕ) → Ended space page (record { ram = ram; descriptor = Err Invalid })
  stops ram = record { is = tt }

  fails : (ram : List ℕ) → Ended space page (record { ram = ram; descriptor = Err BusError })
  fails ram = record { is = tt }

  either : (b : Bool) (s t : Searched) → Named space page s → Named space page t → Named space page (if b then s else t)
  either true s t h k = h
  either false s t h k = k

  either_level : (b : Bool) (s t : Level) → Ended space page s → Ended space page t → Ended space page (if b then s else t)
  either_level true s t h k = h
  either_level false s t h k = k

  paged_names : (ram : List ℕ) (place : ℕ) (protected write big : Bool) → Named space page (paged ram place space page protected write big)
  paged_names ram place protected write big = record { is = (refl, refl) }

  pointed_names : (ram : List ℕ) (place : ℕ) (protected write big : Bool) → Named space page (pointed ram place space page protected write big)
  unfolding pointed
  pointed_names ram place protected write big = either _ _ _ (either _ _ _ (paged_names ram place protected write big) (nothing ram)) (outside ram)

  ended_names : (ram : List ℕ) (place : ℕ) (protected write big : Bool) → Named space page (ended ram place space page protected write big)
  unfolding ended
  ended_names ram place protected write big =
      either _ _ _ (either _ _ _ (paged_names ram place protected write big)
      (either _ _ _ (pointed_names ram _ protected write big) (nothing ram))) (outside ram)

  descended_ends : (ram : List ℕ) (place : ℕ) → Ended space page (descended ram place)
  unfolding descended
  descended_ends ram place =
      let long = number_at ram place 4 in
      let on : Level = record { ram = with_number ram place 4 (with_used long); descriptor = Ok long } in
      let off : Level = record { ram = ram; descriptor = Err Invalid } in
      let resident = (table_descriptor long).resident in
      either_level (is_inside ram place) (if resident then on else off) (record { ram = ram; descriptor = Err BusError })
      (either_level resident on off (goes _ long) (stops ram)) (fails ram)

  below_names : (ram : List ℕ) (d : Result ℕ Found) (next : List ℕ → ℕ → Searched) → Ends space page d
      → ((descriptor : ℕ) → Named space page (next ram descriptor))
      → Named space page (below ram d next)
  below_names ram (Ok d) next e h = h d
  below_names ram (Err f) next e h = record { is = e }

  and_below_names : (level : Level) (next : List ℕ → ℕ → Searched) → Ended space page level
      → ((ram : List ℕ) (descriptor : ℕ) → Named space page (next ram descriptor))
      → Named space page (and_below level next)
  and_below_names level next e h = below_names level.ram level.descriptor next e.is (λ d. h level.ram d)

  named : (ram : List ℕ) (root : ℕ) (write big : Bool) → Named space page (search_of ram root space page write big)
  named ram root write big =
      and_below_names _ _ (descended_ends ram _) (λ ram pointer. and_below_names _ _ (descended_ends ram _) (λ ram leaf. ended_names ram _ _ write big))

  pub search_names : (ram : List ℕ) (root : ℕ) (write big : Bool) → Names space page (search_of ram root space page write big).found
  search_names ram root write big = (named ram root write big).is
