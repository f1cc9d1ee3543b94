-- Which registers instructions in short leave as they were.
use Rattle.std.proofs.Common.{◌≡◌, ◌∙◌, ℕ, ◌<◌, ◌-◌, ◌^◌, Bool, true, false, List, length, get_or, set, Ok, Err, ap, refl}
use Rattle.std.specs.Prelude.{◌==◌, if◌then◌else◌}
use Rattle.std.proofs.lemmas.List.{get_or-set_other, length-set}
use Rattle.mb_instr.specs.declared.registers.Plain.{Plain}
use Rattle.mb_instr.specs.declared.kinds.Branch.TheVariants as displacement
use Rattle.mb_instr.specs.declared.kinds.Condition.{Condition}
use Rattle.mb_instr.specs.declared.size.Size.{Size}
use Rattle.mb_instr.specs.declared.size.Size.TheVariants.{Word}
use Rattle.mb_instr.specs.Operands.{lower}
use Rattle.mb_instr.specs.Registers.{data_register, with_address_register}
use Rattle.mb_instr.specs.Sizes.{low_of}
use Rattle.mb_ea.specs.Resolve.{step_over_of}
use Rattle.def_instructions.specs.Attempt.{past}
use Rattle.def_instructions.specs.Conditions.{is_met}
use Rattle.def_instructions.specs.Ends.{Rowed, carried, jumped, went}
use Rattle.def_instructions.specs.Flow.{count_down_of, dbcc_of, go_if_counted_of, go_if_met_of, target_of}
use Rattle.mb_table.specs.declared.forms.Place.{Place}
use Rattle.mb_table.specs.declared.forms.Place.TheVariants as place
use Rattle.mb_table.specs.declared.forms.Taking.{Taking}
use Rattle.mb_table.specs.declared.forms.Taking.TheVariants as taking
use Rattle.mb_table.specs.Forms.{place_ea}
use Rattle.mb_short.specs.declared.changed.Changed.{Changed}
use Rattle.mb_short.specs.declared.changed.Changed.TheVariants.{Nothing, Data, Address, Both, Any}
use Rattle.mb_short.specs.Changed.{AgreeBut, Differ, taken_in, with_address, with_step}
use Rattle.mb_short.specs.Operands.{HasRegister, taken_by}

number_set : (n value : ℕ) (l : List ℕ) → n < 8 → AgreeBut n l (set l n value)
number_set n value l less = record { within = less; as_many = length-set l n value; others = λ i other. get_or-set_other l n i value 0 other }

none_set : (n : ℕ) (l : List ℕ) → n < 8 → AgreeBut n l l
none_set n l less = record { within = less; as_many = refl; others = λ i other. refl }

-- of the registers beside PC and the condition codes
pub data_written : (n value : ℕ) (d a : List ℕ) → n < 8 → AgreeBut n d (set d n value) × (a ≡ a)
data_written n value d a less = (number_set n value d less, refl)

pub none_written : (n : ℕ) (d a : List ℕ) → n < 8 → AgreeBut n d d × (a ≡ a)
none_written n d a less = (none_set n d less, refl)

pub address_written : (n value : ℕ) (d a : List ℕ) → n < 8 → (d ≡ d) × AgreeBut n a (set a n value)
address_written n value d a less = (refl, number_set n value a less)

-- an operand that was taken
pub taken_differs : (t : Taking) (size : Size) (value : ℕ) (p : Plain) → HasRegister t → Differ (taken_in t) p (taken_by t size value p)
taken_differs (taking.Move n) size value p has = data_written n _ p.d p.a has
taken_differs (taking.Add n) size value p has = data_written n _ p.d p.a has
taken_differs (taking.Subtract n) size value p has = data_written n _ p.d p.a has
taken_differs (taking.And n) size value p has = data_written n _ p.d p.a has
taken_differs (taking.Or n) size value p has = data_written n _ p.d p.a has
taken_differs (taking.Compare n) size value p has = none_written n p.d p.a has
taken_differs (taking.CompareAddress n) size value p has = (refl, refl)
taken_differs taking.Test size value p has = (refl, refl)
taken_differs (taking.MoveAddress n) size value p has = address_written n _ p.d p.a has
taken_differs (taking.AddAddress n) size value p has = address_written n _ p.d p.a has
taken_differs (taking.SubtractAddress n) size value p has = address_written n _ p.d p.a has

pub ruleset changes = (data_written, none_written, address_written, taken_differs)

-- ---- operands whose address register steps

stepped_taken : (t : Taking) (size : Size) (value m to : ℕ) (p : Plain) → HasRegister t → m < 8
    → Differ (with_address m (taken_in t)) p (taken_by t size value (with_address_register (past 1 p) m to))
stepped_taken (taking.Move n) size value m to p has less = (number_set n _ p.d has, number_set m to p.a less)
stepped_taken (taking.Add n) size value m to p has less = (number_set n _ p.d has, number_set m to p.a less)
stepped_taken (taking.Subtract n) size value m to p has less = (number_set n _ p.d has, number_set m to p.a less)
stepped_taken (taking.And n) size value m to p has less = (number_set n _ p.d has, number_set m to p.a less)
stepped_taken (taking.Or n) size value m to p has less = (number_set n _ p.d has, number_set m to p.a less)
stepped_taken (taking.Compare n) size value m to p has less = (none_set n p.d has, number_set m to p.a less)
stepped_taken (taking.CompareAddress n) size value m to p has less = (refl, number_set m to p.a less)
stepped_taken taking.Test size value m to p has less = (refl, number_set m to p.a less)
stepped_taken (taking.MoveAddress n) size value m to p has less = tt
stepped_taken (taking.AddAddress n) size value m to p has less = tt
stepped_taken (taking.SubtractAddress n) size value m to p has less = tt

by_past : (c : Changed) (p q : Plain) → Differ c (past 1 p) q → Differ c p q
by_past Nothing p q h = h
by_past (Data n) p q h = h
by_past (Address n) p q h = h
by_past (Both n m) p q h = h
by_past Any p q h = h

pub taken_from : (t : Taking) (place : Place) (size : Size) (value : ℕ) (p : Plain) → HasRegister t → lower (place_ea place) < 8
    → Differ (with_step place (taken_in t)) p (taken_by t size value (step_over_of (place_ea place) size (past 1 p)))
taken_from t (place.At m) size value p has less = by_past (taken_in t) p _ (taken_differs t size value (past 1 p) has)
taken_from t (place.Up m) size value p has less = stepped_taken t size value m _ p has less
taken_from t (place.Down m) size value p has less = stepped_taken t size value m _ p has less

pub stepped : (place : Place) (size : Size) (n ccr : ℕ) (p : Plain) → lower (place_ea place) < 8
    → Differ (with_step place Nothing) p (record (step_over_of (place_ea place) size (past n p)) { ccr = ccr })
stepped (place.At m) size n ccr p less = (refl, refl)
stepped (place.Up m) size n ccr p less = (refl, number_set m _ p.a less)
stepped (place.Down m) size n ccr p less = (refl, number_set m _ p.a less)

pub ruleset steps = (taken_from, stepped)

-- ---- branches and loops

-- the registers of a row that was carried out
abbrev pub registers_in : Plain → Rowed → Plain
registers_in p (Ok done) = done.plain
registers_in p (Err cut) = p

met_differ : (c : Bool) (target : ℕ) (p q : Plain) → q ≡ registers_in p (if c then jumped (record p { pc = target }) else carried p)
    → Differ Nothing p q
met_differ true target p q h = (ap (λ (x : Plain). x.d) h, ap (λ (x : Plain). x.a) h)
met_differ false target p q h = (ap (λ (x : Plain). x.d) h, ap (λ (x : Plain). x.a) h)

pub branch_differs : (c : Condition) (target : ℕ) (p q : Plain) (flow : Bool) → went flow q ≡ go_if_met_of c target p → Differ Nothing p q
branch_differs c target p q flow h = met_differ (is_met c p.ccr) target p q (ap (registers_in p) h)

still : (n : ℕ) (p q : Plain) → n < 8 → q ≡ p → Differ (Data n) p q
still n p q less h = (
  record {
    within = less;
    as_many = ap (λ (x : Plain). length x.d) h;
    others = λ i other. ap (λ (x : Plain). get_or x.d i 0) h;
  },
  ap (λ (x : Plain). x.a) h,
)

counted : (n value : ℕ) (p q : Plain) → n < 8 → q.a ≡ p.a → q.d ≡ set p.d n value → Differ (Data n) p q
counted n value p q less a d = (
  record {
    within = less;
    as_many = ap (λ (l : List ℕ). length l) d ∙ length-set p.d n value;
    others = λ i other. ap (λ (l : List ℕ). get_or l i 0) d ∙ get_or-set_other p.d n i value 0 other;
  },
  a,
)

counted_differ : (last : Bool) (n target : ℕ) (p q : Plain) → n < 8
    → q ≡ registers_in p (if last then carried (count_down_of n p) else jumped (record (count_down_of n p) { pc = target })) → Differ (Data n) p q
counted_differ true n target p q less h = counted n _ p q less (ap (λ (x : Plain). x.a) h) (ap (λ (x : Plain). x.d) h)
counted_differ false n target p q less h = counted n _ p q less (ap (λ (x : Plain). x.a) h) (ap (λ (x : Plain). x.d) h)

turned_differ : (met : Bool) (n target : ℕ) (p q : Plain) → n < 8
    → q ≡ registers_in p (if met then carried p else go_if_counted_of n target p) → Differ (Data n) p q
turned_differ true n target p q less h = still n p q less h
turned_differ false n target p q less h =
    counted_differ (low_of Word (data_register (count_down_of n p) n) == 2 ^ 16 - 1) n target p q less h

pub loop_differs : (c : Condition) (n d word_at : ℕ) (p q : Plain) (flow : Bool) → n < 8 → went flow q ≡ dbcc_of c n d word_at p
    → Differ (Data n) p q
loop_differs c n d word_at p q flow less h =
    turned_differ (is_met c p.ccr) n (target_of word_at (displacement.Word d)) p q less (ap (registers_in p) h)

pub ruleset turns = (branch_differs, loop_differs)
