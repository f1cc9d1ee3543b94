-- Addresses are longs.
use Rattle.std.specs.Prelude.{ℕ, ◌+◌, ◌-◌, ◌%◌, ◌^◌, ◌<◌, ◌≤◌, List, [], ◌∷◌, length, slice_index, drop, Bool, true, false, if◌then◌else◌, nat_lt, ◌/◌}
use Rattle.mb_instr.specs.declared.size.Size.TheVariants.{Word}
use Rattle.mb_instr.specs.Sizes.{low_of, values_of, sign_extended}
use Rattle.std.proofs.Common.{arith, subst, sym, inl, inr, ◌⊎◌, zero, suc}
use Rattle.std.proofs.lemmas.List.{get_or_past}
use Rattle.std.proofs.lemmas.List.Elements.{All-get_or, All-set}
use Rattle.mb_instr.specs.declared.registers.Plain.{Plain}
use Rattle.mb_instr.specs.Registers.{register_of, data_register, address_register, with_address_register}
use Rattle.mb_ea.specs.declared.addresses.Target.{Target}
use Rattle.mb_ea.specs.declared.addresses.Target.TheVariants.{Reg, Memory, Value}
use Rattle.mb_ea.specs.Addresses.{sum, difference}
use Rattle.mb_writes.specs.declared.transfers.Transfer.{Transfer}
use Rattle.mb_writes.specs.declared.transfers.Movem.{Movem}
use Rattle.mb_writes.specs.Transfers.{placed, transfers_of}
use Rattle.def_instructions.specs.Operands.{stack_lowered}
use Rattle.law_tells.specs.Laws.{AreLongs}

-- a target in memory has an address
abbrev pub IsReached : Target → Type 0
IsReached (Reg n) = Unit {0}
IsReached (Memory at) = at < 2 ^ 32
IsReached (Value v) = Unit {0}

pub sum_long : (a b : ℕ) → sum a b < 2 ^ 32
sum_long a b = omega arith

pub difference_long : (a b : ℕ) → difference a b < 2 ^ 32
difference_long a b = omega arith

-- the low bytes with their sign
extended_cases : (b : Bool) (low : ℕ) → low < 2 ^ 16 → (if b then low else low + (2 ^ 32 - 2 ^ 16)) < 2 ^ 32
extended_cases true low h = omega arith
extended_cases false low h = omega arith

pub extended_long : (a : ℕ) → a < 2 ^ 16 → sign_extended Word a < 2 ^ 32
extended_long a h = extended_cases (nat_lt (low_of Word a) (values_of Word / 2)) (low_of Word a) (omega arith)

index_cases : (xs : List ℕ) (n : ℕ) → AreLongs xs → (n < length xs) ⊎ (length xs ≤ n) → slice_index xs n < 2 ^ 32
index_cases xs n h (inl inside) = All-get_or (λ v. v < 2 ^ 32) xs n 0 inside h
index_cases xs n h (inr past) = subst (λ v. v < 2 ^ 32) (sym (get_or_past xs n 0 past)) (omega arith)

pub address_long : (p : Plain) (n : ℕ) → AreLongs p.a → address_register p n < 2 ^ 32
address_long p n h = index_cases p.a n h (grind arith)

register_cases : (b : Bool) (m n : ℕ) → m < 2 ^ 32 → n < 2 ^ 32 → (if b then m else n) < 2 ^ 32
register_cases true m n h k = h
register_cases false m n h k = k

-- one of all sixteen
pub register_long : (p : Plain) (n : ℕ) → AreLongs p.d → AreLongs p.a → register_of p n < 2 ^ 32
register_long p n h k =
    register_cases (nat_lt n 8) (data_register p n) (address_register p (n - 8)) (index_cases p.d n h (grind arith)) (address_long p (n - 8) k)

pub with_long : (p : Plain) (n value : ℕ) → AreLongs p.a → value < 2 ^ 32 → AreLongs (with_address_register p n value).a
with_long p n value h lt = All-set (λ v. v < 2 ^ 32) p.a n value lt h

-- the top of the stack with one more long
pub lowered_long : (p : Plain) → AreLongs p.a → address_register (stack_lowered p) 7 < 2 ^ 32
lowered_long p h = address_long (stack_lowered p) 7 (with_long p 7 _ h (difference_long (address_register p 7) 4))

-- each transfer has an address
abbrev pub HaveAddresses : List Transfer → Type 0
HaveAddresses [] = Unit {0}
HaveAddresses (t ∷ ts) = (t.at < 2 ^ 32) × HaveAddresses ts

placed_addresses : (step at : ℕ) (rs : List ℕ) → at < 2 ^ 32 → HaveAddresses (placed step at rs)
placed_addresses step at [] h = tt
placed_addresses step at (r ∷ rs) h = (h, placed_addresses step ((at + step) % 2 ^ 32) rs (omega arith))

later_addresses : (n : ℕ) (ts : List Transfer) → HaveAddresses ts → HaveAddresses (drop n ts)
later_addresses zero ts h = h
later_addresses (suc n) [] h = tt
later_addresses (suc n) (t ∷ ts) h = later_addresses n ts h.1

pub transfer_addresses : (m : Movem) (ea done : ℕ) → ea < 2 ^ 32 → HaveAddresses (drop done (transfers_of m ea))
transfer_addresses m ea done h = later_addresses done _ (placed_addresses _ ea _ h)
