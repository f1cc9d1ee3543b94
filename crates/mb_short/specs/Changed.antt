-- Which registers an instruction in short may change.
use Rattle.std.specs.Prelude.{◌≡◌, ◌≢◌, ⊤, ℕ, ◌<◌, List, length, slice_index_or}
use Rattle.mb_instr.specs.declared.registers.Plain.{Plain}
use Rattle.mb_table.specs.declared.short.Short.{Short}
use Rattle.mb_table.specs.declared.short.Short.TheVariants as short
use Rattle.mb_table.specs.declared.forms.Place.{Place}
use Rattle.mb_table.specs.declared.forms.Place.TheVariants as place
use Rattle.mb_table.specs.declared.forms.Taking.{Taking}
use Rattle.mb_table.specs.declared.forms.Taking.TheVariants as taking
use Rattle.mb_short.specs.declared.changed.Changed.{Changed}
use Rattle.mb_short.specs.declared.following.Values.{Values}
use Rattle.mb_short.specs.declared.changed.Changed.TheVariants.{Nothing, Data, Address, Both, Any}

-- what an operand that is taken may change
abbrev pub taken_in : Taking → Changed
taken_in (taking.Move n) = Data n
taken_in (taking.Add n) = Data n
taken_in (taking.Subtract n) = Data n
taken_in (taking.And n) = Data n
taken_in (taking.Or n) = Data n
taken_in (taking.Compare n) = Data n
taken_in (taking.CompareAddress n) = Nothing
taken_in taking.Test = Nothing
taken_in (taking.MoveAddress n) = Address n
taken_in (taking.AddAddress n) = Address n
taken_in (taking.SubtractAddress n) = Address n

-- what may change where an address register changes too
abbrev pub with_address : ℕ → Changed → Changed
with_address m Nothing = Address m
with_address m (Data n) = Both n m
with_address m _ = Any

-- what may change where the address register of an operand steps too
abbrev pub with_step : Place → Changed → Changed
with_step (place.At m) c = c
with_step (place.Up m) c = with_address m c
with_step (place.Down m) c = with_address m c

-- what the instruction of a short form that comes less often may change
abbrev pub changed_of : Short → Changed
changed_of (short.PutNear putting size m) = Nothing
changed_of (short.PutIndexed putting size m) = Nothing
changed_of (short.PutAbsolute putting size) = Nothing
changed_of (short.CopyToNear size n m) = Nothing
changed_of (short.TestBit n) = Nothing
changed_of (short.TakeRegister taking size register) = taken_in taking
changed_of (short.TakeMemory taking size at) = with_step at (taken_in taking)
changed_of (short.TakeNear taking size m) = taken_in taking
changed_of (short.TakeIndexed taking size m) = taken_in taking
changed_of (short.TakeImmediate taking size) = taken_in taking
changed_of (short.TakeAbsolute taking size) = taken_in taking
changed_of (short.PutMemory putting size at) = with_step at Nothing
changed_of (short.UpdateMemory update size at) = with_step at Nothing
changed_of (short.UpdateNear update size m) = Nothing
changed_of (short.CopyNear size m at) = with_step at Nothing
changed_of (short.Change change size n) = Data n
changed_of (short.AddressNear n m) = Address n
changed_of (short.AddressIndexed n m) = Address n
changed_of (short.AddressFromCounter n) = Address n
changed_of (short.AddressAbsolute n) = Address n
changed_of short.Return = Address 7
changed_of (short.Call d) = Address 7
changed_of short.CallFar = Address 7
changed_of _ = Any

-- Numbers that differ in none but this one.
pub record AgreeBut (n : ℕ) (xs ys : List ℕ) : Type 0 where
  pub within : n < 8
  pub as_many : length ys ≡ length xs
  pub others : (i : ℕ) → i ≢ n → slice_index_or ys i 0 ≡ slice_index_or xs i 0

-- Of the registers beside PC and the condition codes no other differ than these may.
abbrev pub Differ : Changed → Plain → Plain → Type 0
Differ Nothing p q = (q.d ≡ p.d) × (q.a ≡ p.a)
Differ (Data n) p q = AgreeBut n p.d q.d × (q.a ≡ p.a)
Differ (Address m) p q = (q.d ≡ p.d) × AgreeBut m p.a q.a
Differ (Both n m) p q = AgreeBut n p.d q.d × AgreeBut m p.a q.a
Differ Any p q = ⊤

-- What follows registers has followed these, by what it follows of D0 to D7 and A0 to A7.
abbrev pub Follows : {S : Type 0} → (S → List ℕ → List ℕ → Type 0) → S → Plain → Type 0
Follows by s p = by s p.d p.a

-- These are the values of the registers that may change.
abbrev pub Remembers : Changed → Plain → Values → Type 0
Remembers Nothing p v = ⊤
Remembers (Data n) p v = slice_index_or p.d n 0 ≡ v.data
Remembers (Address m) p v = slice_index_or p.a m 0 ≡ v.address
Remembers (Both n m) p v = (slice_index_or p.d n 0 ≡ v.data) × (slice_index_or p.a m 0 ≡ v.address)
Remembers Any p v = ⊤

-- There are such registers.
abbrev pub IsWithin : Changed → Type 0
IsWithin Nothing = ⊤
IsWithin (Data n) = n < 8
IsWithin (Address m) = m < 8
IsWithin (Both n m) = (n < 8) × (m < 8)
IsWithin Any = ⊤
