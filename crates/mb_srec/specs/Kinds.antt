-- The kinds of records.
use Rattle.std.specs.Prelude.{ℕ, Bool, true, false, ◌==◌, if◌then◌else◌, Option, Some, None}
use Rattle.mb_srec.specs.declared.kind.Kind.{Kind}
use Rattle.mb_srec.specs.declared.kind.Kind.TheVariants.{S0, S1, S2, S3, S5, S6, S7, S8, S9}

-- the kind of a digit: 48 is the character `0`
abbrev pub kind_of : ℕ → Option Kind
kind_of digit =
    if digit == 48 then Some S0
    else if digit == 49 then Some S1
    else if digit == 50 then Some S2
    else if digit == 51 then Some S3
    else if digit == 53 then Some S5
    else if digit == 54 then Some S6
    else if digit == 55 then Some S7
    else if digit == 56 then Some S8
    else if digit == 57 then Some S9
    else None

-- how many bytes the address takes, or the count in its place
abbrev pub address_len : Kind → ℕ
address_len S0 = 2
address_len S1 = 2
address_len S2 = 3
address_len S3 = 4
address_len S5 = 2
address_len S6 = 3
address_len S7 = 4
address_len S8 = 3
address_len S9 = 2

abbrev pub may_hold_data : Kind → Bool
may_hold_data S0 = true
may_hold_data S1 = true
may_hold_data S2 = true
may_hold_data S3 = true
may_hold_data _ = false
