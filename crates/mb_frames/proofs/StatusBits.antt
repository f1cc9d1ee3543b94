-- How large the fields of SSW are.
use Rattle.std.proofs.Common.{◌+◌, ◌^◌, ◌≤◌, ◌&&◌, lit≤, ℕ, Bool, true, false, arith}
use Rattle.std.proofs.lemmas.Bool.Decides.{nat_tests}
use Rattle.mb_port.specs.declared.types.Fault.{Fault}
use Rattle.mb_port.specs.declared.types.Space.{Space}
use Rattle.mb_port.specs.declared.types.Space.TheVariants.{Super, User}
use Rattle.mb_frames.specs.AccessFields.{access_bits, bit_if, is_other_page, size_code, status, transfer_modifier, transfer_type}
use Rattle.mb_frames.specs.declared.status_bits.TheConstants.{MA, ATC}

pub bit_if-le : (set : Bool) (bit : ℕ) → bit_if set bit ≤ bit
bit_if-le true bit = omega arith
bit_if-le false bit = omega arith

size_code-le : (len : ℕ) → size_code len ≤ 3
size_code-le len = grind (arith, nat_tests)

transfer_type-le : (len : ℕ) → transfer_type len ≤ 1
transfer_type-le len = grind (arith, nat_tests)

transfer_modifier-le : (space : Space) (code : Bool) → transfer_modifier space code ≤ 6
transfer_modifier-le User false = lit≤ tt
transfer_modifier-le User true = lit≤ tt
transfer_modifier-le Super false = lit≤ tt
transfer_modifier-le Super true = lit≤ tt

pub access_bits-le : (len : ℕ) (space : Space) (code : Bool) → access_bits len space code ≤ 110
access_bits-le len space code =
    omega (arith, size_code-le len, transfer_type-le len, transfer_modifier-le space code)

-- MA, ATC and the low bits
pub status-le : (fault : Fault) (start page : ℕ) → status fault start page ≤ 2 ^ 11 + 2 ^ 10 + 110
status-le fault start page =
    omega (
      arith,
      bit_if-le (fault.atc && is_other_page page fault.at start) MA,
      bit_if-le fault.atc ATC,
      access_bits-le fault.len fault.space fault.code,
    )
