-- Bytes that are spelled by pairs of digits.
use Rattle.std.proofs.Common.{◌≡◌, ℕ, ◌*◌, ◌≤◌, List, length, Ok, arith}
use Rattle.hex.specs.Hex.{decode_of}
use Rattle.hex.proofs.HexLemmas.{decode_of-ok}

pub shorter : (digits bytes : List ℕ) → decode_of digits ≡ Ok bytes → length bytes ≤ length digits
shorter digits bytes h =
    let twice : length digits ≡ 2 * length bytes = (decode_of-ok digits bytes h).2 in
    omega arith
