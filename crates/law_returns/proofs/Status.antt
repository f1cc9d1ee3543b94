-- S and M in the status registers of an entry and of its frames.
use Rattle.std.proofs.Common.{◌≡◌, ℕ, ◌+◌, ◌*◌, ◌/◌, ◌%◌, ◌^◌, ◌<◌, ◌==◌, true, false, refl, ap, ◌∙◌, arith}
use Rattle.std.specs.Prelude.{bit_or}
use Rattle.std.proofs.lemmas.Nat.Bits.{bit_at_and, bit_at_or}
use Rattle.std.specs.Int.{bit_at}
use Rattle.mb_instr.specs.Registers.{is_supervisor, is_master}
use Rattle.mb_model.specs.Status.{kept_status}
use Rattle.mb_model.specs.declared.status.TheConstants.{STATUS_BITS}
use Rattle.def_processor.specs.Entry.{supervised, without_master, with_mask, thrown_sr}

pub master_supervised : (sr : ℕ) → is_master (supervised sr) ≡ is_master sr
master_supervised sr =
    let e : (2 ^ 13 + sr % 2 ^ 13) / 2 ^ 12 % 2 ≡ sr / 2 ^ 12 % 2 = omega arith in
    ap (λ (n : ℕ). n == 1) e

pub master_masked : (level sr : ℕ) → level < 8 → is_master (with_mask level sr) ≡ is_master sr
master_masked level sr small =
    let e : (sr / 2 ^ 11 * 2 ^ 11 + level * 2 ^ 8 + sr % 2 ^ 8) / 2 ^ 12 % 2 ≡ sr / 2 ^ 12 % 2 = omega arith in
    ap (λ (n : ℕ). n == 1) e

pub master_without : (sr : ℕ) → is_master (without_master sr) ≡ false
master_without sr =
    let e : (sr / 2 ^ 13 * 2 ^ 13 + sr % 2 ^ 12) / 2 ^ 12 % 2 ≡ 0 = omega arith in
    ap (λ (n : ℕ). n == 1) e

kept_bit : (sr i b : ℕ) → bit_at STATUS_BITS i ≡ 1 → b < 2 → bit_at (bit_or sr (2 ^ 13)) i ≡ b → bit_at (kept_status (thrown_sr sr)) i ≡ b
kept_bit sr i b one small is = bit_at_and (bit_or sr (2 ^ 13)) STATUS_BITS i ∙ (omega arith)

pub thrown_supervisor : (sr : ℕ) → is_supervisor (kept_status (thrown_sr sr)) ≡ true
thrown_supervisor sr =
    let set : bit_at (bit_or sr (2 ^ 13)) 13 ≡ 1 = bit_at_or sr (2 ^ 13) 13 ∙ (let low : sr / 2 ^ 13 % 2 < 2 = omega arith in omega arith) in
    ap (λ (n : ℕ). n == 1) (kept_bit sr 13 1 refl (omega arith) set)

pub thrown_master : (sr : ℕ) → is_master (kept_status (thrown_sr sr)) ≡ is_master sr
thrown_master sr =
    let b = sr / 2 ^ 12 % 2 in
    let same : bit_at (bit_or sr (2 ^ 13)) 12 ≡ b = bit_at_or sr (2 ^ 13) 12 ∙ (let low : b < 2 = omega arith in omega arith) in
    ap (λ (n : ℕ). n == 1) (kept_bit sr 12 b refl (omega arith) same)
