-- SSW's bits from CT on are clear in the five cases.
use Rattle.std.proofs.Common.{◌≡◌, refl, if◌then◌else◌, ℕ, ◌^◌, ◌<◌, false, Option, Some, None, arith}
use Rattle.std.specs.Prelude.{slice_get}
use Rattle.mb_port.specs.declared.types.Space.{Space}
use Rattle.mb_port.specs.declared.types.Space.TheVariants.{Super}
use Rattle.mb_frames.specs.declared.frame.Access.{Access}
use Rattle.mb_frames.specs.declared.pend.Pend.{Pend}
use Rattle.mb_frames.specs.AccessFields.{AccessCase, Check, Line, Movem, Read, Write, access_fields, with_writeback_1, with_writeback_2, with_writeback_3}
use Rattle.mb_frames.specs.declared.status_bits.TheConstants.{ATC, LK, RW}
use Rattle.mb_frames.proofs.StatusBits.{access_bits-le, bit_if-le, status-le}

-- a writeback changes no bit of SSW
writebacks-ssw : (space : Space) (one two three : Option Pend) (a : Access)
    → (with_writeback_1 space one (with_writeback_2 space two (with_writeback_3 space three a))).ssw ≡ a.ssw
writebacks-ssw space None None None a = refl
writebacks-ssw space None None (Some r) a = refl
writebacks-ssw space None (Some q) None a = refl
writebacks-ssw space None (Some q) (Some r) a = refl
writebacks-ssw space (Some p) None None a = refl
writebacks-ssw space (Some p) None (Some r) a = refl
writebacks-ssw space (Some p) (Some q) None a = refl
writebacks-ssw space (Some p) (Some q) (Some r) a = refl

pub clear_from_ct : (case : AccessCase) (page : ℕ) → (access_fields case page).ssw < 2 ^ 13
clear_from_ct (Read fault first) page =
    omega (arith, status-le fault (if fault.code then fault.at else first) page, bit_if-le fault.write LK)
clear_from_ct (Write fault first rest) page =
    rw (writebacks-ssw fault.space (slice_get rest 0) (slice_get rest 1) (slice_get rest 2) _) (omega (arith, status-le fault first page))
clear_from_ct (Line fault line) page = omega (arith, status-le fault fault.at page)
clear_from_ct (Movem fault first start done words next is_load) page =
    omega (arith, status-le fault start page, bit_if-le is_load RW)
clear_from_ct (Check fault) page = omega (arith, bit_if-le fault.atc ATC, access_bits-le fault.len Super false)
