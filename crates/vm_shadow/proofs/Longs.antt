-- A long of an area that is written, and what it leaves.
use Rattle.std.proofs.Common.{◌≡◌, ◌∙◌, ℕ, ◌+◌, ◌*◌, ◌%◌, ◌^◌, ◌≤◌, ◌<◌, List, ◌++◌, length, take, drop}
use Rattle.std.proofs.Common.{ap, sym, arith, inl, inr, length-append, length-take}
use Rattle.std.proofs.Math.Path.{fun_ext}
use Rattle.std.proofs.lemmas.List.{take-append-le, take-take}
use Rattle.std.proofs.lemmas.Slice.{drop-append-drop}
use Rattle.std.proofs.lemmas.Bool.{cases_eq}
use Rattle.byteorder.specs.Endian.{big_bytes}
use Rattle.byteorder.specs.Numbers.{length-bytes_high_first}
use Rattle.mb_walk.specs.Memory.{with_number}
use Rattle.mb_walk.proofs.LongLemmas.{long_same, long_other}
use Rattle.vm_shadow.specs.Area.{longs, OnlyArea}
use Rattle.law_links.specs.Paths.{updated}
use Rattle.law_links.proofs.Paths.{updated_same, updated_other}

pub longs_written : (ram : List ℕ) (area index long : ℕ) → area % 4 ≡ 0 → area + 4 * index + 4 ≤ length ram → long < 2 ^ 32
    → longs (with_number ram (area + 4 * index) 4 long) area ≡ updated (longs ram area) index long
longs_written ram area index long a h small = fun_ext (λ at. elim (cases_eq at index) [
  | inl e ↦
      ap (λ (n : ℕ). longs (with_number ram (area + 4 * index) 4 long) area n) e
      ∙ long_same ram (area + 4 * index) long h small
      ∙ sym (updated_same (longs ram area) index long)
      ∙ ap (updated (longs ram area) index long) (sym e)
  | inr n ↦
      long_other ram (area + 4 * index) long (area + 4 * at) h (omega arith) (omega arith) (omega arith)
      ∙ sym (updated_other (longs ram area) index long at n)
])

pub take_written : (ram : List ℕ) (n at long : ℕ) → at + 4 ≤ length ram → n ≤ at → take n (with_number ram at 4 long) ≡ take n ram
take_written ram n at long h k =
    let front : length (take at ram) ≡ at = length-take at ram ∙ omega arith in
    let both = length-append (take at ram) (big_bytes 4 long) in
    take-append-le n (take at ram ++ big_bytes 4 long) (drop (at + length (big_bytes 4 long)) ram) (omega arith)
    ∙ take-append-le n (take at ram) (big_bytes 4 long) (omega arith) ∙ take-take n at ram k

pub drop_written : (ram : List ℕ) (n at long : ℕ) → at + 4 ≤ length ram → at + 4 ≤ n → drop n (with_number ram at 4 long) ≡ drop n ram
drop_written ram n at long h k =
    let front : length (take at ram) ≡ at = length-take at ram ∙ omega arith in
    let count : length (big_bytes 4 long) ≡ 4 = length-bytes_high_first 4 long in
    let both = length-append (take at ram) (big_bytes 4 long) in
    drop-append-drop (at + length (big_bytes 4 long)) ram (take at ram ++ big_bytes 4 long) n (omega arith) (omega arith)

-- two changes, one after the other
pub outside_on : (area : ℕ) {before between after : List ℕ} → OnlyArea area before between → OnlyArea area between after
    → OnlyArea area before after
outside_on area first second =
    record { count = second.count ∙ first.count; below = second.below ∙ first.below; above = second.above ∙ first.above }

pub ruleset frames = (longs_written, take_written, drop_written)
