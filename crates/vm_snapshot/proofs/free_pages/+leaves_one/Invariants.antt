use Rattle.std.proofs.Common.{◌≡◌, ◌-◌, ◌+◌, ◌*◌, ◌≤◌}
use Rattle.mb_spelling.specs.Hex.{any_below, passing}
use Rattle.vm_snapshot.specs.Pages.{is_free}
use Rattle.vm_snapshot.proofs.free_pages.+leaves_one.Given as goal

abbrev pub decreases-leaves_one : goal.decreases-leaves_one
decreases-leaves_one l = l.more

abbrev pub invariant-loop-digits : goal.invariant-loop-digits
invariant-loop-digits l = record {
  few : l.digits ≤ 16;
  same : any_below (λ d. passing (is_free l.kept l.space) (l.more - 1) (16 * l.value + d)) l.digits
      ≡ passing (is_free l.kept l.space) l.more l.value;
}

abbrev pub decreases-loop-digits : goal.decreases-loop-digits
decreases-loop-digits l = l.digits
