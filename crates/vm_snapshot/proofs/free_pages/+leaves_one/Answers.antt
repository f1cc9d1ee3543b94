use Rattle.std.proofs.Common.{◌≡◌, ℕ, suc, ◌+◌, ◌-◌, ◌*◌, ◌<◌, sym, ◌∙◌, arith}
use Rattle.mb_spelling.specs.Hex.{passing}
use Rattle.vm_snapshot.specs.Pages.{is_free}
use Rattle.vm_snapshot.proofs.Free.{below_less, below_none, below_there, digit_left, digit_room}
use Rattle.vm_snapshot.proofs.free_pages.+leaves_one.Goals as goal

pub overflow_mul-value : goal.overflow_mul-value
overflow_mul-value t c =
    let some : 0 < c.args.more = omega (arith, c.if-more-eq0.false) in
    let h = digit_room c.args.more c.args.value 0 some c.requires.more c.requires.fits (omega arith) in omega (arith, h)

pub overflow_add-value : goal.overflow_add-value
overflow_add-value t c =
    let some : 0 < c.args.more = omega (arith, c.if-more-eq0.false) in
    let small : c.loop-digits.digits - 1 < 16 = omega (arith, c.loop-digits.invariant.few, c.loop-digits-test.true) in
    let h = digit_room c.args.more c.args.value (c.loop-digits.digits - 1) some c.requires.more c.requires.fits small in omega (arith, h)

pub leaves_one-requires : goal.leaves_one-requires
leaves_one-requires t c =
    let some : 0 < c.args.more = omega (arith, c.if-more-eq0.false) in
    let small : c.loop-digits.digits - 1 < 16 = omega (arith, c.loop-digits.invariant.few, c.loop-digits-test.true) in
    (omega (arith, some, c.decreases), (omega (arith, c.requires.more), digit_left c.args.more c.args.value _ some c.requires.more c.requires.fits small))

pub returns-then-leaves_one : goal.returns-then-leaves_one
returns-then-leaves_one t c =
    let l = c.loop-digits in
    let test = λ (d : ℕ). passing (is_free c.args.kept.now c.args.space) (c.args.more - 1) (16 * c.args.value + d) in
    let one : l.digits ≡ suc (l.digits - 1) = omega (arith, c.loop-digits-test.true) in
    sym (below_there test l.digits (l.digits - 1) one (sym c.leaves_one.ensures ∙ c.if-leaves_one.true)) ∙ l.invariant.same

pub loop-digits-preserved : goal.loop-digits-preserved
loop-digits-preserved t c =
    let l = c.loop-digits in
    let test = λ (d : ℕ). passing (is_free c.args.kept.now c.args.space) (c.args.more - 1) (16 * c.args.value + d) in
    let one : l.digits ≡ suc (l.digits - 1) = omega (arith, c.loop-digits-test.true) in
    record {
      few = omega (arith, l.invariant.few);
      same = sym (below_less test l.digits (l.digits - 1) one (sym c.leaves_one.ensures ∙ c.if-leaves_one.false)) ∙ l.invariant.same;
    }

pub returns : goal.returns
returns t c =
    let l = c.loop-digits in
    let test = λ (d : ℕ). passing (is_free c.args.kept.now c.args.space) (c.args.more - 1) (16 * c.args.value + d) in
    sym (below_none test l.digits (omega (arith, c.loop-digits-test.false))) ∙ l.invariant.same
