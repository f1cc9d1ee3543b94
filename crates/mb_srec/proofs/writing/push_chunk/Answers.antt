use Rattle.std.proofs.Common.{◌≡◌, ◌<◌, ◌≤◌, ◌+◌, ◌^◌, false, eqb, length, take, drop, sym, ap, ◌∙◌, arith}
use Rattle.std.proofs.lemmas.Bool.{eqb-false}
use Rattle.mb_srec.proofs.Pieces.{pushed}
use Rattle.mb_srec.proofs.writing.push_chunk.Goals as goal

pub records-preserved : goal.records-preserved
records-preserved c =
    let rest = c.records.rest.now in
    let differs : eqb (length rest) 0 ≡ false = sym c.is_empty.ensures ∙ c.records-test.true in
    let some : 0 < length rest = omega (arith, eqb-false (length rest) 0 differs) in
    let addressed : c.records.at + length rest ≤ 2 ^ 32 = c.records.invariant.addressed some in
    record {
      written =
          pushed c.records.text.items c.push_data.new.text.items c.split_at.result.0.now c.split_at.result.1.now rest c.records.at some
          c.in_ok-push_data.ensures
          (c.split_at.ensures.front ∙ ap (λ n. take n rest) c.min.ensures) (c.split_at.ensures.back ∙ ap (λ n. drop n rest) c.min.ensures)
          ∙ c.records.invariant.written;
      addressed = λ more. omega (arith, c.min.ensures, c.split_at.ensures.back_len);
    }
