use Rattle.std.proofs.Common.{◌≡◌, ◌∙◌, ap, sym, true}
use Rattle.std.specs.Prelude.{Result, Ok, Err, is_err, OnErr}
use Rattle.mb_report.proofs.BufferLemmas.{put_at_once}
use Rattle.mb_report.proofs.buffered.Buffered.add.Goals as goal

at_err : {T E P : Type 0} (r : Result T E) → is_err r ≡ true → OnErr r P → P
at_err (Ok t) bad p = absurd (cc)
at_err (Err e) bad p = p

pub returns-then-is_err : goal.returns-then-is_err
returns-then-is_err g c =
    let first = c.try_extend_from_slice in
    let again = c.try_extend_from_slice-2 in
    let held : first.new.self ≡ c.args.self.now.held =
    at_err first.result (rw c.if-is_ok.false at c.is_ok.ensures.negation) first.ensures.err in
    let empty : again.new.self ≡ c.flush.new.self.held =
    at_err again.result (sym c.is_err.ensures.value ∙ c.if-is_err.true) again.ensures.err in
    put_at_once (rw held at c.flush.ensures.puts) c.flush.ensures.empty
    (ap (λ block. block.items) empty ∙ c.flush.ensures.empty) c.put_more-self.ensures
