use Rattle.std.proofs.Common.{◌≡◌, ◌++◌, ◌∙◌}
use Rattle.std.specs.Prelude.{decimal}
use Rattle.mb_spelling.specs.Spelling.{read_word}
use Rattle.vm_snapshot.proofs.Readings.{word_stops, word_then}
use Rattle.vm_snapshot.proofs.Handed.{handed_stop, stops_as}
use Rattle.vm_snapshot.proofs.line.numbered.Goals as goal

pub returns-in_err-word-clause-reads : goal.returns-in_err-word-clause-reads
returns-in_err-word-clause-reads c =
    handed_stop _ (λ (v : Unit {0}). tt) c.from_residual.result c.in_err-word.field-0.0 _ (read_word c.args.front.now c.args.reader.now.left) _
    c.from_residual.ensures.0 c.from_residual.ensures.1 c.in_err-word.ensures.reads
    (word_stops c.args.front.now (decimal c.args.number ++ c.args.back.now) c.args.reader.now.left)

pub returns-in_err-written-clause-reads : goal.returns-in_err-written-clause-reads
returns-in_err-written-clause-reads c =
    let left = c.word.new.self.left in
    handed_stop _ (λ (v : Unit {0}). tt) c.from_residual-in_err-written.result c.in_err-written.field-0.0 _ (read_word (decimal c.args.number) left) _
    c.from_residual-in_err-written.ensures.0 c.from_residual-in_err-written.ensures.1 c.in_err-written.ensures.reads
    (stops_as (word_then c.args.front.now (decimal c.args.number ++ c.args.back.now) c.args.reader.now.left left c.in_ok-word.ensures.reads)
    (word_stops (decimal c.args.number) c.args.back.now left))

pub returns-clause-reads : goal.returns-clause-reads
returns-clause-reads c =
    let first = c.word.new.self.left in
    let second = c.written.new.reader.left in
    let same : read_word (c.args.front.now ++ (decimal c.args.number ++ c.args.back.now)) c.args.reader.now.left ≡ read_word c.args.back.now second =
    word_then c.args.front.now (decimal c.args.number ++ c.args.back.now) c.args.reader.now.left first c.in_ok-word.ensures.reads
    ∙ word_then (decimal c.args.number) c.args.back.now first second c.in_ok-written.ensures.reads in
    rw same c.word-2.ensures.reads
