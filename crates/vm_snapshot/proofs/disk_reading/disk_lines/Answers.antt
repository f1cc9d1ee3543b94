use Rattle.std.proofs.Common.{ℕ, ◌*◌, List, refl}
use Rattle.mb_saved.specs.declared.line.RamLine.{RamLine}
use Rattle.vm_snapshot.specs.Memory.{dump, memory}
use Rattle.vm_snapshot.proofs.DiskSteps.{blocks_fit}
use Rattle.vm_snapshot.proofs.Handed.{passed_on}
use Rattle.vm_snapshot.proofs.disk_reading.disk_lines.Goals as goal

pub returns-in_err-buffer-clause-reads : goal.returns-in_err-buffer-clause-reads
returns-in_err-buffer-clause-reads c =
    passed_on _ (λ (bytes : List ℕ). bytes) c.from_residual-in_err-buffer.result c.in_err-buffer.field-0.0 _ ((dump 512).read c.position.new.reader.left) _
    c.from_residual-in_err-buffer.ensures.0 c.from_residual-in_err-buffer.ensures.1 c.in_err-buffer.ensures.reads
    (record {
      short = λ e. rw (c.in_ok-blocks.ensures.reads, c.in_ok-block.ensures.reads, c.in_ok-outcome.ensures.reads, c.in_ok-position.ensures.reads, e) refl;
      wrong = λ rest e. rw (c.in_ok-blocks.ensures.reads, c.in_ok-block.ensures.reads, c.in_ok-outcome.ensures.reads, c.in_ok-position.ensures.reads, e) refl;
    })

pub returns-in_err-lines-clause-reads : goal.returns-in_err-lines-clause-reads
returns-in_err-lines-clause-reads c =
    passed_on _ (λ (lines : List RamLine). lines) c.from_residual-in_err-lines.result c.in_err-lines.field-0.0 _
    ((memory (32 * c.in_ok-blocks.blocks)).read c.dump.new.reader.left) _ c.from_residual-in_err-lines.ensures.0 c.from_residual-in_err-lines.ensures.1
    c.in_err-lines.ensures.reads
    (record {
      short = λ e.
          rw (
            c.in_ok-blocks.ensures.reads,
            c.in_ok-block.ensures.reads,
            c.in_ok-outcome.ensures.reads,
            c.in_ok-position.ensures.reads,
            c.in_ok-buffer.ensures.reads,
            e,
          )
          refl;
      wrong = λ rest e.
          rw (
            c.in_ok-blocks.ensures.reads,
            c.in_ok-block.ensures.reads,
            c.in_ok-outcome.ensures.reads,
            c.in_ok-position.ensures.reads,
            c.in_ok-buffer.ensures.reads,
            e,
          )
          refl;
    })

pub invariant_of-result : goal.invariant_of-result
invariant_of-result c = record {
  some = c.in_ok-blocks.ensures.some;
  is_bit = c.in_ok-outcome.ensures.small;
  is_place = c.in_ok-position.ensures.place;
  whole = c.in_ok-buffer.ensures.count;
  inside = blocks_fit c.in_ok-blocks.blocks _ _ c.in_ok-lines.lines.items c.in_ok-blocks.ensures.some.1 c.in_ok-lines.ensures.reads;
}

pub returns-clause-reads : goal.returns-clause-reads
returns-clause-reads c =
    rw (
      c.in_ok-blocks.ensures.reads,
      c.in_ok-block.ensures.reads,
      c.in_ok-outcome.ensures.reads,
      c.in_ok-position.ensures.reads,
      c.in_ok-buffer.ensures.reads,
      c.in_ok-lines.ensures.reads,
    )
    refl
