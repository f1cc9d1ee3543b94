use Rattle.std.proofs.Common.{◌≤◌, ◌<◌, length, sym, take, arith}
use Rattle.std.proofs.lemmas.List.{take_all}
use Rattle.std.proofs.lemmas.List.Elements.{All-more, All-same}
use Rattle.mb_script.specs.declared.entry.Entry.{Entry}
use Rattle.mb_script.specs.declared.input.Input.TheVariants.{Abort}
use Rattle.vm_snapshot.specs.Shown.{IsEntry}
use Rattle.vm_snapshot.proofs.ShownGuests.{entry_at}
use Rattle.vm_snapshot.proofs.Writings.{counted_more, counted_whole}
use Rattle.vm_snapshot.proofs.input_writing.line_count.Goals as goal

pub loop-place-preserved : goal.loop-place-preserved
loop-place-preserved c =
    let l = c.loop-place in
    let script = c.args.script.now in
    let inside : l.place < length script = omega (arith, c.loop-place-test.true, c.count-place-end.ensures.counted) in
    let none : Entry = record { step = 0; input = Abort } in
    record {
      counted =
          rw (c.lines_at-lines.ensures.value, c.open_at-begun.ensures)
          (counted_more c.args.steps l.lines _ l.place script l.begun inside l.invariant.counted);
      few = omega (arith, l.invariant.few, c.lines_at-lines.ensures.small);
      entries = All-more IsEntry script l.place none inside l.invariant.entries (entry_at script l.place none inside c.lines_at-lines.ensures.entry);
    }

pub returns : goal.returns
returns c =
    let l = c.loop-place in
    let script = c.args.script.now in
    let whole : length script ≤ l.place = omega (arith, c.loop-place-test.false, c.count-place-end.ensures.counted) in
    record {
      count = counted_whole c.args.steps l.lines l.place script l.begun whole l.invariant.counted;
      entries = record {
        lawful = c.count-place-end.ensures.lawful;
        entries = All-same IsEntry script (take l.place script) (sym (take_all l.place script whole)) l.invariant.entries;
      };
    }
