use Rattle.std.proofs.Common.{◌++◌, ◌≡◌, ◌+◌, arith, length, length-append, subst}
use Rattle.mb_script.specs.Runs.{AreStarts}
use Rattle.mb_script.proofs.InRuns.{both_added, entries_pushed, pushed}
use Rattle.mb_script.proofs.runs.Runs.push.Goals as goal

pub returns-clause-kept : goal.returns-clause-kept
returns-clause-kept c =
    let more = c.args.bytes.now ++ c.args.behind.now in
    let count : length more ≡ length c.args.bytes.now + length c.args.behind.now = length-append c.args.bytes.now c.args.behind.now in
    pushed c.args.self.now (record { bytes = c.extend_from_slice-2.new.self; runs = c.push.new.self; starts = c.serve.new.starts }) _ more c.requires.kept
    (omega (arith, count))
    (both_added c.args.self.now.bytes.items c.extend_from_slice.new.self.items c.extend_from_slice-2.new.self.items c.args.bytes.now c.args.behind.now
    c.in_ok-extend_from_slice.ensures.items c.in_ok-extend_from_slice-2.ensures.items)
    c.in_ok-push.ensures.items (subst (λ runs. AreStarts runs c.serve.new.starts.items) c.deref.ensures.value c.in_ok-serve.ensures.started)
    (omega (arith, c.in_ok-serve.ensures.served))

pub returns-clause-entries : goal.returns-clause-entries
returns-clause-entries c =
    let more = c.args.bytes.now ++ c.args.behind.now in
    let count : length more ≡ length c.args.bytes.now + length c.args.behind.now = length-append c.args.bytes.now c.args.behind.now in
    let bytes = both_added c.args.self.now.bytes.items c.extend_from_slice.new.self.items c.extend_from_slice-2.new.self.items c.args.bytes.now
    c.args.behind.now c.in_ok-extend_from_slice.ensures.items c.in_ok-extend_from_slice-2.ensures.items in
    rw (c.in_ok-push.ensures.items, bytes) (entries_pushed c.args.self.now _ more c.requires.kept (omega (arith, count)))
