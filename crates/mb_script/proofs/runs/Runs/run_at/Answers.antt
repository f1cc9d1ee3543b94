use Rattle.std.proofs.Common.{◌∙◌, ◌+◌, arith, sym}
use Rattle.mb_script.proofs.InRuns.{begun, inside, passed_over, reached}
use Rattle.mb_script.proofs.Disks.{same_there}
use Rattle.mb_script.proofs.runs.Runs.run_at.Goals as goal

pub loop-at-init : goal.loop-at-init
loop-at-init c =
    let same = begun c.args.place c.index-at.result.now c.args.self.now c.requires.kept c.requires.within c.index-at.ensures in
    record {
      same = same;
      inside = inside c.args.place c.index-at.result.now c.args.self.now c.requires.kept c.requires.within same;
    }

pub loop-at-preserved : goal.loop-at-preserved
loop-at-preserved c =
    let before = c.loop-at.invariant in
    let same = passed_over c.args.place c.loop-at.at c.args.self.now.runs.items c.index.result.now before.inside c.index.ensures c.loop-at-test.true
    ∙ before.same in
    record {
      same = same;
      inside = inside c.args.place (c.loop-at.at + 1) c.args.self.now c.requires.kept c.requires.within same;
    }

pub overflow_add-at : goal.overflow_add-at
overflow_add-at c =
    let runs = c.args.self.now.runs in
    omega (arith, c.loop-at.invariant.inside, runs.ok.0, runs.ok.1, runs.small)

pub index-requires : goal.index-requires
index-requires c = omega (arith, c.loop-at.invariant.inside, c.args.self.now.runs.ok.0)

pub index-requires-2 : goal.index-requires-2
index-requires-2 c = omega (arith, c.loop-at.invariant.inside, c.args.self.now.runs.ok.0)

pub returns : goal.returns
returns c =
    let before = c.loop-at.invariant in
    let runs = c.args.self.now.runs.items in
    let here = reached c.args.place c.loop-at.at runs c.index.result.now before.inside c.index.ensures c.loop-at-test.false in
    same_there runs c.loop-at.at c.index-2.result.now c.index.result.now before.inside c.index-2.ensures c.index.ensures ∙ sym here ∙ before.same
