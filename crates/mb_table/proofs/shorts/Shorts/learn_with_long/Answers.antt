use Rattle.mb_table.proofs.Learnt.{learnt_with_long, put}
use Rattle.mb_table.proofs.shorts.Shorts.learn_with_long.Goals as goal

pub invariant_of-self : goal.invariant_of-self
invariant_of-self c =
    put c.self.inside.forms.items c.from-3.result c.args.first c.short_with_long.result c.from-3.ensures c.ranges.first.fits c.self.invariant
    (learnt_with_long c.args.first c.args.second c.args.third _ c.args.instruction.now c.short_with_long.result c.spellings.ensures.all_decoded
    c.spellings.ensures.one_answer c.spellings.ensures.read_again c.ranges.first.fits c.ranges.second.fits c.ranges.third.fits c.requires.means
    c.short_with_long.ensures.with c.short_with_long.ensures.triple)
