use Rattle.mb_table.proofs.Learnt.{learnt_with, put}
use Rattle.mb_table.proofs.shorts.Shorts.learn_with.Goals as goal

pub invariant_of-self : goal.invariant_of-self
invariant_of-self c =
    put c.self.inside.forms.items c.from.result c.args.first c.short_with.result c.from.ensures c.ranges.first.fits c.self.invariant
    (learnt_with c.args.first c.args.second c.args.instruction.now c.short_with.result c.spellings.ensures.all_decoded c.spellings.ensures.read_again
    c.ranges.first.fits c.ranges.second.fits c.requires.more c.requires.means c.short_with.ensures.with c.short_with.ensures.pair)
