use Rattle.mb_table.proofs.Learnt.{learnt, put}
use Rattle.mb_table.proofs.shorts.Shorts.learn.Goals as goal

pub invariant_of-self : goal.invariant_of-self
invariant_of-self c =
    put c.self.inside.forms.items c.from.result c.args.first c.short_of.result c.from.ensures c.ranges.first.fits c.self.invariant
    (learnt c.args.first c.args.decoded.now c.short_of.result c.requires.means c.requires.valid c.short_of.ensures.means c.short_of.ensures.alone)
