use Rattle.std.proofs.Common.{◌<◌, ◌^◌, arith}
use Rattle.mb_mmu.proofs.translator.Translator.place.Goals as goal

pub returns : goal.returns
returns c =
    let less : c.args.r.at < 2 ^ 32 = omega arith in
    rw (← c.self.view_is, c.place.ensures) (c.self.invariant.3.leads c.args.r c.requires less)
