-- What the code holds, as the definitions see it.
use Rattle.rand_pcg.specs.Lcg.{Lcg}
use Rattle.mb_gen.specs.Draws.{Generator}

abbrev pub generator_seen : Lcg → Generator
generator_seen lcg = record { state = lcg.state; increment = lcg.increment }
