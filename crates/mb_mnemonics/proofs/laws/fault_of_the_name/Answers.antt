use Rattle.mb_mnemonics.proofs.Names.{unnamed, named_else}
use Rattle.mb_mnemonics.proofs.laws.fault_of_the_name.Goals as goal

pub returns : goal.returns
returns c = record { only = named_else; always = unnamed }
