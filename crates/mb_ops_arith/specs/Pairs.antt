-- What the reading of two operands answers.
use Rattle.std.specs.Prelude.{Result, Ok, Err}
use Rattle.mb_instr.specs.declared.registers.Plain.{Plain}
use Rattle.mb_ea.specs.declared.reading.ReadFault.{ReadFault}
use Rattle.def_instructions.specs.Arithmetic.{Pair}
use Rattle.mb_ops_arith.specs.declared.pairs.Pair.{Pair as ReadPair}

-- what was read, with the registers after it
abbrev pub paired : Result ReadPair ReadFault → Plain → Result Pair ReadFault
paired (Ok pair) p = Ok (record {
  source = pair.source;
  destination = record { target = pair.destination.target; value = pair.destination.value; plain = p };
})
paired (Err refused) p = Err refused
