-- What ABCD, SBCD, PACK and UNPK compute.
use Rattle.std.specs.Prelude.{ℕ}
use Rattle.mb_instr.specs.declared.size.Size.{Size}
use Rattle.mb_instr.specs.declared.size.Size.TheVariants.{Byte, Word}
use Rattle.mb_alu.specs.declared.conditions.Flagged.{Flagged}
use Rattle.mb_fields.specs.Decimals.{abcd_of, sbcd_of}
use Rattle.mb_fields.specs.Packing.{pack_of, unpk_of}
use Rattle.mb_ops_arith.specs.declared.decimals.DecimalKind.{DecimalKind}
use Rattle.mb_ops_arith.specs.declared.decimals.DecimalKind.TheVariants.{Add, Subtract}
use Rattle.mb_ops_arith.specs.declared.decimals.PackingKind.{PackingKind}
use Rattle.mb_ops_arith.specs.declared.decimals.PackingKind.TheVariants.{Pack, Unpack}

abbrev pub decimal_operation : DecimalKind → ℕ → ℕ → ℕ → Flagged
decimal_operation Add = abcd_of
decimal_operation Subtract = sbcd_of

abbrev pub packing_operation : PackingKind → ℕ → ℕ → ℕ
packing_operation Pack = pack_of
packing_operation Unpack = unpk_of

-- the size of the source, and that of the destination
abbrev pub packed_from : PackingKind → Size
packed_from Pack = Word
packed_from Unpack = Byte

abbrev pub packed_to : PackingKind → Size
packed_to Pack = Byte
packed_to Unpack = Word
