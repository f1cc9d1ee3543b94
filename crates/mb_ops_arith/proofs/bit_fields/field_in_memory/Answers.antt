use Rattle.mb_ops_arith.proofs.FieldNumbers.{in_bits}
use Rattle.mb_ops_arith.proofs.bit_fields.field_in_memory.Goals as goal

pub field_get-old-requires-clause-word : goal.field_get-old-requires-clause-word
field_get-old-requires-clause-word g c =
    in_bits c.in-Ok.bytes c.bytes_held-held.result c.bytes_held-held.ensures.few c.in-Ok.ensures.range

pub field_put-changed-requires-clause-word : goal.field_put-changed-requires-clause-word
field_put-changed-requires-clause-word g c =
    in_bits c.in-Ok.bytes c.bytes_held-held.result c.bytes_held-held.ensures.few c.in-Ok.ensures.range
