use Rattle.std.proofs.Common.{◌*◌, ◌%◌, ◌^◌, ◌<◌, arith, ◌∙◌}
use Rattle.mb_entry.proofs.Pending.{value_fits}
use Rattle.mb_entry.proofs.fields.memory_aligned.Goals as goal

pub overflow_cast-result-2 : goal.overflow_cast-result-2
overflow_cast-result-2 c =
    let below : c.from.result * 2 ^ (8 * c.bytes_behind.result) % 2 ^ 64 < 2 ^ 32 =
    value_fits c.from.result c.args.pend.now.value c.args.pend.now.at c.args.pend.now.len c.bytes_behind.result
    (rw (c.from.ensures) c.register_aligned.type_inv) (c.from.ensures ∙ c.register_aligned.ensures) c.bytes_behind.ensures.value in
    omega arith
