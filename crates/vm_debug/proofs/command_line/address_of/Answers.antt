use Rattle.std.proofs.Common.{arith}
use Rattle.vm_debug.proofs.Addresses.{seven_digits}
use Rattle.vm_debug.proofs.command_line.address_of.Goals as goal

pub overflow_mul-address : goal.overflow_mul-address
overflow_mul-address c =
    let small = seven_digits c.loop-digit.digit-index c.loop-digit.address (omega arith) c.loop-digit.invariant.bound in omega (arith, small)

pub overflow_add-address : goal.overflow_add-address
overflow_add-address c =
    let small = seven_digits c.loop-digit.digit-index c.loop-digit.address (omega arith) c.loop-digit.invariant.bound in
    let value = c.in_ok-value.ensures.small in omega (arith, small, value)
