use Rattle.std.proofs.Common.{subst}
use Rattle.std.specs.Prelude.{All}
use Rattle.vm_slices.specs.Members.{IsBounded}
use Rattle.vm_slices.specs.Places.{HostState, members_in}
use Rattle.vm_slices.proofs.host.Host.guest_count.Goals as goal

pub returns-clause-bounds : goal.returns-clause-bounds
returns-clause-bounds c = subst (λ (h : HostState). All IsBounded (members_in h)) c.self.view_is c.self.invariant.bounds
