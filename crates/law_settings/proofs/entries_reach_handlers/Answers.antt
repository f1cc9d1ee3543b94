use Rattle.law_settings.proofs.Entries as laws
use Rattle.law_settings.proofs.entries_reach_handlers.Goals as goal

pub returns : goal.returns
returns g at = λ bus c cpu s. laws.entry_is_at_handler bus c cpu s
