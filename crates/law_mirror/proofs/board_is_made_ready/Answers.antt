use Rattle.law_mirror.proofs.Ready.{native_translation, enters_untranslated, starts_flushed, stays_ready, board_entries}
use Rattle.law_mirror.proofs.board_is_made_ready.Goals as goal

pub returns-clause-translation : goal.returns-clause-translation
returns-clause-translation c = native_translation

pub returns-clause-entry : goal.returns-clause-entry
returns-clause-entry c = enters_untranslated

pub returns-clause-flushed : goal.returns-clause-flushed
returns-clause-flushed c = starts_flushed

pub returns-clause-stays : goal.returns-clause-stays
returns-clause-stays c = stays_ready

pub returns-clause-entries : goal.returns-clause-entries
returns-clause-entries c = board_entries
