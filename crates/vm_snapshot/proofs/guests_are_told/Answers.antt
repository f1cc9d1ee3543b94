use Rattle.vm_snapshot.proofs.ShownTexts.{guests_are_told, texts_say_one_plan}
use Rattle.vm_snapshot.proofs.guests_are_told.Goals as goal

pub returns : goal.returns
returns c = record { told = guests_are_told; once = texts_say_one_plan }
