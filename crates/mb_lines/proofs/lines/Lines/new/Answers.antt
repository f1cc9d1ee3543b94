use Rattle.mb_lines.proofs.Rooms.{lines_in_room}
use Rattle.mb_lines.proofs.lines.Lines.new.Goals as goal

pub returns-clause-room : goal.returns-clause-room
returns-clause-room c = rw c.lines.ensures.value (lines_in_room c.args.text.now)
