-- What the code's lines stand for.
use Rattle.mb_lines.specs.declared.line.Line.{Line}
use Rattle.mb_lines.specs.Lines as lines

abbrev pub line_said : Line → lines.Line
line_said line = record { number = line.number; characters = line.characters.now }
