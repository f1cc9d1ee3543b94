-- The lines of the code, as those of the text.
use Rattle.std.specs.Prelude.{ℕ, List}
use Rattle.mb_report.specs.Text as text
use Rattle.mb_report.specs.declared.outcome.Line.{Line}
use Rattle.mb_report.specs.declared.outcome.Shown.{Shown}
use Rattle.mb_report.specs.declared.outcome.Shown.TheVariants.{Number, Word, Bytes, Long}

abbrev pub shown_of : Shown → text.Shown
shown_of (Number n) = text.number n
shown_of (Word w) = text.word w.now
shown_of (Bytes bytes) = text.bytes bytes.now
shown_of (Long value) = text.long value

abbrev pub line_of : Line → List ℕ × text.Shown
line_of line = (line.name.now, shown_of line.shown)
