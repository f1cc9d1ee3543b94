-- How the code's lines stand to those of the definitions.
use Rattle.mb_listing.specs.declared.line.Line.{Line}
use Rattle.mb_listing.specs.Listing as listing

abbrev pub line_said : Line → listing.Line
line_said l = record { at = l.at; words = l.words.now; text = l.text.items }
