-- Which kept translations a flush may name.
use Rattle.std.specs.Prelude.{◌<◌, ◌^◌}
use Rattle.mb_port.specs.declared.types.Flush.{Flush}
use Rattle.mb_port.specs.declared.types.Flush.TheVariants.{All, AllLocal, Page, PageLocal}

-- A page that it names is one of the 2^20 pages of 4 KiB.
abbrev pub NamesPage : Flush → Type 0
NamesPage All = Unit {0}
NamesPage AllLocal = Unit {0}
NamesPage (Page space page) = page < 2 ^ 20
NamesPage (PageLocal space page) = page < 2 ^ 20
