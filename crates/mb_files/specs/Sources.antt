-- The source of an image, as a kind of file.
use Rattle.std.specs.Prelude.{Result}
use Rattle.std.specs.Result.{result_map_both}
use Rattle.mb_asm.specs.Texts.{assembled}
use Rattle.mb_walk.specs.Memory.{Contents}
use Rattle.mb_words.specs.Words.{Text}
use Rattle.mb_files.specs.Reading.{at_most}
use Rattle.mb_files.specs.Whys.{source_why}
use Rattle.mb_files.specs.declared.fault.FileWhy.{FileWhy}
use Rattle.mb_files.specs.declared.files.TheConstants.{MOST_BYTES}

abbrev pub sources : Text → Result Contents FileWhy
sources = at_most MOST_BYTES (λ bytes. result_map_both (λ x. x) source_why (assembled bytes))
