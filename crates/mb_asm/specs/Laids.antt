-- What the code's statements write.
use Rattle.mb_asm.specs.declared.laid.Laid.{Laid}
use Rattle.mb_asm.specs.Judged as judged

abbrev pub laid_said : Laid → judged.Laid
laid_said laid = record { bytes = laid.bytes.items; next = laid.next }
