use Rattle.mb_srec.proofs.Inside.{image_inside}
use Rattle.mb_srec.proofs.reading.read_image.Goals as goal

pub returns-clause-in_ram : goal.returns-clause-in_ram
returns-clause-in_ram c = image_inside c.args.text.now c.args.ram _ c.image_of.ensures
