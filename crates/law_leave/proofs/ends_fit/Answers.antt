use Rattle.law_leave.proofs.FitEnds as fits
use Rattle.law_leave.proofs.ends_fit.Goals as goal

pub returns : goal.returns
returns c = fits.ends_fit
