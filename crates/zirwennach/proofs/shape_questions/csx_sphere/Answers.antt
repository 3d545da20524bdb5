-- Written out, so that a wrong `shape_questions::csx_sphere` is refused at once.
use Rattle.zirwennach.proofs.shape_questions.csx_sphere.Goals as goal

pub returns : goal.returns
returns c = c.csx_sphere.ensures
