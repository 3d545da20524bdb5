-- Written out, so that a wrong `ask_triangles` is refused at once.
use Rattle.std.proofs.Common.{sym, ◌∙◌}
use Rattle.weld.specs.WeldQuestions.{ask_triangles, whole_triangles, ask_corners, weld_room}
use Rattle.weld.proofs.ask_triangles.Goals as goal

pub returns-then-n-coords : goal.returns-then-n-coords
unfolding ask_triangles whole_triangles ask_corners weld_room
returns-then-n-coords c = rw (c.if-not-triangles-n.false, sym c.ask_vertices.ensures ∙ c.in_ok-ask_vertices.was, c.if-n-coords.true)

pub returns-else-n-coords : goal.returns-else-n-coords
unfolding ask_triangles whole_triangles ask_corners weld_room
returns-else-n-coords c = rw (c.if-not-triangles-n.false, sym c.ask_vertices.ensures ∙ c.in_ok-ask_vertices.was, c.if-n-coords.false)
