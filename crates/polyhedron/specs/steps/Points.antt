-- What is prepared once for a list of points. Definitions only.
use Rattle.std.specs.Prelude.{◌≡◌, Bool, List, Float, map}
use Rattle.mesh_questions.specs.Faces.{faces}
use Rattle.mesh.specs.MeshBoxes.{prepare}
use Rattle.tree.specs.steps.AcceptedTree.{AcceptedTree}
use Rattle.edges.specs.Edges.{closed}
use Rattle.scan.specs.Scan.{directions}
use Rattle.walks.specs.steps.Leaves.{Ready}
use Rattle.walks.specs.steps.Casts.{heading}
use Rattle.polyhedron.specs.declared.points.Prepared.{Prepared}

-- what is worked out once for a list of points, of a mesh that is closed or not
unfoldable pub prepared : List Float → Bool → Prepared
prepared coords closed = record { bounds = prepare coords; closed = closed; headings = map heading directions }

-- what is prepared of an accepted tree is right: it is ready for the walks, and `given` is what is worked out of its mesh
pub record Right (t : AcceptedTree) (given : Prepared) : Type 0 where
  pub ready : Ready t.mesh t.tree
  pub prepared : given ≡ prepared t.mesh.coords (closed (faces t.mesh.corners t.mesh.ends))
