-- What the steps of the walk over the triangles promise. Definitions only.
use Rattle.std.specs.Prelude.{ℕ, ◌+◌, ◌*◌, ◌<◌, ◌≡◌, Option, MatchOption, List, [], ◌∷◌, ◌++◌, Float, length, take}
use Rattle.lent.specs.Over.{over}
use Rattle.math.specs.declared.Vec3.{Vec3}
use Rattle.math.specs.Vectors.{points}
use Rattle.mesh.specs.declared.Triangle.{Triangle}
use Rattle.mesh.specs.Triangles.{triangle}
use Rattle.weld.specs.declared.Counts.{Counts}
use Rattle.weld.specs.Welding as Welding
use Rattle.weld.specs.Welding.{find, add, add_all, numbers, kept, corners_of, ends_from}

-- the first `count` vertices of a coordinate list
unfoldable pub first : ℕ → List Float → List Vec3
first count coords = points (take (3 * count) coords)

-- p is looked for among the vertices: the number of the first that is the same, if there is one
abbrev pub Finds : List Vec3 → Vec3 → Option ℕ → Type 0
Finds vs p r = MatchOption r (find vs p ≡ length vs) (λ v. (v ≡ find vs p) × (v < length vs))

-- p is found among the vertices or added to them: its number r, the vertices' count n and the buffer
pub record Adds (vs : List Vec3) (coords₀ : List Float) (p : Vec3) (r n : ℕ) (coords₁ : List Float) : Type 0 where
  pub number : r ≡ find vs p
  pub count : n ≡ length (add vs p)
  pub coords : coords₁ ≡ over (numbers (add vs p)) coords₀

-- three corners are found or added in order: their numbers t, the vertices' count n and the buffer
pub record AddsThree (vs : List Vec3) (coords₀ : List Float) (a b c : Vec3) (t : Triangle) (n : ℕ) (coords₁ : List Float) : Type 0 where
  pub corners : t ≡ triangle (find vs a) (find (add vs a) b) (find (add (add vs a) b) c)
  pub count : n ≡ length (add_all vs (a ∷ b ∷ c ∷ []))
  pub coords : coords₁ ≡ over (numbers (add_all vs (a ∷ b ∷ c ∷ []))) coords₀

-- a kept triangle is written behind n faces: their count then and the buffers
pub record Keeps (t : Triangle) (n : ℕ) (corners₀ ends₀ : List ℕ) (r : ℕ) (corners₁ ends₁ : List ℕ) : Type 0 where
  pub faces : r ≡ n + length (kept t)
  pub corners : corners₁ ≡ over (take (3 * n) corners₀ ++ corners_of (kept t)) corners₀
  pub ends : ends₁ ≡ over (take n ends₀ ++ ends_from (3 * n) (kept t)) ends₀

-- all triangles are welded
pub record WeldsAll (triangles coords₀ : List Float) (corners₀ ends₀ : List ℕ) (r : Counts) (coords₁ : List Float) (corners₁ ends₁ : List ℕ) : Type 0 where
  pub vertices : r.vertices ≡ length (Welding.vertices triangles)
  pub faces : r.faces ≡ length (Welding.faces triangles)
  pub coords : coords₁ ≡ over (Welding.coords triangles) coords₀
  pub corners : corners₁ ≡ over (Welding.corners triangles) corners₀
  pub ends : ends₁ ≡ over (Welding.ends triangles) ends₀
