-- What `csx_from_triangles` promises: welding, with question 6 asked of the list for the two sizes too. Definitions only.
use Rattle.std.specs.Prelude.{ℕ, ◌≡◌, List, [], ◌∷◌, leb, Float, length}
use Rattle.lent.specs.Over.{over}
use Rattle.refusal.specs.declared.Refusal.TheVariants.{Room}
use Rattle.refusal.specs.Verdicts.{Verdict, ask, then, returned, written}
use Rattle.weld.specs.WeldQuestions as WeldQuestions
use Rattle.weld.specs.Welding as Welding

-- questions 1, 5 and 6, and 6 of the sizes
unfoldable pub weld_call_verdict : List Float → List Float → List ℕ → List ℕ → List ℕ → Verdict
weld_call_verdict triangles coords corners ends sizes =
    then (WeldQuestions.weld_verdict triangles coords corners ends) (ask (leb 2 (length sizes)) Room)

-- how many vertices and faces were written
unfoldable pub sizes_of : List Float → List ℕ
sizes_of triangles = length (Welding.vertices triangles) ∷ length (Welding.faces triangles) ∷ []

-- the number returned, and of each buffer, lent as ₀ and left as ₁, the written front and the rest as it was
pub record Welds (triangles coords₀ : List Float) (corners₀ ends₀ sizes₀ : List ℕ) (result : ℕ) (coords₁ : List Float) (corners₁ ends₁ sizes₁ : List ℕ) : Type 0 where
  pub answer : result ≡ returned (weld_call_verdict triangles coords₀ corners₀ ends₀ sizes₀) 0
  pub coords : coords₁ ≡ over (written (weld_call_verdict triangles coords₀ corners₀ ends₀ sizes₀) (Welding.coords triangles)) coords₀
  pub corners : corners₁ ≡ over (written (weld_call_verdict triangles coords₀ corners₀ ends₀ sizes₀) (Welding.corners triangles)) corners₀
  pub ends : ends₁ ≡ over (written (weld_call_verdict triangles coords₀ corners₀ ends₀ sizes₀) (Welding.ends triangles)) ends₀
  pub sizes : sizes₁ ≡ over (written (weld_call_verdict triangles coords₀ corners₀ ends₀ sizes₀) (sizes_of triangles)) sizes₀
