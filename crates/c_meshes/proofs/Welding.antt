-- What a verdict says of the buffers of `csx_from_triangles`: a refusal leaves each as it was, and a passed call leaves what welding
-- writes and the two sizes.
use Prim.Native.Nat.{ℕ, ◌≤◌}
use mathlib.Core.Path.{◌≡◌, sym, ap, ◌∙◌}
use mathlib.Core.Bool.{true}
use mathlib.Core.List.{List, [], ◌∷◌}
use lib.Dec.{leb}
use lib.Ieee.{Float}
use lib.ListN.{length, set}
use borrow.Author.Tests.{le-leb}
use Rattle.std.specs.Prelude.{Result, Ok, Err}
use Rattle.lent.specs.Over.{over}
use Rattle.lent.specs.laws.OverLaws.{over_stores}
use Rattle.refusal.specs.declared.Refusal.{Refusal}
use Rattle.refusal.specs.Numbers.{code}
use Rattle.refusal.specs.Verdicts.{written}
use Rattle.refusal.specs.laws.VerdictLaws.{answered_ok, answered_err}
use Rattle.weld.specs.declared.Counts.{Counts}
use Rattle.weld.specs.WeldQuestions as WeldQuestions
use Rattle.c_meshes.specs.WeldCall.{weld_call_verdict, sizes_of, Welds}

-- a refused call changes nothing
pub refused : (triangles coords : List Float) (corners ends sizes : List ℕ) (refusal : Refusal)
    → weld_call_verdict triangles coords corners ends sizes ≡ Err refusal
    → Welds triangles coords corners ends sizes (code refusal) coords corners ends sizes
unfolding written over
refused triangles coords corners ends sizes refusal e =
    record { answer = rw e; coords = rw e; corners = rw e; ends = rw e; sizes = rw e }

module _ (triangles coords : List Float) (corners ends sizes : List ℕ) (result : Result Counts Refusal) (coords₁ : List Float)
    (corners₁ ends₁ : List ℕ) (w : WeldQuestions.Welds triangles coords corners ends result coords₁ corners₁ ends₁) (room : 2 ≤ length sizes) where
  -- welding refused
  pub welding_refused : (refusal : Refusal) → result ≡ Err refusal → Welds triangles coords corners ends sizes (code refusal) coords₁ corners₁ ends₁ sizes
  unfolding weld_call_verdict written over
  welding_refused refusal e =
      let v = answered_err _ _ refusal (sym w.answer ∙ e) in
      record { answer = rw v; coords = w.coords ∙ rw v; corners = w.corners ∙ rw v; ends = w.ends ∙ rw v; sizes = rw v }

  -- welding done
  pub welding_passed : (counts : Counts) → result ≡ Ok counts → Welds triangles coords corners ends sizes 0 coords₁ corners₁ ends₁ (set (set sizes 0 counts.vertices) 1 counts.faces)
  unfolding weld_call_verdict written sizes_of
  welding_passed counts e =
      let parts = answered_ok _ _ counts (sym w.answer ∙ e) in
      let vertices = ap (λ (c : Counts). c.vertices) parts.1 in
      let faces = ap (λ (c : Counts). c.faces) parts.1 in
      let v = parts.0 in
      let enough : leb 2 (length sizes) ≡ true = le-leb _ _ room in
      record {
        answer = rw (v, enough);
        coords = w.coords ∙ rw (v, enough);
        corners = w.corners ∙ rw (v, enough);
        ends = w.ends ∙ rw (v, enough);
        sizes = sym (over_stores 0 sizes (counts.vertices ∷ counts.faces ∷ []) room) ∙ rw (v, enough, vertices, faces);
      }
