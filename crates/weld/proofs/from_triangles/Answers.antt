-- `from_triangles` meets its contract: a refusal comes before the first write (`refused`), and else `weld_all` promises what is written
-- (`passed`).
use Prim.Native.Nat.{ℕ}
use mathlib.Core.Path.{◌≡◌, sym}
use mathlib.Core.List.{List}
use lib.Ieee.{Float}
use Rattle.std.specs.Prelude.{Ok, Err}
use Rattle.std.proofs.lemmas.Result.{err_from_is_err_and}
use Rattle.lent.specs.Over.{over}
use Rattle.refusal.specs.declared.Refusal.{Refusal}
use Rattle.refusal.specs.Verdicts.{Passed, written}
use Rattle.weld.specs.declared.Counts.{Counts}
use Rattle.weld.specs.WeldQuestions.{weld_verdict, Welds}
use Rattle.weld.specs.steps.WeldSteps.{WeldsAll}
use Rattle.weld.specs.laws.Passed.{triangles_passed}
use Rattle.weld.proofs.from_triangles.Goals as goal

refused : (triangles coords : List Float) (corners ends : List ℕ) (refusal : Refusal) → weld_verdict triangles coords corners ends ≡ Err refusal
    → Welds triangles coords corners ends (Err refusal) coords corners ends
unfolding written over
refused triangles coords corners ends refusal e = record { answer = rw e; coords = rw e; corners = rw e; ends = rw e }

passed : (triangles coords : List Float) (corners ends : List ℕ) (counts : Counts) (coords' : List Float) (corners' ends' : List ℕ)
    → weld_verdict triangles coords corners ends ≡ Passed
    → WeldsAll triangles coords corners ends counts coords' corners' ends'
    → Welds triangles coords corners ends (Ok counts) coords' corners' ends'
unfolding written
passed triangles coords corners ends counts coords' corners' ends' e all =
    record {
      answer = rw (e, all.vertices, all.faces);
      coords = rw e all.coords;
      corners = rw e all.corners;
      ends = rw e all.ends;
    }

pub returns-in_err-ask_triangles : goal.returns-in_err-ask_triangles
returns-in_err-ask_triangles c =
    let p = err_from_is_err_and c.from_residual.result c.from_residual.ensures.1 in
    rw (p.1, p.2) (refused _ _ _ _ _ (sym c.in_err-ask_triangles.ensures))

pub weld_all-requires : goal.weld_all-requires
weld_all-requires c =
    let all = triangles_passed c.args.triangles.now _ _ _ (sym c.in_ok-ask_triangles.ensures) in
    record { whole = all.0; finite = all.1; room = all.2 }

pub returns : goal.returns
returns c = passed _ _ _ _ _ _ _ _ (sym c.in_ok-ask_triangles.ensures) c.weld_all.ensures
