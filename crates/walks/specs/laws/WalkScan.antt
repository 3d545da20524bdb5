-- Over a tree that keeps the rules the surface walk and the ray walk find what the plain scan finds: the same triangles (`surface_finds`, `ray_finds`), and so the
-- same answers (`walk_touches_scan`, `walk_vote_scan`).
use Rattle.std.specs.Prelude.{ℕ, ◌<◌, ◌≡◌, refl, Bool, false, cond, ◌&&◌, ltb, Float}
use Rattle.std.proofs.Common.{sym, ◌∙◌}
use Rattle.std.proofs.Math.Path.{ap}
use Rattle.std.proofs.Math.Bool.{true}
use Rattle.std.specs.Float.Ieee.{le}
use Rattle.float.specs.Arithmetic.{zero}
use Rattle.math.specs.declared.Vec3.{Vec3}
use Rattle.math.specs.declared.BoundingBox.{BoundingBox}
use Rattle.math.specs.Vectors.{is_finite}
use Rattle.math.specs.BoundingBoxes.{encloses}
use Rattle.math.specs.laws.Enclosing.{surface_passes_around}
use Rattle.mesh.specs.Mesh.{Mesh, triangle_count, own_box, all_triangles}
use Rattle.tree.specs.Tree.{Tree}
use Rattle.keys.specs.Sorting.{SameCounts}
use Rattle.keys.specs.laws.Permutations.{length_permuted}
use Rattle.scan.specs.declared.rays.RayHit.{RayHit}
use Rattle.scan.specs.declared.rays.RayHit.TheVariants.{Miss}
use Rattle.scan.specs.steps.Slabs.{finite_non_zero}
use Rattle.scan.specs.laws.BoxLaws.{ray_passes_around}
use Rattle.scan.specs.Scan.{which, some, surface_passes, touches, inverse, ray_passes, found, is_hit, is_degenerate, vote}
use Rattle.scan.specs.laws.ScanLaws.{vote_over_same}
use Rattle.walks.specs.Walks.{all_visits, reached, surface_walk, ray_walk, walk_touches, walk_vote}
use Rattle.walks.specs.steps.Leaves.{Ready}
use Rattle.walks.specs.laws.WalkLaws.{clash, some_up_to, vote_up_to}
use Rattle.walks.specs.laws.WalkTheorem.{which_walk}
use Rattle.walks.specs.laws.ReadyLaws.{own_some}

-- the first of two that hold
first_holds : (a b : Bool) → (a && b) ≡ true → a ≡ true
first_holds true b e = refl
first_holds false b e = e

-- of what is a miss unless a box passes a test holds only where it passes
box_passes : (is : RayHit → Bool) (passes : Bool) (hit : RayHit) → is Miss ≡ false → is (cond passes hit Miss) ≡ true → passes ≡ true
box_passes is true hit miss e = refl
box_passes is false hit miss e = clash (sym e ∙ miss)

module _ {m : Mesh} {t : Tree} (r : Ready m t) where
  -- of the triangles that the surface walk comes to, if nothing ends it, the same touch the point as of all
  pub surface_finds : (eps : Float) (p : Vec3) → le zero eps ≡ true → SameCounts (which (touches m eps p) (reached (all_visits t (surface_passes eps p)))) (which (touches m eps p) (all_triangles m))
  unfolding touches surface_passes
  surface_finds eps p positive = which_walk m t (surface_passes eps p) (touches m eps p) own larger r.rules
    where
      own : (k : ℕ) → touches m eps p k ≡ true → surface_passes eps p (own_box m k) ≡ true
      own k e = first_holds _ _ e

      larger : (b : BoundingBox) (k : ℕ) → k < triangle_count m → encloses b (own_box m k) ≡ true → surface_passes eps p (own_box m k) ≡ true → surface_passes eps p b ≡ true
      larger b k h around e = surface_passes_around b (own_box m k) eps p positive around e

  -- so it finds one exactly if the scan does
  pub walk_touches_scan : (eps : Float) (p : Vec3) → le zero eps ≡ true → walk_touches m t eps p ≡ some (touches m eps p) (all_triangles m)
  unfolding walk_touches surface_walk some
  walk_touches_scan eps p positive = some_up_to (touches m eps p) (all_visits t (surface_passes eps p)) ∙ ap (ltb 0) (length_permuted _ _ (surface_finds eps p positive))

  module _ (p d : Vec3) (finite : is_finite p ≡ true) (factors : finite_non_zero (inverse d) ≡ true) where
    larger : (b : BoundingBox) (k : ℕ) → k < triangle_count m → encloses b (own_box m k) ≡ true → ray_passes p d (own_box m k) ≡ true → ray_passes p d b ≡ true
    unfolding ray_passes
    larger b k h around e = ray_passes_around b (own_box m k) (inverse d) p finite factors (own_some r.accepted k h) around e

    -- of the triangles that the ray walk comes to, if nothing ends it, a test that a miss fails holds for the same as of all
    pub ray_finds : (is : RayHit → Bool) → is Miss ≡ false → SameCounts (which (λ k. is (found m p d k)) (reached (all_visits t (ray_passes p d)))) (which (λ k. is (found m p d k)) (all_triangles m))
    unfolding found
    ray_finds is miss = which_walk m t (ray_passes p d) (λ k. is (found m p d k)) own larger r.rules
      where
        own : (k : ℕ) → is (found m p d k) ≡ true → ray_passes p d (own_box m k) ≡ true
        own k e = box_passes is _ _ miss e

    -- the ray walk's vote is the scan's
    pub walk_vote_scan : walk_vote m t p d ≡ vote m p d
    unfolding walk_vote ray_walk vote
    walk_vote_scan =
        vote_up_to (found m p d) (all_visits t (ray_passes p d))
        ∙ vote_over_same (found m p d) (reached (all_visits t (ray_passes p d))) (all_triangles m)
        (length_permuted _ _ (ray_finds is_degenerate (unfold is_degenerate in refl)))
        (length_permuted _ _ (ray_finds is_hit (unfold is_hit in refl)))
