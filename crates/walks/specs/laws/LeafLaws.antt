-- The triangles of a leaf whose own boxes a ray passes: they alone are looked at, since at any other the ray finds nothing.
use Rattle.std.specs.Prelude.{ℕ, zero, suc, ◌+◌, ◌≤◌, ◌<◌, ◌≡◌, Bool, true, false, List, ltb, length, get_or, set}
use Rattle.std.proofs.Common.{arith, sym, ap, ◌∙◌, get_or-set_same, get_or-set_other, ltb-true, ltb-false}
use Rattle.std.proofs.Math.Path.{refl}
use Rattle.keys.specs.laws.SortingTheorems.{by_test}
use Rattle.math.specs.declared.Vec3.{Vec3}
use Rattle.mesh.specs.steps.Items.{Item}
use Rattle.mesh.specs.Mesh.{Mesh, own_box}
use Rattle.scan.specs.declared.rays.RayHit.{RayHit}
use Rattle.scan.specs.declared.rays.RayHit.TheVariants.{Miss}
use Rattle.scan.specs.Scan.{Vote, ray_passes, found}
use Rattle.scan.specs.steps.VoteSteps.{cast_over, with_found}
use Rattle.scan.specs.laws.ScanLaws.{cast_over_append}
use Rattle.walks.specs.steps.Stacks.{raised}
use Rattle.walks.specs.Walks.{items_from}
use Rattle.walks.specs.laws.WalkLaws.{items_from_append}
use Rattle.walks.specs.steps.Kept.{Kept}

-- a store behind them changes none of them
items_from_set : (l : List ℕ) (j x a places : ℕ) → a + places ≤ j → items_from (set l j x) a places ≡ items_from l a places
unfolding items_from
items_from_set l j x a zero h = refl
items_from_set l j x a (suc places) h = rw (get_or-set_other l j a x 0 (λ e. omega arith), items_from_set l j x (a + 1) places (omega arith))

-- the vote with one more item
cast_last : (find : ℕ → RayHit) (v : Vote) (l : List ℕ) (a places : ℕ) → cast_over find v (items_from l a (places + 1)) ≡ with_found (cast_over find v (items_from l a places)) (find (get_or l (a + places) 0))
unfolding cast_over items_from
cast_last find v l a places = ap (cast_over find v) (items_from_append l a places 1) ∙ cast_over_append find v (items_from l a places) (items_from l (a + places) 1)

module _ {m : Mesh} {d o : Vec3} {items : List ℕ} {i : ℕ} where
  -- none at first
  pub kept_none : (list : List ℕ) → Kept m o d items i 0 list 0
  unfolding items_from
  kept_none list = record { few = omega arith; each = λ j h. absurd (omega arith); same = λ v. refl }

  -- no more of them than items
  pub kept_few : {places : ℕ} {list : List ℕ} {n : ℕ} → Kept m o d items i places list n → n ≤ places
  kept_few k = k.few

  -- one more item, which counts if its own box passes
  pub kept_next : {places : ℕ} {list : List ℕ} {n : ℕ} → Kept m o d items i places list n → n < length list → (t : ℕ) → get_or items (i + places) 0 ≡ t → Item m t
      → (b : Bool) → ray_passes o d (own_box m t) ≡ b → Kept m o d items i (places + 1) (set list n t) (raised n b)
  kept_next {places} {list} {n} k room t here item true e =
      let at_n : get_or (set list n t) n 0 ≡ t = get_or-set_same list n t 0 room in
      let last : 0 + n ≡ n = omega arith in
      record {
        few = omega (arith, k.few);
        each = λ j h.
            let behind : j < n + 1 = h in
            by_test
            (ltb j n)
            (λ z. rw (get_or-set_other list n j t 0 (λ q. omega (arith, ltb-true j n z))) (k.each j (ltb-true j n z)))
            (λ z.
            let same : j ≡ n = omega (arith, behind, ltb-false j n z) in
            rw (same, at_n) (item, e));
        same = λ v. cast_last (found m o d) v (set list n t) 0 n ∙ rw (last, at_n, items_from_set list n t 0 n (omega arith), k.same v, sym here) (sym (cast_last (found m o d) v items i places));
      }
  kept_next {places} {list} {n} k room t here item false e =
      let miss : found m o d t ≡ Miss = unfold found in rw e refl in
      record {
        few = omega (arith, k.few);
        each = λ j h. rw (get_or-set_other list n j t 0 (λ q. omega arith)) (k.each j h);
        same = λ v. rw (items_from_set list n t 0 n (omega arith), k.same v) (sym (cast_last (found m o d) v items i places ∙ rw (here, miss) (unfold with_found in refl)));
      }
