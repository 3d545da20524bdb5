-- The quicker test of a ray against a box is csx's.
use Rattle.std.specs.Prelude.{◌≡◌, refl, Bool, true, false, not, cond, ◌||◌, T, Float}
use Rattle.std.proofs.Common.{inl, inr, T_not}
use Rattle.std.specs.Float.{nan, inf, fin, binary64}
use Rattle.std.specs.Float.Ieee.{neg, lt, le, eq, ne}
use Rattle.std.specs.Float.Ieee.Bits.{is_true}
use Rattle.std.specs.Float.Ieee.Fits.{mul-fits}
use Rattle.float.specs.Arithmetic.{◌⊖◌, zero}
use Rattle.float.specs.Rules.{min, max}
use Rattle.float.specs.laws.Order.{Number, Finite, Alike, le_refl, le_antisym, le_number_left, le_number_right, neg_neg, neg_number, mul_neg, neg_anti_lt, alike_refl, alike_sym, eq_alike, min_top, min_alike, max_alike, le_alike}
use Rattle.float.specs.laws.NumberTests.{same}
use Rattle.math.specs.declared.Vec3.{Vec3}
use Rattle.math.specs.declared.BoundingBox.{BoundingBox}
use Rattle.math.specs.laws.Enclosing.{finite_vec, ordered}
use Rattle.scan.specs.Rays.{meets, near, far, ray_hits_box}
use Rattle.scan.specs.steps.Slabs.{entry, minus_exit, overlap, slab_hits, Met}
use Rattle.scan.specs.laws.BoxLaws.{Factor, factors, sides, meets_up, meets_down, between}

-- ---- a maximum negated

neg_lt : (x y : Float) → lt x y ≡ lt (neg y) (neg x)
neg_lt x y = same (lt x y) (lt (neg y) (neg x)) (neg_anti_lt x y) (λ h. rw (neg_neg x, neg_neg y) at (neg_anti_lt (neg y) (neg x) h))

neg_ne : (x : Float) → ne x x ≡ ne (neg x) (neg x)
unfolding ne eq neg
neg_ne nan = refl
neg_ne (inf false) = refl
neg_ne (inf true) = refl
neg_ne (fin false m e) = refl
neg_ne (fin true m e) = refl

neg_cond : (t : Bool) (x y : Float) → neg (cond t x y) ≡ cond t (neg x) (neg y)
neg_cond true x y = refl
neg_cond false x y = refl

neg_max : (x y : Float) → neg (max x y) ≡ min (neg x) (neg y)
unfolding max min
neg_max x y = rw (neg_lt x y, neg_ne x) (neg_cond (lt (neg y) (neg x) || ne (neg x) (neg x)) y x)

first_exit : (x y z : Float) {a b c : Float} → Number a → Alike (neg x) a → Alike (neg y) b → Alike (neg z) c → Alike (neg (max (max x y) z)) (min (min (min (inf false) a) b) c)
first_exit x y z {a} p h k l = rw (neg_max (max x y) z, neg_max x y, min_top a p) (min_alike (min_alike h k) l)

-- ---- the planes that the two tests take

-- planes met in the other order: which of them is nearer and which farther, but perhaps for the sign of a zero
turned : (o inv lo hi : Float) (t : Bool) → (T t → T (le (meets o inv lo) (meets o inv hi))) → T (le (meets o inv hi) (meets o inv lo))
    → Alike (meets o inv hi) (cond t (meets o inv lo) (meets o inv hi)) × Alike (meets o inv lo) (cond t (meets o inv hi) (meets o inv lo))
turned o inv lo hi false f h = (alike_refl (meets o inv hi), alike_refl (meets o inv lo))
turned o inv lo hi true f h =
    let a = eq_alike binary64 (meets o inv hi) (meets o inv lo) (mul-fits binary64 (hi ⊖ o) inv) (mul-fits binary64 (lo ⊖ o) inv) (le_antisym (meets o inv hi) (meets o inv lo) h (f tt)) in
    (a, alike_sym a)

-- both tests find the entry and the exit at the same place, but perhaps for the sign of a zero
planes : (o inv lo hi : Float) → Finite o → Factor inv → T (le lo hi) → Alike (entry o inv lo hi) (near o inv lo hi) × Alike (neg (minus_exit o inv lo hi)) (far o inv lo hi)
unfolding entry minus_exit near far
planes o inv lo hi p f h =
    rw (mul_neg binary64 (cond (lt zero inv) hi lo ⊖ o) inv, neg_neg (meets o inv (cond (lt zero inv) hi lo)))
    (go (lt zero inv) (λ s. s) (λ s. elim (sides inv f) [ inl k ↦ absurd (T_not (lt zero inv) s k) | inr k ↦ k ]))
  where
    go : (t : Bool) → (T t → T (lt zero inv)) → (T (not t) → T (lt inv zero))
        → Alike (meets o inv (cond t lo hi)) (cond (le (meets o inv lo) (meets o inv hi)) (meets o inv lo) (meets o inv hi))
        × Alike (meets o inv (cond t hi lo)) (cond (le (meets o inv lo) (meets o inv hi)) (meets o inv hi) (meets o inv lo))
    go true above below =
        rw (is_true (le (meets o inv lo) (meets o inv hi)) (meets_up o inv lo hi p f.0 (above tt) h))
        (alike_refl (meets o inv lo), alike_refl (meets o inv hi))
    go false above below = turned o inv lo hi (le (meets o inv lo) (meets o inv hi)) (λ t. t) (meets_down o inv lo hi p f.0 (below tt) h)

-- where a plane is met is a number
meets_number : (o inv e : Float) → Finite o → Factor inv → Number e → Number (meets o inv e)
meets_number o inv e p f n =
    elim (sides inv f) [
      | inl s ↦ le_number_left (meets o inv e) (meets o inv e) (meets_up o inv e e p f.0 s (le_refl e n))
      | inr s ↦ le_number_left (meets o inv e) (meets o inv e) (meets_down o inv e e p f.0 s (le_refl e n))
    ]

chosen_number : (t : Bool) (a b : Float) → Number a → Number b → Number (cond t a b)
chosen_number true a b p q = p
chosen_number false a b p q = q

-- so are the entry and the exit of a slab
slab_numbers : (o inv lo hi : Float) → Finite o → Factor inv → T (le lo hi) → Number (entry o inv lo hi) × Number (minus_exit o inv lo hi)
unfolding entry minus_exit
slab_numbers o inv lo hi p f h =
    let low = le_number_left lo hi h in
    let high = le_number_right lo hi h in
    let far = cond (lt zero inv) hi lo in (
      meets_number o inv (cond (lt zero inv) lo hi) p f (chosen_number (lt zero inv) lo hi low high),
      rw (mul_neg binary64 (far ⊖ o) inv) (neg_number (meets o inv far) (meets_number o inv far p f (chosen_number (lt zero inv) hi lo high low))),
    )

module _ {o inv : Vec3} {b : BoundingBox} (met : Met o inv b) where
  -- on each axis the entry and the exit are numbers
  pub all_numbers : (Number (entry o.x inv.x b.min.x b.max.x) × Number (minus_exit o.x inv.x b.min.x b.max.x))
      × (Number (entry o.y inv.y b.min.y b.max.y) × Number (minus_exit o.y inv.y b.min.y b.max.y))
      × (Number (entry o.z inv.z b.min.z b.max.z) × Number (minus_exit o.z inv.z b.min.z b.max.z))
  all_numbers =
      let p = finite_vec o met.origin in
      let f = factors inv met.direction in
      let n = ordered b met.some in
      (slab_numbers o.x inv.x b.min.x b.max.x p.0 f.0 n.0, slab_numbers o.y inv.y b.min.y b.max.y p.1 f.1 n.1, slab_numbers o.z inv.z b.min.z b.max.z p.2 f.2 n.2)

  -- the two tests are the same
  pub slab_same : slab_hits o inv b ≡ ray_hits_box o inv b
  unfolding slab_hits overlap ray_hits_box
  slab_same =
      let p = finite_vec o met.origin in
      let f = factors inv met.direction in
      let n = ordered b met.some in
      let x = planes o.x inv.x b.min.x b.max.x p.0 f.0 n.0 in
      let y = planes o.y inv.y b.min.y b.max.y p.1 f.1 n.1 in
      let z = planes o.z inv.z b.min.z b.max.z p.2 f.2 n.2 in
      let first = between o.x inv.x b.min.x b.min.x b.max.x p.0 f.0 (le_refl b.min.x (le_number_left b.min.x b.max.x n.0)) n.0 in
      le_alike
      (max_alike (max_alike (max_alike (alike_refl zero) x.0) y.0) z.0)
      (first_exit _ _ _ (le_number_right _ _ first.1) x.1 y.1 z.1)
