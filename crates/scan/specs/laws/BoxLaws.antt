-- A ray that meets a box which is not empty meets each box around it. Differences, and products with a fixed factor, keep the order of numbers or turn it round, also where
-- they overflow, underflow or meet an infinite edge.
use Rattle.std.specs.Prelude.{◌≡◌, ◌⊎◌, Bool, true, false, cond, T, Float}
use Rattle.std.proofs.Common.{inl, inr, T_not}
use Rattle.std.proofs.Math.Dec.{not_T}
use Rattle.std.specs.Float.{inf, binary64}
use Rattle.std.specs.Float.Ieee.{of_bits, is_nan, lt, le, eq, ne}
use Rattle.std.specs.Float.Ieee.Bits.{is_true}
use Rattle.std.specs.Float.Ieee.Scale.{finite}
use Rattle.float.specs.Arithmetic.{◌⊖◌, zero}
use Rattle.float.specs.Rules as Rules
use Rattle.float.specs.laws.Order.{Number, Finite, le_number_left, le_number_right, le_refl, le_trans, le_total, le_antisym, lt_not_le, finite_number, sub_number_right, sub_mono, mul_mono_pos, mul_anti_neg, min_mono, max_mono}
use Rattle.math.specs.declared.Vec3.{Vec3}
use Rattle.math.specs.declared.BoundingBox.{BoundingBox}
use Rattle.math.specs.Vectors as Vectors
use Rattle.math.specs.BoundingBoxes.{is_empty, encloses}
use Rattle.math.specs.laws.Enclosing.{holds, six, finite_vec, Around, around, ordered}
use Rattle.scan.specs.Rays.{meets, near, far, ray_hits_box}
use Rattle.scan.specs.steps.Slabs.{finite_non_zero}

-- ---- the direction

-- the factor is finite and not zero
abbrev pub Factor : Float → Type 0
Factor c = Finite c × T (ne c zero)

-- the components of a finite vector without a zero are factors
pub factors : (v : Vec3) → finite_non_zero v ≡ true → Factor v.x × Factor v.y × Factor v.z
unfolding finite_non_zero Vectors.is_finite Rules.is_finite
factors v e = six (finite v.x) (finite v.y) (finite v.z) (ne v.x zero) (ne v.y zero) (ne v.z zero) (holds _ e)

-- ---- a ray and the planes of a slab

-- a finite float that is not zero is above or below zero
pub sides : (c : Float) → Factor c → T (lt zero c) ⊎ T (lt c zero)
unfolding ne
sides c f =
    elim (le_total c zero n m) [
      | inl h ↦ inr (rw (lt_not_le c zero n m) (not_T (le zero c) (λ k. T_not (eq c zero) f.1 (le_antisym c zero h k))))
      | inr h ↦ inl (rw (lt_not_le zero c m n) (not_T (le c zero) (λ k. T_not (eq c zero) f.1 (le_antisym c zero k h))))
    ]
  where
    n : Number c
    n = finite_number c f.0

    m : Number zero
    m = unfold of_bits is_nan in tt

less : (o e e' : Float) → Finite o → T (le e e') → T (le (e ⊖ o) (e' ⊖ o))
less o e e' p h =
    sub_mono binary64 e e' o o h (le_refl o (finite_number o p))
    (sub_number_right binary64 e o (le_number_left e e' h) p)
    (sub_number_right binary64 e' o (le_number_right e e' h) p)

-- a factor above zero: planes are met in their order
pub meets_up : (o inv e e' : Float) → Finite o → Finite inv → T (lt zero inv) → T (le e e') → T (le (meets o inv e) (meets o inv e'))
meets_up o inv e e' p q s h = mul_mono_pos binary64 (e ⊖ o) (e' ⊖ o) inv q (unfold of_bits in s) (less o e e' p h)

-- a factor below zero: they are met the other way round
pub meets_down : (o inv e e' : Float) → Finite o → Finite inv → T (lt inv zero) → T (le e e') → T (le (meets o inv e') (meets o inv e))
meets_down o inv e e' p q s h = mul_anti_neg binary64 (e ⊖ o) (e' ⊖ o) inv q (unfold of_bits in s) (less o e e' p h)

-- for m between a and c: the lesser of those is at most m, and m at most the greater
bounds : (a m c : Float) → (T (le a m) × T (le m c)) ⊎ (T (le c m) × T (le m a)) → T (le (cond (le a c) a c) m) × T (le m (cond (le a c) c a))
bounds a m c (inl h) = rw (is_true (le a c) (le_trans a m c h.0 h.1)) h
bounds a m c (inr h) = go (le a c) (λ t. t)
  where
    go : (t : Bool) → (T t → T (le a c)) → T (le (cond t a c) m) × T (le m (cond t c a))
    go true f = (le_trans a c m (f tt) h.0, le_trans m a c h.1 (f tt))
    go false f = h

-- a plane between lo and hi is met between the nearer and the farther of those
pub between : (o inv lo e hi : Float) → Finite o → Factor inv → T (le lo e) → T (le e hi) → T (le (near o inv lo hi) (meets o inv e)) × T (le (meets o inv e) (far o inv lo hi))
unfolding near far
between o inv lo e hi p f h k =
    bounds (meets o inv lo) (meets o inv e) (meets o inv hi)
    (elim (sides inv f) [
      | inl s ↦ inl (meets_up o inv lo e p f.0 s h, meets_up o inv e hi p f.0 s k)
      | inr s ↦ inr (meets_down o inv e hi p f.0 s k, meets_down o inv lo e p f.0 s h)
    ])

choice_le : (t : Bool) (a c x : Float) → T (le a x) → T (le c x) → T (le (cond t a c) x)
choice_le true a c x h k = h
choice_le false a c x h k = k

le_choice : (t : Bool) (x a c : Float) → T (le x a) → T (le x c) → T (le x (cond t a c))
le_choice true x a c h k = h
le_choice false x a c h k = k

-- a slab around another is entered no later and left no earlier
slab_around : (o inv lo lo' hi' hi : Float) → Finite o → Factor inv → T (le lo' hi') → Around lo lo' hi' hi → T (le (near o inv lo hi) (near o inv lo' hi')) × T (le (far o inv lo' hi') (far o inv lo hi))
unfolding near far
slab_around o inv lo lo' hi' hi p f h a =
    let l = between o inv lo lo' hi p f a.0 (le_trans lo' hi' hi h a.1) in
    let u = between o inv lo hi' hi p f (le_trans lo lo' hi' a.0 h) a.1 in
    let t = le (meets o inv lo') (meets o inv hi') in
    (le_choice t (near o inv lo hi) (meets o inv lo') (meets o inv hi') l.0 u.0, choice_le t (meets o inv hi') (meets o inv lo') (far o inv lo hi) u.1 l.1)

-- the ray that passes a box which is not empty passes each box around it
pub ray_passes_around : (b c : BoundingBox) (inv o : Vec3) → Vectors.is_finite o ≡ true → finite_non_zero inv ≡ true → is_empty c ≡ false → encloses b c ≡ true → ray_hits_box o inv c ≡ true → ray_hits_box o inv b ≡ true
unfolding ray_hits_box
ray_passes_around b c inv o s t e h k =
    let p = finite_vec o s in
    let f = factors inv t in
    let n = ordered c e in
    let a = around b c h in
    let x = slab_around o.x inv.x b.min.x c.min.x c.max.x b.max.x p.0 f.0 n.0 a.0 in
    let y = slab_around o.y inv.y b.min.y c.min.y c.max.y b.max.y p.1 f.1 n.1 a.1 in
    let z = slab_around o.z inv.z b.min.z c.min.z c.max.z b.max.z p.2 f.2 n.2 a.2 in
    is_true _
    (le_trans _ _ _
    (max_mono _ _ _ _ (max_mono _ _ _ _ (max_mono zero zero _ _ (unfold of_bits le in tt) x.0) y.0) z.0)
    (le_trans _ _ _ (holds _ k)
    (min_mono _ _ _ _ (min_mono _ _ _ _ (min_mono (inf false) (inf false) _ _ (unfold le in tt) x.1) y.1) z.1)))
