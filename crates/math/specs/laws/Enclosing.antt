-- A box that encloses another: it is not empty if the other is not, and made larger it has each point that the other has, made larger as much. Sums and differences keep
-- the order of numbers, also where they overflow or meet an infinite edge.
use Rattle.std.specs.Prelude.{◌≡◌, Bool, true, false, not, ◌&&◌, ◌||◌, T, Float}
use Rattle.std.proofs.Common.{inl, inr}
use Rattle.std.specs.Float.{nan, inf, fin}
use Rattle.std.specs.Float.Ieee.{binary64, of_bits, is_nan, neg, add, sub, lt, le}
use Rattle.std.specs.Float.Ieee.Bits.{is_true}
use Rattle.std.specs.Float.Ieee.Fits.{and_i, and_l, and_r}
use Rattle.std.specs.Float.Ieee.Scale.{finite}
use Rattle.float.specs.Arithmetic.{◌⊕◌, ◌⊖◌, zero}
use Rattle.float.specs.Rules as Rules
use Rattle.float.specs.laws.Order.{Number, Finite, le_number_left, le_number_right, le_refl, le_trans, le_lt_trans, lt_le_trans, add_number, add_number_right, add_mono, sub_number_right, sub_mono}
use Rattle.math.specs.declared.Vec3.{Vec3}
use Rattle.math.specs.declared.BoundingBox.{BoundingBox}
use Rattle.math.specs.Vectors as Vectors
use Rattle.math.specs.BoundingBoxes.{is_empty, encloses, expanded, contains}

-- ---- vectors and boxes, read axis by axis

-- what a test that is true says
pub holds : (t : Bool) → t ≡ true → T t
holds t e = rw e tt

three : (a b c : Bool) → T (a && b && c) → T a × T b × T c
three false b c h = absurd h
three true false c h = absurd h
three true true c h = (tt, tt, h)

three_i : (a b c : Bool) → T a → T b → T c → T (a && b && c)
three_i a b c p q r = and_i (a && b) c (and_i a b p q) r

-- the components of a finite vector are finite
pub finite_vec : (a : Vec3) → Vectors.is_finite a ≡ true → Finite a.x × Finite a.y × Finite a.z
unfolding Vectors.is_finite Rules.is_finite
finite_vec a e = three (finite a.x) (finite a.y) (finite a.z) (holds _ e)

-- six tests, of two values on each axis
pub six : (a b c d e f : Bool) → T (a && b && c && d && e && f) → (T a × T d) × (T b × T e) × (T c × T f)
six false b c d e f h = absurd h
six true false c d e f h = absurd h
six true true false d e f h = absurd h
six true true true false e f h = absurd h
six true true true true false f h = absurd h
six true true true true true f h = ((tt, tt), (tt, tt), (tt, h))

-- on one axis, the edges lo and hi are on or outside lo' and hi'
abbrev pub Around : Float → Float → Float → Float → Type 0
Around lo lo' hi' hi = T (le lo lo') × T (le hi' hi)

-- the edges of a box that encloses another are so on each axis
pub around : (b c : BoundingBox) → encloses b c ≡ true
    → Around b.min.x c.min.x c.max.x b.max.x × Around b.min.y c.min.y c.max.y b.max.y × Around b.min.z c.min.z c.max.z b.max.z
unfolding encloses
around b c e =
    six (le b.min.x c.min.x) (le b.min.y c.min.y) (le b.min.z c.min.z) (le c.max.x b.max.x) (le c.max.y b.max.y) (le c.max.z b.max.z) (holds _ e)

-- on each axis of a box that is not empty the minimum is at most the maximum
pub ordered : (b : BoundingBox) → is_empty b ≡ false → T (le b.min.x b.max.x) × T (le b.min.y b.max.y) × T (le b.min.z b.max.z)
unfolding is_empty
ordered b e = go (le b.min.x b.max.x) (le b.min.y b.max.y) (le b.min.z b.max.z) (rw e tt)
  where
    go : (a b c : Bool) → T (not (not a || not b || not c)) → T a × T b × T c
    go false b c h = absurd h
    go true false c h = absurd h
    go true true false h = absurd h
    go true true true h = (tt, tt, tt)

-- a box around one that is not empty is not empty
pub around_not_empty : (b c : BoundingBox) → encloses b c ≡ true → is_empty c ≡ false → is_empty b ≡ false
unfolding is_empty
around_not_empty b c h e =
    let a = around b c h in
    let n = ordered c e in
    rw
    (wide b.min.x c.min.x c.max.x b.max.x a.0 n.0, wide b.min.y c.min.y c.max.y b.max.y a.1 n.1, wide b.min.z c.min.z c.max.z b.max.z a.2 n.2)
  where
    wide : (lo lo' hi' hi : Float) → Around lo lo' hi' hi → T (le lo' hi') → le lo hi ≡ true
    wide lo lo' hi' hi a h = is_true (le lo hi) (le_trans lo lo' hi a.0 (le_trans lo' hi' hi h a.1))

-- ---- a point and boxes made larger

below : (x : Float) → Number (x ⊖ inf false) → T (lt x (inf false))
unfolding sub add neg is_nan lt
below nan n = n
below (inf false) n = n
below (inf true) n = tt
below (fin s m e) n = tt

above : (x : Float) → Number (x ⊕ inf false) → T (lt (inf true) x)
unfolding add is_nan lt
above nan n = n
above (inf false) n = tt
above (inf true) n = n
above (fin s m e) n = tt

-- a lower edge on or below another, both moved down by eps, is a number if that other is one
lower_number : (eps lo lo' : Float) → T (le zero eps) → T (le lo lo') → Number (lo' ⊖ eps) → Number (lo ⊖ eps)
lower_number nan lo lo' z h n = absurd (unfold le of_bits in z)
lower_number (inf true) lo lo' z h n = absurd (unfold le of_bits in z)
lower_number (inf false) lo lo' z h n = unfold sub neg in add_number binary64 lo (inf true) (inr (le_lt_trans lo lo' (inf false) h (below lo' n), unfold lt in tt))
lower_number (fin s m e) lo lo' z h n = sub_number_right binary64 lo (fin s m e) (le_number_left lo lo' h) tt

-- and so is an upper edge on or above another, both moved up
upper_number : (eps hi' hi : Float) → T (le zero eps) → T (le hi' hi) → Number (hi' ⊕ eps) → Number (hi ⊕ eps)
upper_number nan hi' hi z h n = absurd (unfold le of_bits in z)
upper_number (inf true) hi' hi z h n = absurd (unfold le of_bits in z)
upper_number (inf false) hi' hi z h n = add_number binary64 hi (inf false) (inl (lt_le_trans (inf true) hi' hi (above hi' n) h, unfold lt in tt))
upper_number (fin s m e) hi' hi z h n = add_number_right binary64 hi (fin s m e) (le_number_right hi' hi h) tt

-- whether p lies between the edges, moved outward by eps
abbrev within : Float → Float → Float → Float → Bool
within eps lo hi p = le (lo ⊖ eps) p && le p (hi ⊕ eps)

within_around : (eps lo lo' hi' hi p : Float) → T (le zero eps) → Around lo lo' hi' hi → T (within eps lo' hi' p) → T (within eps lo hi p)
within_around eps lo lo' hi' hi p z a k =
    let h = and_l (le (lo' ⊖ eps) p) (le p (hi' ⊕ eps)) k in
    let g = and_r (le (lo' ⊖ eps) p) (le p (hi' ⊕ eps)) k in
    let n = le_number_left (lo' ⊖ eps) p h in
    let m = le_number_right p (hi' ⊕ eps) g in
    let itself = le_refl eps (le_number_right zero eps z) in
    and_i (le (lo ⊖ eps) p) (le p (hi ⊕ eps))
    (le_trans (lo ⊖ eps) (lo' ⊖ eps) p (sub_mono binary64 lo lo' eps eps a.0 itself (lower_number eps lo lo' z a.0 n) n) h)
    (le_trans p (hi' ⊕ eps) (hi ⊕ eps) g (add_mono binary64 hi' hi eps eps a.1 itself m (upper_number eps hi' hi z a.1 m)))

-- a point in a box made larger by eps is in each box around that one, made larger by eps
pub surface_passes_around : (b c : BoundingBox) (eps : Float) (p : Vec3) → le zero eps ≡ true → encloses b c ≡ true → contains (expanded c eps) p ≡ true → contains (expanded b eps) p ≡ true
unfolding contains expanded Vectors.sub Vectors.add
surface_passes_around b c eps p s h k =
    let z = holds (le zero eps) s in
    let a = around b c h in
    let q = three (within eps c.min.x c.max.x p.x) (within eps c.min.y c.max.y p.y) (within eps c.min.z c.max.z p.z) (holds _ k) in
    is_true _
    (three_i (within eps b.min.x b.max.x p.x) (within eps b.min.y b.max.y p.y) (within eps b.min.z b.max.z p.z)
    (within_around eps b.min.x c.min.x c.max.x b.max.x p.x z a.0 q.0)
    (within_around eps b.min.y c.min.y c.max.y b.max.y p.y z a.1 q.1)
    (within_around eps b.min.z c.min.z c.max.z b.max.z p.z z a.2 q.2))
