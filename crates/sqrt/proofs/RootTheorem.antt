-- `root` is IEEE 754's square root: for a finite value above zero the nearest value of the format, and the special cases. And it keeps the order.
pub mod Squares
pub mod Scale
pub mod Grid
pub mod Cases
pub mod Nearest
mod Monotone
use Rattle.std.specs.Prelude.{◌≡◌, refl, Bool, false, T, pos, Float}
use Rattle.std.proofs.Common.{sym, ap, subst, inl, inr}
use Rattle.std.proofs.Math.Dec.{not_T}
use Rattle.std.specs.Float.{nan, inf, fin, binary64}
use Rattle.std.specs.Float.Ieee.{fits, lt, le, eq}
use Rattle.std.specs.Float.Ieee.Bits.{is_true, is_false}
use Rattle.std.specs.Float.Ieee.Scale.{finite}
use Rattle.float.specs.Rules.{zero64}
use Rattle.sqrt.specs.Root.{root, IsNearestRoot}
use Rattle.float.specs.laws.Order.{Number, Alike, is_zero, finite_number, alike_eq, lt_irrefl, lt_trans, lt_le_trans, eq_le, eq_sym}
use Cases.{root_none, root_at_zero}
use Nearest.{nearest_root_lem}
use Monotone

-- The root of a finite value above zero is the nearest value of the format to the real root.
pub root_nearest : (x : Float) → T (fits binary64 x) → T (finite x) → T (lt zero64 x) → IsNearestRoot x (root x)
root_nearest x h f l = nearest_root_lem x h f l

-- ---- the special cases
pub root_nan : root nan ≡ nan
unfolding root
root_nan = refl

pub root_infinity : root (inf false) ≡ inf false
unfolding root
root_infinity = refl

-- a zero keeps its sign
pub root_zero : (s : Bool) → root (fin s 0 (pos 0)) ≡ fin s 0 (pos 0)
unfolding root
root_zero s = refl

-- a negative number has none
pub root_negative : (x : Float) → T (lt x zero64) → root x ≡ nan
root_negative x l =
    root_none x (is_false (lt zero64 x) (not_T (lt zero64 x) (λ h. lt_irrefl x (lt_trans x zero64 x l h))))
    (is_false (eq x zero64) (not_T (eq x zero64) (λ h. lt_irrefl x (lt_le_trans x zero64 x l (eq_le zero64 x (eq_sym x zero64 h))))))

-- ---- the order, and zeros
-- Of values that are not below zero, infinities included, the larger has the larger root, or the same.
pub root_mono : (x y : Float) → T (fits binary64 x) → T (fits binary64 y) → T (le zero64 x) → T (le x y) → T (le (root x) (root y))
root_mono x y h k z l = Monotone.root_mono x y h k z l

-- The sign of a zero shows in the root's sign alone.
pub root_alike : {x y : Float} → Alike x y → Alike (root x) (root y)
root_alike (inl e) = inl (ap root e)
root_alike {x} {y} (inr z) = inr (still x z.0, still y z.1)
  where
    zero_number : (x : Float) → T (is_zero x) → Number x
    zero_number nan z = absurd z
    zero_number (inf s) z = absurd z
    zero_number (fin s m e) z = finite_number (fin s m e) tt

    still : (x : Float) → T (is_zero x) → T (is_zero (root x))
    still x z = subst (λ (t : Float). T (is_zero t)) (sym (root_at_zero x (is_true (eq x zero64) (alike_eq (zero_number x z) (inr (z, tt)))))) z
