-- Two floats of one format that compare equal are the same float, or are both zero. A value's bit pattern says its sign and its size, which equal floats that are not zero share,
-- and the float is read back from the pattern.
use Rattle.std.specs.Prelude.{◌≡◌, refl, ◌⊎◌, Bool, true, false, ℕ, ◌+◌, ◌*◌, ◌/◌, ◌^◌, T, ℤ, Float}
use Rattle.std.proofs.Common.{sym, ap, ◌∙◌, inl, inr, mul_right_comm, arith}
use Rattle.std.specs.Float.{nan, inf, fin, Format}
use Rattle.std.specs.Float.Ieee.{up, down, low, eq, fits, to_bits, of_bits}
use Rattle.std.specs.Float.Ieee.Fits.{down_pos}
use Rattle.std.specs.Float.Ieee.Nearest.{div_same}
use Rattle.std.specs.Float.Ieee.Bits.{of_bits-to_bits}
use Rattle.float.specs.laws.Order.Compare.{Zero, none, eq→cross}

same_bits : (f : Format) (s : Bool) (m : ℕ) (e : ℤ) (n : ℕ) (d : ℤ) → m * up e * down d ≡ n * up d * down e → to_bits f (fin s m e) ≡ to_bits f (fin s n d)
unfolding to_bits
same_bits f s m e n d h =
    let l = 2 ^ low f in
    let same : m * up e * l / down e ≡ n * up d * l / down d =
    div_same (m * up e * l) (down e) (n * up d * l) (down d) (down_pos e) (down_pos d)
    (mul_right_comm (m * up e) l (down d) ∙ ap (λ (x : ℕ). x * l) h ∙ mul_right_comm (n * up d) (down e) l) in
    rw same

same_fin : (f : Format) (s : Bool) (m : ℕ) (e : ℤ) (n : ℕ) (d : ℤ) → T (fits f (fin s m e)) → T (fits f (fin s n d)) → m * up e * down d ≡ n * up d * down e → fin s m e ≡ fin s n d
same_fin f s m e n d p q h = sym (of_bits-to_bits f (fin s m e) p) ∙ ap (of_bits f) (same_bits f s m e n d h) ∙ of_bits-to_bits f (fin s n d) q

both_zero : (m : ℕ) (e : ℤ) (n : ℕ) (d : ℤ) → m * up e * down d + n * up d * down e ≡ 0 → (Unit {0} × (m * up e ≡ 0)) × (Unit {0} × (n * up d ≡ 0))
both_zero m e n d h = ((tt, none (m * up e) (down d) (down_pos d) (omega arith)), (tt, none (n * up d) (down e) (down_pos e) (omega arith)))

pub same_or_zero : (f : Format) (x y : Float) → T (fits f x) → T (fits f y) → T (eq x y) → (x ≡ y) ⊎ (Zero x × Zero y)
same_or_zero f nan y p q h = absurd (unfold eq in h)
same_or_zero f (inf s) nan p q h = absurd (unfold eq in h)
same_or_zero f (inf false) (inf false) p q h = inl refl
same_or_zero f (inf false) (inf true) p q h = absurd (unfold eq in h)
same_or_zero f (inf true) (inf false) p q h = absurd (unfold eq in h)
same_or_zero f (inf true) (inf true) p q h = inl refl
same_or_zero f (inf s) (fin t n d) p q h = absurd (unfold eq in h)
same_or_zero f (fin s m e) nan p q h = absurd (unfold eq in h)
same_or_zero f (fin s m e) (inf t) p q h = absurd (unfold eq in h)
same_or_zero f (fin false m e) (fin false n d) p q h = let g = eq→cross (fin false m e) (fin false n d) tt tt h in inl (same_fin f false m e n d p q (omega arith))
same_or_zero f (fin false m e) (fin true n d) p q h = let g = eq→cross (fin false m e) (fin true n d) tt tt h in inr (both_zero m e n d (omega arith))
same_or_zero f (fin true m e) (fin false n d) p q h = let g = eq→cross (fin true m e) (fin false n d) tt tt h in inr (both_zero m e n d (omega arith))
same_or_zero f (fin true m e) (fin true n d) p q h = let g = eq→cross (fin true m e) (fin true n d) tt tt h in inl (same_fin f true m e n d p q (omega arith))
