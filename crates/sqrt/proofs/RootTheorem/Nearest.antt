-- For a finite x above zero, x's quanta times 2^1074 are m * 2^g with an m of 53 digits, and so v * 4^k with v = m * 2^52 or m * 2^53. Its root is q * 2^k quanta, q the whole number
-- nearest to the root of v (`root_of_is`), and every other value of the format lies on the grid that `mid_below` and `mid_above` speak of.
use Rattle.std.specs.Prelude.{◌≡◌, refl, Bool, true, false, not, ℕ, zero, suc, ◌+◌, ◌-◌, ◌*◌, ◌/◌, ◌%◌, ◌^◌, ◌≤◌, ◌<◌, Float}
use Rattle.std.proofs.Common.{sym, ap, ◌∙◌, le_trans, le_of_eq, lt_of_lt_of_le, lt_of_le_of_lt, mul_assoc, mul-pos, mul-le-mul_right, mul-lt-mul_of_pos_right, lt_of_mul-lt-mul_right, zero-mul, lt-suc_self, arith, ltb→lt, lt→ltb, pow-add, pow_mono}
use Rattle.std.proofs.Math.Path.{subst}
use Rattle.std.proofs.Math.Dec.{T}
use Rattle.std.proofs.Math.Pow.{pow_pos}
use Rattle.std.specs.Float.{nan, inf, fin, binary64}
use Rattle.std.specs.Float.Ieee.{size, odd, fits, is_nan, lt, below}
use Rattle.std.specs.Float.Ieee.Digits.{size-lt, size-le, size_reaches}
use Rattle.std.specs.Float.Ieee.Exact.{odd_sign}
use Rattle.std.specs.Float.Ieee.Fits.{odd-fits}
use Rattle.std.specs.Float.Ieee.Scale.{finite}
use Rattle.std.specs.Float.Ieee.Bits.{is_true}
use Rattle.float.specs.Rules.{zero64}
use Rattle.float.specs.Quanta.{quanta}
use Rattle.float.specs.TotalOrder.{negative}
use Rattle.float.specs.laws.OrderTheorems.Value.{Is, Size, of_finite, lt_size, quanta_size}
use Rattle.float.specs.laws.OrderTheorems.Pattern.{of_pattern}
use Rattle.sqrt.specs.Root.{root, nearest_root, IsNearestRoot}
use Rattle.sqrt.proofs.RootTheorem.Squares.{Nearest, nearest_low, nearest_high, nearest_root_nearest}
use Rattle.sqrt.proofs.RootTheorem.Scale.{scaled_range, root_of_is, moved_up, pow_cancel}
use Rattle.sqrt.proofs.RootTheorem.Grid.{OnGrid, quanta_grid, quanta_odd, mid_below, mid_above}
use Rattle.sqrt.proofs.RootTheorem.Cases.{root_positive}

-- ---- 53 digits
-- a number of at most 53 digits, moved up to have 53
fill : (m : ℕ) → 0 < m → m < 2 ^ 53 → (i : ℕ) × (i ≤ 52) × (2 ^ 52 ≤ m * 2 ^ i) × (m * 2 ^ i < 2 ^ 53)
fill m a b = go (size m) (size-lt m) (size-le m 53 b) (size_reaches m)
  where
    go : (s : ℕ) → m < 2 ^ s → s ≤ 53 → ((j : ℕ) → j < s → 2 ^ j ≤ m) → (i : ℕ) × (i ≤ 52) × (2 ^ 52 ≤ m * 2 ^ i) × (m * 2 ^ i < 2 ^ 53)
    go zero h k reach = absurd (omega arith)
    go (suc j) h k reach =
        let u = moved_up m j (reach j (lt-suc_self j)) h (omega arith) in
        (52 - j, omega arith, u.0, u.1)

-- n quanta with 53 digits m: n * 2^1074 = m * 2^g
pub record Scaled (n : ℕ) : Type 0 where
  pub m : ℕ
  pub g : ℕ
  pub low : 2 ^ 52 ≤ m
  pub high : m < 2 ^ 53
  pub enough : 52 ≤ g
  pub value : n * 2 ^ 1074 ≡ m * 2 ^ g

pub scale : (n : ℕ) → 0 < n → OnGrid n → Scaled n
scale n n>0 (m, j, small, is) =
    let m>0 : 0 < m = lt_of_mul-lt-mul_right (2 ^ j) (subst (λ (x : ℕ). x < m * 2 ^ j) (sym (zero-mul (2 ^ j))) (subst (λ (x : ℕ). 0 < x) is n>0)) in
    let f = fill m m>0 small in
    let i = f.0 in
    let few = f.1 in
    let e : j + 1074 ≡ i + (j + 1074 - i) = omega arith in
    record {
      m = m * 2 ^ i;
      g = j + 1074 - i;
      low = f.2;
      high = f.3;
      enough = omega arith;
      value =
          ap (λ (x : ℕ). x * 2 ^ 1074) is
          ∙ mul_assoc m (2 ^ j) (2 ^ 1074)
          ∙ ap (λ (x : ℕ). m * x) (sym (pow-add 2 j 1074) ∙ ap (λ (x : ℕ). 2 ^ x) e ∙ pow-add 2 i (j + 1074 - i))
          ∙ sym (mul_assoc m (2 ^ i) (2 ^ (j + 1074 - i)));
    }

-- ---- comparisons, as comparisons of quanta
pub sized : (x : Float) → T (fits binary64 x) → T (finite x) → Size x (quanta x)
sized nan h f = absurd f
sized (inf s) h f = absurd f
sized (fin s m e) h f =
    let z = (of_pattern (fin s m e) h (unfold is_nan in tt)).size in
    subst (Size (fin s m e)) (sym (quanta_size s m e _ z)) z

size_bound : (x : Float) → T (finite x) → (n : ℕ) → Size x n → n < 2 ^ 2098
size_bound nan f n h = absurd f
size_bound (inf s) f n h = absurd f
size_bound (fin s m e) f n h = h.1

-- a value with the sign plus that is below a finite one is finite
finite_below : (y r : Float) → T (finite r) → T (not (negative y)) → T (lt y r) → T (finite y)
unfolding lt negative
finite_below nan r f p l = absurd l
finite_below (inf true) r f p l = absurd p
finite_below (inf false) nan f p l = absurd l
finite_below (inf false) (inf t) f p l = absurd l
finite_below (inf false) (fin t n d) f p l = absurd l
finite_below (fin s m e) r f p l = tt

-- with the sign plus on both sides
plus_lt : (s t : Bool) (a b : ℕ) → T (not s) → t ≡ false → T (below s a t b) → a < b
plus_lt false t a b p e l = ltb→lt a b (subst (λ (u : Bool). T (below false a u b)) e l)
plus_lt true t a b p e l = absurd p

-- what is above a value with the sign plus has the sign plus
above_plus : (t : Bool) (a b : ℕ) → T (below false a t b) → a < b
above_plus false a b l = ltb→lt a b l
above_plus true a b l = absurd l

positive_lt : (o : Float) (n : ℕ) → Is o false n → 0 < n → T (lt zero64 o)
unfolding negative
positive_lt o n is h =
    subst T (sym (lt_size zero64 o 0 n (refl, pow_pos 2098) is.size))
    (subst (λ (u : Bool). T (below false 0 u n)) (sym is.sign) (lt→ltb 0 n h))

-- ---- the root r = q * 2^k of v * 4^k
module _ (n : ℕ) (s : Scaled n) where
  abbrev v : ℕ
  v = s.m * 2 ^ (52 + s.g % 2)

  abbrev k : ℕ
  k = (s.g - 52) / 2

  abbrev r : Float
  r = odd 53 false (nearest_root v) k 1074

  range : (2 ^ 104 ≤ v) × (v ≤ 2 ^ 106 - 2 ^ 53)
  range = scaled_range s.m s.g s.low s.high

  near : Nearest v (nearest_root v)
  near = let l = range in nearest_root_nearest v (omega arith) (omega arith)

  few : nearest_root v < 2 ^ 53
  few = nearest_high v (nearest_root v) range.1 near

  many : 2 ^ 52 ≤ nearest_root v
  many = nearest_low v (nearest_root v) range.0 near

  whole : n * 2 ^ 1074 ≡ v * (2 ^ k * 2 ^ k)
  whole =
      let h = s.enough in
      let e : s.g ≡ 52 + s.g % 2 + (k + k) = omega arith in
      s.value
      ∙ ap (λ (i : ℕ). s.m * 2 ^ i) e
      ∙ ap (λ (i : ℕ). s.m * i) (pow-add 2 (52 + s.g % 2) (k + k) ∙ ap (λ (i : ℕ). 2 ^ (52 + s.g % 2) * i) (pow-add 2 k k))
      ∙ sym (mul_assoc s.m (2 ^ (52 + s.g % 2)) (2 ^ k * 2 ^ k))

  bound : n < 2 ^ 2098 → nearest_root v * 2 ^ k < 2 ^ 2098
  bound h =
      let g_low : 2 ^ (52 + s.g) < 2 ^ 3172 =
      lt_of_le_of_lt (le_trans (le_of_eq (pow-add 2 52 s.g)) (le_trans (mul-le-mul_right (2 ^ s.g) s.low) (le_of_eq (sym s.value))))
      (mul-lt-mul_of_pos_right h (pow_pos 1074)) in
      let g_few : 52 + s.g < 3172 = pow_cancel (52 + s.g) 3172 g_low in
      let fits : 53 + k ≤ 2098 = omega arith in
      lt_of_lt_of_le (mul-lt-mul_of_pos_right few (pow_pos k)) (le_trans (le_of_eq (sym (pow-add 2 53 k))) (pow_mono fits))

  r_is : n < 2 ^ 2098 → Is r false (nearest_root v * 2 ^ k)
  r_is h = of_finite r false (nearest_root v * 2 ^ k) (odd_sign 53 false (nearest_root v) k 1074) (bound h)

odd_finite : (d : ℕ) (s : Bool) (q k l : ℕ) → T (finite (odd d s q k l))
unfolding odd
odd_finite d s zero k l = tt
odd_finite d s (suc q) k l = tt

-- ---- the theorem
module _ (x : Float) (fx : T (fits binary64 x)) (finx : T (finite x)) (posx : T (lt zero64 x)) where
  n_pos : 0 < quanta x
  unfolding negative
  n_pos = above_plus (negative x) 0 (quanta x) (subst T (lt_size zero64 x 0 (quanta x) (refl, pow_pos 2098) (sized x fx finx)) posx)

  scaled : Scaled (quanta x)
  scaled = scale (quanta x) n_pos (quanta_grid x fx finx)

  small : quanta x < 2 ^ 2098
  small = size_bound x finx (quanta x) (sized x fx finx)

  root_is : root x ≡ r (quanta x) scaled
  root_is = root_positive x (is_true (lt zero64 x) posx) finx ∙ root_of_is (quanta x) scaled.m scaled.g scaled.low scaled.high scaled.enough scaled.value

  is_nearest : IsNearestRoot x (r (quanta x) scaled)
  is_nearest =
      let q = nearest_root (v (quanta x) scaled) in
      let j = k (quanta x) scaled in
      let o = r (quanta x) scaled in
      let is = r_is (quanta x) scaled small in
      let finr = odd_finite 53 false q j 1074 in
      let size_r : quanta o ≡ q * 2 ^ j = quanta_odd 53 false q j in
      let low = many (quanta x) scaled in
      let high = few (quanta x) scaled in
      record {
        held = odd-fits binary64 53 false q j high (omega arith) (bound (quanta x) scaled small);
        finite_too = finr;
        above_zero = positive_lt o (q * 2 ^ j) is (mul-pos (omega arith) (pow_pos j));
        below = λ y h p l.
            let f = finite_below y o finr p l in
            let less = plus_lt (negative y) (negative o) (quanta y) (q * 2 ^ j) p is.sign (subst T (lt_size y o (quanta y) (q * 2 ^ j) (sized y h f) is.size) l) in
            subst (λ (i : ℕ). (quanta y + i) * (quanta y + i) < 4 * (quanta x * 2 ^ 1074)) (sym size_r)
            (subst (λ (i : ℕ). (quanta y + q * 2 ^ j) * (quanta y + q * 2 ^ j) < 4 * i) (sym (whole (quanta x) scaled))
            (mid_below (v (quanta x) scaled) q j (quanta y) (range (quanta x) scaled).0 low (near (quanta x) scaled) (quanta_grid y h f) less));
        above = λ y h f l.
            let more = above_plus (negative y) (q * 2 ^ j) (quanta y) (subst (λ (u : Bool). T (below u (q * 2 ^ j) (negative y) (quanta y))) is.sign (subst T (lt_size o y (q * 2 ^ j) (quanta y) is.size (sized y h f)) l)) in
            subst (λ (i : ℕ). 4 * (quanta x * 2 ^ 1074) < (quanta y + i) * (quanta y + i)) (sym size_r)
            (subst (λ (i : ℕ). 4 * i < (quanta y + q * 2 ^ j) * (quanta y + q * 2 ^ j)) (sym (whole (quanta x) scaled))
            (mid_above (v (quanta x) scaled) q j (quanta y) low (near (quanta x) scaled) (quanta_grid y h f) more));
      }

  pub nearest_root_lem : IsNearestRoot x (root x)
  nearest_root_lem = subst (IsNearestRoot x) (sym root_is) is_nearest
