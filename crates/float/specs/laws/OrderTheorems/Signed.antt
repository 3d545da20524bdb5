-- Tests on natural numbers, and on numbers with a sign: `below s a t b` is ±a < ±b and `level s a t b` is ±a = ±b, where `true` is the sign minus.
use Rattle.std.specs.Prelude.{◌≡◌, refl, ℕ, zero, suc, ◌+◌, ◌-◌, ◌*◌, ◌≤◌, ◌<◌, Bool, true, false, not, cond, ◌&&◌, ◌||◌, T, leb, ltb, eqb}
use Rattle.std.proofs.Common.{sym, ap, ap₂, ◌∙◌, inl, inr, add_comm, zero-mul, mul_assoc, mul_right_comm, mul-pos, mul-lt-mul_of_pos_right, zero-lt-suc, le_of_eq, le_of_lt, lt_of_not-le, not-le_of_lt, eq-or-lt_of_le, arith, lt-ltb, le-ltb, le-leb, eq-eqb, ne_eqb, ltb→lt, lt→ltb, nltb→le, eqb→eq}
use Rattle.std.proofs.Math.Bool.{and-true, and-false}
use Rattle.std.proofs.lemmas.Bool.{lt-leb}
use Rattle.std.proofs.Math.Dec.{not_T, eqb-zero-suc, eqb-suc-zero}
use Rattle.std.specs.Float.Ieee.{below, level}
use Rattle.float.specs.laws.NumberTests.{same, tests}

-- a and b are in one of three orders, and each gives the tests <, >, =, ≤, ≥ their values: what holds of all three rows holds of the tests
pub by_order : (P : Bool → Bool → Bool → Bool → Bool → Type 0) → P true false false true false → P false true false false true → P false false true true true
    → (a b : ℕ) → P (ltb a b) (ltb b a) (eqb a b) (leb a b) (leb b a)
by_order P less more equal a b = go (ltb a b) (ltb b a) (ltb→lt a b) (nltb→le a b) (ltb→lt b a) (nltb→le b a)
  where
    go : (l m : Bool) → (T l → a < b) → (T (not l) → b ≤ a) → (T m → b < a) → (T (not m) → a ≤ b) → P (ltb a b) (ltb b a) (eqb a b) (leb a b) (leb b a)
    go true m h _ _ _ =
        let k : a < b = h tt in
        rw (lt-ltb a b k, le-ltb b a (omega arith), ne_eqb a b (omega arith), le-leb a b (omega arith), lt-leb b a k) less
    go false true _ _ h _ =
        let k : b < a = h tt in
        rw (le-ltb a b (omega arith), lt-ltb b a k, ne_eqb a b (omega arith), lt-leb a b k, le-leb b a (omega arith)) more
    go false false _ h _ k =
        let i : b ≤ a = h tt in
        let j : a ≤ b = k tt in
        rw (le-ltb a b i, le-ltb b a j, eq-eqb a b (omega arith), le-leb a b j, le-leb b a i) equal

-- ---- a function that keeps the order, and 0, keeps the signed order

module _ (f : ℕ → ℕ) (grows : (a b : ℕ) → a < b → f a < f b) where
  le_grows : (a b : ℕ) → a ≤ b → f a ≤ f b
  le_grows a b h = elim (eq-or-lt_of_le h) [ inl e ↦ le_of_eq (ap f e) | inr l ↦ le_of_lt (grows a b l) ]

  ltb_grows : (a b : ℕ) → ltb (f a) (f b) ≡ ltb a b
  ltb_grows a b =
      same (ltb (f a) (f b)) (ltb a b)
      (λ t. lt→ltb a b (lt_of_not-le (λ (g : b ≤ a). not-le_of_lt (ltb→lt (f a) (f b) t) (le_grows b a g))))
      (λ t. lt→ltb (f a) (f b) (grows a b (ltb→lt a b t)))

  pub below_grows : f 0 ≡ 0 → (s : Bool) (a : ℕ) (t : Bool) (b : ℕ) → below s (f a) t (f b) ≡ below s a t b
  below_grows z false a false b = ltb_grows a b
  below_grows z false a true b = refl
  below_grows z true zero false zero = rw z
  below_grows z true zero false (suc b) = lt-ltb 0 (f 0 + f (suc b)) (omega (arith, grows 0 (suc b) (zero-lt-suc b))) ∙ sym (lt-ltb 0 (0 + suc b) (omega arith))
  below_grows z true (suc a) false b = lt-ltb 0 (f (suc a) + f b) (omega (arith, grows 0 (suc a) (zero-lt-suc a))) ∙ sym (lt-ltb 0 (suc a + b) (omega arith))
  below_grows z true a true b = ltb_grows b a

-- p and q are the fractions a / d and b / c, counted in units of 1 / u
pub below_fractions : (u d c : ℕ) → 0 < u → 0 < d → 0 < c → (s : Bool) (a p : ℕ) (t : Bool) (b q : ℕ) → a * u ≡ p * d → b * u ≡ q * c → below s (a * c) t (b * d) ≡ below s p t q
below_fractions u d c U D C s a p t b q h k =
    sym (scaled u U (a * c) (b * d))
    ∙ ap₂ (λ i j. below s i t j) (mul_right_comm a c u ∙ ap (λ i. i * c) h ∙ mul_assoc p d c) (mul_right_comm b d u ∙ ap (λ i. i * d) k ∙ mul_right_comm q c d ∙ mul_assoc q d c)
    ∙ scaled (d * c) (mul-pos D C) p q
  where
    scaled : (k : ℕ) → 0 < k → (i j : ℕ) → below s (i * k) t (j * k) ≡ below s i t j
    scaled k l i j = below_grows (λ i. i * k) (λ i j h. mul-lt-mul_of_pos_right h l) (zero-mul k) s i t j

-- ---- an infinity's magnitude c is above every other

pub below_far_far : (c : ℕ) → 0 < c → (s t : Bool) → (s && not t) ≡ below s c t c
below_far_far c h false false = sym (le-ltb c c (omega arith))
below_far_far c h false true = refl
below_far_far c h true false = sym (lt-ltb 0 (c + c) (omega arith))
below_far_far c h true true = sym (le-ltb c c (omega arith))

pub below_far_near : (c b : ℕ) → b < c → (s t : Bool) → s ≡ below s c t b
below_far_near c b h false false = sym (le-ltb c b (omega arith))
below_far_near c b h false true = refl
below_far_near c b h true false = sym (lt-ltb 0 (c + b) (omega arith))
below_far_near c b h true true = sym (lt-ltb b c h)

pub below_near_far : (c a : ℕ) → a < c → (s t : Bool) → not t ≡ below s a t c
below_near_far c a h false false = sym (lt-ltb a c h)
below_near_far c a h false true = refl
below_near_far c a h true false = sym (lt-ltb 0 (a + c) (omega arith))
below_near_far c a h true true = sym (le-ltb c a (omega arith))

-- ---- ±a with c added

abbrev pub moved : ℕ → Bool → ℕ → ℕ
moved c s a = cond s (c - a) (c + a)

pub below_moved : (c : ℕ) (s : Bool) (a : ℕ) (t : Bool) (b : ℕ) → a ≤ c → b ≤ c → below s a t b ≡ ltb (moved c s a) (moved c t b)
below_moved c false a false b h k = same (ltb a b) (ltb (c + a) (c + b)) (omega (arith, tests)) (omega (arith, tests))
below_moved c false a true b h k = sym (le-ltb (c + a) (c - b) (omega arith))
below_moved c true a false b h k = same (ltb 0 (a + b)) (ltb (c - a) (c + b)) (omega (arith, tests)) (omega (arith, tests))
below_moved c true a true b h k = same (ltb b a) (ltb (c - a) (c - b)) (omega (arith, tests)) (omega (arith, tests))

-- +a and -b are equal only at zero
pub meet : (c : ℕ) (s : Bool) (a : ℕ) (t : Bool) (b : ℕ) → b ≤ c → T (not s) → T t → moved c s a ≡ moved c t b → (moved c s a ≡ c) × (moved c t b ≡ c)
meet c false a true b h _ _ e = (omega arith, omega arith)
meet c true a t b h n _ e = absurd n
meet c false a false b h _ n e = absurd n

-- ---- equal is neither below nor above

zeros : (a b : ℕ) → (eqb a b && eqb a 0) ≡ not (ltb 0 (a + b))
zeros zero zero = refl
zeros zero (suc b) = rw (eqb-zero-suc b, lt-ltb 0 (0 + suc b) (omega arith))
zeros (suc a) b = rw (eqb-suc-zero a, lt-ltb 0 (suc a + b) (omega arith)) (and-false (eqb (suc a) b))

pub level_below : (s : Bool) (a : ℕ) (t : Bool) (b : ℕ) → level s a t b ≡ (not (below s a t b) && not (below t b s a))
level_below false a false b = by_order (λ l m e _ _. (e && true) ≡ (not l && not m)) refl refl refl a b
level_below false a true b = rw (add_comm b a) (zeros a b)
level_below true a false b = zeros a b ∙ sym (and-true (not (ltb 0 (a + b))))
level_below true a true b = by_order (λ l m e _ _. (e && true) ≡ (not m && not l)) refl refl refl a b

-- ---- IEEE 754's total order of ±a and ±b

-- by a key: +a goes above c, -a below it
abbrev pub keyed : ℕ → Bool → ℕ → ℕ
keyed c s a = cond s (c - 1 - a) (c + a)

pub total_key : (c : ℕ) (s : Bool) (a : ℕ) (t : Bool) (b : ℕ) → a < c → b < c → leb (keyed c s a) (keyed c t b) ≡ cond (below s a t b) true (cond (below t b s a) false (s || not t))
total_key c false a false b h k =
    same (leb (c + a) (c + b)) (leb a b) (omega (arith, tests)) (omega (arith, tests)) ∙ by_order (λ l m _ le _. le ≡ cond l true (cond m false true)) refl refl refl a b
total_key c false a true b h k =
    lt-leb (c + a) (c - 1 - b) (omega arith) ∙ by_order (λ l _ _ _ _. false ≡ cond l false false) refl refl refl 0 (b + a)
total_key c true a false b h k =
    le-leb (c - 1 - a) (c + b) (omega arith) ∙ by_order (λ l _ _ _ _. true ≡ cond l true true) refl refl refl 0 (a + b)
total_key c true a true b h k =
    same (leb (c - 1 - a) (c - 1 - b)) (leb b a) (omega (arith, tests)) (omega (arith, tests)) ∙ by_order (λ l m _ _ ge. ge ≡ cond m true (cond l false true)) refl refl refl a b

-- by two numbers p and q: it is their order, unless they are equal with the signs plus and minus
pub total_le : (s t : Bool) (p q : ℕ) → (T (not s) → T t → p ≡ q → ⊥) → cond (ltb p q) true (cond (ltb q p) false (s || not t)) ≡ leb p q
total_le true t p q h = by_order (λ l m _ le _. cond l true (cond m false true) ≡ le) refl refl refl p q
total_le false false p q h = by_order (λ l m _ le _. cond l true (cond m false true) ≡ le) refl refl refl p q
total_le false true p q h =
    by_order (λ l m e le _. T (not e) → cond l true (cond m false false) ≡ le) (λ _. refl) (λ _. refl) absurd p q (not_T (eqb p q) (λ t. h tt tt (eqb→eq p q t)))
