-- Of two keys or more the first two, the one behind them and the rest tell whether they stand in pairs (`in_pairs_two`).
use denote.Ref.{Bor}
use Rattle.std.proofs.Common.{◌≡◌, ℕ, ◌-◌, ◌≤◌, Bool, not, ◌&&◌, eqb, nat_eq, List, [], ◌∷◌, length, get_or, take, drop, take_all, slice_get, Option, Some, None, arith}
use Rattle.std.specs.Option.{option_eq, option_copied}
use Rattle.edges.specs.steps.Pairs.{starts_with, in_pairs}

-- the keys behind the first two
abbrev pub behind : List ℕ → List ℕ
behind keys = take (length keys - 2) (drop 2 keys)

pub in_pairs_two : (keys : List ℕ) → 2 ≤ length keys
    → in_pairs keys ≡ (eqb (get_or keys 1 0) (get_or keys 0 0) && not (starts_with (get_or keys 0 0) (behind keys)) && in_pairs (behind keys))
unfolding in_pairs
in_pairs_two [] h = absurd (omega arith)
in_pairs_two (key ∷ []) h = absurd (omega arith)
in_pairs_two (key ∷ second ∷ rest) h =
    let same : behind (key ∷ second ∷ rest) ≡ rest = take_all _ rest (omega arith) in
    rw same

-- comparing what `first` gives with a key tells whether the list begins with the key
pub first_is : (first : Option (Bor ℕ)) (key : Bor ℕ) (keys : List ℕ) (answer : Bool) → option_copied first ≡ slice_get keys 0
    → answer ≡ option_eq (λ x y. nat_eq x.now y.now) first (Some key) → answer ≡ starts_with key.now keys
unfolding starts_with
first_is None key [] answer e f = f
first_is None key (x ∷ keys) answer e f = cc
first_is (Some first) key [] answer e f = cc
first_is (Some first) key (x ∷ keys) answer e f = cc
