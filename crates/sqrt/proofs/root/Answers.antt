-- `sqrt::root` meets its contract. Above zero the pattern says whether the value is infinite; otherwise the root is that of the value taken apart (`root_scaled`); the other cases are those of the definition.
use mathlib.Core.Path.{◌≡◌, sym, ◌∙◌}
use mathlib.Core.Bool.{true}
use lib.Dec.{T}
use lib.Ieee.{binary64, of_bits, fits, lt, div}
use denote.Floats.{passes}
use Rattle.float.specs.Rules.{zero64}
use Rattle.sqrt.proofs.RootTheorem.Cases.{root_at_zero, root_none}
use Rattle.sqrt.proofs.RootBits.{number, root_infinite, root_scaled, bits_positive}
use Rattle.sqrt.proofs.root.Goals as goal

held : (c : goal.Then-x) → T (fits binary64 c.args.x)
held c = passes (fits binary64 c.args.x) c.well_formed.0.1

-- the code's 0.0 is the definitions' zero
above : (c : goal.Then-x) → lt zero64 c.args.x ≡ true
unfolding of_bits
above c = c.if-x.true

pub float_to_bits-bits : goal.float_to_bits-bits
float_to_bits-bits c = number _ (held c) (above c)

pub returns-then-bits-ge9218868437227405312 : goal.returns-then-bits-ge9218868437227405312
returns-then-bits-ge9218868437227405312 c = root_infinite _ (held c.before) (above c.before) c.if-bits-ge9218868437227405312.true

pub taken_apart-requires : goal.taken_apart-requires
taken_apart-requires c = (bits_positive _ (held c.before) (above c.before), c.if-bits-ge9218868437227405312.false)

pub returns-then-x : goal.returns-then-x
returns-then-x c =
    let s = c.taken_apart.ensures in
    c.root.ensures ∙ root_scaled _ (held c.before.before.before) (above c.before.before.before) _ _ c.if-bits-ge9218868437227405312.false s.low s.value

pub returns-then-x-2 : goal.returns-then-x-2
unfolding of_bits
returns-then-x-2 c = sym (root_at_zero c.args.x c.if-x-2.true)

pub returns : goal.returns
unfolding of_bits div
returns c = sym (root_none c.args.x c.if-x.false c.if-x-2.false)
