-- `all_digits` meets its contract: the method tests each byte.
use Rattle.std.proofs.Common.{rules, ◌∙◌, ◌&&◌, leb}
use Rattle.std.proofs.lemmas.Iterator.{YieldsList-from_slice}
use Rattle.std.proofs.lemmas.Iterator.Search.{all_from_yields_List}
use Rattle.text.specs.laws.FieldLaws.{digits_all}
use Rattle.text.proofs.fields.all_digits.Goals as goal

pub returns : goal.returns
returns c =
    all_from_yields_List (λ b. leb 48 b && leb b 57) _ _ _ c.all.ensures.ran (YieldsList-from_slice c.args.bytes.now c.iter.ensures.rest) (λ x b q k. search rules) ∙ digits_all c.args.bytes.now
