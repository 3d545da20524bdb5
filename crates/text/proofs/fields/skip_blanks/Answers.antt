-- `skip_blanks` meets its contract: the method finds the first byte that is no blank.
use Rattle.std.proofs.Common.{rules, not, eqb}
use Rattle.std.proofs.lemmas.Iterator.{YieldsList-from_slice}
use Rattle.std.proofs.lemmas.Iterator.Search.{position_from_yields_List}
use Rattle.text.specs.laws.FieldLaws.{blanks_skipped}
use Rattle.text.proofs.fields.skip_blanks.Goals as goal

pub returns : goal.returns
returns c =
    let field = c.args.field.now in
    let found = position_from_yields_List (λ b. not (eqb b 32)) _ _ c.position.result c.position.ensures.ran (YieldsList-from_slice field c.iter.ensures.rest) (λ x b q k. search rules) in
    rw (c.unwrap_or.ensures, found) (blanks_skipped field)
