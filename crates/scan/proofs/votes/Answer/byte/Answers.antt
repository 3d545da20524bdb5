-- Written out, so that a wrong `votes::Answer::byte` is refused at once.
use Rattle.std.proofs.Common.{◌≡◌, refl}
use denote.Enum.Declared.{tag_of}
use Rattle.scan.specs.contracts.votes.Answer.{the_type}
use Rattle.scan.specs.declared.votes.Answer.{Answer}
use Rattle.scan.specs.declared.votes.Answer.TheVariants.{Outside, Inside, Undecided}
use Rattle.scan.specs.Answers.{byte}
use Rattle.scan.proofs.votes.Answer.byte.Goals as goal

tags : (a : Answer) → tag_of the_type a ≡ byte a
tags Outside = refl
tags Inside = refl
tags Undecided = refl

pub returns : goal.returns
returns c = tags c.args.self
