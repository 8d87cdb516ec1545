use Rattle.std.proofs.Common.{rules}
use Rattle.following.proofs.Parsing.{parsed}
use Rattle.following.proofs.numbers.number.Goals as goal

pub returns : goal.returns
returns c = let h = parsed c.args.word.now c.parse.result c.parse.ensures.value.0 in search rules
