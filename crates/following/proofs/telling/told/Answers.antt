use Rattle.std.proofs.Common.{map, sym, subst}
use Rattle.std.proofs.lemmas.Result.{IfOk-weaker}
use Rattle.std.specs.String.{string_bytes}
use Rattle.following.specs.Right.{Right}
use Rattle.following.proofs.Endings.{right}
use Rattle.following.proofs.telling.told.Goals as goal

pub returns-clause-right : goal.returns-clause-right
returns-clause-right c =
    let bs = c.args.file.now in
    let words = map string_bytes c.args.words.now in
    IfOk-weaker c.said.result _ _ (λ text e. subst (Right bs words) (sym e) (right bs words)) c.said.ensures
