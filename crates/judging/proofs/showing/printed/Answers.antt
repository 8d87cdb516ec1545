use Rattle.std.proofs.Common.{◌≡◌, sym, subst}
use Rattle.std.proofs.lemmas.Result.{IfOk-weaker}
use Rattle.std.specs.String.{string_bytes}
use Rattle.judging.specs.Printed.{verdicts_text, TextTells}
use Rattle.judging.proofs.showing.printed.Goals as goal

pub returns-clause-tells : goal.returns-clause-tells
returns-clause-tells c =
    IfOk-weaker c.to_string.result (λ text. string_bytes text ≡ verdicts_text c.verdicts-verdicts.result) (λ text. TextTells c.args.file.now (string_bytes text))
    (λ text same. subst (TextTells c.args.file.now) (sym same) c.verdicts-verdicts.ensures.tells) c.to_string.ensures.ok
