use Rattle.std.proofs.Common.{sym, ap, ◌∙◌, unwrap_or}
use Rattle.model.specs.declared.Method.{Method}
use Rattle.model.specs.Program.{no_method}
use Rattle.std.proofs.Common.{Option}
use Rattle.inspect.proofs.Own.{rights_own, no_rights}
use Rattle.inspect.proofs.asked.own_rights.Goals as goal

pub returns-in_default : goal.returns-in_default
returns-in_default c = no_rights c.args.recipe.now c.args.n c.method_of.result c.method_of.ensures c.in_default.not-Some

pub returns-in-Some-method : goal.returns-in-Some-method
returns-in-Some-method c =
    sym (ap (λ (o : Option Method). (unwrap_or o no_method).rights) c.in-Some-method.is)
    ∙ rights_own c.args.recipe.now c.args.n c.in-Some.k c.method.result (sym c.method_of.ensures ∙ c.in-Some.is) c.method.ensures

pub returns-in-None : goal.returns-in-None
returns-in-None c =
    sym (ap (λ (o : Option Method). (unwrap_or o no_method).rights) c.in-None.is)
    ∙ rights_own c.args.recipe.now c.args.n c.in-Some.k c.method.result (sym c.method_of.ensures ∙ c.in-Some.is) c.method.ensures
