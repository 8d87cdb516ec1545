use Rattle.std.proofs.Common.{ap, ◌∙◌}
use Rattle.std.proofs.lemmas.List.{take_all}
use Rattle.model.specs.Program.{counted}
use Rattle.model.specs.Tables.{targets}
use Rattle.recipe.specs.Recipes.{program}
use Rattle.inquiry.proofs.scene.Scene.targets.Goals as goal

-- no edge in use lies past the places that are read
pub returns-in_default : goal.returns-in_default
returns-in_default g c =
    let s = c.args.self.now in
    ap (λ es. targets es c.args.node) (c.counted.ensures ∙ ap (counted (program s.on.now.recipe.now)) (take_all 4096 s.edges.now s.few))
