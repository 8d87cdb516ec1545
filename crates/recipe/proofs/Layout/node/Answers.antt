use Rattle.std.proofs.Common.{◌+◌, ◌*◌, ap, ◌∙◌}
use Rattle.recipe.specs.Bytes.{record_at}
use Rattle.recipe.proofs.Pieces.{record_part}
use Rattle.recipe.proofs.Places.{nodes_place}
use Rattle.recipe.proofs.Layout.node.Goals as goal

pub returns : goal.returns
returns c =
    let l = c.args.self.now in
    c.node_of.ensures ∙ record_part l.file.now (c.from.result + 8 * c.args.n)
    ∙ ap (λ at. record_at l.file.now (at + 8 * c.args.n)) (c.from.ensures ∙ nodes_place l)
