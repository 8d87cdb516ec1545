use Rattle.std.proofs.Common.{◌≡◌, ◌+◌, drop, None}
use Rattle.model.specs.Links.{place_after}
use Rattle.recipe.specs.Recipes.{program}
use Rattle.inquiry.proofs.linking.rising_place.Given as goal

-- the rising place among the edges that are left, after those that were looked at, is that among all
abbrev pub invariant-loop-place : goal.invariant-loop-place
invariant-loop-place l = l.place + place_after (program l.recipe) l.last (drop l.place l.edges) l.edge ≡ place_after (program l.recipe) None l.edges l.edge
