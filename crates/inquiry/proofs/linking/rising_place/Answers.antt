use Rattle.std.proofs.Common.{◌≡◌, ◌+◌, true, false, get_or, drop, sym, ap, ◌∙◌, arith, rules}
use borrow.Author.Tests.{tests}
use Rattle.model.specs.Links.{place_after}
use Rattle.model.specs.Program.{no_edge, rises}
use Rattle.recipe.specs.Recipes.{program}
use Rattle.inquiry.proofs.Placing.{place_behind, place_here, place_past, place_over}
use Rattle.inquiry.proofs.linking.rising_place.Goals as goal
use Rattle.inquiry.proofs.linking.rising_place.Goals.{then-counts+else-lt, else-counts}

pub returns-then-lt-clause-place : goal.returns-then-lt-clause-place
returns-then-lt-clause-place c =
    let d = get_or c.args.edges.now c.loop-place.place no_edge in
    let over : rises c.args.edge d ≡ true = search (rules, tests) in
    place_here (program c.args.recipe.now) c.args.edges.now c.args.edge c.loop-place.place c.loop-place.last c.loop-place.invariant c.loop-place-test.true (sym c.if-counts.ensures) over

pub loop-place-preserved : goal.loop-place-preserved
loop-place-preserved c =
    let p = program c.args.recipe.now in
    let es = c.args.edges.now in
    let e = c.args.edge in
    let i = c.loop-place.place in
    let d = get_or es i no_edge in
    elim c.if-counts.branch [
      | then-counts+else-lt w ↦
          let under : rises e d ≡ false = search (rules, tests) in
          ap (λ l. i + 1 + place_after p l (drop (i + 1) es) e) w.last-is ∙ place_past p es e i c.loop-place.last c.loop-place.invariant c.loop-place-test.true (sym w.if-counts.ensures) under
      | else-counts w ↦ ap (λ l. i + 1 + place_after p l (drop (i + 1) es) e) w.last-is ∙ place_over p es e i c.loop-place.last c.loop-place.invariant c.loop-place-test.true (sym w.if-counts.ensures)
    ]

pub returns-clause-place : goal.returns-clause-place
returns-clause-place c = place_behind (program c.args.recipe.now) c.args.edges.now c.args.edge c.loop-place.place c.loop-place.last c.loop-place.invariant (omega arith)
